use Rattle.std.proofs.Common.{◌≤◌, ap, refl, codes, length, arith, rules}
use Rattle.emit_bodies.specs.Statements.{statement_text, statements_text}
use Rattle.emit_bodies.specs.inner.Depths.{levels}
use Rattle.emit_bodies.specs.inner.Printing.{block_text, else_text}
use Rattle.emit_expressions.specs.Scopes.{seen}
use Rattle.base_io.proofs.Rows.{row_stopped}
use Rattle.emit_bodies.proofs.Depths.{levels-Below}
use Rattle.emit_bodies.proofs.StatementTexts.{text-Set, text-If, text-Return, else_text-some}
use Rattle.base_io.proofs.Writing.{wrote_both, wrote_fails, wrote_longer, wrote_same}
use Rattle.emit_bodies.proofs.statements.+write_statement.Goals as goal

pub write_block-returns-in_err-write_indent : goal.write_block-returns-in_err-write_indent
write_block-returns-in_err-write_indent g t c =
    let inner = wrote_same _ (ap (λ n. statements_text (seen c.args.scope.now) n c.args.statements.now) (levels-Below _)) c.in_ok-write_statements.ensures in
    wrote_fails _ c.from_residual-in_err-write_indent.ensures.0 (wrote_longer (codes "}") (wrote_both inner c.in_err-write_indent.ensures))

pub write_block-returns : goal.write_block-returns
write_block-returns g t c =
    let inner = wrote_same _ (ap (λ n. statements_text (seen c.args.scope.now) n c.args.statements.now) (levels-Below _)) c.in_ok-write_statements.ensures in
    wrote_both (wrote_both inner c.in_ok-write_indent.ensures) c.write_piece.ensures

pub write_else-returns-in_err-write_piece : goal.write_else-returns-in_err-write_piece
write_else-returns-in_err-write_piece g t c =
    let some : 1 ≤ length c.args.statements.now = search (arith, c.is_empty.ensures, c.if-is_empty.false) in
    wrote_same _ (else_text-some (seen c.args.scope.now) _ _ some) (wrote_fails _ c.from_residual.ensures.0 (wrote_longer _ c.in_err-write_piece.ensures))

pub write_else-returns : goal.write_else-returns
write_else-returns g t c =
    let some : 1 ≤ length c.args.statements.now = search (arith, c.is_empty.ensures, c.if-is_empty.false) in
    wrote_same _ (else_text-some (seen c.args.scope.now) _ _ some) (wrote_both c.in_ok-write_piece.ensures c.write_block.ensures)

pub write_statement-returns-in-Set : goal.write_statement-returns-in-Set
write_statement-returns-in-Set g t c = wrote_same _ (text-Set (seen c.args.scope.now) _ _ _ _ _ c.in-Set.is) c.write_assignment.ensures

pub write_statement-returns-in-Return : goal.write_statement-returns-in-Return
write_statement-returns-in-Return g t c = wrote_same _ (text-Return (seen c.args.scope.now) _ _ _ _ c.in-Return.is) (search rules)

pub write_statement-returns-in_err-write_test-in-If : goal.write_statement-returns-in_err-write_test-in-If
write_statement-returns-in_err-write_test-in-If g t c =
    let begun = wrote_longer (codes "\n") (wrote_longer (else_text (seen c.args.scope.now) (levels c.args.depth.now) c.in-If.other) (wrote_longer (block_text (seen c.args.scope.now) (levels c.args.depth.now) c.in-If.«then») c.in_err-write_test-in-If.ensures)) in
    wrote_same _ (text-If (seen c.args.scope.now) _ _ _ _ _ _ _ _ c.in-If.is refl refl) (wrote_fails _ c.from_residual.ensures.0 begun)

pub write_statement-returns-in_err-write_block-in-If : goal.write_statement-returns-in_err-write_block-in-If
write_statement-returns-in_err-write_block-in-If g t c =
    let begun = wrote_longer (codes "\n") (wrote_longer (else_text (seen c.args.scope.now) (levels c.args.depth.now) c.in-If.other) (wrote_both c.in_ok-write_test-in-If.ensures c.in_err-write_block-in-If.ensures)) in
    wrote_same _ (text-If (seen c.args.scope.now) _ _ _ _ _ _ _ _ c.in-If.is c.items.ensures refl) (wrote_fails _ c.from_residual-in_err-write_block-in-If.ensures.0 begun)

pub write_statement-returns-in_err-write_else-in-If : goal.write_statement-returns-in_err-write_else-in-If
write_statement-returns-in_err-write_else-in-If g t c =
    let begun = wrote_longer (codes "\n") (wrote_both (wrote_both c.in_ok-write_test-in-If.ensures c.in_ok-write_block-in-If.ensures) c.in_err-write_else-in-If.ensures) in
    wrote_same _ (text-If (seen c.args.scope.now) _ _ _ _ _ _ _ _ c.in-If.is c.items.ensures c.items-in-If.ensures) (wrote_fails _ c.from_residual-in_err-write_else-in-If.ensures.0 begun)

pub write_statement-returns-in_ok-write_else-in-If : goal.write_statement-returns-in_ok-write_else-in-If
write_statement-returns-in_ok-write_else-in-If g t c =
    let all = wrote_both (wrote_both (wrote_both c.in_ok-write_test-in-If.ensures c.in_ok-write_block-in-If.ensures) c.in_ok-write_else-in-If.ensures) c.write_piece.ensures in
    wrote_same _ (text-If (seen c.args.scope.now) _ _ _ _ _ _ _ _ c.in-If.is c.items.ensures c.items-in-If.ensures) all

pub write_statements-returns-in_err-write_statement : goal.write_statements-returns-in_err-write_statement
write_statements-returns-in_err-write_statement g t c =
    row_stopped (λ statement. statement_text (seen c.args.scope.now) statement (levels c.args.depth.now)) c.args.statements.now c.loop-statement.statement-index c.statement-item.result _ _ c.loop-statement-test.true c.statement-item.is refl c.from_residual.ensures.0 c.loop-statement.invariant c.in_err-write_statement.ensures
