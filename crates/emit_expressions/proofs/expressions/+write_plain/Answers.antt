use Rattle.std.proofs.Common.{◌++◌, ◌∙◌, codes, ap, refl}
use Rattle.lang_printer.specs.Canonical.{op_text}
use Rattle.emit_expressions.specs.Expressions.{plain_text, written}
use Rattle.emit_expressions.specs.inner.Parts.{part_at, plain_part}
use Rattle.emit_expressions.specs.Expressions.{closed, joined_by}
use Rattle.emit_expressions.proofs.Numbered.{numbered_done, numbered_stopped, numbered_went}
use Rattle.base_io.proofs.Writing.{wrote_both, wrote_fails, wrote_longer, wrote_same}
use Rattle.emit_expressions.proofs.Written.{after_first, joined_parts-cut, part-begins, part-follows, rest_text, plain_part-open, plain_part-closed, comparison_plain, comparison_wide, plain-Named, plain-Minus, plain-Compare, plain-Both, plain-Either}
use Rattle.emit_expressions.specs.Scopes.{seen}
use Rattle.emit_expressions.proofs.expressions.+write_plain.Goals as goal

pub write_plain_at-returns-in_err-write_plain : goal.write_plain_at-returns-in_err-write_plain
write_plain_at-returns-in_err-write_plain g t c =
    wrote_same _ (plain_part-open (seen c.args.scope.now) c.args.asked c.level.result c.args.part.now (c.level.ensures (seen c.args.scope.now)) c.if-asked-level.false)
    (wrote_fails _ c.from_residual-in_err-write_plain.ensures.0 (wrote_both c.in_ok-write_piece.ensures (wrote_longer (codes ")") c.in_err-write_plain.ensures)))

pub write_plain_at-returns : goal.write_plain_at-returns
write_plain_at-returns g t c =
    wrote_same _ (plain_part-open (seen c.args.scope.now) c.args.asked c.level.result c.args.part.now (c.level.ensures (seen c.args.scope.now)) c.if-asked-level.false)
    (wrote_both c.in_ok-write_piece.ensures (wrote_both c.in_ok-write_plain.ensures c.write_piece-2.ensures))

pub write_plain_after-returns : goal.write_plain_after-returns
write_plain_after-returns g t c = wrote_both c.in_ok-write_piece.ensures c.write_plain_at.ensures

pub write_plain_part-returns-then-not-begins : goal.write_plain_part-returns-then-not-begins
write_plain_part-returns-then-not-begins g t c =
    wrote_same _ (part-follows c.args.begins c.args.sign.now (plain_part (seen c.args.scope.now) c.args.asked c.args.part.now) c.if-not-begins.true) c.write_plain_after.ensures

pub write_plain_part-returns : goal.write_plain_part-returns
write_plain_part-returns g t c =
    wrote_same _ (part-begins c.args.begins c.args.sign.now (plain_part (seen c.args.scope.now) c.args.asked c.args.part.now) c.if-not-begins.false) (wrote_both c.in_ok-write_pieces.ensures c.write_plain_at.ensures)

pub write_plain_part-returns-in_err-write_pieces : goal.write_plain_part-returns-in_err-write_pieces
write_plain_part-returns-in_err-write_pieces g t c =
    let text = plain_part (seen c.args.scope.now) c.args.asked c.args.part.now in
    wrote_same _ (part-begins c.args.begins c.args.sign.now text c.if-not-begins.false) (wrote_fails _ c.from_residual.ensures.0 (wrote_longer text c.in_err-write_pieces.ensures))

pub write_joined-returns : goal.write_joined-returns
write_joined-returns g t c =
    let scope = seen c.args.scope.now in
    let rest = after_first c.args.parts.now in
    let done = numbered_done (part_at scope c.args.sign.now c.args.asked c.is_pieced-pieced.result) rest c.loop-place.place c.loop-place-test.false in
    wrote_same _ (ap (λ l. c.opened_bytes.result.now ++ plain_part scope c.args.asked c.first-item.result ++ l ++ c.closed_bytes.result.now) done ∙ joined_parts-cut scope c.args.sign.now c.args.asked c.args.parts.now c.first-item.result c.is_pieced-pieced.result _ _ c.in-len1-up.len_at_least c.first-item.is c.is_pieced-pieced.ensures c.opened_bytes.ensures c.closed_bytes.ensures)
    (wrote_both (wrote_both (wrote_both c.in_ok-write_piece.ensures c.in_ok-write_plain_at.ensures) c.loop-place.invariant) c.write_piece-2.ensures)

pub write_joined-returns-in_err-write_plain_part : goal.write_joined-returns-in_err-write_plain_part
write_joined-returns-in_err-write_plain_part g t c =
    let scope = seen c.args.scope.now in
    let rest = after_first c.args.parts.now in
    let pieced = c.is_pieced-pieced.result in
    let stopped = numbered_stopped (part_at scope c.args.sign.now c.args.asked pieced) rest c.loop-place.place c.index-rest-place.result _ _ c.loop-place-test.true c.index-rest-place.is
    (ap (λ b. joined_by b c.args.sign.now (plain_part scope c.args.asked c.index-rest-place.result)) c.begins_at.ensures) refl c.loop-place.invariant c.in_err-write_plain_part.ensures in
    wrote_same _ (joined_parts-cut scope c.args.sign.now c.args.asked c.args.parts.now c.first-item.result pieced _ (closed pieced) c.in-len1-up.len_at_least c.first-item.is c.is_pieced-pieced.ensures c.opened_bytes.ensures refl)
    (wrote_fails _ c.from_residual-in_err-write_plain_part.ensures.0 (wrote_longer (closed pieced) (wrote_both (wrote_both c.in_ok-write_piece.ensures c.in_ok-write_plain_at.ensures) stopped)))

pub write_joined-returns-in_err-write_plain_at : goal.write_joined-returns-in_err-write_plain_at
write_joined-returns-in_err-write_plain_at g t c =
    let scope = seen c.args.scope.now in
    let rest = after_first c.args.parts.now in
    let pieced = c.is_pieced-pieced.result in
    wrote_same _ (joined_parts-cut scope c.args.sign.now c.args.asked c.args.parts.now c.first-item.result pieced _ (closed pieced) c.in-len1-up.len_at_least c.first-item.is c.is_pieced-pieced.ensures c.opened_bytes.ensures refl)
    (wrote_fails _ c.from_residual-in_err-write_plain_at.ensures.0 (wrote_longer (closed pieced) (wrote_longer (rest_text scope c.args.sign.now c.args.asked pieced rest) (wrote_both c.in_ok-write_piece.ensures c.in_err-write_plain_at.ensures))))

pub write_joined-returns-in_err-write_piece : goal.write_joined-returns-in_err-write_piece
write_joined-returns-in_err-write_piece g t c =
    let scope = seen c.args.scope.now in
    let rest = after_first c.args.parts.now in
    let pieced = c.is_pieced-pieced.result in
    wrote_same _ (joined_parts-cut scope c.args.sign.now c.args.asked c.args.parts.now c.first-item.result pieced _ (closed pieced) c.in-len1-up.len_at_least c.first-item.is c.is_pieced-pieced.ensures c.opened_bytes.ensures refl)
    (wrote_fails _ c.from_residual.ensures.0 (wrote_longer (closed pieced) (wrote_longer (rest_text scope c.args.sign.now c.args.asked pieced rest) (wrote_longer (plain_part scope c.args.asked c.first-item.result) c.in_err-write_piece.ensures))))

pub write_joined-loop-place-preserved : goal.write_joined-loop-place-preserved
write_joined-loop-place-preserved g t c =
    let scope = seen c.args.scope.now in
    let rest = after_first c.args.parts.now in
    numbered_went (part_at scope c.args.sign.now c.args.asked c.is_pieced-pieced.result) rest c.loop-place.place c.index-rest-place.result _ c.loop-place-test.true c.index-rest-place.is
    (ap (λ b. joined_by b c.args.sign.now (plain_part scope c.args.asked c.index-rest-place.result)) c.begins_at.ensures) c.loop-place.invariant c.in_ok-write_plain_part.ensures

pub write_plain-returns-in-Named : goal.write_plain-returns-in-Named
write_plain-returns-in-Named g t c = wrote_same _ (plain-Named (seen c.args.scope.now) _ _ _ c.in-Named.is) c.write_plain_name.ensures

pub write_plain-returns-in_ok-write_piece-in-Minus : goal.write_plain-returns-in_ok-write_piece-in-Minus
write_plain-returns-in_ok-write_piece-in-Minus g t c =
    wrote_same _ (plain-Minus (seen c.args.scope.now) _ _ _ _ c.in-Minus.is c.get.ensures) (wrote_both c.in_ok-write_piece-in-Minus.ensures c.write_plain.ensures)

pub write_plain-returns-then-not-are_plain : goal.write_plain-returns-then-not-are_plain
write_plain-returns-then-not-are_plain g t c =
    wrote_same _ (comparison_wide c.in-Compare.op (written (seen c.args.scope.now) c.get-left.result.now) (written (seen c.args.scope.now) c.get-right.result.now) c.are_named-named.result c.are_plain.result _ c.are_named-named.ensures (c.are_plain.ensures (seen c.args.scope.now)) c.if-not-are_plain.true c.number_ending-ending.ensures ∙ plain-Compare (seen c.args.scope.now) _ _ _ _ _ _ c.in-Compare.is c.get-left.ensures c.get-right.ensures)
    c.write_wide_comparison.ensures

pub write_plain-returns-in_err-write_plain-in-Compare : goal.write_plain-returns-in_err-write_plain-in-Compare
write_plain-returns-in_err-write_plain-in-Compare g t c =
    wrote_same _ (comparison_plain c.in-Compare.op (written (seen c.args.scope.now) c.get-left.result.now) (written (seen c.args.scope.now) c.get-right.result.now) c.are_named-named.result c.are_plain.result _ c.are_named-named.ensures (c.are_plain.ensures (seen c.args.scope.now)) c.if-not-are_plain.false refl ∙ plain-Compare (seen c.args.scope.now) _ _ _ _ _ _ c.in-Compare.is c.get-left.ensures c.get-right.ensures)
    (wrote_fails _ c.from_residual-in_err-write_plain-in-Compare.ensures.0 (wrote_longer (op_text c.in-Compare.op ++ plain_text (seen c.args.scope.now) c.get-right.result.now) c.in_err-write_plain-in-Compare.ensures))

pub write_plain-returns-in_err-write_piece-in-Compare : goal.write_plain-returns-in_err-write_piece-in-Compare
write_plain-returns-in_err-write_piece-in-Compare g t c =
    wrote_same _ (comparison_plain c.in-Compare.op (written (seen c.args.scope.now) c.get-left.result.now) (written (seen c.args.scope.now) c.get-right.result.now) c.are_named-named.result c.are_plain.result _ c.are_named-named.ensures (c.are_plain.ensures (seen c.args.scope.now)) c.if-not-are_plain.false c.op_bytes.ensures ∙ plain-Compare (seen c.args.scope.now) _ _ _ _ _ _ c.in-Compare.is c.get-left.ensures c.get-right.ensures)
    (wrote_both c.in_ok-write_plain-in-Compare.ensures (wrote_fails _ c.from_residual-in_err-write_piece-in-Compare.ensures.0 (wrote_longer (plain_text (seen c.args.scope.now) c.get-right.result.now) c.in_err-write_piece-in-Compare.ensures)))

pub write_plain-returns-in_ok-write_piece-in-Compare : goal.write_plain-returns-in_ok-write_piece-in-Compare
write_plain-returns-in_ok-write_piece-in-Compare g t c =
    wrote_same _ (comparison_plain c.in-Compare.op (written (seen c.args.scope.now) c.get-left.result.now) (written (seen c.args.scope.now) c.get-right.result.now) c.are_named-named.result c.are_plain.result _ c.are_named-named.ensures (c.are_plain.ensures (seen c.args.scope.now)) c.if-not-are_plain.false c.op_bytes.ensures ∙ plain-Compare (seen c.args.scope.now) _ _ _ _ _ _ c.in-Compare.is c.get-left.ensures c.get-right.ensures)
    (wrote_both c.in_ok-write_plain-in-Compare.ensures (wrote_both c.in_ok-write_piece-in-Compare.ensures c.write_plain-in-Compare-2.ensures))

pub write_plain-returns-in-Both : goal.write_plain-returns-in-Both
write_plain-returns-in-Both g t c = wrote_same _ (plain-Both (seen c.args.scope.now) _ _ _ c.in-Both.is c.items.ensures) c.write_joined.ensures

pub write_plain-returns-in-Either : goal.write_plain-returns-in-Either
write_plain-returns-in-Either g t c = wrote_same _ (plain-Either (seen c.args.scope.now) _ _ _ c.in-Either.is c.items-in-Either.ensures) c.write_joined-in-Either.ensures

pub write_plain_at-returns-then-asked-level : goal.write_plain_at-returns-then-asked-level
write_plain_at-returns-then-asked-level g t c =
    wrote_same _ (plain_part-closed (seen c.args.scope.now) c.args.asked c.level.result c.args.part.now (c.level.ensures (seen c.args.scope.now)) c.if-asked-level.true) c.write_plain.ensures

pub write_plain_at-returns-in_err-write_piece : goal.write_plain_at-returns-in_err-write_piece
write_plain_at-returns-in_err-write_piece g t c =
    wrote_same _ (plain_part-open (seen c.args.scope.now) c.args.asked c.level.result c.args.part.now (c.level.ensures (seen c.args.scope.now)) c.if-asked-level.false)
    (wrote_fails _ c.from_residual.ensures.0 (wrote_longer (codes ")") (wrote_longer (plain_text (seen c.args.scope.now) c.args.part.now) c.in_err-write_piece.ensures)))
