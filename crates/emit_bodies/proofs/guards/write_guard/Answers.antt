use Rattle.std.proofs.Common.{codes, false}
use Rattle.emit_expressions.specs.Expressions.{plain_text}
use Rattle.base_io.proofs.Writing.{wrote_both, wrote_fails, wrote_longer, wrote_same, wrote_until}
use Rattle.emit_bodies.proofs.GuardTexts.{guard_says}
use Rattle.emit_bodies.proofs.guards.write_guard.Goals as goal

pub returns-in_err-write_head : goal.returns-in_err-write_head
returns-in_err-write_head g c =
    wrote_same _ (guard_says c.args.tree.now c.args.method.now c.args.number c.args.reads c.args.guard.now _ c.guard_reach-reach.ensures)
    (wrote_fails _ c.from_residual.ensures.0 (wrote_longer (codes "\n    }\n") (wrote_longer (plain_text (record { tree = c.args.tree.now; method = c.args.method.now; receiver = codes "self"; reach = c.guard_reach-reach.result; whole = false }) c.args.guard.now) c.in_err-write_head.ensures)))

pub returns-in_err-write_plain : goal.returns-in_err-write_plain
returns-in_err-write_plain g c =
    wrote_until (codes "\n    }\n") _ _ (guard_says c.args.tree.now c.args.method.now c.args.number c.args.reads c.args.guard.now _ c.guard_reach-reach.ensures)
    c.from_residual-in_err-write_plain.ensures.0 c.in_ok-write_head.ensures c.in_err-write_plain.ensures

pub returns : goal.returns
returns g c =
    wrote_same _ (guard_says c.args.tree.now c.args.method.now c.args.number c.args.reads c.args.guard.now _ c.guard_reach-reach.ensures)
    (wrote_both (wrote_both c.in_ok-write_head.ensures c.in_ok-write_plain.ensures) c.write_piece.ensures)
