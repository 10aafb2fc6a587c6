use Rattle.emit_expressions.specs.Scopes.{seen}
use Rattle.emit_bodies.proofs.BodyTexts.{kept-none, kept-Return}
use Rattle.base_io.proofs.Writing.{wrote_same}
use Rattle.emit_bodies.proofs.bodies.write_kept_end_after.Goals as goal

pub returns-in-Set : goal.returns-in-Set
returns-in-Set g c =
    wrote_same _ (kept-none (seen c.args.next.now) (seen c.args.kept.now) _ c.in-Set.is) c.write_piece.ensures

pub returns-in-Return : goal.returns-in-Return
returns-in-Return g c =
    wrote_same _ (kept-Return (seen c.args.next.now) (seen c.args.kept.now) _ _ _ c.narrows.result c.in-Return.is (c.narrows.ensures (seen c.args.next.now))) c.write_kept_answer.ensures
