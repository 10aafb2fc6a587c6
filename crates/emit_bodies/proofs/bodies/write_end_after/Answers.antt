use Rattle.std.proofs.Common.{◌∙◌}
use Rattle.emit_expressions.specs.Scopes.{seen}
use Rattle.emit_bodies.proofs.BodyTexts.{end-none, end-Return}
use Rattle.base_io.proofs.Writing.{wrote_same}
use Rattle.emit_bodies.proofs.bodies.write_end_after.Goals as goal

pub returns-in-Set : goal.returns-in-Set
returns-in-Set g c =
    wrote_same _ (c.done_bytes.ensures ∙ end-none (seen c.args.scope.now) c.args.fails _ c.in-Set.is) c.write_piece.ensures

pub returns-in-Return : goal.returns-in-Return
returns-in-Return g c =
    wrote_same _ (end-Return (seen c.args.scope.now) c.args.fails _ _ _ c.in-Return.is) c.write_answer_line.ensures
