use Rattle.std.proofs.Common.{ap, refl}
use Rattle.emit_expressions.specs.Scopes.{seen}
use Rattle.emit_bodies.specs.Statements.{statements_text}
use Rattle.emit_bodies.proofs.Depths.{levels-second}
use Rattle.base_io.proofs.Writing.{wrote_same}
use Rattle.emit_bodies.proofs.bodies.write_inner_statements.Goals as goal

pub returns : goal.returns
returns g c =
    wrote_same _ (ap (λ depth. statements_text (seen c.args.scope.now) depth c.args.body.now) (levels-second _ _ refl refl)) c.write_statements.ensures
