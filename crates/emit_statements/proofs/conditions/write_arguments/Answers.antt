use Rattle.std.proofs.Common.{refl}
use Rattle.base_io.proofs.Writing.{wrote_both, wrote_fails, wrote_longer, wrote_same}
use Rattle.emit_statements.proofs.Arguments.{arguments_say}
use Rattle.emit_comments.proofs.Numbered.{numbered}
use Rattle.emit_statements.specs.Conditions.{handed_local}
use Rattle.std.specs.List.{enumerate_from, flat_map}
use Rattle.emit_statements.proofs.conditions.write_arguments.Goals as goal

pub returns-in_err-write_handed_parameters : goal.returns-in_err-write_handed_parameters
returns-in_err-write_handed_parameters g c =
    wrote_same _ (arguments_say c.args.method.now c.args.reach _ c.args.method.now.locals c.items.ensures refl)
    (wrote_fails _ c.from_residual.ensures.0 (wrote_longer (flat_map (numbered (handed_local c.args.method.now c.args.reach)) (enumerate_from 0 c.args.method.now.locals)) c.in_err-write_handed_parameters.ensures))

pub returns : goal.returns
returns g c =
    wrote_same _ (arguments_say c.args.method.now c.args.reach _ _ c.items.ensures c.items-2.ensures)
    (wrote_both c.in_ok-write_handed_parameters.ensures c.write_handed_locals.ensures)
