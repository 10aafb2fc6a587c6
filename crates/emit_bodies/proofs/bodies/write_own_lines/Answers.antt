use Rattle.std.specs.Option.{option_map_or}
use Rattle.emit_expressions.specs.Scopes.{seen}
use Rattle.emit_bodies.specs.Bodies.{done_text, end_text, last_of}
use Rattle.base_io.proofs.Writing.{wrote_both, wrote_fails, wrote_longer}
use Rattle.emit_bodies.proofs.bodies.write_own_lines.Goals as goal

pub returns-in_err-write_inner_statements : goal.returns-in_err-write_inner_statements
returns-in_err-write_inner_statements g c =
    wrote_fails _ c.from_residual.ensures.0 (wrote_longer (option_map_or (end_text (seen c.args.scope.now) c.args.fails) (last_of c.args.body.now) (done_text c.args.fails)) c.in_err-write_inner_statements.ensures)

pub returns : goal.returns
returns g c =
    wrote_both c.in_ok-write_inner_statements.ensures c.write_end.ensures
