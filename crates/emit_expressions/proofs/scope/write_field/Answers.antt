use Rattle.base_io.proofs.Writing.{wrote_both}
use Rattle.emit_expressions.proofs.scope.write_field.Goals as goal

pub returns : goal.returns
returns g c = wrote_both c.in_ok-write_pieces.ensures c.write_member.ensures
