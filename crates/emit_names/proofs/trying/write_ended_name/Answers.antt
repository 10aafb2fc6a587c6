use Rattle.base_io.proofs.Writing.{wrote_both, wrote_fails, wrote_longer, wrote_same}
use Rattle.emit_names.specs.Names.{ending_text}
use Rattle.emit_names.proofs.trying.write_ended_name.Goals as goal

pub returns-in_err-write_member : goal.returns-in_err-write_member
returns-in_err-write_member g c = wrote_fails _ c.from_residual.ensures.0 (wrote_longer (ending_text c.args.ending) c.in_err-write_member.ensures)

pub returns : goal.returns
returns g c = wrote_both c.in_ok-write_member.ensures (wrote_same _ (c.ending_bytes.ensures) c.write_piece.ensures)
