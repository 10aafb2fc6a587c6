use Rattle.base_io.proofs.Writing.{wrote_both}
use Rattle.emit_bodies.proofs.blocks.write_block_name.Goals as goal

pub returns : goal.returns
returns g c = wrote_both c.in_ok-write_word.ensures c.write_member.ensures
