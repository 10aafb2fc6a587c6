use Rattle.base_io.proofs.Writing.{wrote_same}
use Rattle.emit_names.proofs.Reading.{member_says}
use Rattle.emit_names.proofs.names.write_member.Goals as goal

pub returns : goal.returns
returns g c = wrote_same _ (member_says c.args.tree.now _ _ c.args.style _ c.args.name.now _ _ c.items.ensures c.items-2.ensures c.bytes-bytes.ensures c.style_in-style.ensures c.is_member_escaped.ensures) c.write_escaped.ensures
