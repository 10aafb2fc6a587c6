use Rattle.base_io.proofs.Writing.{wrote_same}
use Rattle.emit_names.proofs.Reading.{input_says}
use Rattle.emit_names.proofs.names.write_input.Goals as goal

pub returns : goal.returns
returns g c = wrote_same _ (input_says c.args.method.now _ _ _ c.args.name.now _ _ c.items.ensures c.items-2.ensures c.bytes-bytes.ensures c.style_in-style.ensures c.is_escaped.ensures) c.write_escaped.ensures
