use Rattle.std.proofs.Common.{ap, sym}
use Rattle.base_io.proofs.Writing.{wrote_same}
use Rattle.emit_choices.specs.Starts.{value_text}
use Rattle.emit_choices.proofs.starts.write_value.Goals as goal

pub returns-in-Copied : goal.returns-in-Copied
returns-in-Copied g c = wrote_same _ (ap (value_text c.args.tree.now) (sym c.in-Copied.is)) c.write_copied.ensures
