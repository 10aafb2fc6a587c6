use Rattle.base_io.proofs.Writing.{wrote_both}
use Rattle.lang_printer.proofs.printer.statements.write_line.Goals as goal

pub returns : goal.returns
returns g c = wrote_both c.in_ok-write_indent.ensures c.write_around.ensures
