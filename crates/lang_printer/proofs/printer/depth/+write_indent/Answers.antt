use Rattle.std.proofs.Common.{rules}
use Rattle.base_io.proofs.Writing.{wrote_both, wrote_fails, wrote_longer, wrote_same}
use Rattle.lang_printer.proofs.Depths.{indent-Margin, indent-Below}
use Rattle.lang_printer.proofs.printer.depth.+write_indent.Goals as goal

pub returns-in_err-write_piece-in-Below : goal.returns-in_err-write_piece-in-Below
returns-in_err-write_piece-in-Below g t c = wrote_same _ (indent-Below _ _ c.in-Below.is) (wrote_fails _ c.from_residual.ensures.0 (wrote_longer _ c.in_err-write_piece-in-Below.ensures))

pub returns-in-Margin : goal.returns-in-Margin
returns-in-Margin g t c = wrote_same _ (indent-Margin _ c.in-Margin.is) (search rules)

pub returns-in_ok-write_piece-in-Below : goal.returns-in_ok-write_piece-in-Below
returns-in_ok-write_piece-in-Below g t c = wrote_same _ (indent-Below _ _ c.in-Below.is) (wrote_both c.in_ok-write_piece-in-Below.ensures c.write_indent.ensures)
