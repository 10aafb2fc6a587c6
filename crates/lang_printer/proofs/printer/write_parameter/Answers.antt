use Rattle.std.proofs.Common.{◌++◌, codes, sym, append_assoc}
use Rattle.lang_printer.specs.Canonical.{literal_text, limit_text}
use Rattle.base_io.proofs.Writing.{wrote_both, wrote_fails, wrote_longer, wrote_same}
use Rattle.lang_printer.proofs.printer.write_parameter.Goals as goal

pub returns-in_err-write_number : goal.returns-in_err-write_number
returns-in_err-write_number g c = wrote_fails _ c.from_residual.ensures.0 (wrote_longer (codes ");\n") (wrote_longer (limit_text c.args.limit.now) c.in_err-write_number.ensures))

pub returns : goal.returns
returns g c =
    let before = codes "param " ++ c.args.name.now ++ codes " = " ++ literal_text c.args.value ++ codes " where (" in
    wrote_same _ (sym (append_assoc before (limit_text c.args.limit.now) (codes ");\n"))) (wrote_both c.in_ok-write_number.ensures c.write_limit.ensures)
