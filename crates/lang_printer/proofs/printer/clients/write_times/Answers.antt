use Rattle.std.proofs.Common.{◌≡◌, ◌++◌, ap, codes, decimal, rules}
use Rattle.base_io.proofs.Writing.{wrote_both, wrote_same}
use Rattle.lang_printer.proofs.printer.clients.write_times.Goals as goal

pub returns : goal.returns
returns g c =
    let digits : c.as_bytes-digits.result.now ≡ decimal c.args.times = search rules in
    wrote_both c.in_ok-write_indent.ensures (wrote_same _ (ap (λ text. codes "repeat " ++ (text ++ codes " {\n")) digits) c.write_pieces.ensures)
