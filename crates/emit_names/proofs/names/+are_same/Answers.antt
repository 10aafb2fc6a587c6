use Rattle.std.proofs.Common.{◌≡◌, ◌∙◌, length, arith}
use Rattle.emit_names.proofs.Reading.{same_end}
use Rattle.emit_names.proofs.names.+are_same.Goals as goal

pub returns-in_default : goal.returns-in_default
returns-in_default t c =
    let none : length c.args.text.now ≡ 0 = omega (arith, c.in_default.len_below) in
    c.is_nothing.ensures ∙ same_end c.args.before c.args.other_before c.args.text.now c.args.other.now none
