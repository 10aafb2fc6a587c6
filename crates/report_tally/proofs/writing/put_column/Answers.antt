use Rattle.std.proofs.Common.{List, sym, ap, ◌∙◌}
use Rattle.std.specs.List.{flat_map, enumerate_from}
use Rattle.base_pen.proofs.Putting.{adds_same}
use Rattle.plan_counted.specs.declared.counted.Told.{Told}
use Rattle.report_tally.specs.CountedTexts.{column_text, told_text}
use Rattle.report_tally.proofs.writing.put_column.Goals as goal

pub returns-in-Some : goal.returns-in-Some
returns-in-Some g c =
    let monitor = c.args.monitor.now in
    let condition = c.args.condition in
    adds_same _ (ap (λ (told : List Told). flat_map (λ one. told_text monitor condition c.in-Some.column.row one.0 one.1) (enumerate_from 0 told)) c.items.ensures
    ∙ ap (column_text monitor condition) (sym c.in-Some.is)) c.put_each.ensures
