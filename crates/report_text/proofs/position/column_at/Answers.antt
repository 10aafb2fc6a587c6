use Rattle.std.proofs.Common.{◌+◌, ◌∙◌, ap, reverse, take, rules, tests}
use Rattle.std.proofs.lemmas.Iterator.Adapters.{YieldsList-from_rev_slice}
use Rattle.std.proofs.lemmas.Iterator.Search.{YieldsList-from_take_while}
use Rattle.std.proofs.lemmas.Iterator.Consumers.{YieldsList-at, count_from_yields_List}
use Rattle.std.proofs.lemmas.List.Folds.{length-prefix_len}
use Rattle.report_text.specs.FaultText.{is_in_line}
use Rattle.report_text.proofs.position.column_at.Goals as goal

pub returns : goal.returns
returns c =
    let before = take c.args.at c.args.bytes.now in
    ap (λ n. 1 + n) (count_from_yields_List c.take_while.result _ c.count-in_line.ensures.ran (YieldsList-from_take_while _ is_in_line (YieldsList-at c.take_while.ensures.source (YieldsList-from_rev_slice before cc)) c.take_while.ensures.closure c.take_while.ensures.done (λ x b q k. search (rules, tests))) ∙ length-prefix_len is_in_line (reverse before))
