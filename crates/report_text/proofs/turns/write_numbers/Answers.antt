use Rattle.std.proofs.Common.{ℕ, ◌++◌, ◌∙◌, List, ap}
use Rattle.machine_events.specs.PlanText.{block_mark}
use Rattle.base_io.proofs.Writing.{wrote_both, wrote_same}
use Rattle.report_text.proofs.turns.write_numbers.Goals as goal

pub returns : goal.returns
returns g c =
    wrote_same _ (ap (λ (text : List ℕ). text ++ block_mark c.args.count c.args.block) (c.as_bytes.ensures.value ∙ c.format.ensures.text)) (wrote_both c.in_ok-write_piece.ensures c.write_mark.ensures)
