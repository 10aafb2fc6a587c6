use Rattle.std.proofs.Common.{ℕ, ◌+◌, ◌++◌, ◌∙◌, List, ap}
use Rattle.machine_events.specs.PlanText.{block_mark}
use Rattle.base_io.proofs.Writing.{wrote_both, wrote_same}
use Rattle.report_text.proofs.naming.write_name_in.Goals as goal

pub returns : goal.returns
returns g c =
    let count : ℕ = c.args.method.now.count in
    let text =
    ap (λ (name : List ℕ). name ++ block_mark count (c.saturating_sub-before.result + 1)) c.bytes.ensures
    ∙ ap (λ (before : ℕ). c.args.method.now.name ++ block_mark count (before + 1)) c.saturating_sub-before.ensures in
    wrote_same _ text (wrote_both c.in_ok-write_piece.ensures c.write_mark.ensures)
