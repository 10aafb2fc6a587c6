use Rattle.std.proofs.Common.{List, ◌++◌, subst}
use Rattle.base_io.specs.Writing.{Wrote}
use Rattle.base_io.proofs.Writing.{wrote_both, wrote_fails, wrote_longer}
use Rattle.report_reasons.specs.BroadcastText.{broadcast_reasons_text}
use Rattle.plan_needs.specs.declared.broadcasts.BroadcastReason.{BroadcastReason}
use Rattle.expresso_answers.specs.Texts.{explained_text}
use Rattle.expresso_reports.proofs.text.write_count_explanation.Goals as goal

pub returns-in_err-write_explanation : goal.returns-in_err-write_explanation
returns-in_err-write_explanation g c =
    wrote_fails _ c.from_residual.ensures.0 (wrote_longer (broadcast_reasons_text c.args.tree.now c.args.monitor.now c.args.explanation.now.broadcasts.items) c.in_err-write_explanation.ensures)

pub returns : goal.returns
returns g c =
    let explained = c.args.explanation.now.explanation in
    subst (λ (broadcasts : List BroadcastReason). Wrote (g.S.Sink.seen c.args.out.now) (g.S.Sink.seen c.write_broadcast_reasons.new.out) c.write_broadcast_reasons.result (explained_text c.args.tree.now c.args.monitor.now explained.plan explained.reasons.items ++ broadcast_reasons_text c.args.tree.now c.args.monitor.now broadcasts))
    c.as_slice.ensures.value (wrote_both c.in_ok-write_explanation.ensures c.write_broadcast_reasons.ensures)
