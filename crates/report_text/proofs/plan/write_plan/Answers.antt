use Rattle.std.proofs.Common.{◌∙◌, refl}
use Rattle.std.specs.List.{flat_map}
use Rattle.machine_events.specs.PlanText.{kept_text, conditions_text, blocks_text}
use Rattle.report_text.proofs.PlanRows.{plan_text-parts}
use Rattle.base_io.proofs.Writing.{wrote_both, wrote_fails, wrote_longer, wrote_same}
use Rattle.report_text.proofs.plan.write_plan.Goals as goal

pub returns-in_err-write_pieces : goal.returns-in_err-write_pieces
returns-in_err-write_pieces g c =
    let begun = wrote_longer (blocks_text c.args.monitor.now c.args.plan.now.notes) (wrote_longer (conditions_text c.args.monitor.now.conditions c.args.plan.now.kinds) (wrote_longer (flat_map (kept_text c.args.monitor.now.fields) c.args.plan.now.kept) c.in_err-write_pieces.ensures)) in
    wrote_same _ (plan_text-parts c.args.monitor.now c.args.plan.now _ c.args.monitor.now.fields c.args.plan.now.kept c.args.monitor.now.conditions c.args.plan.now.kinds c.args.plan.now.notes (c.bytes.ensures ∙ c.name.ensures.name) refl refl refl refl refl) (wrote_fails _ c.from_residual.ensures.0 begun)

pub returns-in_err-write_kept : goal.returns-in_err-write_kept
returns-in_err-write_kept g c =
    let begun = wrote_longer (blocks_text c.args.monitor.now c.args.plan.now.notes) (wrote_longer (conditions_text c.args.monitor.now.conditions c.args.plan.now.kinds) (wrote_both c.in_ok-write_pieces.ensures c.in_err-write_kept.ensures)) in
    wrote_same _ (plan_text-parts c.args.monitor.now c.args.plan.now _ c.fields.result.now c.items.result.now c.args.monitor.now.conditions c.args.plan.now.kinds c.args.plan.now.notes (c.bytes.ensures ∙ c.name.ensures.name) c.fields.ensures.fields c.items.ensures refl refl refl) (wrote_fails _ c.from_residual-in_err-write_kept.ensures.0 begun)

pub returns-in_err-write_conditions : goal.returns-in_err-write_conditions
returns-in_err-write_conditions g c =
    let begun = wrote_longer (blocks_text c.args.monitor.now c.args.plan.now.notes) (wrote_both (wrote_both c.in_ok-write_pieces.ensures c.in_ok-write_kept.ensures) c.in_err-write_conditions.ensures) in
    wrote_same _ (plan_text-parts c.args.monitor.now c.args.plan.now _ c.fields.result.now c.items.result.now c.conditions.result.now c.items-2.result.now c.args.plan.now.notes (c.bytes.ensures ∙ c.name.ensures.name) c.fields.ensures.fields c.items.ensures c.conditions.ensures.conditions c.items-2.ensures refl) (wrote_fails _ c.from_residual-in_err-write_conditions.ensures.0 begun)

pub returns : goal.returns
returns g c =
    let all = wrote_both (wrote_both (wrote_both c.in_ok-write_pieces.ensures c.in_ok-write_kept.ensures) c.in_ok-write_conditions.ensures) c.write_blocks.ensures in
    wrote_same _ (plan_text-parts c.args.monitor.now c.args.plan.now _ c.fields.result.now c.items.result.now c.conditions.result.now c.items-2.result.now c.items-3.result.now (c.bytes.ensures ∙ c.name.ensures.name) c.fields.ensures.fields c.items.ensures c.conditions.ensures.conditions c.items-2.ensures c.items-3.ensures) all
