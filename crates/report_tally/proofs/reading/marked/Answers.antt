use Rattle.std.proofs.Common.{◌≡◌, true, ◌∙◌, sym, ap, subst, length, arith, ℕ, ap₂}
use Rattle.std.specs.Prelude.{All}
use Rattle.std.specs.List.{list_all}
use Rattle.lang_monitor.specs.Candidates.{candidates_of}
use Rattle.logic_wp.specs.Expressible.{is_expressible}
use Rattle.logic_wp.specs.PlainClaims.{MayAsk}
use Rattle.plan_candidates.proofs.SomeOf.{some_pass}
use Rattle.report_verdict.proofs.Askable.{claims_askable}
use Rattle.report_tally.specs.inner.Lines.{left_out}
use Rattle.report_tally.proofs.OwedLines.{marked_are}
use Rattle.report_tally.proofs.reading.marked.Goals as goal

pub found_claims-requires : goal.found_claims-requires
found_claims-requires c =
    let plan = c.args.plan.now in
    let passes : list_all is_expressible plan.kept ≡ true = some_pass is_expressible plan.kept (candidates_of c.args.monitor.now) c.requires.kept c.candidates_have_formulas.ensures in
    subst (All (MayAsk c.args.monitor.now)) (sym (c.deref.ensures.value ∙ c.in_ok-all.ensures)) (claims_askable c.args.monitor.now plan c.requires passes)

pub left_out-requires : goal.left_out-requires
left_out-requires c = omega (arith, ap {B = ℕ} length c.items.ensures, c.requires.kinds, c.conditions-conditions.ensures.rule.few_conditions)

pub returns : goal.returns
returns c =
    marked_are c.args.monitor.now c.args.plan.now c.args.bytes.now c.deref.result.now c.in_ok-found.found.items c.in_ok-marked.marked.items c.conditions-conditions.ensures.rule c.requires
    (c.deref.ensures.value ∙ c.in_ok-all.ensures) c.in_ok-found.ensures (c.in_ok-marked.ensures ∙ ap₂ left_out c.deref-2.ensures.value c.items.ensures)
