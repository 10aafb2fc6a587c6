use Rattle.std.proofs.Common.{◌+◌, ◌++◌, [], ◌∷◌, Option, ℕ, ap, refl, ◌∙◌, arith}
use Rattle.machine_events.specs.declared.plan.CondKind.{CondKind}
use Rattle.plan_place.proofs.Numbered.{mapped_turn}
use Rattle.report_tally.specs.inner.Lines.{first_row_if, is_left_out}
use Rattle.report_tally.proofs.finding.left_out.Goals as goal

pub loop-index-preserved : goal.loop-index-preserved
loop-index-preserved c =
    let found = c.args.found.now in
    let index = c.loop-index.index in
    let before = c.loop-index.counted.items in
    mapped_turn (λ (number : ℕ) (kind : CondKind). first_row_if (is_left_out found number kind)) 1 index (index + 1) c.args.kinds.now _ _ before c.push.new.self.items
    c.loop-index-test.true (omega arith) refl c.loop-index.invariant
    (c.in_ok-push.ensures.items ∙ ap (λ (one : Option ℕ). before ++ one ∷ []) (c.first_row_if.ensures ∙ ap first_row_if c.is_left_out.ensures))
