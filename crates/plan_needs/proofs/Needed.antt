-- Things that are needed, and those of which that was not found.
use Rattle.std.proofs.Common.{◌≡◌, ◌⊎◌, inl, inr, ℕ, ◌+◌, ◌<◌, ◌≤◌, Bool, false, length, Option, Some, None, refl, subst, sym, arith}
use Rattle.std.specs.Prelude.{slice_get}
use Rattle.lang_monitor.specs.declared.monitor.Block.{Block}
use Rattle.lang_monitor.specs.MonitorParts.{MonitorParts}
use Rattle.logic_solve.specs.declared.valuation.Solution.{Solution}
use Rattle.plan_why.specs.declared.reason.Answer.{Answer}
use Rattle.plan_why.specs.declared.reason.Answer.TheVariants.{Shown, Undecided}
use Rattle.plan_why.specs.declared.reason.Thing.{Thing}
use Rattle.plan_why.specs.Failures.{IsFailureAmong}
use Rattle.plan_why.specs.Things.{is_block_of, IsBlockOf}
use Rattle.plan_why.proofs.Blocks as blocks
use Rattle.plan_counted.specs.declared.counted.CountedPlan.{CountedPlan}
use Rattle.plan_needs.specs.CountedReasons.{IsCountedAnswer, IsCountedShown, IsCountedUndecided, IsSparedAt}
use Rattle.plan_needs.specs.Needs.{sparing_queries}
use Rattle.plan_needs.specs.inner.Asked.{AreSparedBefore, IsAskedOf, IsShownAt}

pub not_about : (monitor : MonitorParts) (counted : CountedPlan) (thing : Thing) (block : ℕ) (held : Block) (test : Bool) → slice_get monitor.blocks block ≡ Some held → test ≡ is_block_of thing block held.condition → test ≡ false
    → IsAskedOf monitor counted thing block None
not_about monitor counted thing block held test there is other about = absurd (blocks.other_block monitor thing block held test there is other about)

pub spared_there : (monitor : MonitorParts) (counted : CountedPlan) (thing : Thing) (block : ℕ) → IsFailureAmong monitor (sparing_queries monitor counted thing block) None → IsAskedOf monitor counted thing block None
spared_there monitor counted thing block spared about = spared

pub shown_there : (monitor : MonitorParts) (counted : CountedPlan) (thing : Thing) (block : ℕ) (before : Solution) (after : Option Solution) → IsBlockOf monitor thing block
    → IsFailureAmong monitor (sparing_queries monitor counted thing block) (Some (record { before = before; after = after })) → IsAskedOf monitor counted thing block (Some (Shown block before after))
shown_there monitor counted thing block before after about found = (refl, about, found)

pub none_before : (monitor : MonitorParts) (counted : CountedPlan) (thing : Thing) → AreSparedBefore monitor counted thing 0
none_before monitor counted thing block h = absurd (omega arith)

pub one_more_spared : (monitor : MonitorParts) (counted : CountedPlan) (thing : Thing) (count : ℕ) → AreSparedBefore monitor counted thing count → IsAskedOf monitor counted thing count None → AreSparedBefore monitor counted thing (count + 1)
one_more_spared monitor counted thing count before asked block h about = by (blocks.before_or_this block count h)
  where
    by : (block < count) ⊎ (count ≡ block) → IsSparedAt monitor counted thing block
    by (inl l) = before block l about
    by (inr same) = subst (IsSparedAt monitor counted thing) same (asked (subst (IsBlockOf monitor thing) (sym same) about))

pub all_spared : (monitor : MonitorParts) (counted : CountedPlan) (thing : Thing) (count : ℕ) → length monitor.blocks ≤ count → AreSparedBefore monitor counted thing count → IsCountedUndecided monitor counted thing
all_spared monitor counted thing count h spared block about = let within = blocks.block_within monitor thing block about in spared block (omega arith) about

pub shown_first : (monitor : MonitorParts) (counted : CountedPlan) (thing : Thing) (block : ℕ) (answer : Answer) → AreSparedBefore monitor counted thing block → IsShownAt monitor counted thing block answer
    → IsCountedAnswer monitor counted thing answer
shown_first monitor counted thing block (Shown own before after) spared (same, about, fails) =
    subst (λ (one : ℕ). IsCountedShown monitor counted thing one before after) (sym same) (record { about = about; fails = fails; earlier = spared })
shown_first monitor counted thing block Undecided spared shown = absurd shown
