-- Things that are needed, and those of which that was not found.
use Rattle.std.proofs.Common.{◌≡◌, ◌⊎◌, inl, inr, ℕ, ◌+◌, ◌<◌, ◌≤◌, Bool, false, length, Option, Some, None, sym, subst, arith, refl}
use Rattle.std.specs.Prelude.{slice_get}
use Rattle.lang_monitor.specs.declared.monitor.Block.{Block}
use Rattle.lang_monitor.specs.declared.query.Query.{Query}
use Rattle.lang_monitor.specs.MonitorParts.{MonitorParts}
use Rattle.machine_events.specs.declared.plan.Plan.{Plan}
use Rattle.logic_solve.specs.Solutions.{valuation_of}
use Rattle.logic_wp.specs.PlainClaims.{MayAsk}
use Rattle.plan_why.specs.declared.failing.Failure.{Failure}
use Rattle.plan_why.specs.declared.reason.Answer.{Answer}
use Rattle.plan_why.specs.declared.reason.Thing.{Thing}
use Rattle.plan_why.specs.declared.reason.Thing.TheVariants as things
use Rattle.plan_why.specs.Failures.{IsAfter, IsFailure, IsFailureOf}
use Rattle.plan_why.specs.Reasons.{IsShown, IsUndecided}
use Rattle.plan_why.specs.Things.{claim_of, is_block_of, sparing_query, IsBlockOf, IsThingOf}
use Rattle.plan_why.specs.inner.Answering.{IsSpared, IsBroken, IsAsked, AreSpared}
use Rattle.plan_why.proofs.Blocks.{before_or_this, block_within, other_block}
use Rattle.plan_why.proofs.Things.{condition_there}

-- ---- what is asked

pub may_ask : (monitor : MonitorParts) (thing : Thing) (block : ℕ) → block < length monitor.blocks → IsThingOf monitor thing → MayAsk monitor (claim_of thing block)
may_ask monitor (things.Note own condition) block within there = (within, there)
may_ask monitor (things.Broadcast condition) block within there = (within, condition_there monitor condition there)
may_ask monitor (things.Test own condition) block within there = (within, there)

pub asked_block : (monitor : MonitorParts) (plan : Plan) (thing : Thing) (block : ℕ) → (sparing_query monitor plan thing block).block ≡ block
asked_block monitor plan (things.Note own condition) block = refl
asked_block monitor plan (things.Broadcast condition) block = refl
asked_block monitor plan (things.Test own condition) block = refl

-- the query that was made is the thing's
pub shown_by : (monitor : MonitorParts) (plan : Plan) (thing : Thing) (block : ℕ) (query : Query) (failure : Failure) → query ≡ sparing_query monitor plan thing block → IsBlockOf monitor thing block → IsFailure monitor query failure
    → IsShown monitor plan thing block failure.before failure.after
shown_by monitor plan thing block query failure is about failed =
    let there : IsFailure monitor (sparing_query monitor plan thing block) failure = subst (λ (one : Query). IsFailure monitor one failure) is failed in
    record {
      about = about;
      breaks = there.breaks;
      ends = subst (λ (n : ℕ). IsAfter monitor n (valuation_of failure.before) failure.after) (asked_block monitor plan thing block) there.ends;
    }

pub spared_by : (monitor : MonitorParts) (plan : Plan) (thing : Thing) (block : ℕ) (query : Query) → query ≡ sparing_query monitor plan thing block → IsFailureOf monitor query None → IsSpared monitor plan thing block
spared_by monitor plan thing block query is spared = subst (λ (one : Query). IsFailureOf monitor one None) is spared

-- ---- one block after the other

pub not_about : (monitor : MonitorParts) (plan : Plan) (thing : Thing) (block : ℕ) (held : Block) (test : Bool) → slice_get monitor.blocks block ≡ Some held → test ≡ is_block_of thing block held.condition → test ≡ false → IsAsked monitor plan thing block None
not_about monitor plan thing block held test there is other about = absurd (other_block monitor thing block held test there is other about)

pub asked_broken : (monitor : MonitorParts) (plan : Plan) (thing : Thing) (block : ℕ) (answer : Option Answer) → IsBroken monitor plan thing block answer → IsAsked monitor plan thing block answer
asked_broken monitor plan thing block None spared = λ about. spared
asked_broken monitor plan thing block (Some answer) answered = answered

pub none_before : (monitor : MonitorParts) (plan : Plan) (thing : Thing) → AreSpared monitor plan thing 0
none_before monitor plan thing block h = absurd (omega arith)

pub one_more_spared : (monitor : MonitorParts) (plan : Plan) (thing : Thing) (count : ℕ) → AreSpared monitor plan thing count → IsAsked monitor plan thing count None → AreSpared monitor plan thing (count + 1)
one_more_spared monitor plan thing count before asked block h about = by (before_or_this block count h)
  where
    by : (block < count) ⊎ (count ≡ block) → IsSpared monitor plan thing block
    by (inl l) = before block l about
    by (inr same) = subst (IsSpared monitor plan thing) same (asked (subst (IsBlockOf monitor thing) (sym same) about))

pub all_spared : (monitor : MonitorParts) (plan : Plan) (thing : Thing) (count : ℕ) → length monitor.blocks ≤ count → AreSpared monitor plan thing count → IsUndecided monitor plan thing
all_spared monitor plan thing count h spared block about plain = let within = block_within monitor thing block about in spared block (omega arith) about plain
