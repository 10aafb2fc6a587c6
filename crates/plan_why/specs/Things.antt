-- What costs something in a plan, and the claims that would spare it.
use Rattle.std.specs.Prelude.{◌≡◌, ℕ, ◌-◌, ◌==◌, Bool, true, false, not, List, [], ◌∷◌, ◌++◌, map}
use Rattle.std.specs.Prelude.{slice_get, if◌then◌else◌}
use Rattle.std.specs.List.{filter, flat_map, enumerate_from}
use Rattle.std.specs.Option.{IsSomeAnd, option_map_or}
use Rattle.lang_monitor.specs.declared.claim.Claim.{Claim}
use Rattle.lang_monitor.specs.declared.claim.Claim.TheVariants as claims
use Rattle.lang_monitor.specs.declared.query.Query.{Query}
use Rattle.lang_monitor.specs.MonitorParts.{MonitorParts}
use Rattle.lang_monitor.specs.Queries.{query_of}
use Rattle.machine_events.specs.declared.plan.CondKind.{CondKind}
use Rattle.machine_events.specs.declared.plan.CondKind.TheVariants as kinds
use Rattle.machine_events.specs.declared.plan.Note.{Note}
use Rattle.machine_events.specs.declared.plan.Plan.{Plan}
use Rattle.logic_wp.specs.PlainClaims.{IsConditionNumber, ReadsNone}
use Rattle.plan_why.specs.declared.reason.Thing.{Thing}
use Rattle.plan_why.specs.declared.reason.Thing.TheVariants as things

-- ---- what costs something; blocks are numbered from 0, and conditions from 1

-- each note of a block
abbrev pub notes_of_block : ℕ → List Note → List Thing
notes_of_block block notes = map (λ note. things.Note block note.condition) notes

-- the monitor has this condition, and its guard reads no inputs
abbrev pub reads_none : MonitorParts → ℕ → Bool
reads_none monitor condition =
    option_map_or (λ held. not held.reads_inputs) (slice_get monitor.conditions (condition - 1))
    false

-- a condition of kind broadcast that reads no inputs
abbrev pub broadcast_of_condition : MonitorParts → ℕ → CondKind → List Thing
broadcast_of_condition monitor condition kinds.Signal = []
broadcast_of_condition monitor condition kinds.Broadcast =
    if reads_none monitor condition then things.Broadcast condition ∷ [] else []

-- each tested note of a block
abbrev pub tests_of_block : ℕ → List Note → List Thing
tests_of_block block notes =
    map (λ note. things.Test block note.condition) (filter (λ note. note.tested) notes)

-- What costs something in a plan, in its order: each note, block by block; each condition of kind
-- broadcast that reads no inputs; each tested note, block by block.
abbrev pub things_of : MonitorParts → Plan → List Thing
things_of monitor plan =
    flat_map (λ one. notes_of_block one.0 one.1) (enumerate_from 0 plan.notes)
    ++ (flat_map (λ one. broadcast_of_condition monitor one.0 one.1) (enumerate_from 1 plan.kinds)
    ++ flat_map (λ one. tests_of_block one.0 one.1) (enumerate_from 0 plan.notes))

-- the monitor has the condition that the thing is about, and the guard of one of kind broadcast
-- reads no inputs
abbrev pub IsThingOf : MonitorParts → Thing → Type 0
IsThingOf monitor (things.Note block condition) = IsConditionNumber monitor condition
IsThingOf monitor (things.Broadcast condition) = ReadsNone monitor condition
IsThingOf monitor (things.Test block condition) = IsConditionNumber monitor condition

-- ---- the claims that would spare it

-- a thing is about the block of this number, which waits at this condition: of a broadcast, where
-- that is its condition
abbrev pub is_block_of : Thing → ℕ → ℕ → Bool
is_block_of (things.Note own condition) block waits = own == block
is_block_of (things.Broadcast condition) block waits = condition == waits
is_block_of (things.Test own condition) block waits = own == block

-- the monitor has this block, and the thing is about it
abbrev pub IsBlockOf : MonitorParts → Thing → ℕ → Type 0
IsBlockOf monitor thing block =
    IsSomeAnd (slice_get monitor.blocks block)
    (λ held. is_block_of thing block held.condition ≡ true)

-- the claim that no note is needed, that one waiter is enough, or that no test is needed, after the
-- block
abbrev pub claim_of : Thing → ℕ → Claim
claim_of (things.Note own condition) block = claims.NoNote block condition
claim_of (things.Broadcast condition) block = claims.One condition block
claim_of (things.Test own condition) block = claims.NoTest block condition

-- the query of that claim, under the candidates that the plan keeps
abbrev pub sparing_query : MonitorParts → Plan → Thing → ℕ → Query
sparing_query monitor plan thing block = query_of monitor plan.kept (claim_of thing block)
