-- When queries are valid, what each claim says, and when a list of candidates is inductive.
use Rattle.std.specs.Prelude.{◌≡◌, ℕ, ◌<◌, true, false, List, All, length, slice_get, IsSomeAnd}
use Rattle.logic_linear.specs.declared.formula.Formula.TheVariants as formulas
use Rattle.lang_monitor.specs.declared.candidate.Candidate.{Candidate}
use Rattle.lang_monitor.specs.declared.claim.Claim.{Claim}
use Rattle.lang_monitor.specs.declared.query.Query.{Query}
use Rattle.lang_monitor.specs.declared.monitor.Block.{Block}
pub use Rattle.lang_monitor.specs.MonitorParts.{kinds_in, start_of}
use Rattle.lang_monitor.specs.MonitorParts.{MonitorParts, Places, method_places}
use Rattle.lang_monitor.specs.Bodies.{IsValid}
use Rattle.lang_monitor.specs.Candidates.{AllHold, candidate_truth}
use Rattle.lang_base.specs.declared.value.Value.{Value}
use Rattle.lang_monitor.specs.Starts.{IsStart}
use Rattle.lang_monitor.specs.Queries.{keeps_query, none_needed_query, one_enough_query}
use Rattle.lang_monitor.specs.Queries.{no_test_query, query_of}

-- ---- queries

-- the kinds of the fields, and of the inputs and locals of the block's method
abbrev pub places_of : MonitorParts → Block → Places
places_of monitor block = method_places monitor block.method

-- wherever each hypothesis is true, the post formula is after the body of the block
abbrev pub IsValidQuery : MonitorParts → Query → Type 0
IsValidQuery monitor query =
    IsSomeAnd (slice_get monitor.blocks query.block)
    (λ block. IsValid (places_of monitor block) (formulas.All query.hyps) block.body query.post)

-- ---- claims

-- the block keeps the candidate
abbrev pub Keeps : MonitorParts → List Candidate → Candidate → ℕ → Type 0
Keeps monitor kept candidate block = IsValidQuery monitor (keeps_query monitor kept candidate block)

-- the block makes the condition's guard true for no client that waits: no note is needed
abbrev pub NoneNeeded : MonitorParts → List Candidate → ℕ → ℕ → Type 0
NoneNeeded monitor kept block condition =
    IsValidQuery monitor (none_needed_query monitor kept block condition)

-- where the condition's guard was true it is false after the block: one waiter is enough
abbrev pub OneEnough : MonitorParts → List Candidate → ℕ → ℕ → Type 0
OneEnough monitor kept condition block =
    IsValidQuery monitor (one_enough_query monitor kept condition block)

-- where the condition's guard was false it is true after the block: no test is needed
abbrev pub NoTestNeeded : MonitorParts → List Candidate → ℕ → ℕ → Type 0
NoTestNeeded monitor kept block condition =
    IsValidQuery monitor (no_test_query monitor kept block condition)

-- what a claim says under the kept candidates
abbrev pub Holds : MonitorParts → List Candidate → Claim → Type 0
Holds monitor kept claim = IsValidQuery monitor (query_of monitor kept claim)

-- ---- inductive lists

-- each is true at the start, whatever the monitor is opened with
abbrev pub HoldAtStart : MonitorParts → List Candidate → Type 0
HoldAtStart monitor kept =
    (start : List Value) → IsStart monitor.fields start → AllHold start kept

-- the candidate is true at the start, whatever the monitor is opened with
abbrev pub IsTrueAtStart : MonitorParts → Candidate → Type 0
IsTrueAtStart monitor candidate =
    (start : List Value) → IsStart monitor.fields start → candidate_truth start candidate ≡ true

-- the monitor may be opened with values at which the candidate is false
abbrev pub IsFalseAtStart : MonitorParts → Candidate → Type 0
IsFalseAtStart monitor candidate =
    (start : List Value)
    × IsStart monitor.fields start × (candidate_truth start candidate ≡ false)

-- the candidates are true at the start, and each block keeps each of them under all
pub record IsInductive (monitor : MonitorParts) (kept : List Candidate) : Type 0 where
  pub starts : HoldAtStart monitor kept
  pub keeps : (block : ℕ) → block < length monitor.blocks
      → All (λ candidate. Keeps monitor kept candidate block) kept
