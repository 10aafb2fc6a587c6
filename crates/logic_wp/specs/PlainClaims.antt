-- Queries within the limits of a prover, plain ones among them, simple blocks, and the claims of a
-- monitor.
use Rattle.std.specs.Prelude.{◌≡◌, ◌<◌, ◌≤◌, ℕ, ◌-◌, pos, Bool, true, false, ◌&&◌, nat_le, List, []}
use Rattle.std.specs.Prelude.{◌∷◌, length, slice_get}
use Rattle.std.specs.List.{list_all, Contains}
use Rattle.std.specs.Option.{IsSomeAnd}
use Rattle.std.specs.Ordering.{int_eq}
use Rattle.logic_linear.specs.declared.form.Term.{Term}
use Rattle.logic_linear.specs.Differences.{has_difference_rows}
use Rattle.logic_linear.specs.Measures.{cubes_of, MOST_CUBES}
use Rattle.logic_linear.specs.declared.formula.Formula.{Formula}
use Rattle.logic_linear.specs.declared.substitution.Put.{Put}
use Rattle.logic_linear.specs.declared.substitution.Put.TheVariants.{Number, Truth}
use Rattle.lang_monitor.specs.declared.claim.Claim.{Claim}
use Rattle.lang_monitor.specs.declared.claim.Claim.TheVariants as claims
use Rattle.lang_monitor.specs.declared.query.Query.{Query}
use Rattle.lang_monitor.specs.declared.monitor.Block.{Block}
use Rattle.lang_monitor.specs.declared.monitor.Stmt.{Stmt}
use Rattle.lang_monitor.specs.MonitorParts.{MonitorParts}
use Rattle.lang_monitor.specs.Candidates.{candidates_of}
use Rattle.lang_monitor.specs.Statements.{every_part}
use Rattle.logic_wp.specs.Expressible.{is_expressible}
use Rattle.logic_wp.specs.NegatedQueries.{negated_query}
use Rattle.logic_wp.specs.Limits.{is_query_within}

-- ---- queries

abbrev pub has_few_cubes : Formula → Bool
has_few_cubes formula = nat_le (cubes_of formula) MOST_CUBES

-- the query is negated within the limits, to a formula of few cubes
abbrev pub is_within_limits : MonitorParts → Query → Bool
is_within_limits monitor query =
    is_query_within monitor query && has_few_cubes (negated_query monitor query)

-- a plain query: the formula is of difference rows alone, too
abbrev pub is_plain : MonitorParts → Query → Bool
is_plain monitor query =
    is_within_limits monitor query && has_difference_rows (negated_query monitor query)

-- ---- simple blocks

-- a constant, or a field, parameter or local plus a constant
abbrev pub are_simple_terms : List Term → Bool
are_simple_terms [] = true
are_simple_terms (term ∷ []) = int_eq term.times (pos 1)
are_simple_terms (term ∷ next ∷ more) = false

-- a simple form is assigned, or a formula that has difference rows alone
abbrev pub is_simple_put : Put → Bool
is_simple_put (Number place form) = are_simple_terms form.terms
is_simple_put (Truth place is) = has_difference_rows is

-- assignments are simple, and conditions have difference rows alone
abbrev pub is_simple_statement : Stmt → Bool
is_simple_statement = every_part is_simple_put has_difference_rows

abbrev pub is_simple_block : Block → Bool
is_simple_block block = has_difference_rows block.guard && list_all is_simple_statement block.body

-- ---- claims

-- a block of the monitor
abbrev pub IsBlockNumber : MonitorParts → ℕ → Type 0
IsBlockNumber monitor block = block < length monitor.blocks

-- a condition of the monitor, numbered from 1
abbrev pub IsConditionNumber : MonitorParts → ℕ → Type 0
IsConditionNumber monitor condition = (1 ≤ condition) × (condition ≤ length monitor.conditions)

-- a condition whose guard reads no inputs
abbrev pub ReadsNone : MonitorParts → ℕ → Type 0
ReadsNone monitor condition =
    (1 ≤ condition)
    × IsSomeAnd (slice_get monitor.conditions (condition - 1)) (λ held. held.reads_inputs ≡ false)

-- the block waits at the condition
abbrev pub WaitsAt : MonitorParts → ℕ → ℕ → Type 0
WaitsAt monitor block condition =
    IsSomeAnd (slice_get monitor.blocks block) (λ held. held.condition ≡ condition)

-- a query can be made of the claim, which names a block and a condition of the monitor, and a
-- candidate that has a formula
abbrev pub MayAsk : MonitorParts → Claim → Type 0
MayAsk monitor (claims.Keeps candidate block) =
    IsBlockNumber monitor block × (is_expressible candidate ≡ true)
MayAsk monitor (claims.NoNote block condition) =
    IsBlockNumber monitor block × IsConditionNumber monitor condition
MayAsk monitor (claims.One condition block) =
    IsBlockNumber monitor block × IsConditionNumber monitor condition
MayAsk monitor (claims.NoTest block condition) =
    IsBlockNumber monitor block × IsConditionNumber monitor condition

-- the claims that are asked of a monitor: where a guard reads inputs, only whether no note is
-- needed
abbrev pub IsClaimOf : MonitorParts → Claim → Type 0
IsClaimOf monitor (claims.Keeps candidate block) =
    Contains (candidates_of monitor) candidate × IsBlockNumber monitor block
IsClaimOf monitor (claims.NoNote block condition) =
    IsBlockNumber monitor block × IsConditionNumber monitor condition
IsClaimOf monitor (claims.One condition block) =
    ReadsNone monitor condition × WaitsAt monitor block condition
IsClaimOf monitor (claims.NoTest block condition) =
    IsBlockNumber monitor block × ReadsNone monitor condition
