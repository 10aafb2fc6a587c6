-- States in which the triple of a query fails.
use Rattle.std.specs.Prelude.{◌≡◌, ℕ, true, false, List, All, Option, Some, None, slice_get}
use Rattle.std.specs.List.{Contains}
use Rattle.std.specs.Option.{IsSomeAnd}
use Rattle.logic_linear.specs.declared.formula.Formula.TheVariants as formulas
use Rattle.logic_linear.specs.Truth.{Valuation, truth_of}
use Rattle.lang_monitor.specs.declared.monitor.Block.{Block}
use Rattle.lang_monitor.specs.declared.query.Query.{Query}
use Rattle.lang_monitor.specs.Bodies.{valuation_after}
use Rattle.lang_monitor.specs.MonitorParts.{MonitorParts}
use Rattle.lang_monitor.specs.Triples.{places_of, IsValidQuery}
use Rattle.logic_solve.specs.declared.valuation.Solution.{Solution}
use Rattle.logic_solve.specs.Solutions.{valuation_of}
use Rattle.logic_wp.specs.PlainClaims.{is_plain}
use Rattle.plan_why.specs.declared.failing.Failure.{Failure}
use Rattle.plan_why.specs.WideNumbers.{IsWideBody}

-- At the valuation the triple of the query fails: each hypothesis is true there, and the post
-- formula is false after the body of the block.
pub record Breaks (monitor : MonitorParts) (query : Query) (v : Valuation) : Type 0 where
  pub held : Block
  pub is : slice_get monitor.blocks query.block ≡ Some held
  pub before : truth_of v (formulas.All query.hyps) ≡ true
  pub after : truth_of (valuation_after (places_of monitor held) held.body v) query.post ≡ false

-- The valuation after the body of the block is given; it is missing only where a number on the way
-- is outside 128 bits.
abbrev pub IsAfter : MonitorParts → ℕ → Valuation → Option Solution → Type 0
IsAfter monitor block before (Some last) =
    IsSomeAnd (slice_get monitor.blocks block)
    (λ held. valuation_of last ≡ valuation_after (places_of monitor held) held.body before)
IsAfter monitor block before None =
    IsSomeAnd (slice_get monitor.blocks block) (λ held. IsWideBody held.body before)

-- the triple of the query fails at the valuation before the body
pub record IsFailure (monitor : MonitorParts) (query : Query) (failure : Failure) : Type 0 where
  pub breaks : Breaks monitor query (valuation_of failure.before)
  pub ends : IsAfter monitor query.block (valuation_of failure.before) failure.after

-- what was found is a failure; where none was, the query is valid, if it is plain
abbrev pub IsFailureOf : MonitorParts → Query → Option Failure → Type 0
IsFailureOf monitor query (Some failure) = IsFailure monitor query failure
IsFailureOf monitor query None = is_plain monitor query ≡ true → IsValidQuery monitor query

-- ---- of some queries

pub record IsFailureIn (monitor : MonitorParts) (queries : List Query) (failure : Failure) : Type 0
  where
    pub query : Query
    pub there : Contains queries query
    pub fails : IsFailure monitor query failure

-- what was found is a failure of one of them; where none was, each is valid, if it is plain
abbrev pub IsFailureAmong : MonitorParts → List Query → Option Failure → Type 0
IsFailureAmong monitor queries (Some failure) = IsFailureIn monitor queries failure
IsFailureAmong monitor queries None = All (λ query. IsFailureOf monitor query None) queries
