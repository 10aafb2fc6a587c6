-- The query of each claim: which hypotheses, which block and which post formula are asked.
use Rattle.std.specs.Prelude.{ℕ, ◌+◌, ◌-◌, nat_lt, List, [], ◌∷◌, ◌++◌, map, Option, Some, None}
use Rattle.std.specs.Prelude.{slice_get, if◌then◌else◌}
use Rattle.lang_base.specs.Limits.{FIRST_INPUT}
use Rattle.logic_linear.specs.declared.form.Term.{Term}
use Rattle.logic_linear.specs.Linear.{Linear}
use Rattle.logic_linear.specs.Negation.{negation}
use Rattle.logic_linear.specs.declared.formula.Formula.{Formula}
use Rattle.logic_linear.specs.declared.formula.Formula.TheVariants as formulas
use Rattle.logic_linear.specs.declared.formula.Formula.TheOpen.{Formula-F, Row, Flag, All as Every}
use Rattle.logic_linear.specs.declared.formula.Formula.TheOpen.{Any as Some_of}
use Rattle.logic_linear.specs.declared.formula.Formula.TheViews.{roll-Formula}
use Rattle.logic_linear.specs.declared.formula.Formula.TheFolds.{fold-Formula}
use Rattle.lang_monitor.specs.declared.candidate.Candidate.{Candidate}
use Rattle.lang_monitor.specs.declared.claim.Claim.{Claim}
use Rattle.lang_monitor.specs.declared.claim.Claim.TheVariants as claims
use Rattle.lang_monitor.specs.declared.query.Query.{Query}
use Rattle.lang_monitor.specs.declared.monitor.Block.{Block}
use Rattle.lang_monitor.specs.declared.monitor.Condition.{Condition}
use Rattle.lang_monitor.specs.MonitorParts.{MonitorParts}
use Rattle.lang_monitor.specs.Candidates.{candidate_formula}

-- ---- the inputs and locals of a client that waits have places from `FIRST_INPUT + FIRST_INPUT`
-- on, apart from those of the block that runs

abbrev pub waiting_place : ℕ → ℕ
waiting_place place = if nat_lt place FIRST_INPUT then place else place + FIRST_INPUT

abbrev pub waiting_term : Term → Term
waiting_term term = record { place = waiting_place term.place; times = term.times }

abbrev pub waiting_form : Linear → Linear
waiting_form form = record { terms = map waiting_term form.terms; constant = form.constant }

abbrev pub waiting_layer : Formula-F Formula → Formula-F Formula
waiting_layer (Row form) = Row (waiting_form form)
waiting_layer (Flag place is) = Flag (waiting_place place) is
waiting_layer (Every parts) = Every parts
waiting_layer (Some_of parts) = Some_of parts

abbrev pub waiting_step : Formula-F Formula → Formula
waiting_step layer = roll-Formula (waiting_layer layer)

-- the guard at the inputs and locals of a client that waits
abbrev pub for_waiting : Formula → Formula
for_waiting = fold-Formula Formula waiting_step

-- ---- guards

-- with no such number the guard that is always true: claims name blocks and conditions that there
-- are
abbrev pub guard_in_block : Option Block → Formula
guard_in_block None = formulas.All []
guard_in_block (Some block) = block.guard

abbrev pub guard_in_condition : Option Condition → Formula
guard_in_condition None = formulas.All []
guard_in_condition (Some condition) = condition.guard

-- the guard of a block
abbrev pub block_guard : MonitorParts → ℕ → Formula
block_guard monitor block = guard_in_block (slice_get monitor.blocks block)

-- the guard of a condition, which is numbered from 1, at the inputs and locals of a client that
-- waits
abbrev pub waiting_guard : MonitorParts → ℕ → Formula
waiting_guard monitor condition =
    for_waiting (guard_in_condition (slice_get monitor.conditions (condition - 1)))

-- ---- queries

-- the kept candidates, and then more
abbrev pub hypotheses : List Candidate → List Formula → List Formula
hypotheses kept more = map candidate_formula kept ++ more

-- the block keeps the candidate
abbrev pub keeps_query : MonitorParts → List Candidate → Candidate → ℕ → Query
keeps_query monitor kept candidate block = record {
  hyps = hypotheses kept (block_guard monitor block ∷ []);
  block = block;
  post = candidate_formula candidate;
}

-- where the condition's guard was false it is false after the block
abbrev pub none_needed_query : MonitorParts → List Candidate → ℕ → ℕ → Query
none_needed_query monitor kept block condition = record {
  hyps =
      hypotheses kept (block_guard monitor block ∷ negation (waiting_guard monitor condition) ∷ []);
  block = block;
  post = negation (waiting_guard monitor condition);
}

-- where the condition's guard was true it is false after the block
abbrev pub one_enough_query : MonitorParts → List Candidate → ℕ → ℕ → Query
one_enough_query monitor kept condition block = record {
  hyps = hypotheses kept (waiting_guard monitor condition ∷ []);
  block = block;
  post = negation (waiting_guard monitor condition);
}

-- where the condition's guard was false it is true after the block
abbrev pub no_test_query : MonitorParts → List Candidate → ℕ → ℕ → Query
no_test_query monitor kept block condition = record {
  hyps =
      hypotheses kept (block_guard monitor block ∷ negation (waiting_guard monitor condition) ∷ []);
  block = block;
  post = waiting_guard monitor condition;
}

-- the query of a claim under the kept candidates
abbrev pub query_of : MonitorParts → List Candidate → Claim → Query
query_of monitor kept (claims.Keeps candidate block) = keeps_query monitor kept candidate block
query_of monitor kept (claims.NoNote block condition) =
    none_needed_query monitor kept block condition
query_of monitor kept (claims.One condition block) = one_enough_query monitor kept condition block
query_of monitor kept (claims.NoTest block condition) = no_test_query monitor kept block condition
