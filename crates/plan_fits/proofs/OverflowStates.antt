-- The values at which a question is true are those with which the block leaves 64 bits.
use Rattle.std.proofs.Common.{◌≡◌, ℕ, Bool, true, false, ◌&&◌, List, Option, Some, None}
use Rattle.std.proofs.lemmas.Bool.{and_parts, leb-true}
use Rattle.logic_linear.specs.declared.formula.Formula.{Formula}
use Rattle.logic_linear.specs.Measures.{MOST_CUBES, cubes_of}
use Rattle.lang_monitor.specs.declared.candidate.Candidate.{Candidate}
use Rattle.lang_monitor.specs.MonitorParts.{MonitorParts, IsMonitor}
use Rattle.lang_monitor.specs.Candidates.{candidates_of}
use Rattle.machine_events.specs.Plans.{AreSomeOf}
use Rattle.logic_solve.specs.declared.valuation.Solution.{Solution}
use Rattle.logic_solve.specs.Solutions.{IsSolution, valuation_of}
use Rattle.logic_wp.specs.Limits.{value_if}
use Rattle.logic_wp.specs.PlainClaims.{has_few_cubes}
use Rattle.plan_fits.specs.Outside.{outside_question}
use Rattle.plan_fits.specs.States.{IsOverflow}
use Rattle.plan_fits.specs.Within.{is_made_within}
use Rattle.plan_fits.proofs.Exactness.{never_fits, somewhere_by}

not_made : (test few : Bool) (question : Formula) → None ≡ value_if test question → (test && few) ≡ true → ⊥
not_made true few question none asked = cc
not_made false few question none asked = cc

pub no_question : (monitor : MonitorParts) (kept : List Candidate) (number : ℕ) → None ≡ value_if (is_made_within monitor kept number) (outside_question monitor kept number) → IsOverflow monitor kept number None
no_question monitor kept number none asked differences =
    absurd (not_made (is_made_within monitor kept number) (has_few_cubes (outside_question monitor kept number)) (outside_question monitor kept number) none asked)

pub solved_overflows : (monitor : MonitorParts) (kept : List Candidate) (number : ℕ) (found : Option Solution) → IsMonitor monitor → AreSomeOf kept (candidates_of monitor)
    → IsSolution (outside_question monitor kept number) found → IsOverflow monitor kept number found
solved_overflows monitor kept number (Some solution) rule some is = somewhere_by monitor kept number (valuation_of solution) rule some is
solved_overflows monitor kept number None rule some is = λ asked differences.
    let both = and_parts (is_made_within monitor kept number) (has_few_cubes (outside_question monitor kept number)) asked in
    never_fits monitor kept number (is (record { differences = differences; few_cubes = leb-true (cubes_of (outside_question monitor kept number)) MOST_CUBES both.1 }))
