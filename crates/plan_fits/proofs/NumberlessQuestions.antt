-- The question of a block without numbers is decided.
use Rattle.std.proofs.Common.{◌≡◌, ℕ, Bool, true, false, not, ◌||◌, cond, List, [], ◌∷◌, Some, refl, sym, ap, subst, ◌∙◌}
use Rattle.std.specs.Prelude.{nat_le, slice_get}
use Rattle.std.proofs.lemmas.Option.{none-some}
use Rattle.std.proofs.lemmas.Bool.{and_from}
use Rattle.logic_linear.specs.declared.formula.Formula.{Formula}
use Rattle.logic_linear.specs.declared.formula.Formula.TheVariants as formulas
use Rattle.logic_linear.specs.declared.formula.Formula.TheOpen.{Formula-F, Row, Flag, All as Every, Any as Some_of}
use Rattle.logic_linear.specs.declared.formula.Formula.TheViews.{out-Formula, out-roll-Formula, roll-Formula, rolls-All, rolls-Any, rolls-Flag, rolls-Row}
use Rattle.logic_linear.specs.declared.formula.Formula.TheFolds.{fold-roll-Formula}
use Rattle.logic_linear.specs.Measures.{MOST_CUBES, cubes_layer, cubes_of}
use Rattle.lang_monitor.specs.declared.candidate.Candidate.{Candidate}
use Rattle.lang_monitor.specs.declared.monitor.Block.{Block}
use Rattle.lang_monitor.specs.Bodies.{overflows_in}
use Rattle.lang_monitor.specs.MonitorParts.{MonitorParts}
use Rattle.logic_cert.specs.declared.cert.Literal.{Literal}
use Rattle.logic_solve.specs.Cubes.{IsCubeFrom, row, flag, every, chosen, ended}
use Rattle.logic_solve.specs.Refutation.{HasUndecidedCube}
use Rattle.logic_wp.specs.PlainClaims.{has_few_cubes}
use Rattle.plan_fits.specs.Answers.{QuestionMayStayOpen, limits, undecided}
use Rattle.plan_fits.specs.Fits.{Fits64}
use Rattle.plan_fits.specs.Outside.{has_numbers, outside_question, question_in}
use Rattle.plan_fits.specs.Within.{is_asked_within, is_made_in, is_made_within}
use Rattle.plan_fits.proofs.Exactness.{numberless_stays}

-- ---- an any of no parts has no cube

abbrev MayStand : Formula-F Formula → Type 0
MayStand (Row form) = Unit {0}
MayStand (Flag place is) = Unit {0}
MayStand (Every parts) = Unit {0}
MayStand (Some_of []) = ⊥
MayStand (Some_of (part ∷ parts)) = Unit {0}

abbrev MayBeFirst : List Formula → Type 0
MayBeFirst [] = Unit {0}
MayBeFirst (formula ∷ todo) = MayStand (out-Formula formula)

out_is : (formula : Formula) (layer : Formula-F Formula) → formula ≡ roll-Formula layer → MayStand layer → MayStand (out-Formula formula)
out_is formula layer is may = subst MayStand (sym (ap out-Formula is ∙ out-roll-Formula layer)) may

first_may : {todo : List Formula} {literals cube : List Literal} → IsCubeFrom todo literals cube → MayBeFirst todo
first_may (row form todo literals cube rest) = out_is (formulas.Row form) (Row form) (sym (rolls-Row form)) tt
first_may (flag place is todo literals cube rest) = out_is (formulas.Flag place is) (Flag place is) (sym (rolls-Flag place is)) tt
first_may (every parts todo literals cube rest) = out_is (formulas.All parts) (Every parts) (sym (rolls-All parts)) tt
first_may (chosen [] todo i part literals cube at rest) = absurd (none-some part at)
first_may (chosen (first ∷ parts) todo i part literals cube at rest) = out_is (formulas.Any (first ∷ parts)) (Some_of (first ∷ parts)) (sym (rolls-Any (first ∷ parts))) tt
first_may (ended literals) = tt

no_cube : HasUndecidedCube (formulas.Any []) → ⊥
no_cube has = subst MayStand (ap out-Formula (sym (rolls-Any [])) ∙ out-roll-Formula (Some_of [])) (first_may has.is_cube)

-- ---- the question of a block without numbers

unchosen : (one other : Formula) (test : Bool) → test ≡ false → cond test one other ≡ other
unchosen one other false is = refl
unchosen one other true is = absurd cc

numberless_question : (monitor : MonitorParts) (kept : List Candidate) (number : ℕ) (block : Block) → slice_get monitor.blocks number ≡ Some block → has_numbers block ≡ false
    → outside_question monitor kept number ≡ formulas.Any []
numberless_question monitor kept number block is none = ap (question_in monitor kept) is ∙ unchosen _ (formulas.Any []) (has_numbers block) none

few_cubes : has_few_cubes (formulas.Any []) ≡ true
few_cubes = ap (λ (n : ℕ). nat_le n MOST_CUBES) (ap cubes_of (sym (rolls-Any [])) ∙ fold-roll-Formula ℕ cubes_layer (Some_of []))

made : (monitor : MonitorParts) (kept : List Candidate) (number : ℕ) (block : Block) → slice_get monitor.blocks number ≡ Some block → has_numbers block ≡ false
    → is_made_within monitor kept number ≡ true
made monitor kept number block is none = ap (is_made_in monitor kept) is ∙ first (has_numbers block) _ none
  where
    first : (a b : Bool) → a ≡ false → (not a || b) ≡ true
    first false b e = refl
    first true b e = absurd cc

true_or_false : (a : Bool) → a ≡ true → a ≡ false → ⊥
true_or_false true e f = cc
true_or_false false e f = cc

pub numberless_fits : (monitor : MonitorParts) (kept : List Candidate) (number : ℕ) (block : Block) → slice_get monitor.blocks number ≡ Some block → has_numbers block ≡ false → Fits64 monitor kept number
numberless_fits monitor kept number block is none other inputs state run over =
    let same : Some block ≡ Some other = sym is ∙ run.runs.is in
    let here : has_numbers other ≡ false = ap has_numbers (sym (one_block block other same)) ∙ none in
    true_or_false (overflows_in inputs other state) over (numberless_stays other here inputs state)
  where
    one_block : (one two : Block) → Some one ≡ Some two → one ≡ two
    one_block one two e = cc

pub numberless_decided : (monitor : MonitorParts) (kept : List Candidate) (number : ℕ) (block : Block) → slice_get monitor.blocks number ≡ Some block → has_numbers block ≡ false → QuestionMayStayOpen monitor kept number → ⊥
numberless_decided monitor kept number block is none (limits beyond) =
    true_or_false (is_asked_within monitor kept number)
    (and_from (is_made_within monitor kept number) (has_few_cubes (outside_question monitor kept number)) (made monitor kept number block is none)
    (ap has_few_cubes (numberless_question monitor kept number block is none) ∙ few_cubes)) beyond
numberless_decided monitor kept number block is none (undecided cube) = no_cube (subst HasUndecidedCube (numberless_question monitor kept number block is none) cube)
