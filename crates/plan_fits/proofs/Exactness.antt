-- A block fits exactly where its question is true nowhere, and what the prover's answers say.
use Rattle.std.proofs.Common.{◌≡◌, ℕ, ◌<◌, Bool, true, false, not, ◌&&◌, cond, List, [], ◌∷◌, Option, Some, None, refl, sym, ap, subst, ◌∙◌, arith, inl, inr}
use Rattle.std.specs.Prelude.{slice_get}
use Rattle.std.specs.List.{list_all}
use Rattle.std.proofs.lemmas.Bool.{and_left, and_right, and_parts, or_from, or_parts}
use Rattle.logic_linear.specs.declared.formula.Formula.{Formula}
use Rattle.logic_linear.specs.declared.formula.Formula.TheVariants as formulas
use Rattle.logic_linear.specs.declared.substitution.Put.{Put}
use Rattle.logic_linear.specs.declared.substitution.Put.TheVariants.{Number, Truth}
use Rattle.logic_linear.specs.Measures.{MOST_CUBES, cubes_of}
use Rattle.logic_linear.specs.Truth.{Valuation, truth_of}
use Rattle.lang_base.specs.declared.value.Value.{Value}
use Rattle.lang_monitor.specs.declared.candidate.Candidate.{Candidate}
use Rattle.lang_monitor.specs.declared.monitor.Block.{Block}
use Rattle.lang_monitor.specs.declared.monitor.Ret.{Ret}
use Rattle.lang_monitor.specs.declared.monitor.Ret.TheVariants as rets
use Rattle.lang_monitor.specs.declared.monitor.Stmt.{Stmt}
use Rattle.lang_monitor.specs.MonitorParts.{MonitorParts, IsMonitor}
use Rattle.lang_monitor.specs.Bodies.{Inputs, Memory, assigning, body_effect, fits_result_64, memory_of, no_inputs, on_memory, overflows_in, result_value, after, values_from}
use Rattle.lang_monitor.specs.Candidates.{candidates_of}
use Rattle.lang_monitor.specs.Triples.{places_of}
use Rattle.lang_monitor.proofs.Statements.{stays_whole}
use Rattle.logic_cert.specs.declared.cert.Cert.{Cert}
use Rattle.logic_cert.specs.Refutes.{Refutes}
use Rattle.logic_solve.specs.Refutation.{IsAnswer, IsLeftOpen}
use Rattle.logic_wp.specs.PlainClaims.{has_few_cubes}
use Rattle.machine_implicit.proofs.Held.{kinds_held}
use Rattle.machine_implicit.proofs.Placed.{placed}
use Rattle.machine_events.specs.Plans.{AreSomeOf}
use Rattle.machine_events.specs.Running.{MayRun}
use Rattle.machine_events.proofs.Valuations.{arguments_back, few_held, fields_back, joint, locals_back}
use Rattle.plan_fits.specs.Answers.{IsFitAnswer, QuestionMayStayOpen, limits, undecided}
use Rattle.plan_fits.specs.Fits.{Fits64, MayRunIn64, OverflowsAt}
use Rattle.plan_fits.specs.Outside.{answers_number, block_question, has_numbers, is_number, is_numberless, outside_question, question_in}
use Rattle.plan_fits.specs.States.{OverflowsBy}
use Rattle.plan_fits.specs.Within.{is_asked_within, is_made_within}
use Rattle.plan_fits.proofs.OutsideTruth.{any_truth}
use Rattle.plan_fits.proofs.Questions.{full_truth, inputs_at, own_state, runs_there, runs_truth, there_runs}

-- ---- blocks without numbers

-- an assignment that is not of an int never overflows
put_stays : (arguments : List Value) (put : Put) → not (is_number put) ≡ true → (memory : Memory) → (assigning arguments put).overflows memory ≡ false
put_stays arguments (Number place form) none memory = absurd cc
put_stays arguments (Truth place is) none memory = refl

not_false : (a : Bool) → not a ≡ false → a ≡ true
not_false true none = refl
not_false false none = absurd cc

body_stays : (body : List Stmt) → not (list_all is_numberless body) ≡ false → (arguments : List Value) (memory : Memory) → (body_effect arguments body).overflows memory ≡ false
body_stays body none arguments =
    stays_whole Memory (on_memory arguments) (λ put. not (is_number put)) (λ when. true) (put_stays arguments) body (not_false (list_all is_numberless body) none)

answer_stays : (memory : Memory) (arguments : List Value) (result : Ret) → answers_number result ≡ false → not (fits_result_64 (result_value memory arguments result)) ≡ false
answer_stays memory arguments rets.Nothing none = refl
answer_stays memory arguments (rets.Int form) none = absurd cc
answer_stays memory arguments (rets.Bool formula) none = refl

pub numberless_stays : (block : Block) → has_numbers block ≡ false → (inputs : Inputs) (state : List Value) → overflows_in inputs block state ≡ false
numberless_stays block none inputs state =
    let both = or_parts (not (list_all is_numberless block.body)) (answers_number block.result) none in
    or_from ((body_effect inputs.arguments block.body).overflows (memory_of state inputs)) (not (fits_result_64 (result_value (after inputs block.body state) inputs.arguments block.result)))
    (body_stays block.body both.0 inputs.arguments (memory_of state inputs)) (answer_stays (after inputs block.body state) inputs.arguments block.result both.1)

-- ---- a state and inputs as a valuation's

abbrev valuation_of_both : List Value → Inputs → Valuation
valuation_of_both state inputs = joint state inputs no_inputs

record Are (monitor : MonitorParts) (block : Block) (inputs : Inputs) (state : List Value) : Type 0 where
  state_is : own_state monitor block (valuation_of_both state inputs) ≡ state
  inputs_are : inputs_at monitor block (valuation_of_both state inputs) ≡ inputs

are : (monitor : MonitorParts) (kept : List Candidate) (number : ℕ) (block : Block) (inputs : Inputs) (state : List Value) → MayRun monitor kept number block inputs state → Are monitor block inputs state
are monitor kept number block inputs state run =
    let places = places_of monitor block in
    let few = (placed monitor number block run.rule run.is).few in
    let v = valuation_of_both state inputs in
    let fields : values_from v 0 places.fields ≡ state =
    ap (values_from v 0) (sym (kinds_held places.fields state run.fits)) ∙ fields_back state inputs no_inputs (omega (arith, few_held places.fields state run.fits, few.fields)) in
    let arguments : values_from v 16 places.inputs ≡ inputs.arguments =
    ap (values_from v 16) (sym (kinds_held places.inputs inputs.arguments run.inputs_fit.arguments))
    ∙ arguments_back state inputs no_inputs (omega (arith, few_held places.inputs inputs.arguments run.inputs_fit.arguments, few.inputs)) in
    let locals : values_from v 22 places.locals ≡ inputs.locals =
    ap (values_from v 22) (sym (kinds_held places.locals inputs.locals run.inputs_fit.locals))
    ∙ locals_back state inputs no_inputs (omega (arith, few_held places.locals inputs.locals run.inputs_fit.locals, few.locals)) in
    record { state_is = fields; inputs_are = λ i. record { arguments = arguments i; locals = locals i } }

-- ---- where no valuation makes the question true the block fits

true_and_true : (a b c : Bool) → a ≡ (b && c) → b ≡ true → c ≡ true → a ≡ false → ⊥
true_and_true a true true e f g h = cc
true_and_true a true false e f g h = cc
true_and_true a false c e f g h = cc

pub never_fits : (monitor : MonitorParts) (kept : List Candidate) (number : ℕ) → ((v : Valuation) → truth_of v (outside_question monitor kept number) ≡ false) → Fits64 monitor kept number
never_fits monitor kept number never block inputs state run over = by (has_numbers block) refl
  where
    by : (has : Bool) → has_numbers block ≡ has → ⊥
    by false has = let stays = numberless_stays block has inputs state in cc
    by true has =
        let v = valuation_of_both state inputs in
        let same = are monitor kept number block inputs state run.runs in
        let here : MayRunIn64 monitor kept number block (inputs_at monitor block v) (own_state monitor block v) =
        subst (λ (one : List Value). MayRunIn64 monitor kept number block (inputs_at monitor block v) one) (sym same.state_is)
        (subst (λ (one : Inputs). MayRunIn64 monitor kept number block one state) (sym same.inputs_are) run) in
        let leaves : overflows_in (inputs_at monitor block v) block (own_state monitor block v) ≡ true =
        (λ i. overflows_in (same.inputs_are i) block (same.state_is i)) ∙ over in
        true_and_true (truth_of v (block_question monitor kept block)) (runs_truth monitor kept block v) (overflows_in (inputs_at monitor block v) block (own_state monitor block v))
        (full_truth monitor kept number block v run.runs.rule run.runs.is has) (there_runs monitor kept number block v here) leaves
        (sym (ap (λ (one : Option Block). truth_of v (question_in monitor kept one)) run.runs.is) ∙ never v)

-- ---- where one does it does not

nowhere : (v : Valuation) → truth_of v (formulas.Any []) ≡ true → ⊥
nowhere v holds = let none = any_truth v [] in cc

pub somewhere_by : (monitor : MonitorParts) (kept : List Candidate) (number : ℕ) (v : Valuation) → IsMonitor monitor → AreSomeOf kept (candidates_of monitor)
    → truth_of v (outside_question monitor kept number) ≡ true → OverflowsBy monitor kept number v
somewhere_by monitor kept number v rule some holds = by (slice_get monitor.blocks number) refl holds
  where
    by_numbers : (block : Block) → slice_get monitor.blocks number ≡ Some block → (has : Bool) → has_numbers block ≡ has → truth_of v (block_question monitor kept block) ≡ true → OverflowsBy monitor kept number v
    by_numbers block is true has holds =
        let both = and_parts (runs_truth monitor kept block v) (overflows_in (inputs_at monitor block v) block (own_state monitor block v)) (sym (full_truth monitor kept number block v rule is has) ∙ holds) in
        record {
          block = block;
          is = is;
          runs = runs_there monitor kept number block v rule some is both.0;
          overflows = both.1;
        }
    by_numbers block is false has holds = absurd (nowhere v (sym (ap (truth_of v) (unchosen _ (formulas.Any []) (has_numbers block) has)) ∙ holds))
      where
        unchosen : (one other : Formula) (test : Bool) → test ≡ false → cond test one other ≡ other
        unchosen one other false is = refl
        unchosen one other true is = absurd cc

    by : (held : Option Block) → slice_get monitor.blocks number ≡ held → truth_of v (question_in monitor kept held) ≡ true → OverflowsBy monitor kept number v
    by None is holds = absurd (nowhere v holds)
    by (Some block) is holds = by_numbers block is (has_numbers block) refl holds

pub somewhere_overflows : (monitor : MonitorParts) (kept : List Candidate) (number : ℕ) (v : Valuation) → IsMonitor monitor → AreSomeOf kept (candidates_of monitor)
    → truth_of v (outside_question monitor kept number) ≡ true → OverflowsAt monitor kept number
somewhere_overflows monitor kept number v rule some holds =
    let at = somewhere_by monitor kept number v rule some holds in
    record {
      block = at.block;
      inputs = inputs_at monitor at.block v;
      state = own_state monitor at.block v;
      runs = at.runs;
      overflows = at.overflows;
    }

pub fits_never : (monitor : MonitorParts) (kept : List Candidate) (number : ℕ) → IsMonitor monitor → AreSomeOf kept (candidates_of monitor) → Fits64 monitor kept number
    → (v : Valuation) → truth_of v (outside_question monitor kept number) ≡ false
fits_never monitor kept number rule some fits v = by (truth_of v (outside_question monitor kept number)) refl
  where
    by : (held : Bool) → truth_of v (outside_question monitor kept number) ≡ held → held ≡ false
    by false is = refl
    by true is = let at = somewhere_overflows monitor kept number v rule some is in absurd (fits at.block at.inputs at.state at.runs at.overflows)

-- ---- what the prover answers

many_cubes : (monitor : MonitorParts) (kept : List Candidate) (number : ℕ) → MOST_CUBES < cubes_of (outside_question monitor kept number) → is_asked_within monitor kept number ≡ false
many_cubes monitor kept number many = and_right (is_made_within monitor kept number) (has_few_cubes (outside_question monitor kept number)) (grind arith)

pub answer_fits : (monitor : MonitorParts) (kept : List Candidate) (number : ℕ) (answer : Option Cert) → IsMonitor monitor → AreSomeOf kept (candidates_of monitor)
    → ((formula : Formula) (cert : Cert) (v : Valuation) → Refutes formula cert → truth_of v formula ≡ false)
    → is_made_within monitor kept number ≡ true
    → IsAnswer (outside_question monitor kept number) answer → IsFitAnswer monitor kept number answer
answer_fits monitor kept number (Some cert) rule some refuted made is = record {
  refutes = is;
  made = made;
  fits = never_fits monitor kept number (λ v. refuted (outside_question monitor kept number) cert v is);
}
answer_fits monitor kept number None rule some refuted made is = λ fits. by fits is
  where
    by : Fits64 monitor kept number → IsLeftOpen (outside_question monitor kept number) → QuestionMayStayOpen monitor kept number
    by fits (inl many) = limits (many_cubes monitor kept number many)
    by fits (inr (inl held)) = let never = fits_never monitor kept number rule some fits held.0 in absurd (both _ never held.1)
      where
        both : (b : Bool) → b ≡ false → b ≡ true → ⊥
        both b never held = cc
    by fits (inr (inr cube)) = undecided cube

pub beyond_fits : (monitor : MonitorParts) (kept : List Candidate) (number : ℕ) → is_made_within monitor kept number ≡ false → IsFitAnswer monitor kept number None
beyond_fits monitor kept number beyond = λ fits. limits (and_left (is_made_within monitor kept number) (has_few_cubes (outside_question monitor kept number)) beyond)
