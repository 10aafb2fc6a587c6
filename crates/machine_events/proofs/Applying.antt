-- What valid triples say of a block that runs in a state, at inputs of its own, and at those of a
-- client that waits.
use Rattle.std.proofs.Common.{◌≡◌, ℕ, Bool, true, false, not, ◌&&◌, List, [], ◌∷◌, map, length, Option, Some, IsSomeAnd, refl, sym, ap, subst, ◌∙◌}
use Rattle.std.specs.Prelude.{All, slice_get}
use Rattle.std.specs.List.{list_all}
use Rattle.std.proofs.lemmas.List.Elements.{All-nil, All-cons, All-head, All-tail}
use Rattle.std.proofs.lemmas.Bool.{not-true}
use Rattle.logic_linear.specs.declared.formula.Formula.{Formula}
use Rattle.logic_linear.specs.declared.formula.Formula.TheVariants as formulas
use Rattle.logic_linear.specs.Negation.{negation}
use Rattle.logic_linear.specs.Truth.{truth_of}
use Rattle.lang_base.specs.declared.value.Value.{Value}
use Rattle.lang_monitor.specs.declared.candidate.Candidate.{Candidate}
use Rattle.lang_monitor.specs.declared.query.Query.{Query}
use Rattle.lang_monitor.specs.declared.monitor.Block.{Block}
use Rattle.lang_monitor.specs.declared.monitor.Condition.{Condition}
use Rattle.lang_monitor.specs.MonitorParts.{MonitorParts, IsMonitor}
use Rattle.lang_monitor.specs.Bodies.{Inputs, no_inputs, valuation, after, IsValid}
use Rattle.lang_monitor.specs.Candidates.{candidate_formula, candidate_truth}
use Rattle.lang_monitor.specs.Candidates.{AllHold, candidates_of}
use Rattle.lang_monitor.specs.Queries.{for_waiting, guard_in_block, guard_in_condition, block_guard, waiting_guard, hypotheses}
use Rattle.lang_monitor.specs.Triples.{places_of, IsValidQuery, Keeps, NoneNeeded, OneEnough, NoTestNeeded}
use Rattle.machine_implicit.specs.Steps.{FitsState, FitsInputs}
use Rattle.machine_implicit.proofs.Placed.{placed}
use Rattle.machine_events.specs.Plans.{AreSomeOf, IsCondition}
use Rattle.machine_events.specs.Laws.{MayRun}
use Rattle.machine_events.proofs.CandidatePlaces.{is_low, kept_low}
use Rattle.machine_events.proofs.Valuations.{Fits, joint, inputs_after, triple_meets, guard_at, waiting_at, not_waiting_at, candidate_at, hypotheses_true}

-- ---- a block of a monitor

pub fits_here : (monitor : MonitorParts) (number : ℕ) (block : Block) (inputs : Inputs)
    (state : List Value) → IsMonitor monitor → slice_get monitor.blocks number ≡ Some block
    → FitsState monitor state → FitsInputs monitor block.method inputs
    → Fits (places_of monitor block) block state inputs
fits_here monitor number block inputs state rule is fits inputs_fit =
    let here = placed monitor number block rule is in
    record {
      few = here.few;
      block_fits = here.fits;
      state_fits = fits;
      arguments_fit = inputs_fit.arguments;
      locals_fit = inputs_fit.locals;
    }

-- ---- what a query says of the block

at_block : (monitor : MonitorParts) (query : Query) (block : Block)
    → slice_get monitor.blocks query.block ≡ Some block → IsValidQuery monitor query
    → IsValid (places_of monitor block) (formulas.All query.hyps) block.body query.post
at_block monitor query block is valid =
    subst (λ (one : Option Block). IsSomeAnd one (λ block. IsValid (places_of monitor block) (formulas.All query.hyps) block.body query.post)) is valid

pub pair_true : (a b : Bool) → a ≡ true → b ≡ true → (a && (b && true)) ≡ true
pair_true true true is also = refl
pair_true true false is also = also
pair_true false b is also = is

one_true : (a : Bool) → a ≡ true → (a && true) ≡ true
one_true true is = refl
one_true false is = is

pub own_guard : (monitor : MonitorParts) (kept : List Candidate) (number : ℕ) (block : Block)
    (inputs : Inputs) (state : List Value) (others : Inputs)
    → MayRun monitor kept number block inputs state
    → truth_of (joint state inputs others) (block_guard monitor number) ≡ true
own_guard monitor kept number block inputs state others run =
    ap (λ (one : Option Block). truth_of (joint state inputs others) (guard_in_block one)) run.is
    ∙ guard_at (places_of monitor block) block state inputs others (fits_here monitor number block inputs state run.rule run.is run.fits run.inputs_fit) ∙ run.guard

waiting_is : (monitor : MonitorParts) (condition : ℕ) (which : Condition)
    → IsCondition monitor condition which
    → waiting_guard monitor condition ≡ for_waiting which.guard
waiting_is monitor condition which is = ap (λ (one : Option Condition). for_waiting (guard_in_condition one)) is.there

pub waiting_truth : (monitor : MonitorParts) (condition : ℕ) (which : Condition) (state : List Value)
    (inputs others : Inputs) → IsCondition monitor condition which
    → truth_of (joint state inputs others) (waiting_guard monitor condition)
    ≡ truth_of (valuation state others) which.guard
waiting_truth monitor condition which state inputs others is =
    ap (truth_of (joint state inputs others)) (waiting_is monitor condition which is) ∙ waiting_at state inputs others which.guard

pub not_waiting_truth : (monitor : MonitorParts) (condition : ℕ) (which : Condition)
    (state : List Value) (inputs others : Inputs) → IsCondition monitor condition which
    → truth_of (joint state inputs others) (negation (waiting_guard monitor condition))
    ≡ not (truth_of (valuation state others) which.guard)
not_waiting_truth monitor condition which state inputs others is =
    ap (λ (guard : Formula). truth_of (joint state inputs others) (negation guard)) (waiting_is monitor condition which is) ∙ not_waiting_at state inputs others which.guard

-- where the hypotheses are true, the post formula is true after the block
pub meets : (monitor : MonitorParts) (kept : List Candidate) (number : ℕ) (block : Block)
    (inputs : Inputs) (state : List Value) (others : Inputs) (more : List Formula) (post : Formula)
    → MayRun monitor kept number block inputs state
    → IsValidQuery monitor (record { hyps = hypotheses kept more; block = number; post = post })
    → list_all (λ part. part) (map (truth_of (joint state inputs others)) more) ≡ true
    → truth_of (joint (after inputs block.body state).state
    (inputs_after inputs (after inputs block.body state)) others) post ≡ true
meets monitor kept number block inputs state others more post run valid holds =
    triple_meets (places_of monitor block) block state inputs others (formulas.All (hypotheses kept more)) post
    (fits_here monitor number block inputs state run.rule run.is run.fits run.inputs_fit)
    (at_block monitor (record { hyps = hypotheses kept more; block = number; post = post }) block run.is valid)
    (hypotheses_true (length monitor.fields) state inputs others kept more run.rule.few_fields (kept_low monitor kept run.candidates) run.kept_hold holds)

-- ---- the triples

pub none_needed_applies : (monitor : MonitorParts) (kept : List Candidate) (number : ℕ)
    (block : Block) (inputs : Inputs) (state : List Value) (others : Inputs) (condition : ℕ)
    (which : Condition)
    → MayRun monitor kept number block inputs state → IsCondition monitor condition which
    → NoneNeeded monitor kept number condition
    → truth_of (valuation state others) which.guard ≡ false
    → truth_of (valuation (after inputs block.body state).state others) which.guard ≡ false
none_needed_applies monitor kept number block inputs state others condition which run is valid was =
    let next = (after inputs block.body state).state in
    let given = inputs_after inputs (after inputs block.body state) in
    let v = joint state inputs others in
    let done = meets monitor kept number block inputs state others (block_guard monitor number ∷ negation (waiting_guard monitor condition) ∷ []) (negation (waiting_guard monitor condition)) run valid
    (pair_true (truth_of v (block_guard monitor number)) (truth_of v (negation (waiting_guard monitor condition)))
    (own_guard monitor kept number block inputs state others run) (not_waiting_truth monitor condition which state inputs others is ∙ ap not was)) in
    not-true (truth_of (valuation next others) which.guard) (sym (not_waiting_truth monitor condition which next given others is) ∙ done)

pub one_enough_applies : (monitor : MonitorParts) (kept : List Candidate) (number : ℕ)
    (block : Block) (inputs : Inputs) (state : List Value) (others : Inputs) (condition : ℕ)
    (which : Condition)
    → MayRun monitor kept number block inputs state → IsCondition monitor condition which
    → OneEnough monitor kept condition number
    → truth_of (valuation state others) which.guard ≡ true
    → truth_of (valuation (after inputs block.body state).state others) which.guard ≡ false
one_enough_applies monitor kept number block inputs state others condition which run is valid was =
    let next = (after inputs block.body state).state in
    let given = inputs_after inputs (after inputs block.body state) in
    let done = meets monitor kept number block inputs state others (waiting_guard monitor condition ∷ []) (negation (waiting_guard monitor condition)) run valid
    (one_true (truth_of (joint state inputs others) (waiting_guard monitor condition)) (waiting_truth monitor condition which state inputs others is ∙ was)) in
    not-true (truth_of (valuation next others) which.guard) (sym (not_waiting_truth monitor condition which next given others is) ∙ done)

pub no_test_applies : (monitor : MonitorParts) (kept : List Candidate) (number : ℕ) (block : Block)
    (inputs : Inputs) (state : List Value) (others : Inputs) (condition : ℕ) (which : Condition)
    → MayRun monitor kept number block inputs state → IsCondition monitor condition which
    → NoTestNeeded monitor kept number condition
    → truth_of (valuation state others) which.guard ≡ false
    → truth_of (valuation (after inputs block.body state).state others) which.guard ≡ true
no_test_applies monitor kept number block inputs state others condition which run is valid was =
    let next = (after inputs block.body state).state in
    let given = inputs_after inputs (after inputs block.body state) in
    let v = joint state inputs others in
    sym (waiting_truth monitor condition which next given others is)
    ∙ meets monitor kept number block inputs state others (block_guard monitor number ∷ negation (waiting_guard monitor condition) ∷ []) (waiting_guard monitor condition) run valid
    (pair_true (truth_of v (block_guard monitor number)) (truth_of v (negation (waiting_guard monitor condition)))
    (own_guard monitor kept number block inputs state others run) (not_waiting_truth monitor condition which state inputs others is ∙ ap not was))

abbrev AreKept : MonitorParts → List Candidate → ℕ → List Candidate → Type 0
AreKept monitor kept number some = All (λ candidate. Keeps monitor kept candidate number) some

each_kept : (monitor : MonitorParts) (kept : List Candidate) (number : ℕ) (block : Block)
    (inputs : Inputs) (state : List Value) → MayRun monitor kept number block inputs state
    → (some : List Candidate) → All (λ candidate. is_low (length monitor.fields) candidate
    ≡ true) some → AreKept monitor kept number some
    → AllHold (after inputs block.body state).state some
each_kept monitor kept number block inputs state run [] low keeps = All-nil (λ candidate. candidate_truth (after inputs block.body state).state candidate ≡ true)
each_kept monitor kept number block inputs state run (candidate ∷ some) low keeps =
    let fields = length monitor.fields in
    let next = (after inputs block.body state).state in
    let given = inputs_after inputs (after inputs block.body state) in
    let valid = All-head (λ (one : Candidate). Keeps monitor kept one number) candidate some keeps in
    let done = meets monitor kept number block inputs state no_inputs (block_guard monitor number ∷ []) (candidate_formula candidate) run valid
    (one_true (truth_of (joint state inputs no_inputs) (block_guard monitor number)) (own_guard monitor kept number block inputs state no_inputs run)) in
    let own = sym (candidate_at fields next given no_inputs candidate run.rule.few_fields (All-head (λ (one : Candidate). is_low fields one ≡ true) candidate some low)) ∙ done in
    All-cons (λ (one : Candidate). candidate_truth next one ≡ true) candidate some own
    (each_kept monitor kept number block inputs state run some
    (All-tail (λ (one : Candidate). is_low fields one ≡ true) candidate some low) (All-tail (λ (one : Candidate). Keeps monitor kept one number) candidate some keeps))

pub kept_applies : (monitor : MonitorParts) (kept some : List Candidate) (number : ℕ)
    (block : Block) (inputs : Inputs) (state : List Value)
    → MayRun monitor kept number block inputs state
    → AreSomeOf some (candidates_of monitor) → AreKept monitor kept number some
    → AllHold (after inputs block.body state).state some
kept_applies monitor kept some number block inputs state run are keeps = each_kept monitor kept number block inputs state run some (kept_low monitor some are) keeps
