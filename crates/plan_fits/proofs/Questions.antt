-- The question of a block is true at a valuation exactly where the block may run at its values,
-- within 64 bits, and overflows.
use Rattle.std.proofs.Common.{◌≡◌, ℕ, ◌+◌, ◌^◌, ℤ, pos, neg_ℤ, ◌+ℤ◌, ◌-ℤ◌, ◌*ℤ◌, Bool, true, false, ◌&&◌, cond, List, [], ◌∷◌, ◌++◌, map, Some, refl, sym, ap, ◌∙◌, arith}
use Rattle.std.specs.Prelude.{int_le, int_lt, slice_get}
use Rattle.std.specs.List.{list_all}
use Rattle.std.proofs.lemmas.Bool.{and_from, and_parts}
use Rattle.std.proofs.lemmas.Int.{ints}
use Rattle.std.proofs.lemmas.List.Elements.{All-nil, All-cons, All-head, All-tail}
use Rattle.std.proofs.lemmas.List.Folds.{list_all-append}
use Rattle.lang_base.specs.declared.kind.Kind.{Kind}
use Rattle.lang_base.specs.declared.kind.Kind.TheVariants as kinds
use Rattle.lang_base.specs.declared.value.Value.{Value}
use Rattle.lang_base.specs.declared.value.Value.TheVariants as values
use Rattle.logic_linear.specs.declared.formula.Formula.{Formula}
use Rattle.logic_linear.specs.declared.formula.Formula.TheVariants as formulas
use Rattle.logic_linear.specs.declared.formula.Formula.TheOpen.{Row}
use Rattle.logic_linear.specs.declared.formula.Formula.TheViews.{rolls-Row}
use Rattle.logic_linear.specs.declared.formula.Formula.TheFolds.{fold-roll-Formula}
use Rattle.logic_linear.specs.Linear.{Linear}
use Rattle.logic_linear.specs.Truth.{Valuation, layer_truth, truth_of, value_of}
use Rattle.lang_monitor.specs.declared.candidate.Candidate.{Candidate}
use Rattle.lang_monitor.specs.declared.candidate.Candidate.TheVariants as candidates
use Rattle.lang_monitor.specs.declared.monitor.Block.{Block}
use Rattle.lang_monitor.specs.MonitorParts.{MonitorParts, IsMonitor, Places, fits_formula, fits_result, fits_statement}
use Rattle.lang_monitor.specs.Bodies.{Inputs, fits_64, inputs_from, overflows_in, values_from}
use Rattle.lang_monitor.specs.Candidates.{candidate_formula, candidates_of}
use Rattle.lang_monitor.specs.Triples.{places_of}
use Rattle.machine_implicit.proofs.Placed.{placed}
use Rattle.machine_implicit.proofs.Sums.{both_true}
use Rattle.machine_implicit.specs.inner.Placed.{AreFewPlaces}
use Rattle.machine_events.specs.Plans.{AreSomeOf}
use Rattle.logic_wp.specs.NegatedQueries.{query_of_parts}
use Rattle.logic_wp.specs.Paths.{body_paths}
use Rattle.plan_fits.specs.Fits.{AreIn64, MayRunIn64}
use Rattle.plan_fits.specs.Outside.{block_question, bounds_from, bounds_of, has_numbers, hyps_of, path_outside}
use Rattle.plan_fits.proofs.CandidateKinds.{kept_about, kept_hold, kept_true}
use Rattle.plan_fits.proofs.OutsideTruth.{parts_truth, question_truth}
use Rattle.plan_fits.proofs.ReadValues.{are_kinds, state_at, truth_read}

-- ---- bounds of 64 bits

abbrev bounded : Valuation → List Candidate → Bool
bounded v some = list_all (truth_of v) (map candidate_formula some)

single_truth : (v : Valuation) (form : Linear) → truth_of v (formulas.Row form) ≡ int_le (value_of v form) (pos 0)
single_truth v form = ap (truth_of v) (sym (rolls-Row form)) ∙ fold-roll-Formula Bool (layer_truth v) (Row form)

most : (n : ℤ) → int_le ((pos 1 *ℤ n +ℤ pos 0) +ℤ neg_ℤ (pos (2 ^ 63) -ℤ pos 1)) (pos 0) ≡ int_lt n (pos (2 ^ 63))
most n = grind (arith, ints)

least : (n : ℤ) → int_le ((neg_ℤ (pos 1) *ℤ n +ℤ pos 0) +ℤ neg_ℤ (pos (2 ^ 63))) (pos 0) ≡ int_le (neg_ℤ (pos (2 ^ 63))) n
least n = grind (arith, ints)

both_ways : (a b rest : Bool) → (b && (a && rest)) ≡ ((a && b) && rest)
both_ways true true rest = refl
both_ways true false rest = refl
both_ways false true rest = refl
both_ways false false rest = refl

same_both : (a b c d e : Bool) → a ≡ c → b ≡ d → (a && (b && e)) ≡ (c && (d && e))
same_both a b c d e f g = rw (f, g) refl

int_bounded : (v : Valuation) (place : ℕ) (rest : List Candidate) → bounded v (candidates.AtMost place (pos (2 ^ 63) -ℤ pos 1) ∷ candidates.AtLeast place (neg_ℤ (pos (2 ^ 63))) ∷ rest)
    ≡ (fits_64 (values.Int (v.number place)) && bounded v rest)
int_bounded v place rest =
    same_both _ _ (int_lt (v.number place) (pos (2 ^ 63))) (int_le (neg_ℤ (pos (2 ^ 63))) (v.number place)) (bounded v rest)
    (single_truth v _ ∙ most (v.number place)) (single_truth v _ ∙ least (v.number place))
    ∙ both_ways (int_le (neg_ℤ (pos (2 ^ 63))) (v.number place)) (int_lt (v.number place) (pos (2 ^ 63))) (bounded v rest)

abbrev all_short : List Value → Bool
all_short some = list_all fits_64 some

slots_bounded : (v : Valuation) (place : ℕ) (some : List Kind) → bounded v (bounds_from place some) ≡ all_short (values_from v place some)
slots_bounded v place [] = refl
slots_bounded v place (kinds.Int ∷ some) =
    int_bounded v place (bounds_from (place + 1) some) ∙ ap (λ (held : Bool). fits_64 (values.Int (v.number place)) && held) (slots_bounded v (place + 1) some)
slots_bounded v place (kinds.Bool ∷ some) = slots_bounded v (place + 1) some

mapped_append : (some others : List Candidate) → map candidate_formula (some ++ others) ≡ map candidate_formula some ++ map candidate_formula others
mapped_append [] others = refl
mapped_append (first ∷ some) others = ap (λ (rest : List Formula). candidate_formula first ∷ rest) (mapped_append some others)

bounded_append : (v : Valuation) (some others : List Candidate) → bounded v (some ++ others) ≡ (bounded v some && bounded v others)
bounded_append v some others = ap (list_all (truth_of v)) (mapped_append some others) ∙ list_all-append (truth_of v) (map candidate_formula some) (map candidate_formula others)

same_and : (a b c d : Bool) → a ≡ c → b ≡ d → (a && b) ≡ (c && d)
same_and a b c d e f = rw (e, f) refl

abbrev short_at : Places → Valuation → Bool
short_at places v = all_short (state_at places v) && (all_short (values_from v 16 places.inputs) && all_short (values_from v 22 places.locals))

places_bounded : (v : Valuation) (places : Places) → bounded v (bounds_of places) ≡ short_at places v
places_bounded v places =
    bounded_append v (bounds_from 0 places.fields) (bounds_from 16 places.inputs ++ bounds_from 22 places.locals)
    ∙ same_and _ _ _ _ (slots_bounded v 0 places.fields)
    (bounded_append v (bounds_from 16 places.inputs) (bounds_from 22 places.locals) ∙ same_and _ _ _ _ (slots_bounded v 16 places.inputs) (slots_bounded v 22 places.locals))

are_short : (some : List Value) → all_short some ≡ true → AreIn64 some
are_short [] is = All-nil (λ (value : Value). fits_64 value ≡ true)
are_short (value ∷ some) is =
    let both = and_parts (fits_64 value) (all_short some) is in
    All-cons (λ (value : Value). fits_64 value ≡ true) value some both.0 (are_short some both.1)

short_are : (some : List Value) → AreIn64 some → all_short some ≡ true
short_are [] are = refl
short_are (value ∷ some) are =
    and_from (fits_64 value) (all_short some) (All-head (λ (value : Value). fits_64 value ≡ true) value some are) (short_are some (All-tail (λ (value : Value). fits_64 value ≡ true) value some are))

-- ---- the hypotheses

and_true : (a : Bool) → (a && true) ≡ a
and_true true = refl
and_true false = refl

hyps_truth : (monitor : MonitorParts) (kept : List Candidate) (block : Block) (v : Valuation) → list_all (truth_of v) (hyps_of monitor kept block)
    ≡ ((bounded v kept && short_at (places_of monitor block) v) && truth_of v block.guard)
hyps_truth monitor kept block v =
    let bounds = bounds_of (places_of monitor block) in
    list_all-append (truth_of v) (map candidate_formula (kept ++ bounds)) (block.guard ∷ [])
    ∙ same_and _ _ _ _ (bounded_append v kept bounds ∙ ap (λ (held : Bool). bounded v kept && held) (places_bounded v (places_of monitor block))) (and_true (truth_of v block.guard))

-- a block of the monitor, with what its rule says of it
record BlockRule (monitor : MonitorParts) (block : Block) : Type 0 where
  few : AreFewPlaces (places_of monitor block)
  guard : fits_formula (places_of monitor block) block.guard ≡ true
  body : list_all (fits_statement (places_of monitor block)) block.body ≡ true
  answers : fits_result (places_of monitor block) block.result ≡ true

block_rule : (monitor : MonitorParts) (number : ℕ) (block : Block) → IsMonitor monitor → slice_get monitor.blocks number ≡ Some block → BlockRule monitor block
block_rule monitor number block rule is =
    let here = placed monitor number block rule is in
    let places = places_of monitor block in
    let first = both_true (fits_formula places block.guard) (list_all (fits_statement places) block.body && fits_result places block.result) here.fits in
    let rest = both_true (list_all (fits_statement places) block.body) (fits_result places block.result) first.1 in
    record { few = here.few; guard = first.0; body = rest.0; answers = rest.1 }

abbrev pub runs_truth : MonitorParts → List Candidate → Block → Valuation → Bool
runs_truth monitor kept block v = (bounded v kept && short_at (places_of monitor block) v) && truth_of v block.guard

abbrev pub inputs_at : MonitorParts → Block → Valuation → Inputs
inputs_at monitor block v = inputs_from v (places_of monitor block)

abbrev pub own_state : MonitorParts → Block → Valuation → List Value
own_state monitor block v = state_at (places_of monitor block) v

pub runs_there : (monitor : MonitorParts) (kept : List Candidate) (number : ℕ) (block : Block) (v : Valuation) → IsMonitor monitor → AreSomeOf kept (candidates_of monitor) → slice_get monitor.blocks number ≡ Some block
    → runs_truth monitor kept block v ≡ true → MayRunIn64 monitor kept number block (inputs_at monitor block v) (own_state monitor block v)
runs_there monitor kept number block v rule are is holds =
    let here = block_rule monitor number block rule is in
    let places = places_of monitor block in
    let both = and_parts (bounded v kept && short_at places v) (truth_of v block.guard) holds in
    let first = and_parts (bounded v kept) (short_at places v) both.0 in
    let short = and_parts (all_short (state_at places v)) (all_short (values_from v 16 places.inputs) && all_short (values_from v 22 places.locals)) first.1 in
    let inputs = and_parts (all_short (values_from v 16 places.inputs)) (all_short (values_from v 22 places.locals)) short.1 in
    record {
      runs = record {
        rule = rule;
        candidates = are;
        is = is;
        fits = are_kinds v 0 places.fields;
        inputs_fit = record { arguments = are_kinds v 16 places.inputs; locals = are_kinds v 22 places.locals };
        guard = truth_read places v block.guard here.guard ∙ both.1;
        kept_hold = kept_hold places.fields v kept here.few.fields (kept_about monitor kept are) first.0;
      };
      state_fits = are_short (state_at places v) short.0;
      arguments_fit = are_short (values_from v 16 places.inputs) inputs.0;
      locals_fit = are_short (values_from v 22 places.locals) inputs.1;
    }

pub there_runs : (monitor : MonitorParts) (kept : List Candidate) (number : ℕ) (block : Block) (v : Valuation) → MayRunIn64 monitor kept number block (inputs_at monitor block v) (own_state monitor block v)
    → runs_truth monitor kept block v ≡ true
there_runs monitor kept number block v run =
    let here = block_rule monitor number block run.runs.rule run.runs.is in
    let places = places_of monitor block in
    and_from (bounded v kept && short_at places v) (truth_of v block.guard)
    (and_from (bounded v kept) (short_at places v) (kept_true places.fields v kept here.few.fields (kept_about monitor kept run.runs.candidates) run.runs.kept_hold)
    (and_from (all_short (state_at places v)) (all_short (values_from v 16 places.inputs) && all_short (values_from v 22 places.locals)) (short_are (state_at places v) run.state_fits)
    (and_from (all_short (values_from v 16 places.inputs)) (all_short (values_from v 22 places.locals)) (short_are (values_from v 16 places.inputs) run.arguments_fit) (short_are (values_from v 22 places.locals) run.locals_fit))))
    (sym (truth_read places v block.guard here.guard) ∙ run.runs.guard)

-- ---- a block with numbers

pub full_truth : (monitor : MonitorParts) (kept : List Candidate) (number : ℕ) (block : Block) (v : Valuation) → IsMonitor monitor → slice_get monitor.blocks number ≡ Some block → has_numbers block ≡ true
    → truth_of v (block_question monitor kept block) ≡ (runs_truth monitor kept block v && overflows_in (inputs_at monitor block v) block (own_state monitor block v))
full_truth monitor kept number block v rule is has =
    let here = block_rule monitor number block rule is in
    let parts = map (path_outside block.result) (body_paths block.body) in
    ap (truth_of v) (chosen (query_of_parts (hyps_of monitor kept block) parts) (formulas.Any []) (has_numbers block) has)
    ∙ question_truth v (hyps_of monitor kept block) parts
    ∙ same_and _ _ _ _ (hyps_truth monitor kept block v) (parts_truth (places_of monitor block) here.few block here.body here.answers v)
  where
    chosen : (one other : Formula) (test : Bool) → test ≡ true → cond test one other ≡ one
    chosen one other true is = refl
    chosen one other false is = absurd cc
