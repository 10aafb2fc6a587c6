-- Where the formulas of numbers outside 64 bits are true.
use Rattle.std.proofs.Common.{◌≡◌, ◌^◌, ℤ, pos, neg_ℤ, ◌+ℤ◌, ◌-ℤ◌, Bool, true, false, not, ◌&&◌, ◌||◌, List, [], ◌∷◌, ◌++◌, map, sym, arith, ap, refl, ◌∙◌}
use Rattle.std.specs.Prelude.{int_le, int_lt}
use Rattle.std.specs.List.{list_all, list_any}
use Rattle.std.proofs.lemmas.Int.{ints}
use Rattle.std.proofs.lemmas.List.Folds.{list_all-append, list_all-map}
use Rattle.lang_base.specs.declared.value.Value.TheVariants as values
use Rattle.logic_linear.specs.declared.formula.Formula.{Formula}
use Rattle.logic_linear.specs.declared.formula.Formula.TheVariants as formulas
use Rattle.logic_linear.specs.declared.formula.Formula.TheOpen.{Row, All as Every, Any as Some_of}
use Rattle.logic_linear.specs.declared.formula.Formula.TheViews.{rolls-Row, rolls-Any}
use Rattle.logic_linear.specs.declared.formula.Formula.TheFolds.{fold-roll-Formula}
use Rattle.logic_linear.specs.declared.substitution.Put.TheVariants.{Number, Truth}
use Rattle.logic_linear.specs.Linear.{Linear}
use Rattle.logic_linear.specs.Negation.{negation}
use Rattle.logic_linear.specs.Substitution.{assigned}
use Rattle.logic_linear.specs.Truth.{Valuation, layer_truth, sum_of, truth_of, value_of}
use Rattle.logic_linear.proofs.NegationLemmas.{negation_flips}
use Rattle.logic_linear.proofs.SubstitutionLemmas.{substitution_keeps}
use Rattle.lang_monitor.specs.declared.monitor.Block.{Block}
use Rattle.lang_monitor.specs.declared.monitor.Ret.{Ret}
use Rattle.lang_monitor.specs.declared.monitor.Ret.TheVariants as rets
use Rattle.lang_monitor.specs.MonitorParts.{Places, fits_result, fits_statement}
use Rattle.lang_monitor.specs.Changes.{body_change}
use Rattle.lang_monitor.specs.Bodies.{body_effect, fits_64, fits_result_64, inputs_from, overflows_in, result_value, values_from}
use Rattle.machine_implicit.specs.inner.Placed.{AreFewPlaces}
use Rattle.machine_events.specs.CountClaims.{more_by}
use Rattle.logic_wp.specs.declared.step.Step.{Step}
use Rattle.logic_wp.specs.declared.step.Step.TheVariants.{Put, Assume}
use Rattle.logic_wp.specs.NegatedQueries.{both_of, part_before, query_of_parts, some_part}
use Rattle.logic_wp.specs.Paths.{body_paths}
use Rattle.plan_fits.specs.Outside.{answers_outside, outside_64, path_outside}
use Rattle.plan_fits.proofs.ReadValues.{form_read, memory_at, state_at}
use Rattle.plan_fits.proofs.BodyMoves.{body_reached}
use Rattle.plan_fits.proofs.WayTruth.{body_ways, is_outside, some_way_out, way_out}

-- ---- formulas

row_truth : (v : Valuation) (form : Linear) → truth_of v (formulas.Row form) ≡ int_le (value_of v form) (pos 0)
row_truth v form = ap (truth_of v) (sym (rolls-Row form)) ∙ fold-roll-Formula Bool (layer_truth v) (Row form)

any_mapped : (v : Valuation) (parts : List Formula) → list_any (λ part. part) (map (truth_of v) parts) ≡ list_any (truth_of v) parts
any_mapped v [] = refl
any_mapped v (part ∷ parts) = ap (λ (held : Bool). truth_of v part || held) (any_mapped v parts)

pub any_truth : (v : Valuation) (parts : List Formula) → truth_of v (formulas.Any parts) ≡ list_any (truth_of v) parts
any_truth v parts = ap (truth_of v) (sym (rolls-Any parts)) ∙ fold-roll-Formula Bool (layer_truth v) (Some_of parts) ∙ any_mapped v parts

and_true : (a : Bool) → (a && true) ≡ a
and_true true = refl
and_true false = refl

or_false : (a : Bool) → (a || false) ≡ a
or_false true = refl
or_false false = refl

or_same : (a b c d : Bool) → a ≡ b → c ≡ d → (a || c) ≡ (b || d)
or_same a b c d e f = rw (e, f) refl

both_truth : (v : Valuation) (first second : Formula) → truth_of v (both_of first second) ≡ (truth_of v first && truth_of v second)
both_truth v first second =
    fold-roll-Formula Bool (layer_truth v) (Every (first ∷ second ∷ [])) ∙ ap (λ (held : Bool). truth_of v first && held) (and_true (truth_of v second))

-- ---- a number outside 64 bits

above : (s c : ℤ) → not (int_le (s +ℤ (c +ℤ (pos 1 -ℤ pos (2 ^ 63)))) (pos 0)) ≡ not (int_lt (s +ℤ c) (pos (2 ^ 63)))
above s c = grind (arith, ints)

below : (s c : ℤ) → int_le (s +ℤ (c +ℤ (pos 1 +ℤ pos (2 ^ 63)))) (pos 0) ≡ not (int_le (neg_ℤ (pos (2 ^ 63))) (s +ℤ c))
below s c = grind (arith, ints)

not_both : (a b : Bool) → (not b || (not a || false)) ≡ not (a && b)
not_both true true = refl
not_both true false = refl
not_both false true = refl
not_both false false = refl

pub outside_truth : (v : Valuation) (form : Linear) → truth_of v (outside_64 form) ≡ is_outside v form
outside_truth v form =
    let high = more_by (pos 1 -ℤ pos (2 ^ 63)) form in
    let low = more_by (pos 1 +ℤ pos (2 ^ 63)) form in
    any_truth v (negation (formulas.Row high) ∷ formulas.Row low ∷ [])
    ∙ or_same _ _ _ _
    (negation_flips v (formulas.Row high) ∙ ap not (row_truth v high) ∙ above (sum_of v form.terms) form.constant)
    (or_same _ _ false false (row_truth v low ∙ below (sum_of v form.terms) form.constant) refl)
    ∙ not_both (int_le (neg_ℤ (pos (2 ^ 63))) (value_of v form)) (int_lt (value_of v form) (pos (2 ^ 63)))

abbrev pub ends_outside : Ret → Valuation → Bool
ends_outside result v = truth_of v (answers_outside result)

path_truth : (result : Ret) (v : Valuation) (steps : List Step) → truth_of v (path_outside result steps) ≡ way_out (ends_outside result) v steps
path_truth result v [] = refl
path_truth result v (Put (Number place form) ∷ steps) =
    any_truth v (outside_64 form ∷ part_before (Put (Number place form)) (path_outside result steps) ∷ [])
    ∙ or_same _ _ _ _ (outside_truth v form)
    (or_false _ ∙ substitution_keeps (Number place form) v (path_outside result steps) ∙ path_truth result (assigned (Number place form) v) steps)
path_truth result v (Put (Truth place is) ∷ steps) = substitution_keeps (Truth place is) v (path_outside result steps) ∙ path_truth result (assigned (Truth place is) v) steps
path_truth result v (Assume formula ∷ steps) = both_truth v formula (path_outside result steps) ∙ ap (λ (held : Bool). truth_of v formula && held) (path_truth result v steps)

paths_truth : (result : Ret) (v : Valuation) (paths : List (List Step)) → list_any (λ part. part) (map (truth_of v) (map (path_outside result) paths)) ≡ some_way_out (ends_outside result) v paths
paths_truth result v [] = refl
paths_truth result v (path ∷ paths) = or_same _ _ _ _ (path_truth result v path) (paths_truth result v paths)

-- ---- after a body

answer_truth : (places : Places) (v : Valuation) (result : Ret) → fits_result places result ≡ true
    → ends_outside result v ≡ not (fits_result_64 (result_value (memory_at places v) (values_from v 16 places.inputs) result))
answer_truth places v rets.Nothing fits = any_truth v []
answer_truth places v (rets.Int form) fits = outside_truth v form ∙ ap (λ n. not (fits_64 (values.Int n))) (sym (form_read places v form fits))
answer_truth places v (rets.Bool formula) fits = any_truth v []

-- some path leads outside exactly where the block overflows
pub parts_truth : (places : Places) → AreFewPlaces places → (block : Block) → list_all (fits_statement places) block.body ≡ true → fits_result places block.result ≡ true → (v : Valuation)
    → truth_of v (some_part (map (path_outside block.result) (body_paths block.body))) ≡ overflows_in (inputs_from v places) block (state_at places v)
parts_truth places few block fits answers v =
    let reached = body_reached places few block.body fits v in
    let arguments = values_from v 16 places.inputs in
    fold-roll-Formula Bool (layer_truth v) (Some_of (map (path_outside block.result) (body_paths block.body)))
    ∙ paths_truth block.result v (body_paths block.body)
    ∙ body_ways places block.body fits (ends_outside block.result) v
    ∙ ap (λ (held : Bool). (body_effect arguments block.body).overflows (memory_at places v) || held)
    (answer_truth places (body_change block.body v) block.result answers
    ∙ (λ i. not (fits_result_64 (result_value (reached.memory i) (reached.arguments i) block.result))))

-- ---- the question

pub question_truth : (v : Valuation) (hyps parts : List Formula) → truth_of v (query_of_parts hyps parts) ≡ (list_all (truth_of v) hyps && truth_of v (some_part parts))
question_truth v hyps parts =
    fold-roll-Formula Bool (layer_truth v) (Every (hyps ++ some_part parts ∷ []))
    ∙ list_all-map (λ part. part) (truth_of v) (hyps ++ some_part parts ∷ [])
    ∙ list_all-append (truth_of v) hyps (some_part parts ∷ [])
    ∙ ap (λ (held : Bool). list_all (truth_of v) hyps && held) (and_true (truth_of v (some_part parts)))
