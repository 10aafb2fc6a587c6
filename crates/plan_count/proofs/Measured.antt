-- What the queries on a condition and a block are made of.
use Rattle.std.proofs.Common.{◌≡◌, ℕ, ◌-◌, ◌≤◌, ℤ, Bool, true, false, ◌&&◌, List, [], ◌∷◌, ◌++◌, map, length, get_or, sym, ap, subst, ◌∙◌, arith}
use Rattle.std.specs.Prelude.{slice_get, IsTrue, nat_eq}
use Rattle.std.proofs.lemmas.List.{append_assoc}
use Rattle.std.proofs.lemmas.Option.{get_or_from_slice_get}
use Rattle.lang_base.specs.Numbers.{is_within}
use Rattle.logic_linear.specs.declared.formula.Formula.{Formula}
use Rattle.logic_linear.specs.declared.formula.Formula.TheVariants as formulas
use Rattle.logic_linear.specs.declared.formula.Formula.TheOpen.{Row}
use Rattle.logic_linear.specs.declared.formula.Formula.TheFolds.{fold-roll-Formula}
use Rattle.logic_linear.specs.Linear.{Linear, IsLinear}
use Rattle.logic_linear.specs.Places.{rows_of}
use Rattle.logic_linear.specs.Negation.{can_negate, can_negate_layer, can_negate_linear, negation}
use Rattle.lang_monitor.specs.declared.candidate.Candidate.{Candidate}
use Rattle.lang_monitor.specs.declared.monitor.Condition.{Condition}
use Rattle.lang_monitor.specs.declared.query.Query.{Query}
use Rattle.lang_monitor.specs.Candidates.{candidate_formula}
use Rattle.lang_monitor.specs.Conditions.{IsDescribed}
use Rattle.lang_monitor.specs.MonitorParts.{MonitorParts, IsMonitor}
use Rattle.lang_monitor.specs.Inputs.{reads_inputs}
use Rattle.lang_monitor.specs.Queries.{block_guard, hypotheses, waiting_guard}
use Rattle.machine_events.proofs.Facing.{all_at, is_some_and}
use Rattle.machine_events.specs.Plans.{IsCondition}
use Rattle.machine_events.specs.Counts.{row_measure, without_row, zero_form}
use Rattle.machine_events.specs.CountClaims.{minus, more_by, net, old_form}
use Rattle.logic_wp.specs.PlainClaims.{ReadsNone}
use Rattle.logic_wp.proofs.Fitting.{condition_fits}
use Rattle.plan_count.specs.Questions.{HasRowAt, MayBeAsked, first_query, leaves_query, takes_at}
use Rattle.plan_count.specs.inner.Rows.{IsCountable, IsMeasured, fresh_post, still_post, tied}
use Rattle.plan_count.proofs.Answering.{GuardsStay, guard_at}
use Rattle.plan_count.proofs.GuardCuts.{all_negates, any_negates, free_negates_twice}
use Rattle.plan_count.proofs.GuardRows.{form_countable}
use Rattle.plan_count.proofs.TiedForms.{form_can, no_more, old_less_can, turned_can}

-- ---- the form is countable

countable : GuardsStay → (monitor : MonitorParts) (condition row block : ℕ) → IsMonitor monitor → MayBeAsked monitor condition row block
    → IsCountable (row_measure (waiting_guard monitor condition) row).form
countable stay monitor condition row block rule may =
    let reads = may.reads_none in
    let found = is_some_and (slice_get monitor.conditions (condition - 1)) (λ (held : Condition). held.reads_inputs ≡ false) reads.1 in
    let which = found.0 in
    let there : IsCondition monitor condition which = record { numbered = reads.0; there = found.1 } in
    let described = all_at IsDescribed monitor.conditions (condition - 1) which found.1 rule.described in
    let plain : reads_inputs which.guard ≡ false = sym described.inputs ∙ found.2 in
    let fits = condition_fits monitor (condition - 1) which rule found.1 in
    subst (λ (guard : Formula). IsCountable (row_measure guard row).form) (sym (guard_at stay monitor condition which there plain))
    (form_countable fits.places which.guard row fits.fits plain)

-- ---- whether the guard has a row

-- the guard of a condition as it is read
waiting_is : GuardsStay → (monitor : MonitorParts) (conditions : List Condition) (condition : ℕ) (held : Condition) → IsMonitor monitor → ReadsNone monitor condition
    → conditions ≡ monitor.conditions → held ≡ get_or conditions (condition - 1) held → waiting_guard monitor condition ≡ held.guard
waiting_is stay monitor conditions condition held rule reads same is =
    let found = is_some_and (slice_get monitor.conditions (condition - 1)) (λ (held : Condition). held.reads_inputs ≡ false) reads.1 in
    let which = found.0 in
    let described = all_at IsDescribed monitor.conditions (condition - 1) which found.1 rule.described in
    let held_is : held ≡ which = is ∙ ap (λ (all : List Condition). get_or all (condition - 1) held) same ∙ get_or_from_slice_get monitor.conditions (condition - 1) which held found.1 in
    guard_at stay monitor condition which (record { numbered = reads.0; there = found.1 }) (sym described.inputs ∙ found.2)
    ∙ ap (λ (one : Condition). one.guard) (sym held_is)

pub has_row_is : GuardsStay → (monitor : MonitorParts) (conditions : List Condition) (condition row after : ℕ) (held : Condition) → IsMonitor monitor → ReadsNone monitor condition
    → conditions ≡ monitor.conditions → held ≡ get_or conditions (condition - 1) held → after ≡ row - length (rows_of held.guard) → 1 ≤ row
    → (IsTrue (nat_eq after 0) → HasRowAt monitor condition row) × (HasRowAt monitor condition row → IsTrue (nat_eq after 0))
has_row_is stay monitor conditions condition row after held rule reads same is after_is low =
    (λ none. record { first = low; last = last after (length (rows_of (waiting_guard monitor condition))) left_is none }, λ has. none after (length (rows_of (waiting_guard monitor condition))) left_is has.last)
  where
    left_is : after ≡ row - length (rows_of (waiting_guard monitor condition))
    left_is = after_is ∙ ap (λ (guard : Formula). row - length (rows_of guard)) (sym (waiting_is stay monitor conditions condition held rule reads same is))

    last : (left all : ℕ) → left ≡ row - all → nat_eq left 0 ≡ true → row ≤ all
    last left all is none = grind (arith, is, none)

    none : (left all : ℕ) → left ≡ row - all → row ≤ all → nat_eq left 0 ≡ true
    none left all is within = grind (arith, is, within)

-- ---- what the queries are made of

pub measured : GuardsStay → (monitor : MonitorParts) (kept : List Candidate) (condition row block : ℕ) (hyps idle : List Formula) (guard shut free : Formula) (form : Linear) (bounded : Formula)
    → IsMonitor monitor → MayBeAsked monitor condition row block
    → hyps ≡ hypotheses kept (block_guard monitor block ∷ [])
    → idle ≡ hypotheses kept (block_guard monitor block ∷ negation (waiting_guard monitor condition) ∷ [])
    → guard ≡ waiting_guard monitor condition → shut ≡ negation (waiting_guard monitor condition)
    → form ≡ (row_measure guard row).form → free ≡ without_row row guard → bounded ≡ negation free → can_negate shut ≡ true
    → IsMeasured monitor kept condition row block hyps idle guard shut form bounded
measured stay monitor kept condition row block hyps idle guard shut free form bounded rule may hyps_are idle_is guard_is shut_is form_is free_is bounded_is shuts =
    let counted = form_is ∙ ap (λ (one : Formula). (row_measure one row).form) guard_is in
    let unbounded = bounded_is ∙ ap negation (free_is ∙ ap (without_row row) guard_is) in record {
      hyps_is = hyps_are;
      idle_is = idle_is;
      guard_is = guard_is;
      shut_is = shut_is;
      form_is = counted;
      bounded_is = unbounded;
      shuts = shuts;
      bounds = ap can_negate unbounded ∙ free_negates_twice (waiting_guard monitor condition) row (ap can_negate (sym shut_is) ∙ shuts);
      countable = subst IsCountable (sym counted) (countable stay monitor condition row block rule may);
    }

-- ---- post formulas can be negated

row_can : (form : Linear) → can_negate (formulas.Row form) ≡ can_negate_linear form
row_can form = ap can_negate (sym (formulas.rolls-Row form)) ∙ fold-roll-Formula Bool can_negate_layer (Row form)

still_can : (shut bounded : Formula) (form : Linear) (number : ℤ) → can_negate shut ≡ true → can_negate bounded ≡ true → IsLinear form → IsCountable form
    → is_within 1 number ≡ true → can_negate (still_post shut bounded form number) ≡ true
still_can shut bounded form number shuts bounds rule is small =
    any_negates (shut ∷ formulas.All parts ∷ [])
    ∙ two (can_negate shut) (can_negate (formulas.All parts)) shuts (all_negates parts ∙ three (can_negate bounded) (can_negate (formulas.Row form)) (can_negate (formulas.Row (more_by number (minus (old_form form) form)))) bounds
    (row_can form ∙ form_can form is) (row_can (more_by number (minus (old_form form) form)) ∙ old_less_can form number rule is small))
  where
    parts : List Formula
    parts = bounded ∷ formulas.Row form ∷ formulas.Row (more_by number (minus (old_form form) form)) ∷ []

    two : (a b : Bool) → a ≡ true → b ≡ true → (a && (b && true)) ≡ true
    two a b one other = cc

    three : (a b c : Bool) → a ≡ true → b ≡ true → c ≡ true → (a && (b && (c && true))) ≡ true
    three a b c one other third = cc

pub still_can_at : (shut bounded : Formula) (form : Linear) (number read : ℤ) → can_negate shut ≡ true → can_negate bounded ≡ true → IsLinear form → IsCountable form
    → number ≡ read → is_within 1 read ≡ true → can_negate (still_post shut bounded form number) ≡ true
still_can_at shut bounded form number read shuts bounds rule is same small =
    still_can shut bounded form number shuts bounds rule is (ap (is_within 1) same ∙ small)

pub fresh_can : (shut bounded : Formula) (form : Linear) → can_negate shut ≡ true → can_negate bounded ≡ true → IsLinear form → IsCountable form
    → can_negate (fresh_post shut bounded form) ≡ true
fresh_can shut bounded form shuts bounds rule is =
    any_negates (shut ∷ formulas.All parts ∷ [])
    ∙ two (can_negate shut) (can_negate (formulas.All parts)) shuts (all_negates parts ∙ two (can_negate bounded) (can_negate (formulas.Row (minus zero_form form))) bounds
    (row_can (minus zero_form form) ∙ turned_can form rule is))
  where
    parts : List Formula
    parts = bounded ∷ formulas.Row (minus zero_form form) ∷ []

    two : (a b : Bool) → a ≡ true → b ≡ true → (a && (b && true)) ≡ true
    two a b one other = cc

-- ---- the queries

pub leaves_made : (monitor : MonitorParts) (kept : List Candidate) (condition row block : ℕ) (hyps idle : List Formula) (guard shut : Formula) (form : Linear) (bounded : Formula)
    (gives : Bool) (number : ℤ) (all : List Formula) (post : Formula)
    → IsMeasured monitor kept condition row block hyps idle guard shut form bounded
    → all ≡ hyps ++ tied guard bounded form → post ≡ still_post shut bounded form number
    → number ≡ net (takes_at monitor condition block) gives
    → ◌≡◌ {A = Query} (record { hyps = all; block = block; post = post }) (leaves_query monitor kept condition row block gives)
leaves_made monitor kept condition row block hyps idle guard shut form bounded gives number all post are all_is post_is number_is = λ i. record { hyps = hyps_path i; block = block; post = post_path i }
  where
    hyps_path : all ≡ (leaves_query monitor kept condition row block gives).hyps
    hyps_path =
        all_is ∙ ap (λ (some : List Formula). some ++ tied guard bounded form) are.hyps_is
        ∙ append_assoc (map candidate_formula kept) (block_guard monitor block ∷ []) (tied guard bounded form)
        ∙ (λ i. map candidate_formula kept ++ (block_guard monitor block ∷ tied (are.guard_is i) (are.bounded_is i) (are.form_is i)))
        ∙ ap (λ (last : Linear). map candidate_formula kept ++ (block_guard monitor block ∷ waiting_guard monitor condition ∷ negation (without_row row (waiting_guard monitor condition))
        ∷ formulas.Row (minus (row_measure (waiting_guard monitor condition) row).form (old_form (row_measure (waiting_guard monitor condition) row).form)) ∷ formulas.Row last ∷ []))
        (no_more (minus (old_form (row_measure (waiting_guard monitor condition) row).form) (row_measure (waiting_guard monitor condition) row).form))

    post_path : post ≡ (leaves_query monitor kept condition row block gives).post
    post_path = post_is ∙ (λ i. still_post (are.shut_is i) (are.bounded_is i) (are.form_is i) (number_is i))

pub first_made : (monitor : MonitorParts) (kept : List Candidate) (condition row block : ℕ) (hyps idle : List Formula) (guard shut : Formula) (form : Linear) (bounded : Formula)
    (all : List Formula) (post : Formula)
    → IsMeasured monitor kept condition row block hyps idle guard shut form bounded
    → all ≡ idle → post ≡ fresh_post shut bounded form
    → ◌≡◌ {A = Query} (record { hyps = all; block = block; post = post }) (first_query monitor kept condition row block)
first_made monitor kept condition row block hyps idle guard shut form bounded all post are all_is post_is = λ i. record {
  hyps = (all_is ∙ are.idle_is) i;
  block = block;
  post = (post_is ∙ (λ j. fresh_post (are.shut_is j) (are.bounded_is j) (are.form_is j))) i;
}
