-- What the test says of candidates at the starts of a monitor.
use Rattle.std.proofs.Common.{◌≡◌, ◌⊎◌, ◌↔◌, inl, inr, ℕ, suc, ℤ, Bool, true, false, not, cond, IsTrue, List, get_or, sym, subst, arith, ap, refl, ◌∙◌}
use Rattle.std.specs.Prelude.{◌==◌, int_le, slice_get}
use Rattle.std.specs.List.{All, Contains, filter}
use Rattle.std.proofs.lemmas.Int.{ints}
use Rattle.std.proofs.lemmas.Bool.{true≢false}
use Rattle.std.proofs.lemmas.List.Elements.{Contains-get_or, filter_passes}
use Rattle.lang_base.specs.declared.value.Value.{Value}
use Rattle.lang_monitor.specs.declared.candidate.Candidate.{Candidate}
use Rattle.lang_monitor.specs.declared.candidate.Candidate.TheVariants as candidates
use Rattle.lang_monitor.specs.declared.monitor.Field.{Field}
use Rattle.lang_monitor.specs.MonitorParts.{MonitorParts, IsMonitor, start_of}
use Rattle.lang_monitor.specs.Starts.{IsStart}
use Rattle.lang_monitor.specs.Candidates.{candidate_truth}
use Rattle.lang_monitor.specs.Triples.{HoldAtStart, IsFalseAtStart, IsTrueAtStart}
use Rattle.plan_candidates.specs.TrueAtStart.{AreTrueAtStart}
use Rattle.plan_candidates.specs.inner.Starts.{least_at, most_at, root_at, starts_true}
use Rattle.plan_candidates.proofs.SomeOf.{filter_contains, some_filter}
use Rattle.plan_candidates.proofs.StartRanges.{in_range, number_found, number_rooted, truth_stays}
use Rattle.plan_candidates.specs.inner.Edges.{edge, top_of}
use Rattle.plan_candidates.proofs.StartChoices.{edge_least, edge_most, edge_starts}
use Rattle.plan_candidates.proofs.StartTruths.{number_in, at_least_truth, at_most_truth, below_truth, flag_truth_is}

-- ---- numbers

up_to : (number most bound : ℤ) → int_le number most ≡ true → int_le most bound ≡ true → int_le number bound ≡ true
up_to number most bound first second = grind (arith, ints, first, second)

between_two : (left most least right : ℤ) → int_le left most ≡ true → int_le most least ≡ true → int_le least right ≡ true → int_le left right ≡ true
between_two left most least right first second third = up_to left most right first (up_to most least right second third)

same_number : (left right : ℤ) → left ≡ right → int_le left right ≡ true
same_number left right same = grind (arith, ints, same)

equal_places : (left right : ℕ) → (left == right) ≡ true → left ≡ right
equal_places left right same = grind arith

-- ---- what passes is true

below_holds : (monitor : MonitorParts) (left right : ℕ) (same : Bool) → IsMonitor monitor → (root_at monitor.fields left == root_at monitor.fields right) ≡ same
    → cond same true (int_le (most_at monitor.fields left) (least_at monitor.fields right)) ≡ true
    → (start : List Value) → IsStart monitor.fields start → int_le (number_in start left) (number_in start right) ≡ true
below_holds monitor left right true rule roots e start is =
    let root : root_at monitor.fields left ≡ root_at monitor.fields right = equal_places (root_at monitor.fields left) (root_at monitor.fields right) roots in
    same_number (number_in start left) (number_in start right)
    (number_rooted monitor.fields start left rule.few_fields is ∙ ap (λ (place : ℕ). number_found (slice_get start place)) root ∙ sym (number_rooted monitor.fields start right rule.few_fields is))
below_holds monitor left right false rule roots e start is =
    between_two (number_in start left) (most_at monitor.fields left) (least_at monitor.fields right) (number_in start right)
    (in_range monitor.fields start left rule.few_fields rule.origins is).below e
    (in_range monitor.fields start right rule.few_fields rule.origins is).above

pub passes_holds : (monitor : MonitorParts) (candidate : Candidate) → IsMonitor monitor → starts_true monitor.fields candidate ≡ true → IsTrueAtStart monitor candidate
passes_holds monitor (candidates.AtMost field bound) rule e = λ start is.
    at_most_truth start field bound
    ∙ up_to (number_in start field) (most_at monitor.fields field) bound (in_range monitor.fields start field rule.few_fields rule.origins is).below e
passes_holds monitor (candidates.AtLeast field bound) rule e = λ start is.
    at_least_truth start field bound
    ∙ up_to bound (least_at monitor.fields field) (number_in start field) e (in_range monitor.fields start field rule.few_fields rule.origins is).above
passes_holds monitor (candidates.Flag field wanted) rule e = λ start is.
    flag_truth_is start field wanted
    ∙ ap (λ (truth : Bool). cond wanted truth (not truth)) (truth_stays monitor.fields start (start_of monitor) field rule.few_fields rule.origins is rule.opens)
    ∙ sym (flag_truth_is (start_of monitor) field wanted) ∙ e
passes_holds monitor (candidates.Below left right) rule e = λ start is.
    below_truth start left right ∙ below_holds monitor left right (root_at monitor.fields left == root_at monitor.fields right) rule refl e start is

-- ---- what does not is false at some start

other_root : (place : ℕ) → (place == suc place) ≡ false
other_root place = grind arith

turned : (left right : ℕ) → (left == right) ≡ false → (right == left) ≡ false
turned left right e = grind arith

-- where the monitor starts so, a candidate that does not pass is false
pub fails_there : (monitor : MonitorParts) (candidate : Candidate) → IsMonitor monitor → starts_true monitor.fields candidate ≡ false
    → IsStart monitor.fields (edge monitor.fields (top_of monitor.fields candidate)) → candidate_truth (edge monitor.fields (top_of monitor.fields candidate)) candidate ≡ false
fails_there monitor (candidates.AtMost field bound) rule e is =
    let start : List Value = edge monitor.fields (root_at monitor.fields field) in
    at_most_truth start field bound ∙ ap (λ (number : ℤ). int_le number bound) (edge_most monitor.fields field rule.few_fields rule.origins is) ∙ e
fails_there monitor (candidates.AtLeast field bound) rule e is =
    let start : List Value = edge monitor.fields (suc (root_at monitor.fields field)) in
    at_least_truth start field bound
    ∙ ap (int_le bound) (edge_least monitor.fields (suc (root_at monitor.fields field)) field (other_root (root_at monitor.fields field)) rule.few_fields rule.origins is) ∙ e
fails_there monitor (candidates.Flag field wanted) rule e is =
    flag_truth_is (edge monitor.fields 0) field wanted
    ∙ ap (λ (truth : Bool). cond wanted truth (not truth)) (truth_stays monitor.fields (edge monitor.fields 0) (start_of monitor) field rule.few_fields rule.origins is rule.opens)
    ∙ sym (flag_truth_is (start_of monitor) field wanted) ∙ e
fails_there monitor (candidates.Below left right) rule e is = by_roots (root_at monitor.fields left == root_at monitor.fields right) refl e
  where
    by_roots : (same : Bool) → (root_at monitor.fields left == root_at monitor.fields right) ≡ same
        → cond same true (int_le (most_at monitor.fields left) (least_at monitor.fields right)) ≡ false
        → candidate_truth (edge monitor.fields (root_at monitor.fields left)) (candidates.Below left right) ≡ false
    by_roots true roots fails = absurd (true≢false fails)
    by_roots false roots fails =
        let start : List Value = edge monitor.fields (root_at monitor.fields left) in
        let first = edge_most monitor.fields left rule.few_fields rule.origins is in
        let second = edge_least monitor.fields (root_at monitor.fields left) right (turned (root_at monitor.fields left) (root_at monitor.fields right) roots) rule.few_fields rule.origins is in
        below_truth start left right ∙ ap (λ (number : ℤ). int_le number (number_in start right)) first ∙ ap (int_le (most_at monitor.fields left)) second ∙ fails

pub starts_there : (monitor : MonitorParts) (candidate : Candidate) → IsMonitor monitor → IsStart monitor.fields (edge monitor.fields (top_of monitor.fields candidate))
starts_there monitor candidate rule = edge_starts monitor.fields (start_of monitor) (top_of monitor.fields candidate) rule.origins rule.opens

pub fails_somewhere : (monitor : MonitorParts) (candidate : Candidate) → IsMonitor monitor → starts_true monitor.fields candidate ≡ false → IsFalseAtStart monitor candidate
fails_somewhere monitor candidate rule e =
    let is = starts_there monitor candidate rule in
    (edge monitor.fields (top_of monitor.fields candidate), is, fails_there monitor candidate rule e is)

-- ---- one candidate, and some

never_both : (monitor : MonitorParts) (candidate : Candidate) → IsTrueAtStart monitor candidate → IsFalseAtStart monitor candidate → ⊥
never_both monitor candidate holds fails = true≢false (sym (holds fails.0 fails.1) ∙ fails.2)

by_test : (monitor : MonitorParts) (candidate : Candidate) (test : Bool) → IsMonitor monitor → starts_true monitor.fields candidate ≡ test → IsTrueAtStart monitor candidate → test ≡ true
by_test monitor candidate true rule e holds = refl
by_test monitor candidate false rule e holds = absurd (never_both monitor candidate holds (fails_somewhere monitor candidate rule e))

pub tested : (monitor : MonitorParts) (candidate : Candidate) → IsMonitor monitor → IsTrueAtStart monitor candidate → starts_true monitor.fields candidate ≡ true
tested monitor candidate rule holds = by_test monitor candidate (starts_true monitor.fields candidate) rule refl holds

pub one_tested : (monitor : MonitorParts) (candidate : Candidate) (result : Bool) → IsMonitor monitor → result ≡ starts_true monitor.fields candidate → IsTrue result ↔ IsTrueAtStart monitor candidate
one_tested monitor candidate result rule same =
    subst (λ (test : Bool). IsTrue test ↔ IsTrueAtStart monitor candidate) (sym same) (passes_holds monitor candidate rule, tested monitor candidate rule)

pub one_fails : (monitor : MonitorParts) (candidate : Candidate) (result : Bool) → IsMonitor monitor → result ≡ starts_true monitor.fields candidate → result ≡ false → IsFalseAtStart monitor candidate
one_fails monitor candidate result rule same fails = fails_somewhere monitor candidate rule (sym same ∙ fails)

pub all_hold : (monitor : MonitorParts) (kept : List Candidate) → IsMonitor monitor → All (λ candidate. starts_true monitor.fields candidate ≡ true) kept → HoldAtStart monitor kept
all_hold monitor kept rule pass = λ start is k d low. passes_holds monitor (get_or kept k d) rule (pass k d low) start is

pub all_pass : (monitor : MonitorParts) (kept : List Candidate) → IsMonitor monitor → HoldAtStart monitor kept → All (λ candidate. starts_true monitor.fields candidate ≡ true) kept
all_pass monitor kept rule hold = λ k d low. tested monitor (get_or kept k d) rule (λ start is. hold start is k d low)

-- ---- those that pass

kept_or_fails : (monitor : MonitorParts) (all : List Candidate) (candidate : Candidate) (test : Bool) → IsMonitor monitor → starts_true monitor.fields candidate ≡ test → Contains all candidate
    → Contains (filter (starts_true monitor.fields) all) candidate ⊎ IsFalseAtStart monitor candidate
kept_or_fails monitor all candidate true rule e is = inl (filter_contains (starts_true monitor.fields) all candidate is e)
kept_or_fails monitor all candidate false rule e is = inr (fails_somewhere monitor candidate rule e)

pub passing_are : (monitor : MonitorParts) (all : List Candidate) → IsMonitor monitor → AreTrueAtStart monitor all (filter (starts_true monitor.fields) all)
passing_are monitor all rule = record {
  in_order = some_filter (starts_true monitor.fields) all;
  starts = all_hold monitor (filter (starts_true monitor.fields) all) rule (filter_passes (starts_true monitor.fields) all);
  each = λ k d low. kept_or_fails monitor all (get_or all k d) (starts_true monitor.fields (get_or all k d)) rule refl (Contains-get_or all k d low);
}

pub all_passing : (monitor : MonitorParts) (fields : List Field) (all listed made kept : List Candidate) → IsMonitor monitor → fields ≡ monitor.fields → listed ≡ made → made ≡ all
    → kept ≡ filter (starts_true fields) listed → AreTrueAtStart monitor all kept
all_passing monitor fields all listed made kept rule same lists are is =
    subst (AreTrueAtStart monitor all) (sym (is ∙ ap (λ (some : List Field). filter (starts_true some) listed) same ∙ ap (filter (starts_true monitor.fields)) (lists ∙ are))) (passing_are monitor all rule)
