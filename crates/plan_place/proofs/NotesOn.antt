-- Notes that are made one after the other, one at most for each condition.
use Rattle.std.proofs.Common.{◌≡◌, ◌==◌, inl, inr, ℕ, zero, suc, ◌+◌, ◌<◌, ◌≤◌, Bool, true, false, cond, List, [], ◌∷◌, ◌++◌, map, append-nil, Option, Some, None, refl, sym, ap, subst, ◌∙◌, add-one, arith}
use Rattle.std.specs.Prelude.{All, IfSome, ◌||◌}
use Rattle.std.specs.List.{flat_map, range_with_len}
use Rattle.std.specs.List.Sorted.{IsStrictlyIncreasing}
use Rattle.std.specs.Option.{option_to_list}
use Rattle.std.proofs.lemmas.Option.{none-some, same_Some}
use Rattle.std.proofs.lemmas.Bool.{true≢false, cases_eq, eq-eqb, eqb-true, or_left, or_right}
use Rattle.std.proofs.lemmas.List.{map-append}
use Rattle.std.proofs.lemmas.List.Concat.{flat_map-append}
use Rattle.std.proofs.lemmas.List.Elements.{All-nil, All-cons, All-head, All-tail, All-append, All-map, All-push, All-weaker}
use Rattle.machine_events.specs.declared.plan.Note.{Note}
use Rattle.machine_events.specs.Plans.{has_note}
use Rattle.machine_events.specs.Rising.{AreRising}
use Rattle.plan_place.specs.Relayed.{note_on}
use Rattle.plan_claims.proofs.Lists.{range_more}
use Rattle.plan_place.proofs.Placing.{rises_more}

-- ---- one note, or none, for each condition of a range

-- the note that is made for a condition is on it
abbrev pub AreOnTheirs : (ℕ → Option Note) → Type 0
AreOnTheirs f = (condition : ℕ) → IfSome (f condition) (λ note. note.condition ≡ condition)

abbrev pub made : (ℕ → Option Note) → ℕ → ℕ → List Note
made f first count = flat_map (λ condition. option_to_list (f condition)) (range_with_len first count)

-- what holds of each note that is made holds of all
pub all_made : (P : Note → Type 0) (f : ℕ → Option Note) (first count : ℕ)
    → ((condition : ℕ) → first ≤ condition → condition < first + count → IfSome (f condition) P)
    → All P (made f first count)
all_made P f first zero each = All-nil P
all_made P f first (suc count) each =
    All-append P (option_to_list (f first)) (made f (first + 1) count) (of_one (f first) (each first (omega arith) (omega arith)))
    (all_made P f (first + 1) count (λ condition low high. each condition (omega arith) (omega arith)))
  where
    of_one : (found : Option Note) → IfSome found P → All P (option_to_list found)
    of_one None some = All-nil P
    of_one (Some note) some = All-cons P note [] some (All-nil P)

-- ---- they rise

pub record RiseTo (count : ℕ) (notes : List Note) : Type 0 where
  pub rising : AreRising notes
  pub below : All (λ note. note.condition ≤ count) notes

rise_then : (count : ℕ) (notes : List Note) (found : Option Note) → IfSome found (λ note. note.condition ≡ count + 1)
    → RiseTo count notes → RiseTo (count + 1) (notes ++ option_to_list found)
rise_then count notes None on rise = subst (RiseTo (count + 1)) (sym (append-nil notes)) (record {
  rising = rise.rising;
  below = All-weaker (λ (note : Note). note.condition ≤ count) (λ (note : Note). note.condition ≤ count + 1) (λ note low. omega arith) notes rise.below;
})
rise_then count notes (Some note) on rise = record {
  rising = subst IsStrictlyIncreasing (sym (map-append (λ (note : Note). note.condition) notes (note ∷ [])))
      (rises_more (map (λ (note : Note). note.condition) notes) note.condition count rise.rising
      (All-map (λ (one : ℕ). one ≤ count) (λ (note : Note). note.condition) notes rise.below) on);
  below = All-push (λ (note : Note). note.condition ≤ count + 1) notes note
      (All-weaker (λ (note : Note). note.condition ≤ count) (λ (note : Note). note.condition ≤ count + 1) (λ note low. omega arith) notes rise.below) (omega (arith, on));
}

pub made_more : (f : ℕ → Option Note) (count : ℕ) → made f 1 (count + 1) ≡ made f 1 count ++ option_to_list (f (count + 1))
made_more f count =
    let each : ℕ → List Note = λ condition. option_to_list (f condition) in
    ap (flat_map each) (range_more 1 count (count + 1) (omega arith)) ∙ flat_map-append each (range_with_len 1 count) ((count + 1) ∷ [])
    ∙ ap (λ (rest : List Note). made f 1 count ++ rest) (append-nil (each (count + 1)))

pub made_rise : (f : ℕ → Option Note) → AreOnTheirs f → (count : ℕ) → RiseTo count (made f 1 count)
made_rise f on zero = record { rising = λ place within. absurd (omega arith); below = All-nil (λ (note : Note). note.condition ≤ 0) }
made_rise f on (suc count) =
    subst (λ (n : ℕ). RiseTo n (made f 1 n)) (add-one count)
    (subst (RiseTo (count + 1)) (sym (made_more f count)) (rise_then count (made f 1 count) (f (count + 1)) (on (count + 1)) (made_rise f on count)))

-- ---- which of them is on a condition

has_either : (xs ys : List Note) (condition : ℕ) → has_note ys condition ≡ true → has_note (xs ++ ys) condition ≡ true
has_either [] ys condition has = has
has_either (x ∷ xs) ys condition has = or_right (x.condition == condition) (has_note (xs ++ ys) condition) (has_either xs ys condition has)

at_first : (f : ℕ → Option Note) → AreOnTheirs f → (condition : ℕ) (rest : List Note) (found : Option Note) (note : Note) → f condition ≡ found → found ≡ Some note
    → has_note (option_to_list found ++ rest) condition ≡ true
at_first f on condition rest None note there is = absurd (none-some note is)
at_first f on condition rest (Some one) note there is =
    or_left (one.condition == condition) (has_note rest condition)
    (eq-eqb one.condition condition (subst (λ (found : Option Note). IfSome found (λ note. note.condition ≡ condition)) there (on condition)))

pub has_made : (f : ℕ → Option Note) → AreOnTheirs f → (first count condition : ℕ) (note : Note) → first ≤ condition → condition < first + count
    → f condition ≡ Some note → has_note (made f first count) condition ≡ true
has_made f on first zero condition note low high is = absurd (omega arith)
has_made f on first (suc count) condition note low high is = elim (cases_eq condition first) [
  | inl same ↦ at_first f on condition (made f (first + 1) count) (f first) note (ap f same) (sym (ap f same) ∙ is)
  | inr differs ↦ has_either (option_to_list (f first)) (made f (first + 1) count) condition (has_made f on (first + 1) count condition note (omega arith) (omega arith) is)
]

pub not_made : (f : ℕ → Option Note) → AreOnTheirs f → (count condition : ℕ) → 1 ≤ condition → condition ≤ count
    → has_note (made f 1 count) condition ≡ false → f condition ≡ None
not_made f on count condition low high none = by_found (f condition) refl
  where
    by_found : (found : Option Note) → f condition ≡ found → found ≡ None
    by_found None is = refl
    by_found (Some note) is = absurd (true≢false (sym (has_made f on 1 count condition note low (omega arith) is) ∙ none))

-- on each condition there is at most one

abbrev pub NoneOn : ℕ → List Note → Type 0
NoneOn condition [] = Unit {0}
NoneOn condition (note ∷ notes) = (note.condition ≡ condition → ⊥) × NoneOn condition notes

abbrev pub OnceOn : ℕ → List Note → Type 0
OnceOn condition [] = Unit {0}
OnceOn condition (note ∷ notes) = (note.condition ≡ condition → NoneOn condition notes) × OnceOn condition notes

none_then : (q first : ℕ) (rest : List Note) (found : Option Note) → IfSome found (λ note. note.condition ≡ first) → q < first
    → NoneOn q rest → NoneOn q (option_to_list found ++ rest)
none_then q first rest None on below none = none
none_then q first rest (Some note) on below none = ((λ same. omega arith), none)

none_made : (q : ℕ) (f : ℕ → Option Note) → AreOnTheirs f → (first count : ℕ) → q < first → NoneOn q (made f first count)
none_made q f on first zero below = tt
none_made q f on first (suc count) below =
    none_then q first (made f (first + 1) count) (f first) (on first) below (none_made q f on (first + 1) count (omega arith))

once_then : (q first : ℕ) (rest : List Note) (found : Option Note) → IfSome found (λ note. note.condition ≡ first)
    → (q ≡ first → NoneOn q rest) → OnceOn q rest → OnceOn q (option_to_list found ++ rest)
once_then q first rest None on none once = once
once_then q first rest (Some note) on none once = ((λ same. none (sym same ∙ on)), once)

pub once_made : (q : ℕ) (f : ℕ → Option Note) → AreOnTheirs f → (first count : ℕ) → OnceOn q (made f first count)
once_made q f on first zero = tt
once_made q f on first (suc count) =
    once_then q first (made f (first + 1) count) (f first) (on first) (λ same. none_made q f on (first + 1) count (omega arith)) (once_made q f on (first + 1) count)

-- ---- the note that is found

abbrev pub is_some : Option Note → Bool
is_some None = false
is_some (Some note) = true

pub on_is : (notes : List Note) (condition : ℕ) → has_note notes condition ≡ is_some (note_on notes condition)
on_is [] condition = refl
on_is (note ∷ notes) condition = by_test (note.condition == condition) (on_is notes condition)
  where
    by_test : (test : Bool) → has_note notes condition ≡ is_some (note_on notes condition)
        → (test || has_note notes condition) ≡ is_some (cond test (Some note) (note_on notes condition))
    by_test true more = refl
    by_test false more = more

pub on_found : (P : Note → Type 0) (notes : List Note) (condition : ℕ) (note : Note) → note_on notes condition ≡ Some note → All P notes
    → (note.condition ≡ condition) × P note
on_found P [] condition note is all = absurd (none-some note is)
on_found P (one ∷ notes) condition note is all =
    by_test (one.condition == condition) refl is (λ there. on_found P notes condition note there (All-tail P one notes all))
  where
    by_test : (test : Bool) → (one.condition == condition) ≡ test → cond test (Some one) (note_on notes condition) ≡ Some note
        → (note_on notes condition ≡ Some note → (note.condition ≡ condition) × P note) → (note.condition ≡ condition) × P note
    by_test true passes same more =
        let whole : one ≡ note = same_Some one note same in
        (sym (ap (λ (each : Note). each.condition) whole) ∙ eqb-true one.condition condition passes, subst P whole (All-head P one notes all))
    by_test false passes same more = more same
