-- What stands at the front of a text, and what is left after it.
use Rattle.std.proofs.Common.{◌≡◌, ◌≢◌, ℕ, ◌+◌, ◌<◌, ◌≤◌, List, [], ◌∷◌, ◌++◌, length, take, drop, get_or, Option, Some, None, Result, Ok, Err, refl, sym, ap, subst, ◌∙◌, append_assoc, append-nil, arith}
use Rattle.std.specs.Prelude.{All, IfOk, MatchOption}
use Rattle.std.specs.Borrow.{Bor}
use Rattle.std.specs.declared.alloc.AllocError.{AllocError}
use Rattle.std.specs.List.{flat_map}
use Rattle.std.proofs.lemmas.List.{append_cancel_left, drop_more, drop_all, take_more, take_all, take-append-drop, length-take-le, length_push}
use Rattle.std.proofs.lemmas.List.Concat.{flat_map-append}
use Rattle.std.proofs.lemmas.List.Elements.{All-nil, All-cons, All-head, All-tail, All-append}
use Rattle.report_proofs.specs.Fronts.{AreFor, IsAfter, IsFront, IsNoFront, lines_of}

-- ---- one piece

pub stripped : (bytes piece : List ℕ) (found : Option (Bor (List ℕ)))
    → MatchOption found ((rest : List ℕ) → bytes ≢ piece ++ rest)
    (λ rest. bytes ≡ piece ++ rest.now) → IsAfter bytes piece found
stripped bytes piece None none = λ rest same. none rest (sym same)
stripped bytes piece (Some rest) is = sym is

-- ---- pieces, one after the other

pub pieces_stop : {X : Type 0} (text : X → List ℕ) (pieces : List X) (i : ℕ) (d : X)
    (bytes rest : List ℕ) → i < length pieces
    → flat_map text (take i pieces) ++ rest ≡ bytes
    → ((more : List ℕ) → text (get_or pieces i d) ++ more ≡ rest → ⊥) → (more : List ℕ)
    → flat_map text pieces ++ more ≡ bytes → ⊥
pieces_stop {X} text pieces i d bytes rest low before none more same =
    let piece : X = get_or pieces i d in
    let front : List ℕ = flat_map text (take i pieces) in
    let later : List ℕ = flat_map text (drop (i + 1) pieces) in
    let split : flat_map text pieces ≡ front ++ (text piece ++ later) =
    ap (flat_map text) (sym (take-append-drop i pieces) ∙ ap (λ (end : List X). take i pieces ++ end) (drop_more pieces i d low))
    ∙ flat_map-append text (take i pieces) (piece ∷ drop (i + 1) pieces) in
    none (later ++ more)
    (sym (append_assoc (text piece) later more)
    ∙ append_cancel_left front (text piece ++ later ++ more) rest (sym (append_assoc front (text piece ++ later) more) ∙ ap (λ one. one ++ more) (sym split) ∙ same ∙ sym before))

-- ---- a line for each item

-- what was read so far, and what is left: other values begin with those that were read
pub record AreGoing {I Y : Type 0} (line : I → Y → List ℕ) (Is : Y → Type 0) (items : List I) (bytes : List ℕ) (i : ℕ) (done : List Y) (rest : List ℕ) : Type 0 where
  pub within : i ≤ length items
  pub count : length done ≡ i
  pub each : All Is done
  pub front : lines_of line (take i items) done ++ rest ≡ bytes
  pub only : (others : List Y) (more : List ℕ) → AreFor items Is others
      → lines_of line items others ++ more ≡ bytes
      →
      (left : List Y) × (length left ≡ length (drop i items)) × All Is left
      × (others ≡ done ++ left) × (lines_of line (drop i items) left ++ more ≡ rest)

pub going_start : {I Y : Type 0} (line : I → Y → List ℕ) (Is : Y → Type 0) (items : List I)
    (bytes : List ℕ) → AreGoing line Is items bytes 0 [] bytes
going_start line Is items bytes = record {
  within = omega arith;
  count = refl;
  each = All-nil Is;
  front = refl;
  only = λ others more are same. (others, are.count, are.each, refl, same);
}

lines_push : {I Y : Type 0} (line : I → Y → List ℕ) (items : List I) (values : List Y) (item : I)
    (value : Y) → length values ≡ length items
    → lines_of line (items ++ item ∷ []) (values ++ value ∷ [])
    ≡ lines_of line items values ++ line item value
lines_push line [] [] item value same = append-nil (line item value)
lines_push line [] (other ∷ values) item value same = absurd (omega (arith, same))
lines_push line (one ∷ items) [] item value same = absurd (omega (arith, same))
lines_push line (one ∷ items) (other ∷ values) item value same =
    ap (λ text. line one other ++ text) (lines_push line items values item value (omega (arith, same))) ∙ sym (append_assoc (line one other) (lines_of line items values) (line item value))

-- the values of the items from here on, of which there is one
abbrev Left : {I Y : Type 0} → (I → Y → List ℕ) → (Y → Type 0) → List I → List Y → List Y → List ℕ
    → List ℕ → Type 0
Left {I} {Y} line Is items others done more rest =
    (left : List Y) × (length left ≡ length items) × All Is left × (others ≡ done ++ left) × (lines_of line items left ++ more ≡ rest)

step_left : {I Y : Type 0} (line : I → Y → List ℕ) (Is : Y → Type 0) (item : I) (items : List I)
    (others done : List Y) (value : Y) (more rest next : List ℕ)
    →
    ((other : Y) (after : List ℕ) → Is other → line item other ++ after ≡ rest → (other ≡ value) × (after ≡ next))
    → Left line Is (item ∷ items) others done more rest
    → Left line Is items others (done ++ value ∷ []) more next
step_left line Is item items others done value more rest next only ([], count, each, are, same) = absurd (omega (arith, count))
step_left {I} {Y} line Is item items others done value more rest next only (first ∷ left, count, each, are, same) =
    let found = only first (lines_of line items left ++ more) (All-head Is first left each) (sym (append_assoc (line item first) (lines_of line items left) more) ∙ same) in (
      left,
      omega (arith, count),
      All-tail Is first left each,
      are ∙ ap (λ (one : Y). done ++ one ∷ left) found.0 ∙ sym (append_assoc done (value ∷ []) left),
      found.1,
    )

none_left : {I Y : Type 0} (line : I → Y → List ℕ) (Is : Y → Type 0) (item : I) (items : List I)
    (others done : List Y) (more rest : List ℕ)
    → ((other : Y) (after : List ℕ) → Is other → line item other ++ after ≡ rest → ⊥)
    → Left line Is (item ∷ items) others done more rest → ⊥
none_left line Is item items others done more rest none ([], count, each, are, same) = absurd (omega (arith, count))
none_left line Is item items others done more rest none (first ∷ left, count, each, are, same) =
    none first (lines_of line items left ++ more) (All-head Is first left each) (sym (append_assoc (line item first) (lines_of line items left) more) ∙ same)

pub going_more : {I Y : Type 0} (line : I → Y → List ℕ) (Is : Y → Type 0) (items : List I)
    (bytes : List ℕ) (i : ℕ) (done : List Y) (rest : List ℕ) (item d : I) (value : Y)
    (next : List ℕ) → i < length items
    → item ≡ get_or items i d → AreGoing line Is items bytes i done rest → Is value
    → line item value ++ next ≡ rest
    →
    ((other : Y) (after : List ℕ) → Is other → line item other ++ after ≡ rest → (other ≡ value) × (after ≡ next))
    → AreGoing line Is items bytes (i + 1) (done ++ value ∷ []) next
going_more {I} {Y} line Is items bytes i done rest item d value next low is going holds begins only = record {
  within = omega (arith, low);
  count = length_push done value ∙ ap (λ n. n + 1) going.count;
  each = All-append Is done (value ∷ []) going.each (All-cons Is value [] holds (All-nil Is));
  front =
      let many : length done ≡ length (take i items) = omega (arith, going.count, length_taken) in
      ap (λ (all : List I). lines_of line all (done ++ value ∷ []) ++ next) (take_more items i d low ∙ ap (λ (one : I). take i items ++ one ∷ []) (sym is))
      ∙ ap (λ text. text ++ next) (lines_push line (take i items) done item value many)
      ∙ append_assoc (lines_of line (take i items) done) (line item value) next
      ∙ ap (λ text. lines_of line (take i items) done ++ text) begins
      ∙ going.front;
  only = λ others more are same.
      step_left line Is item (drop (i + 1) items) others done value more rest next only
      (subst (λ (all : List I). Left line Is all others done more rest) (drop_more items i d low ∙ ap (λ (one : I). one ∷ drop (i + 1) items) (sym is)) (going.only others more are same));
}
  where
    length_taken : length (take i items) ≡ i
    length_taken = length-take-le i items (omega (arith, low))

pub going_none : {I Y : Type 0} (line : I → Y → List ℕ) (Is : Y → Type 0) (items : List I)
    (bytes : List ℕ) (i : ℕ) (done : List Y) (rest : List ℕ) (item d : I) → i < length items
    → item ≡ get_or items i d → AreGoing line Is items bytes i done rest
    → ((other : Y) (after : List ℕ) → Is other → line item other ++ after ≡ rest → ⊥)
    → (others : List Y) (more : List ℕ) → AreFor items Is others
    → lines_of line items others ++ more ≡ bytes → ⊥
going_none {I} {Y} line Is items bytes i done rest item d low is going none others more are same =
    none_left line Is item (drop (i + 1) items) others done more rest none
    (subst (λ (all : List I). Left line Is all others done more rest) (drop_more items i d low ∙ ap (λ (one : I). one ∷ drop (i + 1) items) (sym is)) (going.only others more are same))

end_left : {I Y : Type 0} (line : I → Y → List ℕ) (Is : Y → Type 0) (others done : List Y)
    (more rest : List ℕ) → Left line Is [] others done more rest → (others ≡ done) × (more ≡ rest)
end_left line Is others done more rest ([], count, each, are, same) = (are ∙ append-nil done, same)
end_left line Is others done more rest (first ∷ left, count, each, are, same) = absurd (omega (arith, count))

-- all items were read
pub going_end : {I Y : Type 0} (line : I → Y → List ℕ) (Is : Y → Type 0) (Ends : List ℕ → Type 0)
    (items : List I) (bytes : List ℕ) (i : ℕ) (done : List Y) (rest : List ℕ) → length items ≤ i
    → AreGoing line Is items bytes i done rest
    → IsFront (List Y) (AreFor items Is) Ends (lines_of line items) bytes done rest
going_end {I} {Y} line Is Ends items bytes i done rest end going = record {
  holds = record { count = omega (arith, going.count, going.within, end); each = going.each };
  begins = ap (λ (all : List I). lines_of line all done ++ rest) (sym (take_all i items (omega (arith, end)))) ∙ going.front;
  only = λ others more are ends same.
      end_left line Is others done more rest
      (subst (λ (all : List I). Left line Is all others done more rest) (drop_all i items (omega (arith, end))) (going.only others more are same));
}

-- ---- after a front that they have in common

front_after : {X : Type 0} (Is : X → Type 0) (Ends : List ℕ → Type 0) (head : List ℕ)
    (text also : X → List ℕ) (bytes left : List ℕ) (found : X) (rest : List ℕ)
    → ((x : X) → also x ≡ head ++ text x)
    → head ++ left ≡ bytes → IsFront X Is Ends text left found rest
    → IsFront X Is Ends also bytes found rest
front_after Is Ends head text also bytes left found rest same here front = record {
  holds = front.holds;
  begins = ap (λ one. one ++ rest) (same found) ∙ append_assoc head (text found) rest ∙ ap (λ one. head ++ one) front.begins ∙ here;
  only = λ other more is ends begins.
      front.only other more is ends
      (append_cancel_left head (text other ++ more) left (sym (append_assoc head (text other) more) ∙ ap (λ one. one ++ more) (sym (same other)) ∙ begins ∙ sym here));
}

none_after : {X : Type 0} (Is : X → Type 0) (Ends : List ℕ → Type 0) (head : List ℕ)
    (text also : X → List ℕ) (bytes left : List ℕ) → ((x : X) → also x ≡ head ++ text x)
    → head ++ left ≡ bytes → IsNoFront X Is Ends text left → IsNoFront X Is Ends also bytes
none_after Is Ends head text also bytes left same here none other more is ends begins =
    none other more is ends
    (append_cancel_left head (text other ++ more) left (sym (append_assoc head (text other) more) ∙ ap (λ one. one ++ more) (sym (same other)) ∙ begins ∙ sym here))

-- the front that they have in common isn't there
pub none_there : {X : Type 0} (Is : X → Type 0) (Ends : List ℕ → Type 0) (head : List ℕ)
    (text also : X → List ℕ) (bytes : List ℕ) → ((x : X) → also x ≡ head ++ text x)
    → ((rest : List ℕ) → head ++ rest ≡ bytes → ⊥) → IsNoFront X Is Ends also bytes
none_there Is Ends head text also bytes same none other more is ends begins =
    none (text other ++ more) (sym (append_assoc head (text other) more) ∙ ap (λ one. one ++ more) (sym (same other)) ∙ begins)

pub either_after : {X : Type 0} (Is : X → Type 0) (Ends : List ℕ → Type 0) (head : List ℕ)
    (text also : X → List ℕ) (bytes left : List ℕ)
    (answer : Result (Option (X × Bor (List ℕ))) AllocError)
    → ((x : X) → also x ≡ head ++ text x) → head ++ left ≡ bytes
    → IfOk answer
    (λ found. MatchOption found (IsNoFront X Is Ends text left) (λ read. IsFront X Is Ends text left read.0 read.1.now))
    → IfOk answer
    (λ found. MatchOption found (IsNoFront X Is Ends also bytes) (λ read. IsFront X Is Ends also bytes read.0 read.1.now))
either_after Is Ends head text also bytes left (Ok None) same here told = none_after Is Ends head text also bytes left same here told
either_after Is Ends head text also bytes left (Ok (Some read)) same here told = front_after Is Ends head text also bytes left read.0 read.1.now same here told
either_after Is Ends head text also bytes left (Err fault) same here told = tt

-- what a reader of one thing answers
abbrev pub Found : {X : Type 0} → (X → Type 0) → (List ℕ → Type 0) → (X → List ℕ) → List ℕ
    → Option (X × Bor (List ℕ)) → Type 0
Found {X} Is Ends text bytes found = MatchOption found (IsNoFront X Is Ends text bytes) (λ read. IsFront X Is Ends text bytes read.0 read.1.now)

pub at_some : {A : Type 0} (P : Type 0) (Q : A → Type 0) {found : Option A} {a : A} → found ≡ Some a
    → MatchOption found P Q → Q a
at_some {A} P Q is told = subst (λ (one : Option A). MatchOption one P Q) is told

pub at_none : {A : Type 0} (P : Type 0) (Q : A → Type 0) {found : Option A} → found ≡ None
    → MatchOption found P Q → P
at_none {A} P Q is told = subst (λ (one : Option A). MatchOption one P Q) is told
