-- The sign that is found in the table is the longest one that stands at the front.
use Rattle.std.proofs.Common.{◌≡◌, ℕ, zero, suc, ◌≤◌, Bool, true, false, cond, eqb, not, ◌&&◌, List, [], ◌∷◌, ◌++◌, length, map, take, Some, refl, sym, ap, subst, ◌∙◌, inl, inr, arith}
use Rattle.std.specs.Borrow.{Bor}
use Rattle.std.specs.Prelude.{◌⊎◌, Contains, find, nat_eq, nat_le, option_map}
use Rattle.std.specs.List.{list_all, starts_with}
use Rattle.std.specs.Str.{bytes_eq}
use Rattle.std.proofs.lemmas.Bool.{eqb-true, leb-true, and_parts}
use Rattle.std.proofs.lemmas.Bool.Decides.{Decides-eqb}
use Rattle.std.proofs.lemmas.List.Elements.{Contains-append_cases, Contains-append_right}
use Rattle.lang_tokens.specs.declared.token.TokenKind.{TokenKind}
use Rattle.lang_tokens.specs.declared.piece.Class.TheVariants as classes
use Rattle.lang_tokens.specs.Spelling.{SIGNS, is_letter, is_digit, is_blank}
use Rattle.lang_tokens.specs.inner.Pieces.{class_of, sign_at}

abbrev Row : Type 0
Row = List ℕ × TokenKind

-- ---- elements

-- a search among what elements stand for
pub found_mapped : {X Y Z : Type 0} (g : X → Y) (p : Y → Bool) (f : Y → Z) (xs : List X) → option_map (λ x. f (g x)) (find (λ x. p (g x)) xs) ≡ option_map f (find p (map g xs))
found_mapped g p f [] = refl
found_mapped {X = X} {Z = Z} g p f (x ∷ xs) = by_test (p (g x)) (found_mapped g p f xs)
  where
    by_test : (t : Bool) → option_map (λ x. f (g x)) (find (λ x. p (g x)) xs) ≡ option_map f (find p (map g xs))
        → option_map (λ x. f (g x)) (cond t (Some x) (find (λ x. p (g x)) xs)) ≡ option_map f (cond t (Some (g x)) (find p (map g xs)))
    by_test true rest = refl
    by_test false rest = rest

-- what is found among the code's rows, where these are the table
pub sign_found : (bytes : List ℕ) (rows : List (Bor (List ℕ) × TokenKind)) → map (λ row. (row.0.now, row.1)) rows ≡ SIGNS
    → option_map (λ row. (row.1, length row.0.now)) (find (λ row. starts_with nat_eq bytes row.0.now) rows) ≡ sign_at bytes
sign_found bytes rows is =
    let front : Row → Bool = λ row. starts_with nat_eq bytes row.0 in
    let found : Row → TokenKind × ℕ = λ row. (row.1, length row.0) in
    let stood : Bor (List ℕ) × TokenKind → Row = λ row. (row.0.now, row.1) in
    found_mapped stood front found rows ∙ ap (λ (rows : List Row). option_map found (find front rows)) is

first_or_later : {X : Type 0} (x y : X) (xs : List X) → Contains (x ∷ xs) y → (x ≡ y) ⊎ Contains xs y
first_or_later x y xs has = by_part (Contains-append_cases (x ∷ []) xs y has)
  where
    by_part : Contains (x ∷ []) y ⊎ Contains xs y → (x ≡ y) ⊎ Contains xs y
    by_part (inl (zero, within, is)) = inl is
    by_part (inl (suc k, within, is)) = absurd (omega (arith, within))
    by_part (inr later) = inr later

pub passes_each : {X : Type 0} (p : X → Bool) (xs : List X) (x : X) → list_all p xs ≡ true → Contains xs x → p x ≡ true
passes_each p [] x each (k, within, is) = absurd (omega (arith, within))
passes_each {X = X} p (y ∷ xs) x each has =
    let parts = and_parts (p y) (list_all p xs) each in
    by_place parts.0 (first_or_later y x xs has) (λ later. passes_each p xs x parts.1 later)
  where
    by_place : p y ≡ true → (y ≡ x) ⊎ Contains xs x → (Contains xs x → p x ≡ true) → p x ≡ true
    by_place here (inl is) rest = subst (λ (z : X). p z ≡ true) is here
    by_place here (inr later) rest = rest later

-- what is found passes, and is in the list
pub found_is : {X : Type 0} (p : X → Bool) (xs : List X) (x : X) → find p xs ≡ Some x → (p x ≡ true) × Contains xs x
found_is p [] x e = absurd cc
found_is {X = X} p (y ∷ xs) x e = by_test (p y) refl e (found_is p xs x)
  where
    by_test : (t : Bool) → p y ≡ t → cond t (Some y) (find p xs) ≡ Some x → (find p xs ≡ Some x → (p x ≡ true) × Contains xs x) → (p x ≡ true) × Contains (y ∷ xs) x
    by_test true here e rest = let is : y ≡ x = cc in (subst (λ (z : X). p z ≡ true) is here, (0, omega arith, is))
    by_test false here e rest = let later = rest e in (later.0, Contains-append_right (y ∷ []) xs x later.1)

-- ---- fronts

-- what stands at the front is the front of its length
pub front_is : (sign bytes : List ℕ) → starts_with nat_eq bytes sign ≡ true → sign ≡ take (length sign) bytes
front_is [] bytes e = refl
front_is (s ∷ sign) [] e = absurd cc
front_is (s ∷ sign) (b ∷ bytes) e =
    let parts = and_parts (eqb s b) (starts_with nat_eq bytes sign) e in
    let first = eqb-true s b parts.0 in
    let rest = front_is sign bytes parts.1 in
    λ i. first i ∷ rest i

eqb-same : (b : ℕ) → eqb b b ≡ true
eqb-same b = (Decides-eqb b b).1 refl

pub stands : (sign more : List ℕ) → starts_with nat_eq (sign ++ more) sign ≡ true
stands [] more = refl
stands (s ∷ sign) more = rw (eqb-same s, stands sign more) refl

-- ---- the order of the table

-- a later row is no longer, and another text
comes_after : Row → Row → Bool
comes_after row later = nat_le (length later.0) (length row.0) && not (bytes_eq later.0 row.0)

ordered : List Row → Bool
ordered [] = true
ordered (row ∷ rows) = list_all (comes_after row) rows && ordered rows

signs_ordered : ordered SIGNS ≡ true
unfolding ordered comes_after
signs_ordered = refl

pub record IsLongest (bytes : List ℕ) (rows : List Row) (row : Row) : Type 0 where
  pub found : Row
  pub is : find (λ row. starts_with nat_eq bytes row.0) rows ≡ Some found
  pub as_long : length row.0 ≤ length found.0
  pub same : length row.0 ≡ length found.0 → row ≡ found

bytes_same : (xs : List ℕ) → bytes_eq xs xs ≡ true
bytes_same [] = refl
bytes_same (x ∷ xs) = rw (eqb-same x, bytes_same xs) refl

no_later : (bytes : List ℕ) (first row : Row) → comes_after first row ≡ true → starts_with nat_eq bytes first.0 ≡ true → starts_with nat_eq bytes row.0 ≡ true
    → (length row.0 ≤ length first.0) × (length row.0 ≡ length first.0 → row ≡ first)
unfolding comes_after
no_later bytes first row after here there =
    let parts = and_parts (nat_le (length row.0) (length first.0)) (not (bytes_eq row.0 first.0)) after in (
      leb-true (length row.0) (length first.0) parts.0,
      λ long.
          let one : row.0 ≡ first.0 = front_is row.0 bytes there ∙ ap (λ n. take n bytes) long ∙ sym (front_is first.0 bytes here) in
          let twice : bytes_eq row.0 first.0 ≡ true = subst (λ (text : List ℕ). bytes_eq row.0 text ≡ true) one (bytes_same row.0) in
          let none : not (bytes_eq row.0 first.0) ≡ true = parts.1 in
          absurd (subst (λ (t : Bool). not t ≡ true → ⊥) (sym twice) (λ e. cc) none),
    )

longest_among : (bytes : List ℕ) (rows : List Row) (row : Row) → ordered rows ≡ true → Contains rows row → starts_with nat_eq bytes row.0 ≡ true → IsLongest bytes rows row
unfolding ordered
longest_among bytes [] row order (k, within, is) there = absurd (omega (arith, within))
longest_among bytes (first ∷ rows) row order has there =
    let parts = and_parts (list_all (comes_after first) rows) (ordered rows) order in
    by_test (starts_with nat_eq bytes first.0) refl (first_or_later first row rows has) (λ later. passes_each (comes_after first) rows row parts.0 later)
    (λ later. longest_among bytes rows row parts.1 later there)
  where
    by_test : (t : Bool) → starts_with nat_eq bytes first.0 ≡ t → (first ≡ row) ⊎ Contains rows row → (Contains rows row → comes_after first row ≡ true)
        → (Contains rows row → IsLongest bytes rows row) → IsLongest bytes (first ∷ rows) row
    by_test true here (inl is) after rest = record { found = first; is = rw here refl; as_long = subst (λ (r : Row). length r.0 ≤ length first.0) is (omega arith); same = λ long. sym is }
    by_test true here (inr later) after rest = let n = no_later bytes first row (after later) here there in record { found = first; is = rw here refl; as_long = n.0; same = n.1 }
    by_test false here (inl is) after rest = let both : starts_with nat_eq bytes row.0 ≡ false = subst (λ (r : Row). starts_with nat_eq bytes r.0 ≡ false) is here in absurd (let clash : true ≡ false = sym there ∙ both in cc)
    by_test false here (inr later) after rest = let more = rest later in record { found = more.found; is = rw here more.is; as_long = more.as_long; same = more.same }

-- a sign at the front is found, or a longer one
pub longest_sign : (sign : List ℕ) (kind : TokenKind) (more : List ℕ) → Contains SIGNS (sign, kind) → IsLongest (sign ++ more) SIGNS (sign, kind)
longest_sign sign kind more has = longest_among (sign ++ more) SIGNS (sign, kind) signs_ordered has (stands sign more)

-- ---- what signs begin with

begins_sign : List ℕ → Bool
begins_sign [] = false
begins_sign (a ∷ more) = not (is_letter a) && not (is_digit a) && not (is_blank a) && not (eqb 47 a)

signs_begin : list_all (λ row. begins_sign row.0) SIGNS ≡ true
unfolding begins_sign
signs_begin = refl

pub record Begins (sign : List ℕ) : Type 0 where
  pub first : ℕ
  pub more : List ℕ
  pub is : sign ≡ first ∷ more
  pub other : class_of first ≡ classes.Other
  pub no_comment : eqb 47 first ≡ false

other_class : (l d b s : Bool) → (not l && not d && not b && not s) ≡ true → (cond l classes.Letter (cond d classes.Digit (cond b classes.Blank classes.Other)) ≡ classes.Other) × (s ≡ false)
other_class true d b s e = absurd cc
other_class false true b s e = absurd cc
other_class false false true s e = absurd cc
other_class false false false true e = absurd cc
other_class false false false false e = (refl, refl)

begins_as : (sign : List ℕ) → begins_sign sign ≡ true → Begins sign
unfolding begins_sign
begins_as [] e = absurd cc
begins_as (a ∷ more) e = let o = other_class (is_letter a) (is_digit a) (is_blank a) (eqb 47 a) e in record { first = a; more = more; is = refl; other = o.0; no_comment = o.1 }

pub sign_begins : (sign : List ℕ) (kind : TokenKind) → Contains SIGNS (sign, kind) → Begins sign
sign_begins sign kind has = begins_as sign (passes_each (λ (row : Row). begins_sign row.0) SIGNS (sign, kind) signs_begin has)
