-- Texts that are cut where the bytes of a kind end.
use Rattle.std.proofs.Common.{◌≡◌, ℕ, Bool, true, not, List, [], ◌∷◌, ◌++◌, ap, sym, refl, ◌∙◌}
use Rattle.std.specs.List.{list_all}
use Rattle.std.proofs.lemmas.Bool.{and_parts, and_from, both_ways, not-true}
use Rattle.std.proofs.lemmas.List.Folds.{list_all-append}

-- ---- lists with a first element

abbrev first_or : {X : Type 0} → X → List X → X
first_or default [] = default
first_or default (x ∷ xs) = x

abbrev rest_of : {X : Type 0} → List X → List X
rest_of [] = []
rest_of (x ∷ xs) = xs

pub same_first : {X : Type 0} (x y : X) (xs ys : List X) → x ∷ xs ≡ y ∷ ys → x ≡ y
same_first x y xs ys same = ap (first_or x) same

pub same_rest : {X : Type 0} (x y : X) (xs ys : List X) → x ∷ xs ≡ y ∷ ys → xs ≡ ys
same_rest x y xs ys same = ap rest_of same

-- ---- where the bytes of a kind end

-- the text ends, or goes on with a byte that is not of the kind
abbrev pub stops : (ℕ → Bool) → List ℕ → Bool
stops kind [] = true
stops kind (byte ∷ text) = not (kind byte)

starts_again : (kind : ℕ → Bool) (byte : ℕ) (text rest : List ℕ) → kind byte ≡ true
    → stops kind rest ≡ true → rest ≡ byte ∷ text → ⊥
starts_again kind byte text rest is end same = both_ways (kind byte) (not-true (kind byte) (sym (ap (stops kind) same) ∙ end)) is

-- bytes of a kind, and what follows where they end
pub cut : (kind : ℕ → Bool) (front other rest others : List ℕ) → list_all kind front ≡ true
    → list_all kind other ≡ true → stops kind rest ≡ true → stops kind others ≡ true
    → front ++ rest ≡ other ++ others → (front ≡ other) × (rest ≡ others)
cut kind [] [] rest others all each end ends same = (refl, same)
cut kind [] (byte ∷ other) rest others all each end ends same =
    absurd (starts_again kind byte (other ++ others) rest (and_parts (kind byte) (list_all kind other) each).0 end same)
cut kind (byte ∷ front) [] rest others all each end ends same =
    absurd (starts_again kind byte (front ++ rest) others (and_parts (kind byte) (list_all kind front) all).0 ends (sym same))
cut kind (byte ∷ front) (also ∷ other) rest others all each end ends same =
    let more = cut kind front other rest others (and_parts (kind byte) (list_all kind front) all).1 (and_parts (kind also) (list_all kind other) each).1 end ends
    (same_rest byte also (front ++ rest) (other ++ others) same) in
    (λ i. same_first byte also (front ++ rest) (other ++ others) same i ∷ more.0 i, more.1)

-- ---- bytes of a kind

pub all_append : (kind : ℕ → Bool) (front rest : List ℕ) → list_all kind front ≡ true
    → list_all kind rest ≡ true → list_all kind (front ++ rest) ≡ true
all_append kind front rest all each = list_all-append kind front rest ∙ and_from (list_all kind front) (list_all kind rest) all each

pub all_weaker : (kind wider : ℕ → Bool) → ((byte : ℕ) → kind byte ≡ true → wider byte ≡ true) →
    (text : List ℕ) → list_all kind text ≡ true → list_all wider text ≡ true
all_weaker kind wider weaker [] all = refl
all_weaker kind wider weaker (byte ∷ text) all =
    let parts = and_parts (kind byte) (list_all kind text) all in
    and_from (wider byte) (list_all wider text) (weaker byte parts.0) (all_weaker kind wider weaker text parts.1)
