-- Lists of claims that are made one after the other.
use Rattle.std.proofs.Common.{◌≡◌, ℕ, ◌+◌, ◌<◌, Bool, true, false, cond, List, [], ◌∷◌, ◌++◌, map, take, length, get_or, refl, sym, ap, ◌∙◌, append_assoc, append-nil, arith}
use Rattle.std.specs.List.{filter, flat_map, enumerate_from, range_with_len}
use Rattle.std.proofs.lemmas.List.{map-append, take_more, length-take}
use Rattle.std.proofs.lemmas.List.Concat.{flat_map-append}
use Rattle.std.proofs.lemmas.List.Elements.{filter-append}
use Rattle.plan_claims.proofs.Lists.{numbered_more, range_more}

-- one more number
pub mapped_more : {X : Type 0} (f : ℕ → X) (first index last : ℕ) (old before after : List X)
    → first + index ≡ last → before ≡ old ++ map f (range_with_len first index)
    → after ≡ before ++ f last ∷ [] → after ≡ old ++ map f (range_with_len first (index + 1))
mapped_more f first index last old before after is had made =
    made ∙ ap (λ some. some ++ f last ∷ []) had ∙ append_assoc old (map f (range_with_len first index)) (f last ∷ [])
    ∙ ap (λ some. old ++ some) (sym (map-append f (range_with_len first index) (last ∷ [])))
    ∙ ap (λ some. old ++ map f some) (sym (range_more first index last is))

mapped_test : {X : Type 0} (f : ℕ → X) (last : ℕ) (passes : Bool)
    → map f (cond passes (last ∷ []) []) ≡ cond passes (f last ∷ []) []
mapped_test f last true = refl
mapped_test f last false = refl

-- one more number, where it passes
pub filtered_more : {X : Type 0} (f : ℕ → X) (test : ℕ → Bool) (first index last : ℕ)
    (old before after : List X) (passes : Bool) → first + index ≡ last → passes ≡ test last
    → before ≡ old ++ map f (filter test (range_with_len first index))
    → after ≡ before ++ cond passes (f last ∷ []) []
    → after ≡ old ++ map f (filter test (range_with_len first (index + 1)))
filtered_more f test first index last old before after passes is same had made =
    let some = filter test (range_with_len first index) in
    made ∙ ap (λ one. one ++ cond passes (f last ∷ []) []) had ∙ append_assoc old (map f some) (cond passes (f last ∷ []) [])
    ∙ ap (λ one. old ++ (map f some ++ one)) (sym (mapped_test f last passes))
    ∙ ap (λ one. old ++ one) (sym (map-append f some (cond passes (last ∷ []) [])))
    ∙ ap (λ held. old ++ map f (some ++ cond held (last ∷ []) [])) same
    ∙ ap (λ one. old ++ map f one) (sym (filter-append test (range_with_len first index) (last ∷ [])))
    ∙ ap (λ one. old ++ map f (filter test one)) (sym (range_more first index last is))

-- one more element, with its number
pub numbered_flat_more : {X Y : Type 0} (f : ℕ × X → List Y) (first index last : ℕ) (xs : List X)
    (d : X) (old before after : List Y) → index < length xs → first + index ≡ last
    → before ≡ old ++ flat_map f (enumerate_from first (take index xs))
    → after ≡ before ++ f (last, get_or xs index d)
    → after ≡ old ++ flat_map f (enumerate_from first (take (index + 1) xs))
numbered_flat_more f first index last xs d old before after low is had made =
    let some = enumerate_from first (take index xs) in
    let x = get_or xs index d in
    let long : first + length (take index xs) ≡ last = omega (arith, length-take index xs) in
    made ∙ ap (λ one. one ++ f (last, x)) had ∙ append_assoc old (flat_map f some) (f (last, x))
    ∙ ap (λ one. old ++ (flat_map f some ++ one)) (sym (append-nil (f (last, x))))
    ∙ ap (λ one. old ++ one) (sym (flat_map-append f some ((last, x) ∷ [])))
    ∙ ap (λ one. old ++ flat_map f one) (sym (numbered_more first (take index xs) x last long))
    ∙ ap (λ one. old ++ flat_map f (enumerate_from first one)) (sym (take_more xs index d low))

-- one more element, as it is shown
pub listed_more : {X Y : Type 0} (f : ℕ → X → List Y) (first index last : ℕ) (xs : List X)
    (d x shown : X) (old before after : List Y) → index < length xs → first + index ≡ last
    → shown ≡ x → x ≡ get_or xs index d
    → before ≡ old ++ flat_map (λ one. f one.0 one.1) (enumerate_from first (take index xs))
    → after ≡ before ++ f last shown
    → after ≡ old ++ flat_map (λ one. f one.0 one.1) (enumerate_from first (take (index + 1) xs))
listed_more f first index last xs d x shown old before after low is same at had made =
    numbered_flat_more (λ one. f one.0 one.1) first index last xs d old before after low is had (made ∙ ap (λ one. before ++ f last one) (same ∙ at))

pub in_four : {X : Type 0} (a b c d none first second third last : List X) → none ≡ []
    → first ≡ none ++ a → second ≡ first ++ b → third ≡ second ++ c → last ≡ third ++ d
    → last ≡ a ++ (b ++ (c ++ d))
in_four a b c d none first second third last empty one two three four =
    four ∙ ap (λ some. some ++ d) three ∙ ap (λ some. some ++ c ++ d) two ∙ ap (λ some. some ++ b ++ c ++ d) (one ∙ ap (λ some. some ++ a) empty)
    ∙ append_assoc (a ++ b) c d ∙ append_assoc a b (c ++ d)
