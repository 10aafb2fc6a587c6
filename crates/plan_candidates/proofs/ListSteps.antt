-- Lists that are made by appending, one element after the other.
use Rattle.std.proofs.Common.{◌≡◌, ℕ, ◌+◌, ◌<◌, Bool, cond, List, [], ◌∷◌, ◌++◌, take, length, get_or, sym, ap, ◌∙◌}
use Rattle.std.specs.List.{filter, flat_map}
use Rattle.std.proofs.lemmas.List.{flat_map_more, take_more}
use Rattle.std.proofs.lemmas.List.Elements.{filter_more}

-- ---- a list for each element

-- one more element, with what stands for it
pub one_more : {X Y : Type 0} (f : X → List Y) (old before after : List Y) (xs : List X) (i : ℕ) (d : X) → i < length xs
    → before ≡ old ++ flat_map f (take i xs) → after ≡ before ++ f (get_or xs i d) → after ≡ old ++ flat_map f (take (i + 1) xs)
one_more f old before after xs i d low is made =
    made ∙ ap (λ some. some ++ f (get_or xs i d)) is ∙ flat_map_more f old (take i xs) (get_or xs i d)
    ∙ ap (λ some. old ++ flat_map f some) (sym (take_more xs i d low))

-- ---- a filter

-- one more element, where it passes
pub kept_more : {X : Type 0} (test : X → Bool) (before after xs : List X) (i : ℕ) (d : X) (passes : Bool) → i < length xs → passes ≡ test (get_or xs i d)
    → before ≡ filter test (take i xs) → after ≡ before ++ cond passes (get_or xs i d ∷ []) [] → after ≡ filter test (take (i + 1) xs)
kept_more test before after xs i d passes low same is made =
    made
    ∙ ap (λ some. some ++ cond passes (get_or xs i d ∷ []) []) is
    ∙ ap (λ held. filter test (take i xs) ++ cond held (get_or xs i d ∷ []) []) same
    ∙ sym (filter_more test xs i d low)
