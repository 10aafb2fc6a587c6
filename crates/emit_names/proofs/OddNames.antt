-- Names of which lints would speak, by what stands for their parts.
use Rattle.std.proofs.Common.{◌≡◌, ℕ, Bool, true, false, not, ◌||◌, List, ◌++◌, ◌∙◌, map, refl, sym, ap}
use Rattle.std.specs.List.{list_any}
use Rattle.std.proofs.lemmas.List.Folds.{list_any-append}
use Rattle.emit_names.specs.Names.{meets}
use Rattle.emit_names.specs.Lints.{begins_underlined, has_double, is_odd}
use Rattle.emit_names.proofs.Reading.{any_map}

-- a test of the names of two lists
pub any_of_two : {X Y : Type 0} (test : List ℕ → Bool) (f : X → List ℕ) (g : Y → List ℕ) (xs : List X) (ys : List Y) (one other : Bool)
    → one ≡ list_any (λ x. test (f x)) xs → other ≡ list_any (λ y. test (g y)) ys → (one || other) ≡ list_any test (map f xs ++ map g ys)
any_of_two test f g xs ys one other is are =
    ap (λ t. t || other) (is ∙ any_map test f xs)
    ∙ ap (λ t. list_any test (map f xs) || t) (are ∙ any_map test g ys)
    ∙ sym (list_any-append test (map f xs) (map g ys))

pub not_not : (t : Bool) → t ≡ not (not t)
not_not true = refl
not_not false = refl

pub odd_says : {X Y : Type 0} (f : X → List ℕ) (g : Y → List ℕ) (xs : List X) (ys : List Y) (name : List ℕ) (answer met later begins doubled : Bool)
    → answer ≡ ((met || later) || (begins || doubled)) → met ≡ list_any (λ x. meets name (f x)) xs → later ≡ list_any (λ y. meets name (g y)) ys
    → begins ≡ begins_underlined name → doubled ≡ has_double name → answer ≡ is_odd (map f xs ++ map g ys) name
odd_says f g xs ys name answer met later begins doubled is one other first twice =
    is
    ∙ ap (λ t. t || (begins || doubled)) (any_of_two (meets name) f g xs ys met later one other ∙ not_not (list_any (meets name) (map f xs ++ map g ys)))
    ∙ ap (λ t. not (not (list_any (meets name) (map f xs ++ map g ys))) || (t || doubled)) first
    ∙ ap (λ t. not (not (list_any (meets name) (map f xs ++ map g ys))) || (begins_underlined name || t)) twice
