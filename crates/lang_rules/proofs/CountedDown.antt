-- Places counted down.
use Rattle.std.proofs.Common.{◌≡◌, ℕ, ◌+◌, ◌-◌, ◌<◌, ◌≤◌, zero, suc, true, false, List, [], ◌∷◌, ◌++◌, length, get_or, take, drop, sym, ap, ◌∙◌, refl, arith, Some, None, Result, Ok, Err, inl, inr, add-one, drop-cons}
use Rattle.std.specs.List.{flat_map, slice_get}
use Rattle.std.specs.Prelude.{◌==◌}
use Rattle.std.proofs.lemmas.List.{append-nil, take_more, take_all, take-append-drop}
use Rattle.std.proofs.lemmas.Grind.{flat_map-append}
use Rattle.std.proofs.lemmas.Bool.{cases_Bool}
use Rattle.std.proofs.Math.Dec.{eqb-suc-zero}
use Rattle.lang_tree.specs.declared.tree.Decl.{Decl}
use Rattle.lang_tree.specs.declared.tree.Decl.TheVariants as decls
use Rattle.lang_rules.specs.Rules.{constant_place, declared_name, field_place}
use Rattle.lang_rules.specs.inner.Counting.{counted, declares_constant}

-- ---- a walk that looks for the place with a number

flat_map-drop : {X : Type 0} (places : X → List ℕ) (xs : List X) (i : ℕ) (x : X) → i < length xs → x ≡ get_or xs i x → flat_map places (drop i xs) ≡ places x ++ flat_map places (drop (i + 1) xs)
flat_map-drop places xs i x lt is = rw (add-one, drop-cons xs i x, ← is) refl

pub none_passed : {X : Type 0} (places : X → List ℕ) (xs : List X) (i : ℕ) (x : X) (left : ℕ) → i < length xs → x ≡ get_or xs i x → places x ≡ [] → slice_get (flat_map places (drop (i + 1) xs)) left ≡ slice_get (flat_map places (drop i xs)) left
none_passed places xs i x left lt is none = rw (flat_map-drop places xs i x lt is, none) refl

slice_get-one_less : (at left : ℕ) (more : List ℕ) → (left ≡ 0 → ⊥) → slice_get more (left - 1) ≡ slice_get (at ∷ more) left
slice_get-one_less at zero more some = absurd (some refl)
slice_get-one_less at (suc left) more some = let e : suc left - 1 ≡ left = omega arith in rw e refl

pub one_passed : {X : Type 0} (places : X → List ℕ) (xs : List X) (i : ℕ) (x : X) (at left : ℕ) → i < length xs → x ≡ get_or xs i x → places x ≡ at ∷ [] → (left ≡ 0 → ⊥) → slice_get (flat_map places (drop (i + 1) xs)) (left - 1) ≡ slice_get (flat_map places (drop i xs)) left
one_passed places xs i x at left lt is one some = rw (flat_map-drop places xs i x lt is, one) (slice_get-one_less at left (flat_map places (drop (i + 1) xs)) some)

pub one_found : {X : Type 0} (places : X → List ℕ) (xs : List X) (i : ℕ) (x : X) (at left : ℕ) → i < length xs → x ≡ get_or xs i x → places x ≡ at ∷ [] → left ≡ 0 → Some at ≡ slice_get (flat_map places (drop i xs)) left
one_found places xs i x at left lt is one none = rw (flat_map-drop places xs i x lt is, one, none) refl

-- ---- places counted down

pub counted_ok : (xs ys : List ℕ) (left rest : ℕ) → Ok rest ≡ counted xs left → counted (xs ++ ys) left ≡ counted ys rest
counted_ok [] ys left rest is = let e : rest ≡ left = cc in rw e refl
counted_ok (x ∷ xs) ys left rest is = elim (cases_Bool (left == 0)) [
  | inl none ↦ let h : Ok rest ≡ Err x = rw none at is in cc
  | inr some ↦ rw some (counted_ok xs ys (left - 1) rest (rw some at is))
]

pub counted_err : (xs ys : List ℕ) (left at : ℕ) → Err at ≡ counted xs left → Err at ≡ counted (xs ++ ys) left
counted_err [] ys left at is = cc
counted_err (x ∷ xs) ys left at is = elim (cases_Bool (left == 0)) [
  | inl none ↦ let h : Err at ≡ Err x = rw none at is in rw none h
  | inr some ↦ rw some (counted_err xs ys (left - 1) at (rw some at is))
]

pub counted_more : {X : Type 0} (places : X → List ℕ) (xs : List X) (i : ℕ) (x : X) (left rest next : ℕ) → i < length xs → x ≡ get_or xs i x → Ok rest ≡ counted (flat_map places (take i xs)) left → Ok next ≡ counted (places x) rest → Ok next ≡ counted (flat_map places (take (i + 1) xs)) left
counted_more places xs i x left rest next lt is past here =
    rw (take_more xs i x lt, ← is, flat_map-append, append-nil) (here ∙ sym (counted_ok (flat_map places (take i xs)) (places x) left rest past))

pub counted_all : {X : Type 0} (places : X → List ℕ) (xs : List X) (i left : ℕ) (r : Result ℕ ℕ) → length xs ≤ i → r ≡ counted (flat_map places (take i xs)) left → r ≡ counted (flat_map places xs) left
counted_all places xs i left r past is = is ∙ ap (λ ys. counted (flat_map places ys) left) (take_all i xs past)

flat_map-split : {X : Type 0} (places : X → List ℕ) (xs : List X) (i : ℕ) (x : X) → i < length xs → x ≡ get_or xs i x → flat_map places (take i xs) ++ (places x ++ flat_map places (drop (i + 1) xs)) ≡ flat_map places xs
flat_map-split places xs i x lt is =
    ap (λ ys. flat_map places (take i xs) ++ ys) (sym (flat_map-drop places xs i x lt is)) ∙ sym (flat_map-append places (take i xs) (drop i xs)) ∙ ap (flat_map places) (take-append-drop i xs)

pub counted_stop : {X : Type 0} (places : X → List ℕ) (xs : List X) (i : ℕ) (x : X) (left rest at : ℕ) → i < length xs → x ≡ get_or xs i x → Ok rest ≡ counted (flat_map places (take i xs)) left → Err at ≡ counted (places x) rest → Err at ≡ counted (flat_map places xs) left
counted_stop places xs i x left rest at lt is past here =
    let tail = flat_map places (drop (i + 1) xs) in
    counted_err (places x) tail rest at here ∙ sym (counted_ok (flat_map places (take i xs)) (places x ++ tail) left rest past) ∙ ap (λ ps. counted ps left) (flat_map-split places xs i x lt is)

-- below a number that is left there is one less
pub counted_below : (at left : ℕ) (more : List ℕ) → (left ≡ 0 → ⊥) → counted (at ∷ more) left ≡ counted more (left - 1)
counted_below at zero more some = absurd (some refl)
counted_below at (suc left) more some = rw (eqb-suc-zero left) refl

pub slice_get-counted_err : (places : List ℕ) (left at : ℕ) → Err at ≡ counted places left → Some at ≡ slice_get places left
slice_get-counted_err [] left at is = cc
slice_get-counted_err (p ∷ places) zero at is = cc
slice_get-counted_err (p ∷ places) (suc left) at is =
    let less : suc left - 1 ≡ left = omega arith in
    slice_get-counted_err places left at (is ∙ counted_below p (suc left) places (λ none. omega (arith, none)) ∙ ap (counted places) less)

pub slice_get-counted_ok : (places : List ℕ) (left rest : ℕ) → Ok rest ≡ counted places left → None ≡ slice_get places left
slice_get-counted_ok [] left rest is = refl
slice_get-counted_ok (p ∷ places) zero rest is = cc
slice_get-counted_ok (p ∷ places) (suc left) rest is =
    let less : suc left - 1 ≡ left = omega arith in
    slice_get-counted_ok places left rest (is ∙ counted_below p (suc left) places (λ none. omega (arith, none)) ∙ ap (counted places) less)

-- ---- constants and fields

pub constant_here : (decl : Decl) → declares_constant decl ≡ true → constant_place decl ≡ (declared_name decl).at ∷ []
constant_here (decls.Const at name value) is = refl
constant_here (decls.Param at name value limit) is = cc
constant_here (decls.Int at name value) is = cc
constant_here (decls.Copied at name source) is = cc
constant_here (decls.Flag at name value) is = cc

pub no_constant_here : (decl : Decl) → declares_constant decl ≡ false → constant_place decl ≡ []
no_constant_here (decls.Const at name value) is = cc
no_constant_here (decls.Param at name value limit) is = refl
no_constant_here (decls.Int at name value) is = refl
no_constant_here (decls.Copied at name source) is = refl
no_constant_here (decls.Flag at name value) is = refl

pub field_here : (decl : Decl) → declares_constant decl ≡ false → field_place decl ≡ (declared_name decl).at ∷ []
field_here (decls.Const at name value) is = cc
field_here (decls.Param at name value limit) is = refl
field_here (decls.Int at name value) is = refl
field_here (decls.Copied at name source) is = refl
field_here (decls.Flag at name value) is = refl

pub no_field_here : (decl : Decl) → declares_constant decl ≡ true → field_place decl ≡ []
no_field_here (decls.Const at name value) is = refl
no_field_here (decls.Param at name value limit) is = cc
no_field_here (decls.Int at name value) is = cc
no_field_here (decls.Copied at name source) is = cc
no_field_here (decls.Flag at name value) is = cc
