-- Values that keep within a limit, and else none.
use Rattle.std.proofs.Common.{◌≡◌, Some, None, Result, Ok, Err, ℕ, zero, suc, ◌<◌, Bool, true, false, cond, List, [], ◌∷◌, map, length, get_or, arith, ap, refl}
use Rattle.std.specs.Prelude.{◌&&◌, IfOk}
use Rattle.logic_linear.specs.declared.formula.Formula.{Formula}
use Rattle.logic_linear.specs.Substitution.{where_true, is_formula_in_range, are_in_range}

pub passed : {X : Type 0} (test : X → Bool) (x y : X) → Some y ≡ where_true test x → (test x ≡ true) × (y ≡ x)
passed {X} test x y h = by_test (test x) h
  where
    by_test : (held : Bool) → Some y ≡ cond held (Some x) None → (held ≡ true) × (y ≡ x)
    by_test true e = (refl, cc)
    by_test false e = absurd cc

pub stopped : {X : Type 0} (test : X → Bool) (x : X) → None ≡ where_true test x → test x ≡ false
stopped {X} test x h = by_test (test x) h
  where
    by_test : (held : Bool) → None ≡ cond held (Some x) None → held ≡ false
    by_test true e = absurd cc
    by_test false e = refl

pub passes : {X : Type 0} (test : X → Bool) (x y : X) → y ≡ x → test x ≡ true → Some y ≡ where_true test x
passes {X} test x y e h = by_test (test x) h
  where
    by_test : (held : Bool) → held ≡ true → Some y ≡ cond held (Some x) None
    by_test true g = ap Some e
    by_test false g = absurd cc

pub stops : {X : Type 0} (test : X → Bool) (x : X) → test x ≡ false → None ≡ where_true test x
stops {X} test x h = by_test (test x) h
  where
    by_test : (held : Bool) → held ≡ false → None ≡ cond held (Some x) None
    by_test true g = absurd cc
    by_test false g = refl

pub and_false : (a : Bool) → (a && false) ≡ false
and_false true = refl
and_false false = refl

pub parts_stop : (make : Formula → Formula) (parts : List Formula) (part : Formula) (i : ℕ) → i < length parts → part ≡ get_or parts i part → None ≡ where_true is_formula_in_range (make part) → None ≡ where_true are_in_range (map make parts)
parts_stop make parts part i h is none = stops are_in_range (map make parts) (some_out parts i h is (stopped is_formula_in_range (make part) none))
  where
    some_out : (parts : List Formula) (i : ℕ) → i < length parts → part ≡ get_or parts i part → is_formula_in_range (make part) ≡ false → are_in_range (map make parts) ≡ false
    some_out [] i h is out = absurd (omega arith)
    some_out (first ∷ parts) zero h is out = let here : is_formula_in_range (make first) ≡ false = rw (← is) out in rw here refl
    some_out (first ∷ parts) (suc i) h is out = let rest = some_out parts i (omega arith) is out in rw rest (and_false (is_formula_in_range (make first)))

-- What always holds holds of an answer.
pub when_ok : {X : Type 0} {E : Type 0} (answer : Result X E) (P : Type 0) → P → IfOk answer (λ x. P)
when_ok (Ok x) P h = h
when_ok (Err e) P h = tt
