-- Flags whose opposite is looked for once.
use Rattle.std.proofs.Common.{◌≡◌, ℕ, Bool, true, false, not, ◌&&◌, ◌||◌, List, [], ◌∷◌, ◌++◌, None, sym, subst, arith, ap, refl, ◌∙◌}
use Rattle.std.specs.Global.{Global}
use Rattle.std.specs.Prelude.{Vec, ◌==◌, if◌then◌else◌}
use Rattle.std.specs.List.{position}
use Rattle.logic_linear.specs.Linear.{Linear}
use Rattle.logic_cert.specs.declared.cert.Literal.{Literal}
use Rattle.logic_cert.specs.declared.cert.Literal.TheVariants.{Row, Flag}
use Rattle.logic_solve.specs.declared.flags.Clear.{Clear}
use Rattle.logic_solve.specs.Cubes.{is_opposite}
use Rattle.logic_solve.specs.inner.Flags.{is_same, is_clear, AreClear, IsUnopposed, Looks}
use Rattle.logic_elim.proofs.RowLemmas.{each_push}
use Rattle.logic_solve.proofs.LiteralLemmas.{position_none, row_unopposed}

both_true : (a b : Bool) → (a && b) ≡ true → (a ≡ true) × (b ≡ true)
both_true true b h = (refl, h)
both_true false b h = absurd cc

same_place : (a b : ℕ) → (a == b) ≡ true → a ≡ b
same_place a b h = grind arith

same_truth : (a b : Bool) → (if a then b else not b) ≡ true → a ≡ b
same_truth true true h = refl
same_truth true false h = absurd cc
same_truth false true h = absurd cc
same_truth false false h = refl

same_flag : (place : ℕ) (is : Bool) (flag : Clear) → is_same place is flag ≡ true → Flag flag.place flag.is ≡ Flag place is
same_flag place is flag h =
    let parts = both_true (flag.place == place) _ h in
    ap (λ (at : ℕ). Flag at flag.is) (same_place flag.place place parts.0) ∙ ap (Flag place) (same_truth flag.is is parts.1)

known_unopposed : (literals : List Literal) (place : ℕ) (is : Bool) (clear : List Clear) → is_clear place is clear ≡ true → AreClear literals clear → IsUnopposed literals (Flag place is)
known_unopposed literals place is [] h all = absurd cc
known_unopposed literals place is (flag ∷ clear) h all = by_test (is_same place is flag) refl h (λ later. known_unopposed literals place is clear later all.1)
  where
    by_test : (same : Bool) → is_same place is flag ≡ same → (same || is_clear place is clear) ≡ true → (is_clear place is clear ≡ true → IsUnopposed literals (Flag place is)) → IsUnopposed literals (Flag place is)
    by_test true e h more = subst (IsUnopposed literals) (same_flag place is flag e) all.0
    by_test false e h more = more h

pub row_clear : (literals : List Literal) (literal : Literal) (form : Linear) (clear : Vec Clear Global) → literal ≡ Row form → Looks literals literal clear.items clear None
row_clear literals literal form clear is = λ all. (all, subst (IsUnopposed literals) (sym is) (position_none (is_opposite (Row form)) literals (sym (row_unopposed form literals))))

pub flag_known : (literals : List Literal) (literal : Literal) (place : ℕ) (truth : Bool) (clear : Vec Clear Global) (slice : List Clear) → literal ≡ Flag place truth → slice ≡ clear.items → is_clear place truth slice ≡ true → Looks literals literal clear.items clear None
flag_known literals literal place truth clear slice is same known =
    λ all. (all, subst (IsUnopposed literals) (sym is) (known_unopposed literals place truth clear.items (subst (λ (some : List Clear). is_clear place truth some ≡ true) same known) all))

pub flag_noted : (literals : List Literal) (literal : Literal) (place : ℕ) (truth : Bool) (clear after : Vec Clear Global) → literal ≡ Flag place truth → None ≡ position (is_opposite literal) literals
    → after.items ≡ clear.items ++ record { place = place; is = truth } ∷ [] → Looks literals literal clear.items after None
flag_noted literals literal place truth clear after is none put =
    let here = position_none (is_opposite literal) literals (sym none) in
    λ all. (subst (AreClear literals) (sym put) (each_push (λ (flag : Clear). IsUnopposed literals (Flag flag.place flag.is)) clear.items (record { place = place; is = truth }) all (subst (IsUnopposed literals) is here)), here)

pub none_clear : (literals : List Literal) (clear : List Clear) → clear ≡ [] → AreClear literals clear
none_clear literals clear none = subst (AreClear literals) (sym none) tt
