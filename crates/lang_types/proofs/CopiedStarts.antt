-- The search for what a start copies.
use Rattle.std.proofs.Common.{◌≡◌, ℕ, zero, suc, ◌+◌, ◌<◌, ◌≤◌, pos, Bool, true, false, List, [], ◌∷◌, length, get_or, drop, drop-cons, add-one, refl, sym, ap, ◌∙◌, arith}
use Rattle.std.specs.Prelude.{if◌then◌else◌}
use Rattle.lang_tree.specs.declared.tree.Decl.{Decl}
use Rattle.lang_tree.specs.declared.tree.Decl.TheVariants as decls
use Rattle.lang_forms.specs.Scope.{field_count}
use Rattle.lang_rules.specs.Rules.{is_source}
use Rattle.lang_monitor.specs.declared.start.Origin.TheVariants as origins
use Rattle.lang_types.specs.Typed.{IntStart, copied_from, copy_of}

drop_at : {X : Type 0} (xs : List X) (i : ℕ) (x : X) → i < length xs → x ≡ get_or xs i x → drop i xs ≡ x ∷ drop (i + 1) xs
drop_at xs i x lt is = rw (add-one, drop-cons xs i x, ← is) refl

-- from here on the same is found, at this place
pub record Looked (wanted : List ℕ) (known : List Decl) (i place : ℕ) : Type 0 where
  pub same : copy_of wanted place (drop i known) ≡ copy_of wanted 0 known
  pub few : place ≤ i

step_is_at_most_1 : (decl : Decl) → field_count (decl ∷ []) ≤ 1
step_is_at_most_1 (decls.Const at name value) = omega arith
step_is_at_most_1 (decls.Param at name value limit) = omega arith
step_is_at_most_1 (decls.Int at name value) = omega arith
step_is_at_most_1 (decls.Copied at name source) = omega arith
step_is_at_most_1 (decls.Flag at name value) = omega arith

passed_by : (test : Bool) (one other : IntStart) → test ≡ false → (if test then one else other) ≡ other
passed_by true one other passes = absurd cc
passed_by false one other passes = refl

found_by : (test : Bool) (one other : IntStart) → test ≡ true → (if test then one else other) ≡ one
found_by true one other found = refl
found_by false one other found = absurd cc

pub looked_more : (wanted : List ℕ) (known : List Decl) (i place next : ℕ) (decl : Decl) → i < length known → decl ≡ get_or known i decl → Looked wanted known i place → is_source wanted decl ≡ false → next ≡ place + field_count (decl ∷ []) → Looked wanted known (i + 1) next
looked_more wanted known i place next decl lt is looked passes next_is =
    let rest = drop (i + 1) known in
    let step = step_is_at_most_1 decl in
    let few = looked.few in
    let after = place + field_count (decl ∷ []) in
    record {
      same = ap (λ (n : ℕ). copy_of wanted n rest) next_is
          ∙ sym (passed_by (is_source wanted decl) (copied_from place decl) (copy_of wanted after rest) passes)
          ∙ ap (copy_of wanted place) (sym (drop_at known i decl lt is)) ∙ looked.same;
      few = omega arith;
    }

pub looked_found : (wanted : List ℕ) (known : List Decl) (i place : ℕ) (decl : Decl) → i < length known → decl ≡ get_or known i decl → Looked wanted known i place → is_source wanted decl ≡ true → copied_from place decl ≡ copy_of wanted 0 known
looked_found wanted known i place decl lt is looked found =
    let rest = drop (i + 1) known in
    sym (found_by (is_source wanted decl) (copied_from place decl) (copy_of wanted (place + field_count (decl ∷ [])) rest) found)
    ∙ ap (copy_of wanted place) (sym (drop_at known i decl lt is)) ∙ looked.same

none_left : {X : Type 0} (xs : List X) (i : ℕ) → length xs ≤ i → drop i xs ≡ []
none_left [] zero past = refl
none_left [] (suc i) past = refl
none_left (x ∷ xs) zero past = absurd (omega arith)
none_left (x ∷ xs) (suc i) past = none_left xs i (omega arith)

pub looked_all : (wanted : List ℕ) (known : List Decl) (i place : ℕ) → length known ≤ i → Looked wanted known i place → copy_of wanted 0 known ≡ record { number = pos 0; origin = origins.Own }
looked_all wanted known i place past looked = sym looked.same ∙ ap (copy_of wanted place) (none_left known i past)
