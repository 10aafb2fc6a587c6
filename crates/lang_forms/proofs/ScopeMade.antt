-- A scope, made entry by entry.
use Rattle.std.proofs.Common.{◌≡◌, ℕ, ◌+◌, ◌<◌, ◌≤◌, false, List, [], ◌∷◌, ◌++◌, length, get_or, take, refl, ap, sym, ◌∙◌, append_assoc, arith}
use Rattle.std.proofs.lemmas.List.{length-take, take_more}
use Rattle.lang_tree.specs.declared.tree.Decl.{Decl}
use Rattle.lang_tree.specs.declared.tree.Decl.TheVariants as decls
use Rattle.lang_tree.specs.declared.tree.InputTree.{InputTree}
use Rattle.lang_forms.specs.declared.scope.Entry.{Entry}
use Rattle.lang_forms.specs.Scope.{declared_from, field_count, input_meaning, inputs_from}

-- the place of the next variable
abbrev pub next_place : ℕ → List Decl → ℕ
next_place place [] = place
next_place place (decls.Const at name value ∷ more) = next_place place more
next_place place (decls.Param at name value limit ∷ more) = next_place (place + 1) more
next_place place (decls.Int at name value ∷ more) = next_place (place + 1) more
next_place place (decls.Copied at name source ∷ more) = next_place (place + 1) more
next_place place (decls.Flag at name value ∷ more) = next_place (place + 1) more

declared_append : (place : ℕ) (front back : List Decl) → declared_from place (front ++ back) ≡ declared_from place front ++ declared_from (next_place place front) back
declared_append place [] back = refl
declared_append place (decls.Const at name value ∷ more) back = rw (declared_append place more back) refl
declared_append place (decls.Param at name value limit ∷ more) back = rw (declared_append (place + 1) more back) refl
declared_append place (decls.Int at name value ∷ more) back = rw (declared_append (place + 1) more back) refl
declared_append place (decls.Copied at name source ∷ more) back = rw (declared_append (place + 1) more back) refl
declared_append place (decls.Flag at name value ∷ more) back = rw (declared_append (place + 1) more back) refl

next_append : (place : ℕ) (front back : List Decl) → next_place place (front ++ back) ≡ next_place (next_place place front) back
next_append place [] back = refl
next_append place (decls.Const at name value ∷ more) back = next_append place more back
next_append place (decls.Param at name value limit ∷ more) back = next_append (place + 1) more back
next_append place (decls.Int at name value ∷ more) back = next_append (place + 1) more back
next_append place (decls.Copied at name source ∷ more) back = next_append (place + 1) more back
next_append place (decls.Flag at name value ∷ more) back = next_append (place + 1) more back

plus_no_step : (place : ℕ) → place ≡ place + 0
plus_no_step place = omega arith

-- the place after a declaration
next_of_one : (place : ℕ) (decl : Decl) → next_place place (decl ∷ []) ≡ place + field_count (decl ∷ [])
next_of_one place (decls.Const at name value) = plus_no_step place
next_of_one place (decls.Param at name value limit) = refl
next_of_one place (decls.Int at name value) = refl
next_of_one place (decls.Copied at name source) = refl
next_of_one place (decls.Flag at name value) = refl

step_is_at_most_1 : (decl : Decl) → field_count (decl ∷ []) ≤ 1
step_is_at_most_1 (decls.Const at name value) = omega arith
step_is_at_most_1 (decls.Param at name value limit) = omega arith
step_is_at_most_1 (decls.Int at name value) = omega arith
step_is_at_most_1 (decls.Copied at name source) = omega arith
step_is_at_most_1 (decls.Flag at name value) = omega arith

take_one_more : {X : Type 0} (xs : List X) (i : ℕ) (x : X) → i < length xs → x ≡ get_or xs i x → take (i + 1) xs ≡ take i xs ++ x ∷ []
take_one_more xs i x lt is = take_more xs i x lt ∙ ap (λ y. take i xs ++ y ∷ []) (sym is)

-- what holds once so many declarations are made behind some entries, with places from the first on
pub record Declared (before : List Entry) (first : ℕ) (decls : List Decl) (i : ℕ) (entries : List Entry) (place : ℕ) : Type 0 where
  pub made : entries ≡ before ++ declared_from first (take i decls)
  pub next : place ≡ next_place first (take i decls)
  pub few : place ≤ first + i

pub declared_more : (before : List Entry) (first : ℕ) (decls : List Decl) (i : ℕ) (entries : List Entry) (place : ℕ) (decl : Decl) (entry : Entry) (more : List Entry) (next : ℕ) → Declared before first decls i entries place → i < length decls → decl ≡ get_or decls i decl → declared_from place (decl ∷ []) ≡ entry ∷ [] → more ≡ entries ++ entry ∷ [] → next ≡ place + field_count (decl ∷ []) → Declared before first decls (i + 1) more next
declared_more before first decls i entries place decl entry more next so_far lt is one more_is next_is =
    let taken = take_one_more decls i decl lt is in
    let few = so_far.few in
    let step = step_is_at_most_1 decl in
    let all : before ++ declared_from first (take (i + 1) decls) ≡ (before ++ declared_from first (take i decls)) ++ entry ∷ [] =
    rw (taken, declared_append first (take i decls) (decl ∷ []), ← so_far.next, one, append_assoc) refl in
    record {
      made = more_is ∙ ap (λ front. front ++ entry ∷ []) so_far.made ∙ sym all;
      next = next_is ∙ rw (taken, next_append first (take i decls) (decl ∷ []), ← so_far.next) (sym (next_of_one place decl));
      few = omega arith;
    }

inputs_append : (place : ℕ) (front back : List InputTree) → inputs_from place (front ++ back) ≡ inputs_from place front ++ inputs_from (place + length front) back
inputs_append place [] back = ap (λ at. inputs_from at back) (omega arith)
inputs_append place (input ∷ more) back = rw (inputs_append (place + 1) more back) (ap (λ at. inputs_from place (input ∷ more) ++ inputs_from at back) (omega arith))

-- one more input
pub inputs_more : (place : ℕ) (inputs : List InputTree) (i : ℕ) (input : InputTree) → i < length inputs → input ≡ get_or inputs i input → inputs_from place (take (i + 1) inputs) ≡ inputs_from place (take i inputs) ++ record { name = input.name; meaning = input_meaning input.kind (place + i); is_variable = false } ∷ []
inputs_more place inputs i input lt is =
    let long : length (take i inputs) ≡ i = omega (arith, length-take i inputs) in
    rw (take_one_more inputs i input lt is, inputs_append place (take i inputs) (input ∷ []), long) refl
