-- The constants of a method's scope are small: a number that is too large stands for 0.
use Rattle.std.proofs.Common.{◌≡◌, ℕ, ◌+◌, ◌≤◌, ◌^◌, pos, Bool, true, false, List, [], ◌∷◌, ◌++◌, refl, arith}
use Rattle.std.specs.Prelude.{nat_le, if◌then◌else◌}
use Rattle.std.proofs.lemmas.Int.{ints}
use Rattle.std.proofs.lemmas.Bool.Decides.{nat_tests}
use Rattle.lang_tree.specs.declared.tree.Lit.{Lit}
use Rattle.lang_tree.specs.declared.tree.Decl.{Decl}
use Rattle.lang_tree.specs.declared.tree.Decl.TheVariants as decls
use Rattle.lang_base.specs.declared.kind.Kind.{Kind}
use Rattle.lang_base.specs.declared.kind.Kind.TheVariants as kinds
use Rattle.lang_tree.specs.declared.tree.InputTree.{InputTree}
use Rattle.lang_tree.specs.declared.tree.MethodTree.{MethodTree}
use Rattle.lang_forms.specs.declared.scope.Entry.{Entry}
use Rattle.lang_base.specs.Limits.{GREATEST_NUMBER}
use Rattle.lang_forms.specs.Scope.{constant_value, declared_from, input_meaning, inputs_from, scope_of, signed}
use Rattle.lang_base.specs.Numbers.{is_within}
use Rattle.lang_forms.specs.Making.{has_small_number, has_small_numbers}

signed_small : (minus : Bool) (digits : ℕ) → digits ≤ GREATEST_NUMBER → is_within (2 ^ 63) (signed minus (pos digits)) ≡ true
signed_small true digits small = grind (arith, ints)
signed_small false digits small = grind (arith, ints)

value_small : (test minus : Bool) (digits : ℕ) → nat_le digits GREATEST_NUMBER ≡ test → is_within (2 ^ 63) (if test then signed minus (pos digits) else pos 0) ≡ true
value_small true minus digits is = signed_small minus digits (grind (arith, nat_tests))
value_small false minus digits is = refl

constant_small : (literal : Lit) → is_within (2 ^ 63) (constant_value literal) ≡ true
constant_small literal = value_small (nat_le literal.digits GREATEST_NUMBER) literal.minus literal.digits refl

input_small : (kind : Kind) (place : ℕ) → has_small_number (input_meaning kind place) ≡ true
input_small kinds.Int place = refl
input_small kinds.Bool place = refl

inputs_small : (place : ℕ) (taken : List InputTree) (later : List Entry) → has_small_numbers later ≡ true → has_small_numbers (inputs_from place taken ++ later) ≡ true
inputs_small place [] later small = small
inputs_small place (input ∷ more) later small = rw (input_small input.kind place) (inputs_small (place + 1) more later small)

declared_small : (place : ℕ) (declared : List Decl) (later : List Entry) → has_small_numbers later ≡ true → has_small_numbers (declared_from place declared ++ later) ≡ true
declared_small place [] later small = small
declared_small place (decls.Const at name value ∷ more) later small = rw (constant_small value) (declared_small place more later small)
declared_small place (decls.Param at name value limit ∷ more) later small = declared_small (place + 1) more later small
declared_small place (decls.Int at name value ∷ more) later small = declared_small (place + 1) more later small
declared_small place (decls.Copied at name source ∷ more) later small = declared_small (place + 1) more later small
declared_small place (decls.Flag at name value ∷ more) later small = declared_small (place + 1) more later small

locals_small : (place : ℕ) (locals : List Decl) → has_small_numbers (declared_from place locals) ≡ true
locals_small place [] = refl
locals_small place (decls.Const at name value ∷ more) = rw (constant_small value) (locals_small place more)
locals_small place (decls.Param at name value limit ∷ more) = locals_small (place + 1) more
locals_small place (decls.Int at name value ∷ more) = locals_small (place + 1) more
locals_small place (decls.Copied at name source ∷ more) = locals_small (place + 1) more
locals_small place (decls.Flag at name value ∷ more) = locals_small (place + 1) more

pub scopes_are_small : (declared : List Decl) (method : MethodTree) → has_small_numbers (scope_of declared method) ≡ true
scopes_are_small declared method =
    let locals = declared_from 22 method.locals in
    let own = inputs_from 16 method.inputs ++ locals in
    declared_small 0 declared own (inputs_small 16 method.inputs locals (locals_small 22 method.locals))
