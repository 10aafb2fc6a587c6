-- A name that the monitor does not declare finds no field.
use Rattle.std.proofs.Common.{◌≡◌, ℕ, ◌+◌, ◌≤◌, Bool, true, false, cond, List, [], ◌∷◌, ◌++◌, Option, Some, None, arith, true≢false}
use Rattle.std.specs.Prelude.{nat_lt}
use Rattle.std.specs.List.{list_any}
use Rattle.std.specs.Str.{bytes_eq}
use Rattle.std.proofs.lemmas.Bool.{or_parts}
use Rattle.std.proofs.lemmas.Bool.Decides.{nat_tests}
use Rattle.lang_tree.specs.declared.tree.Decl.{Decl}
use Rattle.lang_tree.specs.declared.tree.Decl.TheVariants as decls
use Rattle.lang_tree.specs.declared.tree.InputTree.{InputTree}
use Rattle.lang_base.specs.declared.kind.Kind.{Kind}
use Rattle.lang_base.specs.declared.kind.Kind.TheVariants as kinds
use Rattle.lang_forms.specs.declared.scope.Meaning.{Meaning}
use Rattle.lang_forms.specs.declared.scope.Meaning.TheVariants as meanings
use Rattle.lang_forms.specs.declared.scope.Entry.{Entry}
use Rattle.lang_forms.specs.Scope.{declared_from, inputs_from, input_meaning}
use Rattle.lang_types.proofs.NamedPlaces.{found}
use Rattle.emit_expressions.specs.Scopes.{ScopeParts, declares}
use Rattle.emit_numbers.specs.Calls.{entries}

-- no place of a field
abbrev pub IsNoField : Meaning → Type 0
IsNoField (meanings.Number constant) = Unit {0}
IsNoField (meanings.Int place) = nat_lt place 16 ≡ false
IsNoField (meanings.Flag place) = nat_lt place 16 ≡ false

abbrev pub FoundNoField : Option Entry → Type 0
FoundNoField None = Unit {0}
FoundNoField (Some entry) = IsNoField entry.meaning

either_no_field : (test : Bool) (entry : Entry) (rest : Option Entry) → FoundNoField (Some entry) → FoundNoField rest → FoundNoField (cond test (Some entry) rest)
either_no_field true entry rest this that = this
either_no_field false entry rest this that = that

high : (place : ℕ) → 16 ≤ place → nat_lt place 16 ≡ false
high place is = grind (arith, nat_tests)

missed : (test : Bool) (entry : Entry) (rest : Option Entry) → test ≡ false → FoundNoField rest → FoundNoField (cond test (Some entry) rest)
missed true entry rest is held = absurd (true≢false is)
missed false entry rest is held = held

past_fields : (place : ℕ) (declared : List Decl) (later : List Entry) (name : List ℕ) → list_any (declares name) declared ≡ false → FoundNoField (found later name)
    → FoundNoField (found (declared_from place declared ++ later) name)
past_fields place [] later name none held = held
past_fields place (decls.Const at own value ∷ more) later name none held =
    let both = or_parts (bytes_eq own name) (list_any (declares name) more) none in
    missed (bytes_eq own name) _ (found (declared_from place more ++ later) name) both.0 (past_fields place more later name both.1 held)
past_fields place (decls.Param at own value limit ∷ more) later name none held =
    let both = or_parts (bytes_eq own name) (list_any (declares name) more) none in
    missed (bytes_eq own name) _ (found (declared_from (place + 1) more ++ later) name) both.0 (past_fields (place + 1) more later name both.1 held)
past_fields place (decls.Int at own value ∷ more) later name none held =
    let both = or_parts (bytes_eq own name) (list_any (declares name) more) none in
    missed (bytes_eq own name) _ (found (declared_from (place + 1) more ++ later) name) both.0 (past_fields (place + 1) more later name both.1 held)
past_fields place (decls.Copied at own source ∷ more) later name none held =
    let both = or_parts (bytes_eq own name) (list_any (declares name) more) none in
    missed (bytes_eq own name) _ (found (declared_from (place + 1) more ++ later) name) both.0 (past_fields (place + 1) more later name both.1 held)
past_fields place (decls.Flag at own value ∷ more) later name none held =
    let both = or_parts (bytes_eq own name) (list_any (declares name) more) none in
    missed (bytes_eq own name) _ (found (declared_from (place + 1) more ++ later) name) both.0 (past_fields (place + 1) more later name both.1 held)

high_declared : (place : ℕ) (declared : List Decl) (name : List ℕ) → 16 ≤ place → FoundNoField (found (declared_from place declared) name)
high_declared place [] name is = tt
high_declared place (decls.Const at own value ∷ more) name is = either_no_field (bytes_eq own name) _ (found (declared_from place more) name) tt (high_declared place more name is)
high_declared place (decls.Param at own value limit ∷ more) name is = either_no_field (bytes_eq own name) _ (found (declared_from (place + 1) more) name) (high place is) (high_declared (place + 1) more name (omega arith))
high_declared place (decls.Int at own value ∷ more) name is = either_no_field (bytes_eq own name) _ (found (declared_from (place + 1) more) name) (high place is) (high_declared (place + 1) more name (omega arith))
high_declared place (decls.Copied at own source ∷ more) name is = either_no_field (bytes_eq own name) _ (found (declared_from (place + 1) more) name) (high place is) (high_declared (place + 1) more name (omega arith))
high_declared place (decls.Flag at own value ∷ more) name is = either_no_field (bytes_eq own name) _ (found (declared_from (place + 1) more) name) (high place is) (high_declared (place + 1) more name (omega arith))

input_no_field : (kind : Kind) (place : ℕ) → 16 ≤ place → FoundNoField (Some (record { name = []; meaning = input_meaning kind place; is_variable = false }))
input_no_field kinds.Int place is = high place is
input_no_field kinds.Bool place is = high place is

high_inputs : (place : ℕ) (taken : List InputTree) (later : List Entry) (name : List ℕ) → 16 ≤ place → FoundNoField (found later name) → FoundNoField (found (inputs_from place taken ++ later) name)
high_inputs place [] later name is held = held
high_inputs place (input ∷ more) later name is held =
    either_no_field (bytes_eq input.name name) _ (found (inputs_from (place + 1) more ++ later) name) (input_no_field input.kind place is) (high_inputs (place + 1) more later name (omega arith) held)

pub undeclared_no_field : (scope : ScopeParts) (name : List ℕ) → list_any (declares name) scope.tree.decls ≡ false → FoundNoField (found (entries scope) name)
undeclared_no_field scope name none =
    past_fields 0 scope.tree.decls (inputs_from 16 scope.method.inputs ++ declared_from 22 scope.method.locals) name none
    (high_inputs 16 scope.method.inputs (declared_from 22 scope.method.locals) name (omega arith) (high_declared 22 scope.method.locals name (omega arith)))
