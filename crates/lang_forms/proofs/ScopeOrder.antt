-- The places of fields, then those of inputs and those of locals, rise strictly.
use Rattle.std.proofs.Common.{◌≡◌, ℕ, zero, suc, ◌+◌, ◌<◌, ◌≤◌, List, [], ◌∷◌, ◌++◌, length, get_or, add-one, refl, sym, subst, arith}
use Rattle.std.specs.List.Sorted.{IsStrictlyIncreasing}
use Rattle.lang_tree.specs.declared.tree.Decl.{Decl}
use Rattle.lang_tree.specs.declared.tree.Decl.TheVariants as decls
use Rattle.lang_base.specs.declared.kind.Kind.{Kind}
use Rattle.lang_base.specs.declared.kind.Kind.TheVariants as kinds
use Rattle.lang_tree.specs.declared.tree.InputTree.{InputTree}
use Rattle.lang_tree.specs.declared.tree.MethodTree.{MethodTree}
use Rattle.lang_forms.specs.declared.scope.Entry.{Entry}
use Rattle.lang_forms.specs.Scope.{declared_from, field_count, input_meaning, inputs_from, scope_of}
use Rattle.lang_forms.specs.Forms.{IsOrdered, meaning_places, places_of}

-- each is at least the given one, and above the one before
abbrev RiseFrom : ℕ → List ℕ → Type 0
RiseFrom low [] = Unit {0}
RiseFrom low (place ∷ more) = (low ≤ place) × RiseFrom (place + 1) more

from_lower : (low high : ℕ) (places : List ℕ) → low ≤ high → RiseFrom high places → RiseFrom low places
from_lower low high [] h rise = tt
from_lower low high (place ∷ more) h rise = (omega (arith, rise.0), rise.1)

next_above : (low : ℕ) (places : List ℕ) (k : ℕ) → RiseFrom low places → suc k < length places → get_or places k 0 < get_or places (suc k) 0
next_above low [] k rise h = absurd (omega arith)
next_above low (place ∷ []) k rise h = absurd (omega arith)
next_above low (place ∷ other ∷ more) zero rise h = omega (arith, rise.1.0)
next_above low (place ∷ other ∷ more) (suc k) rise h = next_above (place + 1) (other ∷ more) k rise.1 (omega arith)

increasing : (low : ℕ) (places : List ℕ) → RiseFrom low places → IsStrictlyIncreasing places
increasing low places rise k h = rw add-one (next_above low places k rise (omega arith))

-- an input of either kind has its place
input_place : (kind : Kind) (place : ℕ) (more : List ℕ) → meaning_places (input_meaning kind place) more ≡ place ∷ more
input_place kinds.Int place more = refl
input_place kinds.Bool place more = refl

inputs_rise : (place : ℕ) (taken : List InputTree) (later : List Entry) → RiseFrom (place + length taken) (places_of later) → RiseFrom place (places_of (inputs_from place taken ++ later))
inputs_rise place [] later rise = from_lower place (place + 0) (places_of later) (omega arith) rise
inputs_rise place (input ∷ more) later rise =
    let after = from_lower (place + 1 + length more) (place + length (input ∷ more)) (places_of later) (omega arith) rise in
    subst (RiseFrom place) (sym (input_place input.kind place (places_of (inputs_from (place + 1) more ++ later)))) (omega arith, inputs_rise (place + 1) more later after)

declared_rise : (place : ℕ) (declared : List Decl) (later : List Entry) → RiseFrom (place + field_count declared) (places_of later) → RiseFrom place (places_of (declared_from place declared ++ later))
declared_rise place [] later rise = from_lower place (place + 0) (places_of later) (omega arith) rise
declared_rise place (decls.Const at name value ∷ more) later rise = declared_rise place more later rise
declared_rise place (decls.Param at name value limit ∷ more) later rise =
    (omega arith, declared_rise (place + 1) more later (from_lower (place + 1 + field_count more) (place + (1 + field_count more)) (places_of later) (omega arith) rise))
declared_rise place (decls.Int at name value ∷ more) later rise =
    (omega arith, declared_rise (place + 1) more later (from_lower (place + 1 + field_count more) (place + (1 + field_count more)) (places_of later) (omega arith) rise))
declared_rise place (decls.Copied at name source ∷ more) later rise =
    (omega arith, declared_rise (place + 1) more later (from_lower (place + 1 + field_count more) (place + (1 + field_count more)) (places_of later) (omega arith) rise))
declared_rise place (decls.Flag at name value ∷ more) later rise =
    (omega arith, declared_rise (place + 1) more later (from_lower (place + 1 + field_count more) (place + (1 + field_count more)) (places_of later) (omega arith) rise))

locals_rise : (place : ℕ) (locals : List Decl) → RiseFrom place (places_of (declared_from place locals))
locals_rise place [] = tt
locals_rise place (decls.Const at name value ∷ more) = locals_rise place more
locals_rise place (decls.Param at name value limit ∷ more) = (omega arith, locals_rise (place + 1) more)
locals_rise place (decls.Int at name value ∷ more) = (omega arith, locals_rise (place + 1) more)
locals_rise place (decls.Copied at name source ∷ more) = (omega arith, locals_rise (place + 1) more)
locals_rise place (decls.Flag at name value ∷ more) = (omega arith, locals_rise (place + 1) more)

-- With at most 16 fields and 6 inputs the places of a scope rise strictly.
pub scopes_are_ordered : (declared : List Decl) (method : MethodTree) → field_count declared ≤ 16 → length method.inputs ≤ 6 → IsOrdered (scope_of declared method)
scopes_are_ordered declared method few taken =
    let locals = declared_from 22 method.locals in
    let own = inputs_from 16 method.inputs ++ locals in
    let locals_above = from_lower (16 + length method.inputs) 22 (places_of locals) (omega arith) (locals_rise 22 method.locals) in
    let above = from_lower (0 + field_count declared) 16 (places_of own) (omega arith) (inputs_rise 16 method.inputs locals locals_above) in
    increasing 0 (places_of (scope_of declared method)) (declared_rise 0 declared own above)
