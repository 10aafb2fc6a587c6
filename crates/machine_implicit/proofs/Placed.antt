-- A block of a monitor fits its method.
use Rattle.std.proofs.Common.{◌≡◌, ℕ, ◌+◌, ◌-◌, ◌<◌, ◌≤◌, true, ◌&&◌, List, map, length, get_or, Option, Some, None, IsSomeAnd, refl, sym, ap, subst, ◌∙◌, arith}
use Rattle.std.specs.Prelude.{slice_get}
use Rattle.std.specs.List.{list_all}
use Rattle.std.proofs.lemmas.List.Folds.{list_all-map}
use Rattle.std.proofs.lemmas.List.{length-map}
use Rattle.std.proofs.lemmas.Option.{same_Some, slice_get-get_or}
use Rattle.lang_monitor.specs.declared.monitor.Method.{Method}
use Rattle.lang_monitor.specs.declared.monitor.Block.{Block}
use Rattle.lang_monitor.specs.MonitorParts.{MonitorParts, IsMonitor, kind_of, kinds_in, kinds_of, locals_in, Places, IsBlockOf, method_places, fits_block, fits_formula, fits_statement, fits_result}
use Rattle.lang_base.specs.declared.value.Value.{Value}
use Rattle.lang_monitor.specs.Bodies.{Inputs}
use Rattle.machine_implicit.specs.Steps.{FitsState, FitsInputs, FitsBlock}
use Rattle.machine_implicit.specs.inner.Held.{held_places, AreFew}
use Rattle.machine_implicit.specs.inner.Placed.{IsPlaced, AreFewPlaces}
use Rattle.machine_implicit.proofs.Held.{kinds_held}
use Rattle.machine_implicit.proofs.Sums.{both_true}

pub some_of : {X : Type 0} (o : Option X) (P : X → Type 0) → IsSomeAnd o P → (x : X) × (o ≡ Some x) × P x
some_of None P held = absurd held
some_of (Some x) P held = (x, refl, held)

pub placed : (monitor : MonitorParts) (number : ℕ) (block : Block) → IsMonitor monitor → slice_get monitor.blocks number ≡ Some block → IsPlaced monitor block
placed monitor number block rule is =
    let owner = some_of (slice_get monitor.methods block.method) (λ (method : Method). (method.first ≤ number) × (number < method.first + method.count)) (rule.owned number block is) in
    let method = owner.0 in
    let about = rule.methods block.method method owner.1 in
    let place = number - method.first in
    let within : place < method.count = omega (arith, owner.2) in
    let where_it_is : method.first + place ≡ number = omega (arith, owner.2) in
    let one = some_of (slice_get monitor.blocks (method.first + place)) (IsBlockOf monitor block.method place method) (about.blocks place within) in
    let same : one.0 ≡ block = same_Some one.0 block (sym one.1 ∙ ap (slice_get monitor.blocks) where_it_is ∙ is) in
    record {
      few = record {
        fields = omega (arith, length-map monitor.fields (λ field. field.kind), rule.few_fields);
        inputs = omega (arith, ap (λ (found : Option Method). length (kinds_in found)) owner.1, about.few_inputs);
        locals = omega (arith, ap (λ (found : Option Method). length (map kind_of (locals_in found))) owner.1, length-map method.locals kind_of, about.few_locals);
      };
      fits = subst (λ (which : Block). fits_block (method_places monitor block.method) which ≡ true) same one.2.fits;
    }

pub placed_at : (monitor : MonitorParts) (blocks : List Block) (index : ℕ) (block : Block) → IsMonitor monitor → blocks ≡ monitor.blocks → block ≡ get_or blocks index block → index < length monitor.blocks → IsPlaced monitor block
placed_at monitor blocks index block rule same is within =
    let here : block ≡ get_or monitor.blocks index block = is ∙ ap (λ (list : List Block). get_or list index block) same in
    placed monitor index block rule (slice_get-get_or monitor.blocks index block within ∙ ap Some (sym here))

-- ---- a block, in a state of its monitor, at inputs of its method

held_method : (monitor : MonitorParts) (block : Block) (state : List Value) (inputs : Inputs) → FitsState monitor state → FitsInputs monitor block.method inputs → method_places monitor block.method ≡ held_places state inputs
held_method monitor block state inputs fits given = λ i. record {
  fields = sym (kinds_held (kinds_of monitor.fields) state fits) i;
  inputs = sym (kinds_held (kinds_in (slice_get monitor.methods block.method)) inputs.arguments given.arguments) i;
  locals = sym (kinds_held (map kind_of (locals_in (slice_get monitor.methods block.method))) inputs.locals given.locals) i;
}

pub record FitsHere (block : Block) (state : List Value) (inputs : Inputs) : Type 0 where
  pub few : AreFew state inputs
  pub fits : fits_block (held_places state inputs) block ≡ true

here_by : (monitor : MonitorParts) (block : Block) (state : List Value) (inputs : Inputs) → IsPlaced monitor block → FitsState monitor state → FitsInputs monitor block.method inputs → FitsHere block state inputs
here_by monitor block state inputs is fits given =
    let places = held_method monitor block state inputs fits given in
    let few = subst AreFewPlaces places is.few in
    record {
      few = record {
        few_fields = omega (arith, length-map state kind_of, few.fields);
        few_inputs = omega (arith, length-map inputs.arguments kind_of, few.inputs);
        few_locals = omega (arith, length-map inputs.locals kind_of, few.locals);
      };
      fits = subst (λ (some : Places). fits_block some block ≡ true) places is.fits;
    }

pub fits_here : (monitor : MonitorParts) (number : ℕ) (block : Block) (state : List Value) (inputs : Inputs) → slice_get monitor.blocks number ≡ Some block → IsPlaced monitor block
    → FitsState monitor state → FitsBlock monitor number inputs → FitsHere block state inputs
fits_here monitor number block state inputs is placed fits given =
    here_by monitor block state inputs placed fits (subst (λ (found : Option Block). IsSomeAnd found (λ which. FitsInputs monitor which.method inputs)) is given)

pub body_fits : (places : Places) (block : Block) → fits_block places block ≡ true → list_all (λ inner. inner) (map (fits_statement places) block.body) ≡ true
body_fits places block fits =
    let rest = (both_true (fits_formula places block.guard) (list_all (fits_statement places) block.body && fits_result places block.result) fits).1 in
    list_all-map (λ inner. inner) (fits_statement places) block.body ∙ (both_true (list_all (fits_statement places) block.body) (fits_result places block.result) rest).0

pub guard_fits : (places : Places) (block : Block) → fits_block places block ≡ true → fits_formula places block.guard ≡ true
guard_fits places block fits = (both_true (fits_formula places block.guard) (list_all (fits_statement places) block.body && fits_result places block.result) fits).0

pub few_locals_at : (monitor : MonitorParts) (methods : List Method) (index : ℕ) (method : Method) → IsMonitor monitor → methods ≡ monitor.methods → method ≡ get_or methods index method → index < length monitor.methods → length method.locals ≤ 4
few_locals_at monitor methods index method rule same is within =
    let here : method ≡ get_or monitor.methods index method = is ∙ ap (λ (list : List Method). get_or list index method) same in
    (rule.methods index method (slice_get-get_or monitor.methods index method within ∙ ap Some (sym here))).few_locals
