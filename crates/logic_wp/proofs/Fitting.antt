-- What the rule of a monitor says of the block, and of the condition, of a number.
use Rattle.std.proofs.Common.{◌≡◌, ℕ, ◌+◌, ◌-◌, ◌<◌, ◌≤◌, true, ◌&&◌, map, length, Option, Some, None, sym, subst, arith, ap, refl, ◌∙◌}
use Rattle.std.specs.Prelude.{slice_get}
use Rattle.std.specs.List.{list_all}
use Rattle.std.specs.Option.{IsSomeAnd}
use Rattle.std.proofs.lemmas.Bool.{and_parts}
use Rattle.std.proofs.lemmas.List.{length-map}
use Rattle.std.proofs.lemmas.Option.{same_Some}
use Rattle.logic_linear.specs.declared.formula.Formula.{Formula}
use Rattle.lang_monitor.specs.declared.monitor.Method.{Method}
use Rattle.lang_monitor.specs.declared.monitor.Block.{Block}
use Rattle.lang_monitor.specs.declared.monitor.Condition.{Condition}
use Rattle.lang_monitor.specs.MonitorParts.{MonitorParts, IsMonitor, IsBlockOf, Places, kind_of, locals_in, method_places, fits_formula, fits_statement, fits_result, fits_block}
use Rattle.lang_monitor.specs.Triples.{places_of}
use Rattle.lang_monitor.proofs.Classes.{condition_block}

some_of : {X : Type 0} (o : Option X) (P : X → Type 0) → IsSomeAnd o P
    → (x : X) × (o ≡ Some x) × P x
some_of None P held = absurd held
some_of (Some x) P held = (x, refl, held)

-- a block fits its places
pub record BlockFits (monitor : MonitorParts) (block : Block) : Type 0 where
  pub few_locals : length (places_of monitor block).locals ≤ 4
  pub guard : fits_formula (places_of monitor block) block.guard ≡ true
  pub body : list_all (fits_statement (places_of monitor block)) block.body ≡ true

fits_in : (monitor : MonitorParts) (block : Block) → length (places_of monitor block).locals ≤ 4
    → fits_block (places_of monitor block) block ≡ true → BlockFits monitor block
fits_in monitor block few fits =
    let places = places_of monitor block in
    let both = and_parts (fits_formula places block.guard) (list_all (fits_statement places) block.body && fits_result places block.result) fits in
    record {
      few_locals = few;
      guard = both.0;
      body = (and_parts (list_all (fits_statement places) block.body) (fits_result places block.result) both.1).0;
    }

pub block_fits : (monitor : MonitorParts) (number : ℕ) (block : Block) → IsMonitor monitor
    → slice_get monitor.blocks number ≡ Some block → BlockFits monitor block
block_fits monitor number block rule is =
    let owner = some_of (slice_get monitor.methods block.method) (λ (method : Method). (method.first ≤ number) × (number < method.first + method.count)) (rule.owned number block is) in
    let method = owner.0 in
    let about = rule.methods block.method method owner.1 in
    let place = number - method.first in
    let within : place < method.count = omega (arith, owner.2) in
    let where_it_is : method.first + place ≡ number = omega (arith, owner.2) in
    let one = some_of (slice_get monitor.blocks (method.first + place)) (IsBlockOf monitor block.method place method) (about.blocks place within) in
    let same : one.0 ≡ block = same_Some one.0 block (sym one.1 ∙ ap (slice_get monitor.blocks) where_it_is ∙ is) in
    fits_in monitor block
    (omega (arith, ap (λ (found : Option Method). length (map kind_of (locals_in found))) owner.1, length-map method.locals kind_of, about.few_locals))
    (subst (λ (which : Block). fits_block (method_places monitor block.method) which ≡ true) same one.2.fits)

-- the guard of a condition is the guard of a block, whose places it fits
pub record GuardFits (guard : Formula) : Type 0 where
  pub places : Places
  pub few : length places.locals ≤ 4
  pub fits : fits_formula places guard ≡ true

pub condition_fits : (monitor : MonitorParts) (index : ℕ) (condition : Condition)
    → IsMonitor monitor → slice_get monitor.conditions index ≡ Some condition
    → GuardFits condition.guard
condition_fits monitor index condition rule is =
    let class = condition_block monitor index condition rule is in
    let block = some_of (slice_get monitor.blocks class.block) (λ (held : Block). held.guard ≡ condition.guard) class.guard in
    let fits = block_fits monitor class.block block.0 rule block.1 in
    record { places = places_of monitor block.0; few = fits.few_locals; fits = ap (fits_formula (places_of monitor block.0)) (sym block.2) ∙ fits.guard }
