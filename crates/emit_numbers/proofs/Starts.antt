-- Values at the start are within 64 bits.
use Rattle.std.proofs.Common.{◌≡◌, ℕ, zero, suc, ◌+◌, ℤ, pos, Bool, true, false, List, [], ◌∷◌, Option, Some, length, map, refl, sym, subst}
use Rattle.std.specs.Prelude.{nat_lt, slice_get, IsSomeAnd, if◌then◌else◌}
use Rattle.std.specs.List.{All, flat_map}
use Rattle.std.proofs.lemmas.List.Elements.{All-nil, All-cons, All-head, All-tail}
use Rattle.lang_tree.specs.declared.tree.Decl.{Decl}
use Rattle.lang_tree.specs.declared.tree.Decl.TheVariants as decls
use Rattle.lang_tree.specs.declared.tree.MethodTree.{MethodTree}
use Rattle.lang_base.specs.Limits.{GREATEST_NUMBER}
use Rattle.lang_base.specs.declared.kind.Kind.{Kind}
use Rattle.lang_base.specs.declared.value.Value.{Value}
use Rattle.lang_base.specs.declared.value.Value.TheVariants as values
use Rattle.lang_forms.specs.Scope.{field_count, literal_value}
use Rattle.lang_rules.specs.Rules.{faults_in_literals, faults_in_methods, is_source, literal_faults, method_faults}
use Rattle.lang_monitor.specs.declared.monitor.Field.{Field}
use Rattle.lang_monitor.specs.declared.monitor.Method.{Method}
use Rattle.lang_monitor.specs.declared.start.Origin.{Origin}
use Rattle.lang_monitor.specs.declared.start.Origin.TheVariants as origins
use Rattle.lang_monitor.specs.MonitorParts.{HasOrigin, IsChosen, locals_in}
use Rattle.lang_monitor.specs.Starts.{AreStarts, IsStart, MayStart}
use Rattle.lang_types.specs.Typed.{IntStart, copied_from, copy_of, field_of, fields_of, int_field, limit_of, methods_from, starts_of}
use Rattle.lang_types.proofs.FineTrees.{append_none, fine_method, fine_tree, no_fault}
use Rattle.lang_types.proofs.OpenedStarts.{have_origins}
use Rattle.emit_numbers.specs.Laws.{AreShort, StartsAreShort}
use Rattle.emit_numbers.proofs.Short.{IsShort, signed_short, zero_is_short}

-- ---- what is written

either_start : (test : Bool) (one other : IntStart) → IsShort (values.Int one.number) → IsShort (values.Int other.number) → IsShort (values.Int (if test then one else other).number)
either_start true one other this that = this
either_start false one other this that = that

source_short : (place : ℕ) (decl : Decl) → literal_faults decl ≡ [] → IsShort (values.Int (copied_from place decl).number)
source_short place (decls.Const at name value) none = signed_short value.minus value.digits (no_fault (nat_lt GREATEST_NUMBER value.digits) _ none)
source_short place (decls.Param at name value limit) none = signed_short value.minus value.digits (no_fault (nat_lt GREATEST_NUMBER value.digits) _ (append_none _ _ none).0)
source_short place (decls.Int at name value) none = zero_is_short
source_short place (decls.Copied at name source) none = zero_is_short
source_short place (decls.Flag at name value) none = zero_is_short

copy_short : (wanted : List ℕ) (place : ℕ) (declared : List Decl) → faults_in_literals declared ≡ [] → IsShort (values.Int (copy_of wanted place declared).number)
copy_short wanted place [] none = zero_is_short
copy_short wanted place (decl ∷ more) none =
    let both = append_none (literal_faults decl) (faults_in_literals more) none in
    let next = place + field_count (decl ∷ []) in
    either_start (is_source wanted decl) (copied_from place decl) (copy_of wanted next more) (source_short place decl both.0) (copy_short wanted next more both.1)

abbrev StartsShort : Field → Type 0
StartsShort field = IsShort field.start

fields_short : (known declared : List Decl) → faults_in_literals known ≡ [] → faults_in_literals declared ≡ [] → All StartsShort (flat_map (field_of known) declared)
fields_short known [] all none = All-nil StartsShort
fields_short known (decls.Const at name value ∷ more) all none =
    let both = append_none (literal_faults (decls.Const at name value)) (faults_in_literals more) none in
    fields_short known more all both.1
fields_short known (decls.Param at name value limit ∷ more) all none =
    let both = append_none (literal_faults (decls.Param at name value limit)) (faults_in_literals more) none in
    All-cons StartsShort (int_field name (literal_value value) (origins.Chosen (limit_of limit))) (flat_map (field_of known) more)
    (signed_short value.minus value.digits (no_fault (nat_lt GREATEST_NUMBER value.digits) _ (append_none _ _ both.0).0)) (fields_short known more all both.1)
fields_short known (decls.Int at name value ∷ more) all none =
    let both = append_none (literal_faults (decls.Int at name value)) (faults_in_literals more) none in
    All-cons StartsShort (int_field name (literal_value value) origins.Own) (flat_map (field_of known) more)
    (signed_short value.minus value.digits (no_fault (nat_lt GREATEST_NUMBER value.digits) _ both.0)) (fields_short known more all both.1)
fields_short known (decls.Copied at name source ∷ more) all none =
    let start = copy_of source.name 0 known in
    All-cons StartsShort (int_field name start.number start.origin) (flat_map (field_of known) more) (copy_short source.name 0 known all) (fields_short known more all none)
fields_short known (decls.Flag at name value ∷ more) all none = All-cons StartsShort _ (flat_map (field_of known) more) refl (fields_short known more all none)

-- ---- what is chosen

chosen_short : (all : List Value) (own : Value) (origin : Origin) (value : Value) → IsChosen origin → MayStart all own origin value → IsShort value
chosen_short all own origins.Own value chosen may = absurd chosen
chosen_short all own (origins.Chosen limit) (values.Int number) chosen may = may.1
chosen_short all own (origins.Chosen limit) (values.Bool truth) chosen may = absurd may
chosen_short all own (origins.Copied parameter) value chosen may = absurd chosen

parameter_short : (all : List Value) (fields : List Field) (start : List Value) (place : ℕ) → AreStarts all fields start → IsSomeAnd (slice_get fields place) (λ source. IsChosen source.origin)
    → IsSomeAnd (slice_get start place) IsShort
parameter_short all [] start place are chosen = absurd chosen
parameter_short all (field ∷ fields) [] place are chosen = absurd are
parameter_short all (field ∷ fields) (value ∷ more) zero are chosen = chosen_short all field.start field.origin value chosen are.0
parameter_short all (field ∷ fields) (value ∷ more) (suc place) are chosen = parameter_short all fields more place are.1 chosen

value_short : (fields : List Field) (start : List Value) (kind : Kind) (own : Value) (origin : Origin) (value : Value) → IsStart fields start → IsShort own → HasOrigin fields kind origin
    → MayStart start own origin value → IsShort value
value_short fields start kind own origins.Own value is short has may = subst IsShort (sym may) short
value_short fields start kind own (origins.Chosen limit) value is short has may = chosen_short start own (origins.Chosen limit) value tt may
value_short fields start kind own (origins.Copied parameter) value is short has may =
    subst (λ (found : Option Value). IsSomeAnd found IsShort) may (parameter_short start fields start parameter is has.1)

abbrev HasItsOrigin : List Field → Field → Type 0
HasItsOrigin all field = HasOrigin all field.kind field.origin

each_short : (all : List Field) (begun : List Value) (fields : List Field) (start : List Value) → IsStart all begun → All StartsShort fields → All (HasItsOrigin all) fields → AreStarts begun fields start
    → AreShort start
each_short all begun [] [] is short has are = All-nil IsShort
each_short all begun [] (value ∷ more) is short has are = absurd are
each_short all begun (field ∷ fields) [] is short has are = absurd are
each_short all begun (field ∷ fields) (value ∷ more) is short has are =
    All-cons IsShort value more
    (value_short all begun field.kind field.start field.origin value is (All-head StartsShort field fields short) (All-head (HasItsOrigin all) field fields has) are.0)
    (each_short all begun fields more is (All-tail StartsShort field fields short) (All-tail (HasItsOrigin all) field fields has) are.1)

-- ---- the law

fields_map : (fields : List Field) → All StartsShort fields → AreShort (map (λ field. field.start) fields)
fields_map [] short = All-nil IsShort
fields_map (field ∷ fields) short = All-cons IsShort field.start (map (λ field. field.start) fields) (All-head StartsShort field fields short) (fields_map fields (All-tail StartsShort field fields short))

starts_short : (declared : List Decl) → faults_in_literals declared ≡ [] → AreShort (starts_of declared)
starts_short declared none = fields_map (flat_map (field_of []) declared) (fields_short [] declared refl none)

locals_short : (declared : List Decl) (number : ℕ) (methods : List MethodTree) → faults_in_methods declared methods ≡ [] → (index : ℕ) → AreShort (locals_in (slice_get (methods_from number methods) index))
locals_short declared number [] none index = All-nil IsShort
locals_short declared number (method ∷ methods) none zero = let both = append_none (method_faults declared method) (faults_in_methods declared methods) none in starts_short method.locals (fine_method declared method both.0).literals
locals_short declared number (method ∷ methods) none (suc index) =
    let both = append_none (method_faults declared method) (faults_in_methods declared methods) none in
    locals_short declared (number + length method.blocks) methods both.1 index

pub starts_are_short : StartsAreShort
starts_are_short = λ tree monitor none typed.
    let sound = fine_tree tree none in
    let fields = fields_of tree.decls in
    let short = fields_short tree.decls tree.decls sound.literals sound.literals in (
      subst (λ (some : List Field). AreShort (map (λ field. field.start) some)) (sym typed.fields) (fields_map fields short),
      λ method. subst (λ (methods : List Method). AreShort (locals_in (slice_get methods method))) (sym typed.methods) (locals_short tree.decls 0 tree.methods sound.each method),
      subst (λ (some : List Field). (start : List Value) → IsStart some start → AreShort start) (sym typed.fields)
          (λ start is. each_short fields start fields start is short (have_origins tree.decls sound.literals sound.starts) is),
    )
