-- The blocks of a tree that breaks no rule run as its statements are written.
use Rattle.std.proofs.Common.{◌≡◌, ℕ, ◌+◌, ◌-◌, ◌≤◌, pos, Bool, true, false, cond, List, [], ◌∷◌, ◌++◌, length, map, drop, Option, Some, None, unwrap_or, refl, sym, ap, subst, ◌∙◌, arith, append_assoc}
use Rattle.std.specs.Prelude.{nat_le, nat_lt, slice_get, if◌then◌else◌}
use Rattle.std.specs.List.{flat_map, list_any}
use Rattle.std.specs.Option.{option_map}
use Rattle.std.specs.Str.{bytes_eq}
use Rattle.std.proofs.lemmas.Bool.{or_parts}
use Rattle.std.proofs.lemmas.Bool.Decides.{nat_tests}
use Rattle.std.proofs.lemmas.List.{append-nil, length-map}
use Rattle.std.proofs.lemmas.List.Folds.{list_any-append}
use Rattle.std.proofs.lemmas.Option.{get_or_from_slice_get}
use Rattle.lang_tree.specs.declared.tree.Lit.{Lit}
use Rattle.lang_tree.specs.declared.tree.Decl.{Decl}
use Rattle.lang_tree.specs.declared.tree.Decl.TheVariants as decls
use Rattle.lang_tree.specs.declared.tree.InputTree.{InputTree}
use Rattle.lang_tree.specs.declared.tree.MethodTree.{MethodTree}
use Rattle.lang_tree.specs.declared.tree.MonitorTree.{MonitorTree}
use Rattle.logic_linear.specs.Truth.{Valuation}
use Rattle.lang_base.specs.Limits.{GREATEST_NUMBER}
use Rattle.lang_base.specs.declared.kind.Kind.{Kind}
use Rattle.lang_base.specs.declared.kind.Kind.TheVariants as kinds
use Rattle.lang_base.specs.declared.value.Value.{Value}
use Rattle.lang_base.specs.declared.value.Value.TheVariants as values
use Rattle.lang_forms.specs.declared.scope.Entry.{Entry}
use Rattle.lang_forms.specs.declared.scope.Meaning.TheVariants as meanings
use Rattle.lang_forms.specs.Scope.{constant_entry, constant_value, declared_from, input_entry, input_meaning, inputs_from, parameter_entry, scope_of, variable_entry}
use Rattle.lang_forms.specs.Plain.{Plain, number, truth, entry_value, meaning_value}
use Rattle.lang_rules.specs.Rules.{PlacedName, declared_name, declared_names, faults_in_literals, faults_of, input_name, input_names, literal_faults, method_names, repeated}
use Rattle.lang_monitor.specs.declared.monitor.Block.{Block}
use Rattle.lang_monitor.specs.MonitorParts.{AreOfKinds, IsOfKind, MonitorParts, kinds_of}
use Rattle.lang_monitor.specs.Bodies.{Inputs, Memory, after, memory_of, number_of_value, reading, result_value, truth_of_value}
use Rattle.lang_types.specs.Typed.{IsPlaced, IsTyped, PlacedBlock, blocks_from, field_of, fields_of, literal_value, locals_of, statement_of}
use Rattle.lang_types.specs.PlainRuns.{Environment, MonitorRunsAsWritten, NamedValue, PlainState, RunsAsWritten, block_run, declared_values, environment_of, input_values, kinds_kept, kinds_taken, method_environment, named_values, plain_of}
use Rattle.lang_types.proofs.FineTrees.{IsFine, IsFinePlaced, append_none, fine_tree, no_fault, tree_blocks_fine}
use Rattle.lang_types.proofs.KeptMeanings.{fine_at}
use Rattle.lang_types.proofs.NamedPlaces.{found, named_is_found, own_name, scope_apart, scope_targets, variables_of}
use Rattle.lang_types.proofs.PlacedBlocks.{belong}
use Rattle.lang_types.proofs.PlainStatements.{Agrees, Setting, as_long, body_agrees, body_answers, field_value, local_value, run_in, stands_at}
use Rattle.lang_types.proofs.ScopePlaces.{after_rest, first_of_rest, within_rest}

-- ---- values at places

-- the values of a list stand at the places from the first one on
record Stand (arguments : List Value) (memory : Memory) (first : ℕ) (list : List Value) : Type 0 where
  at : (place k : ℕ) (value : Value) (rest : List Value) → place ≡ first + k → drop k list ≡ value ∷ rest → stands_at arguments memory place ≡ value

fields_stand : (arguments : List Value) (memory : Memory) → length memory.state ≤ 16 → Stand arguments memory 0 memory.state
fields_stand arguments memory few = record {
  at = λ place k value rest at is.
      let within = within_rest memory.state k value rest is in
      let same : place ≡ k = omega arith in
      field_value arguments memory place (omega arith)
      ∙ get_or_from_slice_get memory.state place value (values.Int (pos 0)) (ap (slice_get memory.state) same ∙ first_of_rest memory.state k value rest is);
}

locals_stand : (arguments : List Value) (memory : Memory) → Stand arguments memory 22 memory.locals
locals_stand arguments memory = record {
  at = λ place k value rest at is.
      local_value arguments memory place k at ∙ get_or_from_slice_get memory.locals k value (values.Int (pos 0)) (first_of_rest memory.locals k value rest is);
}

inputs_stand : (arguments : List Value) (memory : Memory) → length arguments ≤ 6 → Stand arguments memory 16 arguments
inputs_stand arguments memory few = record {
  at = λ place k value rest at is.
      let within = within_rest arguments k value rest is in
      let low : nat_lt place 16 ≡ false = grind (arith, nat_tests) in
      let high : nat_lt place 22 ≡ true = grind (arith, nat_tests) in
      let own : place - 16 ≡ k = omega arith in
      ap (λ (b : Bool). unwrap_or (if b then slice_get memory.state place else if nat_lt place 22 then slice_get arguments (place - 16) else slice_get memory.locals (place - 22)) (values.Int (pos 0))) low
      ∙ ap (λ (b : Bool). unwrap_or (if b then slice_get arguments (place - 16) else slice_get memory.locals (place - 22)) (values.Int (pos 0))) high
      ∙ ap (λ (n : ℕ). unwrap_or (slice_get arguments n) (values.Int (pos 0))) own
      ∙ ap (λ found. unwrap_or found (values.Int (pos 0))) (first_of_rest arguments k value rest is);
}

int_is : (value : Value) → IsOfKind kinds.Int value → number (number_of_value value) ≡ plain_of value
int_is (values.Int value) own = refl
int_is (values.Bool value) own = absurd own

bool_is : (value : Value) → IsOfKind kinds.Bool value → truth (truth_of_value value) ≡ plain_of value
bool_is (values.Int value) own = absurd own
bool_is (values.Bool value) own = refl

-- ---- what names stand for when a block begins

abbrev Alike : Valuation → List Entry → List NamedValue → Type 0
Alike here scope named = (name : List ℕ) → entry_value here (found scope name) ≡ environment_of named name

one_alike : (here : Valuation) (test : Bool) (entry : Entry) (rest : Option Entry) (own others : Plain) → meaning_value here entry.meaning ≡ own → entry_value here rest ≡ others
    → entry_value here (cond test (Some entry) rest) ≡ (if test then own else others)
one_alike here true entry rest own others this that = this
one_alike here false entry rest own others this that = that

input_alike : (arguments : List Value) (memory : Memory) (place : ℕ) (kind : Kind) (value : Value) → stands_at arguments memory place ≡ value → IsOfKind kind value
    → meaning_value (reading arguments memory) (input_meaning kind place) ≡ plain_of value
input_alike arguments memory place kinds.Int value is own = ap (λ x. number (number_of_value x)) is ∙ int_is value own
input_alike arguments memory place kinds.Bool value is own = ap (λ x. truth (truth_of_value x)) is ∙ bool_is value own

inputs_alike : (arguments : List Value) (memory : Memory) → Stand arguments memory 16 arguments → (place index : ℕ) (taken : List InputTree) (rest : List Value) (later : List Entry) (named : List NamedValue)
    → place ≡ 16 + index → drop index arguments ≡ rest → AreOfKinds (map (λ input. input.kind) taken) rest
    → Alike (reading arguments memory) later named → Alike (reading arguments memory) (inputs_from place taken ++ later) (input_values taken rest ++ named)
inputs_alike arguments memory stand place index [] [] later named at is fit alike name = alike name
inputs_alike arguments memory stand place index [] (first ∷ rest) later named at is fit alike name = absurd fit
inputs_alike arguments memory stand place index (input ∷ taken) [] later named at is fit alike name = absurd fit
inputs_alike arguments memory stand place index (input ∷ taken) (first ∷ rest) later named at is fit alike name =
    one_alike (reading arguments memory) (bytes_eq input.name name) (input_entry place input) (found (inputs_from (place + 1) taken ++ later) name) (plain_of first) (environment_of (input_values taken rest ++ named) name)
    (input_alike arguments memory place input.kind first (stand.at place index first rest at is) fit.0)
    (inputs_alike arguments memory stand (place + 1) (index + 1) taken rest later named (omega arith) (after_rest arguments index first rest is) fit.1 alike name)

small_test : (digits : ℕ) → nat_lt GREATEST_NUMBER digits ≡ false → nat_le digits GREATEST_NUMBER ≡ true
small_test digits small = grind (arith, nat_tests)

constant_is : (literal : Lit) → nat_lt GREATEST_NUMBER literal.digits ≡ false → constant_value literal ≡ literal_value literal
constant_is literal small = rw (small_test literal.digits small) refl

declared_alike : (known : List Decl) (arguments : List Value) (memory : Memory) (first : ℕ) (list : List Value) → Stand arguments memory first list
    → (place k : ℕ) (declared : List Decl) (rest : List Value) (later : List Entry) (named : List NamedValue)
    → faults_in_literals declared ≡ [] → place ≡ first + k → drop k list ≡ rest → AreOfKinds (kinds_of (flat_map (field_of known) declared)) rest
    → Alike (reading arguments memory) later named → Alike (reading arguments memory) (declared_from place declared ++ later) (declared_values declared rest ++ named)
declared_alike known arguments memory first list stand place k [] [] later named none at is fit alike name = alike name
declared_alike known arguments memory first list stand place k [] (value ∷ rest) later named none at is fit alike name = absurd fit
declared_alike known arguments memory first list stand place k (decls.Const from own literal ∷ more) rest later named none at is fit alike name =
    let both = append_none (literal_faults (decls.Const from own literal)) (faults_in_literals more) none in
    one_alike (reading arguments memory) (bytes_eq own name) (constant_entry own literal) (found (declared_from place more ++ later) name) (number (literal_value literal)) (environment_of (declared_values more rest ++ named) name)
    (ap (λ x. number x) (constant_is literal (no_fault _ _ both.0)))
    (declared_alike known arguments memory first list stand place k more rest later named both.1 at is fit alike name)
declared_alike known arguments memory first list stand place k (decls.Param from own literal limit ∷ more) [] later named none at is fit alike name = absurd fit
declared_alike known arguments memory first list stand place k (decls.Param from own literal limit ∷ more) (value ∷ rest) later named none at is fit alike name =
    let both = append_none (literal_faults (decls.Param from own literal limit)) (faults_in_literals more) none in
    one_alike (reading arguments memory) (bytes_eq own name) _ (found (declared_from (place + 1) more ++ later) name) (plain_of value) (environment_of (declared_values more rest ++ named) name)
    (ap (λ x. number (number_of_value x)) (stand.at place k value rest at is) ∙ int_is value fit.0)
    (declared_alike known arguments memory first list stand (place + 1) (k + 1) more rest later named both.1 (omega arith) (after_rest list k value rest is) fit.1 alike name)
declared_alike known arguments memory first list stand place k (decls.Int from own literal ∷ more) [] later named none at is fit alike name = absurd fit
declared_alike known arguments memory first list stand place k (decls.Int from own literal ∷ more) (value ∷ rest) later named none at is fit alike name =
    let both = append_none (literal_faults (decls.Int from own literal)) (faults_in_literals more) none in
    one_alike (reading arguments memory) (bytes_eq own name) _ (found (declared_from (place + 1) more ++ later) name) (plain_of value) (environment_of (declared_values more rest ++ named) name)
    (ap (λ x. number (number_of_value x)) (stand.at place k value rest at is) ∙ int_is value fit.0)
    (declared_alike known arguments memory first list stand (place + 1) (k + 1) more rest later named both.1 (omega arith) (after_rest list k value rest is) fit.1 alike name)
declared_alike known arguments memory first list stand place k (decls.Copied from own source ∷ more) [] later named none at is fit alike name = absurd fit
declared_alike known arguments memory first list stand place k (decls.Copied from own source ∷ more) (value ∷ rest) later named none at is fit alike name =
    let both = append_none (literal_faults (decls.Copied from own source)) (faults_in_literals more) none in
    one_alike (reading arguments memory) (bytes_eq own name) _ (found (declared_from (place + 1) more ++ later) name) (plain_of value) (environment_of (declared_values more rest ++ named) name)
    (ap (λ x. number (number_of_value x)) (stand.at place k value rest at is) ∙ int_is value fit.0)
    (declared_alike known arguments memory first list stand (place + 1) (k + 1) more rest later named both.1 (omega arith) (after_rest list k value rest is) fit.1 alike name)
declared_alike known arguments memory first list stand place k (decls.Flag from own flag ∷ more) [] later named none at is fit alike name = absurd fit
declared_alike known arguments memory first list stand place k (decls.Flag from own flag ∷ more) (value ∷ rest) later named none at is fit alike name =
    one_alike (reading arguments memory) (bytes_eq own name) _ (found (declared_from (place + 1) more ++ later) name) (plain_of value) (environment_of (declared_values more rest ++ named) name)
    (ap (λ x. truth (truth_of_value x)) (stand.at place k value rest at is) ∙ bool_is value fit.0)
    (declared_alike known arguments memory first list stand (place + 1) (k + 1) more rest later named none (omega arith) (after_rest list k value rest is) fit.1 alike name)

-- ---- fields and locals by their names

-- a name that is none of the earlier ones finds what it finds from here on
abbrev FindsLater : List PlacedName → List Entry → List Entry → Type 0
FindsLater earlier scope rest = (name : List ℕ) → list_any (λ other. bytes_eq other.name name) earlier ≡ false → found scope name ≡ found rest name

skip_one : (earlier : List PlacedName) (one : PlacedName) (scope : List Entry) (entry : Entry) (rest : List Entry) → entry.name ≡ one.name → FindsLater earlier scope (entry ∷ rest) → FindsLater (earlier ++ one ∷ []) scope rest
skip_one earlier one scope entry rest same later name none =
    let both = or_parts (list_any (λ other. bytes_eq other.name name) earlier) _ (sym (list_any-append (λ (other : PlacedName). bytes_eq other.name name) earlier (one ∷ [])) ∙ none) in
    let differs = or_parts (bytes_eq one.name name) false both.1 in
    later name both.0 ∙ ap (λ x. cond x (Some entry) (found rest name)) (ap (λ x. bytes_eq x name) same ∙ differs.0)

-- the names up to here are skipped
skip_more : (earlier : List PlacedName) (one : PlacedName) (more : List PlacedName) (scope rest : List Entry) → FindsLater ((earlier ++ one ∷ []) ++ more) scope rest → FindsLater (earlier ++ one ∷ more) scope rest
skip_more earlier one more scope rest later = subst (λ (names : List PlacedName). FindsLater names scope rest) (append_assoc earlier (one ∷ []) more) later

skip_declared : (earlier : List PlacedName) (scope : List Entry) (place : ℕ) (declared : List Decl) (later : List Entry) → FindsLater earlier scope (declared_from place declared ++ later) → FindsLater (earlier ++ declared_names declared) scope later
skip_declared earlier scope place [] later finds = subst (λ (names : List PlacedName). FindsLater names scope later) (sym (append-nil earlier)) finds
skip_declared earlier scope place (decls.Const at own literal ∷ more) later finds =
    let one = declared_name (decls.Const at own literal) in
    skip_more earlier one (declared_names more) scope later
    (skip_declared (earlier ++ one ∷ []) scope place more later (skip_one earlier one scope (constant_entry own literal) (declared_from place more ++ later) refl finds))
skip_declared earlier scope place (decls.Param at own literal limit ∷ more) later finds =
    let one = declared_name (decls.Param at own literal limit) in
    skip_more earlier one (declared_names more) scope later
    (skip_declared (earlier ++ one ∷ []) scope (place + 1) more later (skip_one earlier one scope (parameter_entry own place) (declared_from (place + 1) more ++ later) refl finds))
skip_declared earlier scope place (decls.Int at own literal ∷ more) later finds =
    let one = declared_name (decls.Int at own literal) in
    skip_more earlier one (declared_names more) scope later
    (skip_declared (earlier ++ one ∷ []) scope (place + 1) more later (skip_one earlier one scope (variable_entry own (meanings.Int place)) (declared_from (place + 1) more ++ later) refl finds))
skip_declared earlier scope place (decls.Copied at own source ∷ more) later finds =
    let one = declared_name (decls.Copied at own source) in
    skip_more earlier one (declared_names more) scope later
    (skip_declared (earlier ++ one ∷ []) scope (place + 1) more later (skip_one earlier one scope (variable_entry own (meanings.Int place)) (declared_from (place + 1) more ++ later) refl finds))
skip_declared earlier scope place (decls.Flag at own flag ∷ more) later finds =
    let one = declared_name (decls.Flag at own flag) in
    skip_more earlier one (declared_names more) scope later
    (skip_declared (earlier ++ one ∷ []) scope (place + 1) more later (skip_one earlier one scope (variable_entry own (meanings.Flag place)) (declared_from (place + 1) more ++ later) refl finds))

skip_inputs : (earlier : List PlacedName) (scope : List Entry) (place : ℕ) (taken : List InputTree) (later : List Entry) → FindsLater earlier scope (inputs_from place taken ++ later) → FindsLater (earlier ++ input_names taken) scope later
skip_inputs earlier scope place [] later finds = subst (λ (names : List PlacedName). FindsLater names scope later) (sym (append-nil earlier)) finds
skip_inputs earlier scope place (input ∷ more) later finds =
    skip_more earlier (input_name input) (input_names more) scope later
    (skip_inputs (earlier ++ input_name input ∷ []) scope (place + 1) more later (skip_one earlier (input_name input) scope (input_entry place input) (inputs_from (place + 1) more ++ later) refl finds))

repeated_later : (earlier these those : List PlacedName) → repeated earlier (these ++ those) ≡ [] → repeated (earlier ++ these) those ≡ []
repeated_later earlier [] those none = ap (λ (names : List PlacedName). repeated names those) (append-nil earlier) ∙ none
repeated_later earlier (one ∷ these) those none =
    let both = append_none _ (repeated (earlier ++ one ∷ []) (these ++ those)) none in
    ap (λ (names : List PlacedName). repeated names those) (sym (append_assoc earlier (one ∷ []) these)) ∙ repeated_later (earlier ++ one ∷ []) these those both.1

-- its own name finds an entry
finds_own : (earlier : List PlacedName) (scope : List Entry) (entry : Entry) (rest : List Entry) → list_any (λ other. bytes_eq other.name entry.name) earlier ≡ false → FindsLater earlier scope (entry ∷ rest) → found scope entry.name ≡ Some entry
finds_own earlier scope entry rest none later = later entry.name none ∙ ap (λ x. cond x (Some entry) (found rest entry.name)) (own_name entry.name)

-- what names of a scope stand for, and what stands at the places of a list
record Reads (names : Environment) (scope : List Entry) (arguments : List Value) (memory : Memory) (first : ℕ) (list : List Value) : Type 0 where
  alike : (name : List ℕ) → entry_value (reading arguments memory) (found scope name) ≡ names name
  stand : Stand arguments memory first list

-- the values of the declarations from a place on, by their names
values_named : (known : List Decl) (names : Environment) (scope : List Entry) (arguments : List Value) (memory : Memory) (first : ℕ) (list : List Value) → Reads names scope arguments memory first list
    → (place k : ℕ) (declared : List Decl) (rest : List Value) (earlier more : List PlacedName) (later : List Entry) → repeated earlier (declared_names declared ++ more) ≡ [] → place ≡ first + k → drop k list ≡ rest
    → AreOfKinds (kinds_of (flat_map (field_of known) declared)) rest → FindsLater earlier scope (declared_from place declared ++ later)
    → map plain_of rest ≡ map (λ field. names field.name) (flat_map (field_of known) declared)
values_named known names scope arguments memory first list reads place k [] [] earlier more later none at is fit finds = refl
values_named known names scope arguments memory first list reads place k [] (value ∷ rest) earlier more later none at is fit finds = absurd fit
values_named known names scope arguments memory first list reads place k (decls.Const from own literal ∷ declared) rest earlier more later none at is fit finds =
    let one = declared_name (decls.Const from own literal) in
    let both = append_none _ (repeated (earlier ++ one ∷ []) (declared_names declared ++ more)) none in
    values_named known names scope arguments memory first list reads place k declared rest (earlier ++ one ∷ []) more later both.1 at is fit
    (skip_one earlier one scope (constant_entry own literal) (declared_from place declared ++ later) refl finds)
values_named known names scope arguments memory first list reads place k (decls.Param from own literal limit ∷ declared) [] earlier more later none at is fit finds = absurd fit
values_named known names scope arguments memory first list reads place k (decls.Param from own literal limit ∷ declared) (value ∷ rest) earlier more later none at is fit finds =
    let one = declared_name (decls.Param from own literal limit) in
    let entry = parameter_entry own place in
    let both = append_none _ (repeated (earlier ++ one ∷ []) (declared_names declared ++ more)) none in
    let here = ap (entry_value (reading arguments memory)) (finds_own earlier scope entry (declared_from (place + 1) declared ++ later) (no_fault _ _ both.0) finds) in
    let stands = ap (λ x. number (number_of_value x)) (reads.stand.at place k value rest at is) ∙ int_is value fit.0 in
    let next = values_named known names scope arguments memory first list reads (place + 1) (k + 1) declared rest (earlier ++ one ∷ []) more later both.1 (omega arith) (after_rest list k value rest is) fit.1
    (skip_one earlier one scope entry (declared_from (place + 1) declared ++ later) refl finds) in
    let field : plain_of value ≡ names own = sym stands ∙ sym here ∙ reads.alike own in
    λ i. field i ∷ next i
values_named known names scope arguments memory first list reads place k (decls.Int from own literal ∷ declared) [] earlier more later none at is fit finds = absurd fit
values_named known names scope arguments memory first list reads place k (decls.Int from own literal ∷ declared) (value ∷ rest) earlier more later none at is fit finds =
    let one = declared_name (decls.Int from own literal) in
    let entry = variable_entry own (meanings.Int place) in
    let both = append_none _ (repeated (earlier ++ one ∷ []) (declared_names declared ++ more)) none in
    let here = ap (entry_value (reading arguments memory)) (finds_own earlier scope entry (declared_from (place + 1) declared ++ later) (no_fault _ _ both.0) finds) in
    let stands = ap (λ x. number (number_of_value x)) (reads.stand.at place k value rest at is) ∙ int_is value fit.0 in
    let next = values_named known names scope arguments memory first list reads (place + 1) (k + 1) declared rest (earlier ++ one ∷ []) more later both.1 (omega arith) (after_rest list k value rest is) fit.1
    (skip_one earlier one scope entry (declared_from (place + 1) declared ++ later) refl finds) in
    let field : plain_of value ≡ names own = sym stands ∙ sym here ∙ reads.alike own in
    λ i. field i ∷ next i
values_named known names scope arguments memory first list reads place k (decls.Copied from own source ∷ declared) [] earlier more later none at is fit finds = absurd fit
values_named known names scope arguments memory first list reads place k (decls.Copied from own source ∷ declared) (value ∷ rest) earlier more later none at is fit finds =
    let one = declared_name (decls.Copied from own source) in
    let entry = variable_entry own (meanings.Int place) in
    let both = append_none _ (repeated (earlier ++ one ∷ []) (declared_names declared ++ more)) none in
    let here = ap (entry_value (reading arguments memory)) (finds_own earlier scope entry (declared_from (place + 1) declared ++ later) (no_fault _ _ both.0) finds) in
    let stands = ap (λ x. number (number_of_value x)) (reads.stand.at place k value rest at is) ∙ int_is value fit.0 in
    let next = values_named known names scope arguments memory first list reads (place + 1) (k + 1) declared rest (earlier ++ one ∷ []) more later both.1 (omega arith) (after_rest list k value rest is) fit.1
    (skip_one earlier one scope entry (declared_from (place + 1) declared ++ later) refl finds) in
    let field : plain_of value ≡ names own = sym stands ∙ sym here ∙ reads.alike own in
    λ i. field i ∷ next i
values_named known names scope arguments memory first list reads place k (decls.Flag from own flag ∷ declared) [] earlier more later none at is fit finds = absurd fit
values_named known names scope arguments memory first list reads place k (decls.Flag from own flag ∷ declared) (value ∷ rest) earlier more later none at is fit finds =
    let one = declared_name (decls.Flag from own flag) in
    let entry = variable_entry own (meanings.Flag place) in
    let both = append_none _ (repeated (earlier ++ one ∷ []) (declared_names declared ++ more)) none in
    let here = ap (entry_value (reading arguments memory)) (finds_own earlier scope entry (declared_from (place + 1) declared ++ later) (no_fault _ _ both.0) finds) in
    let stands = ap (λ x. truth (truth_of_value x)) (reads.stand.at place k value rest at is) ∙ bool_is value fit.0 in
    let next = values_named known names scope arguments memory first list reads (place + 1) (k + 1) declared rest (earlier ++ one ∷ []) more later both.1 (omega arith) (after_rest list k value rest is) fit.1
    (skip_one earlier one scope entry (declared_from (place + 1) declared ++ later) refl finds) in
    let field : plain_of value ≡ names own = sym stands ∙ sym here ∙ reads.alike own in
    λ i. field i ∷ next i

-- ---- a block

-- a tree's block in a state, with inputs that fit
record IsGiven (tree : MonitorTree) (placed : PlacedBlock) (state : List Value) (inputs : Inputs) : Type 0 where
  sound : IsFine tree
  fine : IsFinePlaced tree.decls placed
  fit : AreOfKinds (kinds_of (fields_of tree.decls)) state
  taken : AreOfKinds (kinds_taken placed.method) inputs.arguments
  kept : AreOfKinds (kinds_kept placed.method) inputs.locals

few_kinds : (declared : List Decl) → length (fields_of declared) ≤ 16 → length (kinds_of (fields_of declared)) ≤ 16
few_kinds declared few = rw length-map few

few_taken : (method : MethodTree) (arguments : List Value) → length method.inputs ≤ 6 → AreOfKinds (kinds_taken method) arguments → length arguments ≤ 6
few_taken method arguments few fit =
    let long = as_long (kinds_taken method) arguments fit in
    let count = length-map method.inputs (λ input. input.kind) in
    omega arith

abbrev setting_of : (tree : MonitorTree) (placed : PlacedBlock) (state : List Value) (inputs : Inputs) → IsGiven tree placed state inputs → Setting
setting_of tree placed state inputs given = record {
  scope = scope_of tree.decls placed.method;
  variables = variables_of tree.decls placed.method;
  arguments = inputs.arguments;
  apart = scope_apart tree.decls placed.method (few_kinds tree.decls given.sound.fields) given.fine.method.inputs;
  targets = scope_targets tree.decls placed.method (few_kinds tree.decls given.sound.fields);
}

begins : (tree : MonitorTree) (placed : PlacedBlock) (state : List Value) (inputs : Inputs) → IsGiven tree placed state inputs
    → Alike (reading inputs.arguments (memory_of state inputs)) (scope_of tree.decls placed.method)
    (declared_values tree.decls state ++ (input_values placed.method.inputs inputs.arguments ++ declared_values placed.method.locals inputs.locals))
begins tree placed state inputs given =
    let arguments = inputs.arguments in
    let memory = memory_of state inputs in
    let method = placed.method in
    let long = as_long (kinds_of (fields_of tree.decls)) state given.fit in
    let few = few_kinds tree.decls given.sound.fields in
    let named = declared_values method.locals inputs.locals in
    let own : Alike (reading arguments memory) (declared_from 22 method.locals ++ []) (named ++ []) =
    declared_alike [] arguments memory 22 memory.locals (locals_stand arguments memory) 22 0 method.locals inputs.locals [] [] given.fine.method.literals refl refl given.kept (λ name. refl) in
    let locals : Alike (reading arguments memory) (declared_from 22 method.locals) named =
    subst (λ (list : List NamedValue). Alike (reading arguments memory) (declared_from 22 method.locals) list) (append-nil named)
    (subst (λ (list : List Entry). Alike (reading arguments memory) list (named ++ [])) (append-nil (declared_from 22 method.locals)) own) in
    let inputs_too = inputs_alike arguments memory (inputs_stand arguments memory (few_taken method arguments given.fine.method.inputs given.taken)) 16 0 method.inputs arguments (declared_from 22 method.locals) named refl refl given.taken locals in
    declared_alike tree.decls arguments memory 0 state (fields_stand arguments memory (omega arith)) 0 0 tree.decls state (inputs_from 16 method.inputs ++ declared_from 22 method.locals) (input_values method.inputs arguments ++ named)
    given.sound.literals refl refl given.fit inputs_too

-- where the fields and the locals of a memory are read by their names
named_fields : (tree : MonitorTree) (placed : PlacedBlock) (arguments : List Value) (memory : Memory) (names : Environment) → IsFine tree
    → ((name : List ℕ) → entry_value (reading arguments memory) (found (scope_of tree.decls placed.method) name) ≡ names name) → AreOfKinds (kinds_of (fields_of tree.decls)) memory.state
    → map plain_of memory.state ≡ map (λ field. names field.name) (fields_of tree.decls)
named_fields tree placed arguments memory names sound alike fit =
    let scope = scope_of tree.decls placed.method in
    let long = as_long (kinds_of (fields_of tree.decls)) memory.state fit in
    let few = few_kinds tree.decls sound.fields in
    values_named tree.decls names scope arguments memory 0 memory.state (record { alike = alike; stand = fields_stand arguments memory (omega arith) }) 0 0 tree.decls memory.state [] (method_names tree.methods)
    (inputs_from 16 placed.method.inputs ++ declared_from 22 placed.method.locals) sound.names refl refl fit (λ name none. refl)

named_locals : (tree : MonitorTree) (placed : PlacedBlock) (arguments : List Value) (memory : Memory) (names : Environment) → IsFinePlaced tree.decls placed
    → ((name : List ℕ) → entry_value (reading arguments memory) (found (scope_of tree.decls placed.method) name) ≡ names name) → AreOfKinds (kinds_kept placed.method) memory.locals
    → map plain_of memory.locals ≡ map (λ field. names field.name) (locals_of placed.method.locals)
named_locals tree placed arguments memory names fine alike fit =
    let method = placed.method in
    let scope = scope_of tree.decls method in
    let locals = declared_from 22 method.locals in
    let earlier = declared_names tree.decls ++ input_names method.inputs in
    let distinct : repeated earlier (declared_names method.locals ++ []) ≡ [] =
    ap (repeated earlier) (append-nil (declared_names method.locals)) ∙ repeated_later (declared_names tree.decls) (input_names method.inputs) (declared_names method.locals) fine.method.names in
    let past = skip_inputs (declared_names tree.decls) scope 16 method.inputs locals (skip_declared [] scope 0 tree.decls (inputs_from 16 method.inputs ++ locals) (λ name none. refl)) in
    let finds : FindsLater earlier scope (locals ++ []) = subst (FindsLater earlier scope) (sym (append-nil locals)) past in
    values_named [] names scope arguments memory 22 memory.locals (record { alike = alike; stand = locals_stand arguments memory }) 22 0 method.locals memory.locals earlier [] [] distinct refl refl fit finds

-- a block of the tree's fields and a method's locals, run from a state
block_runs : (tree : MonitorTree) (monitor : MonitorParts) (placed : PlacedBlock) (block : Block) (state : List Value) (inputs : Inputs) → IsGiven tree placed state inputs → monitor.fields ≡ fields_of tree.decls → IsPlaced tree.decls placed block
    → RunsAsWritten monitor placed.method block state inputs (block_run tree.decls placed state inputs)
block_runs tree monitor placed block state inputs given fields its =
    let scope = scope_of tree.decls placed.method in
    let names = method_environment tree.decls placed.method state inputs in
    let setting = setting_of tree placed state inputs given in
    let memory = memory_of state inputs in
    let body = placed.block.body in
    let done = flat_map (statement_of scope) body in
    let reached = run_in inputs.arguments done memory in
    let end = block_run tree.decls placed state inputs in
    let before : PlainState = record { names = names; returned = None } in
    let start : Agrees setting memory names = record {
      stored = record { fields = given.fit; locals = given.kept };
      alike = λ name. ap (entry_value (reading inputs.arguments memory)) (named_is_found scope name) ∙ begins tree placed state inputs given name;
    } in
    let ended = body_agrees setting body given.fine.body memory before start in
    let alike = λ (name : List ℕ). ap (entry_value (reading inputs.arguments reached)) (sym (named_is_found scope name)) ∙ ended.alike name in
    record {
      reaches = ap (λ body. map plain_of (after inputs body state).state) its.body
          ∙ named_fields tree placed inputs.arguments reached end.names given.sound alike ended.stored.fields ∙ ap (named_values end) (sym fields);
      keeps = ap (λ body. map plain_of (after inputs body state).locals) its.body
          ∙ named_locals tree placed inputs.arguments reached end.names given.fine alike ended.stored.locals;
      answers = ap (λ body. option_map plain_of (result_value (after inputs body state) inputs.arguments block.result)) its.body
          ∙ ap (λ result. option_map plain_of (result_value reached inputs.arguments result)) its.result
          ∙ body_answers setting body given.fine.body given.fine.early memory before start refl;
    }

pub bodies_keep : (tree : MonitorTree) (monitor : MonitorParts) → faults_of tree ≡ [] → IsTyped tree monitor → MonitorRunsAsWritten tree monitor
bodies_keep tree monitor none typed index placed block here there state inputs fit taken kept =
    let row = blocks_from 0 tree.methods in
    let given : IsGiven tree placed state inputs = record {
      sound = fine_tree tree none;
      fine = fine_at tree.decls row (tree_blocks_fine tree none) index placed here;
      fit = subst (λ fields. AreOfKinds (kinds_of fields) state) typed.fields fit;
      taken = taken;
      kept = kept;
    } in
    block_runs tree monitor placed block state inputs given typed.fields (belong tree.decls row monitor.blocks typed.blocks index placed block here there)
