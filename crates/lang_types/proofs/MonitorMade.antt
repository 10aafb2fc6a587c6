-- What is typed from a tree that breaks no rule is a monitor.
use Rattle.std.proofs.Common.{◌≡◌, ℕ, zero, suc, ◌+◌, ◌<◌, ◌≤◌, true, List, [], ◌∷◌, length, map, Some, refl, sym, ap, subst, ◌∙◌, arith}
use Rattle.std.specs.Prelude.{None, Option, slice_get, IsSomeAnd}
use Rattle.std.specs.List.{All, flat_map}
use Rattle.std.proofs.lemmas.List.{length-map}
use Rattle.std.proofs.lemmas.List.Elements.{All-cons, All-head, All-nil, All-tail}
use Rattle.lang_tree.specs.declared.tree.Decl.{Decl}
use Rattle.lang_tree.specs.declared.tree.Decl.TheVariants as decls
use Rattle.lang_tree.specs.declared.tree.BlockTree.{BlockTree}
use Rattle.lang_tree.specs.declared.tree.MethodTree.{MethodTree}
use Rattle.lang_tree.specs.declared.tree.MonitorTree.{MonitorTree}
use Rattle.lang_tree.specs.Names.{names_in}
use Rattle.lang_base.specs.Identifiers.{IsIdentifier}
use Rattle.lang_base.specs.declared.kind.Kind.{Kind}
use Rattle.lang_base.specs.declared.kind.Kind.TheVariants as kinds
use Rattle.lang_forms.specs.Scope.{field_count, scope_of}
use Rattle.lang_forms.proofs.SmallScopes.{scopes_are_small}
use Rattle.lang_rules.specs.Rules.{faults_in_methods, faults_of, literal_faults, method_faults}
use Rattle.lang_monitor.specs.declared.monitor.Field.{Field}
use Rattle.lang_monitor.specs.declared.monitor.Method.{Method}
use Rattle.lang_monitor.specs.declared.monitor.Block.{Block}
use Rattle.lang_monitor.specs.declared.monitor.Condition.{Condition}
use Rattle.lang_monitor.specs.Conditions.{IsDescribed}
use Rattle.lang_monitor.specs.MonitorParts.{IsBlockOf, IsMethod, IsMonitor, IsOfKind, IsOwned, MonitorParts, Places, fits_block, kind_of, kinds_in, kinds_of, locals_in, method_places}
use Rattle.lang_types.specs.Typed.{AreBlocksOf, AreConditions, IsPlaced, IsTyped, PlacedBlock, blocks_from, field_of, fields_of, locals_of, method_of, methods_from, starts_of}
use Rattle.lang_types.specs.inner.Making.{HasBlocks, HasSmallParts}
use Rattle.lang_types.proofs.ConditionClasses.{WaitsAs, all_described, all_different, in_order, no_more, typed_conditions, waits_at}
use Rattle.lang_types.proofs.FineTrees.{IsFine, IsFineMethod, IsFinePlaced, all_blocks_fine, append_none, constants_and_fields, fields_counted, fine_method, fine_tree, none_each, silent_before}
use Rattle.lang_types.proofs.MonitorNames.{identified, typed_distinct}
use Rattle.lang_types.proofs.OpenedStarts.{have_origins, may_open}
use Rattle.lang_types.proofs.PlacedBlocks.{as_many_blocks, few_from, follow_in_turn, has_block, has_tree, method_at, row_at, some_weaker}
use Rattle.lang_types.proofs.ScopePlaces.{scope_places, scope_fits}
use Rattle.lang_types.proofs.StatementsFit.{IsFit, block_fits, silent_body}

-- ---- fields at the start

abbrev Starts : Field → Type 0
Starts field = IsOfKind field.kind field.start

starts : (known declared : List Decl) → All Starts (flat_map (field_of known) declared)
starts known [] = All-nil Starts
starts known (decls.Const at name value ∷ more) = starts known more
starts known (decls.Param at name value limit ∷ more) = All-cons Starts _ (flat_map (field_of known) more) tt (starts known more)
starts known (decls.Int at name value ∷ more) = All-cons Starts _ (flat_map (field_of known) more) tt (starts known more)
starts known (decls.Copied at name source ∷ more) = All-cons Starts _ (flat_map (field_of known) more) tt (starts known more)
starts known (decls.Flag at name value ∷ more) = All-cons Starts _ (flat_map (field_of known) more) tt (starts known more)

-- ---- methods

as_many_methods : (number : ℕ) (methods : List MethodTree) → length (methods_from number methods) ≡ length methods
as_many_methods number [] = refl
as_many_methods number (method ∷ methods) = let rest = as_many_methods (number + length method.blocks) methods in omega arith

start_kinds : (declared : List Decl) → map kind_of (starts_of declared) ≡ kinds_of (locals_of declared)
start_kinds [] = refl
start_kinds (decls.Const at name value ∷ more) = start_kinds more
start_kinds (decls.Param at name value limit ∷ more) = ap (λ (list : List Kind). kinds.Int ∷ list) (start_kinds more)
start_kinds (decls.Int at name value ∷ more) = ap (λ (list : List Kind). kinds.Int ∷ list) (start_kinds more)
start_kinds (decls.Copied at name source ∷ more) = ap (λ (list : List Kind). kinds.Int ∷ list) (start_kinds more)
start_kinds (decls.Flag at name value ∷ more) = ap (λ (list : List Kind). kinds.Bool ∷ list) (start_kinds more)

few_starts : (declared : List Decl) → length (starts_of declared) ≤ length declared
few_starts [] = omega arith
few_starts (decls.Const at name value ∷ more) = let rest = few_starts more in omega arith
few_starts (decls.Param at name value limit ∷ more) = let rest = few_starts more in omega arith
few_starts (decls.Int at name value ∷ more) = let rest = few_starts more in omega arith
few_starts (decls.Copied at name source ∷ more) = let rest = few_starts more in omega arith
few_starts (decls.Flag at name value ∷ more) = let rest = few_starts more in omega arith

some_within : {X : Type 0} (xs : List X) (index : ℕ) → index < length xs → (x : X) × (slice_get xs index ≡ Some x)
some_within [] index less = absurd (omega arith)
some_within (x ∷ xs) zero less = (x, refl)
some_within (x ∷ xs) (suc index) less = some_within xs index (omega arith)

-- the parts of a monitor that is typed from a tree that breaks no rule
record IsSoundTyped (tree : MonitorTree) (monitor : MonitorParts) : Type 0 where
  fine : IsFine tree
  blocks : All HasBlocks tree.methods
  typed : IsTyped tree monitor

places_are : (tree : MonitorTree) (monitor : MonitorParts) (number first : ℕ) (method : MethodTree) → IsTyped tree monitor → slice_get monitor.methods number ≡ Some (method_of first method)
    → method_places monitor number ≡ scope_places tree.decls method
places_are tree monitor number first method typed is = λ i. record {
  fields = kinds_of (typed.fields i);
  inputs = kinds_in (is i);
  locals = (ap (λ found. map kind_of (locals_in found)) is ∙ start_kinds method.locals) i;
}

scope_fit : (declared : List Decl) (method : MethodTree) → length (fields_of declared) ≤ 16 → IsFineMethod declared method → IsFit (scope_places declared method) (scope_of declared method)
scope_fit declared method less fine = record { fits = scope_fits declared method (rw length-map less) (rw length-map fine.inputs); small = scopes_are_small declared method }

row_is_block : (tree : MonitorTree) (monitor : MonitorParts) (number first place : ℕ) (method : MethodTree) (row : BlockTree) (block : Block) → IsSoundTyped tree monitor
    → slice_get monitor.methods number ≡ Some (method_of first method) → slice_get method.blocks place ≡ Some row → IsFinePlaced tree.decls (record { number = number; method = method; block = row })
    → IsPlaced tree.decls (record { number = number; method = method; block = row }) block → WaitsAs (record { number = number; method = method; block = row }) block → IsBlockOf monitor number place (method_of first method) block
row_is_block tree monitor number first place method row block sound is here fine placed waits =
    let scope = scope_of tree.decls method in
    record {
      of = placed.method_number;
      fits = subst (λ (places : Places). fits_block places block ≡ true) (sym (places_are tree monitor number first method sound.typed is))
          (block_fits (scope_places tree.decls method) scope number row block (scope_fit tree.decls method sound.fine.fields fine.method) (record { guard = fine.guard; body = fine.body }) placed);
      answers = λ less. placed.result ∙ silent_body scope row.body (silent_before scope method.blocks place row fine.method.early here less);
      waits = waits;
    }

both_hold : {X : Type 0} (found : Option X) (P Q : X → Type 0) → IsSomeAnd found P → IsSomeAnd found Q → IsSomeAnd found (λ x. P x × Q x)
both_hold None P Q one other = one
both_hold (Some x) P Q one other = (one, other)

all_at : {X : Type 0} (P : X → Type 0) (xs : List X) (index : ℕ) (x : X) → All P xs → slice_get xs index ≡ Some x → P x
all_at P [] index x each is = absurd cc
all_at P (first ∷ xs) zero x each is = let same : first ≡ x = cc in subst P same (All-head P first xs each)
all_at P (first ∷ xs) (suc index) x each is = all_at P xs index x (All-tail P first xs each) is

method_is : (tree : MonitorTree) (monitor : MonitorParts) (number : ℕ) (method : Method) → IsSoundTyped tree monitor → slice_get monitor.methods number ≡ Some method → IsMethod monitor number method
method_is tree monitor number method sound is =
    let at = method_at tree.methods 0 0 number method (ap (λ methods. slice_get methods number) (sym sound.typed.methods) ∙ is) in
    let own = at.tree in
    let first = 0 + at.earlier in
    let fine = fine_method tree.decls own (all_at (λ method. method_faults tree.decls method ≡ []) tree.methods number own (none_each (method_faults tree.decls) tree.methods sound.fine.each) at.is) in
    let here : slice_get monitor.methods number ≡ Some (method_of first own) = is ∙ ap (λ m. Some m) at.made in
    let have = all_at HasBlocks tree.methods number own sound.blocks at.is in
    let starts = few_starts own.locals in
    let few_locals = fine.locals in
    subst (IsMethod monitor number) (sym at.made) (record {
      few_inputs = rw length-map fine.inputs;
      few_locals = omega arith;
      some = have.some;
      few = fine.few_blocks;
      alone = have.alone;
      blocks = λ place less.
          let row = some_within own.blocks place less in
          let placed : PlacedBlock = record { number = number; method = own; block = row.0 } in
          let its : 0 + number ≡ number = omega arith in
          let same : at.earlier + place ≡ first + place = omega arith in
          let stands : slice_get (blocks_from 0 tree.methods) (at.earlier + place) ≡ Some placed = at.rows place row.0 row.1 ∙ ap (λ (n : ℕ). Some (record { number = n; method = own; block = row.0 })) its in
          let each = all_at (IsFinePlaced tree.decls) (blocks_from 0 tree.methods) (at.earlier + place) placed (all_blocks_fine tree.decls 0 tree.methods sound.fine.each) stands in
          let has = has_block tree.decls (blocks_from 0 tree.methods) monitor.blocks sound.typed.blocks (at.earlier + place) placed stands in
          let waits = waits_at [] (blocks_from 0 tree.methods) monitor.blocks monitor.conditions sound.typed.conditions (at.earlier + place) placed stands in
          let found = slice_get monitor.blocks (at.earlier + place) in
          subst (λ (n : ℕ). IsSomeAnd (slice_get monitor.blocks n) (IsBlockOf monitor number place (method_of first own))) same
          (some_weaker found (λ block. IsPlaced tree.decls placed block × WaitsAs placed block) (IsBlockOf monitor number place (method_of first own))
          (λ block both. row_is_block tree monitor number first place own row.0 block sound here row.1 each both.0 both.1)
          (both_hold found (IsPlaced tree.decls placed) (WaitsAs placed) has waits));
    })

block_owned : (tree : MonitorTree) (monitor : MonitorParts) (number : ℕ) (block : Block) → IsTyped tree monitor → slice_get monitor.blocks number ≡ Some block → IsOwned monitor.methods number block
block_owned tree monitor number block typed is =
    let own = has_tree tree.decls (blocks_from 0 tree.methods) monitor.blocks typed.blocks number block is in
    let row = row_at tree.methods 0 0 number own.placed own.here in
    let numbered = row.numbered in
    let method = own.is.method_number in
    let same : row.index ≡ block.method = omega arith in
    let whole : 0 + number ≡ number = omega arith in
    let InRange = λ (n : ℕ) (m : Method). (m.first ≤ n) × (n < m.first + m.count) in
    subst (λ (methods : List Method). IsSomeAnd (slice_get methods block.method) (InRange number)) (sym typed.methods)
    (subst (λ (n : ℕ). IsSomeAnd (slice_get (methods_from 0 tree.methods) n) (InRange number)) same
    (subst (λ (n : ℕ). IsSomeAnd (slice_get (methods_from 0 tree.methods) row.index) (InRange n)) whole row.owned))

-- ---- the monitor

few_each : (declared : List Decl) (methods : List MethodTree) → faults_in_methods declared methods ≡ [] → All (λ method. length method.blocks ≤ 4) methods
few_each declared [] none = All-nil (λ (method : MethodTree). length method.blocks ≤ 4)
few_each declared (method ∷ methods) none =
    let both = append_none (method_faults declared method) (faults_in_methods declared methods) none in
    All-cons (λ (method : MethodTree). length method.blocks ≤ 4) method methods (fine_method declared method both.0).few_blocks (few_each declared methods both.1)

-- What is typed from a tree that breaks no rule, whose names are identifiers and whose methods have
-- blocks, keeps the rule of a monitor.
pub typed_is_monitor : (tree : MonitorTree) (monitor : MonitorParts) → faults_of tree ≡ [] → All IsIdentifier (names_in tree) → All HasBlocks tree.methods → IsTyped tree monitor → IsMonitor monitor
typed_is_monitor tree monitor none named have typed =
    let fine = fine_tree tree none in
    let are = identified tree named in
    let few = fine.methods in
    let row = blocks_from 0 tree.methods in
    let blocks = as_many_blocks tree.decls row monitor.blocks typed.blocks in
    let rows = few_from 0 tree.methods (few_each tree.decls tree.methods fine.each) in
    let conditions = no_more [] row monitor.blocks monitor.conditions typed.conditions in
    let sound : IsSoundTyped tree monitor = record { fine = fine; blocks = have; typed = typed } in
    record {
      few_fields = rw typed.fields fine.fields;
      few_methods = rw (typed.methods, as_many_methods) fine.methods;
      few_blocks = omega arith;
      few_conditions = omega arith;
      name = rw typed.name are.name;
      names = rw (typed.fields, typed.methods) are.names;
      distinct = rw (typed.fields, typed.methods) (typed_distinct tree.decls tree.methods fine.names);
      starts = rw typed.fields (starts tree.decls tree.decls);
      origins = rw typed.fields (have_origins tree.decls fine.literals fine.starts);
      opens = rw typed.fields (may_open tree.decls fine.literals fine.starts);
      methods = λ number method is. method_is tree monitor number method sound is;
      in_turn = rw typed.methods (follow_in_turn tree.methods 0 0 monitor.blocks (omega arith));
      owned = λ number block is. block_owned tree monitor number block typed is;
      conditions = typed_conditions [] row monitor.blocks monitor.conditions typed.conditions;
      described = all_described [] row monitor.blocks monitor.conditions typed.conditions are.guards (All-nil IsDescribed);
      different = all_different [] row monitor.blocks monitor.conditions typed.conditions (λ i j d before within. absurd (omega arith));
      in_order = in_order row monitor.blocks monitor.conditions typed.conditions;
    }

-- the same of the parts as they are made
pub made_is_typed : (tree : MonitorTree) (declared : List Decl) (methods : List MethodTree) (name : List ℕ) (fields : List Field) (made : List Method) (blocks : List Block) (conditions : List Condition)
    → declared ≡ tree.decls
    → methods ≡ tree.methods
    → name ≡ tree.name
    → fields ≡ fields_of declared
    → made ≡ methods_from 0 methods
    → AreBlocksOf declared (blocks_from 0 methods) blocks
    → AreConditions [] (blocks_from 0 methods) blocks conditions
    → IsTyped tree (record { name = name; fields = fields; methods = made; blocks = blocks; conditions = conditions })
made_is_typed tree declared methods name fields made blocks conditions declared_is methods_are named fields_are made_are blocks_are conditions_are = record {
  name = named;
  fields = fields_are ∙ ap fields_of declared_is;
  methods = made_are ∙ ap (methods_from 0) methods_are;
  blocks = subst (λ (list : List MethodTree). AreBlocksOf tree.decls (blocks_from 0 list) blocks) methods_are (subst (λ (list : List Decl). AreBlocksOf list (blocks_from 0 methods) blocks) declared_is blocks_are);
  conditions = subst (λ (list : List MethodTree). AreConditions [] (blocks_from 0 list) blocks conditions) methods_are conditions_are;
}

pub made_is_monitor : (tree : MonitorTree) (declared : List Decl) (methods : List MethodTree) (name : List ℕ) (fields : List Field) (made : List Method) (blocks : List Block) (conditions : List Condition)
    → faults_of tree ≡ []
    → All IsIdentifier (names_in tree)
    → All HasBlocks tree.methods
    → declared ≡ tree.decls
    → methods ≡ tree.methods
    → name ≡ tree.name
    → fields ≡ fields_of declared
    → made ≡ methods_from 0 methods
    → AreBlocksOf declared (blocks_from 0 methods) blocks
    → AreConditions [] (blocks_from 0 methods) blocks conditions
    → IsMonitor (record { name = name; fields = fields; methods = made; blocks = blocks; conditions = conditions })
made_is_monitor tree declared methods name fields made blocks conditions none identifiers have declared_is methods_are named fields_are made_are blocks_are conditions_are =
    typed_is_monitor tree (record { name = name; fields = fields; methods = made; blocks = blocks; conditions = conditions }) none identifiers have
    (made_is_typed tree declared methods name fields made blocks conditions declared_is methods_are named fields_are made_are blocks_are conditions_are)

-- ---- what the code that types a tree may count on

pub few_declared : (tree : MonitorTree) → faults_of tree ≡ [] → length tree.decls ≤ 65536
few_declared tree none = let fine = fine_tree tree none in let constants = fine.constants in let fields = fine.fields in let count = constants_and_fields tree.decls in omega arith

pub few_fields : (tree : MonitorTree) → faults_of tree ≡ [] → field_count tree.decls ≤ 16
few_fields tree none = rw (fields_counted tree.decls tree.decls) (fine_tree tree none).fields

small_each : (declared : List Decl) (methods : List MethodTree) → faults_in_methods declared methods ≡ [] → All HasSmallParts methods
small_each declared [] none = All-nil HasSmallParts
small_each declared (method ∷ methods) none =
    let both = append_none (method_faults declared method) (faults_in_methods declared methods) none in
    let fine = fine_method declared method both.0 in
    All-cons HasSmallParts method methods (record { few_blocks = fine.few_blocks; literals = none_each literal_faults method.locals fine.literals }) (small_each declared methods both.1)

pub small_parts : (tree : MonitorTree) → faults_of tree ≡ [] → All HasSmallParts tree.methods
small_parts tree none = small_each tree.decls tree.methods (fine_tree tree none).each
