-- What a tree that breaks no rule has.
use Rattle.std.proofs.Common.{◌≡◌, ℕ, zero, suc, ◌+◌, ◌<◌, ◌≤◌, Bool, true, false, List, [], ◌∷◌, ◌++◌, length, map, Some, refl, ap, subst, arith}
use Rattle.std.specs.Prelude.{slice_get, if◌then◌else◌}
use Rattle.std.specs.List.{All, flat_map}
use Rattle.std.proofs.lemmas.List.{length-map}
use Rattle.std.proofs.lemmas.List.Elements.{All-append, All-cons, All-nil}
use Rattle.lang_tree.specs.declared.tree.Decl.{Decl}
use Rattle.lang_tree.specs.declared.tree.Decl.TheVariants as decls
use Rattle.lang_tree.specs.declared.tree.StmtTree.{StmtTree}
use Rattle.lang_tree.specs.declared.tree.BlockTree.{BlockTree}
use Rattle.lang_tree.specs.declared.tree.MethodTree.{MethodTree}
use Rattle.lang_tree.specs.declared.tree.MonitorTree.{MonitorTree}
use Rattle.lang_base.specs.declared.kind.Kind.TheVariants as kinds
use Rattle.lang_base.specs.declared.counted.Counted.{Counted}
use Rattle.lang_base.specs.declared.counted.Counted.TheVariants.{Constants, Fields, Methods, Parameters, Locals, Blocks, Statements}
use Rattle.lang_base.specs.declared.source_fault.SourceFault.{SourceFault}
use Rattle.lang_forms.specs.declared.scope.Entry.{Entry}
use Rattle.lang_forms.specs.Scope.{field_count, scope_of}
use Rattle.lang_forms.specs.Sense.{sense}
use Rattle.lang_rules.specs.Rules.{block_faults, constant_place, declared_at, declared_names, early_faults, early_in_blocks, early_returns, expected, faults_in_blocks, faults_in_each, faults_in_literals, faults_in_methods, faults_in_starts, faults_of, field_place, finding, method_faults, method_names, misplaced, over, own_names, places_in, repeated, return_faults}
use Rattle.lang_types.specs.Typed.{PlacedBlock, blocks_from, field_of, fields_of, placed_in}

-- ---- faults

pub append_none : {X : Type 0} (these those : List X) → (these ++ those) ≡ [] → (these ≡ []) × (those ≡ [])
append_none [] those none = (refl, none)
append_none (one ∷ these) those none = absurd cc

pub no_fault : (test : Bool) (fault : SourceFault) → (if test then fault ∷ [] else []) ≡ [] → test ≡ false
no_fault true fault none = absurd cc
no_fault false fault none = refl

pub no_places : (places : List ℕ) → misplaced places ≡ [] → places ≡ []
no_places [] none = refl
no_places (place ∷ places) none = absurd cc

pub none_each : {X : Type 0} (f : X → List SourceFault) (xs : List X) → flat_map f xs ≡ [] → All (λ x. f x ≡ []) xs
none_each f [] none = All-nil (λ x. f x ≡ [])
none_each f (x ∷ xs) none = let both = append_none (f x) (flat_map f xs) none in All-cons (λ x. f x ≡ []) x xs both.0 (none_each f xs both.1)

-- ---- limits

pub few : (limit : ℕ) (what : Counted) (places : List ℕ) → over limit what places ≡ [] → length places ≤ limit
few limit what [] none = omega arith
few zero what (place ∷ places) none = absurd (cc)
few (suc limit) what (place ∷ places) none = let less = few limit what places none in omega arith

as_many_fields : (known declared : List Decl) → length (flat_map field_place declared) ≡ length (flat_map (field_of known) declared)
as_many_fields known [] = refl
as_many_fields known (decls.Const at name value ∷ more) = as_many_fields known more
as_many_fields known (decls.Param at name value limit ∷ more) = let rest = as_many_fields known more in omega arith
as_many_fields known (decls.Int at name value ∷ more) = let rest = as_many_fields known more in omega arith
as_many_fields known (decls.Copied at name source ∷ more) = let rest = as_many_fields known more in omega arith
as_many_fields known (decls.Flag at name value ∷ more) = let rest = as_many_fields known more in omega arith

pub fields_counted : (known declared : List Decl) → field_count declared ≡ length (flat_map (field_of known) declared)
fields_counted known [] = refl
fields_counted known (decls.Const at name value ∷ more) = fields_counted known more
fields_counted known (decls.Param at name value limit ∷ more) = let rest = fields_counted known more in omega arith
fields_counted known (decls.Int at name value ∷ more) = let rest = fields_counted known more in omega arith
fields_counted known (decls.Copied at name source ∷ more) = let rest = fields_counted known more in omega arith
fields_counted known (decls.Flag at name value ∷ more) = let rest = fields_counted known more in omega arith

each_counted : (known declared : List Decl) → length declared ≡ length (flat_map constant_place declared) + length (flat_map (field_of known) declared)
each_counted known [] = refl
each_counted known (decls.Const at name value ∷ more) = let rest = each_counted known more in omega arith
each_counted known (decls.Param at name value limit ∷ more) = let rest = each_counted known more in omega arith
each_counted known (decls.Int at name value ∷ more) = let rest = each_counted known more in omega arith
each_counted known (decls.Copied at name source ∷ more) = let rest = each_counted known more in omega arith
each_counted known (decls.Flag at name value ∷ more) = let rest = each_counted known more in omega arith

pub constants_and_fields : (declared : List Decl) → length declared ≡ length (flat_map constant_place declared) + length (fields_of declared)
constants_and_fields declared = each_counted declared declared

-- ---- methods

pub record IsFineMethod (declared : List Decl) (method : MethodTree) : Type 0 where
  pub names : repeated (declared_names declared) (own_names method) ≡ []
  pub inputs : length method.inputs ≤ 6
  pub locals : length method.locals ≤ 4
  pub few_blocks : length method.blocks ≤ 4
  pub literals : faults_in_literals method.locals ≡ []
  pub each : faults_in_blocks (scope_of declared method) method.blocks ≡ []
  pub early : early_in_blocks (scope_of declared method) method.blocks ≡ []

pub fine_method : (declared : List Decl) (method : MethodTree) → method_faults declared method ≡ [] → IsFineMethod declared method
fine_method declared method none =
    let scope = scope_of declared method in
    let names = repeated (declared_names declared) (own_names method) in
    let inputs = over 6 Parameters (map (λ input. input.at) method.inputs) in
    let locals = over 4 Locals (map declared_at method.locals) in
    let blocks = over 4 Blocks (map (λ block. block.at) method.blocks) in
    let literals = faults_in_literals method.locals in
    let each = faults_in_blocks scope method.blocks in
    let early = early_in_blocks scope method.blocks in
    let six = append_none (names ++ inputs ++ locals ++ blocks ++ literals ++ each) early none in
    let five = append_none (names ++ inputs ++ locals ++ blocks ++ literals) each six.0 in
    let four = append_none (names ++ inputs ++ locals ++ blocks) literals five.0 in
    let three = append_none (names ++ inputs ++ locals) blocks four.0 in
    let two = append_none (names ++ inputs) locals three.0 in
    let one = append_none names inputs two.0 in
    let input_count = few 6 Parameters (map (λ input. input.at) method.inputs) one.1 in
    let local_count = few 4 Locals (map declared_at method.locals) two.1 in
    let block_count = few 4 Blocks (map (λ block. block.at) method.blocks) three.1 in
    record {
      names = one.0;
      inputs = rw length-map at input_count;
      locals = rw length-map at local_count;
      few_blocks = rw length-map at block_count;
      literals = four.1;
      each = five.1;
      early = six.1;
    }

-- ---- blocks

-- a block of a method that breaks no rule
pub record IsFinePlaced (declared : List Decl) (placed : PlacedBlock) : Type 0 where
  pub method : IsFineMethod declared placed.method
  pub guard : expected (Some kinds.Bool) (sense (scope_of declared placed.method) placed.block.guard) ≡ []
  pub body : faults_in_each (scope_of declared placed.method) placed.block.body ≡ []
  pub early : early_faults (scope_of declared placed.method) placed.block.body ≡ []

abbrev returns_in : List Entry → List StmtTree → List ℕ
returns_in scope body = flat_map (λ inner. (finding scope inner).returns) body

no_early : (scope : List Entry) (body : List StmtTree) → returns_in scope body ≡ [] → early_returns (map (finding scope) body) ≡ []
no_early scope [] none = refl
no_early scope (last ∷ []) none = refl
no_early scope (first ∷ next ∷ more) none =
    let both = append_none (finding scope first).returns (returns_in scope (next ∷ more)) none in
    rw (both.0, no_early scope (next ∷ more) both.1) refl

-- where no `return` stands, none is early
silent_early : (scope : List Entry) (body : List StmtTree) → return_faults scope body ≡ [] → early_faults scope body ≡ []
silent_early scope body none = ap misplaced (no_early scope body (no_places (returns_in scope body) none))

first_early : (scope : List Entry) (block : BlockTree) (more : List BlockTree) → early_in_blocks scope (block ∷ more) ≡ [] → early_faults scope block.body ≡ []
first_early scope block [] none = none
first_early scope block (next ∷ more) none = silent_early scope block.body (append_none (return_faults scope block.body) (early_in_blocks scope (next ∷ more)) none).0

later_early : (scope : List Entry) (block : BlockTree) (more : List BlockTree) → early_in_blocks scope (block ∷ more) ≡ [] → early_in_blocks scope more ≡ []
later_early scope block [] none = refl
later_early scope block (next ∷ more) none = (append_none (return_faults scope block.body) (early_in_blocks scope (next ∷ more)) none).1

-- no `return` stands in a block that isn't the last
pub silent_before : (scope : List Entry) (blocks : List BlockTree) (place : ℕ) (block : BlockTree) → early_in_blocks scope blocks ≡ [] → slice_get blocks place ≡ Some block → place + 1 < length blocks → return_faults scope block.body ≡ []
silent_before scope [] place block none is less = absurd cc
silent_before scope (last ∷ []) place block none is less = absurd (omega arith)
silent_before scope (first ∷ next ∷ more) zero block none is less =
    let same : first ≡ block = cc in
    subst (λ (one : BlockTree). return_faults scope one.body ≡ []) same (append_none (return_faults scope first.body) (early_in_blocks scope (next ∷ more)) none).0
silent_before scope (first ∷ next ∷ more) (suc place) block none is less =
    silent_before scope (next ∷ more) place block (later_early scope first (next ∷ more) none) is (omega arith)

blocks_fine : (declared : List Decl) (number : ℕ) (method : MethodTree) → IsFineMethod declared method → (blocks : List BlockTree)
    → faults_in_blocks (scope_of declared method) blocks ≡ [] → early_in_blocks (scope_of declared method) blocks ≡ [] → All (IsFinePlaced declared) (placed_in number method blocks)
blocks_fine declared number method fine [] each early = All-nil (IsFinePlaced declared)
blocks_fine declared number method fine (block ∷ more) each early =
    let scope = scope_of declared method in
    let guard = expected (Some kinds.Bool) (sense scope block.guard) in
    let body = faults_in_each scope block.body in
    let both = append_none (block_faults scope block) (faults_in_blocks scope more) each in
    let front = append_none (guard ++ body) (over 64 Statements (places_in block.body)) both.0 in
    let parts = append_none guard body front.0 in
    All-cons (IsFinePlaced declared) (record { number = number; method = method; block = block }) (placed_in number method more)
    (record { method = fine; guard = parts.0; body = parts.1; early = first_early scope block more early })
    (blocks_fine declared number method fine more both.1 (later_early scope block more early))

pub method_blocks_fine : (declared : List Decl) (number : ℕ) (method : MethodTree) → method_faults declared method ≡ [] → All (IsFinePlaced declared) (placed_in number method method.blocks)
method_blocks_fine declared number method none =
    let fine = fine_method declared method none in
    blocks_fine declared number method fine method.blocks fine.each fine.early

pub all_blocks_fine : (declared : List Decl) (number : ℕ) (methods : List MethodTree) → faults_in_methods declared methods ≡ [] → All (IsFinePlaced declared) (blocks_from number methods)
all_blocks_fine declared number [] none = All-nil (IsFinePlaced declared)
all_blocks_fine declared number (method ∷ methods) none =
    let both = append_none (method_faults declared method) (faults_in_methods declared methods) none in
    All-append (IsFinePlaced declared) (placed_in number method method.blocks) (blocks_from (number + 1) methods)
    (method_blocks_fine declared number method both.0) (all_blocks_fine declared (number + 1) methods both.1)

-- ---- trees

pub record IsFine (tree : MonitorTree) : Type 0 where
  pub names : repeated [] (declared_names tree.decls ++ method_names tree.methods) ≡ []
  pub literals : faults_in_literals tree.decls ≡ []
  pub constants : length (flat_map constant_place tree.decls) ≤ 64
  pub starts : faults_in_starts tree.decls ≡ []
  pub fields : length (fields_of tree.decls) ≤ 16
  pub methods : length tree.methods ≤ 16
  pub each : faults_in_methods tree.decls tree.methods ≡ []

pub fine_tree : (tree : MonitorTree) → faults_of tree ≡ [] → IsFine tree
fine_tree tree none =
    let literals = faults_in_literals tree.decls in
    let names = repeated [] (declared_names tree.decls ++ method_names tree.methods) in
    let constants = over 64 Constants (flat_map constant_place tree.decls) in
    let fields = over 16 Fields (flat_map field_place tree.decls) in
    let methods = over 16 Methods (map (λ method. method.at) tree.methods) in
    let each = faults_in_methods tree.decls tree.methods in
    let front = literals ++ faults_in_starts tree.decls in
    let one = append_none (front ++ names ++ constants ++ fields ++ methods) each none in
    let two = append_none (front ++ names ++ constants ++ fields) methods one.0 in
    let three = append_none (front ++ names ++ constants) fields two.0 in
    let four = append_none (front ++ names) constants three.0 in
    let field_count = few 16 Fields (flat_map field_place tree.decls) three.1 in
    let method_count = few 16 Methods (map (λ method. method.at) tree.methods) two.1 in
    record {
      names = (append_none front names four.0).1;
      literals = (append_none literals (faults_in_starts tree.decls) (append_none front names four.0).0).0;
      constants = few 64 Constants (flat_map constant_place tree.decls) four.1;
      starts = (append_none literals (faults_in_starts tree.decls) (append_none front names four.0).0).1;
      fields = rw (as_many_fields tree.decls tree.decls) at field_count;
      methods = rw length-map at method_count;
      each = one.1;
    }

pub tree_blocks_fine : (tree : MonitorTree) → faults_of tree ≡ [] → All (IsFinePlaced tree.decls) (blocks_from 0 tree.methods)
tree_blocks_fine tree none = all_blocks_fine tree.decls 0 tree.methods (fine_tree tree none).each
