-- The names of a monitor that is typed from a tree: identifiers as the tree's are, and distinct
-- where none is repeated.
use Rattle.std.proofs.Common.{◌≡◌, ◌≢◌, ℕ, zero, suc, ◌+◌, Bool, true, false, ◌||◌, List, [], ◌∷◌, ◌++◌, get_or, length, map, refl, sym, ap, subst, ◌∙◌, arith}
use Rattle.std.specs.List.{All, AllPairs, flat_map, list_any}
use Rattle.std.specs.Str.{bytes_eq}
use Rattle.std.proofs.lemmas.List.{map-append}
use Rattle.std.proofs.lemmas.List.Elements.{All-append, All-cons, All-head, All-nil, All-tail}
use Rattle.std.proofs.lemmas.List.Kept.{AllPairs-cons}
use Rattle.std.proofs.lemmas.Slice.Eq.{bytes_eq-Decides}
use Rattle.lang_base.specs.Identifiers.{IsIdentifier}
use Rattle.lang_tree.specs.declared.tree.Decl.{Decl}
use Rattle.lang_tree.specs.declared.tree.Decl.TheVariants as decls
use Rattle.lang_tree.specs.declared.tree.BlockTree.{BlockTree}
use Rattle.lang_tree.specs.declared.tree.MethodTree.{MethodTree}
use Rattle.lang_tree.specs.declared.tree.MonitorTree.{MonitorTree}
use Rattle.lang_tree.specs.Names.{Names, block_names, declaration_names, declared_name, expression_names, method_names, names_in, statement_names, used_names}
use Rattle.lang_rules.specs.Rules.{PlacedName, method_name, repeated, declared_name as placed_name}
use Rattle.lang_types.specs.Typed.{blocks_from, field_of, methods_from, placed_in}
use Rattle.lang_types.proofs.FineTrees.{append_none, no_fault}
use Rattle.lang_types.proofs.ConditionClasses.{ShowsNames}

-- ---- parts of lists

front : {X : Type 0} (P : X → Type 0) (xs ys : List X) → All P (xs ++ ys) → All P xs
front P [] ys each = All-nil P
front P (x ∷ xs) ys each = All-cons P x xs (All-head P x (xs ++ ys) each) (front P xs ys (All-tail P x (xs ++ ys) each))

back : {X : Type 0} (P : X → Type 0) (xs ys : List X) → All P (xs ++ ys) → All P ys
back P [] ys each = each
back P (x ∷ xs) ys each = back P xs ys (All-tail P x (xs ++ ys) each)

AllPairs-head : {X : Type 0} (R : X → X → Type 0) (x : X) (xs : List X) → AllPairs R (x ∷ xs) → All (R x) xs
AllPairs-head R x xs pairs = λ k d within. pairs zero (suc k) d (omega arith) (omega arith)

AllPairs-tail : {X : Type 0} (R : X → X → Type 0) (x : X) (xs : List X) → AllPairs R (x ∷ xs) → AllPairs R xs
AllPairs-tail R x xs pairs = λ i j d before within. pairs (suc i) (suc j) d (omega arith) (omega arith)

-- ---- names that are not repeated

abbrev Differ : List ℕ → List ℕ → Type 0
Differ name other = name ≢ other

abbrev bare_names : List PlacedName → Names
bare_names names = map (λ placed. placed.name) names

true_is_false : true ≡ false → ⊥
true_is_false is = cc

or_none : (this rest : Bool) → (this || rest) ≡ false → (this ≡ false) × (rest ≡ false)
or_none true rest none = absurd (cc)
or_none false rest none = (refl, none)

not_among : (names : List PlacedName) (name : List ℕ) → list_any (λ other. bytes_eq other.name name) names ≡ false → All (λ other. Differ other.name name) names
not_among [] name none = All-nil (λ (other : PlacedName). Differ other.name name)
not_among (first ∷ names) name none =
    let both = or_none (bytes_eq first.name name) (list_any (λ other. bytes_eq other.name name) names) none in
    let differs : Differ first.name name = λ same. absurd (true_is_false (sym ((bytes_eq-Decides first.name name).1 same) ∙ both.0)) in
    All-cons (λ (other : PlacedName). Differ other.name name) first names differs (not_among names name both.1)

-- each name is none of the earlier ones
fresh : (earlier names : List PlacedName) → repeated earlier names ≡ [] → All (λ name. All (λ other. Differ other.name name) earlier) (bare_names names)
fresh earlier [] none = All-nil (λ (name : List ℕ). All (λ (other : PlacedName). Differ other.name name) earlier)
fresh earlier (first ∷ names) none =
    let both = append_none _ (repeated (earlier ++ first ∷ []) names) none in
    let later = fresh (earlier ++ first ∷ []) names both.1 in
    All-cons (λ (name : List ℕ). All (λ (other : PlacedName). Differ other.name name) earlier) first.name (bare_names names)
    (not_among earlier first.name (no_fault _ _ both.0))
    (λ k d within. front (λ (other : PlacedName). Differ other.name (get_or (bare_names names) k d)) earlier (first ∷ []) (later k d within))

apart : (earlier names : List PlacedName) → repeated earlier names ≡ [] → AllPairs Differ (bare_names names)
apart earlier [] none = λ i j d before within. absurd (omega arith)
apart earlier (first ∷ names) none =
    let both = append_none _ (repeated (earlier ++ first ∷ []) names) none in
    let later = fresh (earlier ++ first ∷ []) names both.1 in
    AllPairs-cons Differ first.name (bare_names names)
    (λ k d within.
    let Apart = λ (other : PlacedName). Differ other.name (get_or (bare_names names) k d) in
    All-head Apart first [] (back Apart earlier (first ∷ []) (later k d within)))
    (apart (earlier ++ first ∷ []) names both.1)

-- ---- names of fields and methods

-- the names of fields whose starts may be copied from what is known
abbrev field_names : List Decl → List Decl → Names
field_names known declared = map (λ field. field.name) (flat_map (field_of known) declared)

abbrev names_of_methods : List MethodTree → Names
names_of_methods methods = map (λ method. method.name) methods

-- what holds of the names of declarations, and of more, holds of those of fields, and of the others
fields_keep : (known : List Decl) (P : List ℕ → Type 0) (declared : List Decl) (more : Names) → All P (map declared_name declared ++ more) → All P (field_names known declared ++ more)
fields_keep known P [] more each = each
fields_keep known P (decls.Const at name value ∷ declared) more each = fields_keep known P declared more (All-tail P name (map declared_name declared ++ more) each)
fields_keep known P (decls.Param at name value limit ∷ declared) more each = All-cons P name (field_names known declared ++ more) (All-head P name (map declared_name declared ++ more) each) (fields_keep known P declared more (All-tail P name (map declared_name declared ++ more) each))
fields_keep known P (decls.Int at name value ∷ declared) more each = All-cons P name (field_names known declared ++ more) (All-head P name (map declared_name declared ++ more) each) (fields_keep known P declared more (All-tail P name (map declared_name declared ++ more) each))
fields_keep known P (decls.Copied at name source ∷ declared) more each = All-cons P name (field_names known declared ++ more) (All-head P name (map declared_name declared ++ more) each) (fields_keep known P declared more (All-tail P name (map declared_name declared ++ more) each))
fields_keep known P (decls.Flag at name value ∷ declared) more each = All-cons P name (field_names known declared ++ more) (All-head P name (map declared_name declared ++ more) each) (fields_keep known P declared more (All-tail P name (map declared_name declared ++ more) each))

fields_apart : (known : List Decl) (R : List ℕ → List ℕ → Type 0) (declared : List Decl) (more : Names) → AllPairs R (map declared_name declared ++ more) → AllPairs R (field_names known declared ++ more)
fields_apart known R [] more pairs = pairs
fields_apart known R (decls.Const at name value ∷ declared) more pairs = fields_apart known R declared more (AllPairs-tail R name (map declared_name declared ++ more) pairs)
fields_apart known R (decls.Param at name value limit ∷ declared) more pairs = AllPairs-cons R name (field_names known declared ++ more) (fields_keep known (R name) declared more (AllPairs-head R name (map declared_name declared ++ more) pairs)) (fields_apart known R declared more (AllPairs-tail R name (map declared_name declared ++ more) pairs))
fields_apart known R (decls.Int at name value ∷ declared) more pairs = AllPairs-cons R name (field_names known declared ++ more) (fields_keep known (R name) declared more (AllPairs-head R name (map declared_name declared ++ more) pairs)) (fields_apart known R declared more (AllPairs-tail R name (map declared_name declared ++ more) pairs))
fields_apart known R (decls.Copied at name source ∷ declared) more pairs = AllPairs-cons R name (field_names known declared ++ more) (fields_keep known (R name) declared more (AllPairs-head R name (map declared_name declared ++ more) pairs)) (fields_apart known R declared more (AllPairs-tail R name (map declared_name declared ++ more) pairs))
fields_apart known R (decls.Flag at name value ∷ declared) more pairs = AllPairs-cons R name (field_names known declared ++ more) (fields_keep known (R name) declared more (AllPairs-head R name (map declared_name declared ++ more) pairs)) (fields_apart known R declared more (AllPairs-tail R name (map declared_name declared ++ more) pairs))

methods_named : (number : ℕ) (methods : List MethodTree) → map (λ method. method.name) (methods_from number methods) ≡ names_of_methods methods
methods_named number [] = refl
methods_named number (method ∷ methods) = ap (λ (names : Names). method.name ∷ names) (methods_named (number + length method.blocks) methods)

declared_bare : (declared : List Decl) → bare_names (map placed_name declared) ≡ map declared_name declared
declared_bare [] = refl
declared_bare (decls.Const at name value ∷ declared) = ap (λ (names : Names). name ∷ names) (declared_bare declared)
declared_bare (decls.Param at name value limit ∷ declared) = ap (λ (names : Names). name ∷ names) (declared_bare declared)
declared_bare (decls.Int at name value ∷ declared) = ap (λ (names : Names). name ∷ names) (declared_bare declared)
declared_bare (decls.Copied at name source ∷ declared) = ap (λ (names : Names). name ∷ names) (declared_bare declared)
declared_bare (decls.Flag at name value ∷ declared) = ap (λ (names : Names). name ∷ names) (declared_bare declared)

methods_bare : (methods : List MethodTree) → bare_names (map method_name methods) ≡ names_of_methods methods
methods_bare [] = refl
methods_bare (method ∷ methods) = ap (λ (names : Names). method.name ∷ names) (methods_bare methods)

placed_bare : (declared : List Decl) (methods : List MethodTree) → bare_names (map placed_name declared ++ map method_name methods) ≡ map declared_name declared ++ names_of_methods methods
placed_bare declared methods = map-append (λ (placed : PlacedName). placed.name) (map placed_name declared) (map method_name methods) ∙ rw (declared_bare, methods_bare) refl

-- no two fields and methods have the same name
pub typed_distinct : (declared : List Decl) (methods : List MethodTree) → repeated [] (map placed_name declared ++ map method_name methods) ≡ []
    → AllPairs Differ (field_names declared declared ++ map (λ method. method.name) (methods_from 0 methods))
typed_distinct declared methods none =
    rw methods_named (fields_apart declared Differ declared (names_of_methods methods) (subst (AllPairs Differ) (placed_bare declared methods) (apart [] (map placed_name declared ++ map method_name methods) none)))

-- ---- names of a tree

methods_identified : (methods : List MethodTree) → All IsIdentifier (flat_map method_names methods) → All IsIdentifier (names_of_methods methods)
methods_identified [] each = All-nil IsIdentifier
methods_identified (method ∷ methods) each =
    let rest = flat_map method_names methods in
    let here = front IsIdentifier (method_names method) rest each in
    All-cons IsIdentifier method.name (names_of_methods methods) (All-head IsIdentifier method.name _ here) (methods_identified methods (back IsIdentifier (method_names method) rest each))

blocks_identified : (number : ℕ) (method : MethodTree) (blocks : List BlockTree) → All IsIdentifier (flat_map block_names blocks) → All ShowsNames (placed_in number method blocks)
blocks_identified number method [] each = All-nil ShowsNames
blocks_identified number method (block ∷ blocks) each =
    let rest = flat_map block_names blocks in
    let here = front IsIdentifier (block_names block) rest each in
    let guard = front IsIdentifier (expression_names block.guard) (flat_map statement_names block.body) here in
    All-cons ShowsNames (record { number = number; method = method; block = block }) (placed_in number method blocks) guard
    (blocks_identified number method blocks (back IsIdentifier (block_names block) rest each))

guards_identified : (number : ℕ) (methods : List MethodTree) → All IsIdentifier (flat_map method_names methods) → All ShowsNames (blocks_from number methods)
guards_identified number [] each = All-nil ShowsNames
guards_identified number (method ∷ methods) each =
    let rest = flat_map method_names methods in
    let here = front IsIdentifier (method_names method) rest each in
    let inputs = map (λ input. input.name) method.inputs in
    let locals = map declared_name method.locals in
    let blocks = flat_map block_names method.blocks in
    let own = back IsIdentifier locals blocks (back IsIdentifier inputs (locals ++ blocks) (All-tail IsIdentifier method.name _ here)) in
    All-append ShowsNames (placed_in number method method.blocks) (blocks_from (number + 1) methods)
    (blocks_identified number method method.blocks own)
    (guards_identified (number + 1) methods (back IsIdentifier (method_names method) rest each))

declared_identified : (declared : List Decl) → All IsIdentifier (flat_map declaration_names declared) → All IsIdentifier (map declared_name declared)
declared_identified [] each = All-nil IsIdentifier
declared_identified (decl ∷ more) each =
    let used = used_names decl in
    let rest = flat_map declaration_names more in
    All-cons IsIdentifier (declared_name decl) (map declared_name more) (All-head IsIdentifier (declared_name decl) (used ++ rest) each)
    (declared_identified more (back IsIdentifier used rest (All-tail IsIdentifier (declared_name decl) (used ++ rest) each)))

-- what a tree's names give a monitor
pub record AreIdentified (tree : MonitorTree) : Type 0 where
  pub name : IsIdentifier tree.name
  pub names : All IsIdentifier (field_names tree.decls tree.decls ++ map (λ method. method.name) (methods_from 0 tree.methods))
  pub guards : All ShowsNames (blocks_from 0 tree.methods)

pub identified : (tree : MonitorTree) → All IsIdentifier (names_in tree) → AreIdentified tree
identified tree each =
    let declared = flat_map declaration_names tree.decls in
    let methods = flat_map method_names tree.methods in
    let later = All-tail IsIdentifier tree.name (declared ++ methods) each in
    let front_names = declared_identified tree.decls (front IsIdentifier declared methods later) in
    let back_names = back IsIdentifier declared methods later in
    let whole = All-append IsIdentifier (map declared_name tree.decls) (names_of_methods tree.methods) front_names (methods_identified tree.methods back_names) in
    record {
      name = All-head IsIdentifier tree.name (declared ++ methods) each;
      names = rw methods_named (fields_keep tree.decls IsIdentifier tree.decls (names_of_methods tree.methods) whole);
      guards = guards_identified 0 tree.methods back_names;
    }
