-- Methods, blocks and conditions, one more at a time.
use Rattle.std.proofs.Common.{◌≡◌, Bool, true, false, ℕ, zero, suc, ◌+◌, ◌*◌, ◌<◌, ◌≤◌, List, [], ◌∷◌, ◌++◌, length, get_or, take, refl, sym, ap, subst, ◌∙◌, arith, inl, inr, append_assoc}
use Rattle.std.specs.Prelude.{map, IfOk, Result, Ok, Err, Some, ◌||◌}
use Rattle.std.specs.List.{All, list_any}
use Rattle.std.proofs.lemmas.List.{append-nil, length-append, map-append, take_more}
use Rattle.std.proofs.lemmas.List.Elements.{All-cons, All-head, All-nil, All-tail, All-weaker}
use Rattle.std.proofs.lemmas.List.Concat.{flat_map-append}
use Rattle.lang_tree.specs.declared.tree.Decl.{Decl}
use Rattle.lang_tree.specs.declared.tree.BlockTree.{BlockTree}
use Rattle.lang_tree.specs.declared.tree.MethodTree.{MethodTree}
use Rattle.lang_base.specs.declared.kind.Kind.TheVariants as kinds
use Rattle.lang_base.specs.declared.value.Value.{Value}
use Rattle.lang_forms.specs.declared.scope.Entry.{Entry}
use Rattle.lang_forms.specs.Scope.{field_count, scope_of}
use Rattle.lang_forms.specs.Sense.{sense}
use Rattle.lang_forms.proofs.ScopeOrder.{scopes_are_ordered}
use Rattle.lang_forms.proofs.SmallScopes.{scopes_are_small}
use Rattle.lang_rules.specs.Rules.{block_faults, expected, faults_in_each, method_faults, over, places_in}
use Rattle.lang_base.specs.declared.counted.Counted.TheVariants.{Statements}
use Rattle.lang_monitor.specs.declared.monitor.Block.{Block}
use Rattle.lang_monitor.specs.declared.monitor.Condition.{Condition}
use Rattle.lang_monitor.specs.declared.monitor.Field.{Field}
use Rattle.lang_monitor.specs.declared.monitor.Method.{Method}
use Rattle.lang_types.specs.Typed.{AreBlocksOf, AreConditions, IsBlockOf, PlacedBlock, blocks_from, condition_of, field_of, locals_of, method_of, methods_from, placed_in, starts_of}
use Rattle.lang_types.specs.inner.Making.{AreAdded, HasNumber, HasSmallParts, IsBlockScope, IsMethodScope}
use Rattle.lang_types.proofs.ConditionClasses.{no_more}
use Rattle.lang_types.proofs.FineTrees.{IsFineMethod, append_none, fine_method, none_each}
use Rattle.lang_types.proofs.PlacedBlocks.{as_many_blocks, as_many_from, as_many_placed, few_from}
use Rattle.lang_types.proofs.StatementsFit.{value_fine}
use Rattle.lang_types.proofs.StatementSteps.{fine_statements}

-- ---- lists

pub length_taken : {X : Type 0} (xs : List X) (i : ℕ) → i ≤ length xs → length (take i xs) ≡ i
length_taken xs zero le = refl
length_taken [] (suc i) le = absurd (omega arith)
length_taken (x ∷ xs) (suc i) le = let rest = length_taken xs i (omega arith) in omega arith

all_are_taken : {X : Type 0} (xs : List X) (i : ℕ) → length xs ≤ i → take i xs ≡ xs
all_are_taken [] zero le = refl
all_are_taken [] (suc i) le = refl
all_are_taken (x ∷ xs) zero le = absurd (omega arith)
all_are_taken (x ∷ xs) (suc i) le = ap (λ ys. x ∷ ys) (all_are_taken xs i (omega arith))

one_taken : {X : Type 0} (xs : List X) (i : ℕ) (x : X) → i < length xs → x ≡ get_or xs i x → take (i + 1) xs ≡ take i xs ++ x ∷ []
one_taken xs i x lt is = take_more xs i x lt ∙ ap (λ y. take i xs ++ y ∷ []) (sym is)

pub each_at : {X : Type 0} (P : X → Type 0) (xs : List X) (k : ℕ) (x : X) → x ≡ get_or xs k x → k < length xs → All P xs → P x
each_at P xs k x is lt each = subst P (sym is) (each k x lt)

all_taken : {X : Type 0} (P : X → Type 0) (xs : List X) (i : ℕ) → All P xs → All P (take i xs)
all_taken P xs zero each = All-nil P
all_taken P [] (suc i) each = All-nil P
all_taken P (x ∷ xs) (suc i) each = All-cons P x (take i xs) (All-head P x xs each) (all_taken P xs i (All-tail P x xs each))

-- ---- the values of declarations at the start

pub starts_more : (declared : List Decl) (i : ℕ) (decl : Decl) (starts next : List Value) → i < length declared → decl ≡ get_or declared i decl → starts ≡ starts_of (take i declared) → next ≡ starts ++ map (λ (field : Field). field.start) (field_of [] decl)
    → next ≡ starts_of (take (i + 1) declared)
starts_more declared i decl starts next lt is so_far more =
    let before = locals_of (take i declared) in
    let start = λ (field : Field). field.start in
    more ∙ ap (λ list. list ++ map start (field_of [] decl)) so_far
    ∙ sym (ap starts_of (one_taken declared i decl lt is)
    ∙ ap (map start) (flat_map-append (field_of []) (take i declared) (decl ∷ []) ∙ ap (λ list. before ++ list) (append-nil (field_of [] decl)))
    ∙ map-append start before (field_of [] decl))

-- ---- methods

methods_and_one : (number last other : ℕ) (methods : List MethodTree) (method : MethodTree) → last ≡ number + length (blocks_from other methods) → methods_from number (methods ++ method ∷ []) ≡ methods_from number methods ++ method_of last method ∷ []
methods_and_one number last other [] method at = let same : number ≡ last = omega arith in ap (λ (n : ℕ). method_of n method ∷ []) same
methods_and_one number last other (first ∷ methods) method at =
    let count = as_many_from other first methods in
    ap (λ (list : List Method). method_of number first ∷ list) (methods_and_one (number + length first.blocks) last (other + 1) methods method (omega arith))

rows_and_one : (number last : ℕ) (methods : List MethodTree) (method : MethodTree) → last ≡ number + length methods → blocks_from number (methods ++ method ∷ []) ≡ blocks_from number methods ++ placed_in last method method.blocks
rows_and_one number last [] method at = let same : number ≡ last = omega arith in append-nil (placed_in number method method.blocks) ∙ ap (λ (n : ℕ). placed_in n method method.blocks) same
rows_and_one number last (first ∷ methods) method at =
    ap (λ (list : List PlacedBlock). placed_in number first first.blocks ++ list) (rows_and_one (number + 1) last methods method (omega arith))
    ∙ sym (append_assoc (placed_in number first first.blocks) (blocks_from (number + 1) methods) (placed_in last method method.blocks))

-- the methods so far, and how many blocks they have
pub record MethodsMade (trees : List MethodTree) (methods : List Method) (first : ℕ) : Type 0 where
  pub methods_are : methods ≡ methods_from 0 trees
  pub counted : first ≡ length (blocks_from 0 trees)
  pub few : first ≤ 4 * length trees

methods_step : (trees : List MethodTree) (tree : MethodTree) (methods next : List Method) (first : ℕ) (made : Method) → MethodsMade trees methods first → HasSmallParts tree → made ≡ method_of first tree → next ≡ methods ++ made ∷ []
    → MethodsMade (trees ++ tree ∷ []) next (first + made.count)
methods_step trees tree methods next first made so_far small made_is next_is =
    let counted = so_far.counted in
    let few = so_far.few in
    let blocks = small.few_blocks in
    let count : made.count ≡ length tree.blocks = ap (λ (m : Method). m.count) made_is in
    let rows = ap (λ (row : List PlacedBlock). length row) (rows_and_one 0 (length trees) trees tree (omega arith)) ∙ length-append (blocks_from 0 trees) (placed_in (length trees) tree tree.blocks) in
    let own = as_many_placed (length trees) tree tree.blocks in
    let longer = length-append trees (tree ∷ []) in
    record {
      methods_are = next_is ∙ ap (λ (list : List Method). list ++ made ∷ []) so_far.methods_are ∙ ap (λ (m : Method). methods_from 0 trees ++ m ∷ []) made_is
          ∙ sym (methods_and_one 0 first 0 trees tree (omega arith));
      counted = omega arith;
      few = omega arith;
    }

-- one turn of the loop over methods
pub methods_more : (trees : List MethodTree) (i : ℕ) (tree : MethodTree) (methods next : List Method) (first : ℕ) (made : Method) → i < length trees → tree ≡ get_or trees i tree
    → MethodsMade (take i trees) methods first → HasSmallParts tree → made ≡ method_of first tree → next ≡ methods ++ made ∷ [] → MethodsMade (take (i + 1) trees) next (first + made.count)
methods_more trees i tree methods next first made lt is so_far small made_is next_is =
    rw (one_taken trees i tree lt is) (methods_step (take i trees) tree methods next first made so_far small made_is next_is)

pub few_counted : (trees : List MethodTree) (i : ℕ) (tree : MethodTree) (methods : List Method) (first : ℕ) (made : Method) → i < length trees → length trees ≤ 16
    → MethodsMade (take i trees) methods first → HasSmallParts tree → made ≡ method_of first tree → first + made.count ≤ 64
few_counted trees i tree methods first made lt less so_far small made_is =
    let few = so_far.few in
    let blocks = small.few_blocks in
    let count : made.count ≡ length tree.blocks = ap (λ (m : Method). m.count) made_is in
    let taken = length_taken trees i (omega arith) in
    omega arith

-- ---- blocks that are added

blocks_both : (declared : List Decl) (some others : List PlacedBlock) (these those : List Block) → AreBlocksOf declared some these → AreBlocksOf declared others those → AreBlocksOf declared (some ++ others) (these ++ those)
blocks_both declared [] others [] those are also = also
blocks_both declared [] others (block ∷ these) those are also = absurd are
blocks_both declared (placed ∷ some) others [] those are also = absurd are
blocks_both declared (placed ∷ some) others (block ∷ these) those are also = (are.0, blocks_both declared some others these those are.1 also)

conditions_both : (before between all : List Condition) (some others : List PlacedBlock) (these those : List Block) → AreConditions before some these between → AreConditions between others those all → AreConditions before (some ++ others) (these ++ those) all
conditions_both before between all [] others [] those are also = subst (λ (list : List Condition). AreConditions list others those all) are also
conditions_both before between all [] others (block ∷ these) those are also = absurd are
conditions_both before between all (placed ∷ some) others [] those are also = absurd are
conditions_both before between all (placed ∷ some) others (block ∷ these) those are also = elim are [
  | inl old ↦ inl (old.0, old.1, conditions_both before between all some others these those old.2 also, old.3)
  | inr (inl new) ↦ inr (inl (new.0, new.1, conditions_both (before ++ condition_of block placed.block ∷ []) between all some others these those new.2 also, new.3))
  | inr (inr none) ↦ inr (inr (none.0, none.1, conditions_both before between all some others these those none.2 also))
]

added_both : (declared : List Decl) (some others : List PlacedBlock) (old middle new : List Block) (before between all : List Condition)
    → AreAdded declared some old middle before between → AreAdded declared others middle new between all → AreAdded declared (some ++ others) old new before all
added_both declared some others old middle new before between all one other = record {
  more = one.more ++ other.more;
  after_old = other.after_old ∙ ap (λ (list : List Block). list ++ other.more) one.after_old ∙ append_assoc old one.more other.more;
  blocks_are = blocks_both declared some others one.more other.more one.blocks_are other.blocks_are;
  conditions_are = conditions_both before between all some others one.more other.more one.conditions_are other.conditions_are;
}

pub none_added : (declared : List Decl) (old new : List Block) (before all : List Condition) → new ≡ old → all ≡ before → AreAdded declared [] old new before all
none_added declared old new before all same also = record { more = []; after_old = same ∙ sym (append-nil old); blocks_are = tt; conditions_are = also }

one_added : (declared : List Decl) (placed : PlacedBlock) (old new : List Block) (block : Block) (before all : List Condition) → new ≡ old ++ block ∷ []
    → IsBlockOf (scope_of declared placed.method) placed.number placed.block block → HasNumber placed.method.asserts placed.block block before all → AreAdded declared (placed ∷ []) old new before all
one_added declared placed old new block before all is block_is numbered = record {
  more = block ∷ [];
  after_old = is;
  blocks_are = (block_is, tt);
  conditions_are = elim numbered [
    | inl none ↦ inr (inr (none.1, none.0, none.2))
    | inr (asserts, inl known) ↦ inl (known.0, known.1, known.2, asserts)
    | inr (asserts, inr new) ↦ inr (inl (new.0, new.1, new.2, asserts))
  ];
}

-- one turn of the loop over a method's blocks
pub block_more : (declared : List Decl) (number : ℕ) (method : MethodTree) (blocks : List BlockTree) (i : ℕ) (tree : BlockTree) (block : Block) (old middle new : List Block) (before between all : List Condition) (entries : List Entry)
    → i < length blocks → tree ≡ get_or blocks i tree → entries ≡ scope_of declared method → AreAdded declared (placed_in number method (take i blocks)) old middle before between
    → IsBlockOf entries number tree block → HasNumber method.asserts tree block between all → new ≡ middle ++ block ∷ [] → AreAdded declared (placed_in number method (take (i + 1) blocks)) old new before all
block_more declared number method blocks i tree block old middle new before between all entries lt is scope_is so_far made numbered next =
    let block_is = subst (λ (scope : List Entry). IsBlockOf scope number tree block) scope_is made in
    let placed : PlacedBlock = record { number = number; method = method; block = tree } in
    let place = λ (block : BlockTree). let one : PlacedBlock = record { number = number; method = method; block = block } in one in
    let rows : placed_in number method (take (i + 1) blocks) ≡ placed_in number method (take i blocks) ++ placed ∷ [] = ap (placed_in number method) (one_taken blocks i tree lt is) ∙ map-append place (take i blocks) (tree ∷ []) in
    rw rows (added_both declared (placed_in number method (take i blocks)) (placed ∷ []) old middle new before between all so_far (one_added declared placed middle new block between all next block_is numbered))

-- one turn of the loop over methods
pub method_more : (declared : List Decl) (methods : List MethodTree) (i number : ℕ) (method : MethodTree) (old middle new : List Block) (before between all : List Condition)
    → i < length methods → method ≡ get_or methods i method → number ≡ i → AreAdded declared (blocks_from 0 (take i methods)) old middle before between
    → AreAdded declared (placed_in number method method.blocks) middle new between all → AreAdded declared (blocks_from 0 (take (i + 1) methods)) old new before all
method_more declared methods i number method old middle new before between all lt is at so_far own =
    let taken = length_taken methods i (omega arith) in
    let rows : blocks_from 0 (take (i + 1) methods) ≡ blocks_from 0 (take i methods) ++ placed_in number method method.blocks = ap (blocks_from 0) (one_taken methods i method lt is) ∙ rows_and_one 0 number (take i methods) method (omega arith) in
    rw rows (added_both declared (blocks_from 0 (take i methods)) (placed_in number method method.blocks) old middle new before between all so_far own)

-- there are no more new conditions than blocks
fewer_added : (declared : List Decl) (row : List PlacedBlock) (old new : List Block) (before all : List Condition) → AreAdded declared row old new before all → length all ≤ length before + length row
fewer_added declared row old new before all added =
    let fewer = no_more before row added.more all added.conditions_are in
    let count = as_many_blocks declared row added.more added.blocks_are in
    omega arith

few_each : (declared : List Decl) (methods : List MethodTree) → All (λ method. method_faults declared method ≡ []) methods → All (λ method. length method.blocks ≤ 4) methods
few_each declared methods fine = All-weaker (λ method. method_faults declared method ≡ []) (λ (method : MethodTree). length method.blocks ≤ 4) (λ method none. (fine_method declared method none).few_blocks) methods fine

-- the conditions of earlier methods leave room for those of one more
pub room_left : (declared : List Decl) (methods : List MethodTree) (i : ℕ) (new : List Block) (all : List Condition) → i < length methods → length methods ≤ 16 → All (λ method. method_faults declared method ≡ []) methods
    → AreAdded declared (blocks_from 0 (take i methods)) [] new [] all → length all + 4 ≤ 64
room_left declared methods i new all lt less fine added =
    let fewer = fewer_added declared (blocks_from 0 (take i methods)) [] new [] all added in
    let rows = few_from 0 (take i methods) (all_taken (λ (method : MethodTree). length method.blocks ≤ 4) methods i (few_each declared methods fine)) in
    let taken = length_taken methods i (omega arith) in
    omega arith

pub still_room : (declared : List Decl) (number : ℕ) (method : MethodTree) (blocks : List BlockTree) (i : ℕ) (old new : List Block) (before all : List Condition) → i < length blocks → blocks ≡ method.blocks → method_faults declared method ≡ []
    → length before + 4 ≤ 64 → AreAdded declared (placed_in number method (take i blocks)) old new before all → length all ≤ 64
still_room declared number method blocks i old new before all lt is none less added =
    let fewer = fewer_added declared (placed_in number method (take i blocks)) old new before all added in
    let count = as_many_placed number method (take i blocks) in
    let taken = length_taken blocks i (omega arith) in
    let few = (fine_method declared method none).few_blocks in
    let same = ap (λ (list : List BlockTree). length list) is in
    omega arith

-- ---- all blocks

pub record AreAll (declared : List Decl) (methods : List MethodTree) (blocks : List Block) (all : List Condition) : Type 0 where
  pub blocks_are : AreBlocksOf declared (blocks_from 0 methods) blocks
  pub conditions_are : AreConditions [] (blocks_from 0 methods) blocks all

pub all_added : (declared : List Decl) (methods : List MethodTree) (i : ℕ) (blocks : List Block) (all : List Condition) → length methods ≤ i → AreAdded declared (blocks_from 0 (take i methods)) [] blocks [] all → AreAll declared methods blocks all
all_added declared methods i blocks all done some =
    let added = subst (λ (list : List MethodTree). AreAdded declared (blocks_from 0 list) [] blocks [] all) (all_are_taken methods i done) some in
    record {
      blocks_are = subst (AreBlocksOf declared (blocks_from 0 methods)) (sym added.after_old) added.blocks_are;
      conditions_are = subst (λ (list : List Block). AreConditions [] (blocks_from 0 methods) list all) (sym added.after_old) added.conditions_are;
    }

-- all blocks of a method
pub blocks_done : (declared : List Decl) (number : ℕ) (method : MethodTree) (blocks : List BlockTree) (i : ℕ) (old new : List Block) (before all : List Condition) → length blocks ≤ i → blocks ≡ method.blocks
    → AreAdded declared (placed_in number method (take i blocks)) old new before all → AreAdded declared (placed_in number method method.blocks) old new before all
blocks_done declared number method blocks i old new before all done is some =
    subst (λ (list : List BlockTree). AreAdded declared (placed_in number method list) old new before all) (all_are_taken blocks i done ∙ is) some

-- ---- what the code that types a method may count on

block_scope : (declared : List Decl) (method : MethodTree) (tree : BlockTree) → field_count declared ≤ 16 → IsFineMethod declared method → block_faults (scope_of declared method) tree ≡ [] → IsBlockScope tree (scope_of declared method)
block_scope declared method tree fewer fine none =
    let scope = scope_of declared method in
    let guard = expected (Some kinds.Bool) (sense scope tree.guard) in
    let body = faults_in_each scope tree.body in
    let front = append_none (guard ++ body) (over 64 Statements (places_in tree.body)) none in
    let parts = append_none guard body front.0 in
    let both = value_fine kinds.Bool (sense scope tree.guard) parts.0 in
    record {
      ordered_places = scopes_are_ordered declared method fewer fine.inputs;
      small_numbers = scopes_are_small declared method;
      guard_fine = both.0;
      guard_bool = both.1;
      body_fine = fine_statements scope tree.body parts.1;
    }

pub fine_scope : (declared : List Decl) (method : MethodTree) (scope : List Entry) → field_count declared ≤ 16 → method_faults declared method ≡ [] → scope ≡ scope_of declared method → IsMethodScope method scope
fine_scope declared method scope fewer none is =
    let own = scope_of declared method in
    let fine = fine_method declared method none in
    subst (IsMethodScope method) (sym is)
    (All-weaker (λ tree. block_faults own tree ≡ []) (λ tree. IsBlockScope tree own) (λ tree broken. block_scope declared method tree fewer fine broken) method.blocks (none_each (block_faults own) method.blocks fine.each))

-- a block of the method, in the scope that was made
pub block_fine : (method : MethodTree) (scope entries : List Entry) (blocks : List BlockTree) (i : ℕ) (tree : BlockTree) → entries ≡ scope → blocks ≡ method.blocks → IsMethodScope method scope → tree ≡ get_or blocks i tree → i < length blocks → IsBlockScope tree entries
block_fine method scope entries blocks i tree entries_are blocks_are fine is lt =
    subst (λ (list : List Entry). IsBlockScope tree list) (sym entries_are)
    (each_at (λ (one : BlockTree). IsBlockScope one scope) blocks i tree is lt (subst (λ (list : List BlockTree). All (λ (one : BlockTree). IsBlockScope one scope) list) (sym blocks_are) fine))

pub few_names : (declared : List Decl) (method : MethodTree) → method_faults declared method ≡ [] → (length method.inputs ≤ 65536) × (length method.locals ≤ 65536)
few_names declared method none =
    let fine = fine_method declared method none in
    let inputs = fine.inputs in
    let locals = fine.locals in
    (omega arith, omega arith)

-- one part of a guard that reads inputs
or_true : (b : Bool) → (b || true) ≡ true
or_true true = refl
or_true false = refl

pub any_here : {X : Type 0} (f : X → Bool) (xs : List X) (k : ℕ) (x : X) → x ≡ get_or xs k x → k < length xs → true ≡ f x → true ≡ list_any (λ part. part) (map f xs)
any_here f [] k x is lt holds = absurd (omega arith)
any_here f (y ∷ xs) zero x is lt holds = let here : f y ≡ true = sym (holds ∙ ap f is) in rw here refl
any_here f (y ∷ xs) (suc k) x is lt holds = sym (or_true (f y)) ∙ ap (λ rest. f y || rest) (any_here f xs k x is (omega arith) holds)

-- what is made as the scope of a method
pub record IsScopeMade {E : Type 0} (declared : List Decl) (method : MethodTree) (made : Result (List Entry) E) : Type 0 where
  pub exact : IfOk made (λ scope. scope ≡ scope_of declared method)
  pub fine : IfOk made (λ scope. IsMethodScope method scope)

pub scope_made : {E : Type 0} (declared : List Decl) (method : MethodTree) (made : Result (List Entry) E) → field_count declared ≤ 16 → method_faults declared method ≡ [] → IfOk made (λ scope. scope ≡ scope_of declared method) → IsScopeMade declared method made
scope_made declared method (Ok scope) fewer none is = record { exact = is; fine = fine_scope declared method scope fewer none is }
scope_made declared method (Err error) fewer none is = record { exact = tt; fine = tt }
