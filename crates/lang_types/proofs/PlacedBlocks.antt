-- Which blocks stand where in the row of the blocks of all methods.
use Rattle.std.proofs.Common.{◌≡◌, ℕ, zero, suc, ◌+◌, ◌*◌, ◌<◌, ◌≤◌, ◌⊎◌, List, [], ◌∷◌, ◌++◌, length, Option, Some, None, refl, sym, ap, subst, ◌∙◌, arith, inl, inr, length-append}
use Rattle.std.specs.Prelude.{slice_get, IsSomeAnd}
use Rattle.std.specs.List.{All}
use Rattle.std.proofs.lemmas.List.{length-map}
use Rattle.std.proofs.lemmas.List.Elements.{All-head, All-tail}
use Rattle.lang_tree.specs.declared.tree.Decl.{Decl}
use Rattle.lang_tree.specs.declared.tree.BlockTree.{BlockTree}
use Rattle.lang_tree.specs.declared.tree.MethodTree.{MethodTree}
use Rattle.lang_monitor.specs.declared.monitor.Block.{Block}
use Rattle.lang_monitor.specs.declared.monitor.Method.{Method}
use Rattle.lang_monitor.specs.MonitorParts.{AreInTurn}
use Rattle.lang_types.specs.Typed.{AreBlocksOf, IsPlaced, PlacedBlock, blocks_from, method_of, methods_from, placed_in}

-- ---- what stands at a place of two lists

some_is : {X : Type 0} (x y : X) → Some x ≡ Some y → x ≡ y
some_is x y is = cc

front_at : {X : Type 0} (xs ys : List X) (i : ℕ) (x : X) → slice_get xs i ≡ Some x → slice_get (xs ++ ys) i ≡ Some x
front_at [] ys i x is = absurd cc
front_at (first ∷ xs) ys zero x is = is
front_at (first ∷ xs) ys (suc i) x is = front_at xs ys i x is

back_at : {X : Type 0} (xs ys : List X) (i j : ℕ) → j ≡ length xs + i → slice_get (xs ++ ys) j ≡ slice_get ys i
back_at [] ys i j is = ap (slice_get ys) (omega arith)
back_at (x ∷ xs) ys i zero is = absurd (omega arith)
back_at (x ∷ xs) ys i (suc j) is = back_at xs ys i j (omega arith)

-- it stands in the first list, or at some place of the second
record IsLater {X : Type 0} (xs ys : List X) (j : ℕ) (x : X) : Type 0 where
  place : ℕ
  far : j ≡ length xs + place
  has : slice_get ys place ≡ Some x

one_later : {X : Type 0} (first : X) (xs ys : List X) (j : ℕ) (x : X) → (slice_get xs j ≡ Some x) ⊎ IsLater xs ys j x → (slice_get xs j ≡ Some x) ⊎ IsLater (first ∷ xs) ys (suc j) x
one_later first xs ys j x (inl here) = inl here
one_later first xs ys j x (inr later) = let far = later.far in inr (record { place = later.place; far = omega arith; has = later.has })

either_at : {X : Type 0} (xs ys : List X) (j : ℕ) (x : X) → slice_get (xs ++ ys) j ≡ Some x → (slice_get xs j ≡ Some x) ⊎ IsLater xs ys j x
either_at [] ys j x is = inr (record { place = j; far = omega arith; has = is })
either_at (first ∷ xs) ys zero x is = inl is
either_at (first ∷ xs) ys (suc j) x is = one_later first xs ys j x (either_at xs ys j x is)

pub some_weaker : {X : Type 0} (found : Option X) (P Q : X → Type 0) → ((x : X) → P x → Q x) → IsSomeAnd found P → IsSomeAnd found Q
some_weaker None P Q weaker has = has
some_weaker (Some x) P Q weaker has = weaker x has

-- ---- the blocks of one method

placed_at : (number : ℕ) (method : MethodTree) (blocks : List BlockTree) (place : ℕ) (block : BlockTree) → slice_get blocks place ≡ Some block
    → slice_get (placed_in number method blocks) place ≡ Some (record { number = number; method = method; block = block })
placed_at number method [] place block is = absurd cc
placed_at number method (first ∷ blocks) zero block is = ap (λ (one : BlockTree). Some (record { number = number; method = method; block = one })) (some_is first block is)
placed_at number method (first ∷ blocks) (suc place) block is = placed_at number method blocks place block is

record IsOneOf (number : ℕ) (blocks : List BlockTree) (place : ℕ) (placed : PlacedBlock) : Type 0 where
  numbered : placed.number ≡ number
  within : place < length blocks

one_of : (number : ℕ) (method : MethodTree) (blocks : List BlockTree) (place : ℕ) (placed : PlacedBlock) → slice_get (placed_in number method blocks) place ≡ Some placed → IsOneOf number blocks place placed
one_of number method [] place placed is = absurd cc
one_of number method (first ∷ blocks) zero placed is = record { numbered = sym (ap (λ (one : PlacedBlock). one.number) (some_is (record { number = number; method = method; block = first }) placed is)); within = omega arith }
one_of number method (first ∷ blocks) (suc place) placed is =
    let rest = one_of number method blocks place placed is in
    let within = rest.within in
    record { numbered = rest.numbered; within = omega arith }

pub as_many_placed : (number : ℕ) (method : MethodTree) (blocks : List BlockTree) → length (placed_in number method blocks) ≡ length blocks
as_many_placed number method blocks = length-map blocks (λ block. record { number = number; method = method; block = block })

-- ---- the blocks of all methods

pub as_many_from : (number : ℕ) (method : MethodTree) (methods : List MethodTree) → length (blocks_from number (method ∷ methods)) ≡ length method.blocks + length (blocks_from (number + 1) methods)
as_many_from number method methods =
    length-append (placed_in number method method.blocks) (blocks_from (number + 1) methods)
    ∙ ap (λ count. count + length (blocks_from (number + 1) methods)) (as_many_placed number method method.blocks)

pub few_from : (number : ℕ) (methods : List MethodTree) → All (λ method. length method.blocks ≤ 4) methods → length (blocks_from number methods) ≤ 4 * length methods
few_from number [] few = omega arith
few_from number (method ∷ methods) few =
    let count = as_many_from number method methods in
    let here = All-head (λ (method : MethodTree). length method.blocks ≤ 4) method methods few in
    let rest = few_from (number + 1) methods (All-tail (λ (method : MethodTree). length method.blocks ≤ 4) method methods few) in
    omega arith

-- Where a method's blocks stand: the method at an index is a tree's, and its blocks follow one
-- another.
pub record MethodAt (methods : List MethodTree) (number first index : ℕ) (method : Method) : Type 0 where
  pub tree : MethodTree
  pub is : slice_get methods index ≡ Some tree
  pub earlier : ℕ
  pub made : method ≡ method_of (first + earlier) tree
  pub rows : (place : ℕ) (block : BlockTree) → slice_get tree.blocks place ≡ Some block
      → slice_get (blocks_from number methods) (earlier + place) ≡ Some (record { number = number + index; method = tree; block = block })

pub method_at : (methods : List MethodTree) (number first index : ℕ) (method : Method) → slice_get (methods_from first methods) index ≡ Some method → MethodAt methods number first index method
method_at [] number first index method is = absurd cc
method_at (tree ∷ methods) number first zero method is =
    let same : first ≡ first + 0 = omega arith in
    let own : number ≡ number + 0 = omega arith in
    record {
      tree = tree;
      is = refl;
      earlier = 0;
      made = sym (some_is (method_of first tree) method is) ∙ ap (λ (n : ℕ). method_of n tree) same;
      rows = λ place block at.
          let here : 0 + place ≡ place = omega arith in
          ap (slice_get (blocks_from number (tree ∷ methods))) here
          ∙ front_at (placed_in number tree tree.blocks) (blocks_from (number + 1) methods) place (record { number = number; method = tree; block = block }) (placed_at number tree tree.blocks place block at)
          ∙ ap (λ (n : ℕ). Some (record { number = n; method = tree; block = block })) own;
    }
method_at (tree ∷ methods) number first (suc index) method is =
    let rest = method_at methods (number + 1) (first + length tree.blocks) index method is in
    let same : first + length tree.blocks + rest.earlier ≡ first + (length tree.blocks + rest.earlier) = omega arith in
    let own : number + 1 + index ≡ number + suc index = omega arith in
    record {
      tree = rest.tree;
      is = rest.is;
      earlier = length tree.blocks + rest.earlier;
      made = rest.made ∙ ap (λ (n : ℕ). method_of n rest.tree) same;
      rows = λ place block at.
          let count = as_many_placed number tree tree.blocks in
          let far : length tree.blocks + rest.earlier + place ≡ length (placed_in number tree tree.blocks) + (rest.earlier + place) = omega arith in
          back_at (placed_in number tree tree.blocks) (blocks_from (number + 1) methods) (rest.earlier + place) (length tree.blocks + rest.earlier + place) far
          ∙ rest.rows place block at
          ∙ ap (λ (n : ℕ). Some (record { number = n; method = rest.tree; block = block })) own;
    }

-- Whose block stands at a place: the method has its number, and the place is in the method's range.
pub record RowAt (methods : List MethodTree) (number first place : ℕ) (placed : PlacedBlock) : Type 0 where
  pub index : ℕ
  pub numbered : placed.number ≡ number + index
  pub owned : IsSomeAnd (slice_get (methods_from first methods) index) (λ method. (method.first ≤ first + place) × (first + place < method.first + method.count))

row_here : (tree : MethodTree) (methods : List MethodTree) (number first place : ℕ) (placed : PlacedBlock) → IsOneOf number tree.blocks place placed → RowAt (tree ∷ methods) number first place placed
row_here tree methods number first place placed one =
    let numbered = one.numbered in
    let within = one.within in
    record { index = 0; numbered = omega arith; owned = (omega arith, omega arith) }

row_later : (tree : MethodTree) (methods : List MethodTree) (number first place next : ℕ) (placed : PlacedBlock) → next ≡ length tree.blocks + place → RowAt methods (number + 1) (first + length tree.blocks) place placed → RowAt (tree ∷ methods) number first next placed
row_later tree methods number first place next placed far rest =
    let numbered = rest.numbered in
    let same : first + length tree.blocks + place ≡ first + next = omega arith in
    record {
      index = suc rest.index;
      numbered = omega arith;
      owned = subst (λ (n : ℕ). IsSomeAnd (slice_get (methods_from (first + length tree.blocks) methods) rest.index) (λ method. (method.first ≤ n) × (n < method.first + method.count))) same rest.owned;
    }

pub row_at : (methods : List MethodTree) (number first place : ℕ) (placed : PlacedBlock) → slice_get (blocks_from number methods) place ≡ Some placed → RowAt methods number first place placed
row_at [] number first place placed is = absurd cc
row_at (tree ∷ methods) number first place placed is =
    elim (either_at (placed_in number tree tree.blocks) (blocks_from (number + 1) methods) place placed is) [
      | inl here ↦ row_here tree methods number first place placed (one_of number tree tree.blocks place placed here)
      | inr later ↦
          let far = later.far in
          let count = as_many_placed number tree tree.blocks in
          row_later tree methods number first later.place place placed (omega arith) (row_at methods (number + 1) (first + length tree.blocks) later.place placed later.has)
    ]

-- the blocks of the methods follow one another, to the end
pub follow_in_turn : (methods : List MethodTree) (number first : ℕ) (blocks : List Block) → length blocks ≡ first + length (blocks_from number methods) → AreInTurn first (methods_from first methods) blocks
follow_in_turn [] number first blocks count = omega arith
follow_in_turn (tree ∷ methods) number first blocks count =
    let more = as_many_from number tree methods in
    (refl, follow_in_turn methods (number + 1) (first + length tree.blocks) blocks (omega arith))

-- ---- the monitor's blocks

pub as_many_blocks : (declared : List Decl) (row : List PlacedBlock) (blocks : List Block) → AreBlocksOf declared row blocks → length blocks ≡ length row
as_many_blocks declared [] [] are = refl
as_many_blocks declared [] (block ∷ blocks) are = absurd are
as_many_blocks declared (placed ∷ row) [] are = absurd are
as_many_blocks declared (placed ∷ row) (block ∷ blocks) are = let rest = as_many_blocks declared row blocks are.1 in omega arith

-- where a tree's block stands, a block of it stands
pub has_block : (declared : List Decl) (row : List PlacedBlock) (blocks : List Block) → AreBlocksOf declared row blocks → (place : ℕ) (placed : PlacedBlock) → slice_get row place ≡ Some placed → IsSomeAnd (slice_get blocks place) (IsPlaced declared placed)
has_block declared [] blocks are place placed is = absurd cc
has_block declared (first ∷ row) [] are place placed is = absurd are
has_block declared (first ∷ row) (block ∷ blocks) are zero placed is = subst (λ (one : PlacedBlock). IsPlaced declared one block) (some_is first placed is) are.0
has_block declared (first ∷ row) (block ∷ blocks) are (suc place) placed is = has_block declared row blocks are.1 place placed is

-- the tree's block that a block is of
pub record HasTree (declared : List Decl) (row : List PlacedBlock) (place : ℕ) (block : Block) : Type 0 where
  pub placed : PlacedBlock
  pub here : slice_get row place ≡ Some placed
  pub is : IsPlaced declared placed block

pub has_tree : (declared : List Decl) (row : List PlacedBlock) (blocks : List Block) → AreBlocksOf declared row blocks → (place : ℕ) (block : Block) → slice_get blocks place ≡ Some block → HasTree declared row place block
has_tree declared [] [] are place block is = absurd cc
has_tree declared [] (one ∷ blocks) are place block is = absurd are
has_tree declared (first ∷ row) [] are place block is = absurd are
has_tree declared (first ∷ row) (one ∷ blocks) are zero block is = record { placed = first; here = refl; is = subst (IsPlaced declared first) (some_is one block is) are.0 }
has_tree declared (first ∷ row) (one ∷ blocks) are (suc place) block is =
    let rest = has_tree declared row blocks are.1 place block is in
    record { placed = rest.placed; here = rest.here; is = rest.is }

-- the two at one place belong together
pub belong : (declared : List Decl) (row : List PlacedBlock) (blocks : List Block) → AreBlocksOf declared row blocks → (place : ℕ) (placed : PlacedBlock) (block : Block) → slice_get row place ≡ Some placed → slice_get blocks place ≡ Some block → IsPlaced declared placed block
belong declared row blocks are place placed block here there = subst (λ (found : Option Block). IsSomeAnd found (IsPlaced declared placed)) there (has_block declared row blocks are place placed here)
