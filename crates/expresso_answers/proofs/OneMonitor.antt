-- A tree stands for one monitor at most, and so do bytes.
use Rattle.std.proofs.Common.{◌≡◌, ◌⊎◌, ℕ, zero, suc, ◌+◌, ◌-◌, List, [], ◌∷◌, ◌++◌, length, All, inl, inr, refl, sym, ap, subst, ◌∙◌}
use Rattle.std.specs.List.{slice_get}
use Rattle.std.specs.Option.{IsSomeAnd}
use Rattle.std.proofs.lemmas.Bool.{true≢false}
use Rattle.std.proofs.lemmas.List.Elements.{All-head, All-tail}
use Rattle.logic_linear.specs.declared.formula.Formula.{Formula}
use Rattle.lang_tokens.specs.declared.token.Token.{Token}
use Rattle.lang_tree.specs.declared.tree.Decl.{Decl}
use Rattle.lang_tree.specs.declared.tree.BlockTree.{BlockTree}
use Rattle.lang_tree.specs.declared.tree.MonitorTree.{MonitorTree}
use Rattle.lang_syntax.specs.Grammar.{Derives}
use Rattle.lang_monitor.specs.declared.monitor.Block.{Block}
use Rattle.lang_monitor.specs.declared.monitor.Condition.{Condition}
use Rattle.lang_monitor.specs.MonitorParts.{MonitorParts}
use Rattle.lang_forms.specs.declared.scope.Entry.{Entry}
use Rattle.lang_forms.specs.Scope.{scope_of}
use Rattle.lang_types.specs.Typed.{IsTyped, IsBlockOf, AreBlocksOf, AreConditions, PlacedBlock, blocks_from, condition_of}
use Rattle.expresso_answers.specs.MonitorFiles.{IsAccepted}
use Rattle.expresso_answers.proofs.FirstFaults.{OneSpelling, OneTree}

-- ---- conditions with distinct guards

-- the condition at a place has this guard
abbrev HasGuard : List Condition → Formula → ℕ → Type 0
HasGuard conditions guard place = IsSomeAnd (slice_get conditions place) (λ condition. condition.guard ≡ guard)

-- one place at most has a guard
abbrev AreDistinct : List Condition → Type 0
AreDistinct conditions = (guard : Formula) (i j : ℕ) → HasGuard conditions guard i → HasGuard conditions guard j → i ≡ j

-- no condition has this guard
abbrev HaveNone : List Condition → Formula → Type 0
HaveNone conditions guard = All (λ condition. condition.guard ≡ guard → ⊥) conditions

none_at : (conditions : List Condition) (guard : Formula) → HaveNone conditions guard → (place : ℕ) → HasGuard conditions guard place → ⊥
none_at [] guard none place has = has
none_at (first ∷ more) guard none zero has = All-head (λ condition. condition.guard ≡ guard → ⊥) first more none has
none_at (first ∷ more) guard none (suc place) has = none_at more guard (All-tail (λ condition. condition.guard ≡ guard → ⊥) first more none) place has

-- a place among some conditions and one more is theirs or the last
at_push : (conditions : List Condition) (new : Condition) (guard : Formula) (place : ℕ) → HasGuard (conditions ++ new ∷ []) guard place
    → HasGuard conditions guard place ⊎ ((place ≡ length conditions) × (new.guard ≡ guard))
at_push [] new guard zero has = inr (refl, has)
at_push [] new guard (suc place) has = absurd has
at_push (first ∷ more) new guard zero has = inl has
at_push (first ∷ more) new guard (suc place) has =
    elim (at_push more new guard place has) [
      | inl w ↦ inl w
      | inr w ↦ inr (ap suc w.0, w.1)
    ]

distinct_either : (conditions : List Condition) (new : Condition) (guard : Formula) (i j : ℕ) → AreDistinct conditions → HaveNone conditions new.guard
    → HasGuard conditions guard i ⊎ ((i ≡ length conditions) × (new.guard ≡ guard))
    → HasGuard conditions guard j ⊎ ((j ≡ length conditions) × (new.guard ≡ guard)) → i ≡ j
distinct_either conditions new guard i j distinct none (inl here) (inl there) = distinct guard i j here there
distinct_either conditions new guard i j distinct none (inl here) (inr (last, is)) = absurd (none_at conditions new.guard none i (subst (λ (g : Formula). HasGuard conditions g i) (sym is) here))
distinct_either conditions new guard i j distinct none (inr (last, is)) (inl there) = absurd (none_at conditions new.guard none j (subst (λ (g : Formula). HasGuard conditions g j) (sym is) there))
distinct_either conditions new guard i j distinct none (inr (last, is)) (inr (also, are)) = last ∙ sym also

distinct_push : (conditions : List Condition) (new : Condition) → AreDistinct conditions → HaveNone conditions new.guard → AreDistinct (conditions ++ new ∷ [])
distinct_push conditions new distinct none guard i j here there =
    distinct_either conditions new guard i j distinct none (at_push conditions new guard i here) (at_push conditions new guard j there)

-- ---- blocks

same_block : (scope : List Entry) (number : ℕ) (tree : BlockTree) (a b : Block) → IsBlockOf scope number tree a → IsBlockOf scope number tree b → a.condition ≡ b.condition → a ≡ b
same_block scope number tree a b p q condition = λ i. record {
  method = (p.method_number ∙ sym q.method_number) i;
  guard = (p.guard ∙ sym q.guard) i;
  body = (p.body ∙ sym q.body) i;
  result = (p.result ∙ sym q.result) i;
  condition = condition i;
}

both_longer : (a b : Block) (some others : List Block) (all them : List Condition) → a ≡ b → (some ≡ others) × (all ≡ them) → (a ∷ some ≡ b ∷ others) × (all ≡ them)
both_longer a b some others all them same more = (λ i. same i ∷ more.0 i, more.1)

-- The blocks determine the conditions, and where the guards so far are distinct, a guard determines
-- its number.
one_rest : (declared : List Decl) (before : List Condition) (row : List PlacedBlock) (some others : List Block) (all them : List Condition) → AreDistinct before
    → AreBlocksOf declared row some → AreBlocksOf declared row others → AreConditions before row some all → AreConditions before row others them
    → (some ≡ others) × (all ≡ them)
one_rest declared before [] [] [] all them distinct p q c d = (refl, c ∙ sym d)
one_rest declared before [] [] (b ∷ others) all them distinct p q c d = absurd q
one_rest declared before [] (a ∷ some) others all them distinct p q c d = absurd p
one_rest declared before (placed ∷ row) [] others all them distinct p q c d = absurd p
one_rest declared before (placed ∷ row) (a ∷ some) [] all them distinct p q c d = absurd q
one_rest declared before (placed ∷ row) (a ∷ some) (b ∷ others) all them distinct p q (inl (known, number_is, c, waits)) (inl (also_known, other_is, d, also_waits)) =
    let guards : b.guard ≡ a.guard = q.0.guard ∙ sym p.0.guard in
    let place = distinct a.guard (a.condition - 1) (b.condition - 1) known (subst (λ (g : Formula). HasGuard before g (b.condition - 1)) guards also_known) in
    let same = same_block (scope_of declared placed.method) placed.number placed.block a b p.0 q.0 (number_is ∙ ap (λ k. k + 1) place ∙ sym other_is) in
    both_longer a b some others all them same (one_rest declared before row some others all them distinct p.1 q.1 c d)
one_rest declared before (placed ∷ row) (a ∷ some) (b ∷ others) all them distinct p q (inl (known, number_is, c, waits)) (inr (inl (none, other_is, d, also_waits))) =
    let guards : a.guard ≡ b.guard = p.0.guard ∙ sym q.0.guard in
    absurd (none_at before b.guard none (a.condition - 1) (subst (λ (g : Formula). HasGuard before g (a.condition - 1)) guards known))
one_rest declared before (placed ∷ row) (a ∷ some) (b ∷ others) all them distinct p q (inl (known, number_is, c, waits)) (inr (inr (zero_is, asserts, d))) = absurd (true≢false (sym asserts ∙ waits))
one_rest declared before (placed ∷ row) (a ∷ some) (b ∷ others) all them distinct p q (inr (inl (none, number_is, c, waits))) (inl (known, other_is, d, also_waits)) =
    let guards : b.guard ≡ a.guard = q.0.guard ∙ sym p.0.guard in
    absurd (none_at before a.guard none (b.condition - 1) (subst (λ (g : Formula). HasGuard before g (b.condition - 1)) guards known))
one_rest declared before (placed ∷ row) (a ∷ some) (b ∷ others) all them distinct p q (inr (inl (none, number_is, c, waits))) (inr (inl (also_none, other_is, d, also_waits))) =
    let same = same_block (scope_of declared placed.method) placed.number placed.block a b p.0 q.0 (number_is ∙ sym other_is) in
    let longer = distinct_push before (condition_of a placed.block) distinct none in
    let rest = subst (λ (block : Block). AreConditions (before ++ condition_of block placed.block ∷ []) row others them) (sym same) d in
    both_longer a b some others all them same (one_rest declared (before ++ condition_of a placed.block ∷ []) row some others all them longer p.1 q.1 c rest)
one_rest declared before (placed ∷ row) (a ∷ some) (b ∷ others) all them distinct p q (inr (inl (none, number_is, c, waits))) (inr (inr (zero_is, asserts, d))) = absurd (true≢false (sym asserts ∙ waits))
one_rest declared before (placed ∷ row) (a ∷ some) (b ∷ others) all them distinct p q (inr (inr (zero_is, asserts, c))) (inl (known, other_is, d, waits)) = absurd (true≢false (sym asserts ∙ waits))
one_rest declared before (placed ∷ row) (a ∷ some) (b ∷ others) all them distinct p q (inr (inr (zero_is, asserts, c))) (inr (inl (none, other_is, d, waits))) = absurd (true≢false (sym asserts ∙ waits))
one_rest declared before (placed ∷ row) (a ∷ some) (b ∷ others) all them distinct p q (inr (inr (zero_is, asserts, c))) (inr (inr (also_zero, also_asserts, d))) =
    let same = same_block (scope_of declared placed.method) placed.number placed.block a b p.0 q.0 (zero_is ∙ sym also_zero) in
    both_longer a b some others all them same (one_rest declared before row some others all them distinct p.1 q.1 c d)

-- ---- monitors

same_parts : (a b : MonitorParts) → a.name ≡ b.name → a.fields ≡ b.fields → a.methods ≡ b.methods → (a.blocks ≡ b.blocks) × (a.conditions ≡ b.conditions) → a ≡ b
same_parts a b name fields methods rest = λ i. record { name = name i; fields = fields i; methods = methods i; blocks = rest.0 i; conditions = rest.1 i }

none_twice : AreDistinct []
none_twice guard i j here there = absurd here

one_of_tree : (tree : MonitorTree) (a b : MonitorParts) → IsTyped tree a → IsTyped tree b → a ≡ b
one_of_tree tree a b p q = same_parts a b (p.name ∙ sym q.name) (p.fields ∙ sym q.fields) (p.methods ∙ sym q.methods)
    (one_rest tree.decls [] (blocks_from 0 tree.methods) a.blocks b.blocks a.conditions b.conditions none_twice p.blocks q.blocks p.conditions q.conditions)

one_typed : (s t : MonitorTree) (a b : MonitorParts) → s ≡ t → IsTyped s a → IsTyped t b → a ≡ b
one_typed s t a b same p q = one_of_tree t a b (subst (λ (tree : MonitorTree). IsTyped tree a) same p) q

-- bytes have one tree at most
pub one_tree_of : OneSpelling → OneTree → (bytes : List ℕ) (s t : MonitorTree) (a b : MonitorParts) → IsAccepted bytes s a → IsAccepted bytes t b → s ≡ t
one_tree_of one_spelling one_tree bytes s t a b p q =
    let tokens = one_spelling bytes p.tokens q.tokens p.spelled q.spelled in
    let derived : Derives bytes q.tokens s = subst (λ (t : List Token). Derives bytes t s) tokens p.derived in
    one_tree bytes q.tokens s t derived q.derived

-- bytes stand for one monitor at most
pub one_monitor : OneSpelling → OneTree → (bytes : List ℕ) (s t : MonitorTree) (a b : MonitorParts) → IsAccepted bytes s a → IsAccepted bytes t b → a ≡ b
one_monitor one_spelling one_tree bytes s t a b p q =
    one_typed s t a b (one_tree_of one_spelling one_tree bytes s t a b p q) p.typed q.typed
