-- The readers of a monitor file's inputs, methods and blocks, and of the whole file.
use Rattle.std.proofs.Common.{◌≡◌, ℕ, ◌-◌, Bool, true, false, List, [], ◌∷◌, ◌++◌, length, drop, Ok, Err, refl, sym, ap, subst, ◌∙◌, inl, inr}
use Rattle.std.specs.Prelude.{◌⊎◌}
use Rattle.lang_base.specs.Limits.{LEVELS}
use Rattle.lang_tokens.specs.declared.token.TokenKind.TheVariants as kinds
use Rattle.lang_tokens.specs.declared.token.Token.{Token}
use Rattle.lang_tree.specs.declared.tree.Decl.{Decl}
use Rattle.lang_tree.specs.declared.tree.Decl.TheVariants as decls
use Rattle.lang_base.specs.declared.kind.Kind.{Kind}
use Rattle.lang_base.specs.declared.kind.Kind.TheVariants as inputs
use Rattle.lang_tree.specs.declared.tree.InputTree.{InputTree}
use Rattle.lang_tree.specs.declared.tree.Expr.{Expr}
use Rattle.lang_tree.specs.declared.tree.StmtTree.{StmtTree}
use Rattle.lang_tree.specs.declared.tree.BlockTree.{BlockTree}
use Rattle.lang_tree.specs.declared.tree.MethodTree.{MethodTree}
use Rattle.lang_tree.specs.declared.tree.MonitorTree.{MonitorTree}
use Rattle.lang_tree.specs.declared.tree.PlacedName.{PlacedName}
use Rattle.lang_tokens.specs.Words.{Word, ident, words}
use Rattle.lang_syntax.specs.Grammar.{Rule, ◌⌢◌, Each, OneOrMore, IsIdent, IsMarkAt, IsMark, kind_word, IsExpression, IsBlock, IsStatement, IsDeclaration, IsInput, AreInputs, IsLocal, IsGuarded, ASSERTS, IsAsserted, Single, AreBlocks, IsMethod, IsMonitorFile}
use Rattle.lang_syntax.specs.Fault.{IsFaultAt}
use Rattle.lang_cursor.specs.Reading.{first_offset, Read, ◌⊗◌, made_at, choice_at, pure_at, each_at, placed_at, mark_at, ident_at, spelled_at, listed_at, kind_of, begins, begins_listed, begins_spelled}
use Rattle.lang_syntax.specs.inner.Reading.{begins_declaration, condition_at, block_at, statement_at, variable_at, declarations_at, input_of, input_at, later_input_of, later_input_at, later_inputs_at, inputs_of, some_inputs_at, inputs_at, head_of, head_at, local_of, local_at, locals_at, guarded_of, guarded_at, later_blocks_at, blocks_of, blocks_at, asserted_at, waiting_of, asserting_of, method_blocks_at, method_of, method_at, methods_at, monitor_of, monitor_at, monitor_file}
use Rattle.lang_syntax.proofs.Readers.{Reads, Anything, Both, pair_reads, made_reads, pure_reads, choice_reads, each_reads, before, whole_found, whole_again, whole_fault}
use Rattle.lang_syntax.proofs.WordReads.{IsPlacedName, placed_reads, ident_reads, spelled_reads, begins_letters, kind_reads, begins_heads, listed_heads, spelled_heads}
use Rattle.lang_syntax.proofs.Openings.{Opens, At, mark_opens, placed_opens, ident_opens, then_opens, items_open, begins_none, begins_at, begun}
use Rattle.lang_syntax.proofs.Sequences.{five_right, five_left, three_right, three_left, within_second, Made, same_reads, mark_then, ident_then, then_mark, image_reads}
use Rattle.lang_syntax.proofs.DeclarationReads.{IsVariable, variable_reads, NoDeclaration, declarations_read}
use Rattle.lang_syntax.proofs.ExpressionReads.{IsParenthesized}
use Rattle.lang_syntax.proofs.StatementReads.{condition_reads, body_reads}
use Rattle.lang_syntax.proofs.FileFaults.{file_fault}

-- ---- inputs

pub input_reads : Reads IsInput input_at Anything
unfolding input_at
input_reads =
    made_reads (Both (λ (kind : Kind). IsMark (kind_word kind)) IsPlacedName) (listed_at kind_of ⊗ ident_at) Anything input_of IsInput
    (pair_reads (λ kind. IsMark (kind_word kind)) (listed_at kind_of) Anything IsPlacedName ident_at Anything kind_reads ident_reads (λ y taken rest is after. tt))
    (λ x ws p. p)
    (λ y ws p. ((y.kind, record { at = y.at; name = y.name }), refl, p))

abbrev pub IsLaterInput : Rule InputTree
IsLaterInput input = IsMark kinds.Comma ⌢ IsInput input

pub later_input_reads : Reads IsLaterInput later_input_at Anything
unfolding later_input_at
later_input_reads =
    made_reads (Both (λ (unit : Unit {0}). IsMark kinds.Comma) IsInput) (mark_at kinds.Comma ⊗ input_at) Anything later_input_of IsLaterInput
    (mark_then kinds.Comma IsInput input_at Anything input_reads)
    (λ x ws p. p)
    (λ y ws p. ((tt, y), refl, p))

pub later_input_begins : (x : InputTree) → Opens (IsLaterInput x) (λ ws. begins kinds.Comma ws ≡ true)
later_input_begins x = then_opens (IsMark kinds.Comma) (IsInput x) (λ ws. begins kinds.Comma ws ≡ true) (mark_opens kinds.Comma (λ ws. begins kinds.Comma ws ≡ true) (begins_at kinds.Comma))

abbrev NoComma : List Word → Type 0
NoComma ws = begins kinds.Comma ws ≡ false

abbrev NoInput : List Word → Type 0
NoInput ws = (begins_listed kind_of ws ≡ false) × NoComma ws

abbrev IsSome : Rule (List InputTree)
IsSome = Made inputs_of (Both IsInput (Each IsLaterInput))

some_inputs_read : Reads IsSome some_inputs_at NoComma
unfolding some_inputs_at later_inputs_at
some_inputs_read =
    image_reads (Both IsInput (Each IsLaterInput)) (input_at ⊗ each_at (begins kinds.Comma) later_input_at) NoComma inputs_of
    (pair_reads IsInput input_at Anything (Each IsLaterInput) (each_at (begins kinds.Comma) later_input_at) NoComma input_reads
    (before (Each IsLaterInput) (each_at (begins kinds.Comma) later_input_at) (λ ws. NoComma ws × Anything ws) NoComma (λ ws none. (none, tt))
    (each_reads (begins kinds.Comma) IsLaterInput later_input_at Anything (begins_heads kinds.Comma) (begins_none kinds.Comma) later_input_reads later_input_begins (λ ws h. tt)))
    (λ y taken rest is after. tt))

begins_input : (kind : Kind) → At (kind_word kind) (λ ws. begins_listed kind_of ws ≡ true)
unfolding begins_listed
begins_input inputs.Int at rest = refl
begins_input inputs.Bool at rest = refl

some_opens : (x : List InputTree) → Opens (IsSome x) (λ ws. begins_listed kind_of ws ≡ true)
some_opens x ws rest p =
    then_opens (IsInput p.0.0) (Each IsLaterInput p.0.1) (λ ws. begins_listed kind_of ws ≡ true)
    (then_opens (IsMark (kind_word p.0.0.kind)) (IsIdent p.0.0.name p.0.0.at) (λ ws. begins_listed kind_of ws ≡ true) (mark_opens (kind_word p.0.0.kind) (λ ws. begins_listed kind_of ws ≡ true) (begins_input p.0.0.kind)))
    ws rest p.2

inputs_read : Reads AreInputs inputs_at NoInput
unfolding inputs_at
inputs_read =
    same_reads (λ x ws. IsSome x ws ⊎ IsNothing x ws) AreInputs inputs_at NoInput
    (choice_reads (begins_listed kind_of) IsSome some_inputs_at NoComma IsNothing (pure_at []) Anything NoInput (listed_heads kind_of) some_inputs_read (pure_reads [])
    (λ x taken rest p after. (some_opens x taken rest p, after.1))
    (λ x taken rest p after. (ap (λ (f : List Word). begins_listed kind_of (f ++ rest)) p.1 ∙ after.0, tt)))
    to from
  where
    IsNothing : Rule (List InputTree)
    IsNothing x ws = (x ≡ []) × (ws ≡ [])

    to : (x : List InputTree) (ws : List Word) → IsSome x ws ⊎ IsNothing x ws → AreInputs x ws
    to x ws (inl p) = subst (λ (y : List InputTree). AreInputs y ws) (sym p.1) p.2
    to x ws (inr p) = subst (λ (y : List InputTree). AreInputs y ws) (sym p.0) p.1

    from : (x : List InputTree) (ws : List Word) → AreInputs x ws → IsSome x ws ⊎ IsNothing x ws
    from [] ws p = inr (refl, p)
    from (first ∷ rest) ws p = inl ((first, rest), refl, p)

-- ---- methods

right_no_input : At kinds.CloseParen NoInput
unfolding begins begins_listed
right_no_input at rest = (refl, refl)

abbrev IsHead : Rule (PlacedName × List InputTree)
IsHead head = IsMark kinds.KeyMethod ⌢ IsPlacedName head.0 ⌢ IsMark kinds.OpenParen ⌢ AreInputs head.1 ⌢ IsMark kinds.CloseParen

head_reads : Reads IsHead head_at Anything
unfolding head_at
head_reads =
    made_reads (Both (λ (unit : Unit {0}). IsMark kinds.KeyMethod) IsNamed) (mark_at kinds.KeyMethod ⊗ ident_at ⊗ mark_at kinds.OpenParen ⊗ inputs_at ⊗ mark_at kinds.CloseParen) Anything head_of IsHead
    (mark_then kinds.KeyMethod IsNamed (ident_at ⊗ mark_at kinds.OpenParen ⊗ inputs_at ⊗ mark_at kinds.CloseParen) Anything
    (ident_then IsOpened (mark_at kinds.OpenParen ⊗ inputs_at ⊗ mark_at kinds.CloseParen) Anything
    (mark_then kinds.OpenParen IsClosed (inputs_at ⊗ mark_at kinds.CloseParen) Anything (then_mark kinds.CloseParen AreInputs inputs_at NoInput inputs_read right_no_input))))
    (λ x ws p. p)
    (λ y ws p. ((tt, (y.0, (tt, (y.1, tt)))), refl, p))
  where
    IsClosed : Rule (List InputTree × Unit {0})
    IsClosed = Both AreInputs (λ (unit : Unit {0}). IsMark kinds.CloseParen)

    IsOpened : Rule (Unit {0} × (List InputTree × Unit {0}))
    IsOpened = Both (λ (unit : Unit {0}). IsMark kinds.OpenParen) IsClosed

    IsNamed : Rule (PlacedName × (Unit {0} × (List InputTree × Unit {0})))
    IsNamed = Both IsPlacedName IsOpened

abbrev NoLocal : List Word → Type 0
NoLocal ws = begins kinds.KeyLocal ws ≡ false

pub local_reads : Reads IsLocal local_at Anything
unfolding local_at
local_reads =
    made_reads (Both (λ (unit : Unit {0}). IsMark kinds.KeyLocal) IsVariable) (mark_at kinds.KeyLocal ⊗ variable_at) Anything local_of IsLocal
    (mark_then kinds.KeyLocal IsVariable variable_at Anything variable_reads)
    (λ x ws p. of_kind x.1 ws p.0 p.1 p.2 p.3 p.4)
    from
  where
    of_kind : (x : Decl) (ws front rest : List Word) → IsMark kinds.KeyLocal front → IsVariable x rest → ws ≡ front ++ rest → IsLocal x ws
    of_kind x ws front rest word (inl p) is = subst (λ (y : Decl). IsLocal y ws) (sym p.1) (front, rest, word, p.2, is)
    of_kind x ws front rest word (inr p) is = subst (λ (y : Decl). IsLocal y ws) (sym p.1) (front, rest, word, p.2, is)

    from : (y : Decl) (ws : List Word) → IsLocal y ws → (x : Unit {0} × Decl) × (y ≡ local_of x) × Both (λ (unit : Unit {0}). IsMark kinds.KeyLocal) IsVariable x ws
    from (decls.Const at name value) ws p = absurd p
    from (decls.Param at name value limit) ws p = absurd p
    from (decls.Copied at name source) ws p = absurd p
    from (decls.Int at name value) ws p = ((tt, decls.Int at name value), refl, (p.0, p.1, p.2, inl ((tt, (record { at = at; name = name }, (tt, (value, tt)))), refl, p.3), p.4))
    from (decls.Flag at name value) ws p = ((tt, decls.Flag at name value), refl, (p.0, p.1, p.2, inr ((tt, (record { at = at; name = name }, (tt, (value, tt)))), refl, p.3), p.4))

pub local_begins : (x : Decl) → Opens (IsLocal x) (λ ws. begins kinds.KeyLocal ws ≡ true)
local_begins (decls.Const at name value) ws rest p = absurd p
local_begins (decls.Param at name value limit) ws rest p = absurd p
local_begins (decls.Copied at name source) ws rest p = absurd p
local_begins (decls.Int at name value) ws rest p =
    then_opens (IsMark kinds.KeyLocal) (IsDeclaration (decls.Int at name value)) (λ ws. begins kinds.KeyLocal ws ≡ true) (mark_opens kinds.KeyLocal (λ ws. begins kinds.KeyLocal ws ≡ true) (begins_at kinds.KeyLocal)) ws rest p
local_begins (decls.Flag at name value) ws rest p =
    then_opens (IsMark kinds.KeyLocal) (IsDeclaration (decls.Flag at name value)) (λ ws. begins kinds.KeyLocal ws ≡ true) (mark_opens kinds.KeyLocal (λ ws. begins kinds.KeyLocal ws ≡ true) (begins_at kinds.KeyLocal)) ws rest p

locals_read : Reads (Each IsLocal) locals_at NoLocal
unfolding locals_at
locals_read = before (Each IsLocal) locals_at (λ ws. NoLocal ws × Anything ws) NoLocal (λ ws none. (none, tt))
    (each_reads (begins kinds.KeyLocal) IsLocal local_at Anything (begins_heads kinds.KeyLocal) (begins_none kinds.KeyLocal) local_reads local_begins (λ ws h. tt))

-- a block, over the rules of the word that opens it, of its guard and of its body
abbrev IsBlockOf : Rule ℕ → Rule Expr → Rule (List StmtTree) → Rule BlockTree
IsBlockOf IsOpening IsGuard IsBody block =
    IsOpening block.at ⌢ IsMark kinds.OpenParen ⌢ IsGuard block.guard ⌢ IsMark kinds.CloseParen ⌢ IsBody block.body

block_reads_of : (IsOpening : Rule ℕ) (opening : List Word → Read ℕ) (IsGuard : Rule Expr) (guard : List Word → Read Expr) (IsBody : Rule (List StmtTree)) (body : List Word → Read (List StmtTree))
    → Reads IsOpening opening Anything → Reads (IsParenthesized IsGuard) guard Anything → Reads IsBody body Anything
    → Reads (IsBlockOf IsOpening IsGuard IsBody) (made_at guarded_of (opening ⊗ guard ⊗ body)) Anything
block_reads_of IsOpening opening IsGuard guard IsBody body q r s =
    made_reads (Both IsOpening IsRest) (opening ⊗ guard ⊗ body) Anything guarded_of (IsBlockOf IsOpening IsGuard IsBody)
    (pair_reads IsOpening opening Anything IsRest (guard ⊗ body) Anything q (pair_reads (IsParenthesized IsGuard) guard Anything IsBody body Anything r s (λ y taken rest is after. tt)) (λ y taken rest is after. tt))
    (λ x ws p. flat x.0 x.1.0 x.1.1 ws p)
    (λ y ws p. ((y.at, (y.guard, y.body)), refl, grouped y.at y.guard y.body ws p))
  where
    IsRest : Rule (Expr × List StmtTree)
    IsRest = Both (IsParenthesized IsGuard) IsBody

    flat : (at : ℕ) (guard : Expr) (body : List StmtTree) (ws : List Word) → (IsOpening at ⌢ IsRest (guard, body)) ws
        → (IsOpening at ⌢ IsMark kinds.OpenParen ⌢ IsGuard guard ⌢ IsMark kinds.CloseParen ⌢ IsBody body) ws
    flat at guard body = within_second (IsOpening at) (IsParenthesized IsGuard guard ⌢ IsBody body) (IsMark kinds.OpenParen ⌢ IsGuard guard ⌢ IsMark kinds.CloseParen ⌢ IsBody body)
        (three_right (IsMark kinds.OpenParen) (IsGuard guard) (IsMark kinds.CloseParen) (IsBody body))

    grouped : (at : ℕ) (guard : Expr) (body : List StmtTree) (ws : List Word) → (IsOpening at ⌢ IsMark kinds.OpenParen ⌢ IsGuard guard ⌢ IsMark kinds.CloseParen ⌢ IsBody body) ws
        → (IsOpening at ⌢ IsRest (guard, body)) ws
    grouped at guard body = within_second (IsOpening at) (IsMark kinds.OpenParen ⌢ IsGuard guard ⌢ IsMark kinds.CloseParen ⌢ IsBody body) (IsParenthesized IsGuard guard ⌢ IsBody body)
        (three_left (IsMark kinds.OpenParen) (IsGuard guard) (IsMark kinds.CloseParen) (IsBody body))

abbrev IsWait : Rule ℕ
IsWait at = IsMarkAt kinds.KeyWaituntil at

abbrev IsAssertion : Rule ℕ
IsAssertion at = IsIdent ASSERTS at

pub guarded_reads : Reads IsGuarded guarded_at Anything
unfolding guarded_at
guarded_reads =
    block_reads_of IsWait (placed_at kinds.KeyWaituntil) (IsExpression LEVELS) (condition_at LEVELS) (IsBlock (IsStatement LEVELS)) (block_at (statement_at LEVELS))
    (placed_reads kinds.KeyWaituntil) (condition_reads LEVELS) (body_reads LEVELS)

asserted_reads : Reads IsAsserted asserted_at Anything
unfolding asserted_at
asserted_reads =
    block_reads_of IsAssertion (spelled_at ASSERTS) (IsExpression LEVELS) (condition_at LEVELS) (IsBlock (IsStatement LEVELS)) (block_at (statement_at LEVELS))
    (spelled_reads ASSERTS) (condition_reads LEVELS) (body_reads LEVELS)

block_opens_of : (IsOpening : Rule ℕ) (IsGuard : Rule Expr) (IsBody : Rule (List StmtTree)) (Fact : List Word → Type 0) → ((at : ℕ) → Opens (IsOpening at) Fact)
    → (x : BlockTree) → Opens (IsBlockOf IsOpening IsGuard IsBody x) Fact
block_opens_of IsOpening IsGuard IsBody Fact so x =
    then_opens (IsOpening x.at) (IsMark kinds.OpenParen ⌢ IsGuard x.guard ⌢ IsMark kinds.CloseParen ⌢ IsBody x.body) Fact (so x.at)

guarded_opens : (Fact : List Word → Type 0) → At kinds.KeyWaituntil Fact → (x : BlockTree) → Opens (IsGuarded x) Fact
guarded_opens Fact so x = block_opens_of IsWait (IsExpression LEVELS) (IsBlock (IsStatement LEVELS)) Fact (λ at. placed_opens kinds.KeyWaituntil at Fact so) x

pub guarded_begins : (x : BlockTree) → Opens (IsGuarded x) (λ ws. begins kinds.KeyWaituntil ws ≡ true)
guarded_begins x = guarded_opens (λ ws. begins kinds.KeyWaituntil ws ≡ true) (begins_at kinds.KeyWaituntil) x

asserted_opens : (Fact : List Word → Type 0) → ((at : ℕ) (rest : List Word) → Fact (ident ASSERTS at ∷ rest)) → (x : BlockTree) → Opens (IsAsserted x) Fact
asserted_opens Fact so x = block_opens_of IsAssertion (IsExpression LEVELS) (IsBlock (IsStatement LEVELS)) Fact (λ at. ident_opens ASSERTS at Fact (so at)) x

-- what follows a method: no block of it
abbrev pub NoBlock : List Word → Type 0
NoBlock ws = begins kinds.KeyWaituntil ws ≡ false

blocks_read_of : (IsItem : Rule BlockTree) (item : List Word → Read BlockTree) → Reads IsItem item Anything → ((x : BlockTree) → Opens (IsItem x) (λ ws. begins kinds.KeyWaituntil ws ≡ true))
    → Reads (OneOrMore IsItem) (made_at blocks_of (item ⊗ each_at (begins kinds.KeyWaituntil) item)) NoBlock
blocks_read_of IsItem item r begin =
    made_reads (Both IsItem (Each IsItem)) (item ⊗ later) NoBlock blocks_of (OneOrMore IsItem)
    (pair_reads IsItem item Anything (Each IsItem) later NoBlock r
    (before (Each IsItem) later (λ ws. NoBlock ws × Anything ws) NoBlock (λ ws none. (none, tt))
    (each_reads (begins kinds.KeyWaituntil) IsItem item Anything (begins_heads kinds.KeyWaituntil) (begins_none kinds.KeyWaituntil) r begin (λ ws h. tt)))
    (λ y taken rest is after. tt))
    (λ x ws p. p)
    from
  where
    later : List Word → Read (List BlockTree)
    later = each_at (begins kinds.KeyWaituntil) item

    from : (y : List BlockTree) (ws : List Word) → OneOrMore IsItem y ws → (x : BlockTree × List BlockTree) × (y ≡ blocks_of x) × Both IsItem (Each IsItem) x ws
    from [] ws p = absurd p
    from (first ∷ rest) ws p = ((first, rest), refl, p)

blocks_read : Reads (OneOrMore IsGuarded) blocks_at NoBlock
unfolding blocks_at later_blocks_at
blocks_read = blocks_read_of IsGuarded guarded_at guarded_reads guarded_begins

some_open : (IsItem : Rule BlockTree) (Fact : List Word → Type 0) → ((x : BlockTree) → Opens (IsItem x) Fact) → (x : List BlockTree) → Opens (OneOrMore IsItem x) Fact
some_open IsItem Fact so [] taken rest p = absurd p
some_open IsItem Fact so (first ∷ more) taken rest p = then_opens (IsItem first) (Each IsItem more) Fact (so first) taken rest p

single_opens : (IsItem : Rule BlockTree) (Fact : List Word → Type 0) → ((x : BlockTree) → Opens (IsItem x) Fact) → (x : List BlockTree) → Opens (Single IsItem x) Fact
single_opens IsItem Fact so [] taken rest p = absurd p
single_opens IsItem Fact so (one ∷ []) taken rest p = so one taken rest p
single_opens IsItem Fact so (one ∷ (next ∷ more)) taken rest p = absurd p

-- the blocks of a method, with whether they assert
abbrev IsWaiting : Rule BlockTree → Rule (Bool × List BlockTree)
IsWaiting IsItem = Made waiting_of (OneOrMore IsItem)

abbrev IsAsserting : Rule BlockTree → Rule (Bool × List BlockTree)
IsAsserting IsItem = Made asserting_of IsItem

abbrev AreEither : Rule BlockTree → Rule BlockTree → Bool → Rule (List BlockTree)
AreEither IsItem IsOther false = OneOrMore IsItem
AreEither IsItem IsOther true = Single IsOther

either_read : (letters : List ℕ) (IsItem : Rule BlockTree) (items : List Word → Read (List BlockTree)) (IsOther : Rule BlockTree) (other : List Word → Read BlockTree)
    → Reads (OneOrMore IsItem) items NoBlock → Reads IsOther other Anything
    → ((x : BlockTree) → Opens (IsItem x) (λ ws. begins_spelled letters ws ≡ false)) → ((x : BlockTree) → Opens (IsOther x) (λ ws. begins_spelled letters ws ≡ true))
    → Reads (λ pair. AreEither IsItem IsOther pair.0 pair.1) (choice_at (begins_spelled letters) (made_at asserting_of other) (made_at waiting_of items)) NoBlock
either_read letters IsItem items IsOther other r s waits asserts =
    same_reads (λ x ws. IsAsserting IsOther x ws ⊎ IsWaiting IsItem x ws) (λ pair. AreEither IsItem IsOther pair.0 pair.1) (choice_at (begins_spelled letters) (made_at asserting_of other) (made_at waiting_of items)) NoBlock
    (choice_reads (begins_spelled letters) (IsAsserting IsOther) (made_at asserting_of other) Anything (IsWaiting IsItem) (made_at waiting_of items) NoBlock NoBlock (spelled_heads letters)
    (image_reads IsOther other Anything asserting_of s) (image_reads (OneOrMore IsItem) items NoBlock waiting_of r)
    (λ x taken rest p after. (asserts p.0 taken rest p.2, tt))
    (λ x taken rest p after. (some_open IsItem (λ ws. begins_spelled letters ws ≡ false) waits p.0 taken rest p.2, after)))
    to (λ x ws p. from x.0 x.1 ws p)
  where
    to : (x : Bool × List BlockTree) (ws : List Word) → IsAsserting IsOther x ws ⊎ IsWaiting IsItem x ws → AreEither IsItem IsOther x.0 x.1 ws
    to x ws (inl p) = subst (λ (y : Bool × List BlockTree). AreEither IsItem IsOther y.0 y.1 ws) (sym p.1) p.2
    to x ws (inr p) = subst (λ (y : Bool × List BlockTree). AreEither IsItem IsOther y.0 y.1 ws) (sym p.1) p.2

    from : (asserts : Bool) (blocks : List BlockTree) (ws : List Word) → AreEither IsItem IsOther asserts blocks ws → IsAsserting IsOther (asserts, blocks) ws ⊎ IsWaiting IsItem (asserts, blocks) ws
    from false blocks ws p = inr (blocks, refl, p)
    from true [] ws p = absurd p
    from true (block ∷ []) ws p = inl (block, refl, p)
    from true (block ∷ (next ∷ more)) ws p = absurd p

wait_no_assertion : At kinds.KeyWaituntil (λ ws. begins_spelled ASSERTS ws ≡ false)
unfolding begins_spelled
wait_no_assertion at rest = refl

same_blocks : (pair : Bool × List BlockTree) (ws : List Word) → AreEither IsGuarded IsAsserted pair.0 pair.1 ws → AreBlocks pair.0 pair.1 ws
same_blocks (false, blocks) ws p = p
same_blocks (true, blocks) ws p = p

blocks_same : (pair : Bool × List BlockTree) (ws : List Word) → AreBlocks pair.0 pair.1 ws → AreEither IsGuarded IsAsserted pair.0 pair.1 ws
blocks_same (false, blocks) ws p = p
blocks_same (true, blocks) ws p = p

method_blocks_read : Reads (λ pair. AreBlocks pair.0 pair.1) method_blocks_at NoBlock
unfolding method_blocks_at
method_blocks_read =
    same_reads (λ pair. AreEither IsGuarded IsAsserted pair.0 pair.1) (λ pair. AreBlocks pair.0 pair.1) (choice_at (begins_spelled ASSERTS) (made_at asserting_of asserted_at) (made_at waiting_of blocks_at)) NoBlock
    (either_read ASSERTS IsGuarded blocks_at IsAsserted asserted_at blocks_read asserted_reads
    (guarded_opens (λ ws. begins_spelled ASSERTS ws ≡ false) wait_no_assertion) (asserted_opens (λ ws. begins_spelled ASSERTS ws ≡ true) (begins_letters ASSERTS)))
    same_blocks blocks_same

wait_no_local : At kinds.KeyWaituntil NoLocal
unfolding begins
wait_no_local at rest = refl

assertion_no_local : (at : ℕ) (rest : List Word) → NoLocal (ident ASSERTS at ∷ rest)
unfolding begins
assertion_no_local at rest = refl

blocks_no_local : (asserts : Bool) (x : List BlockTree) → Opens (AreBlocks asserts x) NoLocal
blocks_no_local false x = some_open IsGuarded NoLocal (guarded_opens NoLocal wait_no_local) x
blocks_no_local true x = single_opens IsAsserted NoLocal (asserted_opens NoLocal assertion_no_local) x

-- a method, over the rule of its blocks
abbrev IsMethodOf : (Bool → Rule (List BlockTree)) → Rule MethodTree
IsMethodOf AreItems method =
    IsMark kinds.KeyMethod ⌢ IsIdent method.name method.at ⌢ IsMark kinds.OpenParen ⌢ AreInputs method.inputs ⌢ IsMark kinds.CloseParen
    ⌢ Each IsLocal method.locals ⌢ AreItems method.asserts method.blocks

method_reads_of : (AreItems : Bool → Rule (List BlockTree)) (blocks : List Word → Read (Bool × List BlockTree)) → Reads (λ pair. AreItems pair.0 pair.1) blocks NoBlock
    → ((asserts : Bool) (x : List BlockTree) → Opens (AreItems asserts x) NoLocal)
    → Reads (IsMethodOf AreItems) (made_at method_of (head_at ⊗ locals_at ⊗ blocks)) NoBlock
method_reads_of AreItems blocks r no_local =
    made_reads (Both IsHead IsRest) (head_at ⊗ locals_at ⊗ blocks) NoBlock method_of (IsMethodOf AreItems)
    (pair_reads IsHead head_at Anything IsRest (locals_at ⊗ blocks) NoBlock head_reads
    (pair_reads (Each IsLocal) locals_at NoLocal ArePaired blocks NoBlock locals_read r (λ y taken rest p after. no_local y.0 y.1 taken rest p))
    (λ y taken rest is after. tt))
    to from
  where
    ArePaired : Rule (Bool × List BlockTree)
    ArePaired pair = AreItems pair.0 pair.1

    IsRest : Rule (List Decl × (Bool × List BlockTree))
    IsRest = Both (Each IsLocal) ArePaired

    to : (x : (PlacedName × List InputTree) × (List Decl × (Bool × List BlockTree))) (ws : List Word) → Both IsHead IsRest x ws → IsMethodOf AreItems (method_of x) ws
    to x ws p = five_right (IsMark kinds.KeyMethod) (IsPlacedName x.0.0) (IsMark kinds.OpenParen) (AreInputs x.0.1) (IsMark kinds.CloseParen) (Each IsLocal x.1.0 ⌢ AreItems x.1.1.0 x.1.1.1) ws p

    from : (y : MethodTree) (ws : List Word) → IsMethodOf AreItems y ws → (x : (PlacedName × List InputTree) × (List Decl × (Bool × List BlockTree))) × (y ≡ method_of x) × Both IsHead IsRest x ws
    from y ws p = (
      (((record { at = y.at; name = y.name }), y.inputs), (y.locals, (y.asserts, y.blocks))),
      refl,
      five_left (IsMark kinds.KeyMethod) (IsIdent y.name y.at) (IsMark kinds.OpenParen) (AreInputs y.inputs) (IsMark kinds.CloseParen) (Each IsLocal y.locals ⌢ AreItems y.asserts y.blocks) ws p,
    )

pub method_reads : Reads IsMethod method_at NoBlock
unfolding method_at
method_reads = method_reads_of AreBlocks method_blocks_at method_blocks_read blocks_no_local

method_opens_of : (AreItems : Bool → Rule (List BlockTree)) (Fact : List Word → Type 0) → At kinds.KeyMethod Fact → (x : MethodTree) → Opens (IsMethodOf AreItems x) Fact
method_opens_of AreItems Fact so x =
    then_opens (IsMark kinds.KeyMethod)
    (IsIdent x.name x.at ⌢ IsMark kinds.OpenParen ⌢ AreInputs x.inputs ⌢ IsMark kinds.CloseParen ⌢ Each IsLocal x.locals ⌢ AreItems x.asserts x.blocks)
    Fact (mark_opens kinds.KeyMethod Fact so)

method_opens : (Fact : List Word → Type 0) → At kinds.KeyMethod Fact → (x : MethodTree) → Opens (IsMethod x) Fact
method_opens Fact so x = method_opens_of AreBlocks Fact so x

pub method_begins : (x : MethodTree) → Opens (IsMethod x) (λ ws. begins kinds.KeyMethod ws ≡ true)
method_begins x = method_opens (λ ws. begins kinds.KeyMethod ws ≡ true) (begins_at kinds.KeyMethod) x

-- ---- the monitor

method_no_declaration : At kinds.KeyMethod NoDeclaration
unfolding begins_declaration begins begins_spelled
method_no_declaration at rest = refl

brace_no_declaration : At kinds.CloseBrace NoDeclaration
unfolding begins_declaration begins begins_spelled
brace_no_declaration at rest = refl

brace_no_method : At kinds.CloseBrace (λ ws. begins kinds.KeyMethod ws ≡ false)
unfolding begins
brace_no_method at rest = refl

method_no_block : At kinds.KeyMethod NoBlock
unfolding begins
method_no_block at rest = refl

brace_no_block : At kinds.CloseBrace NoBlock
unfolding begins
brace_no_block at rest = refl

-- a monitor, over the rule of its methods
abbrev IsFileOf : Rule MethodTree → Rule MonitorTree
IsFileOf IsItem tree ws =
    (at : ℕ) × (IsMark kinds.KeyMonitor ⌢ IsIdent tree.name at ⌢ IsMark kinds.OpenBrace
    ⌢ Each IsDeclaration tree.decls ⌢ Each IsItem tree.methods ⌢ IsMark kinds.CloseBrace) ws

file_reads_of : (IsItem : Rule MethodTree) (item : List Word → Read MethodTree) → Reads IsItem item NoBlock
    → ((x : MethodTree) → Opens (IsItem x) (λ ws. begins kinds.KeyMethod ws ≡ true)) → ((x : MethodTree) → Opens (IsItem x) NoDeclaration)
    → Reads (IsFileOf IsItem) (made_at monitor_of (mark_at kinds.KeyMonitor ⊗ ident_at ⊗ mark_at kinds.OpenBrace ⊗ declarations_at ⊗ each_at (begins kinds.KeyMethod) item ⊗ mark_at kinds.CloseBrace)) Anything
file_reads_of IsItem item r begin no_declaration =
    made_reads (Both (λ (unit : Unit {0}). IsMark kinds.KeyMonitor) IsNamed) (mark_at kinds.KeyMonitor ⊗ ident_at ⊗ mark_at kinds.OpenBrace ⊗ declarations_at ⊗ methods ⊗ mark_at kinds.CloseBrace) Anything monitor_of (IsFileOf IsItem)
    (mark_then kinds.KeyMonitor IsNamed (ident_at ⊗ mark_at kinds.OpenBrace ⊗ declarations_at ⊗ methods ⊗ mark_at kinds.CloseBrace) Anything
    (ident_then IsOpened (mark_at kinds.OpenBrace ⊗ declarations_at ⊗ methods ⊗ mark_at kinds.CloseBrace) Anything
    (mark_then kinds.OpenBrace IsInside (declarations_at ⊗ methods ⊗ mark_at kinds.CloseBrace) Anything
    (pair_reads (Each IsDeclaration) declarations_at NoDeclaration AreMethods (methods ⊗ mark_at kinds.CloseBrace) Anything declarations_read
    (then_mark kinds.CloseBrace (Each IsItem) methods (λ ws. (begins kinds.KeyMethod ws ≡ false) × NoBlock ws) methods_read (λ at rest. (brace_no_method at rest, brace_no_block at rest)))
    meets))))
    (λ x ws p. (x.1.0.at, p))
    (λ y ws p. ((tt, (record { at = p.0; name = y.name }, (tt, (y.decls, (y.methods, tt))))), refl, p.1))
  where
    methods : List Word → Read (List MethodTree)
    methods = each_at (begins kinds.KeyMethod) item

    methods_read : Reads (Each IsItem) methods (λ ws. (begins kinds.KeyMethod ws ≡ false) × NoBlock ws)
    methods_read = each_reads (begins kinds.KeyMethod) IsItem item NoBlock (begins_heads kinds.KeyMethod) (begins_none kinds.KeyMethod) r begin (begun kinds.KeyMethod NoBlock method_no_block)

    AreMethods : Rule (List MethodTree × Unit {0})
    AreMethods = Both (Each IsItem) (λ (unit : Unit {0}). IsMark kinds.CloseBrace)

    IsInside : Rule (List Decl × (List MethodTree × Unit {0}))
    IsInside = Both (Each IsDeclaration) AreMethods

    IsOpened : Rule (Unit {0} × (List Decl × (List MethodTree × Unit {0})))
    IsOpened = Both (λ (unit : Unit {0}). IsMark kinds.OpenBrace) IsInside

    IsNamed : Rule (PlacedName × (Unit {0} × (List Decl × (List MethodTree × Unit {0}))))
    IsNamed = Both IsPlacedName IsOpened

    meets : (y : List MethodTree × Unit {0}) (taken rest : List Word) → AreMethods y taken → Anything rest → NoDeclaration (taken ++ rest)
    meets y taken rest p after = items_open IsItem (IsMark kinds.CloseBrace) NoDeclaration no_declaration (mark_opens kinds.CloseBrace NoDeclaration brace_no_declaration) y.0 taken rest p

pub monitor_reads : Reads IsMonitorFile monitor_at Anything
unfolding monitor_at methods_at
monitor_reads = file_reads_of IsMethod method_at method_reads method_begins (method_opens NoDeclaration method_no_declaration)

-- ---- the file

pub monitor_file_found : (ws : List Word) (tree : MonitorTree) → monitor_file ws ≡ Ok tree → IsMonitorFile tree ws
unfolding monitor_file
monitor_file_found ws tree e = whole_found IsMonitorFile monitor_at Anything monitor_reads ws tree e

pub monitor_file_again : (ws : List Word) (tree : MonitorTree) → IsMonitorFile tree ws → monitor_file ws ≡ Ok tree
unfolding monitor_file
monitor_file_again ws tree is = whole_again IsMonitorFile monitor_at Anything monitor_reads tt ws tree is

pub monitor_file_fault : (bytes : List ℕ) (tokens : List Token) (left : ℕ) → monitor_file (words bytes tokens) ≡ Err left
    → IsFaultAt IsMonitorFile bytes tokens (first_offset bytes (drop (length tokens - left) tokens))
unfolding monitor_file
monitor_file_fault bytes tokens left e = file_fault IsMonitorFile bytes tokens left (whole_fault IsMonitorFile monitor_at Anything monitor_reads tt (words bytes tokens) left e)
