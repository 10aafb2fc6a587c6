-- A tree that is parsed from a short file has few declarations, inputs and locals, and each of its
-- methods has a block, and just one where it asserts.
use Rattle.std.proofs.Common.{◌≡◌, ℕ, ◌+◌, ◌≤◌, Bool, true, false, refl, List, [], ◌∷◌, length, All, sym, ap, subst, ◌∙◌, arith, length-append}
use Rattle.std.proofs.lemmas.Bool.{true≢false}
use Rattle.std.proofs.lemmas.List.{length-map}
use Rattle.std.proofs.lemmas.List.Elements.{All-nil, All-cons}
use Rattle.lang_tokens.specs.declared.token.TokenKind.{TokenKind}
use Rattle.lang_tokens.specs.declared.token.TokenKind.TheVariants as kinds
use Rattle.lang_tokens.specs.declared.token.Token.{Token}
use Rattle.lang_tokens.specs.Shapes.{Shape}
use Rattle.lang_tokens.specs.Shapes as shapes
use Rattle.lang_tree.specs.declared.tree.Decl.{Decl}
use Rattle.lang_tree.specs.declared.tree.Decl.TheVariants as decls
use Rattle.lang_tree.specs.declared.tree.InputTree.{InputTree}
use Rattle.lang_tree.specs.declared.tree.BlockTree.{BlockTree}
use Rattle.lang_tree.specs.declared.tree.MethodTree.{MethodTree}
use Rattle.lang_tree.specs.declared.tree.MonitorTree.{MonitorTree}
use Rattle.lang_tokens.specs.Words.{Word, word, words}
use Rattle.lang_tokens.specs.Spelling.{IsShape, Piece, AreCut, token, tokens_from, Spells}
use Rattle.lang_tokens.proofs.Signs.{sign_begins}
use Rattle.lang_syntax.specs.Grammar.{Rule, ◌⌢◌, Each, OneOrMore, Single, AreBlocks, IsIdent, IsMark, IsLiteral, IsDeclaration, IsLimit, IsLocal, IsSpelled, PARAM, IsGuarded, IsAsserted, IsInput, AreInputs, IsMethod, IsMonitorFile, IsParsed, truth_word, kind_word}
use Rattle.lang_rules.specs.Rules.{HasFewNames}
use Rattle.lang_types.specs.inner.Making.{HasBlocks}

-- ---- tokens and bytes

text_long : (shape : Shape) (text : List ℕ) (at : ℕ) → IsShape shape text → length (token shape text at) ≤ length text
text_long shapes.Blank text at is = omega arith
text_long shapes.Comment text at is = omega arith
text_long shapes.Word text at is = subst (λ (t : List ℕ). 1 ≤ length t) (sym is.4) (omega arith)
text_long shapes.Number text at is = subst (λ (t : List ℕ). 1 ≤ length t) (sym is.4) (omega arith)
text_long (shapes.Sign kind) text at is = let begins = sign_begins text kind is in omega (arith, ap length begins.is)

tokens_few : (bytes : List ℕ) (at : ℕ) (pieces : List Piece) (rest : List ℕ) → AreCut bytes pieces rest → length (tokens_from at pieces) ≤ length bytes
tokens_few bytes at [] rest cut = omega arith
tokens_few bytes at (piece ∷ pieces) rest cut =
    let here = text_long piece.shape piece.text at cut.1.spells in
    let later = tokens_few cut.0 (at + length piece.text) pieces rest cut.2 in
    let whole = ap (λ (b : List ℕ). length b) cut.1.front ∙ length-append piece.text cut.0 in
    let all = length-append (token piece.shape piece.text at) (tokens_from (at + length piece.text) pieces) in
    omega arith

words_few : (bytes : List ℕ) (tokens : List Token) → Spells bytes tokens → length (words bytes tokens) ≤ length bytes
words_few bytes tokens spelled =
    let few = tokens_few bytes 0 spelled.0 [] spelled.1 in
    let same = ap (λ (t : List Token). length t) spelled.2 in
    let each = length-map tokens (word bytes) in
    omega arith

-- ---- words

-- the rule takes so many words at least
record Takes (Says : List Word → Type 0) (count : ℕ) : Type 0 where
  takes : (ws : List Word) → Says ws → count ≤ length ws

takes_mark : (kind : TokenKind) → Takes (IsMark kind) 1
takes_mark kind = record { takes = λ ws is. subst (λ (w : List Word). 1 ≤ length w) (sym is.1) (omega arith) }

takes_spelled : (letters : List ℕ) → Takes (IsSpelled letters) 1
takes_spelled letters = record { takes = λ ws is. subst (λ (w : List Word). 1 ≤ length w) (sym is.1) (omega arith) }

in_order : (First Second : List Word → Type 0) (count more : ℕ) → Takes First count → Takes Second more → Takes (First ⌢ Second) (count + more)
in_order First Second count more one other = record {
  takes = λ ws is.
      let here = one.takes is.0 is.2 in
      let later = other.takes is.1 is.3 in
      let whole = ap (λ (w : List Word). length w) is.4 ∙ length-append is.0 is.1 in
      omega arith;
}

in_first : (First Second : List Word → Type 0) (count : ℕ) → Takes First count → Takes (First ⌢ Second) count
in_first First Second count one = record {
  takes = λ ws is.
      let here = one.takes is.0 is.2 in
      let whole = ap (λ (w : List Word). length w) is.4 ∙ length-append is.0 is.1 in
      omega arith;
}

in_second : (First Second : List Word → Type 0) (count : ℕ) → Takes Second count → Takes (First ⌢ Second) count
in_second First Second count other = record {
  takes = λ ws is.
      let later = other.takes is.1 is.3 in
      let whole = ap (λ (w : List Word). length w) is.4 ∙ length-append is.0 is.1 in
      omega arith;
}

takes_each : {Tree : Type 0} (IsTree : Rule Tree) → ((tree : Tree) → Takes (IsTree tree) 1) → (trees : List Tree) → Takes (Each IsTree trees) (length trees)
takes_each IsTree one [] = record { takes = λ ws is. omega arith }
takes_each IsTree one (tree ∷ trees) = record {
  takes = λ ws is.
      let both = (in_order (IsTree tree) (Each IsTree trees) 1 (length trees) (one tree) (takes_each IsTree one trees)).takes ws is in
      omega arith;
}

takes_declaration : (declared : Decl) → Takes (IsDeclaration declared) 1
takes_declaration (decls.Const at name value) = in_first (IsMark kinds.KeyConst) (IsIdent name at ⌢ IsMark kinds.Assign ⌢ IsLiteral value ⌢ IsMark kinds.Semicolon) 1 (takes_mark kinds.KeyConst)
takes_declaration (decls.Param at name value limit) = in_first (IsSpelled PARAM) (IsIdent name at ⌢ IsMark kinds.Assign ⌢ IsLiteral value ⌢ IsLimit limit ⌢ IsMark kinds.Semicolon) 1 (takes_spelled PARAM)
takes_declaration (decls.Int at name value) = in_first (IsMark kinds.KeyInt) (IsIdent name at ⌢ IsMark kinds.Assign ⌢ IsLiteral value ⌢ IsMark kinds.Semicolon) 1 (takes_mark kinds.KeyInt)
takes_declaration (decls.Copied at name source) = in_first (IsMark kinds.KeyInt) (IsIdent name at ⌢ IsMark kinds.Assign ⌢ IsIdent source.name source.at ⌢ IsMark kinds.Semicolon) 1 (takes_mark kinds.KeyInt)
takes_declaration (decls.Flag at name value) = in_first (IsMark kinds.KeyBool) (IsIdent name at ⌢ IsMark kinds.Assign ⌢ IsMark (truth_word value) ⌢ IsMark kinds.Semicolon) 1 (takes_mark kinds.KeyBool)

takes_input : (input : InputTree) → Takes (IsInput input) 1
takes_input input = in_first (IsMark (kind_word input.kind)) (IsIdent input.name input.at) 1 (takes_mark (kind_word input.kind))

takes_inputs : (inputs : List InputTree) → Takes (AreInputs inputs) (length inputs)
takes_inputs [] = record { takes = λ ws is. omega arith }
takes_inputs (first ∷ rest) = record {
  takes = λ ws is.
      let both = (in_order (IsInput first) (Each (λ input. IsMark kinds.Comma ⌢ IsInput input) rest) 1 (length rest) (takes_input first) later).takes ws is in
      omega arith;
}
  where
    later : Takes (Each (λ input. IsMark kinds.Comma ⌢ IsInput input) rest) (length rest)
    later = takes_each (λ input. IsMark kinds.Comma ⌢ IsInput input) (λ input. in_first (IsMark kinds.Comma) (IsInput input) 1 (takes_mark kinds.Comma)) rest

takes_local : (local : Decl) → Takes (IsLocal local) 1
takes_local (decls.Const at name value) = record { takes = λ ws is. absurd is }
takes_local (decls.Param at name value limit) = record { takes = λ ws is. absurd is }
takes_local (decls.Int at name value) = in_first (IsMark kinds.KeyLocal) (IsDeclaration (decls.Int at name value)) 1 (takes_mark kinds.KeyLocal)
takes_local (decls.Copied at name source) = record { takes = λ ws is. absurd is }
takes_local (decls.Flag at name value) = in_first (IsMark kinds.KeyLocal) (IsDeclaration (decls.Flag at name value)) 1 (takes_mark kinds.KeyLocal)

-- ---- methods

-- what comes after a method's inputs
abbrev AfterInputs : MethodTree → List Word → Type 0
AfterInputs method = IsMark kinds.CloseParen ⌢ Each IsLocal method.locals ⌢ AreBlocks method.asserts method.blocks

-- what takes so many words after the name of a method makes the method take as many
method_takes : (method : MethodTree) (count : ℕ) → Takes (AreInputs method.inputs ⌢ AfterInputs method) count → Takes (IsMethod method) count
method_takes method count takes =
    in_second (IsMark kinds.KeyMethod) (IsIdent method.name method.at ⌢ IsMark kinds.OpenParen ⌢ AreInputs method.inputs ⌢ AfterInputs method) count
    (in_second (IsIdent method.name method.at) (IsMark kinds.OpenParen ⌢ AreInputs method.inputs ⌢ AfterInputs method) count
    (in_second (IsMark kinds.OpenParen) (AreInputs method.inputs ⌢ AfterInputs method) count takes))

takes_as_many_inputs : (method : MethodTree) → Takes (IsMethod method) (length method.inputs)
takes_as_many_inputs method = method_takes method (length method.inputs) (in_first (AreInputs method.inputs) (AfterInputs method) (length method.inputs) (takes_inputs method.inputs))

takes_as_many_locals : (method : MethodTree) → Takes (IsMethod method) (length method.locals)
takes_as_many_locals method =
    method_takes method (length method.locals) (in_second (AreInputs method.inputs) (AfterInputs method) (length method.locals)
    (in_second (IsMark kinds.CloseParen) (Each IsLocal method.locals ⌢ AreBlocks method.asserts method.blocks) (length method.locals)
    (in_first (Each IsLocal method.locals) (AreBlocks method.asserts method.blocks) (length method.locals) (takes_each IsLocal takes_local method.locals))))

methods_take : (count : MethodTree → ℕ) → ((method : MethodTree) → Takes (IsMethod method) (count method)) → (limit : ℕ) (methods : List MethodTree) (ws : List Word) → Each IsMethod methods ws → length ws ≤ limit
    → All (λ method. count method ≤ limit) methods
methods_take count takes limit [] ws each short = All-nil (λ method. count method ≤ limit)
methods_take count takes limit (method ∷ methods) ws each short =
    let whole = ap (λ (w : List Word). length w) each.4 ∙ length-append each.0 each.1 in
    let here = (takes method).takes each.0 each.2 in
    All-cons (λ one. count one ≤ limit) method methods (omega arith) (methods_take count takes limit methods each.1 each.3 (omega arith))

-- ---- blocks

one_at_least : {Tree : Type 0} (IsTree : Rule Tree) (trees : List Tree) (ws : List Word) → OneOrMore IsTree trees ws → 1 ≤ length trees
one_at_least IsTree [] ws is = absurd is
one_at_least IsTree (tree ∷ trees) ws is = omega arith

single_is_one : {Tree : Type 0} (IsTree : Rule Tree) (trees : List Tree) (ws : List Word) → Single IsTree trees ws → length trees ≡ 1
single_is_one IsTree [] ws is = absurd is
single_is_one IsTree (tree ∷ []) ws is = refl
single_is_one IsTree (tree ∷ (next ∷ more)) ws is = absurd is

some_blocks : (asserts : Bool) (blocks : List BlockTree) (ws : List Word) → AreBlocks asserts blocks ws → 1 ≤ length blocks
some_blocks false blocks ws is = one_at_least IsGuarded blocks ws is
some_blocks true blocks ws is = let one = single_is_one IsAsserted blocks ws is in omega arith

one_asserts : (asserts : Bool) (blocks : List BlockTree) (ws : List Word) → AreBlocks asserts blocks ws → asserts ≡ true → length blocks ≡ 1
one_asserts false blocks ws is asserts = absurd (true≢false (sym asserts))
one_asserts true blocks ws is asserts = single_is_one IsAsserted blocks ws is

method_has : (method : MethodTree) (ws : List Word) → IsMethod method ws → HasBlocks method
method_has method ws is =
    let named = is.3 in
    let opened = named.3 in
    let taken = opened.3 in
    let closed = taken.3 in
    let locals = closed.3 in
    record { some = some_blocks method.asserts method.blocks locals.1 locals.3; alone = one_asserts method.asserts method.blocks locals.1 locals.3 }

methods_have : (methods : List MethodTree) (ws : List Word) → Each IsMethod methods ws → All HasBlocks methods
methods_have [] ws each = All-nil HasBlocks
methods_have (method ∷ methods) ws each = All-cons HasBlocks method methods (method_has method each.0 each.2) (methods_have methods each.1 each.3)

-- ---- files

-- the parts of a file of so many words at most
record IsSmall (tree : MonitorTree) (limit : ℕ) : Type 0 where
  declared : length tree.decls ≤ limit
  taken : All (λ method. length method.inputs ≤ limit) tree.methods
  locals : All (λ method. length method.locals ≤ limit) tree.methods
  blocks : All HasBlocks tree.methods

file_small : (tree : MonitorTree) (ws : List Word) (limit : ℕ) → IsMonitorFile tree ws → length ws ≤ limit → IsSmall tree limit
file_small tree ws limit file short =
    let opened = file.1 in
    let named = opened.3 in
    let braced = named.3 in
    let declared = braced.3 in
    let methods = declared.3 in
    let one = ap (λ (w : List Word). length w) opened.4 ∙ length-append opened.0 opened.1 in
    let two = ap (λ (w : List Word). length w) named.4 ∙ length-append named.0 named.1 in
    let three = ap (λ (w : List Word). length w) braced.4 ∙ length-append braced.0 braced.1 in
    let four = ap (λ (w : List Word). length w) declared.4 ∙ length-append declared.0 declared.1 in
    let five = ap (λ (w : List Word). length w) methods.4 ∙ length-append methods.0 methods.1 in
    let few = (takes_each IsDeclaration takes_declaration tree.decls).takes declared.0 declared.2 in
    let short_rest : length methods.0 ≤ limit = omega arith in
    record {
      declared = omega arith;
      taken = methods_take (λ method. length method.inputs) takes_as_many_inputs limit tree.methods methods.0 methods.2 short_rest;
      locals = methods_take (λ method. length method.locals) takes_as_many_locals limit tree.methods methods.0 methods.2 short_rest;
      blocks = methods_have tree.methods methods.0 methods.2;
    }

parsed_small : (tree : MonitorTree) → IsParsed tree → IsSmall tree 65536
parsed_small tree parsed =
    let few = words_few parsed.bytes parsed.tokens parsed.spelled in
    let short = parsed.short in
    file_small tree (words parsed.bytes parsed.tokens) 65536 parsed.derived (omega arith)

pub parsed_is_small : (tree : MonitorTree) → IsParsed tree → HasFewNames tree
parsed_is_small tree parsed =
    let small = parsed_small tree parsed in
    record { declared = small.declared; taken = small.taken; locals = small.locals }

-- each method of a parsed tree has a block, and just one where it asserts
pub parsed_has_blocks : (tree : MonitorTree) → IsParsed tree → All HasBlocks tree.methods
parsed_has_blocks tree parsed = (parsed_small tree parsed).blocks
