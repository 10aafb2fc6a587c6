-- The grammar of monitor files: which words are a tree's, one definition for each production.
use Rattle.std.specs.Prelude.{◌≡◌, ℕ, zero, suc, ◌≤◌, ◌⊎◌, Bool, true, false, List, [], ◌∷◌, ◌++◌}
use Rattle.std.specs.Prelude.{length, codes, Option, Some, None}
use Rattle.lang_base.specs.Limits.{FILE_BYTES, LEVELS}
use Rattle.lang_tokens.specs.declared.token.TokenKind.{TokenKind}
use Rattle.lang_tokens.specs.declared.token.TokenKind.TheVariants as kinds
use Rattle.lang_tokens.specs.declared.token.Token.{Token}
use Rattle.lang_tree.specs.declared.tree.Lit.{Lit}
use Rattle.lang_tree.specs.declared.tree.LimitSign.{LimitSign}
use Rattle.lang_tree.specs.declared.tree.LimitSign.TheVariants as signs
use Rattle.lang_tree.specs.declared.tree.LimitTree.{LimitTree}
use Rattle.lang_tree.specs.declared.tree.Decl.{Decl}
use Rattle.lang_tree.specs.declared.tree.Decl.TheVariants as decls
use Rattle.lang_base.specs.declared.kind.Kind.{Kind}
use Rattle.lang_base.specs.declared.kind.Kind.TheVariants as inputs
use Rattle.lang_tree.specs.declared.tree.InputTree.{InputTree}
use Rattle.lang_tree.specs.declared.tree.Op.{Op}
use Rattle.lang_tree.specs.declared.tree.Op.TheVariants as ops
use Rattle.lang_tree.specs.declared.tree.Expr.{Expr}
use Rattle.lang_tree.specs.declared.tree.Expr.TheVariants as exprs
use Rattle.lang_tree.specs.declared.tree.Addend.{Addend, out-Addend}
use Rattle.lang_tree.specs.declared.tree.Factor.{Factor, out-Factor}
use Rattle.lang_tree.specs.declared.tree.StmtTree.{StmtTree}
use Rattle.lang_tree.specs.declared.tree.StmtTree.TheVariants as statements
use Rattle.lang_tree.specs.declared.tree.BlockTree.{BlockTree}
use Rattle.lang_tree.specs.declared.tree.MethodTree.{MethodTree}
use Rattle.lang_tree.specs.declared.tree.MonitorTree.{MonitorTree}
use Rattle.lang_tokens.specs.Spelling.{Spells}
use Rattle.lang_tokens.specs.Words.{Word, ident, numeral, mark, words}

-- A rule says which words are a tree's.
abbrev pub Rule : Type 0 → Type 1
Rule Tree = Tree → List Word → Type 0

-- ---- how rules are put together

-- the one rule's words, and then the other's
infixr 20 ◌⌢◌
abbrev pub ◌⌢◌ : (List Word → Type 0) → (List Word → Type 0) → List Word → Type 0
(First ⌢ Second) ws =
    (front : List Word) × (rest : List Word) × First front × Second rest × (ws ≡ front ++ rest)

-- x*: the words of one tree after the other
abbrev pub Each : {Tree : Type 0} → Rule Tree → Rule (List Tree)
Each IsTree [] ws = ws ≡ []
Each IsTree (tree ∷ trees) ws = (IsTree tree ⌢ Each IsTree trees) ws

-- x x*: one tree at least
abbrev pub OneOrMore : {Tree : Type 0} → Rule Tree → Rule (List Tree)
OneOrMore IsTree [] ws = ⊥
OneOrMore IsTree (tree ∷ trees) ws = (IsTree tree ⌢ Each IsTree trees) ws

-- [x]
abbrev pub Maybe : {Tree : Type 0} → Rule Tree → Rule (Option Tree)
Maybe IsTree None ws = ws ≡ []
Maybe IsTree (Some tree) ws = IsTree tree ws

-- ---- single words

abbrev pub IsIdent : List ℕ → ℕ → List Word → Type 0
IsIdent name at ws = ws ≡ ident name at ∷ []

-- an ID of these letters, wherever it stands
abbrev pub IsSpelled : List ℕ → List Word → Type 0
IsSpelled letters ws = (at : ℕ) × IsIdent letters at ws

abbrev pub IsNumeral : ℕ → ℕ → List Word → Type 0
IsNumeral value at ws = ws ≡ numeral value at ∷ []

-- a keyword or a sign, at an offset that the tree keeps
abbrev pub IsMarkAt : TokenKind → ℕ → List Word → Type 0
IsMarkAt kind at ws = ws ≡ mark kind at ∷ []

-- a keyword or a sign, wherever it stands
abbrev pub IsMark : TokenKind → List Word → Type 0
IsMark kind ws = (at : ℕ) × IsMarkAt kind at ws

-- "{" x* "}"
abbrev pub IsBlock : {Tree : Type 0} → Rule Tree → Rule (List Tree)
IsBlock Inner body = IsMark kinds.OpenBrace ⌢ Each Inner body ⌢ IsMark kinds.CloseBrace

abbrev pub truth_word : Bool → TokenKind
truth_word true = kinds.KeyTrue
truth_word false = kinds.KeyFalse

abbrev pub op_sign : Op → TokenKind
op_sign ops.Equal = kinds.Equal
op_sign ops.Differs = kinds.Differs
op_sign ops.Less = kinds.Less
op_sign ops.AtMost = kinds.AtMost
op_sign ops.More = kinds.More
op_sign ops.AtLeast = kinds.AtLeast

abbrev pub limit_sign : LimitSign → TokenKind
limit_sign signs.Equal = kinds.Equal
limit_sign signs.Less = kinds.Less
limit_sign signs.AtMost = kinds.AtMost
limit_sign signs.More = kinds.More
limit_sign signs.AtLeast = kinds.AtLeast

abbrev pub sum_sign : Bool → TokenKind
sum_sign true = kinds.Minus
sum_sign false = kinds.Plus

-- ---- expressions: each level over the rule of a unary expression

-- A chain of one part is that part.
abbrev pub chain : {Part : Type 0} → (Expr → List Part → Expr) → Expr → List Part → Expr
chain node first [] = first
chain node first (next ∷ more) = node first (next ∷ more)

abbrev pub IsChain : {Part : Type 0} → (Expr → List Part → Expr) → Rule Expr → Rule Part → Rule Expr
IsChain {Part} node IsFirst IsPart expression ws =
    (first : Expr) × (rest : List Part) × (expression ≡ chain node first rest)
    × (IsFirst first ⌢ Each IsPart rest) ws

-- product = unary ("*" unary)*
abbrev pub IsFactor : Rule Expr → Rule Factor
IsFactor Unary factor = IsMarkAt kinds.Star (out-Factor factor).at ⌢ Unary (out-Factor factor).of

abbrev pub IsProduct : Rule Expr → Rule Expr
IsProduct Unary = IsChain exprs.Product Unary (IsFactor Unary)

-- sum = product (("+" | "-") product)*
abbrev pub IsAddend : Rule Expr → Rule Addend
IsAddend Unary addend =
    IsMark (sum_sign (out-Addend addend).minus) ⌢ IsProduct Unary (out-Addend addend).of

abbrev pub IsSum : Rule Expr → Rule Expr
IsSum Unary = IsChain exprs.Sum (IsProduct Unary) (IsAddend Unary)

-- comparison = sum [("==" | "!=" | "<" | "<=" | ">" | ">=") sum]
abbrev pub comparison : Expr → Option (Op × Expr) → Expr
comparison left None = left
comparison left (Some (op, right)) = exprs.Compare op left right

abbrev pub IsCompared : Rule Expr → Rule (Op × Expr)
IsCompared Unary (op, right) = IsMark (op_sign op) ⌢ IsSum Unary right

abbrev pub IsComparison : Rule Expr → Rule Expr
IsComparison Unary expression ws =
    (left : Expr) × (rest : Option (Op × Expr)) × (expression ≡ comparison left rest)
    × (IsSum Unary left ⌢ Maybe (IsCompared Unary) rest) ws

-- conjunction = comparison ("&&" comparison)*
abbrev pub both : Expr → List Expr → Expr
both first rest = exprs.Both (first ∷ rest)

abbrev pub IsConjunction : Rule Expr → Rule Expr
IsConjunction Unary =
    IsChain both (IsComparison Unary) (λ part. IsMark kinds.And ⌢ IsComparison Unary part)

-- expression = conjunction ("||" conjunction)*
abbrev pub either : Expr → List Expr → Expr
either first rest = exprs.Either (first ∷ rest)

abbrev pub IsDisjunction : Rule Expr → Rule Expr
IsDisjunction Unary =
    IsChain either (IsConjunction Unary) (λ part. IsMark kinds.Or ⌢ IsConjunction Unary part)

-- atom = NUM | "true" | "false" | ID
abbrev pub IsAtom : Rule Expr
IsAtom expression ws =
    ((value : ℕ) × (at : ℕ) × (expression ≡ exprs.Number at value) × IsNumeral value at ws)
    ⊎ ((value : Bool) × (at : ℕ) × (expression ≡ exprs.Truth at value)
    × IsMarkAt (truth_word value) at ws)
    ⊎ ((name : List ℕ) × (at : ℕ) × (expression ≡ exprs.Named at name) × IsIdent name at ws)

-- What opens a level for what it contains: "-" unary | "!" unary | "(" expression ")". Parentheses
-- give no node.
abbrev pub IsOpened : Rule Expr → Rule Expr
IsOpened Unary expression ws =
    ((at : ℕ) × (of : Expr) × (expression ≡ exprs.Minus at of)
    × (IsMarkAt kinds.Minus at ⌢ Unary of) ws)
    ⊎ ((at : ℕ) × (of : Expr) × (expression ≡ exprs.Not at of)
    × (IsMarkAt kinds.Not at ⌢ Unary of) ws)
    ⊎ (IsMark kinds.OpenParen ⌢ IsDisjunction Unary expression ⌢ IsMark kinds.CloseParen) ws

-- a unary expression or an atom, where so many levels may still be opened
abbrev pub IsUnary : ℕ → Rule Expr
IsUnary zero expression ws = IsAtom expression ws
IsUnary (suc levels) expression ws = IsAtom expression ws ⊎ IsOpened (IsUnary levels) expression ws

abbrev pub IsExpression : ℕ → Rule Expr
IsExpression levels = IsDisjunction (IsUnary levels)

-- ---- statements

-- ["else" block]: an absent block and an empty one give the same tree
abbrev pub IsElse : Rule StmtTree → Rule (List StmtTree)
IsElse Inner body ws = ((body ≡ []) × (ws ≡ [])) ⊎ (IsMark kinds.KeyElse ⌢ IsBlock Inner body) ws

-- ID "=" expression ";" | "return" expression ";"
abbrev pub IsSimple : ℕ → Rule StmtTree
IsSimple levels statement ws =
    ((at : ℕ) × (name : List ℕ) × (value : Expr) × (statement ≡ statements.Set at name value)
    × (IsIdent name at ⌢ IsMark kinds.Assign ⌢ IsExpression levels value
    ⌢ IsMark kinds.Semicolon) ws)
    ⊎ ((at : ℕ) × (value : Expr) × (statement ≡ statements.Return at value)
    × (IsMarkAt kinds.KeyReturn at ⌢ IsExpression levels value ⌢ IsMark kinds.Semicolon) ws)

-- "if" "(" expression ")" block ["else" block]
abbrev pub IsIf : ℕ → Rule StmtTree → Rule StmtTree
IsIf levels Inner statement ws =
    (at : ℕ) × (when : Expr) × (body : List StmtTree) × (other : List StmtTree)
    × (statement ≡ statements.If at when body other)
    × (IsMarkAt kinds.KeyIf at ⌢ IsMark kinds.OpenParen ⌢ IsExpression levels when
    ⌢ IsMark kinds.CloseParen ⌢ IsBlock Inner body ⌢ IsElse Inner other) ws

-- a statement, where so many levels may still be opened; each block opens one
abbrev pub IsStatement : ℕ → Rule StmtTree
IsStatement zero statement ws = IsSimple zero statement ws
IsStatement (suc levels) statement ws =
    IsSimple (suc levels) statement ws ⊎ IsIf (suc levels) (IsStatement levels) statement ws

-- ---- files

-- literal = ["-"] NUM
abbrev pub after_minus : Bool → (List Word → Type 0) → List Word → Type 0
after_minus true Rest = IsMark kinds.Minus ⌢ Rest
after_minus false Rest = Rest

abbrev pub IsLiteral : Rule Lit
IsLiteral literal = after_minus literal.minus (IsNumeral literal.digits literal.at)

-- limit = "where" "(" ID ("==" | "<" | "<=" | ">" | ">=") literal ")", where "where" is the ID of
-- these letters
abbrev pub WHERE : List ℕ
WHERE = codes "where"

abbrev pub IsLimit : Rule LimitTree
IsLimit limit =
    IsSpelled WHERE ⌢ IsMark kinds.OpenParen ⌢ IsIdent limit.subject.name limit.subject.at
    ⌢ IsMark (limit_sign limit.sign) ⌢ IsLiteral limit.bound ⌢ IsMark kinds.CloseParen

-- declaration = "const" ID "=" literal ";"
--     | "param" ID "=" literal limit ";", where "param" is the ID of these letters
--     | "int" ID "=" literal ";"
--     | "int" ID "=" ID ";"
--     | "bool" ID "=" ("true" | "false") ";"
abbrev pub PARAM : List ℕ
PARAM = codes "param"

abbrev pub IsDeclaration : Rule Decl
IsDeclaration (decls.Const at name value) =
    IsMark kinds.KeyConst ⌢ IsIdent name at ⌢ IsMark kinds.Assign ⌢ IsLiteral value
    ⌢ IsMark kinds.Semicolon
IsDeclaration (decls.Param at name value limit) =
    IsSpelled PARAM ⌢ IsIdent name at ⌢ IsMark kinds.Assign ⌢ IsLiteral value ⌢ IsLimit limit
    ⌢ IsMark kinds.Semicolon
IsDeclaration (decls.Int at name value) =
    IsMark kinds.KeyInt ⌢ IsIdent name at ⌢ IsMark kinds.Assign ⌢ IsLiteral value
    ⌢ IsMark kinds.Semicolon
IsDeclaration (decls.Copied at name source) =
    IsMark kinds.KeyInt ⌢ IsIdent name at ⌢ IsMark kinds.Assign
    ⌢ IsIdent source.name source.at ⌢ IsMark kinds.Semicolon
IsDeclaration (decls.Flag at name value) =
    IsMark kinds.KeyBool ⌢ IsIdent name at ⌢ IsMark kinds.Assign ⌢ IsMark (truth_word value)
    ⌢ IsMark kinds.Semicolon

-- input = ("int" | "bool") ID
abbrev pub kind_word : Kind → TokenKind
kind_word inputs.Int = kinds.KeyInt
kind_word inputs.Bool = kinds.KeyBool

abbrev pub IsInput : Rule InputTree
IsInput input = IsMark (kind_word input.kind) ⌢ IsIdent input.name input.at

-- [input ("," input)*]
abbrev pub AreInputs : Rule (List InputTree)
AreInputs [] ws = ws ≡ []
AreInputs (first ∷ rest) ws =
    (IsInput first ⌢ Each (λ input. IsMark kinds.Comma ⌢ IsInput input) rest) ws

-- local = "local" "int" ID "=" literal ";"
--     | "local" "bool" ID "=" ("true" | "false") ";"
abbrev pub IsLocal : Rule Decl
IsLocal (decls.Const at name value) ws = ⊥
IsLocal (decls.Param at name value limit) ws = ⊥
IsLocal (decls.Int at name value) ws =
    (IsMark kinds.KeyLocal ⌢ IsDeclaration (decls.Int at name value)) ws
IsLocal (decls.Copied at name source) ws = ⊥
IsLocal (decls.Flag at name value) ws =
    (IsMark kinds.KeyLocal ⌢ IsDeclaration (decls.Flag at name value)) ws

-- guarded = "waituntil" "(" expression ")" "{" statement* "}"
abbrev pub IsGuarded : Rule BlockTree
IsGuarded block =
    IsMarkAt kinds.KeyWaituntil block.at ⌢ IsMark kinds.OpenParen
    ⌢ IsExpression LEVELS block.guard ⌢ IsMark kinds.CloseParen
    ⌢ IsBlock (IsStatement LEVELS) block.body

-- asserted = "asserts" "(" expression ")" "{" statement* "}", where "asserts" is the ID of these
-- letters
abbrev pub ASSERTS : List ℕ
ASSERTS = codes "asserts"

abbrev pub IsAsserted : Rule BlockTree
IsAsserted block =
    IsIdent ASSERTS block.at ⌢ IsMark kinds.OpenParen
    ⌢ IsExpression LEVELS block.guard ⌢ IsMark kinds.CloseParen
    ⌢ IsBlock (IsStatement LEVELS) block.body

-- x: the words of a single tree
abbrev pub Single : {Tree : Type 0} → Rule Tree → Rule (List Tree)
Single IsTree [] ws = ⊥
Single IsTree (tree ∷ []) ws = IsTree tree ws
Single IsTree (tree ∷ (next ∷ more)) ws = ⊥

-- guarded guarded* | asserted
abbrev pub AreBlocks : Bool → Rule (List BlockTree)
AreBlocks false = OneOrMore IsGuarded
AreBlocks true = Single IsAsserted

-- method = "method" ID "(" [input ("," input)*] ")" local* (guarded guarded* | asserted)
abbrev pub IsMethod : Rule MethodTree
IsMethod method =
    IsMark kinds.KeyMethod ⌢ IsIdent method.name method.at ⌢ IsMark kinds.OpenParen
    ⌢ AreInputs method.inputs ⌢ IsMark kinds.CloseParen
    ⌢ Each IsLocal method.locals ⌢ AreBlocks method.asserts method.blocks

-- monitor_file = "monitor" ID "{" declaration* method* "}"
abbrev pub IsMonitorFile : Rule MonitorTree
IsMonitorFile tree ws =
    (at : ℕ) × (IsMark kinds.KeyMonitor ⌢ IsIdent tree.name at ⌢ IsMark kinds.OpenBrace
    ⌢ Each IsDeclaration tree.decls ⌢ Each IsMethod tree.methods ⌢ IsMark kinds.CloseBrace) ws

-- the tokens, with the bytes that they are spelled by, are those of this monitor file
abbrev pub Derives : List ℕ → List Token → MonitorTree → Type 0
Derives bytes tokens tree = IsMonitorFile tree (words bytes tokens)

-- some text of at most 65,536 bytes is spelled by tokens that derive this tree
pub record IsParsed (tree : MonitorTree) : Type 0 where
  pub bytes : List ℕ
  pub tokens : List Token
  pub short : length bytes ≤ FILE_BYTES
  pub spelled : Spells bytes tokens
  pub derived : Derives bytes tokens tree
