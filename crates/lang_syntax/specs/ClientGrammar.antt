-- The grammar of client files: which words are a tree's, one definition for each production.
use Rattle.std.specs.Prelude.{◌≡◌, ℕ, zero, suc, ◌≤◌, ◌⊎◌, Bool, true, false, List, [], ◌∷◌, length}
use Rattle.lang_base.specs.Limits.{FILE_BYTES, LEVELS}
use Rattle.lang_tokens.specs.declared.token.TokenKind.TheVariants as kinds
use Rattle.lang_tokens.specs.declared.token.Token.{Token}
use Rattle.lang_tree.specs.declared.tree.Arg.{Arg}
use Rattle.lang_tree.specs.declared.tree.Arg.TheVariants as args
use Rattle.lang_tree.specs.declared.tree.Item.{Item}
use Rattle.lang_tree.specs.declared.tree.Item.TheVariants as items
use Rattle.lang_tree.specs.declared.tree.ClientTree.{ClientTree}
use Rattle.lang_tree.specs.declared.tree.ClientsTree.{ClientsTree}
use Rattle.lang_tokens.specs.Spelling.{Spells}
use Rattle.lang_tokens.specs.Words.{Word, words}
use Rattle.lang_cursor.specs.Arguments.{negative, plain}
use Rattle.lang_syntax.specs.Grammar.{Rule, ◌⌢◌, Each, IsBlock}
use Rattle.lang_syntax.specs.Grammar.{IsIdent, IsNumeral, IsMarkAt, IsMark}
use Rattle.lang_syntax.specs.Grammar.{truth_word}

-- ---- arguments

-- argument = ["-"] NUM | "true" | "false"
abbrev pub IsArgument : Rule Arg
IsArgument argument ws =
    ((at : ℕ) × (digits : ℕ) × (place : ℕ) × (argument ≡ negative at digits place)
    × (IsMarkAt kinds.Minus at ⌢ IsNumeral digits place) ws)
    ⊎ ((at : ℕ) × (digits : ℕ) × (argument ≡ plain at digits) × IsNumeral digits at ws)
    ⊎ ((at : ℕ) × (value : Bool) × (argument ≡ args.Bool at value)
    × IsMarkAt (truth_word value) at ws)

-- [argument ("," argument)*]
abbrev pub AreArguments : Rule (List Arg)
AreArguments [] ws = ws ≡ []
AreArguments (first ∷ rest) ws =
    (IsArgument first ⌢ Each (λ argument. IsMark kinds.Comma ⌢ IsArgument argument) rest) ws

-- ---- items

-- ["try"] ID, from `at` on, with the name at `place`
abbrev pub IsCalled : ℕ → Bool → ℕ → List ℕ → List Word → Type 0
IsCalled at true place name ws = (IsMarkAt kinds.KeyTry at ⌢ IsIdent name place) ws
IsCalled at false place name ws = (at ≡ place) × IsIdent name place ws

-- ["try"] ID "(" [argument ("," argument)*] ")" ";"
abbrev pub IsCall : Rule Item
IsCall item ws =
    (at : ℕ) × (tries : Bool) × (place : ℕ) × (name : List ℕ) × (given : List Arg)
    × (item ≡ items.Call at tries place name given)
    × (IsCalled at tries place name ⌢ IsMark kinds.OpenParen ⌢ AreArguments given
    ⌢ IsMark kinds.CloseParen ⌢ IsMark kinds.Semicolon) ws

-- "repeat" NUM "{" item* "}"
abbrev pub IsRepeat : Rule Item → Rule Item
IsRepeat Inner item ws =
    (at : ℕ) × (times : ℕ) × (place : ℕ) × (body : List Item) × (item ≡ items.Repeat at times body)
    × (IsMarkAt kinds.KeyRepeat at ⌢ IsNumeral times place ⌢ IsBlock Inner body) ws

-- an item, where so many levels may still be opened; the brace of a repeat opens one
abbrev pub IsItem : ℕ → Rule Item
IsItem zero item ws = IsCall item ws
IsItem (suc levels) item ws = IsCall item ws ⊎ IsRepeat (IsItem levels) item ws

-- ---- files

-- client = "client" ID "{" item* "}"
abbrev pub IsClient : Rule ClientTree
IsClient client =
    IsMark kinds.KeyClient ⌢ IsIdent client.name client.at ⌢ IsBlock (IsItem LEVELS) client.items

-- client_file = client*
abbrev pub IsClientFile : Rule ClientsTree
IsClientFile tree = Each IsClient tree.clients

-- the tokens, with the bytes that they are spelled by, are those of this client file
abbrev pub DerivesClients : List ℕ → List Token → ClientsTree → Type 0
DerivesClients bytes tokens tree = IsClientFile tree (words bytes tokens)

-- some text of at most 65,536 bytes is spelled by tokens that derive this tree
pub record AreParsed (tree : ClientsTree) : Type 0 where
  pub bytes : List ℕ
  pub tokens : List Token
  pub short : length bytes ≤ FILE_BYTES
  pub spelled : Spells bytes tokens
  pub derived : DerivesClients bytes tokens tree
