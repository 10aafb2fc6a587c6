-- The canonical words of client files, each at offset 0. The words of a derived tree are these but
-- for offsets.
use Rattle.std.proofs.Common.{◌≡◌, ℕ, zero, suc, Bool, true, false, List, [], ◌∷◌, ◌++◌, map, sym, ap, subst, ◌∙◌, inl, inr, append_assoc}
use Rattle.std.specs.List.{flat_map}
use Rattle.std.proofs.lemmas.List.{map-append}
use Rattle.std.proofs.lemmas.List.Folds.{flat_map-map}
use Rattle.lang_base.specs.Limits.{LEVELS}
use Rattle.lang_tokens.specs.declared.token.TokenKind.{TokenKind}
use Rattle.lang_tokens.specs.declared.token.TokenKind.TheVariants as kinds
use Rattle.lang_tokens.specs.declared.token.Token.{Token}
use Rattle.lang_tree.specs.declared.tree.Arg.{Arg}
use Rattle.lang_tree.specs.declared.tree.Arg.TheVariants as args
use Rattle.lang_tree.specs.declared.tree.Item.{Item}
use Rattle.lang_tree.specs.declared.tree.Item.TheOpen.{Item-F, Call, Repeat}
use Rattle.lang_tree.specs.declared.tree.Item.TheVariants as items
use Rattle.lang_tree.specs.declared.tree.Item.TheFolds.{fold-Item, fold-roll-Item}
use Rattle.lang_tree.specs.declared.tree.ClientTree.{ClientTree}
use Rattle.lang_tree.specs.declared.tree.ClientsTree.{ClientsTree}
use Rattle.lang_tokens.specs.Spelling.{Spells}
use Rattle.lang_tokens.specs.Words.{Word, ident, numeral, mark, words}
use Rattle.lang_syntax.specs.Grammar.{Rule, ◌⌢◌, Each, IsBlock, IsIdent, IsNumeral, IsMarkAt, IsMark, truth_word}
use Rattle.lang_syntax.specs.ClientGrammar.{IsArgument, AreArguments, IsCalled, IsCall, IsRepeat, IsItem, IsClient, IsClientFile, DerivesClients}
use Rattle.lang_syntax.proofs.CanonicalWords.{bare, literal_words}
use Rattle.lang_syntax.proofs.Printable.{ArePrintable}
use Rattle.lang_syntax.proofs.DerivedPrintable.{words_printable}
use Rattle.lang_tokens.proofs.Numerals.{tokens_are}

-- ---- the words

abbrev pub argument_words : Arg → List Word
argument_words (args.Int at value) = literal_words value
argument_words (args.Bool at value) = mark (truth_word value) 0 ∷ []

abbrev pub arguments_words : List Arg → List Word
arguments_words [] = []
arguments_words (first ∷ rest) = argument_words first ++ flat_map (λ argument. mark kinds.Comma 0 ∷ argument_words argument) rest

abbrev pub try_words : Bool → List Word
try_words true = mark kinds.KeyTry 0 ∷ []
try_words false = []

abbrev pub item_words_step : Item-F (List Word) → List Word
item_words_step (Call at tries place name given) = try_words tries ++ ident name 0 ∷ mark kinds.OpenParen 0 ∷ arguments_words given ++ mark kinds.CloseParen 0 ∷ mark kinds.Semicolon 0 ∷ []
item_words_step (Repeat at times body) =
    mark kinds.KeyRepeat 0 ∷ numeral times 0 ∷ mark kinds.OpenBrace 0 ∷ flat_map (λ words. words) body ++ mark kinds.CloseBrace 0 ∷ []

abbrev pub item_words : Item → List Word
item_words = fold-Item (List Word) item_words_step

abbrev pub item_block_words : List Item → List Word
item_block_words body = mark kinds.OpenBrace 0 ∷ (flat_map item_words body ++ (mark kinds.CloseBrace 0 ∷ []))

abbrev pub client_words : ClientTree → List Word
client_words client = mark kinds.KeyClient 0 ∷ (ident client.name 0 ∷ item_block_words client.items)

abbrev pub clients_words : ClientsTree → List Word
clients_words tree = flat_map client_words tree.clients

call_group : (t n p a e : List Word) → (t ++ (n ++ (p ++ a))) ++ e ≡ t ++ (n ++ (p ++ (a ++ e)))
call_group t n p a e = simp append_assoc

pub words_Call : (at : ℕ) (tries : Bool) (place : ℕ) (name : List ℕ) (given : List Arg)
    → item_words (items.Call at tries place name given)
    ≡ try_words tries ++ (ident name 0 ∷ (mark kinds.OpenParen 0 ∷ (arguments_words given ++ (mark kinds.CloseParen 0 ∷ (mark kinds.Semicolon 0 ∷ [])))))
words_Call at tries place name given =
    ap item_words (sym (items.rolls-Call at tries place name given))
    ∙ fold-roll-Item (List Word) item_words_step (Call at tries place name given)
    ∙ call_group (try_words tries) (ident name 0 ∷ []) (mark kinds.OpenParen 0 ∷ []) (arguments_words given) (mark kinds.CloseParen 0 ∷ (mark kinds.Semicolon 0 ∷ []))

pub words_Repeat : (at times : ℕ) (body : List Item) → item_words (items.Repeat at times body) ≡ mark kinds.KeyRepeat 0 ∷ (numeral times 0 ∷ item_block_words body)
words_Repeat at times body =
    ap item_words (sym (items.rolls-Repeat at times body))
    ∙ fold-roll-Item (List Word) item_words_step (Repeat at times body)
    ∙ ap (λ ws. mark kinds.KeyRepeat 0 ∷ (numeral times 0 ∷ (mark kinds.OpenBrace 0 ∷ (ws ++ (mark kinds.CloseBrace 0 ∷ []))))) (flat_map-map (λ (words : List Word). words) item_words body)

-- ---- the words of a rule, without their offsets

abbrev Are : (List Word → Type 0) → List Word → Type 0
Are IsWords us = (ws : List Word) → IsWords ws → map bare ws ≡ us

infixr 20 ◌&◌
◌&◌ : {First Second : List Word → Type 0} {us vs : List Word} → Are First us → Are Second vs → Are (First ⌢ Second) (us ++ vs)
(◌&◌ {us = us} {vs = vs} first second) ws p =
    ap (map bare) p.4 ∙ map-append bare p.0 p.1 ∙ ap (λ (front : List Word). front ++ map bare p.1) (first p.0 p.2) ∙ ap (λ (rest : List Word). us ++ rest) (second p.1 p.3)

mark_at_is : (kind : TokenKind) (at : ℕ) → Are (IsMarkAt kind at) (mark kind 0 ∷ [])
mark_at_is kind at ws p = ap (map bare) p

mark_is : (kind : TokenKind) → Are (IsMark kind) (mark kind 0 ∷ [])
mark_is kind ws p = ap (map bare) p.1

ident_is : (name : List ℕ) (at : ℕ) → Are (IsIdent name at) (ident name 0 ∷ [])
ident_is name at ws p = ap (map bare) p

numeral_is : (value at : ℕ) → Are (IsNumeral value at) (numeral value 0 ∷ [])
numeral_is value at ws p = ap (map bare) p

each_are : {X : Type 0} (IsTree : Rule X) (words : X → List Word) → ((x : X) → Are (IsTree x) (words x)) → (xs : List X) → Are (Each IsTree xs) (flat_map words xs)
each_are IsTree words one [] ws p = ap (map bare) p
each_are IsTree words one (x ∷ xs) ws p = (one x & each_are IsTree words one xs) ws p

argument_is : (argument : Arg) → Are (IsArgument argument) (argument_words argument)
argument_is argument ws (inl p) = (mark_at_is kinds.Minus p.0 & numeral_is p.1 p.2) ws p.4 ∙ sym (ap argument_words p.3)
argument_is argument ws (inr (inl p)) = numeral_is p.1 p.0 ws p.3 ∙ sym (ap argument_words p.2)
argument_is argument ws (inr (inr p)) = mark_at_is (truth_word p.1) p.0 ws p.3 ∙ sym (ap argument_words p.2)

later_is : (argument : Arg) → Are (IsMark kinds.Comma ⌢ IsArgument argument) (mark kinds.Comma 0 ∷ argument_words argument)
later_is argument = mark_is kinds.Comma & argument_is argument

arguments_are : (given : List Arg) → Are (AreArguments given) (arguments_words given)
arguments_are [] ws p = ap (map bare) p
arguments_are (first ∷ rest) ws p =
    (argument_is first & each_are (λ argument. IsMark kinds.Comma ⌢ IsArgument argument) (λ argument. mark kinds.Comma 0 ∷ argument_words argument) later_is rest) ws p

called_is : (at : ℕ) (tries : Bool) (place : ℕ) (name : List ℕ) → Are (IsCalled at tries place name) (try_words tries ++ (ident name 0 ∷ []))
called_is at true place name ws p = (mark_at_is kinds.KeyTry at & ident_is name place) ws p
called_is at false place name ws p = ident_is name place ws p.1

call_is : (item : Item) → Are (IsCall item) (item_words item)
call_is item ws p =
    (called_is p.0 p.1 p.2 p.3 & mark_is kinds.OpenParen & arguments_are p.4 & mark_is kinds.CloseParen & mark_is kinds.Semicolon) ws p.6
    ∙ append_assoc (try_words p.1) (ident p.3 0 ∷ []) (mark kinds.OpenParen 0 ∷ (arguments_words p.4 ++ (mark kinds.CloseParen 0 ∷ (mark kinds.Semicolon 0 ∷ []))))
    ∙ sym (ap item_words p.5 ∙ words_Call p.0 p.1 p.2 p.3 p.4)

block_is : (IsInner : Rule Item) → ((item : Item) → Are (IsInner item) (item_words item)) → (body : List Item) → Are (IsBlock IsInner body) (item_block_words body)
block_is IsInner inner body = mark_is kinds.OpenBrace & each_are IsInner item_words inner body & mark_is kinds.CloseBrace

repeat_is : (IsInner : Rule Item) → ((item : Item) → Are (IsInner item) (item_words item)) → (item : Item) → Are (IsRepeat IsInner item) (item_words item)
repeat_is IsInner inner item ws p =
    (mark_at_is kinds.KeyRepeat p.0 & numeral_is p.1 p.2 & block_is IsInner inner p.3) ws p.5
    ∙ sym (ap item_words p.4 ∙ words_Repeat p.0 p.1 p.3)

item_is : (levels : ℕ) (item : Item) → Are (IsItem levels item) (item_words item)
item_is zero item ws p = call_is item ws p
item_is (suc levels) item ws (inl p) = call_is item ws p
item_is (suc levels) item ws (inr p) = repeat_is (IsItem levels) (item_is levels) item ws p

client_is_of : (IsBody : Rule (List Item)) → ((body : List Item) → Are (IsBody body) (item_block_words body))
    → (client : ClientTree) → Are (IsMark kinds.KeyClient ⌢ IsIdent client.name client.at ⌢ IsBody client.items) (client_words client)
client_is_of IsBody body client = mark_is kinds.KeyClient & ident_is client.name client.at & body client.items

client_is : (client : ClientTree) → Are (IsClient client) (client_words client)
client_is client = client_is_of (IsBlock (IsItem LEVELS)) (block_is (IsItem LEVELS) (item_is LEVELS)) client

clients_are : (tree : ClientsTree) → Are (IsClientFile tree) (clients_words tree)
clients_are tree = each_are IsClient client_words client_is tree.clients

-- ---- they can be printed

bare_printable : (ws : List Word) → ArePrintable ws → ArePrintable (map bare ws)
bare_printable [] ok = tt
bare_printable (ident name at ∷ ws) ok = (ok.0, bare_printable ws ok.1)
bare_printable (numeral value at ∷ ws) ok = (ok.0, bare_printable ws ok.1)
bare_printable (mark kind at ∷ ws) ok = (tt, bare_printable ws ok.1)

-- A derived tree can be printed and read again: its names and numbers are those of tokens.
pub clients_printable : (bytes : List ℕ) (tokens : List Token) (tree : ClientsTree) → Spells bytes tokens → DerivesClients bytes tokens tree → ArePrintable (clients_words tree)
clients_printable bytes tokens tree spelled derived =
    subst ArePrintable (clients_are tree (words bytes tokens) derived) (bare_printable (words bytes tokens) (words_printable bytes tokens (tokens_are bytes tokens spelled)))
