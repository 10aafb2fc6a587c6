-- The canonical words of a client file, whatever their offsets, derive the same tree but for
-- offsets.
use Rattle.std.proofs.Common.{◌≡◌, ℕ, zero, suc, Bool, true, false, List, [], ◌∷◌, ◌++◌, map, refl, sym, ap, ◌∙◌, inl, inr, append_assoc}
use Rattle.std.specs.List.{flat_map}
use Rattle.lang_base.specs.Limits.{LEVELS}
use Rattle.lang_tokens.specs.declared.token.TokenKind.TheVariants as kinds
use Rattle.lang_tree.specs.declared.tree.Arg.{Arg}
use Rattle.lang_tree.specs.declared.tree.Arg.TheVariants as args
use Rattle.lang_tree.specs.declared.tree.Item.{Item}
use Rattle.lang_tree.specs.declared.tree.Item.TheOpen.{Call, Repeat}
use Rattle.lang_tree.specs.declared.tree.Item.TheVariants as items
use Rattle.lang_tree.specs.declared.tree.Item.TheFolds.{fold-roll-Item}
use Rattle.lang_tree.specs.declared.tree.ClientTree.{ClientTree}
use Rattle.lang_tree.specs.declared.tree.ClientsTree.{ClientsTree}
use Rattle.lang_tree.specs.Offsets.{unplaced_argument, item_step, unplaced_item, unplaced_client, unplaced_clients}
use Rattle.lang_tokens.specs.Words.{Word, ident, numeral, mark}
use Rattle.lang_syntax.specs.Grammar.{Rule, ◌⌢◌, IsBlock, IsIdent, IsNumeral, IsMarkAt, IsMark, truth_word}
use Rattle.lang_cursor.specs.Arguments.{negative, plain}
use Rattle.lang_syntax.specs.ClientGrammar.{IsArgument, AreArguments, IsCalled, IsCall, IsRepeat, IsItem, IsClient, IsClientFile}
use Rattle.lang_syntax.proofs.CanonicalWords.{bare}
use Rattle.lang_syntax.proofs.ClientWords.{argument_words, arguments_words, try_words, item_words, item_block_words, client_words, clients_words, words_Call, words_Repeat}
use Rattle.lang_syntax.proofs.PrintedWords.{Cut, Again, each_again, no_words, alone, cut_mark, cut_mark_at, cut_ident, cut_numeral, cut_tree, last_mark}

-- ---- arguments

argument_again : (argument : Arg) (ws : List Word) → IsArgument argument ws → Again IsArgument unplaced_argument (unplaced_argument argument) (argument_words argument)
argument_again argument ws (inl is) = λ printed h.
    let sign = cut_mark_at kinds.Minus (numeral is.1 0 ∷ []) printed (h ∙ ap argument_words is.3) in
    let number = cut_numeral is.1 [] sign.1.rest sign.1.bare_rest in
    let whole : IsArgument (negative sign.0 is.1 number.0) printed =
    inl (sign.0, is.1, number.0, refl, (sign.1.front, sign.1.rest, sign.1.first, alone (IsNumeral is.1 number.0) sign.1.rest number.1, sign.1.is)) in
    (negative sign.0 is.1 number.0, whole, sym (ap unplaced_argument is.3))
argument_again argument ws (inr (inl is)) = λ printed h.
    let number = cut_numeral is.1 [] printed (h ∙ ap argument_words is.2) in
    let whole : IsArgument (plain number.0 is.1) printed = inr (inl (number.0, is.1, refl, alone (IsNumeral is.1 number.0) printed number.1)) in
    (plain number.0 is.1, whole, sym (ap unplaced_argument is.2))
argument_again argument ws (inr (inr is)) = λ printed h.
    let word = cut_mark_at (truth_word is.1) [] printed (h ∙ ap argument_words is.2) in
    let whole : IsArgument (args.Bool word.0 is.1) printed = inr (inr (word.0, is.1, refl, alone (IsMarkAt (truth_word is.1) word.0) printed word.1)) in
    (args.Bool word.0 is.1, whole, sym (ap unplaced_argument is.2))

later_argument_again : (argument : Arg) (ws : List Word) → (IsMark kinds.Comma ⌢ IsArgument argument) ws
    → Again (λ argument. IsMark kinds.Comma ⌢ IsArgument argument) unplaced_argument (unplaced_argument argument) (mark kinds.Comma 0 ∷ argument_words argument)
later_argument_again argument ws is = λ printed h.
    let comma = cut_mark kinds.Comma (argument_words argument) printed h in
    let a = argument_again argument is.1 is.3 comma.rest comma.bare_rest in
    (a.0, (comma.front, comma.rest, comma.first, a.1, comma.is), a.2)

arguments_again : (given : List Arg) (ws : List Word) → AreArguments given ws → Again AreArguments (map unplaced_argument) (map unplaced_argument given) (arguments_words given)
arguments_again [] ws is = λ printed h. ([], no_words printed h, refl)
arguments_again (first ∷ rest) ws is = λ printed h.
    let one = cut_tree (argument_again first is.0 is.2) (flat_map (λ argument. mark kinds.Comma 0 ∷ argument_words argument) rest) printed h in
    let others =
    each_again (λ argument. IsMark kinds.Comma ⌢ IsArgument argument) (λ argument. IsMark kinds.Comma ⌢ IsArgument argument) unplaced_argument (λ argument. mark kinds.Comma 0 ∷ argument_words argument) later_argument_again rest is.1 is.3
    one.cut.rest one.cut.bare_rest in
    (one.again ∷ others.0, (one.cut.front, one.cut.rest, one.cut.first, others.1, one.cut.is), ap (λ seen. seen ∷ map unplaced_argument others.0) one.same ∙ ap (λ seen. unplaced_argument first ∷ seen) others.2)

-- ---- items

unplaced_Call : (at : ℕ) (tries : Bool) (place : ℕ) (name : List ℕ) (given : List Arg) → unplaced_item (items.Call at tries place name given) ≡ items.Call 0 tries 0 name (map unplaced_argument given)
unplaced_Call at tries place name given = ap unplaced_item (sym (items.rolls-Call at tries place name given)) ∙ fold-roll-Item Item item_step (Call at tries place name given)

unplaced_Repeat : (at times : ℕ) (body : List Item) → unplaced_item (items.Repeat at times body) ≡ items.Repeat 0 times (map unplaced_item body)
unplaced_Repeat at times body = ap unplaced_item (sym (items.rolls-Repeat at times body)) ∙ fold-roll-Item Item item_step (Repeat at times body)

abbrev AllAgain : Rule Item → Type 0
AllAgain IsItem = (item : Item) (ws : List Word) → IsItem item ws → Again IsItem unplaced_item (unplaced_item item) (item_words item)

called_again : (tries : Bool) (name : List ℕ) (us printed : List Word) → map bare printed ≡ try_words tries ++ (ident name 0 ∷ us) → (at : ℕ) × (place : ℕ) × Cut (IsCalled at tries place name) us printed
called_again true name us printed h =
    let word = cut_mark_at kinds.KeyTry (ident name 0 ∷ us) printed h in
    let named = cut_ident name us word.1.rest word.1.bare_rest in (
      word.0,
      named.0,
      record {
        front = word.1.front ++ named.1.front;
        rest = named.1.rest;
        first = (word.1.front, named.1.front, word.1.first, named.1.first, refl);
        is = word.1.is ∙ ap (λ (rest : List Word). word.1.front ++ rest) named.1.is ∙ sym (append_assoc word.1.front named.1.front named.1.rest);
        bare_rest = named.1.bare_rest;
      },
    )
called_again false name us printed h =
    let named = cut_ident name us printed h in
    (named.0, named.0, record { front = named.1.front; rest = named.1.rest; first = (refl, named.1.first); is = named.1.is; bare_rest = named.1.bare_rest })

call_again : AllAgain IsCall
call_again item ws is = λ printed h.
    let end : List Word = mark kinds.CloseParen 0 ∷ (mark kinds.Semicolon 0 ∷ []) in
    let name = called_again is.1 is.3 (mark kinds.OpenParen 0 ∷ (arguments_words is.4 ++ end)) printed (h ∙ ap item_words is.5 ∙ words_Call is.0 is.1 is.2 is.3 is.4) in
    let opening = cut_mark kinds.OpenParen (arguments_words is.4 ++ end) name.2.rest name.2.bare_rest in
    let given = cut_tree (arguments_again is.4 is.6.3.3.0 is.6.3.3.2) end opening.rest opening.bare_rest in
    let closing = cut_mark kinds.CloseParen (mark kinds.Semicolon 0 ∷ []) given.cut.rest given.cut.bare_rest in
    let semicolon = last_mark kinds.Semicolon closing.rest closing.bare_rest in
    let made = items.Call name.0 is.1 name.1 is.3 given.again in
    let parts : (IsCalled name.0 is.1 name.1 is.3 ⌢ IsMark kinds.OpenParen ⌢ AreArguments given.again ⌢ IsMark kinds.CloseParen ⌢ IsMark kinds.Semicolon) printed =
    (name.2.front, name.2.rest, name.2.first, (opening.front, opening.rest, opening.first, (given.cut.front, given.cut.rest, given.cut.first, (closing.front, closing.rest, closing.first, semicolon, closing.is), given.cut.is), opening.is), name.2.is) in
    let whole : IsCall made printed = (name.0, is.1, name.1, is.3, given.again, refl, parts) in
    (made, whole, unplaced_Call name.0 is.1 name.1 is.3 given.again ∙ ap (items.Call 0 is.1 0 is.3) given.same ∙ sym (ap unplaced_item is.5 ∙ unplaced_Call is.0 is.1 is.2 is.3 is.4))

item_block_again : (IsInner : Rule Item) → AllAgain IsInner → (body : List Item) (ws : List Word) → IsBlock IsInner body ws
    → Again (IsBlock IsInner) (map unplaced_item) (map unplaced_item body) (item_block_words body)
item_block_again IsInner again body ws is = λ printed h.
    let opening = cut_mark kinds.OpenBrace (flat_map item_words body ++ (mark kinds.CloseBrace 0 ∷ [])) printed h in
    let row = cut_tree (each_again IsInner IsInner unplaced_item item_words again body is.3.0 is.3.2) (mark kinds.CloseBrace 0 ∷ []) opening.rest opening.bare_rest in
    let closing = last_mark kinds.CloseBrace row.cut.rest row.cut.bare_rest in
    (row.again, (opening.front, opening.rest, opening.first, (row.cut.front, row.cut.rest, row.cut.first, closing, row.cut.is), opening.is), row.same)

repeat_again : (IsInner : Rule Item) → AllAgain IsInner → AllAgain (IsRepeat IsInner)
repeat_again IsInner again item ws is = λ printed h.
    let key = cut_mark_at kinds.KeyRepeat (numeral is.1 0 ∷ item_block_words is.3) printed (h ∙ ap item_words is.4 ∙ words_Repeat is.0 is.1 is.3) in
    let times = cut_numeral is.1 (item_block_words is.3) key.1.rest key.1.bare_rest in
    let block = item_block_again IsInner again is.3 is.5.3.1 is.5.3.3 times.1.rest times.1.bare_rest in
    let made = items.Repeat key.0 is.1 block.0 in
    let whole : IsRepeat IsInner made printed =
    (key.0, is.1, times.0, block.0, refl, (key.1.front, key.1.rest, key.1.first, (times.1.front, times.1.rest, times.1.first, block.1, times.1.is), key.1.is)) in
    (made, whole, unplaced_Repeat key.0 is.1 block.0 ∙ ap (items.Repeat 0 is.1) block.2 ∙ sym (ap unplaced_item is.4 ∙ unplaced_Repeat is.0 is.1 is.3))

item_again : (levels : ℕ) → AllAgain (IsItem levels)
item_again zero item ws is = call_again item ws is
item_again (suc levels) item ws (inl is) = λ printed h.
    let a = call_again item ws is printed h in
    (a.0, inl a.1, a.2)
item_again (suc levels) item ws (inr is) = λ printed h.
    let a = repeat_again (IsItem levels) (item_again levels) item ws is printed h in
    (a.0, inr a.1, a.2)

-- ---- files

-- a client, over the rule of its items
abbrev IsClientOf : Rule (List Item) → Rule ClientTree
IsClientOf IsBody client = IsMark kinds.KeyClient ⌢ IsIdent client.name client.at ⌢ IsBody client.items

client_again_of : (IsBody : Rule (List Item))
    → ((body : List Item) (ws : List Word) → IsBody body ws → Again IsBody (map unplaced_item) (map unplaced_item body) (item_block_words body))
    → (client : ClientTree) (ws : List Word) → IsClientOf IsBody client ws → Again (IsClientOf IsBody) unplaced_client (unplaced_client client) (client_words client)
client_again_of IsBody again client ws is = λ printed h.
    let key = cut_mark kinds.KeyClient (ident client.name 0 ∷ item_block_words client.items) printed h in
    let named = cut_ident client.name (item_block_words client.items) key.rest key.bare_rest in
    let body = again client.items is.3.1 is.3.3 named.1.rest named.1.bare_rest in
    let made : ClientTree = record { at = named.0; name = client.name; items = body.0 } in
    let whole : IsClientOf IsBody made printed = (key.front, key.rest, key.first, (named.1.front, named.1.rest, named.1.first, body.1, named.1.is), key.is) in
    (made, whole, ap (λ (seen : List Item). record { at = 0; name = client.name; items = seen }) body.2)

client_again : (client : ClientTree) (ws : List Word) → IsClient client ws → Again IsClient unplaced_client (unplaced_client client) (client_words client)
client_again client ws is = client_again_of (IsBlock (IsItem LEVELS)) (item_block_again (IsItem LEVELS) (item_again LEVELS)) client ws is

-- The canonical words of a derived tree, at any offsets, derive the same tree but for offsets.
pub clients_derive : (ws : List Word) (tree : ClientsTree) → IsClientFile tree ws → (printed : List Word) → map bare printed ≡ clients_words tree
    → (again : ClientsTree) × IsClientFile again printed × (unplaced_clients again ≡ unplaced_clients tree)
clients_derive ws tree is printed h =
    let row = each_again IsClient IsClient unplaced_client client_words client_again tree.clients ws is printed h in
    let made : ClientsTree = record { clients = row.0 } in
    (made, row.1, ap (λ (seen : List ClientTree). record { clients = seen }) row.2)
