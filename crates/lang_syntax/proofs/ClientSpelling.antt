-- The canonical text of a client file is spelled by tokens that say its canonical words.
use Rattle.std.proofs.Common.{◌≡◌, ℕ, ◌+◌, ◌*◌, Bool, true, false, List, [], ◌∷◌, ◌++◌, map, refl, sym, subst, append_assoc, append-nil, arith}
use Rattle.std.specs.Prelude.{codes}
use Rattle.std.specs.List.{flat_map}
use Rattle.lang_tokens.specs.declared.token.TokenKind.TheVariants as kinds
use Rattle.lang_tokens.specs.declared.token.Token.{Token}
use Rattle.lang_tree.specs.declared.tree.Arg.{Arg}
use Rattle.lang_tree.specs.declared.tree.Arg.TheVariants as args
use Rattle.lang_tree.specs.declared.tree.Item.{Item, roll-Item}
use Rattle.lang_tree.specs.declared.tree.Item.TheOpen.{Item-F, Call, Repeat}
use Rattle.lang_tree.specs.declared.tree.Item.TheFolds.{fold-roll-Item, map-Item, ind-Item}
use Rattle.lang_tree.specs.declared.tree.ClientTree.{ClientTree}
use Rattle.lang_tree.specs.declared.tree.ClientsTree.{ClientsTree}
use Rattle.lang_tokens.specs.Spelling.{Spells}
use Rattle.lang_tokens.specs.Words.{Word, ident, numeral, mark, words}
use Rattle.lang_printer.specs.CanonicalClients.{argument_text, arguments_text, try_text, item_step, item_text, client_text, clients_text}
use Rattle.lang_syntax.proofs.CanonicalWords.{bare}
use Rattle.lang_syntax.proofs.ClientWords.{argument_words, arguments_words, try_words, item_words_step, item_words, client_words, clients_words}
use Rattle.lang_syntax.proofs.CanonicalPieces.{Reads, reads_nothing, spells_words, Says, ◌▷◌, ◌▶◌, less, says_nothing, says_same, space, line_feed, begin_brace, end_brace, begin_paren, end_paren, semicolon, comma, keyword, name, number}
use Rattle.lang_syntax.proofs.CanonicalSpelling.{blanks, literal}
use Rattle.lang_syntax.proofs.SpelledExpressions.{truth}
use Rattle.lang_syntax.proofs.Printable.{ArePrintable, printable_front, printable_back}

-- ---- fixed texts

call_end : Says false true (codes ");\n") (mark kinds.CloseParen 0 ∷ mark kinds.Semicolon 0 ∷ [])
call_end = end_paren ▷ semicolon ▷ line_feed

begin : Says false true (codes " {\n") (mark kinds.OpenBrace 0 ∷ [])
begin = space ▷ begin_brace ▷ line_feed

end : Says false true (codes "}\n") (mark kinds.CloseBrace 0 ∷ [])
end = end_brace ▷ line_feed

-- ---- arguments

argument : (a : Arg) → ArePrintable (argument_words a) → Says true false (argument_text a) (argument_words a)
argument (args.Int at value) ok = literal value ok
argument (args.Bool at value) ok = truth value

abbrev later_arguments : List Arg → List Word
later_arguments = flat_map (λ a. mark kinds.Comma 0 ∷ argument_words a)

more_arguments : (given : List Arg) → ArePrintable (later_arguments given) → Says true true (flat_map (λ text. codes ", " ++ text) (map argument_text given)) (later_arguments given)
more_arguments [] ok = says_nothing true
more_arguments (a ∷ given) ok =
    let separator : Says false true (codes ", ") (mark kinds.Comma 0 ∷ []) = comma ▷ space in
    let here = printable_front (mark kinds.Comma 0 ∷ argument_words a) (later_arguments given) ok in
    (separator ▷ argument a here.1) ▶ more_arguments given (printable_back (mark kinds.Comma 0 ∷ argument_words a) (later_arguments given) ok)

all_arguments : (given : List Arg) → ArePrintable (arguments_words given) → Says true false (arguments_text given) (arguments_words given)
all_arguments [] ok = less (says_nothing true)
all_arguments (a ∷ given) ok = argument a (printable_front (argument_words a) (later_arguments given) ok) ▶ more_arguments given (printable_back (argument_words a) (later_arguments given) ok)

-- ---- items

abbrev Lines : Item → Type 0
Lines item = (depth : ℕ) → ArePrintable (item_words item) → Says false false (item_text item depth) (item_words item)

abbrev Body : Type 0
Body = List ((item : Item) × Lines item)

abbrev body_words : Body → List Word
body_words body = flat_map (λ (l : List Word). l) (map item_words (map (λ e. e.0) body))

abbrev body_text : ℕ → Body → List ℕ
body_text depth body = flat_map (λ (lines : ℕ → List ℕ). lines depth) (map item_text (map (λ e. e.0) body))

body_says : (depth : ℕ) (body : Body) → ArePrintable (body_words body) → Says false false (body_text depth body) (body_words body)
body_says depth [] ok = says_nothing false
body_says depth (x ∷ xs) ok = x.1 depth (printable_front (item_words x.0) (body_words xs) ok) ▷ body_says depth xs (printable_back (item_words x.0) (body_words xs) ok)

tried : (tries : Bool) → Says false false (try_text tries) (try_words tries)
tried true = keyword 116 (codes "ry") refl refl (omega arith) ▶ space
tried false = says_nothing false

call_group : (t n p a e : List Word) → (((t ++ n) ++ p) ++ a) ++ e ≡ (t ++ (n ++ (p ++ a))) ++ e
call_group t n p a e = simp append_assoc

repeat_group : (k b c : List Word) → ((k ++ b) ++ []) ++ c ≡ (k ++ b) ++ c
repeat_group k b c = simp append-nil

abbrev Layer : Type 0
Layer = Item-F ((item : Item) × Lines item)

abbrev bare_layer : Layer → Item-F Item
bare_layer = map-Item ((item : Item) × Lines item) Item (λ e. e.0)

abbrev printed_layer : Item-F Item → ℕ → List ℕ
printed_layer x = item_step (map-Item Item (ℕ → List ℕ) item_text x)

abbrev words_layer : Item-F Item → List Word
words_layer x = item_words_step (map-Item Item (List Word) item_words x)

layer_says : (y : Layer) (depth : ℕ) → ArePrintable (words_layer (bare_layer y)) → Says false false (printed_layer (bare_layer y) depth) (words_layer (bare_layer y))
layer_says (Call at tries place target given) depth ok =
    let t = try_words tries in
    let n = ident target 0 ∷ [] in
    let p = mark kinds.OpenParen 0 ∷ [] in
    let a = arguments_words given in
    let e = mark kinds.CloseParen 0 ∷ mark kinds.Semicolon 0 ∷ [] in
    let named = printable_back t (n ++ (p ++ a)) (printable_front (t ++ (n ++ (p ++ a))) e ok) in
    says_same refl (call_group t n p a e) (blanks (2 * depth) ▷ tried tries ▷ name target named.0 ▶ begin_paren ▷ all_arguments given named.1.1 ▶ call_end)
layer_says (Repeat at times body) depth ok =
    let k = mark kinds.KeyRepeat 0 ∷ numeral times 0 ∷ mark kinds.OpenBrace 0 ∷ [] in
    let b = body_words body in
    let c = mark kinds.CloseBrace 0 ∷ [] in
    let front = printable_front (k ++ b) c ok in
    let head : Says false false (codes "repeat ") (mark kinds.KeyRepeat 0 ∷ []) = keyword 114 (codes "epeat") refl refl (omega arith) ▶ space in
    says_same refl (repeat_group k b c) (blanks (2 * depth) ▷ head ▷ number times front.1.0 ▶ begin ▷ body_says (depth + 1) body front.1.1.1 ▷ blanks (2 * depth) ▷ end)

roll_says : (x : Item-F Item) → ((depth : ℕ) → ArePrintable (words_layer x) → Says false false (printed_layer x depth) (words_layer x)) → Lines (roll-Item x)
roll_says x h = λ depth.
    subst (λ (f : ℕ → List ℕ). ArePrintable (item_words (roll-Item x)) → Says false false (f depth) (item_words (roll-Item x))) (sym (fold-roll-Item (ℕ → List ℕ) item_step x))
    (subst (λ (l : List Word). ArePrintable l → Says false false (printed_layer x depth) l) (sym (fold-roll-Item (List Word) item_words_step x)) (h depth))

item : (i : Item) → Lines i
item = ind-Item Lines (λ x y is. subst (λ (z : Item-F Item). Lines (roll-Item z)) is (roll_says (bare_layer y) (layer_says y)))

items : (depth : ℕ) (body : List Item) → ArePrintable (flat_map item_words body) → Says false false (flat_map (λ i. item_text i depth) body) (flat_map item_words body)
items depth [] ok = says_nothing false
items depth (i ∷ more) ok = item i depth (printable_front (item_words i) (flat_map item_words more) ok) ▷ items depth more (printable_back (item_words i) (flat_map item_words more) ok)

-- ---- files

client : (c : ClientTree) → ArePrintable (client_words c) → Says false false (client_text c) (client_words c)
client c ok =
    let body = printable_front (flat_map item_words c.items) (mark kinds.CloseBrace 0 ∷ []) ok.1.1.1 in
    let head : Says false false (codes "client ") (mark kinds.KeyClient 0 ∷ []) = keyword 99 (codes "lient") refl refl (omega arith) ▶ space in
    head ▷ name c.name ok.1.0 ▶ begin ▷ items 1 c.items body ▷ end

clients : (cs : List ClientTree) → ArePrintable (flat_map client_words cs) → Says false false (flat_map client_text cs) (flat_map client_words cs)
clients [] ok = says_nothing false
clients (c ∷ cs) ok = client c (printable_front (client_words c) (flat_map client_words cs) ok) ▷ clients cs (printable_back (client_words c) (flat_map client_words cs) ok)

-- The canonical text of a printable tree is spelled by tokens that say its canonical words.
pub clients_spelled : (tree : ClientsTree) → ArePrintable (clients_words tree) → (tokens : List Token) × Spells (clients_text tree) tokens × (map bare (words (clients_text tree) tokens) ≡ clients_words tree)
clients_spelled tree ok =
    let read : Reads (clients_text tree ++ []) (clients_words tree ++ []) = (clients tree.clients ok).before [] [] reads_nothing in
    let whole : Reads (clients_text tree) (clients_words tree) = subst (λ (t : List ℕ). Reads t (clients_words tree)) (append-nil (clients_text tree)) (subst (λ (w : List Word). Reads (clients_text tree ++ []) w) (append-nil (clients_words tree)) read) in
    spells_words (clients_text tree) (clients_words tree) whole
