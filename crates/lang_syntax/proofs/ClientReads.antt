-- The readers of clients, and of a whole client file.
use Rattle.std.proofs.Common.{◌≡◌, ℕ, ◌-◌, true, false, List, length, drop, Ok, Err, refl}
use Rattle.lang_base.specs.Limits.{LEVELS}
use Rattle.lang_tokens.specs.declared.token.TokenKind.TheVariants as kinds
use Rattle.lang_tokens.specs.declared.token.Token.{Token}
use Rattle.lang_tree.specs.declared.tree.Item.{Item}
use Rattle.lang_tree.specs.declared.tree.ClientTree.{ClientTree}
use Rattle.lang_tree.specs.declared.tree.ClientsTree.{ClientsTree}
use Rattle.lang_tree.specs.declared.tree.PlacedName.{PlacedName}
use Rattle.lang_tokens.specs.Words.{Word, words}
use Rattle.lang_syntax.specs.Grammar.{Rule, ◌⌢◌, Each, IsBlock, IsIdent, IsMark}
use Rattle.lang_syntax.specs.ClientGrammar.{IsItem, IsClient, IsClientFile}
use Rattle.lang_syntax.specs.Fault.{IsFaultAt}
use Rattle.lang_cursor.specs.Reading.{first_offset, Read, ◌⊗◌, made_at, each_at, mark_at, ident_at, begins}
use Rattle.lang_syntax.specs.inner.Reading.{items_at, item_at, client_of, client_at, clients_at, clients_of, client_file}
use Rattle.lang_syntax.proofs.Readers.{Reads, Anything, Both, made_reads, each_reads, whole_found, whole_again, whole_fault}
use Rattle.lang_syntax.proofs.WordReads.{IsPlacedName, begins_heads}
use Rattle.lang_syntax.proofs.Openings.{Opens, mark_opens, then_opens, begins_none, begins_at}
use Rattle.lang_syntax.proofs.Sequences.{mark_then, ident_then}
use Rattle.lang_syntax.proofs.FileFaults.{file_fault}
use Rattle.lang_syntax.proofs.ItemReads.{item_block_reads}

-- ---- clients

-- a client, over the rule of its items
abbrev IsClientOf : Rule (List Item) → Rule ClientTree
IsClientOf IsBody client = IsMark kinds.KeyClient ⌢ IsIdent client.name client.at ⌢ IsBody client.items

client_reads_of : (IsBody : Rule (List Item)) (body : List Word → Read (List Item)) → Reads IsBody body Anything
    → Reads (IsClientOf IsBody) (made_at client_of (mark_at kinds.KeyClient ⊗ ident_at ⊗ body)) Anything
client_reads_of IsBody body r =
    made_reads (Both (λ (unit : Unit {0}). IsMark kinds.KeyClient) IsNamed) (mark_at kinds.KeyClient ⊗ ident_at ⊗ body) Anything client_of (IsClientOf IsBody)
    (mark_then kinds.KeyClient IsNamed (ident_at ⊗ body) Anything (ident_then IsBody body Anything r))
    (λ x ws p. p)
    (λ y ws p. ((tt, (record { at = y.at; name = y.name }, y.items)), refl, p))
  where
    IsNamed : Rule (PlacedName × List Item)
    IsNamed = Both IsPlacedName IsBody

client_begins_of : (IsBody : Rule (List Item)) (x : ClientTree) → Opens (IsClientOf IsBody x) (λ ws. begins kinds.KeyClient ws ≡ true)
client_begins_of IsBody x = then_opens (IsMark kinds.KeyClient) (IsIdent x.name x.at ⌢ IsBody x.items) (λ ws. begins kinds.KeyClient ws ≡ true)
    (mark_opens kinds.KeyClient (λ ws. begins kinds.KeyClient ws ≡ true) (begins_at kinds.KeyClient))

pub client_reads : Reads IsClient client_at Anything
unfolding client_at
client_reads = client_reads_of (IsBlock (IsItem LEVELS)) (items_at (item_at LEVELS)) (item_block_reads LEVELS)

pub client_begins : (x : ClientTree) → Opens (IsClient x) (λ ws. begins kinds.KeyClient ws ≡ true)
client_begins x = client_begins_of (IsBlock (IsItem LEVELS)) x

-- ---- the file

abbrev NoClient : List Word → Type 0
NoClient ws = (begins kinds.KeyClient ws ≡ false) × Anything ws

pub clients_read : Reads IsClientFile (made_at clients_of clients_at) NoClient
unfolding clients_at
clients_read =
    made_reads (Each IsClient) (each_at (begins kinds.KeyClient) client_at) NoClient clients_of IsClientFile
    (each_reads (begins kinds.KeyClient) IsClient client_at Anything (begins_heads kinds.KeyClient) (begins_none kinds.KeyClient) client_reads client_begins (λ ws h. tt))
    (λ x ws p. p)
    (λ y ws p. (y.clients, refl, p))

pub client_file_found : (ws : List Word) (tree : ClientsTree) → client_file ws ≡ Ok tree → IsClientFile tree ws
unfolding client_file
client_file_found ws tree e = whole_found IsClientFile (made_at clients_of clients_at) NoClient clients_read ws tree e

pub client_file_again : (ws : List Word) (tree : ClientsTree) → IsClientFile tree ws → client_file ws ≡ Ok tree
unfolding client_file
client_file_again ws tree is = whole_again IsClientFile (made_at clients_of clients_at) NoClient clients_read (begins_none kinds.KeyClient, tt) ws tree is

pub client_file_fault : (bytes : List ℕ) (tokens : List Token) (left : ℕ) → client_file (words bytes tokens) ≡ Err left
    → IsFaultAt IsClientFile bytes tokens (first_offset bytes (drop (length tokens - left) tokens))
unfolding client_file
client_file_fault bytes tokens left e =
    file_fault IsClientFile bytes tokens left (whole_fault IsClientFile (made_at clients_of clients_at) NoClient clients_read (begins_none kinds.KeyClient, tt) (words bytes tokens) left e)
