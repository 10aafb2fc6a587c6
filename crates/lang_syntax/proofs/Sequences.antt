-- Readers with keywords, signs and names around them, and rules said in another way.
use Rattle.std.proofs.Common.{◌≡◌, ℕ, Bool, true, false, List, [], ◌++◌, refl, sym, ap, ◌∙◌, append_assoc}
use Rattle.lang_tokens.specs.declared.token.TokenKind.{TokenKind}
use Rattle.lang_tree.specs.declared.tree.Expr.{Expr}
use Rattle.lang_tokens.specs.Words.{Word}
use Rattle.lang_tokens.specs.declared.token.TokenKind.TheVariants as kinds
use Rattle.lang_syntax.specs.Grammar.{Rule, ◌⌢◌, Each, IsIdent, IsBlock, IsMarkAt, IsMark, IsChain}
use Rattle.lang_cursor.specs.Reading.{Read, ◌⊗◌, made_at, each_at, placed_at, mark_at, ident_at, spelled_at, numeral_at, body_of, braces_at}
use Rattle.lang_syntax.specs.inner.Reading.{chain_of}
use Rattle.lang_syntax.proofs.Readers.{Reads, Anything, Heads, Both, pair_reads, made_reads, each_reads}
use Rattle.lang_syntax.proofs.WordReads.{IsPlacedName, IsPlacedNumber, placed_reads, mark_reads, ident_reads, spelled_reads, numeral_reads}
use Rattle.lang_syntax.proofs.Openings.{Opens, At, mark_opens, each_opens}

-- ---- rules

pub group_right : (First Second Third : List Word → Type 0) (ws : List Word) → ((First ⌢ Second) ⌢ Third) ws → (First ⌢ Second ⌢ Third) ws
group_right First Second Third ws p =
    let pair = p.2 in
    (pair.0, pair.1 ++ p.1, pair.2, (pair.1, p.1, pair.3, p.3, refl), p.4 ∙ ap (λ (f : List Word). f ++ p.1) pair.4 ∙ append_assoc pair.0 pair.1 p.1)

pub group_left : (First Second Third : List Word → Type 0) (ws : List Word) → (First ⌢ Second ⌢ Third) ws → ((First ⌢ Second) ⌢ Third) ws
group_left First Second Third ws p =
    let pair = p.3 in
    (p.0 ++ pair.0, pair.1, (p.0, pair.0, p.2, pair.2, refl), pair.3, p.4 ∙ ap (λ (f : List Word). p.0 ++ f) pair.4 ∙ sym (append_assoc p.0 pair.0 pair.1))

pub within_first : (First Other Second : List Word → Type 0) → ((ws : List Word) → First ws → Other ws) → (ws : List Word) → (First ⌢ Second) ws → (Other ⌢ Second) ws
within_first First Other Second to ws p = (p.0, p.1, to p.0 p.2, p.3, p.4)

pub within_second : (First Second Other : List Word → Type 0) → ((ws : List Word) → Second ws → Other ws) → (ws : List Word) → (First ⌢ Second) ws → (First ⌢ Other) ws
within_second First Second Other to ws p = (p.0, p.1, p.2, to p.1 p.3, p.4)

-- three with more after them
pub three_right : (First Second Third More : List Word → Type 0) (ws : List Word) → ((First ⌢ Second ⌢ Third) ⌢ More) ws → (First ⌢ Second ⌢ Third ⌢ More) ws
three_right First Second Third More ws p = within_second First ((Second ⌢ Third) ⌢ More) (Second ⌢ Third ⌢ More) (group_right Second Third More) ws (group_right First (Second ⌢ Third) More ws p)

pub three_left : (First Second Third More : List Word → Type 0) (ws : List Word) → (First ⌢ Second ⌢ Third ⌢ More) ws → ((First ⌢ Second ⌢ Third) ⌢ More) ws
three_left First Second Third More ws p = group_left First (Second ⌢ Third) More ws (within_second First (Second ⌢ Third ⌢ More) ((Second ⌢ Third) ⌢ More) (group_left Second Third More) ws p)

-- five with more after them
pub five_right : (First Second Third Fourth Fifth More : List Word → Type 0) (ws : List Word) → ((First ⌢ Second ⌢ Third ⌢ Fourth ⌢ Fifth) ⌢ More) ws → (First ⌢ Second ⌢ Third ⌢ Fourth ⌢ Fifth ⌢ More) ws
five_right First Second Third Fourth Fifth More ws p =
    within_second First ((Second ⌢ Third ⌢ Fourth ⌢ Fifth) ⌢ More) (Second ⌢ Third ⌢ Fourth ⌢ Fifth ⌢ More) after_first ws (group_right First (Second ⌢ Third ⌢ Fourth ⌢ Fifth) More ws p)
  where
    after_first : (ws : List Word) → ((Second ⌢ Third ⌢ Fourth ⌢ Fifth) ⌢ More) ws → (Second ⌢ Third ⌢ Fourth ⌢ Fifth ⌢ More) ws
    after_first ws p = within_second Second ((Third ⌢ Fourth ⌢ Fifth) ⌢ More) (Third ⌢ Fourth ⌢ Fifth ⌢ More) (three_right Third Fourth Fifth More) ws (group_right Second (Third ⌢ Fourth ⌢ Fifth) More ws p)

pub five_left : (First Second Third Fourth Fifth More : List Word → Type 0) (ws : List Word) → (First ⌢ Second ⌢ Third ⌢ Fourth ⌢ Fifth ⌢ More) ws → ((First ⌢ Second ⌢ Third ⌢ Fourth ⌢ Fifth) ⌢ More) ws
five_left First Second Third Fourth Fifth More ws p =
    group_left First (Second ⌢ Third ⌢ Fourth ⌢ Fifth) More ws (within_second First (Second ⌢ Third ⌢ Fourth ⌢ Fifth ⌢ More) ((Second ⌢ Third ⌢ Fourth ⌢ Fifth) ⌢ More) after_first ws p)
  where
    after_first : (ws : List Word) → (Second ⌢ Third ⌢ Fourth ⌢ Fifth ⌢ More) ws → ((Second ⌢ Third ⌢ Fourth ⌢ Fifth) ⌢ More) ws
    after_first ws p = group_left Second (Third ⌢ Fourth ⌢ Fifth) More ws (within_second Second (Third ⌢ Fourth ⌢ Fifth ⌢ More) ((Third ⌢ Fourth ⌢ Fifth) ⌢ More) (three_left Third Fourth Fifth More) ws p)

-- what is made of what a rule says
abbrev pub Made : {A B : Type 0} → (A → B) → Rule A → Rule B
Made {A} make IsPart y ws = (x : A) × (y ≡ make x) × IsPart x ws

-- a rule that says the same is read too
pub same_reads : {A : Type 0} (IsTree IsOther : Rule A) (read : List Word → Read A) (F : List Word → Type 0)
    → Reads IsTree read F → ((x : A) (ws : List Word) → IsTree x ws → IsOther x ws) → ((x : A) (ws : List Word) → IsOther x ws → IsTree x ws) → Reads IsOther read F
same_reads {A} IsTree IsOther read F r to from = record {
  found = λ ws x rest e. (let f = r.found ws x rest e in record { taken = f.taken; parts = f.parts; is = to x f.taken f.is; stable = f.stable });
  again = λ x taken rest is after. r.again x taken rest (from x taken is) after;
  blames = λ ws left e. (let f = r.blames ws left e in record { front = f.front; rest = f.rest; parts = f.parts; len = f.len; made = f.made; more = f.more; viable = to f.made (f.front ++ f.more) f.viable; fails = f.fails });
  example = (let example = r.example in record { made = example.made; words = example.words; is = to example.made example.words example.is });
}

-- ---- words before and after

pub mark_then : {A : Type 0} (kind : TokenKind) (IsTree : Rule A) (read : List Word → Read A) (F : List Word → Type 0) → Reads IsTree read F → Reads (Both (λ (unit : Unit {0}). IsMark kind) IsTree) (mark_at kind ⊗ read) F
mark_then kind IsTree read F r = pair_reads (λ unit. IsMark kind) (mark_at kind) Anything IsTree read F (mark_reads kind) r (λ y taken rest is after. tt)

pub placed_then : {A : Type 0} (kind : TokenKind) (IsTree : Rule A) (read : List Word → Read A) (F : List Word → Type 0) → Reads IsTree read F → Reads (Both (λ (at : ℕ). IsMarkAt kind at) IsTree) (placed_at kind ⊗ read) F
placed_then kind IsTree read F r = pair_reads (λ at. IsMarkAt kind at) (placed_at kind) Anything IsTree read F (placed_reads kind) r (λ y taken rest is after. tt)

pub ident_then : {A : Type 0} (IsTree : Rule A) (read : List Word → Read A) (F : List Word → Type 0) → Reads IsTree read F → Reads (Both IsPlacedName IsTree) (ident_at ⊗ read) F
ident_then IsTree read F r = pair_reads IsPlacedName ident_at Anything IsTree read F ident_reads r (λ y taken rest is after. tt)

pub spelled_then : {A : Type 0} (letters : List ℕ) (IsTree : Rule A) (read : List Word → Read A) (F : List Word → Type 0) → Reads IsTree read F → Reads (Both (λ (at : ℕ). IsIdent letters at) IsTree) (spelled_at letters ⊗ read) F
spelled_then letters IsTree read F r = pair_reads (λ at. IsIdent letters at) (spelled_at letters) Anything IsTree read F (spelled_reads letters) r (λ y taken rest is after. tt)

pub numeral_then : {A : Type 0} (IsTree : Rule A) (read : List Word → Read A) (F : List Word → Type 0) → Reads IsTree read F → Reads (Both IsPlacedNumber IsTree) (numeral_at ⊗ read) F
numeral_then IsTree read F r = pair_reads IsPlacedNumber numeral_at Anything IsTree read F numeral_reads r (λ y taken rest is after. tt)

pub then_mark : {A : Type 0} (kind : TokenKind) (IsTree : Rule A) (read : List Word → Read A) (F : List Word → Type 0) → Reads IsTree read F → At kind F → Reads (Both IsTree (λ (unit : Unit {0}). IsMark kind)) (read ⊗ mark_at kind) Anything
then_mark kind IsTree read F r ends = pair_reads IsTree read F (λ unit. IsMark kind) (mark_at kind) Anything r (mark_reads kind) (λ y taken rest is after. mark_opens kind F ends taken rest is)

-- items between braces
pub braces_reads : {A : Type 0} (starts : List Word → Bool) (IsInner : Rule A) (inner : List Word → Read A) (F : List Word → Type 0) → Heads starts → starts [] ≡ false → Reads IsInner inner F
    → ((x : A) → Opens (IsInner x) (λ ws. starts ws ≡ true)) → ((ws : List Word) → starts ws ≡ true → F ws) → At kinds.CloseBrace (λ ws. (starts ws ≡ false) × F ws)
    → Reads (IsBlock IsInner) (braces_at starts inner) Anything
braces_reads {A} starts IsInner inner F heads none r begin follow ends =
    made_reads (Both (λ (unit : Unit {0}). IsMark kinds.OpenBrace) IsBody) (mark_at kinds.OpenBrace ⊗ each_at starts inner ⊗ mark_at kinds.CloseBrace) Anything body_of (IsBlock IsInner)
    (mark_then kinds.OpenBrace IsBody (each_at starts inner ⊗ mark_at kinds.CloseBrace) Anything
    (then_mark kinds.CloseBrace (Each IsInner) (each_at starts inner) (λ ws. (starts ws ≡ false) × F ws) (each_reads starts IsInner inner F heads none r begin follow) ends))
    (λ x ws p. p)
    (λ y ws p. ((tt, (y, tt)), refl, p))
  where
    IsBody : Rule (List A × Unit {0})
    IsBody = Both (Each IsInner) (λ (unit : Unit {0}). IsMark kinds.CloseBrace)

-- ---- a chain: one part, and others that each begin with a sign

pub chain_reads : {Part : Type 0} (node : Expr → List Part → Expr) (IsFirst : Rule Expr) (first : List Word → Read Expr) (starts : List Word → Bool) (IsPart : Rule Part) (part : List Word → Read Part) (F : List Word → Type 0)
    → Reads IsFirst first F → Reads IsPart part F → Heads starts → starts [] ≡ false
    → ((x : Part) → Opens (IsPart x) (λ ws. starts ws ≡ true)) → ((ws : List Word) → starts ws ≡ true → F ws)
    → Reads (IsChain node IsFirst IsPart) (made_at (chain_of node) (first ⊗ each_at starts part)) (λ ws. (starts ws ≡ false) × F ws)
chain_reads {Part} node IsFirst first starts IsPart part F r s heads none begin follow =
    made_reads (Both IsFirst (Each IsPart)) (first ⊗ each_at starts part) After (chain_of node) (IsChain node IsFirst IsPart)
    (pair_reads IsFirst first F (Each IsPart) (each_at starts part) After r others meets)
    (λ x ws p. (x.0, x.1, refl, p))
    (λ y ws p. ((p.0, p.1), p.2, p.3))
  where
    After : List Word → Type 0
    After ws = (starts ws ≡ false) × F ws

    others : Reads (Each IsPart) (each_at starts part) After
    others = each_reads starts IsPart part F heads none s begin follow

    meets : (parts : List Part) (taken rest : List Word) → Each IsPart parts taken → After rest → F (taken ++ rest)
    meets parts taken rest each after = each_opens IsPart F (λ x ws rest is. follow (ws ++ rest) (begin x ws rest is)) parts taken rest each after.1

pub image_reads : {A B : Type 0} (IsPart : Rule A) (read : List Word → Read A) (F : List Word → Type 0) (make : A → B) → Reads IsPart read F → Reads (Made make IsPart) (made_at make read) F
image_reads IsPart read F make r = made_reads IsPart read F make (Made make IsPart) r (λ x ws p. (x, refl, p)) (λ y ws p. p)
