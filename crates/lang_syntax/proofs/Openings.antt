-- What is so of words, by the first of them.
use Rattle.std.proofs.Common.{◌≡◌, ℕ, Bool, true, false, List, [], ◌∷◌, ◌++◌, Option, Some, None, refl, sym, ap, subst, ◌∙◌, inl, inr, append_assoc}
use Rattle.lang_tokens.specs.declared.token.TokenKind.{TokenKind}
use Rattle.lang_tree.specs.declared.tree.Expr.{Expr}
use Rattle.lang_tokens.specs.Words.{Word, ident, numeral, mark}
use Rattle.lang_syntax.specs.Grammar.{Rule, ◌⌢◌, Each, IsIdent, IsSpelled, IsNumeral, IsMarkAt, IsMark, truth_word, IsAtom}
use Rattle.lang_cursor.specs.Reading.{is_listed, begins, begins_listed, begins_ident}
use Rattle.lang_syntax.proofs.WordReads.{same_kind, same_is_kind, IfListed}

-- the fact holds of these words, whatever comes after
abbrev pub Opens : (List Word → Type 0) → (List Word → Type 0) → Type 0
Opens Are Fact = (ws rest : List Word) → Are ws → Fact (ws ++ rest)

-- the fact holds wherever this keyword or sign comes first
abbrev pub At : TokenKind → (List Word → Type 0) → Type 0
At kind Fact = (at : ℕ) (rest : List Word) → Fact (mark kind at ∷ rest)

pub mark_opens : (kind : TokenKind) (Fact : List Word → Type 0) → At kind Fact → Opens (IsMark kind) Fact
mark_opens kind Fact so ws rest is = subst (λ (f : List Word). Fact (f ++ rest)) (sym is.1) (so is.0 rest)

pub placed_opens : (kind : TokenKind) (at : ℕ) (Fact : List Word → Type 0) → At kind Fact → Opens (IsMarkAt kind at) Fact
placed_opens kind at Fact so ws rest is = subst (λ (f : List Word). Fact (f ++ rest)) (sym is) (so at rest)

pub ident_opens : (name : List ℕ) (at : ℕ) (Fact : List Word → Type 0) → ((rest : List Word) → Fact (ident name at ∷ rest)) → Opens (IsIdent name at) Fact
ident_opens name at Fact so ws rest is = subst (λ (f : List Word). Fact (f ++ rest)) (sym is) (so rest)

pub spelled_opens : (letters : List ℕ) (Fact : List Word → Type 0) → ((at : ℕ) (rest : List Word) → Fact (ident letters at ∷ rest)) → Opens (IsSpelled letters) Fact
spelled_opens letters Fact so ws rest is = ident_opens letters is.0 Fact (so is.0) ws rest is.1

pub numeral_opens : (value at : ℕ) (Fact : List Word → Type 0) → ((rest : List Word) → Fact (numeral value at ∷ rest)) → Opens (IsNumeral value at) Fact
numeral_opens value at Fact so ws rest is = subst (λ (f : List Word). Fact (f ++ rest)) (sym is) (so rest)

pub then_opens : (First Second Fact : List Word → Type 0) → Opens First Fact → Opens (First ⌢ Second) Fact
then_opens First Second Fact so ws rest p = subst Fact (sym (ap (λ (f : List Word). f ++ rest) p.4 ∙ append_assoc p.0 p.1 rest)) (so p.0 (p.1 ++ rest) p.2)

-- the fact holds after any number of items too, where it holds of what follows them
pub each_opens : {Tree : Type 0} (IsTree : Rule Tree) (Fact : List Word → Type 0) → ((tree : Tree) → Opens (IsTree tree) Fact) → (trees : List Tree) (ws rest : List Word) → Each IsTree trees ws → Fact rest → Fact (ws ++ rest)
each_opens IsTree Fact so [] ws rest none after = subst (λ (f : List Word). Fact (f ++ rest)) (sym none) after
each_opens IsTree Fact so (tree ∷ trees) ws rest each after = then_opens (IsTree tree) (Each IsTree trees) Fact (so tree) ws rest each

-- the same, where words of another rule come after the items
pub items_open : {Tree : Type 0} (IsTree : Rule Tree) (Second Fact : List Word → Type 0) → ((tree : Tree) → Opens (IsTree tree) Fact) → Opens Second Fact → (trees : List Tree) → Opens (Each IsTree trees ⌢ Second) Fact
items_open IsTree Second Fact so after trees ws rest p =
    subst Fact (sym (ap (λ (f : List Word). f ++ rest) p.4 ∙ append_assoc p.0 p.1 rest)) (each_opens IsTree Fact so trees p.0 (p.1 ++ rest) p.2 (after p.1 rest p.3))

pub atom_opens : (Fact : List Word → Type 0) → ((value at : ℕ) (rest : List Word) → Fact (numeral value at ∷ rest)) → ((name : List ℕ) (at : ℕ) (rest : List Word) → Fact (ident name at ∷ rest)) → ((value : Bool) → At (truth_word value) Fact)
    → (x : Expr) → Opens (IsAtom x) Fact
atom_opens Fact of_number of_name of_truth x ws rest (inl p) = numeral_opens p.0 p.1 Fact (of_number p.0 p.1) ws rest p.3
atom_opens Fact of_number of_name of_truth x ws rest (inr (inl p)) = placed_opens (truth_word p.0) p.1 Fact (of_truth p.0) ws rest p.3
atom_opens Fact of_number of_name of_truth x ws rest (inr (inr p)) = ident_opens p.0 p.1 Fact (of_name p.0 p.1) ws rest p.3

-- ---- what a test of the next word says

pub begins_none : (kind : TokenKind) → begins kind [] ≡ false
unfolding begins
begins_none kind = refl

pub listed_none : {A : Type 0} (table : TokenKind → Option A) → begins_listed table [] ≡ false
unfolding begins_listed
listed_none table = refl

pub begins_at : (kind : TokenKind) → At kind (λ ws. begins kind ws ≡ true)
unfolding begins
begins_at kind at rest = same_is_kind kind

pub begun : (kind : TokenKind) (Fact : List Word → Type 0) → At kind Fact → (ws : List Word) → begins kind ws ≡ true → Fact ws
unfolding begins
begun kind Fact so [] h = absurd cc
begun kind Fact so (mark k at ∷ rest) h = subst (λ (j : TokenKind). Fact (mark j at ∷ rest)) (sym (same_kind k kind h)) (so at rest)
begun kind Fact so (ident name at ∷ rest) h = absurd cc
begun kind Fact so (numeral value at ∷ rest) h = absurd cc

pub listed_begun : {A : Type 0} (table : TokenKind → Option A) (word : A → TokenKind) → ((k : TokenKind) → IfListed word (table k) k) → (Fact : List Word → Type 0) → ((a : A) → At (word a) Fact)
    → (ws : List Word) → begins_listed table ws ≡ true → Fact ws
unfolding begins_listed
listed_begun table word is_word Fact so [] h = absurd cc
listed_begun {A} table word is_word Fact so (mark k at ∷ rest) h = by_table (table k) h (is_word k)
  where
    by_table : (o : Option A) → is_listed o ≡ true → IfListed word o k → Fact (mark k at ∷ rest)
    by_table (Some a) h is = subst (λ (j : TokenKind). Fact (mark j at ∷ rest)) (sym is) (so a at rest)
    by_table None h is = absurd cc
listed_begun table word is_word Fact so (ident name at ∷ rest) h = absurd cc
listed_begun table word is_word Fact so (numeral value at ∷ rest) h = absurd cc

pub ident_begun : (Fact : List Word → Type 0) → ((name : List ℕ) (at : ℕ) (rest : List Word) → Fact (ident name at ∷ rest)) → (ws : List Word) → begins_ident ws ≡ true → Fact ws
unfolding begins_ident
ident_begun Fact so [] h = absurd cc
ident_begun Fact so (mark k at ∷ rest) h = absurd cc
ident_begun Fact so (ident name at ∷ rest) h = so name at rest
ident_begun Fact so (numeral value at ∷ rest) h = absurd cc
