-- Words that are known but for their offsets, cut into parts.
use Rattle.std.proofs.Common.{◌≡◌, ℕ, List, [], ◌∷◌, ◌++◌, map, refl, sym, ap, subst, ◌∙◌, append-nil}
use Rattle.std.specs.List.{flat_map}
use Rattle.lang_tokens.specs.declared.token.TokenKind.{TokenKind}
use Rattle.lang_tokens.specs.Words.{Word, ident, numeral, mark}
use Rattle.lang_syntax.specs.Grammar.{Rule, Each, OneOrMore, IsIdent, IsNumeral, IsMarkAt, IsMark}
use Rattle.lang_syntax.proofs.CanonicalWords.{bare}

-- the words of a first rule, and what the rest is but for offsets
pub record Cut (First : List Word → Type 0) (us printed : List Word) : Type 0 where
  pub front : List Word
  pub rest : List Word
  pub first : First front
  pub is : printed ≡ front ++ rest
  pub bare_rest : map bare rest ≡ us

-- Words that are these but for offsets are another tree's by this rule, one of the same kind.
abbrev pub Again : {Tree View : Type 0} → Rule Tree → (Tree → View) → View → List Word → Type 0
Again {Tree} IsTree view seen us = (printed : List Word) → map bare printed ≡ us → (again : Tree) × IsTree again printed × (view again ≡ seen)

-- ---- single words

pub cut_mark_at : (kind : TokenKind) (us printed : List Word) → map bare printed ≡ mark kind 0 ∷ us → (at : ℕ) × Cut (IsMarkAt kind at) us printed
cut_mark_at kind us [] h = absurd cc
cut_mark_at kind us (ident name at ∷ printed) h = absurd cc
cut_mark_at kind us (numeral value at ∷ printed) h = absurd cc
cut_mark_at kind us (mark k at ∷ printed) h = (at, record { front = mark kind at ∷ []; rest = printed; first = refl; is = cc; bare_rest = cc })

pub cut_mark : (kind : TokenKind) (us printed : List Word) → map bare printed ≡ mark kind 0 ∷ us → Cut (IsMark kind) us printed
cut_mark kind us printed h =
    let c = cut_mark_at kind us printed h in
    record { front = c.1.front; rest = c.1.rest; first = (c.0, c.1.first); is = c.1.is; bare_rest = c.1.bare_rest }

pub cut_ident : (name : List ℕ) (us printed : List Word) → map bare printed ≡ ident name 0 ∷ us → (at : ℕ) × Cut (IsIdent name at) us printed
cut_ident name us [] h = absurd cc
cut_ident name us (mark kind at ∷ printed) h = absurd cc
cut_ident name us (numeral value at ∷ printed) h = absurd cc
cut_ident name us (ident n at ∷ printed) h = (at, record { front = ident name at ∷ []; rest = printed; first = refl; is = cc; bare_rest = cc })

pub cut_numeral : (value : ℕ) (us printed : List Word) → map bare printed ≡ numeral value 0 ∷ us → (at : ℕ) × Cut (IsNumeral value at) us printed
cut_numeral value us [] h = absurd cc
cut_numeral value us (mark kind at ∷ printed) h = absurd cc
cut_numeral value us (ident name at ∷ printed) h = absurd cc
cut_numeral value us (numeral v at ∷ printed) h = (at, record { front = numeral value at ∷ []; rest = printed; first = refl; is = cc; bare_rest = cc })

pub no_words : (printed : List Word) → map bare printed ≡ [] → printed ≡ []
no_words [] h = refl
no_words (w ∷ printed) h = absurd cc

-- the words of a rule where no others follow
pub alone : (First : List Word → Type 0) (printed : List Word) → Cut First [] printed → First printed
alone First printed c = subst First (sym (c.is ∙ ap (λ rest. c.front ++ rest) (no_words c.rest c.bare_rest) ∙ append-nil c.front)) c.first

pub last_mark : (kind : TokenKind) (printed : List Word) → map bare printed ≡ mark kind 0 ∷ [] → IsMark kind printed
last_mark kind printed h = alone (IsMark kind) printed (cut_mark kind [] printed h)

-- ---- rows of words

pub cut_words : (us vs printed : List Word) → map bare printed ≡ us ++ vs → Cut (λ front. map bare front ≡ us) vs printed
cut_words [] vs printed h = record { front = []; rest = printed; first = refl; is = refl; bare_rest = h }
cut_words (u ∷ us) vs [] h = absurd cc
cut_words (u ∷ us) vs (w ∷ printed) h =
    let more = cut_words us vs printed cc in
    let one : bare w ≡ u = cc in
    record { front = w ∷ more.front; rest = more.rest; first = ap (λ v. v ∷ map bare more.front) one ∙ ap (λ ws. u ∷ ws) more.first; is = ap (λ ws. w ∷ ws) more.is; bare_rest = more.bare_rest }

-- a tree that is derived again from the first words, and the rest
pub record Found {Tree View : Type 0} (IsTree : Rule Tree) (view : Tree → View) (seen : View) (us printed : List Word) : Type 0 where
  pub again : Tree
  pub cut : Cut (IsTree again) us printed
  pub same : view again ≡ seen

pub cut_tree : {Tree View : Type 0} {IsTree : Rule Tree} {view : Tree → View} {seen : View} {us : List Word} → Again IsTree view seen us
    → (vs printed : List Word) → map bare printed ≡ us ++ vs → Found IsTree view seen vs printed
cut_tree {us = us} again vs printed h =
    let c = cut_words us vs printed h in
    let a = again c.front c.first in
    record { again = a.0; cut = record { front = c.front; rest = c.rest; first = a.1; is = c.is; bare_rest = c.bare_rest }; same = a.2 }

-- trees one after the other, each of which is derived from its words again
pub each_again : {Tree View : Type 0} (IsTree IsNew : Rule Tree) (view : Tree → View) (words : Tree → List Word)
    → ((tree : Tree) (ws : List Word) → IsTree tree ws → Again IsNew view (view tree) (words tree))
    → (trees : List Tree) (ws : List Word) → Each IsTree trees ws → Again (Each IsNew) (map view) (map view trees) (flat_map words trees)
each_again IsTree IsNew view words one [] ws each = λ printed h. ([], no_words printed h, refl)
each_again IsTree IsNew view words one (tree ∷ trees) ws each = λ printed h.
    let first = cut_tree (one tree each.0 each.2) (flat_map words trees) printed h in
    let others = each_again IsTree IsNew view words one trees each.1 each.3 first.cut.rest first.cut.bare_rest in
    (first.again ∷ others.0, (first.cut.front, first.cut.rest, first.cut.first, others.1, first.cut.is), ap (λ seen. seen ∷ map view others.0) first.same ∙ ap (λ seen. view tree ∷ seen) others.2)

pub more_again : {Tree View : Type 0} (IsTree IsNew : Rule Tree) (view : Tree → View) (words : Tree → List Word)
    → ((tree : Tree) (ws : List Word) → IsTree tree ws → Again IsNew view (view tree) (words tree))
    → (trees : List Tree) (ws : List Word) → OneOrMore IsTree trees ws → Again (OneOrMore IsNew) (map view) (map view trees) (flat_map words trees)
more_again IsTree IsNew view words one [] ws more = absurd more
more_again IsTree IsNew view words one (tree ∷ trees) ws more = λ printed h.
    let first = cut_tree (one tree more.0 more.2) (flat_map words trees) printed h in
    let others = each_again IsTree IsNew view words one trees more.1 more.3 first.cut.rest first.cut.bare_rest in
    (first.again ∷ others.0, (first.cut.front, first.cut.rest, first.cut.first, others.1, first.cut.is), ap (λ seen. seen ∷ map view others.0) first.same ∙ ap (λ seen. view tree ∷ seen) others.2)

-- a rule within another
abbrev pub Within : {Tree : Type 0} → Rule Tree → Rule Tree → Type 0
Within {Tree} IsTree IsNew = (tree : Tree) (ws : List Word) → IsTree tree ws → IsNew tree ws

pub each_within : {Tree : Type 0} (IsTree IsNew : Rule Tree) → Within IsTree IsNew → Within (Each IsTree) (Each IsNew)
each_within IsTree IsNew within [] ws each = each
each_within IsTree IsNew within (tree ∷ trees) ws each = (each.0, each.1, within tree each.0 each.2, each_within IsTree IsNew within trees each.1 each.3, each.4)
