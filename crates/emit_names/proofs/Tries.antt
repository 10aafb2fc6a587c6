-- The names of the methods that try.
use Rattle.std.proofs.Common.{◌≡◌, ℕ, Bool, true, false, not, ◌&&◌, ◌==◌, List, [], ◌∷◌, ◌++◌, ◌∙◌, codes, refl, sym, ap}
use Rattle.std.specs.List.{Contains, list_all, list_any}
use Rattle.std.specs.Str.{bytes_eq}
use Rattle.std.proofs.lemmas.Bool.{false≢true}
use Rattle.std.proofs.lemmas.List.{append_cancel_left}
use Rattle.std.proofs.lemmas.List.Folds.{list_all_at, list_any-from_Any}
use Rattle.std.proofs.lemmas.Slice.Eq.{bytes_eq-Decides}
use Rattle.emit_names.specs.declared.style.Style.TheVariants as styles
use Rattle.emit_names.specs.Words.{KEYWORDS}
use Rattle.emit_names.specs.Names.{has_parameters, member_name, member_names, member_words, try_name, words_by}
use Rattle.emit_names.specs.Laws.{TriesStayApart, TriesStandFree, TriesAreNoKeywords}
use Rattle.emit_names.proofs.Apart.{members_apart, not_true}

pub tries_apart : TriesStayApart
tries_apart tree name other here there same =
    members_apart tree styles.Snake styles.Snake name other here there
    (append_cancel_left (codes "try_") (member_name tree styles.Snake name) (member_name tree styles.Snake other) same)

pub tries_free : TriesStandFree
tries_free tree name free (k, within, at) =
    let some = list_any-from_Any (bytes_eq (try_name tree name)) (member_names tree) (k, try_name tree name, within, at, (bytes_eq-Decides (try_name tree name) (try_name tree name)).1 refl) in
    false≢true (sym (not_true (list_any (bytes_eq (try_name tree name)) (member_names tree)) free) ∙ some)

-- it does not begin as the name of a method that tries
abbrev pub is_other : List ℕ → Bool
is_other (t ∷ r ∷ y ∷ line ∷ more) = not (t == 116 && r == 114 && y == 121 && line == 95)
is_other (t ∷ r ∷ y ∷ []) = true
is_other (t ∷ r ∷ []) = true
is_other (t ∷ []) = true
is_other [] = true

pub no_word : (words : List (List ℕ)) (text : List ℕ) → list_all is_other words ≡ true → Contains words (codes "try_" ++ text) → ⊥
no_word words text others (k, within, at) = false≢true (sym (list_all_at is_other words k (codes "try_" ++ text) within (ap is_other at)) ∙ others)

pub all_other : (has : Bool) → list_all is_other (KEYWORDS ++ words_by has) ≡ true
all_other true = refl
all_other false = refl

pub tries_stay : TriesAreNoKeywords
tries_stay tree name = no_word (KEYWORDS ++ member_words tree) (member_name tree styles.Snake name) (all_other (has_parameters tree))
