-- What follows from the definitions alone.
use Rattle.std.specs.Prelude.{◌≡◌, ℕ, Bool, true, false, List, ◌++◌, Contains}
use Rattle.lang_tree.specs.declared.tree.MethodTree.{MethodTree}
use Rattle.lang_tree.specs.declared.tree.MonitorTree.{MonitorTree}
use Rattle.emit_names.specs.declared.endings.Ending.{Ending}
use Rattle.emit_names.specs.declared.endings.Ending.TheVariants as endings
use Rattle.emit_names.specs.declared.style.Style.{Style}
use Rattle.emit_names.specs.Names.{rust_name, members, member_name, inputs_of, input_name, type_name}
use Rattle.emit_names.specs.Names.{member_names, try_name, try_names, is_try_free, with_name}
use Rattle.emit_names.specs.Names.{with_names, try_with_name, is_with_free, is_try_with_free}
use Rattle.emit_names.specs.Names.{ended_name, other_names, are_lasting_free}
use Rattle.emit_names.specs.Names.{are_lasting_with_free, member_words}
use Rattle.emit_names.specs.Words.{KEYWORDS, TYPE_WORDS, INPUT_WORDS}

-- two names of a scope that are written alike are one, in whatever style each of them is written
abbrev pub NamesStayApart : Type 0
NamesStayApart =
    (words scope : List (List ℕ)) (style other_style : Style) (name other : List ℕ)
    → Contains scope name → Contains scope other
    → rust_name words scope style name ≡ rust_name words scope other_style other
    → name ≡ other

-- so are two constants, fields or methods of a monitor
abbrev pub MembersStayApart : Type 0
MembersStayApart =
    (tree : MonitorTree) (style other_style : Style) (name other : List ℕ)
    → Contains (members tree) name → Contains (members tree) other
    → member_name tree style name ≡ member_name tree other_style other
    → name ≡ other

-- and two parameters or locals of a method
abbrev pub InputsStayApart : Type 0
InputsStayApart =
    (method : MethodTree) (name other : List ℕ)
    → Contains (inputs_of method) name → Contains (inputs_of method) other
    → input_name method name ≡ input_name method other
    → name ≡ other

-- the name of a type is no keyword, and not that of another type of the module
abbrev pub TypesAreNoKeywords : Type 0
TypesAreNoKeywords = (tree : MonitorTree) → Contains (KEYWORDS ++ TYPE_WORDS) (type_name tree) → ⊥

-- so for constants, fields and methods
abbrev pub MembersAreNoKeywords : Type 0
MembersAreNoKeywords =
    (tree : MonitorTree) (style : Style) (name : List ℕ)
    → Contains (KEYWORDS ++ member_words tree) (member_name tree style name) → ⊥

-- and for parameters and locals
abbrev pub InputsAreNoKeywords : Type 0
InputsAreNoKeywords =
    (method : MethodTree) (name : List ℕ)
    → Contains (KEYWORDS ++ INPUT_WORDS) (input_name method name) → ⊥

-- the methods that try are named apart from one another
abbrev pub TriesStayApart : Type 0
TriesStayApart =
    (tree : MonitorTree) (name other : List ℕ)
    → Contains (members tree) name → Contains (members tree) other
    → try_name tree name ≡ try_name tree other
    → name ≡ other

-- a name that is free is not that of a constant, a field or a method
abbrev pub TriesStandFree : Type 0
TriesStandFree =
    (tree : MonitorTree) (name : List ℕ)
    → is_try_free tree name ≡ true → Contains (member_names tree) (try_name tree name) → ⊥

-- and no method that tries is named by a word that has a meaning
abbrev pub TriesAreNoKeywords : Type 0
TriesAreNoKeywords =
    (tree : MonitorTree) (name : List ℕ)
    → Contains (KEYWORDS ++ member_words tree) (try_name tree name) → ⊥

-- the methods whose calls are given a function are named apart from one another
abbrev pub WithsStayApart : Type 0
WithsStayApart =
    (tree : MonitorTree) (name other : List ℕ)
    → Contains (members tree) name → Contains (members tree) other
    → with_name tree name ≡ with_name tree other
    → name ≡ other

-- a name that is free is not that of a constant, a field or a method, nor of one that tries
abbrev pub WithsStandFree : Type 0
WithsStandFree =
    (tree : MonitorTree) (name : List ℕ)
    → is_with_free tree name ≡ true
    → Contains (member_names tree ++ try_names tree) (with_name tree name) → ⊥

-- for calls that try it is not that of one whose calls are given a function either
abbrev pub TryWithsStandFree : Type 0
TryWithsStandFree =
    (tree : MonitorTree) (name : List ℕ)
    → is_try_with_free tree name ≡ true
    → Contains (member_names tree ++ (try_names tree ++ with_names tree)) (try_with_name tree name)
    → ⊥

-- and none of them is named by a word that has a meaning
abbrev pub WithsAreNoKeywords : Type 0
WithsAreNoKeywords =
    (tree : MonitorTree) (name : List ℕ)
    → (Contains (KEYWORDS ++ member_words tree) (with_name tree name) → ⊥)
    × (Contains (KEYWORDS ++ member_words tree) (try_with_name tree name) → ⊥)

-- ---- the methods whose calls have a time

-- the ending is that of such a method
abbrev pub has_time : Ending → Bool
has_time endings.With = false
has_time endings.Until = true
has_time endings.For = true
has_time endings.UntilWith = true
has_time endings.ForWith = true

-- two of them that are written alike have one ending, and are those of one method
abbrev pub LastingStayApart : Type 0
LastingStayApart =
    (tree : MonitorTree) (ending other_ending : Ending) (name other : List ℕ)
    → has_time ending ≡ true → has_time other_ending ≡ true
    → Contains (members tree) name → Contains (members tree) other
    → ended_name tree ending name ≡ ended_name tree other_ending other
    → (ending ≡ other_ending) × (name ≡ other)

-- names that are free are not those of a constant, a field or another method
abbrev pub LastingStandFree : Type 0
LastingStandFree =
    (tree : MonitorTree) (name : List ℕ)
    → are_lasting_free tree name ≡ true
    → (Contains (other_names tree) (ended_name tree endings.Until name) → ⊥)
    × (Contains (other_names tree) (ended_name tree endings.For name) → ⊥)

-- nor are those of the methods whose calls are given a function too
abbrev pub LastingWithsStandFree : Type 0
LastingWithsStandFree =
    (tree : MonitorTree) (name : List ℕ)
    → are_lasting_free tree name ≡ true → are_lasting_with_free tree name ≡ true
    → (Contains (other_names tree) (ended_name tree endings.UntilWith name) → ⊥)
    × (Contains (other_names tree) (ended_name tree endings.ForWith name) → ⊥)

-- and none of them is named by a word that has a meaning
abbrev pub LastingAreNoKeywords : Type 0
LastingAreNoKeywords =
    (tree : MonitorTree) (ending : Ending) (name : List ℕ)
    → has_time ending ≡ true
    → Contains (KEYWORDS ++ member_words tree) (ended_name tree ending name) → ⊥
