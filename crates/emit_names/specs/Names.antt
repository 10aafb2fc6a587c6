-- Names as Rust has them.
use Rattle.std.specs.Prelude.{ℕ, Bool, true, false, not, ◌&&◌, ◌||◌, ◌==◌, List, [], ◌∷◌, ◌++◌}
use Rattle.std.specs.Prelude.{map, codes, if◌then◌else◌}
use Rattle.std.specs.List.{list_all, list_any}
use Rattle.std.specs.Str.{bytes_eq}
use Rattle.lang_tree.specs.declared.tree.Decl.{Decl}
use Rattle.lang_tree.specs.declared.tree.Decl.TheVariants as decls
use Rattle.lang_tree.specs.declared.tree.MethodTree.{MethodTree}
use Rattle.lang_tree.specs.declared.tree.MonitorTree.{MonitorTree}
use Rattle.lang_tree.specs.Names.{declared_name}
use Rattle.emit_names.specs.declared.endings.Ending.{Ending}
use Rattle.emit_names.specs.declared.endings.Ending.TheVariants as endings
use Rattle.emit_names.specs.declared.style.Style.{Style}
use Rattle.emit_names.specs.declared.style.Style.TheVariants as styles
use Rattle.emit_names.specs.Letters.{camel, snake, spelled}
use Rattle.emit_names.specs.Words.{KEYWORDS, TYPE_WORDS, MEMBER_WORDS, CHOICE_WORDS, INPUT_WORDS}

-- ---- words that have a meaning

-- the word, and then `_` alone
abbrev pub is_shifted : List ℕ → List ℕ → Bool
is_shifted [] text = list_all (λ b. b == 95) text
is_shifted (first ∷ word) [] = false
is_shifted (first ∷ word) (b ∷ text) = first == b && is_shifted word text

-- one of these words, and then `_` alone
abbrev pub is_any_shifted : List (List ℕ) → List ℕ → Bool
is_any_shifted words text = list_any (λ word. is_shifted word text) words

-- `_` alone, or a keyword or one of these words with any number of `_`
abbrev pub is_escaped : List (List ℕ) → List ℕ → Bool
is_escaped words text =
    is_shifted [] text || (is_any_shifted KEYWORDS text || is_any_shifted words text)

-- what comes after such a name: `match` becomes `match_`, and `match_` becomes `match__`
abbrev pub escape_text : Bool → List ℕ
escape_text true = codes "_"
escape_text false = []

abbrev pub escaped : List (List ℕ) → List ℕ → List ℕ
escaped words text = text ++ escape_text (is_escaped words text)

-- ---- names of one scope

-- another name has the same snake form
abbrev pub meets : List ℕ → List ℕ → Bool
meets name other = not (bytes_eq other name) && bytes_eq (snake other) (snake name)

-- no other name of the scope has its snake form
abbrev pub is_alone : List (List ℕ) → List ℕ → Bool
is_alone scope name = not (list_any (meets name) scope)

-- a name that is not alone is written as it stands
abbrev pub style_in : List (List ℕ) → Style → List ℕ → Style
style_in scope style name = if is_alone scope name then style else styles.Kept

-- a name of a scope, where these words have a meaning
abbrev pub rust_name : List (List ℕ) → List (List ℕ) → Style → List ℕ → List ℕ
rust_name words scope style name =
    escaped words (spelled (style_in scope style name) 0 name)

-- ---- the names of a monitor

-- it is chosen when a monitor is opened
abbrev pub is_parameter : Decl → Bool
is_parameter (decls.Const at name value) = false
is_parameter (decls.Param at name value limit) = true
is_parameter (decls.Int at name value) = false
is_parameter (decls.Copied at name source) = false
is_parameter (decls.Flag at name value) = false

-- some declaration is that of a parameter
abbrev pub has_parameters : MonitorTree → Bool
has_parameters tree = list_any is_parameter tree.decls

-- the words that have a meaning among the members of a monitor, by whether it has parameters
abbrev pub words_by : Bool → List (List ℕ)
words_by true = MEMBER_WORDS ++ CHOICE_WORDS
words_by false = MEMBER_WORDS

abbrev pub member_words : MonitorTree → List (List ℕ)
member_words tree = words_by (has_parameters tree)

-- constants, fields and methods
abbrev pub members : MonitorTree → List (List ℕ)
members tree = map declared_name tree.decls ++ map (λ method. method.name) tree.methods

-- parameters and locals
abbrev pub inputs_of : MethodTree → List (List ℕ)
inputs_of method = map (λ input. input.name) method.inputs ++ map declared_name method.locals

abbrev pub type_name : MonitorTree → List ℕ
type_name tree = escaped TYPE_WORDS (camel tree.name)

-- constants in upper-case letters, fields and methods in snake case
abbrev pub member_name : MonitorTree → Style → List ℕ → List ℕ
member_name tree = rust_name (member_words tree) (members tree)

abbrev pub input_name : MethodTree → List ℕ → List ℕ
input_name method = rust_name INPUT_WORDS (inputs_of method) styles.Snake

-- ---- the methods that try

-- constants in upper-case letters, fields and parameters in snake case
abbrev pub declared_style : Decl → Style
declared_style (decls.Const at name value) = styles.Upper
declared_style (decls.Param at name value limit) = styles.Snake
declared_style (decls.Int at name value) = styles.Snake
declared_style (decls.Copied at name source) = styles.Snake
declared_style (decls.Flag at name value) = styles.Snake

-- what a constant or a field is written as
abbrev pub declared_text : MonitorTree → Decl → List ℕ
declared_text tree declared = member_name tree (declared_style declared) (declared_name declared)

abbrev pub method_name : MonitorTree → MethodTree → List ℕ
method_name tree method = member_name tree styles.Snake method.name

-- what the constants, fields and methods of a monitor are written as
abbrev pub member_names : MonitorTree → List (List ℕ)
member_names tree = map (declared_text tree) tree.decls ++ map (method_name tree) tree.methods

-- `try_put` does what `put` does, and does not wait
abbrev pub try_name : MonitorTree → List ℕ → List ℕ
try_name tree name = codes "try_" ++ member_name tree styles.Snake name

-- the names of all methods that may try
abbrev pub try_names : MonitorTree → List (List ℕ)
try_names tree = map (λ method. try_name tree method.name) tree.methods

-- ---- the methods whose calls are given a function, or have a time, or both

abbrev pub ending_text : Ending → List ℕ
ending_text endings.With = codes "_with"
ending_text endings.Until = codes "_until"
ending_text endings.For = codes "_for"
ending_text endings.UntilWith = codes "_until_with"
ending_text endings.ForWith = codes "_for_with"

abbrev pub ended_name : MonitorTree → Ending → List ℕ → List ℕ
ended_name tree ending name = member_name tree styles.Snake name ++ ending_text ending

-- `put_with` does what `put` does, and calls a function with the data
abbrev pub with_name : MonitorTree → List ℕ → List ℕ
with_name tree = ended_name tree endings.With

-- `try_put_with` does not wait
abbrev pub try_with_name : MonitorTree → List ℕ → List ℕ
try_with_name tree name = codes "try_" ++ with_name tree name

-- the names of all methods that may
abbrev pub with_names : MonitorTree → List (List ℕ)
with_names tree = map (λ method. with_name tree method.name) tree.methods

abbrev pub try_with_names : MonitorTree → List (List ℕ)
try_with_names tree = map (λ method. try_with_name tree method.name) tree.methods

-- what else is named in a module's type beside the methods whose calls have a time
abbrev pub other_names : MonitorTree → List (List ℕ)
other_names tree =
    (member_names tree ++ try_names tree) ++ (with_names tree ++ try_with_names tree)

-- ---- whether a name is free

-- no constant, field or method of the monitor is written so
abbrev pub is_try_free : MonitorTree → List ℕ → Bool
is_try_free tree name = not (list_any (bytes_eq (try_name tree name)) (member_names tree))

-- nor a method that tries
abbrev pub is_ended_free : MonitorTree → Ending → List ℕ → Bool
is_ended_free tree ending name =
    not (list_any (bytes_eq (ended_name tree ending name)) (member_names tree ++ try_names tree))

abbrev pub is_with_free : MonitorTree → List ℕ → Bool
is_with_free tree = is_ended_free tree endings.With

-- where the others are free too
abbrev pub is_try_with_free : MonitorTree → List ℕ → Bool
is_try_with_free tree name =
    not (list_any (bytes_eq (try_with_name tree name)) (member_names tree))
    && (is_try_free tree name && is_with_free tree name)

-- `put_until` and `put_for`: calls that wait until a time, and for one, which calls the other
abbrev pub are_lasting_free : MonitorTree → List ℕ → Bool
are_lasting_free tree name =
    is_ended_free tree endings.Until name && is_ended_free tree endings.For name

-- `put_until_with` and `put_for_with`, which may call `put_with`
abbrev pub are_lasting_with_free : MonitorTree → List ℕ → Bool
are_lasting_with_free tree name =
    is_with_free tree name
    && (is_ended_free tree endings.UntilWith name && is_ended_free tree endings.ForWith name)
