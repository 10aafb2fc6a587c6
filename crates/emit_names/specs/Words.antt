-- The words that have a meaning in Rust, or in an emitted module.
use Rattle.std.specs.Prelude.{ℕ, List, [], ◌∷◌, codes}

-- the keywords of all editions, and those that are reserved
abbrev pub KEYWORDS : List (List ℕ)
KEYWORDS =
    codes "as" ∷ codes "break" ∷ codes "const" ∷ codes "continue" ∷ codes "crate" ∷ codes "else" ∷
    codes "enum" ∷ codes "extern" ∷ codes "false" ∷ codes "fn" ∷ codes "for" ∷ codes "if" ∷
    codes "impl" ∷ codes "in" ∷ codes "let" ∷ codes "loop" ∷ codes "match" ∷ codes "mod" ∷
    codes "move" ∷ codes "mut" ∷ codes "pub" ∷ codes "ref" ∷ codes "return" ∷ codes "self" ∷
    codes "Self" ∷ codes "static" ∷ codes "struct" ∷ codes "super" ∷ codes "trait" ∷ codes "true" ∷
    codes "type" ∷ codes "unsafe" ∷ codes "use" ∷ codes "where" ∷ codes "while" ∷ codes "async" ∷
    codes "await" ∷ codes "dyn" ∷ codes "abstract" ∷ codes "become" ∷ codes "box" ∷ codes "do" ∷
    codes "final" ∷ codes "gen" ∷ codes "macro" ∷ codes "override" ∷ codes "priv" ∷ codes "try" ∷
    codes "typeof" ∷ codes "unsized" ∷ codes "virtual" ∷ codes "yield" ∷ []

-- other types of a module
abbrev pub TYPE_WORDS : List (List ℕ)
TYPE_WORDS =
    codes "Inner" ∷ codes "State" ∷ codes "Overflow" ∷ codes "Refused" ∷ codes "Failed" ∷
    codes "Mutex" ∷ codes "MutexGuard" ∷ codes "Condvar" ∷ codes "PoisonError" ∷ codes "Default" ∷
    codes "From" ∷ codes "Result" ∷ codes "Drop" ∷ codes "FnOnce" ∷ codes "HandOn" ∷ codes "D" ∷
    codes "R" ∷ codes "Duration" ∷ codes "Instant" ∷ codes "Option" ∷ []

-- the other functions of a monitor's type
abbrev pub MEMBER_WORDS : List (List ℕ)
MEMBER_WORDS =
    codes "new" ∷ codes "with_data" ∷ codes "get_mut" ∷ codes "into_inner" ∷
    codes "is_poisoned" ∷ []

-- what else is named in the functions that open a monitor which has parameters
abbrev pub CHOICE_WORDS : List (List ℕ)
CHOICE_WORDS =
    codes "admits" ∷ codes "data" ∷ codes "Ok" ∷ codes "Err" ∷ codes "Some" ∷ codes "None" ∷
    codes "Overflow" ∷ codes "Refused" ∷ codes "HandOn" ∷ []

-- what else is named in the methods of a module
abbrev pub INPUT_WORDS : List (List ℕ)
INPUT_WORDS =
    codes "inner" ∷ codes "copy" ∷ codes "next" ∷ codes "answer" ∷ codes "f" ∷ codes "hand" ∷
    codes "result" ∷ codes "end" ∷ codes "time" ∷ codes "left" ∷ codes "lock" ∷ codes "wait" ∷
    codes "wait_for" ∷ codes "time_left" ∷ codes "narrow" ∷ codes "whole" ∷ codes "drop" ∷
    codes "Ok" ∷ codes "Err" ∷ codes "Some" ∷ codes "None" ∷ codes "Overflow" ∷ codes "Refused" ∷
    codes "HandOn" ∷ []
