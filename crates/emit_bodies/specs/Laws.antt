-- What follows from the definitions alone.
use Rattle.std.specs.Prelude.{◌≡◌, ℕ, ◌≤◌, ◌<◌, ◌^◌, ◌⊎◌, List, [], ◌∷◌, ◌++◌, codes, Contains}
use Rattle.lang_tree.specs.declared.tree.MethodTree.{MethodTree}
use Rattle.lang_tree.specs.declared.tree.MonitorTree.{MonitorTree}
use Rattle.emit_names.specs.Words.{KEYWORDS}
use Rattle.emit_bodies.specs.Blocks.{block_name}

-- The word of a test of a guard, and of the condition variable beside it, of a function that runs a
-- body, or of how many sleep on the condition.
abbrev pub IsBlockWord : List ℕ → Type 0
IsBlockWord word =
    (word ≡ codes "can") ⊎ ((word ≡ codes "run") ⊎ (word ≡ codes "asleep"))

-- the number, from 1 and below 2^64, of a block among those of its method
abbrev pub IsBlockNumber : ℕ → Type 0
IsBlockNumber number = (1 ≤ number) × (number < 2 ^ 64)

-- names of blocks of a monitor's methods that are written alike have one word, one number and the
-- name of one method
abbrev pub BlockNamesStayApart : Type 0
BlockNamesStayApart =
    (tree : MonitorTree) (method other_method : MethodTree) (word other_word : List ℕ)
    (number other_number : ℕ)
    → Contains tree.methods method → Contains tree.methods other_method
    → IsBlockWord word → IsBlockWord other_word
    → IsBlockNumber number → IsBlockNumber other_number
    → block_name tree method word number ≡ block_name tree other_method other_word other_number
    → (word ≡ other_word) × (number ≡ other_number) × (method.name ≡ other_method.name)

-- what else stands where they do: the state at its start beside the functions of the state, the
-- state and the data beside the counts, and all of them behind the mutex beside the condition
-- variables
abbrev pub BLOCK_WORDS : List (List ℕ)
BLOCK_WORDS = codes "START" ∷ codes "state" ∷ codes "data" ∷ codes "inner" ∷ []

-- no name of a block is a keyword, or a word that stands beside it
abbrev pub BlockNamesAreNoKeywords : Type 0
BlockNamesAreNoKeywords =
    (tree : MonitorTree) (method : MethodTree) (word : List ℕ) (number : ℕ)
    → Contains (KEYWORDS ++ BLOCK_WORDS) (block_name tree method word number) → ⊥
