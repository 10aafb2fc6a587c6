-- The lines of a text.
use Rattle.std.specs.Prelude.{◌≡◌, ◌==◌, ℕ, ◌-◌, ◌≤◌, List, ◌++◌, All, Some, slice_get, count_by}
use Rattle.std.specs.Prelude.{codes}
use Rattle.lang_printer.specs.Canonical.{all_texts}

-- how many lines a text of lines has: how often the line feed (10) stands in it
abbrev pub lines_in : List ℕ → ℕ
lines_in text = count_by (λ byte. byte == 10) text

-- a line ends in its only line feed
pub record IsLine (text : List ℕ) : Type 0 where
  pub body : List ℕ
  pub ends : text ≡ body ++ codes "\n"
  pub only : lines_in text ≡ 1

-- the text is lines, one after the other, of which this is the one of this number, counted from 1
pub record IsLineOf (text : List ℕ) (number : ℕ) (line : List ℕ) : Type 0 where
  pub lines : List (List ℕ)
  pub each : All IsLine lines
  pub whole : text ≡ all_texts lines
  pub numbered : 1 ≤ number
  pub here : slice_get lines (number - 1) ≡ Some line
