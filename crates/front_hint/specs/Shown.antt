-- What hints show: the line of an offset with a caret under the offset, and what is likely wrong.
use Rattle.std.specs.Prelude.{ℕ, ◌-◌, ◌==◌, List, [], ◌++◌, Option, None, Some, length, map, min}
use Rattle.std.specs.Prelude.{take, drop, reverse, codes, nat_lt, if◌then◌else◌}
use Rattle.std.specs.List.{prefix_len}
use Rattle.lang_base.specs.Lines.{is_in_line}
use Rattle.front_hint.specs.declared.hint.Hint.{Hint}

-- the most bytes of a line that are shown on each side of the place
abbrev pub SIDE_BYTES : ℕ
SIDE_BYTES = 80

-- How a byte of a line is shown, in one column: a letter, a digit, a sign or a blank of ASCII as
-- it is, a byte below these, as a tab, as a blank, and any other as `?`.
abbrev pub shown_byte : ℕ → ℕ
shown_byte byte = if nat_lt byte 32 then 32 else (if nat_lt byte 127 then byte else 63)

-- how many bytes of the line of an offset stand before it: one fewer than its column
abbrev pub indent_at : List ℕ → ℕ → ℕ
indent_at bytes at = prefix_len is_in_line (reverse (take at bytes))

-- the last bytes of the line that stand before the offset
abbrev pub before_place : List ℕ → ℕ → List ℕ
before_place bytes at =
    drop (length (take at bytes) - min (indent_at bytes at) SIDE_BYTES) (take at bytes)

-- the first bytes of the line from the offset on
abbrev pub from_place : List ℕ → ℕ → List ℕ
from_place bytes at =
    take (min (prefix_len is_in_line (drop at bytes)) SIDE_BYTES) (drop at bytes)

-- two parts of a line, and under it a caret between them
abbrev pub line_text : List ℕ → List ℕ → List ℕ
line_text before from =
    codes "  " ++ map shown_byte before ++ map shown_byte from ++ codes "\n  "
    ++ map (λ _. 32) before ++ codes "^\n"

-- the line of an offset, and under it a caret at the offset
abbrev pub caret_text : List ℕ → ℕ → List ℕ
caret_text bytes at = line_text (before_place bytes at) (from_place bytes at)

-- how a byte of a hint is said: as it is, but `?` for one that is no part of a printable text
abbrev pub said_byte : ℕ → ℕ
said_byte byte = if nat_lt byte 32 then 63 else (if byte == 127 then 63 else byte)

-- a hint, in one line
abbrev pub hint_text : Hint → List ℕ
hint_text hint =
    codes "hint: " ++ map said_byte hint.before.now ++ map said_byte hint.first.now
    ++ map said_byte hint.between.now ++ map said_byte hint.second.now
    ++ map said_byte hint.after.now ++ codes "\n"

-- a hint, where there is one
abbrev pub hint_if : Option Hint → List ℕ
hint_if None = []
hint_if (Some hint) = hint_text hint
