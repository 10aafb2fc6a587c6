-- A text, cut into lines from an offset on.
use Rattle.std.specs.Prelude.{ℕ, ◌==◌, nat_le, Bool, not, List, [], drop, length, take}
use Rattle.std.specs.Prelude.{if◌then◌else◌}
use Rattle.std.specs.List.{prefix_len}
use Rattle.emit_comments.specs.Comments.{lines_of}

abbrev pub is_in_line : ℕ → Bool
is_in_line b = not (b == 10)

-- the bytes up to the first line feed
abbrev pub cut_line : List ℕ → List ℕ
cut_line rest = take (prefix_len is_in_line rest) rest

-- the line that begins at an offset
abbrev pub line_at : List ℕ → ℕ → List ℕ
line_at text at = cut_line (drop at text)

-- the lines from an offset on, none past the end
abbrev pub lines_at : List ℕ → ℕ → List (List ℕ)
lines_at text at = if nat_le at (length text) then lines_of (drop at text) else []
