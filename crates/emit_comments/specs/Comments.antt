-- The comments directly above a line of a text, and the docs that are made of them.
use Rattle.std.specs.Prelude.{ℕ, ◌+◌, ◌-◌, ◌==◌, nat_le, Bool, false, not, ◌&&◌, ◌||◌}
use Rattle.std.specs.Prelude.{List, [], ◌∷◌, ◌++◌, codes, length, take, drop, count_by}
use Rattle.std.specs.Prelude.{if◌then◌else◌}
use Rattle.std.specs.List.{flat_map, list_all, list_any, enumerate_from, prefix_len, suffix_len}
use Rattle.std.specs.List.{slice_split}
use Rattle.std.specs.Char.{is_ascii_whitespace}
use Rattle.lang_base.specs.Identifiers.{is_digit, is_word_byte}

-- ---- lines, by their numbers from 0

abbrev pub lines_of : List ℕ → List (List ℕ)
lines_of text = slice_split (λ b. b == 10) text

-- the line of an offset
abbrev pub line_of : List ℕ → ℕ → ℕ
line_of text at = count_by (λ b. b == 10) (take at text)

-- ---- one line

-- without blanks at its begin
abbrev pub unindented : List ℕ → List ℕ
unindented text = drop (prefix_len is_ascii_whitespace text) text

-- without blanks at both ends
abbrev pub trimmed : List ℕ → List ℕ
trimmed text =
    let rest = unindented text in take (length rest - suffix_len is_ascii_whitespace rest) rest

-- the text begins with `//`
abbrev pub begins_slashed : List ℕ → Bool
begins_slashed [] = false
begins_slashed (a ∷ []) = false
begins_slashed (a ∷ b ∷ text) = a == 47 && b == 47

-- nothing but a comment stands in the line
abbrev pub is_comment : List ℕ → Bool
is_comment line = begins_slashed (unindented line)

-- what the comment of such a line says
abbrev pub comment_of : List ℕ → List ℕ
comment_of line = trimmed (drop 2 (unindented line))

-- no token stands in the line
abbrev pub is_spare : List ℕ → Bool
is_spare line = length (unindented line) == 0 || is_comment line

-- the first line in which one stands
abbrev pub first_line : List ℕ → ℕ
first_line text = prefix_len is_spare (lines_of text)

-- ---- the comments above a line

-- nothing but a comment that says nothing stands in the line
abbrev pub is_empty_comment : List ℕ → Bool
is_empty_comment line = is_comment line && length (comment_of line) == 0

-- So many comments, of which so many say nothing: where none says anything, there are none.
abbrev pub said_count : ℕ → ℕ → ℕ
said_count run empty = if empty == run then 0 else run

-- how many of these lines stand in comments at their end, where one of the comments says something
abbrev pub last_comments : List (List ℕ) → ℕ
last_comments lines = said_count (suffix_len is_comment lines) (suffix_len is_empty_comment lines)

-- how many lines directly above this one are comments, of which one says something
abbrev pub comment_count : List ℕ → ℕ → ℕ
comment_count text place = last_comments (take place (lines_of text))

-- these lines
abbrev pub comments_above : List ℕ → ℕ → List (List ℕ)
comments_above text place =
    let count = comment_count text place in take count (drop (place - count) (lines_of text))

-- ---- docs

-- bytes that could make more than text of a line of docs, wherever they stand
abbrev pub MARKS : List ℕ
MARKS = codes "\\`*[]<>~|&"

-- those that could at its begin alone
abbrev pub FIRST_MARKS : List ℕ
FIRST_MARKS = codes "#=+-"

abbrev pub is_among : List ℕ → ℕ → Bool
is_among marks b = list_any (λ mark. mark == b) marks

abbrev pub is_mark : ℕ → ℕ → Bool
is_mark at b = is_among MARKS b || (at == 0 && is_among FIRST_MARKS b)

-- a letter or a digit
abbrev pub begins_word : List ℕ → Bool
begins_word [] = false
begins_word (b ∷ text) = is_word_byte b && not (b == 95)

-- one stands before the byte of this number, and one after it
abbrev pub is_inside : List ℕ → ℕ → Bool
is_inside text at = begins_word (drop (at - 1) text) && begins_word (drop (at + 1) text)

-- an underscore that may begin or end an emphasis
abbrev pub is_emphasis : List ℕ → ℕ → ℕ → Bool
is_emphasis text at b = b == 95 && not (is_inside text at)

-- after a number, at the line's begin, this would begin an item of a list
abbrev pub begins_item : List ℕ → ℕ → ℕ → Bool
begins_item text at b = (b == 46 || b == 41) && (nat_le at 9 && list_all is_digit (take at text))

-- of `://`
abbrev pub begins_link : List ℕ → ℕ → ℕ → Bool
begins_link text at b = b == 58 && begins_slashed (drop (at + 1) text)

-- the byte of this number is to be read as it is
abbrev pub is_escaped : List ℕ → ℕ → ℕ → Bool
is_escaped text at b =
    (is_mark at b || is_emphasis text at b) || (begins_item text at b || begins_link text at b)

-- what is no printable ASCII is shown as `?`
abbrev pub shown : ℕ → ℕ
shown b = if nat_le 32 b && nat_le b 126 then b else 63

-- the byte of this number in docs
abbrev pub byte_text : List ℕ → ℕ → ℕ → List ℕ
byte_text text at b = if is_escaped text at b then 92 ∷ shown b ∷ [] else shown b ∷ []

-- a text in docs
abbrev pub plain_text : List ℕ → List ℕ
plain_text text = flat_map (λ one. byte_text text one.0 one.1) (enumerate_from 0 text)

-- before a text
abbrev pub doc_mark : List ℕ → List ℕ
doc_mark [] = codes "///"
doc_mark (b ∷ text) = codes "/// "

-- a line of docs of a line that is a comment, after an indent
abbrev pub doc_line : List ℕ → List ℕ → List ℕ
doc_line indent line =
    let text = comment_of line in indent ++ doc_mark text ++ plain_text text ++ codes "\n"

-- the docs of the comments directly above a line
abbrev pub comment_docs : List ℕ → List ℕ → ℕ → List ℕ
comment_docs indent text place = flat_map (doc_line indent) (comments_above text place)

-- there are some
abbrev pub has_comments : List ℕ → ℕ → Bool
has_comments text place = not (comment_count text place == 0)

-- an empty line of docs
abbrev pub empty_line : List ℕ → List ℕ
empty_line indent = indent ++ codes "///\n"

-- a text that is printed only where it is due
abbrev pub due_text : Bool → List ℕ → List ℕ
due_text due text = if due then text else []

-- the docs of the comments directly above a line, before more docs
abbrev pub leading_docs : List ℕ → List ℕ → ℕ → List ℕ
leading_docs indent text place =
    comment_docs indent text place ++ due_text (has_comments text place) (empty_line indent)
