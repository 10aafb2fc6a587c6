-- The lines that are printed of faults of files, by their parts.
use Rattle.std.specs.Prelude.{ℕ, ◌+◌, ◌==◌, List, ◌++◌, take, reverse, count_by, codes, decimal}
use Rattle.std.specs.List.{prefix_len}
pub use Rattle.lang_base.specs.Lines.{is_in_line}
use Rattle.lang_base.specs.declared.counted.Counted.{Counted}
use Rattle.lang_base.specs.declared.counted.Counted.TheVariants as counted
use Rattle.lang_base.specs.declared.source_fault.SourceFault.{SourceFault}
use Rattle.lang_base.specs.declared.source_fault.Refusal.{Refusal}
use Rattle.lang_base.specs.declared.source_fault.Refusal.TheVariants as refusals

-- the line of an offset: 1, and 1 more for each line feed before it
abbrev pub line_at : List ℕ → ℕ → ℕ
line_at bytes at = 1 + count_by (λ byte. byte == 10) (take at bytes)

-- the column of an offset: 1, and 1 more for each byte between it and the last line feed before it,
-- or the start
abbrev pub column_at : List ℕ → ℕ → ℕ
column_at bytes at = 1 + prefix_len is_in_line (reverse (take at bytes))

-- what there is too much of
abbrev pub counted_text : Counted → List ℕ
counted_text counted.Constants = codes "too many constants"
counted_text counted.Fields = codes "too many fields"
counted_text counted.Methods = codes "too many methods"
counted_text counted.Parameters = codes "too many parameters"
counted_text counted.Locals = codes "too many locals"
counted_text counted.Blocks = codes "too many blocks"
counted_text counted.Statements = codes "too many statements"

-- what is wrong
abbrev pub refusal_text : Refusal → List ℕ
refusal_text refusals.Lex = codes "no token starts here"
refusal_text refusals.Syntax = codes "syntax"
refusal_text refusals.Unknown = codes "unknown name"
refusal_text refusals.Duplicate = codes "name used twice"
refusal_text refusals.WrongType = codes "wrong type"
refusal_text refusals.NotLinear = codes "product of two variables"
refusal_text refusals.TooLarge = codes "number too large"
refusal_text (refusals.TooMany what) = counted_text what
refusal_text refusals.ReadOnly = codes "not a field"
refusal_text refusals.Misplaced = codes "misplaced return"
refusal_text refusals.WrongStart = codes "wrong start"
refusal_text refusals.UnknownMethod = codes "unknown method"
refusal_text refusals.WrongCount = codes "wrong number of arguments"
refusal_text refusals.DuplicateClient = codes "client used twice"
refusal_text refusals.TooManyClients = codes "too many clients"
refusal_text refusals.TooManyCalls = codes "too many calls"

-- a file is longer than a file may be
abbrev pub too_long_text : List ℕ → List ℕ
too_long_text file = codes "refused: " ++ file ++ codes ": more than 65536 bytes\n"

-- a file that is no monitor and no clients is longer than such a file may be
abbrev pub other_too_long_text : List ℕ → List ℕ
other_too_long_text file = codes "refused: " ++ file ++ codes ": more than 16777216 bytes\n"

-- a file couldn't be read
abbrev pub unread_text : List ℕ → List ℕ
unread_text file = codes "read fault: " ++ file ++ codes "\n"

-- a file is no report of the monitor
abbrev pub not_report_text : List ℕ → List ℕ
not_report_text file = codes "refused: " ++ file ++ codes ": not a report\n"

-- a file is no plan of the monitor
abbrev pub not_plan_text : List ℕ → List ℕ
not_plan_text file = codes "refused: " ++ file ++ codes ": not a plan\n"

-- a file breaks a rule at an offset of its bytes
abbrev pub place_text : List ℕ → List ℕ → SourceFault → List ℕ
place_text file bytes fault =
    codes "refused: " ++ file ++ codes ":" ++ decimal (line_at bytes fault.at) ++ codes ":"
    ++ decimal (column_at bytes fault.at) ++ codes ": " ++ refusal_text fault.what ++ codes "\n"
