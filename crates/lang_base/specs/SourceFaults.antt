-- The faults of source files and their order: by place, and at one place by rule.
use Rattle.std.specs.Prelude.{◌≡◌, ℕ, ◌+◌, List, [], ◌∷◌, Option, Some}
use Rattle.lang_base.specs.Least as ordered
use Rattle.lang_base.specs.Least.{Order}
use Rattle.lang_base.specs.declared.counted.Counted.{Counted}
use Rattle.lang_base.specs.declared.counted.Counted.TheVariants as counted
use Rattle.lang_base.specs.declared.source_fault.Refusal.{Refusal}
use Rattle.lang_base.specs.declared.source_fault.Refusal.TheVariants as refusals
use Rattle.lang_base.specs.declared.source_fault.SourceFault.{SourceFault}
use Rattle.lang_base.specs.declared.source_fault.SourceError.{SourceError}
use Rattle.lang_base.specs.declared.source_fault.SourceError.TheVariants.{Fault, OutOfMemory}

abbrev pub counted_rank : Counted → ℕ
counted_rank counted.Constants = 0
counted_rank counted.Fields = 1
counted_rank counted.Methods = 2
counted_rank counted.Parameters = 3
counted_rank counted.Locals = 4
counted_rank counted.Blocks = 5
counted_rank counted.Statements = 6

-- in the order of the variants
abbrev pub rank : Refusal → ℕ
rank refusals.Lex = 0
rank refusals.Syntax = 1
rank refusals.Unknown = 2
rank refusals.Duplicate = 3
rank refusals.UnknownMethod = 4
rank refusals.WrongCount = 5
rank refusals.WrongType = 6
rank refusals.NotLinear = 7
rank refusals.TooLarge = 8
rank (refusals.TooMany what) = 9 + counted_rank what
rank refusals.ReadOnly = 16
rank refusals.Misplaced = 17
rank refusals.WrongStart = 18
rank refusals.DuplicateClient = 19
rank refusals.TooManyClients = 20
rank refusals.TooManyCalls = 21

-- the rule is broken at this offset
abbrev pub fault_at : Refusal → ℕ → SourceFault
fault_at what at = record { at = at; what = what }

abbrev pub order : Order SourceFault
order = record { place = λ fault. fault.at; rank = λ fault. rank fault.what }

-- a fault of the list, and none of the list comes before it
abbrev pub IsLeast : List SourceFault → SourceFault → Type 0
IsLeast = ordered.IsLeast order

-- the fault that stands first, at one place the first in the order of the rules
abbrev pub least : List SourceFault → Option SourceFault
least = ordered.least order

-- the earlier of two faults that may be, and the one where neither comes before the other
abbrev pub earlier_of : Option SourceFault → Option SourceFault → Option SourceFault
earlier_of = ordered.earlier_of order

-- what is found first among faults is one of them that none comes before
abbrev pub FindsLeast : List SourceFault → Type 0
FindsLeast among = (fault : SourceFault) → least among ≡ Some fault → IsLeast among fault

-- these, or, where there are none, those: a rule on a whole is asked where its parts break none
infixr 30 ◌or_else◌
abbrev pub ◌or_else◌ : List SourceFault → List SourceFault → List SourceFault
[] or_else later = later
(fault ∷ more) or_else later = fault ∷ more

-- it is the first of these faults, unless memory ran out
abbrev pub IsFirstOf : List SourceFault → SourceError → Type 0
IsFirstOf among (Fault fault) = IsLeast among fault
IsFirstOf among OutOfMemory = Unit {0}
