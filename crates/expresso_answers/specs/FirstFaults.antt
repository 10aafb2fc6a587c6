-- The first fault of a source file, a monitor's or its clients': by size, tokens, grammar and
-- rules.
use Rattle.std.specs.Prelude.{◌≡◌, ◌<◌, ◌≤◌, ◌⊎◌, List, ℕ, length}
use Rattle.lang_base.specs.Limits.{FILE_BYTES}
use Rattle.lang_base.specs.SourceFaults.{IsLeast}
use Rattle.lang_base.specs.declared.source_fault.SourceFault.{SourceFault}
use Rattle.lang_base.specs.declared.source_fault.Refusal.TheVariants.{Lex, Syntax}
use Rattle.lang_tokens.specs.declared.token.Token.{Token}
use Rattle.lang_tokens.specs.Spelling.{Spells, StartsNoToken}
use Rattle.lang_tokens.specs.Words.{words}
use Rattle.lang_syntax.specs.Grammar.{Rule}
use Rattle.lang_syntax.specs.Fault.{IsFaultAt}
use Rattle.report_text.specs.FaultText.{too_long_text, place_text}

-- no token, blank or comment starts at the fault's place, and what comes before is whole
pub record IsStuckFile (bytes : List ℕ) (fault : SourceFault) : Type 0 where
  pub rule : fault.what ≡ Lex
  pub stuck : StartsNoToken bytes fault.at

-- the tokens are none of this grammar's, and the one at the fault's place is the first that doesn't
-- fit; or more is wanted at the end
pub record IsUnfitFile {Tree : Type 0} (IsTree : Rule Tree) (bytes : List ℕ) (fault : SourceFault) :
    Type 0 where
  pub tokens : List Token
  pub rule : fault.what ≡ Syntax
  pub spelled : Spells bytes tokens
  pub none : (tree : Tree) → IsTree tree (words bytes tokens) → ⊥
  pub first : IsFaultAt IsTree bytes tokens fault.at

-- the fault is the first of the tree's, by place and then by rule
pub record IsBrokenFile {Tree : Type 0} (IsTree : Rule Tree) (faults_of : Tree → List SourceFault)
    (bytes : List ℕ) (fault : SourceFault) : Type 0 where
  pub tokens : List Token
  pub tree : Tree
  pub spelled : Spells bytes tokens
  pub derived : IsTree tree (words bytes tokens)
  pub first : IsLeast (faults_of tree) fault

-- the first fault of a file of this grammar and these rules that is short enough
pub record IsFirstFault {Tree : Type 0} (IsTree : Rule Tree) (faults_of : Tree → List SourceFault)
    (bytes : List ℕ) (fault : SourceFault) : Type 0 where
  pub short : length bytes ≤ FILE_BYTES
  pub cause : IsStuckFile bytes fault ⊎ IsUnfitFile IsTree bytes fault
      ⊎ IsBrokenFile IsTree faults_of bytes fault

-- the line that refuses a file: it is too long, or this is its first fault
abbrev pub IsRefusalLine : (SourceFault → Type 0) → List ℕ → List ℕ → List ℕ → Type 0
IsRefusalLine IsFirst file bytes text =
    ((FILE_BYTES < length bytes) × (text ≡ too_long_text file))
    ⊎ ((fault : SourceFault) × IsFirst fault × (text ≡ place_text file bytes fault))
