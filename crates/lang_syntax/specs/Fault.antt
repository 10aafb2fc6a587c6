-- What the fault of a parser says.
use Rattle.std.specs.Prelude.{◌≡◌, ℕ, List, [], ◌∷◌, ◌++◌, length, Result, Ok, Err}
use Rattle.lang_base.specs.declared.source_fault.Refusal.TheVariants as refusals
use Rattle.lang_base.specs.declared.source_fault.SourceError.{SourceError}
use Rattle.lang_base.specs.declared.source_fault.SourceError.TheVariants as errors
use Rattle.lang_tokens.specs.declared.token.Token.{Token}
use Rattle.lang_tokens.specs.Lexing.{IsAt}
use Rattle.lang_tokens.specs.Words.{Word, words}
use Rattle.lang_syntax.specs.Grammar.{Rule}

-- The words begin those of some tree. No rule looks at what names, numbers and offsets are, so any
-- words may follow.
abbrev pub Begins : {Tree : Type 0} → Rule Tree → List Word → Type 0
Begins {Tree} IsTree front = (tree : Tree) × (more : List Word) × IsTree tree (front ++ more)

-- with the first of the tokens that are left the ones before it begin no tree's; where none is left
-- the fault is at the end
abbrev pub IsUnfit : {Tree : Type 0} → Rule Tree → List ℕ → List Token → List Token → ℕ → Type 0
IsUnfit IsTree bytes front [] at = at ≡ length bytes
IsUnfit IsTree bytes front (token ∷ more) at =
    (at ≡ token.at) × (Begins IsTree (words bytes (front ++ token ∷ [])) → ⊥)

-- the fault stands at the first token that doesn't fit: those before it begin the words of some
-- tree
pub record IsFaultAt {Tree : Type 0} (IsTree : Rule Tree) (bytes : List ℕ) (tokens : List Token)
    (at : ℕ) : Type 0 where
  pub front : List Token
  pub rest : List Token
  pub parts : tokens ≡ front ++ rest
  pub begins : Begins IsTree (words bytes front)
  pub unfit : IsUnfit IsTree bytes front rest at

-- this tree is answered, unless memory ran out
abbrev pub Parses : {Tree : Type 0} → Result Tree SourceError → Tree → Type 0
Parses (Ok t) tree = t ≡ tree
Parses (Err (errors.Fault fault)) tree = ⊥
Parses (Err errors.OutOfMemory) tree = Unit {0}

-- whatever tree is derived is answered, unless memory ran out
abbrev pub AnswersEach : {Tree : Type 0} → Result Tree SourceError → (Tree → Type 0) → Type 0
AnswersEach {Tree} answer IsDerived = (tree : Tree) → IsDerived tree → Parses answer tree

-- the fault stands at the first token that doesn't fit, unless memory ran out
abbrev pub IsFault : {Tree : Type 0} → Rule Tree → List ℕ → List Token → SourceError → Type 0
IsFault IsTree bytes tokens = IsAt refusals.Syntax (IsFaultAt IsTree bytes tokens)
