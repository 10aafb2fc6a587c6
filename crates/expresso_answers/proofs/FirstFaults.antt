-- Why bytes are no source file: the first fault of each step, and that an accepted file has none.
use Rattle.std.proofs.Common.{◌≡◌, ℕ, ◌≤◌, List, [], ◌∷◌, length, Result, Err, sym, ap, subst, ◌∙◌, arith, inl, inr}
use Rattle.lang_base.specs.SourceFaults.{IsFirstOf, IsLeast}
use Rattle.lang_base.specs.declared.source_fault.SourceFault.{SourceFault}
use Rattle.lang_base.specs.declared.source_fault.Refusal.TheVariants.{Lex}
use Rattle.lang_base.specs.declared.source_fault.SourceError.{SourceError}
use Rattle.lang_base.specs.declared.source_fault.SourceError.TheVariants.{Fault, OutOfMemory}
use Rattle.lang_tokens.specs.declared.token.Token.{Token}
use Rattle.lang_tokens.specs.Lexing.{IsAt}
use Rattle.lang_tokens.specs.Spelling.{Spells, StartsNoToken}
use Rattle.lang_tokens.specs.Words.{words}
use Rattle.lang_syntax.specs.Grammar.{IsMonitorFile, Rule}
use Rattle.lang_syntax.specs.ClientGrammar.{IsClientFile}
use Rattle.lang_syntax.specs.Fault.{IsFault, Parses}
use Rattle.expresso_answers.specs.FirstFaults.{IsBrokenFile, IsFirstFault, IsRefusalLine, IsStuckFile, IsUnfitFile}
use Rattle.expresso_answers.specs.inner.Causes.{HasCause}

-- bytes spell one list of tokens at most
abbrev pub OneSpelling : Type 0
OneSpelling = (bytes : List ℕ) (a b : List Token) → Spells bytes a → Spells bytes b → a ≡ b

-- stuck bytes spell none
abbrev pub NoSpelling : Type 0
NoSpelling = (bytes : List ℕ) (at : ℕ) (spelled : List Token) → StartsNoToken bytes at → Spells bytes spelled → ⊥

-- tokens derive one tree at most
abbrev pub OneTreeOf : {Tree : Type 0} → Rule Tree → Type 0
OneTreeOf {Tree} IsTree = (bytes : List ℕ) (tokens : List Token) (a b : Tree) → IsTree a (words bytes tokens) → IsTree b (words bytes tokens) → a ≡ b

abbrev pub OneTree : Type 0
OneTree = OneTreeOf IsMonitorFile

abbrev pub OneClientsTree : Type 0
OneClientsTree = OneTreeOf IsClientFile

none_least : (faults : List SourceFault) (fault : SourceFault) → faults ≡ [] → IsLeast faults fault → ⊥
none_least [] fault none least = let (k, within, is) = least.one in omega (arith, within)
none_least (first ∷ more) fault none least = cc

module _ {Tree : Type 0} (IsTree : Rule Tree) (faults_of : Tree → List SourceFault) where
  -- ---- the cause of a fault

  pub stuck_cause : (bytes : List ℕ) (error : SourceError) → length bytes ≤ 65536 → IsAt Lex (StartsNoToken bytes) error → HasCause (IsFirstFault IsTree faults_of bytes) error
  stuck_cause bytes (Fault fault) short is = record { short = short; cause = inl (record { rule = is.0; stuck = is.1 }) }
  stuck_cause bytes OutOfMemory short is = tt

  pub unfit_cause : (bytes : List ℕ) (tokens slice : List Token) (error : SourceError) → length bytes ≤ 65536 → Spells bytes tokens → slice ≡ tokens
      → ((tree : Tree) → IsTree tree (words bytes slice) → Parses (Err error) tree) → IsFault IsTree bytes slice error → HasCause (IsFirstFault IsTree faults_of bytes) error
  unfit_cause bytes tokens slice (Fault fault) short spelled same fails is = record {
    short = short;
    cause = inr (inl (record { tokens = slice; rule = is.0; spelled = subst (λ (t : List Token). Spells bytes t) (sym same) spelled; none = fails; first = is.1 }));
  }
  unfit_cause bytes tokens slice OutOfMemory short spelled same fails is = tt

  pub broken_cause : (bytes : List ℕ) (tokens slice : List Token) (tree : Tree) (error : SourceError) → length bytes ≤ 65536 → Spells bytes tokens → slice ≡ tokens
      → IsTree tree (words bytes slice) → IsFirstOf (faults_of tree) error → HasCause (IsFirstFault IsTree faults_of bytes) error
  broken_cause bytes tokens slice tree (Fault fault) short spelled same derived first = record {
    short = short;
    cause = inr (inr (record { tokens = slice; tree = tree; spelled = subst (λ (t : List Token). Spells bytes t) (sym same) spelled; derived = derived; first = first }));
  }
  broken_cause bytes tokens slice tree OutOfMemory short spelled same derived first = tt

  -- ---- an accepted file has no fault

  module _ (one_spelling : OneSpelling) (no_spelling : NoSpelling) (one_tree : OneTreeOf IsTree) (bytes : List ℕ) (tokens : List Token) (tree : Tree)
      (spelled : Spells bytes tokens) (derived : IsTree tree (words bytes tokens)) (unbroken : faults_of tree ≡ []) where
    not_unfit : (fault : SourceFault) → IsUnfitFile IsTree bytes fault → ⊥
    not_unfit fault unfit = unfit.none tree (subst (λ (t : List Token). IsTree tree (words bytes t)) (one_spelling bytes tokens unfit.tokens spelled unfit.spelled) derived)

    not_broken : (fault : SourceFault) → IsBrokenFile IsTree faults_of bytes fault → ⊥
    not_broken fault broken =
        let theirs : IsTree broken.tree (words bytes tokens) = subst (λ (t : List Token). IsTree broken.tree (words bytes t)) (one_spelling bytes broken.tokens tokens broken.spelled spelled) broken.derived in
        none_least (faults_of broken.tree) fault (ap faults_of (one_tree bytes tokens broken.tree tree theirs derived) ∙ unbroken) broken.first

    no_fault : (fault : SourceFault) → IsFirstFault IsTree faults_of bytes fault → ⊥
    no_fault fault first = elim first.cause [
      | inl stuck ↦ no_spelling bytes fault.at tokens stuck.stuck spelled
      | inr (inl unfit) ↦ not_unfit fault unfit
      | inr (inr broken) ↦ not_broken fault broken
    ]

    pub no_line : (file text : List ℕ) → length bytes ≤ 65536 → IsRefusalLine (IsFirstFault IsTree faults_of bytes) file bytes text → ⊥
    no_line file text short (inl (long, is)) = omega (arith, short, long)
    no_line file text short (inr (fault, first, is)) = no_fault fault first
