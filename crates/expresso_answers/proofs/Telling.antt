-- What was judged of the bytes that were read is true of the bytes that are held.
use Rattle.std.proofs.Common.{◌≡◌, ℕ, ◌+◌, ◌<◌, ◌≤◌, List, length, Option, Some, None, refl, sym, ap, subst, ◌∙◌, arith, inl, inr}
use Rattle.std.proofs.lemmas.List.{take_all, length-take}
use Rattle.std.specs.Prelude.{IfSome}
use Rattle.base_io.specs.Outside.{IsRead}
use Rattle.lang_tree.specs.declared.tree.MonitorTree.{MonitorTree}
use Rattle.lang_monitor.specs.MonitorParts.{MonitorParts}
use Rattle.lang_base.specs.declared.source_fault.SourceFault.{SourceFault}
use Rattle.lang_syntax.specs.Grammar.{Rule}
use Rattle.expresso_answers.specs.FirstFaults.{IsFirstFault, IsRefusalLine}
use Rattle.expresso_answers.specs.MonitorFiles.{IsAccepted}
use Rattle.expresso_answers.specs.Answers.{HoldsBytes}

-- the bytes that are held, where they are told, or else those that were read
pub told : Option (List ℕ) → List ℕ → List ℕ
told None bytes = bytes
told (Some all) bytes = all

pub is_told : (o : Option (List ℕ)) (bytes : List ℕ) → IfSome o (λ all. all ≡ told o bytes)
unfolding told
is_told None bytes = tt
is_told (Some all) bytes = refl

-- a short file is read whole
pub read_short : (most : ℕ) (o : Option (List ℕ)) (bytes : List ℕ) → IsRead o most bytes → length bytes ≤ most → bytes ≡ told o bytes
unfolding told
read_short most None bytes read short = refl
read_short most (Some all) bytes read short = read ∙ take_all (most + 1) all (omega (arith, ap length read, length-take (most + 1) all))

-- no more is read than is held
pub held_long : (most : ℕ) (o : Option (List ℕ)) (bytes : List ℕ) → IsRead o most bytes → most < length bytes → most < length (told o bytes)
unfolding told
held_long most None bytes read long = long
held_long most (Some all) bytes read long = omega (arith, ap length read, length-take (most + 1) all)

pub accepted_told : (o : Option (List ℕ)) (bytes : List ℕ) (tree : MonitorTree) (monitor : MonitorParts) → IsRead o 65536 bytes → IsAccepted bytes tree monitor → IsAccepted (told o bytes) tree monitor
accepted_told o bytes tree monitor read accepted = subst (λ (b : List ℕ). IsAccepted b tree monitor) (read_short 65536 o bytes read accepted.short) accepted

-- ---- the line that refuses a file

-- the line of what was read is that of what is held
pub line_told : {Tree : Type 0} (IsTree : Rule Tree) (faults_of : Tree → List SourceFault) (o : Option (List ℕ)) (file bytes text : List ℕ) → IsRead o 65536 bytes
    → IsRefusalLine (IsFirstFault IsTree faults_of bytes) file bytes text → IsRefusalLine (IsFirstFault IsTree faults_of (told o bytes)) file (told o bytes) text
line_told IsTree faults_of o file bytes text read (inl (long, is)) = inl (held_long 65536 o bytes read long, is)
line_told IsTree faults_of o file bytes text read (inr (fault, first, is)) =
    subst (λ (b : List ℕ). IsRefusalLine (IsFirstFault IsTree faults_of b) file b text) (read_short 65536 o bytes read first.short) (inr (fault, first, is))

-- ---- bytes that are told

-- bytes that a name tells are those that it holds
pub holds_same : (held : List ℕ → Option (List ℕ)) (file all bytes : List ℕ) → held file ≡ Some all → HoldsBytes held file bytes → bytes ≡ all
holds_same held file all bytes told holds = let equal : all ≡ bytes = subst (λ (o : Option (List ℕ)). IfSome o (λ x. x ≡ bytes)) told holds in sym equal
