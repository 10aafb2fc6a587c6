-- What the laws say.
use Rattle.std.specs.Prelude.{◌≡◌, ◌↔◌, ℕ, false, List, Some, slice_get}
use Rattle.logic_linear.specs.Truth.{Valuation, truth_of}
use Rattle.lang_monitor.specs.declared.candidate.Candidate.{Candidate}
use Rattle.lang_monitor.specs.declared.monitor.Block.{Block}
use Rattle.lang_monitor.specs.MonitorParts.{MonitorParts, IsMonitor}
use Rattle.lang_monitor.specs.Candidates.{AreSomeOf, candidates_of}
use Rattle.logic_cert.specs.declared.cert.Cert.{Cert}
use Rattle.logic_cert.specs.Refutes.{Refutes}
use Rattle.plan_fits.specs.Answers.{QuestionMayStayOpen}
use Rattle.plan_fits.specs.Fits.{Fits64}
use Rattle.plan_fits.specs.Outside.{has_numbers, outside_question}

-- a block fits exactly where its question is true at no valuation
abbrev pub QuestionsAreExact : Type 0
QuestionsAreExact =
    (monitor : MonitorParts) (kept : List Candidate) (number : ℕ)
    → IsMonitor monitor → AreSomeOf kept (candidates_of monitor)
    → Fits64 monitor kept number
    ↔ ((v : Valuation) → truth_of v (outside_question monitor kept number) ≡ false)

-- so it does where a certificate refutes its question
abbrev pub CertifiedBlocksFit : Type 0
CertifiedBlocksFit =
    (monitor : MonitorParts) (kept : List Candidate) (number : ℕ) (cert : Cert)
    → Refutes (outside_question monitor kept number) cert → Fits64 monitor kept number

-- a block that assigns and answers no number fits, whatever is kept, and its question never stays
-- open
abbrev pub NumberlessBlocksFit : Type 0
NumberlessBlocksFit =
    (monitor : MonitorParts) (kept : List Candidate) (number : ℕ) (block : Block)
    → slice_get monitor.blocks number ≡ Some block → has_numbers block ≡ false
    → Fits64 monitor kept number × (QuestionMayStayOpen monitor kept number → ⊥)
