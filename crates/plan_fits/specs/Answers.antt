-- What the prover answers of blocks.
use Rattle.std.specs.Prelude.{◌≡◌, ℕ, Bool, false, true, List, length, Option, Some, None}
use Rattle.std.specs.Prelude.{slice_get}
use Rattle.lang_monitor.specs.declared.candidate.Candidate.{Candidate}
use Rattle.lang_monitor.specs.MonitorParts.{MonitorParts}
use Rattle.logic_cert.specs.declared.cert.Cert.{Cert}
use Rattle.logic_cert.specs.Refutes.{Refutes}
use Rattle.logic_solve.specs.Refutation.{HasUndecidedCube}
use Rattle.plan_fits.specs.Fits.{Fits64}
use Rattle.plan_fits.specs.Outside.{outside_question}
use Rattle.plan_fits.specs.Within.{is_asked_within, is_made_within}

-- why the prover may find no certificate for the question of a block that fits
pub data QuestionMayStayOpen (monitor : MonitorParts) (kept : List Candidate) (number : ℕ) : Type 0
  where
    -- it is not made within the limits
    limits : is_asked_within monitor kept number ≡ false → QuestionMayStayOpen monitor kept number
    -- it has a cube with a row that is no difference row, and with no flag of opposite truths: none
    -- such is light, since its variables have bounds of 2^63
    undecided : HasUndecidedCube (outside_question monitor kept number)
        → QuestionMayStayOpen monitor kept number

-- a certificate refutes the question, which is made within the limits, and the block fits
pub record IsCertified (monitor : MonitorParts) (kept : List Candidate) (number : ℕ) (cert : Cert) :
    Type 0 where
  pub refutes : Refutes (outside_question monitor kept number) cert
  pub made : is_made_within monitor kept number ≡ true
  pub fits : Fits64 monitor kept number

-- there is none only where the block does not fit, or its question may stay open
abbrev pub IsFitAnswer : MonitorParts → List Candidate → ℕ → Option Cert → Type 0
IsFitAnswer monitor kept number (Some cert) = IsCertified monitor kept number cert
IsFitAnswer monitor kept number None =
    Fits64 monitor kept number → QuestionMayStayOpen monitor kept number

-- one such answer for each block, in order
pub record AreFitAnswers (monitor : MonitorParts) (kept : List Candidate)
    (answers : List (Option Cert)) : Type 0 where
  pub count : length answers ≡ length monitor.blocks
  pub each : (number : ℕ) (answer : Option Cert) → slice_get answers number ≡ Some answer
      → IsFitAnswer monitor kept number answer

-- the block fits; it is not said of one that does only where its question may stay open
abbrev pub IsWhole : MonitorParts → List Candidate → ℕ → Bool → Type 0
IsWhole monitor kept number true = Fits64 monitor kept number
IsWhole monitor kept number false =
    Fits64 monitor kept number → QuestionMayStayOpen monitor kept number

-- so it is said of each block, in order
pub record AreWhole (monitor : MonitorParts) (kept : List Candidate) (whole : List Bool) : Type 0
  where
    pub count : length whole ≡ length monitor.blocks
    pub each : (number : ℕ) (is : Bool) → slice_get whole number ≡ Some is
        → IsWhole monitor kept number is
