-- What a reading of lines of blocks that keep 64 bits says.
use Rattle.std.specs.Prelude.{◌≡◌, ℕ, List, All, Option, Some, None}
use Rattle.lang_monitor.specs.MonitorParts.{MonitorParts}
use Rattle.report_proofs.specs.Readings.{IsReadable}
use Rattle.report_fits.specs.declared.fit.Fit.{Fit}
use Rattle.report_fits.specs.FitTexts.{AreFits, fits_text}

-- blocks of the monitor with readable certificates
pub record AreReadableFits (monitor : MonitorParts) (fits : List Fit) : Type 0 where
  pub are : AreFits monitor fits
  pub readable : All (λ fit. IsReadable fit.cert) fits

-- the bytes are the lines of these, and of no others
pub record AreLinesOf (monitor : MonitorParts) (bytes : List ℕ) (fits : List Fit) : Type 0 where
  pub are : AreReadableFits monitor fits
  pub text : fits_text monitor fits ≡ bytes
  pub only : (others : List Fit) → AreReadableFits monitor others
      → fits_text monitor others ≡ bytes → others ≡ fits

-- the blocks with readable certificates whose lines the bytes are; there are none
abbrev pub AreFitsRead : MonitorParts → List ℕ → Option (List Fit) → Type 0
AreFitsRead monitor bytes (Some fits) = AreLinesOf monitor bytes fits
AreFitsRead monitor bytes None =
    (fits : List Fit) → AreReadableFits monitor fits → fits_text monitor fits ≡ bytes → ⊥
