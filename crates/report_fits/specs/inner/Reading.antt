-- For private contracts: what is known of lines while they are read and checked.
use Rattle.std.specs.Prelude.{◌≡◌, ◌⊎◌, ℕ, Bool, true, false, List, [], ◌∷◌, ◌++◌}
use Rattle.logic_cert.specs.declared.cert.Cert.{Cert}
use Rattle.lang_monitor.specs.declared.candidate.Candidate.{Candidate}
use Rattle.lang_monitor.specs.MonitorParts.{MonitorParts}
use Rattle.report_proofs.specs.Fronts.{Anything, IsFront, IsNoFront}
use Rattle.report_proofs.specs.Readings.{IsReadable}
use Rattle.report_fits.specs.declared.fit.Fit.{Fit}
use Rattle.report_fits.specs.FitTexts.{fit_line}
use Rattle.report_fits.specs.FitVerdicts.{IsFit, IsOpenFit}

abbrev pub fit_of : ℕ → Cert → Fit
fit_of block cert = record { block = block; cert = cert }

-- The block was added with its certificate, since its line stands at the front of the bytes; or
-- nothing was, since it doesn't.
abbrev pub IsFitTurn : MonitorParts → ℕ → List ℕ → List ℕ → List Fit → List Fit → Type 0
IsFitTurn monitor block bytes rest before now =
    ((cert : Cert) × IsFront Cert IsReadable Anything (fit_line monitor block) bytes cert rest
    × (now ≡ before ++ fit_of block cert ∷ []))
    ⊎ (IsNoFront Cert IsReadable Anything (fit_line monitor block) bytes × (rest ≡ bytes)
    × (now ≡ before))

-- whether the certificate refutes the question of the block, which is made within the limits
abbrev pub IsFitCheck : MonitorParts → List Candidate → Fit → Bool → Type 0
IsFitCheck monitor kept fit true = IsFit monitor kept fit
IsFitCheck monitor kept fit false = IsOpenFit monitor kept fit
