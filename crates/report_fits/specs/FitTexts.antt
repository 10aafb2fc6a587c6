-- The lines of blocks that keep 64 bits, each with its certificate.
use Rattle.std.specs.Prelude.{ℕ, ◌+◌, ◌<◌, ◌≤◌, List, [], ◌∷◌, ◌++◌, length, Option, Some, None}
use Rattle.std.specs.Prelude.{codes}
use Rattle.std.specs.List.{enumerate_from, flat_map}
use Rattle.lang_base.specs.Limits.{BLOCKS}
use Rattle.logic_cert.specs.declared.cert.Cert.{Cert}
use Rattle.logic_cert.specs.CertText.{cert_text}
use Rattle.lang_monitor.specs.MonitorParts.{MonitorParts}
use Rattle.machine_events.specs.PlanText.{block_name}
use Rattle.report_fits.specs.declared.fit.Fit.{Fit}

-- ---- fits

-- a monitor has so many such lines at most, one for each block
abbrev pub MOST_LINES : ℕ
MOST_LINES = BLOCKS

-- the blocks rise from the first number on, and each is below the last
abbrev pub AreFrom : ℕ → ℕ → List Fit → Type 0
AreFrom first last [] = Unit {0}
AreFrom first last (fit ∷ fits) =
    (first ≤ fit.block) × (fit.block < last) × AreFrom (fit.block + 1) last fits

-- blocks of the monitor, in their order, each at most once
abbrev pub AreFits : MonitorParts → List Fit → Type 0
AreFits monitor fits = AreFrom 0 (length monitor.blocks) fits

-- ---- of what is answered of each block

abbrev pub fit_if : ℕ → Option Cert → List Fit
fit_if block None = []
fit_if block (Some cert) = record { block = block; cert = cert } ∷ []

-- the blocks with a certificate; the first of all has this number
abbrev pub certified_from : ℕ → List (Option Cert) → List Fit
certified_from first answers = flat_map (λ one. fit_if one.0 one.1) (enumerate_from first answers)

-- of all blocks
abbrev pub certified : List (Option Cert) → List Fit
certified answers = certified_from 0 answers

-- ---- their lines

-- `proof fits put: ` and the certificate, and a line feed
abbrev pub fit_line : MonitorParts → ℕ → Cert → List ℕ
fit_line monitor block cert =
    codes "proof fits " ++ block_name monitor block ++ codes ": " ++ cert_text cert ++ codes "\n"

abbrev pub fit_text : MonitorParts → Fit → List ℕ
fit_text monitor fit = fit_line monitor fit.block fit.cert

-- a line for each
abbrev pub fits_text : MonitorParts → List Fit → List ℕ
fits_text monitor fits = flat_map (fit_text monitor) fits
