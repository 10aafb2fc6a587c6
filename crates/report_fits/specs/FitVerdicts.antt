-- What a check of the certificates of blocks that keep 64 bits says.
use Rattle.std.specs.Prelude.{◌≡◌, ◌==◌, ◌⊎◌, ℕ, false, List, [], ◌∷◌, ◌++◌, take, All, Option}
use Rattle.std.specs.Prelude.{Some, None, IsSomeAnd, slice_get, codes, if◌then◌else◌}
use Rattle.std.specs.List.{enumerate_from, flat_map}
use Rattle.logic_cert.specs.Refutes.{Refutes}
use Rattle.lang_monitor.specs.declared.candidate.Candidate.{Candidate}
use Rattle.lang_monitor.specs.MonitorParts.{MonitorParts}
use Rattle.machine_events.specs.PlanText.{block_name}
use Rattle.plan_fits.specs.Answers.{IsCertified}
use Rattle.plan_fits.specs.Outside.{outside_question}
use Rattle.plan_fits.specs.Within.{is_made_within}
use Rattle.report_fits.specs.declared.fit.Fit.{Fit}

-- the certificate refutes the question of the block, which is made within the limits: the block
-- fits
abbrev pub IsFit : MonitorParts → List Candidate → Fit → Type 0
IsFit monitor kept fit = IsCertified monitor kept fit.block fit.cert

-- it doesn't, or the question isn't
abbrev pub IsOpenFit : MonitorParts → List Candidate → Fit → Type 0
IsOpenFit monitor kept fit =
    (Refutes (outside_question monitor kept fit.block) fit.cert → ⊥)
    ⊎ (is_made_within monitor kept fit.block ≡ false)

-- the first one that is open stands at this place; none is
abbrev pub IsFirstOpenFit : MonitorParts → List Candidate → List Fit → Option ℕ → Type 0
IsFirstOpenFit monitor kept fits None = All (IsFit monitor kept) fits
IsFirstOpenFit monitor kept fits (Some place) =
    All (IsFit monitor kept) (take place fits)
    × IsSomeAnd (slice_get fits place) (IsOpenFit monitor kept)

-- ---- the line of those that were accepted

-- what stands before the first name, and before each other
abbrev pub sign_before : ℕ → List ℕ
sign_before number = if number == 0 then codes " " else codes ", "

abbrev pub named_text : MonitorParts → ℕ → Fit → List ℕ
named_text monitor number fit = sign_before number ++ block_name monitor fit.block

-- ` put, get`
abbrev pub names_text : MonitorParts → List Fit → List ℕ
names_text monitor fits =
    flat_map (λ one. named_text monitor one.0 one.1) (enumerate_from 0 fits)

-- `fits put, get` and a line feed; nothing where there are none
abbrev pub fitting_text : MonitorParts → List Fit → List ℕ
fitting_text monitor [] = []
fitting_text monitor (fit ∷ fits) =
    codes "fits" ++ names_text monitor (fit ∷ fits) ++ codes "\n"
