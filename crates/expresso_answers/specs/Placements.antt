-- Plans that a monitor may be compiled to, and those that its clients run under.
use Rattle.std.specs.Prelude.{◌≡◌, ℕ, false, List, All, Option}
use Rattle.front_command.specs.declared.plan_choice.PlanChoice.{PlanChoice}
use Rattle.front_command.specs.declared.plan_choice.PlanChoice.TheVariants.{Placed, Relayed}
use Rattle.front_command.specs.declared.plan_choice.PlanChoice.TheVariants.{Counted}
use Rattle.front_command.specs.declared.plan_choice.PlanChoice.TheVariants.{CountedAndRelayed}
use Rattle.lang_monitor.specs.MonitorParts.{MonitorParts, IsMonitor}
use Rattle.machine_events.specs.declared.plan.Plan.{Plan}
use Rattle.machine_events.specs.Plans.{FitsPlan, IsLawful, has_note, notes_at}
use Rattle.machine_events.specs.Counts.{IsLawfulByCounting}
use Rattle.plan_prune.specs.Hardness.{HasNoHardClaim}
use Rattle.logic_outline.specs.Outlines.{HasTypedNumbers}
use Rattle.plan_claims.specs.declared.placed.PlacedPlan.{PlacedPlan}
use Rattle.plan_claims.specs.Backing.{AreProofs, IsBacked, backed_claims}
use Rattle.plan_place.specs.Exact.{IsExact, IsLicensed}
use Rattle.plan_place.specs.Relayed.{relay_of}
use Rattle.plan_counted.specs.declared.counted.CountedPlan.{CountedPlan}
use Rattle.plan_counted.specs.declared.counted.Column.{Column}
use Rattle.plan_counted.specs.Counted.{AreBacked, IsCountedFrom, counted_of}
use Rattle.plan_counted.specs.CountedAndRelayed.{CountsBroadcasts, IsCountedAndRelayed}
use Rattle.plan_counted.specs.CountedAndRelayed.{counted_and_relayed}
use Rattle.plan_counted.specs.Exact.{HasNoOpenQuestion, IsExactlyCounted}
use Rattle.report_tally.specs.CountedTexts.{HasTypedColumn}

pub record IsPlacement (monitor : MonitorParts) (plan : Plan) : Type 0 where
  pub is : IsMonitor monitor
  pub fits : FitsPlan monitor plan
  -- so no wake-up of clients whose calls fit is lost under it, by the law `no_wakeup_is_lost`
  pub lawful : IsLawful monitor plan
  -- each claim that it rests on has a certificate
  pub backed : IsBacked monitor plan
  -- it does more than it has to only where a hard query leaves that open
  pub licensed : IsLicensed monitor plan
  -- where no claim of the monitor is hard, as of a small one, it does exactly what it has to
  pub exact : HasNoHardClaim monitor → IsExact monitor plan

-- ---- what is counted

-- what a table says of the conditions that are counted, and of each block on each of them
pub record IsCountTable (monitor : MonitorParts) (placed : Plan)
    (columns : List (Option Column)) : Type 0 where
  -- the plan that it makes is the placed one, counted: it falls short of counting what may be
  -- counted, and of the fewest notes, only where a query may stay open
  pub counted : IsCountedFrom monitor placed (counted_of placed columns)
  -- exactly so where no question may stay open
  pub exact : HasNoOpenQuestion monitor placed.kept
      → IsExactlyCounted monitor placed (counted_of placed columns)
  -- a block with no note or a signal has certificates that this is enough
  pub backed : AreBacked monitor placed columns

-- the table makes this plan of the placed one
pub record IsCountedBy (monitor : MonitorParts) (placed plan : Plan)
    (columns : List (Option Column)) : Type 0 where
  pub table : IsCountTable monitor placed columns
  pub made : plan ≡ counted_of placed columns

-- it makes this one, with the signals relayed on each condition that is not counted
pub record IsCountedAndRelayedBy (monitor : MonitorParts) (placed plan : Plan)
    (columns : List (Option Column)) : Type 0 where
  pub table : IsCountTable monitor placed columns
  pub made : plan ≡ counted_and_relayed monitor placed columns
  pub mixed : IsCountedAndRelayed monitor placed (counted_of placed columns) plan

-- a plan that the monitor may be compiled to, with a proof of each claim that it rests on, and that
-- plan counted; the numbers of certificates are of their types
pub record IsCounting (monitor : MonitorParts) (placed : PlacedPlan) (counted : CountedPlan) :
    Type 0 where
  pub placement : IsPlacement monitor placed.plan
  pub proofs : AreProofs monitor placed.plan.kept (backed_claims monitor placed.plan) placed.proofs
  pub by : IsCountedBy monitor placed.plan counted.plan counted.columns
  pub broadcasts : CountsBroadcasts monitor placed.plan counted.columns
  pub fits : FitsPlan monitor counted.plan
  pub lawful : IsLawfulByCounting monitor counted.plan
  pub typed : All (λ proof. HasTypedNumbers proof.cert) placed.proofs
  pub typed_columns : All HasTypedColumn counted.columns

-- ---- choices

-- the plan that is asked for, where this one is placed
abbrev pub IsChosenFrom : PlanChoice → MonitorParts → Plan → Plan → Type 0
IsChosenFrom Placed monitor placed plan = plan ≡ placed
IsChosenFrom Relayed monitor placed plan = plan ≡ relay_of monitor placed
IsChosenFrom Counted monitor placed plan =
    (columns : List (Option Column)) × IsCountedBy monitor placed plan columns
IsChosenFrom CountedAndRelayed monitor placed plan =
    (columns : List (Option Column)) × IsCountedAndRelayedBy monitor placed plan columns

-- the choice counts no condition
abbrev pub CountsNothing : PlanChoice → Type 0
CountsNothing Placed = Unit {0}
CountsNothing Relayed = Unit {0}
CountsNothing Counted = ⊥
CountsNothing CountedAndRelayed = ⊥

-- a counted plan is lawful by counting, and every other one lawful
abbrev pub IsLawfulChoice : PlanChoice → MonitorParts → Plan → Type 0
IsLawfulChoice Placed monitor plan = IsLawful monitor plan
IsLawfulChoice Relayed monitor plan = IsLawful monitor plan
IsLawfulChoice Counted monitor plan = IsLawfulByCounting monitor plan
IsLawfulChoice CountedAndRelayed monitor plan = IsLawfulByCounting monitor plan

-- a plan that is asked for
pub record IsChosen (choice : PlanChoice) (monitor : MonitorParts) (plan : Plan) : Type 0 where
  -- it is one that the monitor may be compiled to, or that one counted, or with its signals
  -- relayed, or both
  pub placed : Plan
  pub placement : IsPlacement monitor placed
  pub is : IsChosenFrom choice monitor placed plan
  pub fits : FitsPlan monitor plan
  -- so no wake-up of clients whose calls fit is lost under it
  pub lawful : IsLawfulChoice choice monitor plan
  -- where it has no note, the placed plan has none, with a certificate that none is needed
  pub omits : (block condition : ℕ) → has_note (notes_at plan block) condition ≡ false
      → has_note (notes_at placed block) condition ≡ false

-- a counted plan, with the table that makes it
abbrev pub table_of : (monitor : MonitorParts) (plan : Plan) → IsChosen Counted monitor plan
    → CountedPlan
table_of monitor plan chosen = record { plan = plan; columns = chosen.is.0 }
