-- What `run` promises, however many workers run and however their steps interleave, and `block`,
-- which has a caller for each client in place of workers.
use Rattle.std.specs.Prelude.{◌≡◌, ◌⊎◌, ◌↔◌, ◌++◌, ℕ, false, List, Some}
use Rattle.base_io.specs.Outside.{FilesSeen, SinkSeen}
use Rattle.lang_tree.specs.declared.tree.MonitorTree.{MonitorTree}
use Rattle.lang_monitor.specs.MonitorParts.{MonitorParts}
use Rattle.machine_implicit.specs.declared.script.Client.{Client}
use Rattle.machine_implicit.specs.Scripted.{AreClients}
use Rattle.machine_implicit.specs.Runs.{IsRun, Ends, IsFinished}
use Rattle.machine_events.specs.declared.log.Entry.{Entry}
use Rattle.machine_events.specs.declared.plan.Plan.{Plan}
use Rattle.machine_events.specs.Configurations.{Configuration, situation_of}
use Rattle.machine_events.specs.Logs.{IsLegal, IsClosed, commits_of}
use Rattle.machine_events.specs.Pending.{IsSystem}
use Rattle.machine_events.specs.Plans.{FitsPlan, IsLawful, has_note, notes_at}
use Rattle.machine_events.specs.PlanText.{plan_text}
use Rattle.machine_explicit.specs.Sections.{spurious_in}
use Rattle.plan_prune.specs.Hardness.{HasNoHardClaim}
use Rattle.plan_claims.specs.Backing.{IsBacked}
use Rattle.plan_place.specs.Exact.{IsExact, IsLicensed}
use Rattle.report_text.specs.LogText.{log_text}
use Rattle.machine_events.specs.Configurations.{system_under}
use Rattle.front_command.specs.declared.plan_choice.PlanChoice.{PlanChoice}
use Rattle.front_command.specs.CommandLine.{Takes, run, block}
use Rattle.expresso_answers.specs.declared.status.Status.{Status}
use Rattle.expresso_answers.specs.declared.status.Status.TheVariants.{Done, Stalled}
use Rattle.expresso_answers.specs.MonitorFiles.{IsAccepted}
use Rattle.expresso_answers.specs.ClientFiles.{AreAccepted}
use Rattle.expresso_answers.specs.Placements.{IsChosenFrom, IsLawfulChoice}

-- What the text of `run` or `block` says of the bytes of the two files, with the plan that was
-- asked for and the status that it comes with.
pub record IsHeadlineText (choice : PlanChoice) (monitor_bytes clients_bytes : List ℕ)
    (status : Status) (text : List ℕ) : Type 0 where
  pub tree : MonitorTree
  pub monitor : MonitorParts
  pub clients : List Client
  pub placed : Plan
  pub plan : Plan
  pub log : List Entry
  pub last : Configuration
  -- The monitor and its clients are those of the two files.
  pub monitor_accepted : IsAccepted monitor_bytes tree monitor
  pub clients_accepted : AreAccepted clients_bytes monitor clients
  -- The text is that of a plan, and then that of a log which led to the last configuration. (For
  -- this monitor and these clients no other plan and no
  -- other log that is legal under it have this text: the law `text_names_log` of `report_text`.)
  pub printed : text ≡ plan_text monitor plan
      ++ log_text (system_under monitor clients plan) log last
  pub is : IsSystem (system_under monitor clients plan)
  pub few : AreClients clients
  -- The plan is lawful, and with `--count` it is lawful by counting. (So no wake-up is lost under
  -- it: the laws `no_wakeup_is_lost` and `counting_loses_no_wakeup` of `machine_events`.)
  pub lawful : IsLawfulChoice choice monitor plan
  -- It is the plan that was placed, or with `--relay` that one with its signals relayed. With
  -- `--count` it is that one counted, by a table of which each entry has an accepted certificate.
  -- With both, what is not counted is relayed. The placed one fits the monitor and is lawful too.
  pub chosen : IsChosenFrom choice monitor placed plan
  pub placed_fits : FitsPlan monitor placed
  pub placed_lawful : IsLawful monitor placed
  -- Every notification that the plan omits is one that the placed plan omits. Each of those has an
  -- accepted certificate, and so has each other claim that the placed plan rests on.
  pub omits : (block condition : ℕ) → has_note (notes_at plan block) condition ≡ false
      → has_note (notes_at placed block) condition ≡ false
  pub backed : IsBacked monitor placed
  -- Each note of the placed plan has its condition's kind, each invariant without a hard query is
  -- kept, and what the placed plan does beyond need has a hard query.
  pub licensed : IsLicensed monitor placed
  -- Where no claim of the monitor is hard, as of a small one, the placed plan is exactly what the
  -- queries say. (So `report` prints the certificates of this plan: the law `runs_are_reported`.)
  pub exact : HasNoHardClaim monitor → IsExact monitor placed
  -- The log is a legal log of the explicit machine of this plan, and ends closed.
  pub legal : IsLegal (system_under monitor clients plan) log last
  pub closed : IsClosed (system_under monitor clients plan) last
  -- No wake-up of it is spurious.
  pub unprompted : spurious_in log ≡ 0
  -- Its committed blocks, refusals and overflows included, each client's in script order and each
  -- once, are a run of the implicit monitor, to the state that is printed and the places where the
  -- clients are.
  pub run : IsRun monitor clients (commits_of log) (situation_of last)
  -- The run ends only where no unfinished client's guard holds, and none is at the first block of a
  -- call that tries.
  pub ends : Ends monitor clients (situation_of last)
  -- The status is `Stalled` exactly where some client has a call left.
  pub stalled : (status ≡ Stalled) ↔ (IsFinished clients (situation_of last) → ⊥)

-- The words are those of `run` or of `block` with these files and this choice of the plan.
abbrev pub RunInThreads : List (List ℕ) → List ℕ → List ℕ → PlanChoice → Type 0
RunInThreads words monitor_file clients_file choice =
    ((workers : ℕ) × Takes words (run monitor_file clients_file workers choice))
    ⊎ Takes words (block monitor_file clients_file choice)

-- The words are such, the files and the sink tell their bytes, and the status is `Done` or
-- `Stalled`: then the bytes that were appended are such a text.
abbrev pub Headline : List (List ℕ) → FilesSeen → Status → SinkSeen → SinkSeen → Type 0
Headline words files status out out_now =
    (monitor_file clients_file : List ℕ) (choice : PlanChoice)
    (monitor_bytes clients_bytes written : List ℕ)
    → RunInThreads words monitor_file clients_file choice
    → files.held monitor_file ≡ Some monitor_bytes → files.held clients_file ≡ Some clients_bytes
    → out.written ≡ Some written
    → (status ≡ Done) ⊎ (status ≡ Stalled)
    → (text : List ℕ) × (out_now.written ≡ Some (written ++ text))
    × IsHeadlineText choice monitor_bytes clients_bytes status text
