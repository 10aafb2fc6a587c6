-- What sums up a run of the large input that ended.
use Rattle.std.proofs.Common.{◌≡◌, ℕ, ◌++◌, ◌∷◌, [], List, length, codes, pos, sym, ap, ap₂, subst, ◌∙◌, arith}
use Rattle.std.specs.Prelude.{decimal}
use Rattle.std.proofs.lemmas.Fmt.{decimal_digit, decimal_step}
use Rattle.lang_base.specs.declared.value.Value.{Value}
use Rattle.lang_base.specs.declared.value.Value.TheVariants as values
use Rattle.lang_monitor.specs.MonitorParts.{MonitorParts}
use Rattle.machine_implicit.specs.declared.script.Client.{Client}
use Rattle.machine_implicit.specs.Runs.{Situation, Ends, IsFinished, IsRun}
use Rattle.machine_events.specs.declared.log.Entry.{Entry}
use Rattle.machine_events.specs.Configurations.{System, Configuration, situation_of}
use Rattle.machine_events.specs.Logs.{commits_of}
use Rattle.report_text.specs.TurnsText.{end_text, state_text}
use Rattle.report_text.specs.LogText.{are_done}
use Rattle.report_text.specs.SummaryText.{calls_text, summary_text}
use Rattle.machine_stress.specs.LargeInput.{buffer_of, capacity_of, producers_and_consumers}
use Rattle.machine_stress.specs.Laws.{IsDone}
use Rattle.machine_stress.proofs.LargeRuns.{every_run}
use Rattle.expresso_runs.proofs.Finishing.{finished_done}

-- ---- numbers

all_calls : decimal 16384 ≡ codes "16384"
all_calls =
    decimal_step 16384 (omega arith) (omega arith)
    ∙ ap (λ (digits : List ℕ). digits ++ 52 ∷ []) (decimal_step 1638 (omega arith) (omega arith))
    ∙ ap (λ (digits : List ℕ). digits ++ 56 ∷ [] ++ 52 ∷ []) (decimal_step 163 (omega arith) (omega arith))
    ∙ ap (λ (digits : List ℕ). digits ++ 51 ∷ [] ++ 56 ∷ [] ++ 52 ∷ []) (decimal_step 16 (omega arith) (omega arith))
    ∙ ap (λ (digits : List ℕ). digits ++ 54 ∷ [] ++ 51 ∷ [] ++ 56 ∷ [] ++ 52 ∷ []) (decimal_digit 1 (omega arith))

no_count : decimal 0 ≡ codes "0"
no_count = decimal_digit 0 (omega arith)

-- ---- the three lines

calls_line : (calls : ℕ) → calls ≡ 16384 → calls_text calls ≡ codes "calls 16384\n"
calls_line calls is = ap calls_text is ∙ ap (λ (digits : List ℕ). codes "calls " ++ digits ++ codes "\n") all_calls

state_line : (capacity : ℕ) (monitor : MonitorParts) (state : List Value) → monitor ≡ buffer_of capacity → state ≡ values.Int (pos 0) ∷ [] → state_text monitor state ≡ codes "state count=0\n"
state_line capacity monitor state is empty =
    ap₂ state_text is empty ∙ ap (λ (digits : List ℕ). codes "state" ++ (codes " " ++ codes "count" ++ codes "=" ++ digits ++ []) ++ codes "\n") no_count

end_line : (monitor : MonitorParts) (clients : List Client) (now : Situation) → IsFinished clients now
    → end_text monitor clients now.places (are_done clients now.places) ≡ codes "done\n"
end_line monitor clients now finished = ap (end_text monitor clients now.places) (finished_done clients now finished)

-- ---- the whole

run_done : (number : ℕ) (system : System) (log : List Entry) (now : Situation)
    → system.monitor ≡ buffer_of (capacity_of number) → system.clients ≡ producers_and_consumers
    → IsRun system.monitor system.clients (commits_of log) now → Ends system.monitor system.clients now
    → IsDone (commits_of log) now
run_done number system log now is are run ends =
    every_run number (commits_of log) now
    (subst (λ (monitor : MonitorParts). IsRun monitor producers_and_consumers (commits_of log) now) is
    (subst (λ (clients : List Client). IsRun system.monitor clients (commits_of log) now) are run))
    (subst (λ (monitor : MonitorParts). Ends monitor producers_and_consumers now) is
    (subst (λ (clients : List Client). Ends system.monitor clients now) are ends))

-- a log of the large input whose commits are a run that ended is summed up so, whatever the plan
-- and the order of sections
pub large_summary : (number : ℕ) (system : System) (log : List Entry) (last : Configuration)
    → system.monitor ≡ buffer_of (capacity_of number) → system.clients ≡ producers_and_consumers
    → IsRun system.monitor system.clients (commits_of log) (situation_of last) → Ends system.monitor system.clients (situation_of last)
    → summary_text system log last ≡ codes "calls 16384\ndone\nstate count=0\n"
large_summary number system log last is are run ends =
    let over = run_done number system log (situation_of last) is are run ends in
    let finished = subst (λ (clients : List Client). IsFinished clients (situation_of last)) (sym are) over.finished in
    ap (λ (text : List ℕ). text ++ (end_text system.monitor system.clients (situation_of last).places (are_done system.clients (situation_of last).places) ++ state_text system.monitor last.state))
    (calls_line (length (commits_of log)) over.calls)
    ∙ ap (λ (text : List ℕ). codes "calls 16384\n" ++ (text ++ state_text system.monitor last.state)) (end_line system.monitor system.clients (situation_of last) finished)
    ∙ ap (λ (text : List ℕ). codes "calls 16384\n" ++ (codes "done\n" ++ text)) (state_line (capacity_of number) system.monitor last.state is over.empty)
