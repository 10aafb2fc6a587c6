-- The text that sums up a log.
use Rattle.std.specs.Prelude.{ℕ, List, ◌++◌, length, codes, decimal}
use Rattle.machine_events.specs.declared.log.Entry.{Entry}
use Rattle.machine_events.specs.Configurations.{System, Configuration, situation_of}
use Rattle.machine_events.specs.Logs.{commits_of}
use Rattle.report_text.specs.LogText.{closing_text}

-- `calls 16384` and a line feed
abbrev pub calls_text : ℕ → List ℕ
calls_text calls = codes "calls " ++ decimal calls ++ codes "\n"

-- the summary of a system's log that ended in a configuration: how many replies there are, then how
-- the log ended
abbrev pub summary_text : System → List Entry → Configuration → List ℕ
summary_text system log last =
    calls_text (length (commits_of log))
    ++ closing_text system.monitor system.clients (situation_of last)
