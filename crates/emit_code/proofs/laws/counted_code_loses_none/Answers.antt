use Rattle.emit_code.proofs.Covering.{late_seen_to}
use Rattle.emit_code.proofs.Stillness.{quiet_late, still_late, still_ends}
use Rattle.emit_code.proofs.Live.{live_is_lawful_by_counting}
use Rattle.emit_code.proofs.Printed.{counted_loses_none}
use Rattle.emit_code.proofs.laws.counted_code_loses_none.Goals as goal

pub returns-clause-pending : goal.returns-clause-pending
returns-clause-pending c = late_seen_to

pub returns-clause-rests : goal.returns-clause-rests
returns-clause-rests c = quiet_late

pub returns-clause-ends : goal.returns-clause-ends
returns-clause-ends c = still_late

pub returns-clause-ends_the_run : goal.returns-clause-ends_the_run
returns-clause-ends_the_run c = still_ends

pub returns-clause-live : goal.returns-clause-live
returns-clause-live c = live_is_lawful_by_counting

pub returns-clause-printed : goal.returns-clause-printed
returns-clause-printed c = counted_loses_none
