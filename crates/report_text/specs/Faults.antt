-- The line of a `Fault`.
use Rattle.std.specs.Prelude.{ℕ, List}
use Rattle.report_text.specs.declared.fault.Fault.{Fault}
use Rattle.report_text.specs.declared.fault.Fault.TheVariants as faults
use Rattle.report_text.specs.FaultText.{too_long_text, other_too_long_text, unread_text}
use Rattle.report_text.specs.FaultText.{not_plan_text, not_report_text, place_text}

abbrev pub fault_text : Fault → List ℕ
fault_text (faults.TooLong file) = too_long_text file.now
fault_text (faults.OtherTooLong file) = other_too_long_text file.now
fault_text (faults.Unread file) = unread_text file.now
fault_text (faults.NotReport file) = not_report_text file.now
fault_text (faults.NotPlan file) = not_plan_text file.now
fault_text (faults.Place file bytes fault) = place_text file.now bytes.now fault
