use Rattle.std.proofs.Common.{◌∙◌, ap, sym}
use Rattle.base_io.proofs.Writing.{wrote_same}
use Rattle.report_text.specs.FaultText.{too_long_text, other_too_long_text, unread_text, not_report_text, not_plan_text}
use Rattle.report_text.specs.Faults.{fault_text}
use Rattle.report_text.proofs.fault.write_fault.Goals as goal

pub returns-in-TooLong : goal.returns-in-TooLong
returns-in-TooLong g c =
    wrote_same _ (ap too_long_text c.as_bytes.ensures.value ∙ ap fault_text (sym c.in-TooLong.is)) c.write_pieces.ensures

pub returns-in-OtherTooLong : goal.returns-in-OtherTooLong
returns-in-OtherTooLong g c =
    wrote_same _ (ap other_too_long_text c.as_bytes-in-OtherTooLong.ensures.value ∙ ap fault_text (sym c.in-OtherTooLong.is)) c.write_pieces-in-OtherTooLong.ensures

pub returns-in-NotReport : goal.returns-in-NotReport
returns-in-NotReport g c =
    wrote_same _ (ap not_report_text c.as_bytes-in-NotReport.ensures.value ∙ ap fault_text (sym c.in-NotReport.is)) c.write_pieces-in-NotReport.ensures

pub returns-in-NotPlan : goal.returns-in-NotPlan
returns-in-NotPlan g c =
    wrote_same _ (ap not_plan_text c.as_bytes-in-NotPlan.ensures.value ∙ ap fault_text (sym c.in-NotPlan.is)) c.write_pieces-in-NotPlan.ensures

pub returns-in-Unread : goal.returns-in-Unread
returns-in-Unread g c =
    wrote_same _ (ap unread_text c.as_bytes-in-Unread.ensures.value ∙ ap fault_text (sym c.in-Unread.is)) c.write_pieces-in-Unread.ensures
