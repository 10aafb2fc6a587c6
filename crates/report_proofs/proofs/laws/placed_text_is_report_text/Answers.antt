use Rattle.report_proofs.proofs.PlacedTexts.{placed_lines, placed_report}
use Rattle.report_proofs.proofs.laws.placed_text_is_report_text.Goals as goal

pub returns-clause-text : goal.returns-clause-text
returns-clause-text c = placed_lines

pub returns-clause-report : goal.returns-clause-report
returns-clause-report c = placed_report
