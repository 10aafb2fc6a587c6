use Rattle.std.proofs.Common.{List, ℕ, subst}
use Rattle.report_proofs.specs.Fronts.{IsAfter}
use Rattle.report_proofs.proofs.KeptLines.{flag_line}
use Rattle.report_proofs.proofs.kept.after_kept.Goals as goal

pub returns-in-Flag : goal.returns-in-Flag
returns-in-Flag c =
    subst (λ (text : List ℕ). IsAfter c.args.bytes.now text c.after_keep-in-Flag.result)
    (flag_line c.args.fields.now c.args.candidate c.in-Flag.field c.in-Flag.is' c.flag_bytes.result.now c.field_bytes-in-Flag.result.now c.in-Flag.is c.flag_bytes.ensures c.field_bytes-in-Flag.ensures)
    c.after_keep-in-Flag.ensures
