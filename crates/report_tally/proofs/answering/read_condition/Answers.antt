use Rattle.std.proofs.Common.{false, None, List, Option, ℕ, sym, subst}
use Rattle.std.specs.Prelude.{is_some}
use Rattle.logic_cert.specs.declared.cert.Cert.{Cert}
use Rattle.report_tally.specs.inner.Lines.{IsConditionFront, answers_with}
use Rattle.report_tally.proofs.ConditionLines.{uncounted_front}
use Rattle.report_tally.proofs.answering.read_condition.Goals as goal

pub returns-in-None : goal.returns-in-None
returns-in-None c =
    let monitor = c.args.monitor.now in
    let plan = c.args.plan.now in
    let condition = c.args.condition in
    let bytes = c.args.bytes.now in
    subst (λ (marked : Option ℕ). IsConditionFront monitor plan condition (is_some marked) bytes (answers_with None c.new.result.items) bytes) (sym c.in-None.is)
    (subst (λ (certs : List Cert). IsConditionFront monitor plan condition false bytes (answers_with None certs) bytes) (sym c.new.ensures.items) (uncounted_front monitor plan condition bytes))
