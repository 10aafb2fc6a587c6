use Rattle.std.proofs.Common.{ap, sym}
use Rattle.base_io.proofs.Writing.{wrote_same}
use Rattle.emit_statements.specs.Sources.{seen}
use Rattle.emit_module.specs.declared.fields.ConditionLine.{ConditionLine}
use Rattle.emit_module.specs.inner.Lines.{condition_at}
use Rattle.emit_module.proofs.fields.write_condition.Goals as goal

pub returns-in-Variable : goal.returns-in-Variable
returns-in-Variable g c =
    wrote_same _ (ap (λ (line : ConditionLine). condition_at line (seen c.args.source.now) c.args.place c.args.which.now) (sym c.in-Variable.is)) c.write_waited_field.ensures

pub returns-in-NewVariable : goal.returns-in-NewVariable
returns-in-NewVariable g c =
    wrote_same _ (ap (λ (line : ConditionLine). condition_at line (seen c.args.source.now) c.args.place c.args.which.now) (sym c.in-NewVariable.is)) c.write_around_name.ensures

pub returns-in-Count : goal.returns-in-Count
returns-in-Count g c =
    wrote_same _ (ap (λ (line : ConditionLine). condition_at line (seen c.args.source.now) c.args.place c.args.which.now) (sym c.in-Count.is)) c.write_around_count.ensures

pub returns-in-NewCount : goal.returns-in-NewCount
returns-in-NewCount g c =
    wrote_same _ (ap (λ (line : ConditionLine). condition_at line (seen c.args.source.now) c.args.place c.args.which.now) (sym c.in-NewCount.is)) c.write_around_count-in-NewCount.ensures

pub returns-in-CopiedCount : goal.returns-in-CopiedCount
returns-in-CopiedCount g c =
    wrote_same _ (ap (λ (line : ConditionLine). condition_at line (seen c.args.source.now) c.args.place c.args.which.now) (sym c.in-CopiedCount.is)) c.write_copied_count.ensures
