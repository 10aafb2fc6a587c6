use Rattle.std.proofs.lemmas.Result.{err_from_is_err_and}
use Rattle.lang_syntax.specs.Grammar.{IsMonitorFile}
use Rattle.lang_rules.specs.Rules.{faults_of}
use Rattle.expresso_answers.proofs.FirstFaults.{broken_cause, stuck_cause, unfit_cause}
use Rattle.expresso_answers.proofs.monitor_file.read_monitor.Goals as goal

pub returns-in_err-tokens-clause-fault : goal.returns-in_err-tokens-clause-fault
returns-in_err-tokens-clause-fault c =
    let returned = err_from_is_err_and c.from_residual.result c.from_residual.ensures.1 in
    rw (returned.1, returned.2) (stuck_cause IsMonitorFile faults_of c.args.bytes.now c.in_err-tokens.field-0.0 c.requires c.in_err-tokens.ensures.stuck)

pub returns-in_err-tree-clause-fault : goal.returns-in_err-tree-clause-fault
returns-in_err-tree-clause-fault c =
    let returned = err_from_is_err_and c.from_residual-in_err-tree.result c.from_residual-in_err-tree.ensures.1 in
    rw (returned.1, returned.2) (unfit_cause IsMonitorFile faults_of c.args.bytes.now c.in_ok-tokens.tokens.items c.deref.result.now c.in_err-tree.field-0.0 c.requires
    c.in_ok-tokens.ensures.spelled c.deref.ensures.value c.in_err-tree.ensures.complete c.in_err-tree.ensures.place)

pub returns-in_err-monitor-clause-fault : goal.returns-in_err-monitor-clause-fault
returns-in_err-monitor-clause-fault c =
    let returned = err_from_is_err_and c.from_residual-in_err-monitor.result c.from_residual-in_err-monitor.ensures.1 in
    rw (returned.1, returned.2) (broken_cause IsMonitorFile faults_of c.args.bytes.now c.in_ok-tokens.tokens.items c.deref.result.now c.in_ok-tree.tree c.in_err-monitor.field-0.0 c.requires
    c.in_ok-tokens.ensures.spelled c.deref.ensures.value c.in_ok-tree.ensures.derived c.in_err-monitor.ensures.fault)
