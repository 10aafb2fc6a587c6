use Rattle.lang_tokens.specs.Words.{words}
use Rattle.lang_syntax.specs.Grammar.{IsMonitorFile}
use Rattle.lang_syntax.specs.inner.Reading.{monitor_file}
use Rattle.lang_syntax.proofs.MonitorReads.{monitor_file_found, monitor_file_again, monitor_file_fault}
use Rattle.lang_syntax.proofs.Outcomes.{are_tokens, ok_parses, err_parses, err_place}
use Rattle.lang_syntax.proofs.monitor_parser.parse_monitor.Goals as goal

pub whole-requires : goal.whole-requires
whole-requires c = are_tokens c.args.bytes.now c.args.tokens.now c.requires.spelled

pub returns-in-Ok-clause-derived : goal.returns-in-Ok-clause-derived
returns-in-Ok-clause-derived c = monitor_file_found (words c.args.bytes.now c.args.tokens.now) c.in-Ok.tree c.in-Ok.ensures

pub returns-in-Ok-clause-complete : goal.returns-in-Ok-clause-complete
returns-in-Ok-clause-complete c = λ tree derives.
    let ws = words c.args.bytes.now c.args.tokens.now in
    ok_parses (monitor_file ws) c.in-Ok.tree tree c.in-Ok.ensures (monitor_file_again ws tree derives)

pub returns-in-Err-clause-complete : goal.returns-in-Err-clause-complete
returns-in-Err-clause-complete c = λ tree derives.
    let ws = words c.args.bytes.now c.args.tokens.now in
    err_parses c.args.bytes.now c.args.tokens.now (monitor_file ws) c.in-Err.stop c.fault_of.result tree c.in-Err.ensures c.fault_of.ensures (monitor_file_again ws tree derives)

pub returns-in-Err-clause-place : goal.returns-in-Err-clause-place
returns-in-Err-clause-place c =
    let ws = words c.args.bytes.now c.args.tokens.now in
    err_place IsMonitorFile c.args.bytes.now c.args.tokens.now (monitor_file ws) c.in-Err.stop c.fault_of.result c.in-Err.ensures c.fault_of.ensures (monitor_file_fault c.args.bytes.now c.args.tokens.now)
