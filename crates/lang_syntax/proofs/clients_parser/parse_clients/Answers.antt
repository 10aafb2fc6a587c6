use Rattle.lang_tokens.specs.Words.{words}
use Rattle.lang_syntax.specs.ClientGrammar.{IsClientFile}
use Rattle.lang_syntax.specs.inner.Reading.{client_file}
use Rattle.lang_syntax.proofs.ClientReads.{client_file_found, client_file_again, client_file_fault}
use Rattle.lang_syntax.proofs.Outcomes.{are_tokens, ok_parses, err_parses, err_place}
use Rattle.lang_syntax.proofs.clients_parser.parse_clients.Goals as goal

pub whole-requires : goal.whole-requires
whole-requires c = are_tokens c.args.bytes.now c.args.tokens.now c.requires.spelled

pub returns-in-Ok-clause-derived : goal.returns-in-Ok-clause-derived
returns-in-Ok-clause-derived c = client_file_found (words c.args.bytes.now c.args.tokens.now) c.in-Ok.tree c.in-Ok.ensures

pub returns-in-Ok-clause-complete : goal.returns-in-Ok-clause-complete
returns-in-Ok-clause-complete c = λ tree derives.
    let ws = words c.args.bytes.now c.args.tokens.now in
    ok_parses (client_file ws) c.in-Ok.tree tree c.in-Ok.ensures (client_file_again ws tree derives)

pub returns-in-Err-clause-complete : goal.returns-in-Err-clause-complete
returns-in-Err-clause-complete c = λ tree derives.
    let ws = words c.args.bytes.now c.args.tokens.now in
    err_parses c.args.bytes.now c.args.tokens.now (client_file ws) c.in-Err.stop c.fault_of.result tree c.in-Err.ensures c.fault_of.ensures (client_file_again ws tree derives)

pub returns-in-Err-clause-place : goal.returns-in-Err-clause-place
returns-in-Err-clause-place c =
    let ws = words c.args.bytes.now c.args.tokens.now in
    err_place IsClientFile c.args.bytes.now c.args.tokens.now (client_file ws) c.in-Err.stop c.fault_of.result c.in-Err.ensures c.fault_of.ensures (client_file_fault c.args.bytes.now c.args.tokens.now)
