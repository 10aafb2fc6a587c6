use Rattle.std.proofs.Common.{List, subst, sym}
use Rattle.std.proofs.lemmas.Result.{err_from_is_err_and}
use Rattle.lang_tokens.specs.declared.token.Token.{Token}
use Rattle.lang_tokens.specs.Spelling.{Spells}
use Rattle.lang_syntax.specs.ClientGrammar.{IsClientFile}
use Rattle.lang_script.specs.Faults.{faults_of}
use Rattle.expresso_answers.proofs.FirstFaults.{broken_cause, stuck_cause, unfit_cause}
use Rattle.expresso_answers.proofs.client_file.read_clients.Goals as goal

pub clients-requires : goal.clients-requires
clients-requires c = record {
  named =
      c.names_are_identifiers.ensures.clients c.args.bytes.now c.deref.result.now c.in_ok-tree.tree
      (subst (λ (t : List Token). Spells c.args.bytes.now t) (sym c.deref.ensures.value) c.in_ok-tokens.ensures.spelled) c.in_ok-tree.ensures.derived;
}

pub returns-in_err-tokens-clause-fault : goal.returns-in_err-tokens-clause-fault
returns-in_err-tokens-clause-fault c =
    let returned = err_from_is_err_and c.from_residual.result c.from_residual.ensures.1 in
    rw (returned.1, returned.2) (stuck_cause IsClientFile (faults_of c.args.monitor.now) c.args.bytes.now c.in_err-tokens.field-0.0 c.requires c.in_err-tokens.ensures.stuck)

pub returns-in_err-tree-clause-fault : goal.returns-in_err-tree-clause-fault
returns-in_err-tree-clause-fault c =
    let returned = err_from_is_err_and c.from_residual-in_err-tree.result c.from_residual-in_err-tree.ensures.1 in
    rw (returned.1, returned.2) (unfit_cause IsClientFile (faults_of c.args.monitor.now) c.args.bytes.now c.in_ok-tokens.tokens.items c.deref.result.now c.in_err-tree.field-0.0 c.requires
    c.in_ok-tokens.ensures.spelled c.deref.ensures.value c.in_err-tree.ensures.complete c.in_err-tree.ensures.place)

pub returns-in_err-scripts-clause-fault : goal.returns-in_err-scripts-clause-fault
returns-in_err-scripts-clause-fault c =
    let returned = err_from_is_err_and c.from_residual-in_err-scripts.result c.from_residual-in_err-scripts.ensures.1 in
    rw (returned.1, returned.2) (broken_cause IsClientFile (faults_of c.args.monitor.now) c.args.bytes.now c.in_ok-tokens.tokens.items c.deref.result.now c.in_ok-tree.tree c.in_err-scripts.field-0.0 c.requires
    c.in_ok-tokens.ensures.spelled c.deref.ensures.value c.in_ok-tree.ensures.derived c.in_err-scripts.ensures.fault)
