use Rattle.std.proofs.Common.{◌∙◌, ◌≤◌, List, length, refl, subst, sym, ℕ}
use Rattle.std.proofs.lemmas.Result.{err_from_is_err_and}
use Rattle.front_command.specs.CommandLine.{as_clients}
use Rattle.expresso_answers.proofs.OtherFile.{clients_limit, clients_refused, input_held}
use Rattle.expresso_answers.proofs.input.input_of.Goals as goal

pub scripts_in-requires : goal.scripts_in-requires
scripts_in-requires g c = subst (λ (b : List ℕ). length b ≤ 65536) (sym c.deref.ensures.value) c.in_ok-opened.ensures.short

pub returns-in_err-opened-clause-ended : goal.returns-in_err-opened-clause-ended
returns-in_err-opened-clause-ended g c =
    let returned = err_from_is_err_and c.from_residual.result c.from_residual.ensures.1 in
    rw (returned.1, returned.2) (c.in_err-opened.ensures.ended as_clients (clients_limit c.args.clients.now _ refl refl))

pub returns-in_err-scripts-clause-ended : goal.returns-in_err-scripts-clause-ended
returns-in_err-scripts-clause-ended g c =
    let returned = err_from_is_err_and c.from_residual-in_err-scripts.result c.from_residual-in_err-scripts.ensures.1 in
    let opened = c.in_ok-opened.opened in
    rw (returned.1, returned.2)
    (clients_refused c.one_spelling.ensures.one c.derives_one_tree.ensures.monitors c.one_spelling.ensures.stuck c.derives_one_tree.ensures.clients
    c.args.monitor.now c.args.clients.now opened.bytes.items c.deref.result.now (g.F.Files.seen c.args.files.now) (g.F.Files.seen c.open_both.new.files) _
    (g.S.Sink.seen c.args.out.now) (g.S.Sink.seen c.open_both.new.out) _ c.deref.ensures.value c.in_ok-opened.ensures.told opened.found.tree opened.found.monitor c.in_ok-opened.ensures.holds
    c.in_ok-opened.ensures.quiet.steady c.in_ok-opened.ensures.quiet.silent c.in_err-scripts.ensures.refused)

pub returns-clause-input : goal.returns-clause-input
returns-clause-input g c =
    let opened = c.in_ok-opened.opened in
    input_held (g.F.Files.seen c.args.files.now).held c.args.monitor.now c.args.clients.now opened.bytes.items c.deref.result.now
    opened.found.tree opened.found.monitor c.in_ok-scripts.scripts c.deref.ensures.value c.in_ok-opened.ensures.told c.in_ok-opened.ensures.holds c.in_ok-scripts.ensures.accepted

pub returns-clause-quiet : goal.returns-clause-quiet
returns-clause-quiet g c = record {
  steady = c.in_ok-opened.ensures.quiet.steady;
  silent = c.in_ok-scripts.ensures.silent ∙ c.in_ok-opened.ensures.quiet.silent;
}
