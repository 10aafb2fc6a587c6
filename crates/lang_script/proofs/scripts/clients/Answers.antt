use Rattle.std.proofs.Common.{map, ap, subst, sym, ◌∙◌}
use Rattle.std.proofs.lemmas.List.Elements.{All-same}
use Rattle.machine_implicit.specs.Scripted.{AreClients, FitsScripts}
use Rattle.lang_script.specs.Faults.{faults_of}
use Rattle.lang_script.specs.Scripts.{client_of}
use Rattle.lang_script.specs.inner.Making.{AreSmallItems}
use Rattle.lang_script.proofs.Accepted.{are_clients, scripts_fit, small_items}
use Rattle.lang_base.proofs.Least.{none_is_least, some_is_least}
use Rattle.lang_base.specs.SourceFaults.{order}
use Rattle.lang_script.proofs.scripts.clients.Goals as goal

pub make_clients-requires : goal.make_clients-requires
make_clients-requires c =
    All-same (λ tree. AreSmallItems tree.items) c.items.result.now c.args.tree.now.clients c.items.ensures
    (small_items c.args.monitor.now c.args.tree.now (none_is_least order _ (sym c.in-None.ensures)))

pub of-requires : goal.of-requires
of-requires c =
    subst AreClients (sym (c.in_ok-make_clients-in-None.ensures ∙ ap (map (client_of c.args.monitor.now)) c.items.ensures))
    (are_clients c.args.monitor.now c.args.tree.now (none_is_least order _ (sym c.in-None.ensures)) c.requires.named)

pub returns-in-Some-clause-fault : goal.returns-in-Some-clause-fault
returns-in-Some-clause-fault c = some_is_least order (faults_of c.args.monitor.now c.args.tree.now) _ (sym c.in-Some.ensures)

pub returns-in_ok-make_clients-in-None-clause-fits : goal.returns-in_ok-make_clients-in-None-clause-fits
returns-in_ok-make_clients-in-None-clause-fits c =
    subst (FitsScripts c.args.monitor.now) (sym (c.of.ensures ∙ c.in_ok-make_clients-in-None.ensures ∙ ap (map (client_of c.args.monitor.now)) c.items.ensures))
    (scripts_fit c.args.monitor.now c.args.tree.now (none_is_least order _ (sym c.in-None.ensures)))

pub returns-in_ok-make_clients-in-None-clause-unbroken : goal.returns-in_ok-make_clients-in-None-clause-unbroken
returns-in_ok-make_clients-in-None-clause-unbroken c = none_is_least order _ (sym c.in-None.ensures)
