use Rattle.std.proofs.Common.{sym, ap, ◌∙◌}
use Rattle.machine_implicit.specs.declared.script.Client.{Client}
use Rattle.machine_implicit.proofs.Progressing.{done_where}
use Rattle.machine_implicit.proofs.progress.is_done.Goals as goal

pub returns : goal.returns
returns c =
    done_where c.args.clients.now c.args.run.now.places.items c.args.client c.index-clients-client.result c.index.result.now c.items.result.now c.requires.client c.requires.one_each
    c.index.ensures c.index-clients-client.is (c.items.ensures ∙ ap (λ (one : Client). one.calls) (sym c.index-clients-client.is))
