use Rattle.std.proofs.Common.{length, refl, rules, ap, ◌∙◌}
use Rattle.std.proofs.lemmas.List.{places, with_items_is}
use Rattle.machine_implicit.proofs.Progressing.{follows_lent, progress_more, progress_fewer}
use Rattle.machine_implicit.proofs.progress.act.Goals as goal

pub returns-clause-run : goal.returns-clause-run
returns-clause-run c =
    let back = with_items_is c.args.run.now.places c.commit_of-commit.new.places (search (rules, places)) in
    let follows = follows_lent c.args.monitor.now c.args.clients.now c.args.run.now.state c.commit_of-commit.new.state c.args.run.now.places.items c.deref_mut.result.now
    c.commit_of-commit.new.places _ c.commit_of-commit.result c.deref_mut.ensures.value back c.commit_of-commit.ensures.next in
    progress_more c.args.monitor.now c.args.clients.now c.args.run.now _ c.args.client c.commit_of-commit.result c.commit_of-commit.ensures.rule c.requires.scripts c.requires.run
    c.requires.next c.commit_of-commit.ensures.own follows c.in_ok-push.ensures.items (ap length back ∙ c.commit_of-commit.ensures.each ∙ ap length c.deref_mut.ensures.value) refl

pub returns-clause-fewer : goal.returns-clause-fewer
returns-clause-fewer c =
    let back = with_items_is c.args.run.now.places c.commit_of-commit.new.places (search (rules, places)) in
    let follows = follows_lent c.args.monitor.now c.args.clients.now c.args.run.now.state c.commit_of-commit.new.state c.args.run.now.places.items c.deref_mut.result.now
    c.commit_of-commit.new.places _ c.commit_of-commit.result c.deref_mut.ensures.value back c.commit_of-commit.ensures.next in
    progress_fewer c.args.monitor.now c.args.clients.now c.args.run.now _ c.push.new.self.items c.commit_of-commit.result c.commit_of-commit.ensures.rule c.requires.scripts c.requires.run
    follows c.in_ok-push.ensures.items
