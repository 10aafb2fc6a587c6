use Rattle.std.proofs.Common.{ap, rules, ◌∙◌}
use Rattle.plan_why.specs.inner.Running.{flags_with}
use Rattle.plan_why.proofs.Valuations.{put_truth}
use Rattle.plan_why.proofs.running.with_truth.Goals as goal

pub returns : goal.returns
returns c =
    put_truth c.args.at.now (record { numbers = c.of.result; flags = c.of-2.result }) c.args.place c.args.truth (search rules)
    (c.of-2.ensures ∙ c.in_ok-flags.ensures ∙ ap (flags_with c.args.place c.args.truth) c.items-2.ensures)
