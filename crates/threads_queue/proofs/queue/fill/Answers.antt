use Rattle.std.proofs.Common.{rules, sym, subst}
use Rattle.std.specs.Prelude.{Contains}
use Rattle.crossbeam_queue.specs.Passes.{view}
use Rattle.threads_queue.proofs.Steps.{has_first, one_less_of_range}
use Rattle.threads_queue.proofs.queue.fill.Goals as goal

pub try_put-requires-clause-has : goal.try_put-requires-clause-has
try_put-requires-clause-has c = subst (λ ticket. Contains (view c.loop-client.place).tickets ticket) (sym c.of.ensures) (has_first (view c.args.place.now) (view c.loop-client.place) c.loop-client.client c.args.clients (search rules) c.loop-client.invariant.1)

pub loop-client-preserved : goal.loop-client-preserved
loop-client-preserved c = (
  search rules,
  one_less_of_range (view c.args.place.now) (view c.loop-client.place) (view c.try_put.new.place) c.loop-client.client c.args.clients (search rules) c.loop-client.invariant.1 (search rules),
  c.loop-client.invariant.2,
)
