use Rattle.logic_elim.proofs.BucketLemmas.{empty_indexed}
use Rattle.logic_elim.proofs.rows.Rows.new.Goals as goal

pub invariant_of-result : goal.invariant_of-result
invariant_of-result c = rw c.new.ensures.items (empty_indexed c.args.side c.in_ok-buckets.buckets.items c.in_ok-buckets.ensures.some c.in_ok-buckets.ensures.each)
