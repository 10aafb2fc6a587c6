use Rattle.std.proofs.Common.{◌≡◌, length, ap, arith, ◌∙◌}
use Rattle.logic_elim.specs.inner.Index.{bucket_of}
use Rattle.logic_elim.proofs.BucketLemmas.{kept_indexed, pushed_indexed}
use Rattle.logic_elim.proofs.rows.Rows.push.Goals as goal

pub invariant_of-self : goal.invariant_of-self
invariant_of-self c =
    kept_indexed c.self.inside.side c.self.inside.rows.items c.push_both.new.rows.items c.self.inside.buckets.items c.bucket_of-at.result c.index_mut.result.now c.push_both.new.bucket
    c.self.invariant (omega arith) c.index_mut.ensures.value c.in_err-push_both.ensures.same_bucket c.in_err-push_both.ensures.same_rows

pub invariant_of-self-2 : goal.invariant_of-self-2
invariant_of-self-2 c =
    let count : c.len.result ≡ length c.self.inside.buckets.items = omega arith in
    pushed_indexed c.self.inside.side c.self.inside.rows.items c.push_both.new.rows.items c.self.inside.buckets.items c.bucket_of-at.result c.index_mut.result.now c.push_both.new.bucket c.args.new
    c.self.invariant (c.bucket_of-at.ensures.value ∙ ap (λ count. bucket_of c.self.inside.side count c.args.new.row.terms) count) (omega arith) c.index_mut.ensures.value c.in_ok-push_both.ensures.bucket c.in_ok-push_both.ensures.rows
