use Rattle.std.proofs.Common.{◌≡◌, length, ap, arith, ◌∙◌}
use Rattle.std.specs.List.{list_any}
use Rattle.logic_elim.specs.Rows.{is_as_tight}
use Rattle.logic_elim.specs.inner.Index.{bucket_of}
use Rattle.logic_elim.proofs.BucketLemmas.{known_by_bucket}
use Rattle.logic_elim.proofs.rows.Rows.is_known.Goals as goal

pub returns : goal.returns
returns c =
    let count : c.len.result ≡ length c.self.inside.buckets.items = omega arith in
    c.has_tight.ensures
    ∙ known_by_bucket c.self.inside.side c.self.inside.rows.items c.self.inside.buckets.items c.bucket_of-at.result c.index.result.now c.args.row.now c.deref.result.now c.deref-2.result.now
    c.self.invariant (c.bucket_of-at.ensures.value ∙ ap (λ count. bucket_of c.self.inside.side count c.args.row.now.terms) count) (omega arith) c.index.ensures c.deref.ensures.value c.deref-2.ensures.value
    ∙ ap (list_any (is_as_tight c.args.row.now)) c.self.view_is
