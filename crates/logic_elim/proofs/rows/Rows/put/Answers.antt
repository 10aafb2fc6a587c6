use Rattle.std.proofs.Common.{◌≡◌, ◌∷◌, ◌++◌, [], length, ap, arith, sym, ◌∙◌}
use Rattle.logic_elim.specs.Rows.{with_row}
use Rattle.logic_elim.specs.inner.Index.{bucket_of}
use Rattle.logic_elim.proofs.BucketLemmas.{none_by_bucket, some_by_bucket, replaced_indexed}
use Rattle.logic_elim.proofs.rows.Rows.put.Goals as goal

pub index_mut-requires : goal.index_mut-requires
index_mut-requires c =
    let count : c.len.result ≡ length c.self.inside.buckets.items = omega arith in
    let facts = some_by_bucket c.self.inside.side c.self.inside.rows.items c.self.inside.buckets.items c.bucket_of-at.result c.index.result.now c.args.new c.in-Some.number c.deref.result.now c.deref-2.result.now
    c.self.invariant (c.bucket_of-at.ensures.value ∙ ap (λ count. bucket_of c.self.inside.side count c.args.new.row.terms) count) (omega arith) c.index.ensures c.deref.ensures.value c.deref-2.ensures.value c.in-Some.ensures in
    let within = facts.within in
    omega arith

pub invariant_of-self : goal.invariant_of-self
invariant_of-self c =
    let count : c.len.result ≡ length c.self.inside.buckets.items = omega arith in
    replaced_indexed c.self.inside.side c.self.inside.rows.items c.self.inside.buckets.items c.args.new c.in-Some.number c.self.invariant
    (some_by_bucket c.self.inside.side c.self.inside.rows.items c.self.inside.buckets.items c.bucket_of-at.result c.index.result.now c.args.new c.in-Some.number c.deref.result.now c.deref-2.result.now
    c.self.invariant (c.bucket_of-at.ensures.value ∙ ap (λ count. bucket_of c.self.inside.side count c.args.new.row.terms) count) (omega arith) c.index.ensures c.deref.ensures.value c.deref-2.ensures.value c.in-Some.ensures)

pub returns-in-Some : goal.returns-in-Some
returns-in-Some c =
    let count : c.len.result ≡ length c.self.inside.buckets.items = omega arith in
    let facts = some_by_bucket c.self.inside.side c.self.inside.rows.items c.self.inside.buckets.items c.bucket_of-at.result c.index.result.now c.args.new c.in-Some.number c.deref.result.now c.deref-2.result.now
    c.self.invariant (c.bucket_of-at.ensures.value ∙ ap (λ count. bucket_of c.self.inside.side count c.args.new.row.terms) count) (omega arith) c.index.ensures c.deref.ensures.value c.deref-2.ensures.value c.in-Some.ensures in
    facts.set ∙ ap (λ rows. with_row rows c.args.new) c.self.view_is

pub returns : goal.returns
returns c =
    let count : c.len.result ≡ length c.self.inside.buckets.items = omega arith in
    c.in_ok-push.ensures
    ∙ ap (λ rows. rows ++ c.args.new ∷ []) (sym c.self.view_is)
    ∙ sym (none_by_bucket c.self.inside.side c.self.inside.rows.items c.self.inside.buckets.items c.bucket_of-at.result c.index.result.now c.args.new c.deref.result.now c.deref-2.result.now
    c.self.invariant (c.bucket_of-at.ensures.value ∙ ap (λ count. bucket_of c.self.inside.side count c.args.new.row.terms) count) (omega arith) c.index.ensures c.deref.ensures.value c.deref-2.ensures.value c.in_default.ensures)
    ∙ ap (λ rows. with_row rows c.args.new) c.self.view_is
