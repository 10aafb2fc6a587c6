use Rattle.std.proofs.Common.{◌≡◌, ◌≤◌, true, length, refl, sym, arith}
use Rattle.std.specs.List.{zip}
use Rattle.std.proofs.lemmas.Bool.{true≢false}
use Rattle.std.proofs.lemmas.Slice.Zip.{length-zip}
use Rattle.report_verdict.specs.inner.Sight.{is_kind_suited}
use Rattle.report_verdict.proofs.Pairs.{all_taken}
use Rattle.report_verdict.proofs.Seen.{suits_more, suits_fail}
use Rattle.report_verdict.proofs.sight.are_kinds_suited.Goals as goal

pub returns-then-not-is_kind_suited : goal.returns-then-not-is_kind_suited
returns-then-not-is_kind_suited c = (
  λ held. absurd (true≢false (sym held)),
  λ all. absurd (suits_fail c.args.conditions.now c.args.kinds.now c.loop-index.index c.index-conditions-index.result _ _ c.is_kind_suited.result c.loop-index-test.true c.requires c.index-conditions-index.is c.is_kind_suited.ensures c.if-not-is_kind_suited.true all),
)

pub loop-index-preserved : goal.loop-index-preserved
loop-index-preserved c =
    suits_more c.args.conditions.now c.args.kinds.now c.loop-index.index c.index-conditions-index.result _ _ c.is_kind_suited.result c.loop-index-test.true c.requires c.index-conditions-index.is c.is_kind_suited.ensures c.if-not-is_kind_suited.false c.loop-index.invariant

pub returns : goal.returns
returns c =
    let conditions = c.args.conditions.now in
    let kinds = c.args.kinds.now in
    let end : length (zip conditions kinds) ≤ c.loop-index.index = omega (arith, length-zip conditions kinds, c.loop-index-test.false) in
    (λ held. all_taken (λ one. is_kind_suited one.0 one.1 ≡ true) (zip conditions kinds) c.loop-index.index end c.loop-index.invariant, λ all. refl)
