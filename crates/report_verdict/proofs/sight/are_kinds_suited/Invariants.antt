use Rattle.std.proofs.Common.{◌≡◌, true, take}
use Rattle.std.specs.Prelude.{All}
use Rattle.std.specs.List.{zip}
use Rattle.report_verdict.specs.inner.Sight.{is_kind_suited}
use Rattle.report_verdict.proofs.sight.are_kinds_suited.Given as goal

abbrev pub invariant-loop-index : goal.invariant-loop-index
invariant-loop-index l = All (λ one. is_kind_suited one.0 one.1 ≡ true) (take l.index (zip l.conditions l.kinds))
