use Rattle.std.specs.Global.{Global}
use Rattle.std.proofs.Common.{◌≡◌, ◌<◌, ℕ, [], length}
use Rattle.std.specs.Prelude.{Vec}
use Rattle.std.specs.List.{AllByRecursion as Each}
use Rattle.logic_elim.proofs.rows.empty_buckets.Given as goal

abbrev pub invariant-loop : goal.invariant-loop
invariant-loop l = record { some : 0 < length l.buckets.items; each : Each (λ (bucket : Vec ℕ Global). bucket.items ≡ []) l.buckets.items }
