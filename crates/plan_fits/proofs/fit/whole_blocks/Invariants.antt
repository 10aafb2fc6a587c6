use Rattle.std.proofs.Common.{◌≡◌, ℕ, Bool, Some, length}
use Rattle.std.specs.Prelude.{slice_get}
use Rattle.plan_fits.specs.Answers.{IsWhole}
use Rattle.plan_fits.proofs.fit.whole_blocks.Given as goal

abbrev pub invariant-loop-block : goal.invariant-loop-block
invariant-loop-block l =
    (length l.whole.items ≡ l.block) × ((number : ℕ) (is : Bool) → slice_get l.whole.items number ≡ Some is → IsWhole l.monitor l.kept number is)
