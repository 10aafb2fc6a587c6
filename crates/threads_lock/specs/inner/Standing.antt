-- How a client stands that is ready, or waits, or neither.
use Rattle.std.specs.Prelude.{Bool, true, false}
use Rattle.threads_lock.specs.declared.standing.Standing.{Standing}
use Rattle.threads_lock.specs.declared.standing.Standing.TheVariants as standings

abbrev pub standing_by : Bool → Bool → Bool → Standing
standing_by true waits stalled = standings.Ready
standing_by false false stalled = standings.Over
standing_by false true true = standings.Stalled
standing_by false true false = standings.Waits
