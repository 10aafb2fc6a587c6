use Rattle.std.proofs.Common.{◌≡◌, ◌≤◌, ◌-◌, length, take}
use Rattle.std.specs.Io.KnownBytes.{Appends}
use Rattle.base_io.proofs.sink.write_whole.Given as goal

abbrev pub invariant-loop-at : goal.invariant-loop-at
invariant-loop-at g l =
    (l.at ≤ length l.bytes)
    × Appends (g.S.Sink.seen l.initial.out).written (g.S.Sink.seen l.out).written (take l.at l.bytes)
    × ((g.S.Sink.seen l.initial.out).faults ≡ (g.S.Sink.seen l.out).faults)
    × (l.at ≡ 0 → l.out ≡ l.initial.out)

abbrev pub decreases-loop-at : goal.decreases-loop-at
decreases-loop-at g l = length l.bytes - l.at
