use Rattle.std.proofs.Common.{◌-◌, ◌≡◌, ◌≤◌}
use Rattle.std.specs.Prelude.{slice_range}
use Rattle.std.specs.Io.KnownBytes.{Keeps, append_known}
use Rattle.base_io.proofs.gathered.Gathered.hand_on.Given as goal

abbrev pub invariant-loop-self : goal.invariant-loop-self
invariant-loop-self g l =
    (l.initial.self.handed ≤ l.self.handed)
    × (l.self.filled ≡ l.initial.self.filled)
    × (l.faults ≡ l.initial.faults)
    × Keeps (append_known (g.W.Write.contents l.initial.out) (slice_range l.initial.self.bytes l.initial.self.handed l.initial.self.filled))
    (append_known (g.W.Write.contents l.out) (slice_range l.self.bytes l.self.handed l.self.filled))

abbrev pub decreases-loop-self : goal.decreases-loop-self
decreases-loop-self g l = l.self.filled - l.self.handed
