use Rattle.std.proofs.Common.{◌-◌, Ok, length, take}
use Rattle.std.specs.List.{flat_map, enumerate_from}
use Rattle.report_text.specs.LogText.{woken_name}
use Rattle.base_io.specs.Writing.{Wrote}
use Rattle.report_text.proofs.log.write_woken.Given as goal

abbrev pub invariant-loop-passed : goal.invariant-loop-passed
invariant-loop-passed g l =
    Wrote (g.S.Sink.seen l.initial.out) (g.S.Sink.seen l.out) (Ok tt) (flat_map (λ one. woken_name l.woken one.0 one.1) (take l.passed (enumerate_from 0 l.clients)))

abbrev pub decreases-loop-passed : goal.decreases-loop-passed
decreases-loop-passed g l = length l.clients - l.passed
