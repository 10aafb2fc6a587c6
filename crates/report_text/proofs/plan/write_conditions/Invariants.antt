use Rattle.std.proofs.Common.{◌≡◌, ◌+◌, Ok, take, length}
use Rattle.std.specs.List.{flat_map, zip, enumerate_from}
use Rattle.machine_events.specs.PlanText.{condition_text}
use Rattle.base_io.specs.Writing.{Wrote}
use Rattle.report_text.proofs.plan.write_conditions.Given as goal

abbrev pub invariant-loop-condition : goal.invariant-loop-condition
invariant-loop-condition g l = record {
  counted : l.number ≡ 1 + length l.yielded;
  wrote : Wrote (g.S.Sink.seen l.initial.out) (g.S.Sink.seen l.out) (Ok tt)
      (flat_map (λ one. condition_text one.0 one.1.0 one.1.1) (take (length l.yielded) (enumerate_from 1 (zip l.conditions l.kinds))));
}
