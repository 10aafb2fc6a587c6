use Rattle.std.proofs.Common.{Ok, take}
use Rattle.std.specs.List.{flat_map, enumerate_from}
use Rattle.machine_events.specs.PlanText.{block_text}
use Rattle.base_io.specs.Writing.{Wrote}
use Rattle.report_text.proofs.plan.write_blocks.Given as goal

abbrev pub invariant-loop-block : goal.invariant-loop-block
invariant-loop-block g l =
    Wrote (g.S.Sink.seen l.initial.out) (g.S.Sink.seen l.out) (Ok tt) (flat_map (λ one. block_text l.monitor one.0 one.1) (take l.block (enumerate_from 0 l.lists)))
