use Rattle.std.proofs.Common.{Ok, take}
use Rattle.std.specs.List.{flat_map}
use Rattle.report_text.specs.LogText.{entry_text}
use Rattle.base_io.specs.Writing.{Wrote}
use Rattle.report_text.proofs.log.write_entries.Given as goal

abbrev pub invariant-loop-entry : goal.invariant-loop-entry
invariant-loop-entry g l =
    Wrote (g.S.Sink.seen l.initial.out) (g.S.Sink.seen l.out) (Ok tt) (flat_map (entry_text l.monitor l.clients) (take l.entry-index l.log))
