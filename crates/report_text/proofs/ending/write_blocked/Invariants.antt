use Rattle.std.proofs.Common.{Ok, take}
use Rattle.std.specs.List.{flat_map, enumerate_from}
use Rattle.report_text.specs.TurnsText.{blocked_text}
use Rattle.base_io.specs.Writing.{Wrote}
use Rattle.report_text.specs.inner.Ends.{places_listed}
use Rattle.report_text.proofs.ending.write_blocked.Given as goal

abbrev pub invariant-loop-client : goal.invariant-loop-client
invariant-loop-client g l =
    Wrote (g.S.Sink.seen l.initial.out) (g.S.Sink.seen l.out) (Ok tt) (flat_map (λ one. blocked_text l.monitor l.clients one.0 one.1) (take l.client (enumerate_from 0 (places_listed l.left))))
