use Rattle.std.proofs.Common.{Ok, take}
use Rattle.std.specs.List.{flat_map}
use Rattle.report_text.specs.TurnsText.{commit_text}
use Rattle.base_io.specs.Writing.{Wrote}
use Rattle.report_text.proofs.turns.write_commits.Given as goal

abbrev pub invariant-loop-commit : goal.invariant-loop-commit
invariant-loop-commit g l =
    Wrote (g.S.Sink.seen l.initial.out) (g.S.Sink.seen l.out) (Ok tt) (flat_map (commit_text l.monitor l.clients) (take l.commit-index l.history))
