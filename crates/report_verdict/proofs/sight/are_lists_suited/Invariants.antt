use Rattle.std.specs.Prelude.{All, take}
use Rattle.report_verdict.specs.inner.Sight.{AreNotesSuited}
use Rattle.report_verdict.proofs.sight.are_lists_suited.Given as goal

abbrev pub invariant-loop-list : goal.invariant-loop-list
invariant-loop-list l = All (AreNotesSuited l.monitor l.kinds) (take l.list-index l.lists)
