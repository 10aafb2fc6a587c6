use Rattle.std.specs.Prelude.{All, take}
use Rattle.report_audit.specs.inner.Seen.{AreNotesSuited}
use Rattle.report_audit.proofs.sight.are_lists_suited.Given as goal

abbrev pub invariant-loop-list : goal.invariant-loop-list
invariant-loop-list l = All (AreNotesSuited l.condition l.none l.wide) (take l.list-index l.lists)
