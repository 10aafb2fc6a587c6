use Rattle.std.proofs.Common.{Bool, List, length}
use Rattle.lang_tokens.specs.Words.{Word}
use Rattle.lang_cursor.specs.Reading.{Read, each_at}
use Rattle.lang_cursor.specs.Calls.{Answers, AreItems, Reads}
use Rattle.lang_cursor.proofs.Rounds.{Going}
use Rattle.lang_cursor.proofs.items.many.Given as goal

abbrev pub invariant-items : goal.invariant-items
invariant-items g l = (starts : List Word → Bool) (read : List Word → Read g.row.T.Denot)
    → Answers g.S.Fn l.fn.begins starts → Reads g.F.Fn l.fn.item read → AreItems starts read
    → Going starts read (each_at starts read l.fn.input) l.out.items l.input

abbrev pub decreases-items : goal.decreases-items
decreases-items g l = length l.input
