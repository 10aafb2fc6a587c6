use Rattle.std.proofs.Common.{◌≡◌, ◌++◌, take}
use Rattle.plan_needs.specs.Needs.{broadcasts_of_block}
use Rattle.plan_needs.proofs.broadcasting.push_broadcasts.Given as goal

abbrev pub invariant-loop-note : goal.invariant-loop-note
invariant-loop-note l = l.all.items ≡ l.fn.all.items ++ broadcasts_of_block l.columns l.block (take l.note-index l.notes)
