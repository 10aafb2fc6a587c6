use Rattle.std.proofs.Common.{◌≡◌, ◌++◌, take}
use Rattle.plan_why.specs.Things.{tests_of_block}
use Rattle.plan_why.proofs.listing.push_tests.Given as goal

abbrev pub invariant-loop-note : goal.invariant-loop-note
invariant-loop-note l = l.things.items ≡ l.fn.things.items ++ tests_of_block l.block (take l.note-index l.notes)
