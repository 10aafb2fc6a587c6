use Rattle.plan_claims.specs.Backing.{untested_claims}
use Rattle.plan_place.specs.inner.Answers.{Adds, AreNotes, unnoted_up_to}
use Rattle.plan_place.proofs.notes.notes_of.Given as goal

abbrev pub invariant-loop-index : goal.invariant-loop-index
invariant-loop-index l = record {
  made : AreNotes l.monitor l.kept l.kinds l.block l.index l.notes.items;
  unnoted : Adds l.monitor l.kept (unnoted_up_to l.block l.index l.notes.items) l.fn.found.unnoted.items l.found.unnoted.items;
  untested : Adds l.monitor l.kept (untested_claims l.monitor l.block l.notes.items) l.fn.found.untested.items l.found.untested.items;
}
