use Rattle.std.proofs.Common.{◌≡◌, take}
use Rattle.logic_elim.specs.Noted.{noted}
use Rattle.logic_elim.proofs.places.note_places.Given as goal

abbrev pub invariant-loop-term : goal.invariant-loop-term
invariant-loop-term l = l.places.items ≡ noted l.initial.places.items (take l.term-index l.terms)
