use Rattle.std.proofs.Common.{sym, ◌∙◌}
use Rattle.logic_elim.proofs.PlaceLemmas.{noted_more}
use Rattle.logic_elim.proofs.places.note_places.Goals as goal

pub loop-term-preserved : goal.loop-term-preserved
loop-term-preserved c = c.in_ok-note_place.ensures ∙ rw c.loop-term.invariant (sym (noted_more _ _ _ _ c.loop-term-test.true))
