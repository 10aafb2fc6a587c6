use Rattle.logic_elim.proofs.LightLemmas.{next_places}
use Rattle.logic_elim.proofs.places.places_of.Goals as goal

pub loop-numbered-preserved : goal.loop-numbered-preserved
loop-numbered-preserved c =
    next_places c.args.rows.now c.loop-numbered.numbered-index c.numbered-item.result c.loop-numbered.places.items c.note_places.new.places.items c.terms.result.now
    c.loop-numbered-test.true c.numbered-item.is c.loop-numbered.invariant c.terms.ensures.terms c.in_ok-note_places.ensures
