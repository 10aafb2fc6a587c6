use Rattle.std.proofs.Common.{◌≡◌, take, []}
use Rattle.logic_elim.specs.Chains.{rows_in}
use Rattle.logic_elim.specs.Noted.{noted, terms_in}
use Rattle.logic_elim.proofs.places.places_of.Given as goal

abbrev pub invariant-loop-numbered : goal.invariant-loop-numbered
invariant-loop-numbered l = l.places.items ≡ noted [] (terms_in (rows_in (take l.numbered-index l.rows)))
