use Rattle.std.specs.Prelude.{List, Some}
use Rattle.std.proofs.Common.{subst}
use Rattle.logic_elim.specs.declared.rows.Numbered.{Numbered}
use Rattle.logic_elim.specs.Begins.{IsPlaceOf}
use Rattle.logic_elim.specs.Chains.{rows_in}
use Rattle.logic_elim.proofs.Beginning.{place_found}
use Rattle.logic_elim.proofs.decision.some_place.Goals as goal

pub returns-in-Some : goal.returns-in-Some
returns-in-Some c =
    subst (λ (kept : List Numbered). IsPlaceOf (rows_in kept) (Some c.in-Some.place)) c.rows-numbered-items.ensures
    (place_found c.rows-numbered-items.result.now c.loop-numbered.numbered-index c.numbered-item.result c.in-Some.place c.loop-numbered-test.true c.numbered-item.is c.in-Some.ensures)
