use Rattle.machine_events.specs.declared.plan.CondKind.TheVariants as kinds
use Rattle.plan_claims.specs.Backing.{kind_claims}
use Rattle.plan_place.proofs.Placing.{adds_proofs}
use Rattle.plan_place.proofs.kinds.kind_of.Goals as goal

pub returns-in_ok-append-in-Some-clause-proofs : goal.returns-in_ok-append-in-Some-clause-proofs
returns-in_ok-append-in-Some-clause-proofs c =
    let monitor = c.args.monitor.now in
    let kept = c.args.kept.now in
    let condition = c.args.condition in
    let are = rw c.in-Some.is at c.in_ok-found.ensures in
    adds_proofs monitor kept (kind_claims monitor condition kinds.Signal) c.args.proofs.now.items c.append.new.self.items c.in-Some.found.items
    c.in_ok-append-in-Some.ensures.items are
