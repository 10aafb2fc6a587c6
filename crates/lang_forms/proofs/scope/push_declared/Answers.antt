use Rattle.std.proofs.Common.{◌+◌, ap, arith, rules}
use Rattle.lang_forms.proofs.ScopeMade.{declared_more}
use Rattle.lang_forms.proofs.scope.push_declared.Goals as goal

pub loop-decl-preserved : goal.loop-decl-preserved
loop-decl-preserved c =
    declared_more _ c.args.first c.args.decls.now c.loop-decl.decl-index c.loop-decl.scope.items c.loop-decl.place c.decl-item.result c.in_ok-entry.entry c.push.new.self.items _ c.loop-decl.invariant (omega arith) c.decl-item.is c.in_ok-entry.ensures (search rules) (ap (λ step. c.loop-decl.place + step) c.places_of-place.ensures)
