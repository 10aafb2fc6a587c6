use Rattle.std.proofs.Common.{List, length, sym, ap, refl, ◌∙◌}
use Rattle.std.specs.Prelude.{slice_get}
use Rattle.std.proofs.lemmas.Option.{slice_get_read, slice_get_past}
use Rattle.lang_monitor.specs.declared.monitor.Method.{Method}
use Rattle.lang_monitor.specs.MonitorParts.{count_in}
use Rattle.machine_explicit.proofs.calls.blocks_in.Goals as goal

pub returns-in-Some-clause-few : goal.returns-in-Some-clause-few
returns-in-Some-clause-few c =
    let methods = c.methods.result.now in
    let number = c.args.call.now.method in
    let found = slice_get_read methods (length methods) number c.in-Some.method.now refl c.in-Some.ensures.lookup.3.0 c.in-Some.ensures.lookup.1 in
    (c.methods.ensures.rule.methods number c.in-Some.method.now (ap (λ (some : List Method). slice_get some number) (sym c.methods.ensures.methods) ∙ found)).few

pub returns-in-None-clause-blocks : goal.returns-in-None-clause-blocks
returns-in-None-clause-blocks c =
    let methods = c.methods.result.now in
    let number = c.args.call.now.method in
    sym (ap (λ (some : List Method). count_in (slice_get some number)) (sym c.methods.ensures.methods) ∙ ap count_in (slice_get_past methods number c.in-None.ensures.lookup.3))
