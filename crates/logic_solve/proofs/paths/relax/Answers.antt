use Rattle.std.proofs.Common.{rules, arith, ◌<ℤ◌, ap, ◌∙◌, ◌+ℤ◌, refl}
use Rattle.std.proofs.lemmas.Int.{ints, to_z-of_z}
use mir.Syntax.{w128}
use mir.Val.{SFits}
use Rattle.logic_solve.proofs.PathLemmas.{closes_now, height_read, more_than, near_read, path_read, rises_now, weight_near}
use Rattle.logic_solve.proofs.paths.relax.Goals as goal

pub height_after-height-requires-clause-height : goal.height_after-height-requires-clause-height
height_after-height-requires-clause-height c =
    let f : SFits w128 c.height_of.result = search rules in
    rw (to_z-of_z w128 c.height_of.result f)
    (near_read c.args.edges.now c.args.reached.now.items c.args.edge.from c.height_of.result c.requires.edges c.requires.reached
    (height_read c.args.reached.now.items c.deref.result.now c.args.edge.from c.height_of.result c.deref.ensures.value c.height_of.ensures))

pub height_after-height-requires-clause-weight : goal.height_after-height-requires-clause-weight
height_after-height-requires-clause-weight c =
    let f : SFits w128 c.args.edge.weight = search rules in
    rw (to_z-of_z w128 c.args.edge.weight f) (weight_near c.args.edges.now c.args.edge c.requires.edges c.requires.among)

pub returns-in-Some : goal.returns-in-Some
returns-in-Some c =
    let low = c.if-height-height_of.false in
    let lt : c.height_of-2.result <ℤ c.height_after-height.result = grind (arith, ints) in
    let start = height_read c.args.reached.now.items c.deref.result.now c.args.edge.from c.height_of.result c.deref.ensures.value c.height_of.ensures in
    let f : SFits w128 c.height_of.result = search rules in
    let g : SFits w128 c.args.edge.weight = search rules in
    let target = (rw (to_z-of_z w128 c.height_of.result f, to_z-of_z w128 c.args.edge.weight g) at c.height_after-height.ensures) ∙ ap (λ z. z +ℤ c.args.edge.weight) start in
    let end = height_read c.args.reached.now.items c.deref-2.result.now c.args.edge.to c.height_of-2.result c.deref-2.ensures.value c.height_of-2.ensures in
    let path = path_read c.args.reached.now.items c.deref-3.result.now c.args.edge.from c.path_of-path.result.now c.deref-3.ensures.value c.path_of-path.ensures in
    closes_now c.args.edges.now c.args.reached.now.items c.args.edge c.path_of-path.result.now c.in_ok-lengthened.field-0.items c.in-Some.at c.requires.edges c.requires.reached c.requires.among
    (more_than c.height_of-2.result c.height_after-height.result c.args.reached.now.items c.args.edge lt end target) path c.in-Some.ensures c.in_ok-lengthened.ensures

pub returns : goal.returns
returns c =
    let low = c.if-height-height_of.false in
    let lt : c.height_of-2.result <ℤ c.height_after-height.result = grind (arith, ints) in
    let start = height_read c.args.reached.now.items c.deref.result.now c.args.edge.from c.height_of.result c.deref.ensures.value c.height_of.ensures in
    let f : SFits w128 c.height_of.result = search rules in
    let g : SFits w128 c.args.edge.weight = search rules in
    let target = (rw (to_z-of_z w128 c.height_of.result f, to_z-of_z w128 c.args.edge.weight g) at c.height_after-height.ensures) ∙ ap (λ z. z +ℤ c.args.edge.weight) start in
    let end = height_read c.args.reached.now.items c.deref-2.result.now c.args.edge.to c.height_of-2.result c.deref-2.ensures.value c.height_of-2.ensures in
    let path = path_read c.args.reached.now.items c.deref-3.result.now c.args.edge.from c.path_of-path.result.now c.deref-3.ensures.value c.path_of-path.ensures in
    let k : SFits w128 c.height_after-height.result = search rules in
    rises_now c.args.edges.now c.args.reached.now.items c.put.new.reached.items c.args.edge c.path_of-path.result.now (record { vertex = c.args.edge.to; height = c.height_after-height.result; path = c.in_ok-path.path }) c.requires.edges c.requires.reached c.requires.among
    (more_than c.height_of-2.result c.height_after-height.result c.args.reached.now.items c.args.edge lt end target) path c.in_default.ensures c.in_ok-path.ensures refl target (rw (to_z-of_z w128 c.height_after-height.result k) at c.in_ok-put.ensures)
