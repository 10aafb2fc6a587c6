use Rattle.std.proofs.Common.{◌||◌, ◌++◌, ◌∙◌, map, ap, sym}
use Rattle.emit_names.specs.Lints.{is_odd}
use Rattle.emit_names.proofs.OddNames.{any_of_two}
use Rattle.emit_names.proofs.lints.any_odd.Goals as goal

pub returns-then-one : goal.returns-then-one
returns-then-one g c =
    c.if-one.true ∙ sym (ap (λ t. t || c.any_odd_of-other.result) c.if-one.true)
    ∙ any_of_two (is_odd (map g.T.Named.name_of c.args.first.now ++ map g.U.Named.name_of c.args.more.now)) g.T.Named.name_of g.U.Named.name_of c.args.first.now c.args.more.now _ _ c.any_odd_of-one.ensures c.any_odd_of-other.ensures

pub returns-else-one : goal.returns-else-one
returns-else-one g c =
    sym (ap (λ t. t || c.any_odd_of-other.result) c.if-one.false)
    ∙ any_of_two (is_odd (map g.T.Named.name_of c.args.first.now ++ map g.U.Named.name_of c.args.more.now)) g.T.Named.name_of g.U.Named.name_of c.args.first.now c.args.more.now _ _ c.any_odd_of-one.ensures c.any_odd_of-other.ensures
