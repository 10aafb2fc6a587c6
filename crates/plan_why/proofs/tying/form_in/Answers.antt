use Rattle.std.proofs.Common.{rules, ◌∙◌}
use Rattle.std.specs.Int.{w128}
use Rattle.std.proofs.lemmas.Int.{to_z-of_z}
use mir.Val.{SFits}
use Rattle.plan_why.proofs.Ties.{front_linear}
use Rattle.plan_why.proofs.tying.form_in.Goals as goal

pub of-requires : goal.of-requires
of-requires c =
    let fits : SFits w128 c.constant-constant.result = search rules in
    rw (to_z-of_z w128 c.constant-constant.result fits)
    (front_linear c.args.row.now c.in_ok-terms.terms.items c.pop.new.self.items c.in-Some.last c.constant-constant.result c.terms.ensures.rule (c.in_ok-terms.ensures.items ∙ c.terms.ensures.terms) c.in-Some.ensures.items c.constant-constant.ensures.constant)
