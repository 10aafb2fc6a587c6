use Rattle.std.proofs.Common.{rules}
use Rattle.std.specs.Int.{w128}
use Rattle.std.proofs.lemmas.Int.{to_z-of_z}
use mir.Val.{SFits}
use Rattle.logic_wp.proofs.WaitingForms.{made_is_linear}
use Rattle.logic_wp.proofs.waiting.waiting_form.Goals as goal

pub of-requires : goal.of-requires
of-requires c =
    let fits : SFits w128 c.constant-constant.result = search rules in
    rw (to_z-of_z w128 c.constant-constant.result fits)
    (made_is_linear c.args.form.now c.terms.result.now c.in_ok-terms.terms.items c.constant-constant.result c.terms.ensures.rule c.terms.ensures.terms c.in_ok-terms.ensures c.constant-constant.ensures.constant)
