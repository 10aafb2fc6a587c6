use Rattle.std.proofs.Common.{◌≡◌, ◌+◌, length, arith, ◌∙◌, ap}
use Rattle.std.proofs.lemmas.Bool.Decides.{nat_tests}
use Rattle.lang_base.specs.SourceFaults.{least}
use Rattle.lang_rules.specs.Rules.{misplaced}
use Rattle.lang_rules.proofs.Findings.{early_is}
use Rattle.lang_rules.proofs.statements.early_return.Goals as goal

pub returns-in-Some : goal.returns-in-Some
returns-in-Some c = λ scope.
    let last : c.in-Some.last + 1 ≡ length c.args.body.now = grind (arith, nat_tests) in
    c.any_return.ensures scope ∙ ap (λ places. least (misplaced places)) (early_is scope c.args.body.now c.in-Some.last last)
