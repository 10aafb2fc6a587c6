use Rattle.std.proofs.Common.{arith, rules, ◌∙◌, ap, sym}
use Rattle.lang_base.specs.SourceFaults.{least, order}
use Rattle.lang_rules.specs.Rules.{finding, misplaced}
use Rattle.lang_base.proofs.Least.{least_all, least_turn}
use Rattle.lang_rules.proofs.Findings.{misplaced-flat_map}
use Rattle.lang_rules.proofs.statements.any_return.Goals as goal

pub loop-statement-preserved : goal.loop-statement-preserved
loop-statement-preserved c = λ scope.
    least_turn order (λ statement. misplaced (finding scope statement).returns) c.args.statements.now c.loop-statement.statement-index c.statement-item.result _ _ _ (search rules) c.statement-item.is (c.loop-statement.invariant scope) (c.misplaced_return.ensures scope) c.earlier_of-fault.ensures

pub returns : goal.returns
returns c = λ scope.
    least_all order (λ statement. misplaced (finding scope statement).returns) c.args.statements.now c.loop-statement.statement-index _ (omega arith) (c.loop-statement.invariant scope)
    ∙ ap least (sym (misplaced-flat_map (λ statement. (finding scope statement).returns) c.args.statements.now))
