use Rattle.std.proofs.Common.{sym, ◌∙◌}
use Rattle.plan_prune.proofs.OpenQueries.{beyond_decides, decision_valid, negated_decides}
use Rattle.plan_prune.proofs.certificate.certificate_of.Goals as goal

pub returns-in-None-clause-decided : goal.returns-in-None-clause-decided
returns-in-None-clause-decided c = beyond_decides c.args.monitor.now c.args.query.now (sym c.in-None.is ∙ c.in_ok-negated.ensures.negated)

pub returns-in_ok-refute-in-Some-clause-decided : goal.returns-in_ok-refute-in-Some-clause-decided
returns-in_ok-refute-in-Some-clause-decided c =
    let monitor = c.args.monitor.now in
    let query = c.args.query.now in
    let rule = c.blocks-2.ensures.rule in
    negated_decides monitor query c.in-Some.formula c.in_ok-refute-in-Some.field-0 (sym c.in-Some.is ∙ c.in_ok-negated.ensures.negated)
    (λ v holds. c.satisfied_query_is_invalid.ensures monitor query v rule c.requires.block holds) c.in_ok-refute-in-Some.ensures.answer

pub returns-in_ok-refute-in-Some-clause-valid : goal.returns-in_ok-refute-in-Some-clause-valid
returns-in_ok-refute-in-Some-clause-valid c =
    let monitor = c.args.monitor.now in
    let query = c.args.query.now in
    let rule = c.blocks-2.ensures.rule in
    decision_valid monitor query c.in_ok-refute-in-Some.field-0 (λ never. c.refuted_query_is_valid.ensures monitor query rule c.requires.block never) c.refuted_formula_is_false.ensures
    (negated_decides monitor query c.in-Some.formula c.in_ok-refute-in-Some.field-0 (sym c.in-Some.is ∙ c.in_ok-negated.ensures.negated)
    (λ v holds. c.satisfied_query_is_invalid.ensures monitor query v rule c.requires.block holds) c.in_ok-refute-in-Some.ensures.answer)
