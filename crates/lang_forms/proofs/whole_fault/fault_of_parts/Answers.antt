use Rattle.std.proofs.Common.{None, sym, ◌∙◌, rules, tests}
use Rattle.std.proofs.lemmas.Iterator.{YieldsList-from_slice}
use Rattle.std.proofs.lemmas.Iterator.Consumers.{fold_from_yields_List}
use Rattle.lang_base.specs.declared.kind.Kind.TheVariants as kinds
use Rattle.lang_base.specs.SourceFaults.{earlier_of, least}
use Rattle.lang_forms.specs.Sense.{sense, wrong_type}
use Rattle.lang_forms.proofs.WholeFaults.{least_Both, least_Either, wrong_parts}
use Rattle.lang_forms.proofs.whole_fault.fault_of_parts.Goals as goal

pub returns-clause-both : goal.returns-clause-both
returns-clause-both c =
    let wrong = wrong_parts (λ part. wrong_type kinds.Bool (sense c.args.scope.now part)) c.args.parts.now c.fold-wrong.result
    (fold_from_yields_List _ (λ found part. earlier_of found (least (wrong_type kinds.Bool (sense c.args.scope.now part)))) None c.fold-wrong.result c.fold-wrong.ensures.ran (YieldsList-from_slice c.args.parts.now c.iter.ensures.rest) (λ found part next f k. search (rules, tests))) in
    c.or.ensures ∙ sym (least_Both c.args.scope.now c.args.parts.now c.args.part c.fold-wrong.result c.requires wrong)

pub returns-clause-either : goal.returns-clause-either
returns-clause-either c =
    let wrong = wrong_parts (λ part. wrong_type kinds.Bool (sense c.args.scope.now part)) c.args.parts.now c.fold-wrong.result
    (fold_from_yields_List _ (λ found part. earlier_of found (least (wrong_type kinds.Bool (sense c.args.scope.now part)))) None c.fold-wrong.result c.fold-wrong.ensures.ran (YieldsList-from_slice c.args.parts.now c.iter.ensures.rest) (λ found part next f k. search (rules, tests))) in
    c.or.ensures ∙ sym (least_Either c.args.scope.now c.args.parts.now c.args.part c.fold-wrong.result c.requires wrong)
