use Rattle.std.proofs.Common.{◌≡◌, ◌++◌, true, Some, sym, ap, subst, ◌∙◌}
use Rattle.std.specs.Prelude.{slice_get}
use Rattle.std.specs.List.{list_all}
use Rattle.std.proofs.lemmas.Option.{slice_get_within}
use Rattle.lang_monitor.specs.declared.query.Query.{Query}
use Rattle.lang_monitor.specs.Candidates.{candidates_of}
use Rattle.logic_wp.specs.Expressible.{is_expressible}
use Rattle.plan_fits.specs.Outside.{bounds_of}
use Rattle.plan_fits.specs.inner.Hypotheses.{places_in}
use Rattle.plan_fits.proofs.MadeQuestions.{all_expressible, hyps_made, method_there, method_within, places_same}
use Rattle.plan_fits.proofs.question.hypotheses.Goals as goal
use Rattle.plan_fits.proofs.question.hypotheses.Goals.{After-fields}

pub bounds-methods-block : goal.bounds-methods-block
bounds-methods-block c = method_within c.args.monitor.now c.args.number c.args.block.now c.methods.result.now c.methods.ensures.rule c.requires.block c.methods.ensures.methods

there : (c : After-fields) → slice_get c.args.monitor.now.methods c.args.block.now.method ≡ Some c.index-methods-block.result
there c =
    method_there c.args.monitor.now c.args.block.now c.methods.result.now c.index-methods-block.result c.methods.ensures.methods
    (method_within c.args.monitor.now c.args.number c.args.block.now c.methods.result.now c.methods.ensures.rule c.requires.block c.methods.ensures.methods) c.index-methods-block.is

pub push_bounds-requires-clause-inputs : goal.push_bounds-requires-clause-inputs
push_bounds-requires-clause-inputs c = (c.methods.ensures.rule.methods c.args.block.now.method c.index-methods-block.result (there (goal.at.push_bounds-requires-clause-inputs c).After-fields)).few_inputs

pub push_bounds-requires-clause-locals : goal.push_bounds-requires-clause-locals
push_bounds-requires-clause-locals c = (c.methods.ensures.rule.methods c.args.block.now.method c.index-methods-block.result (there (goal.at.push_bounds-requires-clause-locals c).After-fields)).few_locals

pub keeps-requires-clause-kept : goal.keeps-requires-clause-kept
keeps-requires-clause-kept c =
    let places = places_in c.fields.result.now c.index-methods-block.result in
    subst (λ all. list_all is_expressible all ≡ true)
    (sym (c.deref.ensures.value ∙ c.in_ok-push_bounds.ensures ∙ ap (λ all. all ++ bounds_of places) c.in_ok-all.ensures.items))
    (all_expressible (candidates_of c.args.monitor.now) c.args.kept.now places c.requires.kept c.candidates_have_formulas.ensures)

pub keeps-requires-clause-block : goal.keeps-requires-clause-block
keeps-requires-clause-block c = slice_get_within c.args.monitor.now.blocks c.args.number c.args.block.now c.requires.block

pub returns : goal.returns
returns c =
    let places = places_in c.fields.result.now c.index-methods-block.result in
    ap (λ (query : Query). query.hyps) c.in_ok-hyps.ensures.made
    ∙ hyps_made c.args.monitor.now c.args.kept.now c.deref.result.now c.args.number c.args.block.now places c.requires.block
    (places_same c.args.monitor.now c.args.block.now c.fields.result.now c.index-methods-block.result c.fields.ensures.fields (there (goal.at.returns c).After-fields))
    (c.deref.ensures.value ∙ c.in_ok-push_bounds.ensures ∙ ap (λ all. all ++ bounds_of places) c.in_ok-all.ensures.items)
