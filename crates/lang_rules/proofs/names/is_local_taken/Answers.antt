use Rattle.std.proofs.Common.{◌↔◌, IsTrue, List, ℕ, Contains, map, take, subst, ap, ◌∙◌}
use Rattle.std.proofs.lemmas.Option.{get_or_from_slice_get}
use Rattle.lang_tree.specs.Names.{declared_name as bare_name}
use Rattle.lang_rules.proofs.RepeatedNames.{either_decides, outer_decides}
use Rattle.lang_rules.proofs.names.is_local_taken.Goals as goal

pub returns-then-is_taken : goal.returns-then-is_taken
returns-then-is_taken c = λ local at.
    outer_decides c.is_taken.result (map bare_name c.args.decls.now) (map (λ input. input.name) c.args.inputs.now) (map bare_name (take c.args.place c.args.locals.now)) (bare_name local)
    c.if-is_taken.true (c.is_taken.ensures local at)

pub returns-else-is_taken : goal.returns-else-is_taken
returns-else-is_taken c = λ local at.
    let locals = c.args.locals.now in
    let inputs = map (λ input. input.name) c.args.inputs.now in
    let here = c.name.ensures ∙ ap bare_name (c.index-locals-place.is ∙ get_or_from_slice_get locals c.args.place local c.index-locals-place.result at) in
    either_decides c.is_taken.result c.is_among.result (map bare_name c.args.decls.now) inputs (map bare_name (take c.args.place locals)) (bare_name local)
    c.if-is_taken.false (c.is_taken.ensures local at)
    (subst (λ (text : List ℕ). IsTrue c.is_among.result ↔ Contains inputs text) here c.is_among.ensures)
