use Rattle.std.proofs.Common.{◌↔◌, IsTrue, List, ℕ, Contains, map, sym, subst, ap, ◌∙◌}
use Rattle.std.proofs.lemmas.Option.{get_or_from_slice_get}
use Rattle.lang_tree.specs.Names.{declared_name as bare_name}
use Rattle.lang_base.proofs.Names.{again_else, again_then}
use Rattle.lang_rules.proofs.names.is_taken.Goals as goal

pub returns-then-is_repeated : goal.returns-then-is_repeated
returns-then-is_repeated g c = λ item at.
    again_then g.T.Named.name_of c.args.items.now c.args.place item (map bare_name c.args.decls.now) c.is_repeated.result c.requires
    (sym (get_or_from_slice_get c.args.items.now c.args.place item item at)) c.if-is_repeated.true c.is_repeated.ensures

pub returns-else-is_repeated : goal.returns-else-is_repeated
returns-else-is_repeated g c = λ item at.
    let name = g.T.Named.name_of in
    let items = c.args.items.now in
    let here = c.name.ensures ∙ ap name (c.index-items-place.is ∙ get_or_from_slice_get items c.args.place item c.index-items-place.result at) in
    let declared = map bare_name c.args.decls.now in
    again_else name items c.args.place item declared c.is_repeated.result c.is_among.result c.requires
    (sym (get_or_from_slice_get items c.args.place item item at)) c.if-is_repeated.false c.is_repeated.ensures
    (subst (λ (text : List ℕ). IsTrue c.is_among.result ↔ Contains declared text) here c.is_among.ensures)
