use Rattle.std.proofs.Common.{◌∙◌, [], ap, refl, sym, rules, length, Option, List, append-nil}
use Rattle.base_io.proofs.Writing.{wrote_same}
use Rattle.lang_printer.specs.Canonical.{expression_text}
use Rattle.lang_tree.specs.declared.tree.BlockTree.{BlockTree}
use Rattle.std.proofs.lemmas.Option.{slice_get_past, slice_get_read}
use Rattle.std.specs.Option.{option_map_or}
use Rattle.std.specs.Prelude.{slice_get}
use Rattle.emit_method.proofs.docs.write_guard.Goals as goal

pub returns-in-Some : goal.returns-in-Some
returns-in-Some g c =
    let found = slice_get_read c.items.result.now (length c.items.result.now) 0 c.in-Some.block.now refl c.in-Some.ensures.lookup.3.0 c.in-Some.ensures.lookup.1 in
    wrote_same _ (append-nil (expression_text c.in-Some.block.now.guard) ∙ ap (λ (held : Option BlockTree). option_map_or (λ one. expression_text one.guard) held []) (sym found ∙ ap (λ (xs : List BlockTree). slice_get xs 0) c.items.ensures)) c.write_around.ensures

pub returns-in-None : goal.returns-in-None
returns-in-None g c =
    let past = slice_get_past c.items.result.now 0 c.in-None.ensures.lookup.3 in
    wrote_same _ (ap (λ (held : Option BlockTree). option_map_or (λ one. expression_text one.guard) held []) (sym past ∙ ap (λ (xs : List BlockTree). slice_get xs 0) c.items.ensures)) (search rules)
