use Rattle.std.proofs.Common.{◌-◌, ◌∙◌, [], ap, refl, sym, rules, ◌+◌, length, Option, List, ℕ}
use Rattle.emit_bodies.specs.Blocks.{block_name}
use Rattle.base_io.proofs.Writing.{wrote_same}
use Rattle.lang_monitor.specs.MonitorParts.{first_in}
use Rattle.lang_tree.specs.declared.tree.MethodTree.{MethodTree}
use Rattle.std.proofs.lemmas.Option.{slice_get_past, slice_get_read}
use Rattle.std.specs.Option.{option_map_or}
use Rattle.std.specs.Prelude.{slice_get}
use Rattle.emit_statements.proofs.conditions.write_name_in.Goals as goal

pub returns-in-Some : goal.returns-in-Some
returns-in-Some g c =
    let found = slice_get_read c.items.result.now (length c.items.result.now) c.args.number c.in-Some.method.now refl c.in-Some.ensures.lookup.3.0 c.in-Some.ensures.lookup.1 in
    wrote_same _ (ap (block_name c.args.source.now.tree.now c.in-Some.method.now c.args.word.now) (c.saturating_sub-place.ensures ∙ ap (λ (n : ℕ). c.args.block + 1 - n) c.first_of.ensures) ∙ ap (λ (held : Option MethodTree). option_map_or (λ one. block_name c.args.source.now.tree.now one c.args.word.now (c.args.block + 1 - first_in (slice_get c.args.source.now.monitor.now.methods c.args.number))) held []) (sym found ∙ ap (λ (xs : List MethodTree). slice_get xs c.args.number) c.items.ensures)) c.write_block_name.ensures

pub returns-in-None : goal.returns-in-None
returns-in-None g c =
    let past = slice_get_past c.items.result.now c.args.number c.in-None.ensures.lookup.3 in
    wrote_same _ (ap (λ (held : Option MethodTree). option_map_or (λ one. block_name c.args.source.now.tree.now one c.args.word.now (c.args.block + 1 - first_in (slice_get c.args.source.now.monitor.now.methods c.args.number))) held []) (sym past ∙ ap (λ (xs : List MethodTree). slice_get xs c.args.number) c.items.ensures)) (search rules)
