use Rattle.std.proofs.Common.{◌∙◌, [], ap, refl, sym, rules, length, Option, List}
use Rattle.base_io.proofs.Writing.{wrote_same}
use Rattle.emit_statements.specs.Conditions.{name_in}
use Rattle.emit_statements.specs.Sources.{seen}
use Rattle.lang_monitor.specs.declared.monitor.Block.{Block}
use Rattle.std.proofs.lemmas.Option.{slice_get_past, slice_get_read}
use Rattle.std.specs.Option.{option_map_or}
use Rattle.std.specs.Prelude.{slice_get}
use Rattle.emit_statements.proofs.conditions.write_name_of.Goals as goal

pub returns-in-Some : goal.returns-in-Some
returns-in-Some g c =
    let found = slice_get_read c.blocks-blocks.result.now (length c.blocks-blocks.result.now) c.args.block c.in-Some.held.now refl c.in-Some.ensures.lookup.3.0 c.in-Some.ensures.lookup.1 in
    wrote_same _ (ap (λ (held : Option Block). option_map_or (λ one. name_in (seen c.args.source.now) c.args.word.now c.args.block one.method) held []) (sym found ∙ ap (λ (xs : List Block). slice_get xs c.args.block) c.blocks-blocks.ensures.blocks)) c.write_name_in.ensures

pub returns-in-None : goal.returns-in-None
returns-in-None g c =
    let past = slice_get_past c.blocks-blocks.result.now c.args.block c.in-None.ensures.lookup.3 in
    wrote_same _ (ap (λ (held : Option Block). option_map_or (λ one. name_in (seen c.args.source.now) c.args.word.now c.args.block one.method) held []) (sym past ∙ ap (λ (xs : List Block). slice_get xs c.args.block) c.blocks-blocks.ensures.blocks)) (search rules)
