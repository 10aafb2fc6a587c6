use Rattle.std.proofs.Common.{◌∙◌, ap}
use Rattle.std.specs.List.{list_any}
use Rattle.std.specs.Str.{bytes_eq}
use Rattle.lang_base.proofs.Names.{decides_among}
use Rattle.lang_base.proofs.named.is_among.Goals as goal

pub returns : goal.returns
returns g c =
    let items = c.args.items.now in
    let name = g.T.Named.name_of in
    decides_among name items c.args.name.now c.any_has.result (c.any_has.ensures ∙ ap (λ text. list_any (λ item. bytes_eq (name item) text) items) c.bytes.ensures)
