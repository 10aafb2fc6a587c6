use Rattle.std.proofs.Common.{Contains, map, take, sym, subst}
use Rattle.lang_base.proofs.Names.{repeated_from, repeated_to}
use Rattle.lang_base.proofs.named.is_repeated.Goals as goal

pub returns : goal.returns
returns g c =
    let name = g.T.Named.name_of in
    let items = c.args.items.now in
    let earlier = map name (take c.args.place items) in (
      λ right. repeated_from name items c.args.place c.index-items-place.result c.requires c.index-items-place.is (subst (Contains earlier) c.name.ensures (c.is_among.ensures.0 right)),
      λ again. c.is_among.ensures.1 (subst (Contains earlier) (sym c.name.ensures) (repeated_to name items c.args.place c.index-items-place.result c.requires c.index-items-place.is again)),
    )
