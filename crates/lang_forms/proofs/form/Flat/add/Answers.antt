use Rattle.std.proofs.Common.{◌∙◌, ap, map, rules}
use Rattle.std.specs.Vec.{with_items}
use Rattle.std.proofs.lemmas.List.{places, with_items_is}
use Rattle.lang_forms.specs.Scope.{signed}
use Rattle.lang_forms.specs.Forms.{added}
use Rattle.lang_forms.proofs.FormSums.{add_view}
use Rattle.lang_forms.proofs.form.Flat.add.Goals as goal

pub returns : goal.returns
returns c =
    let made = with_items_is c.self.inside.times c.add_each.new.times (search (rules, places)) ∙ c.add_each.ensures ∙ ap (λ times. added times (map (signed c.args.minus) c.deref.result.now)) c.deref_mut.ensures.value ∙ ap (λ others. added c.self.inside.times.items (map (signed c.args.minus) others)) c.deref.ensures.value in
    add_view c.args.minus c.args.self.now c.args.other.now c.self.inside.times.items c.other.inside.times.items (with_items c.self.inside.times c.add_each.new.times).items c.self.inside.constant c.other.inside.constant c.signed.result c.self.view_is c.other.view_is c.requires.room c.requires.limited made c.signed.ensures
