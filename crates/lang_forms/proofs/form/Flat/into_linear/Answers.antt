use Rattle.std.proofs.Common.{◌∙◌, ap, length}
use Rattle.lang_forms.specs.Forms.{terms_of}
use Rattle.lang_forms.proofs.FormTerms.{made_is_linear, times_length, small_times}
use Rattle.lang_forms.proofs.form.Flat.into_linear.Goals as goal

pub of-requires : goal.of-requires
of-requires c =
    made_is_linear c.args.scope.now c.args.self c.self.inside.times.items c.self.inside.constant _ c.self.view_is c.requires.form c.requires.small c.requires.ordered (c.in_ok-terms_of.ensures ∙ ap (terms_of c.args.scope.now) c.deref.ensures.value)

pub terms_of-requires : goal.terms_of-requires
terms_of-requires c =
    let times = c.deref.ensures.value ∙ ap (λ form. form.times) c.self.view_is in
    record { length = ap length times ∙ times_length c.args.scope.now c.args.self.times c.requires.form; small = small_times c.args.self c.deref.result.now times c.requires.small }
