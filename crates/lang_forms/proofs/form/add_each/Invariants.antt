use Rattle.std.proofs.Common.{◌≡◌, map}
use Rattle.lang_forms.specs.Scope.{signed}
use Rattle.lang_forms.specs.Forms.{added}
use Rattle.lang_forms.proofs.Partly.{partly}
use Rattle.lang_forms.proofs.form.add_each.Given as goal

abbrev pub invariant-loop-index : goal.invariant-loop-index
invariant-loop-index l = l.times ≡ partly (added l.initial.times (map (signed l.minus) l.others)) l.initial.times l.index
