use Rattle.std.proofs.Common.{◌≡◌, ◌*ℤ◌, map}
use Rattle.lang_forms.proofs.Partly.{partly}
use Rattle.lang_forms.proofs.form.scale_each.Given as goal

abbrev pub invariant-loop-time : goal.invariant-loop-time
invariant-loop-time l = l.times ≡ partly (map (λ number. l.by *ℤ number) l.initial.times) l.initial.times l.time-index
