use Rattle.std.proofs.Common.{◌≡◌, take}
use Rattle.lang_forms.specs.Forms.{no_times}
use Rattle.lang_forms.proofs.form.no_times.Given as goal

abbrev pub invariant-loop-entry : goal.invariant-loop-entry
invariant-loop-entry l = l.times.items ≡ no_times (take l._entry-index l.scope)
