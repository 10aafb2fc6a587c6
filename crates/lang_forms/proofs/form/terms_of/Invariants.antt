use Rattle.std.proofs.Common.{◌≡◌, take}
use Rattle.lang_forms.specs.Forms.{terms_of}
use Rattle.lang_forms.proofs.form.terms_of.Given as goal

abbrev pub invariant-loop-index : goal.invariant-loop-index
invariant-loop-index l = l.terms.items ≡ terms_of (take l.index l.scope) (take l.index l.times)
