use Rattle.std.proofs.Common.{arith}
use Rattle.lang_forms.proofs.FormTerms.{terms_more, terms_same}
use Rattle.lang_forms.proofs.form.terms_of.Goals.{then-times-ne0+in_ok-push, else-times-ne0}
use Rattle.lang_forms.proofs.form.terms_of.Goals as goal

pub loop-index-preserved : goal.loop-index-preserved
loop-index-preserved c = elim c.if-times-ne0.branch [
  | then-times-ne0+in_ok-push w ↦
      let more = terms_more c.args.scope.now c.args.times.now c.loop-index.index c.index-scope-index.result w.place.result c.requires.length c.requires.small (omega arith) c.index-scope-index.is w.place.ensures w.if-times-ne0.true in
      grind (arith, more)
  | else-times-ne0 w ↦
      let same = terms_same c.args.scope.now c.args.times.now c.loop-index.index c.index-scope-index.result c.requires.length c.requires.small (omega arith) c.index-scope-index.is w.if-times-ne0.false in
      grind (arith, same)
]
