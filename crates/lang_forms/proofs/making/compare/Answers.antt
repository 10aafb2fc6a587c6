use Rattle.lang_forms.specs.Sense.{sense}
use Rattle.lang_forms.proofs.LimitedForms.{opposite_limited}
use Rattle.lang_forms.proofs.making.compare.Goals as goal

pub at_most-requires-in-Equal-clause-limited : goal.at_most-requires-in-Equal-clause-limited
at_most-requires-in-Equal-clause-limited c = opposite_limited (sense c.args.scope.now c.args.left.now).form (sense c.args.scope.now c.args.right.now).form c.requires.limited

pub less-requires-clause-limited : goal.less-requires-clause-limited
less-requires-clause-limited c = opposite_limited (sense c.args.scope.now c.args.left.now).form (sense c.args.scope.now c.args.right.now).form c.requires.limited

pub less-requires-in-More-clause-limited : goal.less-requires-in-More-clause-limited
less-requires-in-More-clause-limited c = opposite_limited (sense c.args.scope.now c.args.left.now).form (sense c.args.scope.now c.args.right.now).form c.requires.limited

pub at_most-requires-in-AtLeast-clause-limited : goal.at_most-requires-in-AtLeast-clause-limited
at_most-requires-in-AtLeast-clause-limited c = opposite_limited (sense c.args.scope.now c.args.left.now).form (sense c.args.scope.now c.args.right.now).form c.requires.limited
