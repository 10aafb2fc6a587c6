use Rattle.std.proofs.Common.{refl}
use Rattle.lang_base.specs.declared.kind.Kind.TheVariants as kinds
use Rattle.machine_implicit.specs.inner.Held.{given, held, held_places}
use Rattle.machine_implicit.proofs.Running.{has_target, same_set}
use Rattle.machine_implicit.proofs.StatementForms.{number_target, truth_runs, truth_target}
use Rattle.machine_implicit.proofs.run.assign.Goals as goal

pub put_at-requires : goal.put_at-requires
put_at-requires c =
    has_target kinds.Int (held c.args.state.now c.args.locals.now) c.args.inputs.now c.in-Number.place
    (number_target (held_places c.args.state.now (given c.args.inputs.now c.args.locals.now)) c.args.put.now c.in-Number.place c.in-Number.form c.in-Number.is c.requires.fits)

pub put_at-requires-in-Truth : goal.put_at-requires-in-Truth
put_at-requires-in-Truth c =
    has_target kinds.Bool (held c.args.state.now c.args.locals.now) c.args.inputs.now c.in-Truth.place
    (truth_target (held_places c.args.state.now (given c.args.inputs.now c.args.locals.now)) c.args.put.now c.in-Truth.place c.in-Truth.is' c.in-Truth.is c.requires.fits)

pub returns-in_ok-number-in-Number-clause-kinds : goal.returns-in_ok-number-in-Number-clause-kinds
returns-in_ok-number-in-Number-clause-kinds c =
    same_set kinds.Int (held c.args.state.now c.args.locals.now) _ c.args.inputs.now c.in-Number.place _ refl c.put_at.ensures
    (number_target (held_places c.args.state.now (given c.args.inputs.now c.args.locals.now)) c.args.put.now c.in-Number.place c.in-Number.form c.in-Number.is c.requires.fits)

pub returns-in-Truth-clause-ran : goal.returns-in-Truth-clause-ran
returns-in-Truth-clause-ran c =
    truth_runs c.args.inputs.now (held c.args.state.now c.args.locals.now) (held c.put_at-in-Truth.new.state c.put_at-in-Truth.new.locals) c.args.put.now c.in-Truth.place c.in-Truth.is' c.formula_truth-truth.result c.in-Truth.is
    (rw (c.values-in-Truth.ensures.values, c.values-in-Truth-2.ensures.values) at c.formula_truth-truth.ensures) c.put_at-in-Truth.ensures

pub returns-in-Truth-clause-kinds : goal.returns-in-Truth-clause-kinds
returns-in-Truth-clause-kinds c =
    same_set kinds.Bool (held c.args.state.now c.args.locals.now) _ c.args.inputs.now c.in-Truth.place _ refl c.put_at-in-Truth.ensures
    (truth_target (held_places c.args.state.now (given c.args.inputs.now c.args.locals.now)) c.args.put.now c.in-Truth.place c.in-Truth.is' c.in-Truth.is c.requires.fits)
