use Rattle.std.proofs.Common.{arith}
use Rattle.std.proofs.lemmas.List.{length-map}
use Rattle.lang_monitor.specs.MonitorParts.{kind_of}
use Rattle.machine_implicit.specs.inner.Held.{given, held_places}
use Rattle.machine_implicit.proofs.Sums.{terms_few}
use Rattle.machine_implicit.proofs.evaluate.form_number.Goals as goal

pub terms_number-requires-clause-few : goal.terms_number-requires-clause-few
terms_number-requires-clause-few c =
    let state = c.args.state.now in
    let inputs = c.args.inputs.now in
    let locals = c.args.locals.now in
    rw c.terms.ensures.terms
    (terms_few (held_places state (given inputs locals)) c.args.form.now (record {
      fields = omega (arith, length-map state kind_of, c.requires.few.few_fields);
      inputs = omega (arith, length-map inputs kind_of, c.requires.few.few_inputs);
      locals = omega (arith, length-map locals kind_of, c.requires.few.few_locals);
    }) c.terms.ensures.rule c.requires.fits)
