use Rattle.std.proofs.Common.{◌≡◌, true, false, List, sym, subst, ap, ◌∙◌}
use Rattle.lang_base.specs.declared.value.Value.{Value}
use Rattle.lang_monitor.specs.declared.monitor.Field.{Field}
use Rattle.lang_monitor.specs.Candidates.{candidate_truth}
use Rattle.lang_monitor.specs.MonitorParts.{start_of}
use Rattle.lang_monitor.specs.Starts.{IsStart}
use Rattle.plan_candidates.specs.inner.Edges.{edge, top_of}
use Rattle.plan_candidates.specs.inner.Starts.{starts_true}
use Rattle.plan_candidates.proofs.StartChoices.{edge_fits}
use Rattle.plan_candidates.proofs.StartTests.{fails_there, passes_holds, starts_there}
use Rattle.plan_candidates.proofs.edges.false_start.Goals as goal

pub returns-then-starts_true : goal.returns-then-starts_true
returns-then-starts_true c =
    passes_holds c.args.monitor.now c.args.candidate c.fields-fields.ensures.rule
    (ap (λ (fields : List Field). starts_true fields c.args.candidate) (sym c.fields-fields.ensures.fields) ∙ sym c.starts_true.ensures ∙ c.if-starts_true.true)

pub edge-requires-clause-fit : goal.edge-requires-clause-fit
edge-requires-clause-fit c = λ place low.
    edge_fits c.fields-fields.result.now (start_of c.args.monitor.now) c.top_of.result place c.read_starts.ensures
    (subst (λ (fields : List Field). IsStart fields (start_of c.args.monitor.now)) (sym c.fields-fields.ensures.fields) c.fields-fields.ensures.rule.opens)

pub returns : goal.returns
returns c =
    let monitor = c.args.monitor.now in
    let candidate = c.args.candidate in
    let rule = c.fields-fields.ensures.rule in
    let same : c.of.result ≡ edge monitor.fields (top_of monitor.fields candidate) =
    c.of.ensures ∙ c.in_ok-start.ensures ∙ ap (edge c.fields-fields.result.now) c.top_of.ensures ∙ ap (λ (fields : List Field). edge fields (top_of fields candidate)) c.fields-fields.ensures.fields in
    let fails : starts_true monitor.fields candidate ≡ false =
    ap (λ (fields : List Field). starts_true fields candidate) (sym c.fields-fields.ensures.fields) ∙ sym c.starts_true.ensures ∙ c.if-starts_true.false in
    let is = starts_there monitor candidate rule in
    subst (λ (start : List Value). IsStart monitor.fields start × (candidate_truth start candidate ≡ false)) (sym same) (is, fails_there monitor candidate rule fails is)
