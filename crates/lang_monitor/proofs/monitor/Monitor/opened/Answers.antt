use Rattle.std.proofs.Common.{rules, ◌≡◌, List, ℕ, ap, sym, subst, ◌∙◌, length}
use Rattle.std.proofs.lemmas.List.{take_at}
use Rattle.lang_monitor.specs.declared.monitor.Field.{Field}
use Rattle.lang_monitor.specs.Starts.{IsStart, started}
use Rattle.lang_monitor.specs.MonitorParts.{IsMonitor, MonitorParts, opened_with, parts}
use Rattle.lang_monitor.proofs.Openings.{opened_monitor, started_length, starts_length}
use Rattle.lang_monitor.proofs.monitor.Monitor.opened.Goals as goal

pub begin_with-requires : goal.begin_with-requires
begin_with-requires c =
    let fields : c.deref_mut.result.now ≡ c.self.inside.fields = c.deref_mut.ensures.value ∙ c.into_items-fields.ensures in
    let start : IsStart c.self.inside.fields c.args.start.now = subst (λ (was : MonitorParts). IsStart was.fields c.args.start.now) (sym c.self.view_is) c.requires in
    ap length fields ∙ starts_length c.args.start.now c.self.inside.fields c.args.start.now start

pub invariant_of-result : goal.invariant_of-result
invariant_of-result c =
    let fields : c.deref_mut.result.now ≡ c.self.inside.fields = c.deref_mut.ensures.value ∙ c.into_items-fields.ensures in
    let begun : c.begin_with.new.fields ≡ started c.self.inside.fields c.args.start.now = c.begin_with.ensures ∙ ap (λ (some : List Field). started some c.args.start.now) fields in
    let many : c.into_items-fields.result.len ≡ length c.begin_with.new.fields = sym c.deref_mut.ensures.len ∙ ap length fields ∙ sym (started_length c.self.inside.fields c.args.start.now) ∙ ap length (sym begun) in
    let whole : c.of.result ≡ started c.self.inside.fields c.args.start.now = c.of.ensures ∙ take_at c.begin_with.new.fields _ c.into_items-fields.result.len (sym many) ∙ begun in
    let start : IsStart c.self.inside.fields c.args.start.now = subst (λ (was : MonitorParts). IsStart was.fields c.args.start.now) (sym c.self.view_is) c.requires in
    let was : MonitorParts = parts c.self.inside.name c.self.inside.fields c.self.inside.methods c.self.inside.blocks c.self.inside.conditions in
    subst (λ (some : List Field). IsMonitor (parts c.self.inside.name some c.self.inside.methods c.self.inside.blocks c.self.inside.conditions)) (sym whole)
    (opened_monitor was c.args.start.now c.self.invariant start)
