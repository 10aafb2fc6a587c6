use Rattle.std.proofs.Common.{◌↔◌, IsTrue, subst}
use Rattle.std.specs.Prelude.{List}
use Rattle.lang_monitor.specs.declared.candidate.Candidate.{Candidate}
use Rattle.lang_monitor.specs.declared.monitor.Condition.{Condition}
use Rattle.lang_monitor.specs.Triples.{HoldAtStart}
use Rattle.machine_events.specs.declared.plan.CondKind.{CondKind}
use Rattle.machine_events.specs.declared.plan.Note.{Note}
use Rattle.report_verdict.specs.inner.Sight.{AreKindsSuited, AreListsSuited}
use Rattle.report_verdict.proofs.Seen.{seen, kinds_seen, lists_seen}
use Rattle.report_verdict.proofs.sight.is_lawful_at_sight.Goals as goal

pub returns : goal.returns
returns c =
    let monitor = c.args.monitor.now in
    let plan = c.args.plan.now in
    let rule = c.conditions.ensures.rule in
    let starts : IsTrue c.are_true_at_start-starts.result ↔ HoldAtStart monitor plan.kept =
    subst (λ (kept : List Candidate). IsTrue c.are_true_at_start-starts.result ↔ HoldAtStart monitor kept) c.items.ensures c.are_true_at_start-starts.ensures in
    let kinds : IsTrue c.are_kinds_suited-kinds.result ↔ AreKindsSuited monitor.conditions plan.kinds =
    subst (λ (all : List CondKind). IsTrue c.are_kinds_suited-kinds.result ↔ AreKindsSuited monitor.conditions all) c.items-2.ensures
    (subst (λ (all : List Condition). IsTrue c.are_kinds_suited-kinds.result ↔ AreKindsSuited all c.items-2.result.now) c.conditions.ensures.conditions c.are_kinds_suited-kinds.ensures) in
    let lists : IsTrue c.are_lists_suited-notes.result ↔ AreListsSuited monitor plan.kinds plan.notes =
    subst (λ (all : List (List Note)). IsTrue c.are_lists_suited-notes.result ↔ AreListsSuited monitor plan.kinds all) c.items-4.ensures
    (subst (λ (all : List CondKind). IsTrue c.are_lists_suited-notes.result ↔ AreListsSuited monitor all c.items-4.result.now) c.items-3.ensures c.are_lists_suited-notes.ensures) in (
      λ held.
          let each = c.all_three.ensures.0 held in
          seen monitor plan rule c.requires (starts.0 each.0) (kinds.0 each.1) (lists.0 each.2),
      λ sight. c.all_three.ensures.1 (starts.1 sight.starts, kinds.1 (kinds_seen monitor plan rule c.requires sight), lists.1 (lists_seen monitor plan rule c.requires sight)),
    )
