-- The answer of a call keeps what `run` and `block` promise.
use Rattle.std.proofs.Common.{◌≡◌, ◌++◌, ℕ, List, Option, Some, None, inl, inr, sym, ap, subst, ◌∙◌}
use Rattle.std.specs.Io.KnownBytes.{Appends}
use Rattle.base_io.specs.Outside.{FilesSeen, SinkSeen}
use Rattle.machine_implicit.specs.declared.script.Client.{Client}
use Rattle.machine_implicit.specs.Runs.{IsFinished}
use Rattle.machine_events.specs.Configurations.{Configuration, situation_of}
use Rattle.front_command.specs.declared.plan_choice.PlanChoice.{PlanChoice}
use Rattle.front_command.specs.CommandLine.{Command, Takes, run, block}
use Rattle.expresso_answers.specs.declared.status.Status.{Status}
use Rattle.expresso_answers.specs.declared.status.Status.TheVariants.{Done, Stalled}
use Rattle.expresso_answers.specs.MonitorFiles.{IsAccepted}
use Rattle.expresso_answers.specs.ClientFiles.{AreAccepted}
use Rattle.expresso_answers.specs.Answers.{Answers, IsDoneText, IsFinishedRunText, IsRunText, IsStalledRunText, IsStalledText}
use Rattle.expresso.specs.Headline.{IsHeadlineText, Headline, RunInThreads}
use Rattle.expresso_answers.proofs.Telling.{holds_same}
use Rattle.expresso.proofs.Completeness.{OneCommand}

done_stalled : Done ≡ Stalled → ⊥
done_stalled e = cc

-- what was appended to told bytes
appended : (before now : Option (List ℕ)) (written text : List ℕ) → before ≡ Some written → Appends before now text → now ≡ Some (written ++ text)
appended None now written text is appends = absurd (none_some written is)
  where
    none_some : (xs : List ℕ) → None ≡ Some xs → ⊥
    none_some xs e = cc
appended (Some xs) None written text is appends = absurd appends
appended (Some xs) (Some ys) written text is appends = let same : xs ≡ written = cc is in ap Some (appends ∙ ap (λ (zs : List ℕ). zs ++ text) same)

module _ (held : List ℕ → Option (List ℕ)) (monitor_file clients_file monitor_bytes clients_bytes : List ℕ)
    (monitor_tells : held monitor_file ≡ Some monitor_bytes) (clients_tells : held clients_file ≡ Some clients_bytes) where
  -- the text of a run says what is promised of it
  run_promised : (choice : PlanChoice) (clients : List Client) (last : Configuration) (status : Status) (text : List ℕ) → IsRunText held monitor_file clients_file choice clients last text
      → ((status ≡ Stalled) → IsFinished clients (situation_of last) → ⊥) → ((IsFinished clients (situation_of last) → ⊥) → status ≡ Stalled)
      → IsHeadlineText choice monitor_bytes clients_bytes status text
  run_promised choice clients last status text shown stalled left = record {
    tree = shown.files.tree;
    monitor = shown.monitor;
    clients = clients;
    placed = shown.placed.chosen.placed;
    plan = shown.plan;
    log = shown.log;
    last = last;
    monitor_accepted = subst (λ (b : List ℕ). IsAccepted b shown.files.tree shown.monitor)
        (holds_same held monitor_file monitor_bytes shown.files.monitor_bytes monitor_tells shown.files.monitor_told) shown.files.monitor_accepted;
    clients_accepted = subst (λ (b : List ℕ). AreAccepted b shown.monitor clients)
        (holds_same held clients_file clients_bytes shown.files.clients_bytes clients_tells shown.files.clients_told) shown.files.clients_accepted;
    printed = shown.printed;
    is = shown.placed.is;
    few = shown.placed.few;
    lawful = shown.placed.chosen.lawful;
    chosen = shown.placed.chosen.is;
    placed_fits = shown.placed.chosen.placement.fits;
    placed_lawful = shown.placed.chosen.placement.lawful;
    omits = shown.placed.chosen.omits;
    backed = shown.placed.chosen.placement.backed;
    licensed = shown.placed.chosen.placement.licensed;
    exact = shown.placed.chosen.placement.exact;
    legal = shown.placed.legal;
    closed = shown.placed.closed;
    unprompted = shown.unprompted;
    run = shown.placed.run;
    ends = shown.placed.ends;
    stalled = (stalled, left);
  }

  done_promised : (choice : PlanChoice) (text : List ℕ) → IsFinishedRunText held monitor_file clients_file choice text → IsHeadlineText choice monitor_bytes clients_bytes Done text
  done_promised choice text (clients, last, shown, finished) =
      run_promised choice clients last Done text shown (λ is. absurd (done_stalled is)) (λ none. absurd (none finished))

  stalled_promised : (choice : PlanChoice) (text : List ℕ) → IsStalledRunText held monitor_file clients_file choice text → IsHeadlineText choice monitor_bytes clients_bytes Stalled text
  stalled_promised choice text (clients, last, shown, left) =
      run_promised choice clients last Stalled text shown (λ is. left) (λ none. refl_stalled)
    where
      refl_stalled : Stalled ≡ Stalled
      refl_stalled = cc

module _ (one_command : OneCommand) (words : List (List ℕ)) (files files_now : FilesSeen) (out out_now : SinkSeen) where
  -- the text of the words' command is that of a run
  done_run : (command : Command) (monitor_file clients_file : List ℕ) (choice : PlanChoice) (text : List ℕ) → Takes words command → IsDoneText files.held command text → RunInThreads words monitor_file clients_file choice
      → IsFinishedRunText files.held monitor_file clients_file choice text
  done_run command monitor_file clients_file choice text taken shown (inl (workers, also)) =
      subst (λ (c : Command). IsDoneText files.held c text) (one_command words command (run monitor_file clients_file workers choice) taken also) shown
  done_run command monitor_file clients_file choice text taken shown (inr also) =
      subst (λ (c : Command). IsDoneText files.held c text) (one_command words command (block monitor_file clients_file choice) taken also) shown

  stalled_run : (command : Command) (monitor_file clients_file : List ℕ) (choice : PlanChoice) (text : List ℕ) → Takes words command → IsStalledText files.held command text → RunInThreads words monitor_file clients_file choice
      → IsStalledRunText files.held monitor_file clients_file choice text
  stalled_run command monitor_file clients_file choice text taken shown (inl (workers, also)) =
      subst (λ (c : Command). IsStalledText files.held c text) (one_command words command (run monitor_file clients_file workers choice) taken also) shown
  stalled_run command monitor_file clients_file choice text taken shown (inr also) =
      subst (λ (c : Command). IsStalledText files.held c text) (one_command words command (block monitor_file clients_file choice) taken also) shown

  done_kept : Answers words files files_now Done out out_now → Headline words files Done out out_now
  done_kept (text, (command, taken, shown), appends) monitor_file clients_file choice monitor_bytes clients_bytes written also monitor_tells clients_tells sink_tells either = (
    text,
    appended out.written out_now.written written text sink_tells appends,
    done_promised files.held monitor_file clients_file monitor_bytes clients_bytes monitor_tells clients_tells choice text
        (done_run command monitor_file clients_file choice text taken shown also),
  )

  stalled_kept : Answers words files files_now Stalled out out_now → Headline words files Stalled out out_now
  stalled_kept (text, (command, taken, shown), appends) monitor_file clients_file choice monitor_bytes clients_bytes written also monitor_tells clients_tells sink_tells either = (
    text,
    appended out.written out_now.written written text sink_tells appends,
    stalled_promised files.held monitor_file clients_file monitor_bytes clients_bytes monitor_tells clients_tells choice text
        (stalled_run command monitor_file clients_file choice text taken shown also),
  )

  pub headline_kept : (status : Status) → Answers words files files_now status out out_now → Headline words files status out out_now
  headline_kept status answers monitor_file clients_file choice monitor_bytes clients_bytes written also monitor_tells clients_tells sink_tells (inl is) =
      (subst (λ (s : Status). Headline words files s out out_now) (sym is) (done_kept (subst (λ (s : Status). Answers words files files_now s out out_now) is answers)))
      monitor_file clients_file choice monitor_bytes clients_bytes written also monitor_tells clients_tells sink_tells (inl is)
  headline_kept status answers monitor_file clients_file choice monitor_bytes clients_bytes written also monitor_tells clients_tells sink_tells (inr is) =
      (subst (λ (s : Status). Headline words files s out out_now) (sym is) (stalled_kept (subst (λ (s : Status). Answers words files files_now s out out_now) is answers)))
      monitor_file clients_file choice monitor_bytes clients_bytes written also monitor_tells clients_tells sink_tells (inr is)
