use Rattle.std.proofs.Common.{Bool, List, ap, subst, sym, ℕ, refl}
use Rattle.lang_monitor.specs.declared.candidate.Candidate.{Candidate}
use Rattle.lang_monitor.specs.Candidates.{AreSomeOf, candidates_of}
use Rattle.plan_fits.specs.Answers.{AreWhole}
use Rattle.expresso_answers.specs.Answers.{HoldsMonitor}
use Rattle.expresso_answers.specs.Ending.{IsWritten}
use Rattle.emit_module.specs.Modules.{rust_text}
use Rattle.expresso_answers.specs.declared.status.Status.TheVariants.{Done}
use Rattle.front_command.specs.CommandLine.{emit}
use Rattle.expresso.proofs.Emitted.{PrintedLaws, emit_done}
use Rattle.expresso_answers.proofs.Outcomes.{written_since}
use Rattle.expresso.proofs.emit.emit_file.Goals as goal

pub returns-in-Err-clause-ended : goal.returns-in-Err-clause-ended
returns-in-Err-clause-ended g c = c.in-Err.ensures.ended (emit c.args.file.now) refl

pub whole_blocks-requires : goal.whole_blocks-requires
whole_blocks-requires g c =
    subst (λ (kept : List Candidate). AreSomeOf kept (candidates_of c.in-Ok.text.found.monitor)) (sym c.items.ensures) c.in-Ok-plan_of.ensures.fits.kept

pub returns-in-Ok-whole_blocks-clause-ended : goal.returns-in-Ok-whole_blocks-clause-ended
returns-in-Ok-whole_blocks-clause-ended g c =
    let text = c.in-Ok.text in
    let found = text.found in
    let plan = c.in-Ok-plan_of.plan in
    let whole = c.in-Ok-whole_blocks.whole in
    let laws : PrintedLaws = record {
      opened = c.monitors_may_be_opened.ensures.monitor;
      start = c.monitors_may_be_opened.ensures.start;
      fits = c.lawful_for_every_choice.ensures.fits;
      counting = c.lawful_for_every_choice.ensures.counting;
      threads = c.counted_code_loses_none.ensures.printed;
      bodies = c.printed_bodies_step.ensures.steps;
      tests = c.printed_tests_hold.ensures.own;
      shared = c.printed_tests_hold.ensures.shared;
      wide = c.printed_numbers_are_wide.ensures.wide;
      starts = c.printed_bodies_step.ensures.starts;
      stays = c.moments_stay_in_64.ensures;
      never = c.fitting_blocks_never_overflow.ensures.blocks;
      calls = c.fitting_blocks_never_overflow.ensures.calls;
    } in
    let fits = subst (λ (kept : List Candidate). AreWhole found.monitor kept whole.items) c.items.ensures c.in-Ok-whole_blocks.ensures in
    let told = c.as_slice-whole.result.now in
    let holds : HoldsMonitor (g.F.Files.seen c.args.files.now).held c.args.file.now found.tree found.monitor =
    record { bytes = text.bytes.items; told = c.in-Ok.ensures.holds.told; accepted = c.in-Ok.ensures.holds.accepted } in
    let same = ap (λ bytes. rust_text bytes found.tree found.monitor plan told) c.deref.ensures.value in
    emit_done laws c.args.file.now found.tree found.monitor plan told
    (g.F.Files.seen c.args.files.now) (g.F.Files.seen c.text_of.new.files) _ (g.S.Sink.seen c.args.out.now) _ holds c.in-Ok-plan_of.ensures
    (subst (λ (all : List Bool). AreWhole found.monitor plan.kept all) (sym c.as_slice-whole.ensures.value) fits) c.in-Ok.ensures.quiet.steady
    (written_since Done (rust_text text.bytes.items found.tree found.monitor plan told) _ _ _ _ c.in-Ok.ensures.quiet.silent
    (subst (λ (said : List ℕ). IsWritten Done said c.show_module.result (g.S.Sink.seen c.text_of.new.out) (g.S.Sink.seen c.show_module.new.out)) same c.show_module.ensures))
