use Rattle.std.proofs.Common.{refl}
use Rattle.machine_events.specs.PlanText.{plan_text}
use Rattle.expresso_answers.specs.declared.status.Status.TheVariants.{Done}
use Rattle.front_command.specs.CommandLine.{compile}
use Rattle.expresso.proofs.Compiled.{compile_done}
use Rattle.expresso_answers.proofs.Outcomes.{written_since}
use Rattle.expresso.proofs.compile.compile_file.Goals as goal

pub returns-in-Err-clause-ended : goal.returns-in-Err-clause-ended
returns-in-Err-clause-ended g c = c.in-Err.ensures.ended (compile c.args.file.now c.args.choice) refl

pub returns-in-Ok-plan_of-clause-ended : goal.returns-in-Ok-plan_of-clause-ended
returns-in-Ok-plan_of-clause-ended g c =
    let found = c.in-Ok.found in
    let plan = c.in-Ok-plan_of.plan in
    compile_done c.args.file.now c.args.choice found.tree found.monitor plan
    (g.F.Files.seen c.args.files.now) (g.F.Files.seen c.monitor_of.new.files) _ (g.S.Sink.seen c.args.out.now) _ c.in-Ok.ensures.holds c.in-Ok-plan_of.ensures c.in-Ok.ensures.quiet.steady
    (written_since Done (plan_text found.monitor plan) _ _ _ _ c.in-Ok.ensures.quiet.silent c.show_plan.ensures)
