use Rattle.std.proofs.Common.{ap₂, ◌∙◌}
use Rattle.std.proofs.lemmas.Result.{IfOk-weaker}
use Rattle.clap.specs.Words.{with_rule}
use Rattle.clap.specs.declared.builder.command.Command.{Command}
use Rattle.front_command.proofs.arguments.program.Goals as goal

pub returns : goal.returns
returns c =
    let named = c.in_ok-arg.ensures.shape c.command_argument.ensures.local ∙ ap₂ with_rule c.new.ensures.app c.command_argument.ensures.rule in
    let valued = c.in_ok-arg-2.ensures.shape c.values_argument.ensures.local ∙ ap₂ with_rule named c.values_argument.ensures.rule in
    let seeded = c.in_ok-arg-3.ensures.shape c.option.ensures.local ∙ ap₂ with_rule valued c.option.ensures.rule in
    let woken = c.in_ok-arg-4.ensures.shape c.option-2.ensures.local ∙ ap₂ with_rule seeded c.option-2.ensures.rule in
    let worked = c.in_ok-arg-5.ensures.shape c.option-3.ensures.local ∙ ap₂ with_rule woken c.option-3.ensures.rule in
    let relayed = c.in_ok-arg-6.ensures.shape c.flag.ensures.local ∙ ap₂ with_rule worked c.flag.ensures.rule in
    let counted = c.in_ok-arg-7.ensures.shape c.flag-2.ensures.local ∙ ap₂ with_rule relayed c.flag-2.ensures.rule in
    let fitted = c.in_ok-arg-8.ensures.shape c.flag-3.ensures.local ∙ ap₂ with_rule counted c.flag-3.ensures.rule in
    IfOk-weaker c.arg-9.result _ _ (λ (r : Command) h. h.shape c.version_argument.ensures.local ∙ ap₂ with_rule fitted c.version_argument.ensures.rule) c.arg-9.ensures
