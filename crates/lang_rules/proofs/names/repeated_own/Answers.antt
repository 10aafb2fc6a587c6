use Rattle.std.proofs.Common.{◌∙◌, map}
use Rattle.lang_rules.specs.Rules.{declared_name, input_name}
use Rattle.lang_rules.proofs.RepeatedNames.{repeated_both}
use Rattle.lang_rules.proofs.names.repeated_own.Goals as goal

pub returns : goal.returns
returns c =
    c.earlier_of.ensures ∙ repeated_both (map declared_name c.args.decls.now) (map input_name c.args.inputs.now) (map declared_name c.args.locals.now) _ _ c.repeated_input.ensures c.repeated_local.ensures
