use Rattle.std.proofs.Common.{[], ◌∙◌, map}
use Rattle.lang_rules.specs.Rules.{declared_name, method_name}
use Rattle.lang_rules.proofs.RepeatedNames.{repeated_both}
use Rattle.lang_rules.proofs.names.repeated_name.Goals as goal

pub returns : goal.returns
returns c =
    c.earlier_of.ensures ∙ repeated_both [] (map declared_name c.args.decls.now) (map method_name c.args.methods.now) _ _ c.repeated_declaration.ensures c.repeated_method.ensures
