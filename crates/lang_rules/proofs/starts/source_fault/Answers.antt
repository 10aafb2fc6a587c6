use Rattle.std.proofs.Common.{[], ◌∷◌, ◌∙◌, ap, sym, if◌then◌else◌}
use Rattle.lang_base.specs.declared.source_fault.Refusal.TheVariants.{Unknown}
use Rattle.lang_base.specs.SourceFaults.{fault_at, least}
use Rattle.lang_rules.specs.Rules.{source_faults}
use Rattle.lang_rules.proofs.starts.source_fault.Goals as goal

pub returns-in-Copied : goal.returns-in-Copied
returns-in-Copied c =
    c.unknown_unless.ensures ∙ ap (λ test. least (if test then [] else fault_at Unknown c.in-Copied.source.at ∷ [])) c.has_source.ensures
    ∙ ap (λ decl. least (source_faults c.args.earlier.now decl)) (sym c.in-Copied.is)
