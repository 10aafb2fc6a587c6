use Rattle.std.proofs.Common.{[], ◌++◌, ◌∙◌}
use Rattle.std.specs.List.{flat_map}
use Rattle.lang_base.specs.SourceFaults.{order}
use Rattle.lang_rules.specs.Rules.{faults_in_sources, start_faults, subject_faults}
use Rattle.lang_base.proofs.Least.{least_both}
use Rattle.lang_rules.proofs.starts.fault_in_starts.Goals as goal

pub returns : goal.returns
returns c =
    let decls = c.args.decls.now in
    let subjects = flat_map subject_faults decls in
    let sources = faults_in_sources [] decls in
    let both = c.earlier_of.ensures ∙ least_both order _ _ subjects sources c.first_fault.ensures c.unknown_source.ensures in
    c.earlier_of-2.ensures ∙ least_both order _ _ (subjects ++ sources) (flat_map start_faults decls) both c.first_fault-2.ensures
