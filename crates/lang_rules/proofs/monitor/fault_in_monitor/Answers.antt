use Rattle.std.proofs.Common.{List, [], ◌++◌, map, ◌∙◌, ap}
use Rattle.std.specs.List.{flat_map}
use Rattle.lang_tree.specs.declared.tree.Decl.{Decl}
use Rattle.lang_tree.specs.declared.tree.MethodTree.{MethodTree}
use Rattle.lang_base.specs.Limits.{CONSTANTS, FIELDS, METHODS}
use Rattle.lang_base.specs.declared.source_fault.SourceFault.{SourceFault}
use Rattle.lang_base.specs.declared.counted.Counted.TheVariants.{Constants, Fields, Methods}
use Rattle.lang_base.specs.SourceFaults.{least, order}
use Rattle.lang_rules.specs.Rules.{constant_place, declared_name, faults_in_starts, field_place, literal_faults, method_faults, method_name, over, repeated}
use Rattle.lang_base.proofs.Least.{least_both}
use Rattle.lang_rules.proofs.monitor.fault_in_monitor.Goals as goal

-- the faults of a tree, by its lists
abbrev faults_in : List Decl → List MethodTree → List SourceFault
faults_in decls methods =
    flat_map literal_faults decls
    ++ faults_in_starts decls
    ++ repeated [] (map declared_name decls ++ map method_name methods)
    ++ over CONSTANTS Constants (flat_map constant_place decls)
    ++ over FIELDS Fields (flat_map field_place decls)
    ++ over METHODS Methods (map (λ method. method.at) methods)
    ++ flat_map (method_faults decls) methods

pub returns : goal.returns
returns c =
    let decls = c.items-decls.result.now in
    let methods = c.items-methods.result.now in
    let large = flat_map literal_faults decls in
    let names = repeated [] (map declared_name decls ++ map method_name methods) in
    let constants = over CONSTANTS Constants (flat_map constant_place decls) in
    let fields = over FIELDS Fields (flat_map field_place decls) in
    let count = over METHODS Methods (map (λ method. method.at) methods) in
    let starts = large ++ faults_in_starts decls in
    let zero = c.earlier_of-first.ensures ∙ least_both order _ _ large (faults_in_starts decls) c.large_literal.ensures c.fault_in_starts.ensures in
    let one = c.earlier_of-first-2.ensures ∙ least_both order _ _ starts names zero c.repeated_name.ensures in
    let two = c.earlier_of-first-3.ensures ∙ least_both order _ _ (starts ++ names) constants one c.over_constants.ensures in
    let three = c.earlier_of-first-4.ensures ∙ least_both order _ _ (starts ++ names ++ constants) fields two c.over_fields.ensures in
    let four = c.earlier_of-first-5.ensures ∙ least_both order _ _ (starts ++ names ++ constants ++ fields) count three c.over_methods.ensures in
    let all = c.earlier_of.ensures ∙ least_both order _ _ (starts ++ names ++ constants ++ fields ++ count) (flat_map (method_faults decls) methods) four c.in_ok-inner.ensures in
    all ∙ ap (λ ds. least (faults_in ds methods)) c.items-decls.ensures ∙ ap (λ ms. least (faults_in c.args.tree.now.decls ms)) c.items-methods.ensures
