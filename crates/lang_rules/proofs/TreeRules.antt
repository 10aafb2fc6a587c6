-- The rules of files: the faults of a tree are the rules that it breaks.
use Rattle.std.proofs.Common.{◌≡◌, ℕ, List, [], ◌∷◌, ◌++◌, map, sym, subst, inl, inr}
use Rattle.std.specs.Prelude.{◌⊎◌, ◌↔◌}
use Rattle.std.specs.List.{Contains, flat_map}
use Rattle.std.proofs.lemmas.List.Elements.{Contains-append_cases, Contains-append_left, Contains-append_right}
use Rattle.lang_tree.specs.declared.tree.MethodTree.{MethodTree}
use Rattle.lang_tree.specs.declared.tree.MonitorTree.{MonitorTree}
use Rattle.lang_base.specs.Limits.{CONSTANTS, FIELDS, METHODS}
use Rattle.lang_base.specs.declared.counted.Counted.{Counted}
use Rattle.lang_base.specs.declared.counted.Counted.TheVariants as counted
use Rattle.lang_base.specs.SourceFaults.{fault_at}
use Rattle.lang_base.specs.declared.source_fault.SourceFault.{SourceFault}
use Rattle.lang_base.specs.declared.source_fault.Refusal.{Refusal}
use Rattle.lang_base.specs.declared.source_fault.Refusal.TheVariants as refusals
use Rattle.lang_rules.specs.Rules.{constant_place, declared_names, faults_in_literals, faults_in_methods, faults_in_sources, faults_in_starts, faults_of, field_place, method_faults, method_names, over, repeated, start_faults, subject_faults}
use Rattle.lang_rules.specs.Judgements.{Breaks, HasLargeLiteral, HasOtherSubject, HasUnknownSource, HasWrongStart, IsFirstOver, Repeats}
use Rattle.lang_base.proofs.Members.{from_flat_map, in_flat_map}
use Rattle.lang_rules.proofs.NameRules.{from_repeated, in_repeated}
use Rattle.lang_rules.proofs.BlockRules.{from_over, in_over}
use Rattle.lang_rules.proofs.MethodRules.{MethodCases, from_literals, from_method, in_literals, method_in}
use Rattle.lang_rules.proofs.StartRules.{from_sources, from_subjects, from_wrong_starts, in_sources, in_subjects, in_wrong_starts}

-- ---- files

-- a file breaks the rule of a fault, as a file
abbrev FileRule : MonitorTree → Refusal → ℕ → Type 0
FileRule tree refusals.Unknown at = HasOtherSubject at tree.decls ⊎ HasUnknownSource at tree.decls
FileRule tree refusals.Duplicate at = Repeats [] at (declared_names tree.decls ++ method_names tree.methods)
FileRule tree refusals.TooLarge at = HasLargeLiteral at tree.decls
FileRule tree (refusals.TooMany counted.Constants) at = IsFirstOver CONSTANTS at (flat_map constant_place tree.decls)
FileRule tree (refusals.TooMany counted.Fields) at = IsFirstOver FIELDS at (flat_map field_place tree.decls)
FileRule tree (refusals.TooMany counted.Methods) at = IsFirstOver METHODS at (map (λ method. method.at) tree.methods)
FileRule tree refusals.WrongStart at = HasWrongStart at tree.decls
FileRule tree what at = ⊥

abbrev FileBreaks : MonitorTree → SourceFault → Type 0
FileBreaks tree fault = FileRule tree fault.what fault.at

-- what a fault of a file comes from
abbrev FileCases : MonitorTree → SourceFault → Type 0
FileCases tree fault =
    FileBreaks tree fault
    ⊎ ((method : MethodTree) × Contains tree.methods method × MethodCases tree.decls method fault)

from_starts : (tree : MonitorTree) (fault : SourceFault) → Contains (faults_in_starts tree.decls) fault → FileBreaks tree fault
from_starts tree fault within =
    let subjects = flat_map subject_faults tree.decls in
    let sources = faults_in_sources [] tree.decls in
    elim (Contains-append_cases (subjects ++ sources) (flat_map start_faults tree.decls) fault within) [
      | inr wrong ↦ let found = from_wrong_starts tree.decls fault wrong in subst (FileBreaks tree) (sym found.is) found.breaks
      | inl front ↦ elim (Contains-append_cases subjects sources fault front) [
        | inr unknown ↦ let found = from_sources tree.decls fault unknown in subst (FileBreaks tree) (sym found.is) (inr found.breaks)
        | inl other ↦ let found = from_subjects tree.decls fault other in subst (FileBreaks tree) (sym found.is) (inl found.breaks)
      ]
    ]

from_file : (tree : MonitorTree) (fault : SourceFault) → Contains (faults_of tree) fault → FileCases tree fault
from_file tree fault within =
    let literals = faults_in_literals tree.decls ++ faults_in_starts tree.decls in
    let names = repeated [] (declared_names tree.decls ++ method_names tree.methods) in
    let constants = over CONSTANTS counted.Constants (flat_map constant_place tree.decls) in
    let fields = over FIELDS counted.Fields (flat_map field_place tree.decls) in
    let methods = over METHODS counted.Methods (map (λ method. method.at) tree.methods) in
    elim (Contains-append_cases (literals ++ names ++ constants ++ fields ++ methods) (faults_in_methods tree.decls tree.methods) fault within) [
      | inr inner ↦
          let source = from_flat_map (method_faults tree.decls) tree.methods fault inner in
          inr (source.from, source.one, from_method tree.decls source.from fault source.within)
      | inl front ↦ elim (Contains-append_cases (literals ++ names ++ constants ++ fields) methods fault front) [
        | inr found ↦ let over = from_over METHODS counted.Methods (map (λ method. method.at) tree.methods) fault found in inl (subst (FileBreaks tree) (sym over.is) over.first)
        | inl front ↦ elim (Contains-append_cases (literals ++ names ++ constants) fields fault front) [
          | inr found ↦ let over = from_over FIELDS counted.Fields (flat_map field_place tree.decls) fault found in inl (subst (FileBreaks tree) (sym over.is) over.first)
          | inl front ↦ elim (Contains-append_cases (literals ++ names) constants fault front) [
            | inr found ↦ let over = from_over CONSTANTS counted.Constants (flat_map constant_place tree.decls) fault found in inl (subst (FileBreaks tree) (sym over.is) over.first)
            | inl front ↦ elim (Contains-append_cases literals names fault front) [
              | inr found ↦ let name = from_repeated [] (declared_names tree.decls ++ method_names tree.methods) fault found in inl (subst (FileBreaks tree) (sym name.is) name.repeats)
              | inl front ↦ elim (Contains-append_cases (faults_in_literals tree.decls) (faults_in_starts tree.decls) fault front) [
                | inr found ↦ inl (from_starts tree fault found)
                | inl found ↦ let large = from_literals tree.decls fault found in inl (subst (FileBreaks tree) (sym large.is) large.large)
              ]
            ]
          ]
        ]
      ]
    ]

-- ---- what a file breaks is among its faults

last_in : (tree : MonitorTree) (fault : SourceFault) → Contains (faults_in_methods tree.decls tree.methods) fault → Contains (faults_of tree) fault
last_in tree fault within =
    let literals = faults_in_literals tree.decls ++ faults_in_starts tree.decls in
    let names = repeated [] (declared_names tree.decls ++ method_names tree.methods) in
    let constants = over CONSTANTS counted.Constants (flat_map constant_place tree.decls) in
    let fields = over FIELDS counted.Fields (flat_map field_place tree.decls) in
    let methods = over METHODS counted.Methods (map (λ method. method.at) tree.methods) in
    Contains-append_right (literals ++ names ++ constants ++ fields ++ methods) (faults_in_methods tree.decls tree.methods) fault within

fifth_in : (tree : MonitorTree) (fault : SourceFault) → Contains (over METHODS counted.Methods (map (λ method. method.at) tree.methods)) fault → Contains (faults_of tree) fault
fifth_in tree fault within =
    let literals = faults_in_literals tree.decls ++ faults_in_starts tree.decls in
    let names = repeated [] (declared_names tree.decls ++ method_names tree.methods) in
    let constants = over CONSTANTS counted.Constants (flat_map constant_place tree.decls) in
    let fields = over FIELDS counted.Fields (flat_map field_place tree.decls) in
    let methods = over METHODS counted.Methods (map (λ method. method.at) tree.methods) in
    Contains-append_left (literals ++ names ++ constants ++ fields ++ methods) (faults_in_methods tree.decls tree.methods) fault (Contains-append_right (literals ++ names ++ constants ++ fields) methods fault within)

fourth_in : (tree : MonitorTree) (fault : SourceFault) → Contains (over FIELDS counted.Fields (flat_map field_place tree.decls)) fault → Contains (faults_of tree) fault
fourth_in tree fault within =
    let literals = faults_in_literals tree.decls ++ faults_in_starts tree.decls in
    let names = repeated [] (declared_names tree.decls ++ method_names tree.methods) in
    let constants = over CONSTANTS counted.Constants (flat_map constant_place tree.decls) in
    let fields = over FIELDS counted.Fields (flat_map field_place tree.decls) in
    let methods = over METHODS counted.Methods (map (λ method. method.at) tree.methods) in
    Contains-append_left (literals ++ names ++ constants ++ fields ++ methods) (faults_in_methods tree.decls tree.methods) fault
    (Contains-append_left (literals ++ names ++ constants ++ fields) methods fault (Contains-append_right (literals ++ names ++ constants) fields fault within))

third_in : (tree : MonitorTree) (fault : SourceFault) → Contains (over CONSTANTS counted.Constants (flat_map constant_place tree.decls)) fault → Contains (faults_of tree) fault
third_in tree fault within =
    let literals = faults_in_literals tree.decls ++ faults_in_starts tree.decls in
    let names = repeated [] (declared_names tree.decls ++ method_names tree.methods) in
    let constants = over CONSTANTS counted.Constants (flat_map constant_place tree.decls) in
    let fields = over FIELDS counted.Fields (flat_map field_place tree.decls) in
    let methods = over METHODS counted.Methods (map (λ method. method.at) tree.methods) in
    Contains-append_left (literals ++ names ++ constants ++ fields ++ methods) (faults_in_methods tree.decls tree.methods) fault
    (Contains-append_left (literals ++ names ++ constants ++ fields) methods fault
    (Contains-append_left (literals ++ names ++ constants) fields fault (Contains-append_right (literals ++ names) constants fault within)))

second_in : (tree : MonitorTree) (fault : SourceFault) → Contains (repeated [] (declared_names tree.decls ++ method_names tree.methods)) fault → Contains (faults_of tree) fault
second_in tree fault within =
    let literals = faults_in_literals tree.decls ++ faults_in_starts tree.decls in
    let names = repeated [] (declared_names tree.decls ++ method_names tree.methods) in
    let constants = over CONSTANTS counted.Constants (flat_map constant_place tree.decls) in
    let fields = over FIELDS counted.Fields (flat_map field_place tree.decls) in
    let methods = over METHODS counted.Methods (map (λ method. method.at) tree.methods) in
    Contains-append_left (literals ++ names ++ constants ++ fields ++ methods) (faults_in_methods tree.decls tree.methods) fault
    (Contains-append_left (literals ++ names ++ constants ++ fields) methods fault
    (Contains-append_left (literals ++ names ++ constants) fields fault
    (Contains-append_left (literals ++ names) constants fault (Contains-append_right literals names fault within))))

first_in : (tree : MonitorTree) (fault : SourceFault) → Contains (faults_in_literals tree.decls ++ faults_in_starts tree.decls) fault → Contains (faults_of tree) fault
first_in tree fault within =
    let literals = faults_in_literals tree.decls ++ faults_in_starts tree.decls in
    let names = repeated [] (declared_names tree.decls ++ method_names tree.methods) in
    let constants = over CONSTANTS counted.Constants (flat_map constant_place tree.decls) in
    let fields = over FIELDS counted.Fields (flat_map field_place tree.decls) in
    let methods = over METHODS counted.Methods (map (λ method. method.at) tree.methods) in
    Contains-append_left (literals ++ names ++ constants ++ fields ++ methods) (faults_in_methods tree.decls tree.methods) fault
    (Contains-append_left (literals ++ names ++ constants ++ fields) methods fault
    (Contains-append_left (literals ++ names ++ constants) fields fault
    (Contains-append_left (literals ++ names) constants fault (Contains-append_left literals names fault within))))

literal_in : (tree : MonitorTree) (fault : SourceFault) → Contains (faults_in_literals tree.decls) fault → Contains (faults_of tree) fault
literal_in tree fault within = first_in tree fault (Contains-append_left (faults_in_literals tree.decls) (faults_in_starts tree.decls) fault within)

start_in : (tree : MonitorTree) (fault : SourceFault) → Contains (faults_in_starts tree.decls) fault → Contains (faults_of tree) fault
start_in tree fault within = first_in tree fault (Contains-append_right (faults_in_literals tree.decls) (faults_in_starts tree.decls) fault within)

subject_in : (tree : MonitorTree) (fault : SourceFault) → Contains (flat_map subject_faults tree.decls) fault → Contains (faults_of tree) fault
subject_in tree fault within =
    let subjects = flat_map subject_faults tree.decls in
    let sources = faults_in_sources [] tree.decls in
    start_in tree fault (Contains-append_left (subjects ++ sources) (flat_map start_faults tree.decls) fault (Contains-append_left subjects sources fault within))

source_in : (tree : MonitorTree) (fault : SourceFault) → Contains (faults_in_sources [] tree.decls) fault → Contains (faults_of tree) fault
source_in tree fault within =
    let subjects = flat_map subject_faults tree.decls in
    let sources = faults_in_sources [] tree.decls in
    start_in tree fault (Contains-append_left (subjects ++ sources) (flat_map start_faults tree.decls) fault (Contains-append_right subjects sources fault within))

wrong_in : (tree : MonitorTree) (fault : SourceFault) → Contains (flat_map start_faults tree.decls) fault → Contains (faults_of tree) fault
wrong_in tree fault within =
    start_in tree fault (Contains-append_right (flat_map subject_faults tree.decls ++ faults_in_sources [] tree.decls) (flat_map start_faults tree.decls) fault within)

file_rule_in : (tree : MonitorTree) (what : Refusal) (at : ℕ) → FileBreaks tree (fault_at what at) → Contains (faults_of tree) (fault_at what at)
file_rule_in tree refusals.Unknown at (inl breaks) = subject_in tree (fault_at refusals.Unknown at) (in_subjects tree.decls at breaks)
file_rule_in tree refusals.Unknown at (inr breaks) = source_in tree (fault_at refusals.Unknown at) (in_sources tree.decls at breaks)
file_rule_in tree refusals.WrongStart at breaks = wrong_in tree (fault_at refusals.WrongStart at) (in_wrong_starts tree.decls at breaks)
file_rule_in tree refusals.Duplicate at breaks = second_in tree (fault_at refusals.Duplicate at) (in_repeated [] at (declared_names tree.decls ++ method_names tree.methods) breaks)
file_rule_in tree refusals.TooLarge at breaks = literal_in tree (fault_at refusals.TooLarge at) (in_literals tree.decls at breaks)
file_rule_in tree (refusals.TooMany counted.Constants) at breaks = third_in tree (fault_at (refusals.TooMany counted.Constants) at) (in_over CONSTANTS counted.Constants (flat_map constant_place tree.decls) at breaks)
file_rule_in tree (refusals.TooMany counted.Fields) at breaks = fourth_in tree (fault_at (refusals.TooMany counted.Fields) at) (in_over FIELDS counted.Fields (flat_map field_place tree.decls) at breaks)
file_rule_in tree (refusals.TooMany counted.Methods) at breaks = fifth_in tree (fault_at (refusals.TooMany counted.Methods) at) (in_over METHODS counted.Methods (map (λ method. method.at) tree.methods) at breaks)
file_rule_in tree what at breaks = absurd breaks

file_breaks_in : (tree : MonitorTree) (fault : SourceFault) → FileBreaks tree fault → Contains (faults_of tree) fault
file_breaks_in tree fault breaks = file_rule_in tree fault.what fault.at breaks

in_file : (tree : MonitorTree) (fault : SourceFault) → FileCases tree fault → Contains (faults_of tree) fault
in_file tree fault (inl breaks) = file_breaks_in tree fault breaks
in_file tree fault (inr (method, one, cases)) = last_in tree fault (in_flat_map (method_faults tree.decls) tree.methods method fault one (method_in tree.decls method fault cases))

-- ---- the judgements

to_limit : (tree : MonitorTree) (what : Counted) (at : ℕ) → FileCases tree (fault_at (refusals.TooMany what) at) → Breaks tree (fault_at (refusals.TooMany what) at)
to_limit tree counted.Constants at (inl breaks) = breaks
to_limit tree counted.Fields at (inl breaks) = breaks
to_limit tree counted.Methods at (inl breaks) = breaks
to_limit tree counted.Parameters at (inr (method, one, inl breaks)) = (method, one, breaks)
to_limit tree counted.Locals at (inr (method, one, inl breaks)) = (method, one, breaks)
to_limit tree counted.Blocks at (inr (method, one, inl breaks)) = (method, one, breaks)
to_limit tree counted.Statements at (inr (method, one, inr (block, own, inl breaks))) = (method, one, (block, own, breaks))
to_limit tree what at (inl breaks) = absurd breaks
to_limit tree what at (inr (method, one, inl breaks)) = absurd breaks
to_limit tree what at (inr (method, one, inr (block, own, inl breaks))) = absurd breaks
to_limit tree what at (inr (method, one, inr (block, own, inr (inl (expression, has, breaks))))) = absurd breaks
to_limit tree what at (inr (method, one, inr (block, own, inr (inr (statement, has, breaks))))) = absurd breaks

to_rule : (tree : MonitorTree) (what : Refusal) (at : ℕ) → FileCases tree (fault_at what at) → Breaks tree (fault_at what at)
to_rule tree refusals.Unknown at (inr (method, one, inr (block, own, inr (inl expression)))) = inl (method, one, (block, own, expression))
to_rule tree refusals.Unknown at (inr (method, one, inr (block, own, inr (inr statement)))) = inr (inl (method, one, (block, own, statement)))
to_rule tree refusals.Unknown at (inl (inl breaks)) = inr (inr (inl breaks))
to_rule tree refusals.Unknown at (inl (inr breaks)) = inr (inr (inr breaks))
to_rule tree refusals.WrongStart at (inl breaks) = breaks
to_rule tree refusals.Duplicate at (inl breaks) = inl breaks
to_rule tree refusals.Duplicate at (inr (method, one, inl breaks)) = inr (method, one, breaks)
to_rule tree refusals.WrongType at (inr (method, one, inr (block, own, inl breaks))) = inr (inl (method, one, (block, own, breaks)))
to_rule tree refusals.WrongType at (inr (method, one, inr (block, own, inr (inl expression)))) = inl (method, one, (block, own, expression))
to_rule tree refusals.WrongType at (inr (method, one, inr (block, own, inr (inr statement)))) = inr (inr (method, one, (block, own, statement)))
to_rule tree refusals.NotLinear at (inr (method, one, inr (block, own, inr (inl expression)))) = (method, one, (block, own, expression))
to_rule tree refusals.TooLarge at (inl breaks) = inl breaks
to_rule tree refusals.TooLarge at (inr (method, one, inl breaks)) = inr (inl (method, one, breaks))
to_rule tree refusals.TooLarge at (inr (method, one, inr (block, own, inr (inl (expression, has, inl number))))) = inr (inr (inl (method, one, (block, own, (expression, has, number)))))
to_rule tree refusals.TooLarge at (inr (method, one, inr (block, own, inr (inl (expression, has, inr whole))))) = inr (inr (inr (method, one, (block, own, (expression, has, whole)))))
to_rule tree (refusals.TooMany what) at cases = to_limit tree what at cases
to_rule tree refusals.ReadOnly at (inr (method, one, inr (block, own, inr (inr statement)))) = (method, one, (block, own, statement))
to_rule tree refusals.Misplaced at (inr (method, one, inl (inl (block, own, early)))) = inr (inl (method, one, (block, own, early)))
to_rule tree refusals.Misplaced at (inr (method, one, inl (inr before))) = inr (inr (method, one, before))
to_rule tree refusals.Misplaced at (inr (method, one, inr (block, own, inr (inr statement)))) = inl (method, one, (block, own, statement))
to_rule tree what at (inl breaks) = absurd breaks
to_rule tree what at (inr (method, one, inl breaks)) = absurd breaks
to_rule tree what at (inr (method, one, inr (block, own, inl breaks))) = absurd breaks
to_rule tree what at (inr (method, one, inr (block, own, inr (inl (expression, has, breaks))))) = absurd breaks
to_rule tree what at (inr (method, one, inr (block, own, inr (inr (statement, has, breaks))))) = absurd breaks

to_rules : (tree : MonitorTree) (fault : SourceFault) → FileCases tree fault → Breaks tree fault
to_rules tree fault cases = to_rule tree fault.what fault.at cases

-- the same, from a rule to what breaks it
from_rule : (tree : MonitorTree) (what : Refusal) (at : ℕ) → Breaks tree (fault_at what at) → FileCases tree (fault_at what at)
from_rule tree refusals.Unknown at (inl (method, one, (block, own, expression))) = inr (method, one, inr (block, own, inr (inl expression)))
from_rule tree refusals.Unknown at (inr (inl (method, one, (block, own, statement)))) = inr (method, one, inr (block, own, inr (inr statement)))
from_rule tree refusals.Unknown at (inr (inr (inl breaks))) = inl (inl breaks)
from_rule tree refusals.Unknown at (inr (inr (inr breaks))) = inl (inr breaks)
from_rule tree refusals.WrongStart at breaks = inl breaks
from_rule tree refusals.Duplicate at (inl breaks) = inl breaks
from_rule tree refusals.Duplicate at (inr (method, one, breaks)) = inr (method, one, inl breaks)
from_rule tree refusals.WrongType at (inl (method, one, (block, own, expression))) = inr (method, one, inr (block, own, inr (inl expression)))
from_rule tree refusals.WrongType at (inr (inl (method, one, (block, own, breaks)))) = inr (method, one, inr (block, own, inl breaks))
from_rule tree refusals.WrongType at (inr (inr (method, one, (block, own, statement)))) = inr (method, one, inr (block, own, inr (inr statement)))
from_rule tree refusals.NotLinear at (method, one, (block, own, expression)) = inr (method, one, inr (block, own, inr (inl expression)))
from_rule tree refusals.TooLarge at (inl breaks) = inl breaks
from_rule tree refusals.TooLarge at (inr (inl (method, one, breaks))) = inr (method, one, inl breaks)
from_rule tree refusals.TooLarge at (inr (inr (inl (method, one, (block, own, (expression, has, number)))))) = inr (method, one, inr (block, own, inr (inl (expression, has, inl number))))
from_rule tree refusals.TooLarge at (inr (inr (inr (method, one, (block, own, (expression, has, whole)))))) = inr (method, one, inr (block, own, inr (inl (expression, has, inr whole))))
from_rule tree (refusals.TooMany counted.Constants) at breaks = inl breaks
from_rule tree (refusals.TooMany counted.Fields) at breaks = inl breaks
from_rule tree (refusals.TooMany counted.Methods) at breaks = inl breaks
from_rule tree (refusals.TooMany counted.Parameters) at (method, one, breaks) = inr (method, one, inl breaks)
from_rule tree (refusals.TooMany counted.Locals) at (method, one, breaks) = inr (method, one, inl breaks)
from_rule tree (refusals.TooMany counted.Blocks) at (method, one, breaks) = inr (method, one, inl breaks)
from_rule tree (refusals.TooMany counted.Statements) at (method, one, (block, own, breaks)) = inr (method, one, inr (block, own, inl breaks))
from_rule tree refusals.ReadOnly at (method, one, (block, own, statement)) = inr (method, one, inr (block, own, inr (inr statement)))
from_rule tree refusals.Misplaced at (inl (method, one, (block, own, statement))) = inr (method, one, inr (block, own, inr (inr statement)))
from_rule tree refusals.Misplaced at (inr (inl (method, one, (block, own, early)))) = inr (method, one, inl (inl (block, own, early)))
from_rule tree refusals.Misplaced at (inr (inr (method, one, before))) = inr (method, one, inl (inr before))
from_rule tree what at breaks = absurd breaks

from_rules : (tree : MonitorTree) (fault : SourceFault) → Breaks tree fault → FileCases tree fault
from_rules tree fault breaks = from_rule tree fault.what fault.at breaks

pub exactly_broken : (tree : MonitorTree) (fault : SourceFault) → Contains (faults_of tree) fault ↔ Breaks tree fault
exactly_broken tree fault = (λ within. to_rules tree fault (from_file tree fault within), λ breaks. in_file tree fault (from_rules tree fault breaks))
