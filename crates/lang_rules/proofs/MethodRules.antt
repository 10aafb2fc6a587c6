-- The rules of methods: a fault of a method is one of its blocks, or a rule that it breaks itself.
use Rattle.std.proofs.Common.{◌≡◌, ℕ, List, ◌∷◌, ◌++◌, map, refl, sym, subst, inl, inr}
use Rattle.std.specs.Prelude.{◌⊎◌}
use Rattle.std.specs.List.{Contains}
use Rattle.std.proofs.lemmas.List.Elements.{Contains-append_cases, Contains-append_left, Contains-append_right}
use Rattle.lang_tree.specs.declared.tree.Lit.{Lit}
use Rattle.lang_tree.specs.declared.tree.Decl.{Decl}
use Rattle.lang_tree.specs.declared.tree.Decl.TheVariants as decls
use Rattle.lang_tree.specs.declared.tree.BlockTree.{BlockTree}
use Rattle.lang_tree.specs.declared.tree.MethodTree.{MethodTree}
use Rattle.lang_base.specs.Limits.{INPUTS, LOCALS, METHOD_BLOCKS}
use Rattle.lang_base.specs.declared.counted.Counted.TheVariants as counted
use Rattle.lang_base.specs.SourceFaults.{fault_at}
use Rattle.lang_base.specs.declared.source_fault.SourceFault.{SourceFault}
use Rattle.lang_base.specs.declared.source_fault.Refusal.{Refusal}
use Rattle.lang_base.specs.declared.source_fault.Refusal.TheVariants as refusals
use Rattle.lang_forms.specs.Scope.{scope_of}
use Rattle.lang_forms.specs.Sense.{large_number}
use Rattle.lang_rules.specs.Rules.{block_faults, declared_at, declared_names, early_in_blocks, faults_in_blocks, faults_in_literals, literal_faults, method_faults, over, own_faults, own_names, repeated}
use Rattle.lang_rules.specs.Judgements.{HasLargeLiteral, IsFirstOver, IsLargeLiteral, IsLargeValue, Repeats}
use Rattle.lang_base.proofs.Members.{from_flat_map, in_flat_map, none_in}
use Rattle.lang_rules.proofs.NameRules.{from_repeated, in_repeated}
use Rattle.lang_rules.proofs.ExpressionRules.{LargeNumber, from_large_number, in_large_number}
use Rattle.lang_rules.proofs.BlockRules.{BlockCases, EarlyAt, ReturnsEarly, block_in, from_block, from_early_blocks, from_over, in_early_blocks, in_over}

-- ---- declarations

record LargeValue (decl : Decl) (fault : SourceFault) : Type 0 where
  at : ℕ
  is : fault ≡ fault_at refusals.TooLarge at
  large : IsLargeValue at decl

large_in : (literal : Lit) (decl : Decl) (fault : SourceFault) → ((at : ℕ) → IsLargeLiteral at literal → IsLargeValue at decl) → LargeNumber literal.at literal.digits fault → LargeValue decl fault
large_in literal decl fault has large = record { at = literal.at; is = large.is; large = has literal.at (refl, large.large) }

from_literal : (decl : Decl) (fault : SourceFault) → Contains (literal_faults decl) fault → LargeValue decl fault
from_literal (decls.Const at name value) fault within = large_in value (decls.Const at name value) fault (λ place large. large) (from_large_number value.at value.digits fault within)
from_literal (decls.Param at name value limit) fault within = elim (Contains-append_cases (large_number value.at value.digits) (large_number limit.bound.at limit.bound.digits) fault within) [
  | inl own ↦ large_in value (decls.Param at name value limit) fault (λ place large. inl large) (from_large_number value.at value.digits fault own)
  | inr bound ↦ large_in limit.bound (decls.Param at name value limit) fault (λ place large. inr large) (from_large_number limit.bound.at limit.bound.digits fault bound)
]
from_literal (decls.Int at name value) fault within = large_in value (decls.Int at name value) fault (λ place large. large) (from_large_number value.at value.digits fault within)
from_literal (decls.Copied at name source) fault within = none_in fault within
from_literal (decls.Flag at name value) fault within = none_in fault within

written_number_in : (place : ℕ) (literal : Lit) → IsLargeLiteral place literal → Contains (large_number literal.at literal.digits) (fault_at refusals.TooLarge place)
written_number_in place literal (is, large) = subst (λ at. Contains (large_number literal.at literal.digits) (fault_at refusals.TooLarge at)) is (in_large_number literal.at literal.digits large)

in_literal : (place : ℕ) (decl : Decl) → IsLargeValue place decl → Contains (literal_faults decl) (fault_at refusals.TooLarge place)
in_literal place (decls.Const at name value) large = written_number_in place value large
in_literal place (decls.Param at name value limit) (inl large) =
    Contains-append_left (large_number value.at value.digits) (large_number limit.bound.at limit.bound.digits) (fault_at refusals.TooLarge place) (written_number_in place value large)
in_literal place (decls.Param at name value limit) (inr large) =
    Contains-append_right (large_number value.at value.digits) (large_number limit.bound.at limit.bound.digits) (fault_at refusals.TooLarge place) (written_number_in place limit.bound large)
in_literal place (decls.Int at name value) large = written_number_in place value large
in_literal place (decls.Copied at name source) large = absurd large
in_literal place (decls.Flag at name value) large = absurd large

-- one of the declarations has too large a number
pub record LargeLiteral (declared : List Decl) (fault : SourceFault) : Type 0 where
  pub at : ℕ
  pub is : fault ≡ fault_at refusals.TooLarge at
  pub large : HasLargeLiteral at declared

pub from_literals : (declared : List Decl) (fault : SourceFault) → Contains (faults_in_literals declared) fault → LargeLiteral declared fault
from_literals declared fault within =
    let source = from_flat_map literal_faults declared fault within in
    let large = from_literal source.from fault source.within in
    record { at = large.at; is = large.is; large = (source.from, source.one, large.large) }

pub in_literals : (declared : List Decl) (place : ℕ) → HasLargeLiteral place declared → Contains (faults_in_literals declared) (fault_at refusals.TooLarge place)
in_literals declared place (decl, one, large) = in_flat_map literal_faults declared decl (fault_at refusals.TooLarge place) one (in_literal place decl large)

-- ---- methods

-- a method breaks the rule of a fault, as a method
abbrev pub MethodRule : List Decl → MethodTree → Refusal → ℕ → Type 0
MethodRule declared method refusals.Duplicate at = Repeats (declared_names declared) at (own_names method)
MethodRule declared method refusals.TooLarge at = HasLargeLiteral at method.locals
MethodRule declared method (refusals.TooMany counted.Parameters) at = IsFirstOver INPUTS at (map (λ input. input.at) method.inputs)
MethodRule declared method (refusals.TooMany counted.Locals) at = IsFirstOver LOCALS at (map declared_at method.locals)
MethodRule declared method (refusals.TooMany counted.Blocks) at = IsFirstOver METHOD_BLOCKS at (map (λ block. block.at) method.blocks)
MethodRule declared method refusals.Misplaced at = ReturnsEarly at method.blocks
MethodRule declared method what at = ⊥

abbrev MethodBreaks : List Decl → MethodTree → SourceFault → Type 0
MethodBreaks declared method fault = MethodRule declared method fault.what fault.at

-- what a fault of a method comes from
abbrev pub MethodCases : List Decl → MethodTree → SourceFault → Type 0
MethodCases declared method fault =
    MethodBreaks declared method fault
    ⊎ ((block : BlockTree) × Contains method.blocks block × BlockCases (scope_of declared method) block fault)

from_own : (declared : List Decl) (method : MethodTree) (fault : SourceFault) → Contains (own_faults declared method) fault → MethodBreaks declared method fault
from_own declared method fault within =
    let names = repeated (declared_names declared) (own_names method) in
    let taken = over INPUTS counted.Parameters (map (λ input. input.at) method.inputs) in
    let kept = over LOCALS counted.Locals (map declared_at method.locals) in
    let many = over METHOD_BLOCKS counted.Blocks (map (λ block. block.at) method.blocks) in
    elim (Contains-append_cases (names ++ taken ++ kept ++ many) (faults_in_literals method.locals) fault within) [
      | inr number ↦ let found = from_literals method.locals fault number in subst (MethodBreaks declared method) (sym found.is) found.large
      | inl front ↦ elim (Contains-append_cases (names ++ taken ++ kept) many fault front) [
        | inr block ↦ let found = from_over METHOD_BLOCKS counted.Blocks (map (λ block. block.at) method.blocks) fault block in subst (MethodBreaks declared method) (sym found.is) found.first
        | inl front ↦ elim (Contains-append_cases (names ++ taken) kept fault front) [
          | inr local ↦ let found = from_over LOCALS counted.Locals (map declared_at method.locals) fault local in subst (MethodBreaks declared method) (sym found.is) found.first
          | inl front ↦ elim (Contains-append_cases names taken fault front) [
            | inr input ↦ let found = from_over INPUTS counted.Parameters (map (λ input. input.at) method.inputs) fault input in subst (MethodBreaks declared method) (sym found.is) found.first
            | inl name ↦ let found = from_repeated (declared_names declared) (own_names method) fault name in subst (MethodBreaks declared method) (sym found.is) found.repeats
          ]
        ]
      ]
    ]

pub from_method : (declared : List Decl) (method : MethodTree) (fault : SourceFault) → Contains (method_faults declared method) fault → MethodCases declared method fault
from_method declared method fault within =
    let scope = scope_of declared method in
    elim (Contains-append_cases (own_faults declared method ++ faults_in_blocks scope method.blocks) (early_in_blocks scope method.blocks) fault within) [
      | inl front ↦ elim (Contains-append_cases (own_faults declared method) (faults_in_blocks scope method.blocks) fault front) [
        | inl own ↦ inl (from_own declared method fault own)
        | inr inner ↦
            let source = from_flat_map (block_faults (scope_of declared method)) method.blocks fault inner in
            inr (source.from, source.one, from_block (scope_of declared method) source.from fault source.within)
      ]
      | inr late ↦ let found = from_early_blocks (scope_of declared method) method.blocks fault late in inl (subst (MethodBreaks declared method) (sym found.is) found.early)
    ]

-- ---- what a method breaks is among its faults

own_in : (declared : List Decl) (method : MethodTree) (fault : SourceFault) → Contains (own_faults declared method) fault → Contains (method_faults declared method) fault
own_in declared method fault within =
    let own = own_faults declared method in
    let inner = faults_in_blocks (scope_of declared method) method.blocks in
    Contains-append_left (own ++ inner) (early_in_blocks (scope_of declared method) method.blocks) fault (Contains-append_left own inner fault within)

inner_in : (declared : List Decl) (method : MethodTree) (fault : SourceFault) → Contains (faults_in_blocks (scope_of declared method) method.blocks) fault → Contains (method_faults declared method) fault
inner_in declared method fault within =
    let own = own_faults declared method in
    let inner = faults_in_blocks (scope_of declared method) method.blocks in
    Contains-append_left (own ++ inner) (early_in_blocks (scope_of declared method) method.blocks) fault (Contains-append_right own inner fault within)

late_in : (declared : List Decl) (method : MethodTree) (fault : SourceFault) → Contains (early_in_blocks (scope_of declared method) method.blocks) fault → Contains (method_faults declared method) fault
late_in declared method fault within =
    let front = own_faults declared method ++ faults_in_blocks (scope_of declared method) method.blocks in
    Contains-append_right front (early_in_blocks (scope_of declared method) method.blocks) fault within

-- in one of five lists, one after the other
module _ (a b c d e : List SourceFault) (fault : SourceFault) where
  in_first : Contains a fault → Contains (a ++ b ++ c ++ d ++ e) fault
  in_first within = Contains-append_left (a ++ b ++ c ++ d) e fault (Contains-append_left (a ++ b ++ c) d fault (Contains-append_left (a ++ b) c fault (Contains-append_left a b fault within)))

  in_second : Contains b fault → Contains (a ++ b ++ c ++ d ++ e) fault
  in_second within = Contains-append_left (a ++ b ++ c ++ d) e fault (Contains-append_left (a ++ b ++ c) d fault (Contains-append_left (a ++ b) c fault (Contains-append_right a b fault within)))

  in_third : Contains c fault → Contains (a ++ b ++ c ++ d ++ e) fault
  in_third within = Contains-append_left (a ++ b ++ c ++ d) e fault (Contains-append_left (a ++ b ++ c) d fault (Contains-append_right (a ++ b) c fault within))

  in_fourth : Contains d fault → Contains (a ++ b ++ c ++ d ++ e) fault
  in_fourth within = Contains-append_left (a ++ b ++ c ++ d) e fault (Contains-append_right (a ++ b ++ c) d fault within)

  in_fifth : Contains e fault → Contains (a ++ b ++ c ++ d ++ e) fault
  in_fifth within = Contains-append_right (a ++ b ++ c ++ d) e fault within

-- the faults of a method's names, and those over each limit
abbrev names_of : List Decl → MethodTree → List SourceFault
names_of declared method = repeated (declared_names declared) (own_names method)

abbrev over_inputs : MethodTree → List SourceFault
over_inputs method = over INPUTS counted.Parameters (map (λ input. input.at) method.inputs)

abbrev over_locals : MethodTree → List SourceFault
over_locals method = over LOCALS counted.Locals (map declared_at method.locals)

abbrev over_blocks : MethodTree → List SourceFault
over_blocks method = over METHOD_BLOCKS counted.Blocks (map (λ block. block.at) method.blocks)

method_rule_in : (declared : List Decl) (method : MethodTree) (what : Refusal) (at : ℕ) → MethodBreaks declared method (fault_at what at) → Contains (method_faults declared method) (fault_at what at)
method_rule_in declared method refusals.Duplicate at breaks =
    own_in declared method (fault_at refusals.Duplicate at)
    (in_first (names_of declared method) (over_inputs method) (over_locals method) (over_blocks method) (faults_in_literals method.locals) (fault_at refusals.Duplicate at) (in_repeated (declared_names declared) at (own_names method) breaks))
method_rule_in declared method refusals.TooLarge at breaks =
    own_in declared method (fault_at refusals.TooLarge at)
    (in_fifth (names_of declared method) (over_inputs method) (over_locals method) (over_blocks method) (faults_in_literals method.locals) (fault_at refusals.TooLarge at) (in_literals method.locals at breaks))
method_rule_in declared method (refusals.TooMany counted.Parameters) at breaks =
    own_in declared method (fault_at (refusals.TooMany counted.Parameters) at)
    (in_second (names_of declared method) (over_inputs method) (over_locals method) (over_blocks method) (faults_in_literals method.locals) (fault_at (refusals.TooMany counted.Parameters) at) (in_over INPUTS counted.Parameters (map (λ input. input.at) method.inputs) at breaks))
method_rule_in declared method (refusals.TooMany counted.Locals) at breaks =
    own_in declared method (fault_at (refusals.TooMany counted.Locals) at)
    (in_third (names_of declared method) (over_inputs method) (over_locals method) (over_blocks method) (faults_in_literals method.locals) (fault_at (refusals.TooMany counted.Locals) at) (in_over LOCALS counted.Locals (map declared_at method.locals) at breaks))
method_rule_in declared method (refusals.TooMany counted.Blocks) at breaks =
    own_in declared method (fault_at (refusals.TooMany counted.Blocks) at)
    (in_fourth (names_of declared method) (over_inputs method) (over_locals method) (over_blocks method) (faults_in_literals method.locals) (fault_at (refusals.TooMany counted.Blocks) at) (in_over METHOD_BLOCKS counted.Blocks (map (λ block. block.at) method.blocks) at breaks))
method_rule_in declared method refusals.Misplaced at breaks = late_in declared method (fault_at refusals.Misplaced at) (in_early_blocks (scope_of declared method) method.blocks at breaks)
method_rule_in declared method what at breaks = absurd breaks

method_breaks_in : (declared : List Decl) (method : MethodTree) (fault : SourceFault) → MethodBreaks declared method fault → Contains (method_faults declared method) fault
method_breaks_in declared method fault breaks = method_rule_in declared method fault.what fault.at breaks

pub method_in : (declared : List Decl) (method : MethodTree) (fault : SourceFault) → MethodCases declared method fault → Contains (method_faults declared method) fault
method_in declared method fault (inl breaks) = method_breaks_in declared method fault breaks
method_in declared method fault (inr (block, own, cases)) =
    inner_in declared method fault (in_flat_map (block_faults (scope_of declared method)) method.blocks block fault own (block_in (scope_of declared method) block fault cases))
