-- The rules of statements: a fault of a statement is one of an expression or an inner statement of
-- it, or a rule that it breaks itself.
use Rattle.std.proofs.Common.{◌≡◌, ℕ, zero, suc, Bool, true, false, List, [], ◌∷◌, ◌++◌, map, refl, sym, subst, inl, inr, Option, Some, None}
use Rattle.std.specs.Prelude.{◌⊎◌, if◌then◌else◌}
use Rattle.std.specs.List.{Contains, flat_map}
use Rattle.std.proofs.lemmas.List.Elements.{Contains-append_cases, Contains-append_left, Contains-append_right}
use Rattle.std.proofs.lemmas.List.Folds.{flat_map-map}
use Rattle.lang_tree.specs.declared.tree.Expr.{Expr}
use Rattle.lang_tree.specs.declared.tree.StmtTree.{StmtTree, out-StmtTree, roll-StmtTree, out-roll-StmtTree}
use Rattle.lang_tree.specs.declared.tree.StmtTree.TheOpen.{StmtTree-F, Set, If, Return}
use Rattle.lang_tree.specs.declared.tree.StmtTree.TheFolds.{fold_out-StmtTree, map-StmtTree, ind-StmtTree}
use Rattle.lang_base.specs.declared.kind.Kind.{Kind}
use Rattle.lang_base.specs.declared.kind.Kind.TheVariants as kinds
use Rattle.lang_base.specs.SourceFaults.{fault_at}
use Rattle.lang_base.specs.declared.source_fault.SourceFault.{SourceFault}
use Rattle.lang_base.specs.declared.source_fault.Refusal.{Refusal}
use Rattle.lang_base.specs.declared.source_fault.Refusal.TheVariants as refusals
use Rattle.lang_forms.specs.declared.scope.Entry.{Entry}
use Rattle.lang_forms.specs.Scope.{entry_named}
use Rattle.lang_forms.specs.Sense.{entry_kind, faults_in, first_in, sense, wrong_type}
use Rattle.lang_rules.specs.Rules.{Finding, expected, finding, finding_step, inner_faults, misplaced, target_faults}
use Rattle.lang_rules.specs.Occurrences.{IsBelow, StandsIn, expression_of, inner_of, layer_expression, layer_inner}
use Rattle.lang_rules.specs.Judgements.{HasReadOnlyTarget, HasUnknownTarget, HasWrongValue, IsFine, IsOther, IsReturn}
use Rattle.lang_base.proofs.Members.{contains_head, from_flat_map, from_map, in_flat_map, in_map, none_in, only_in}
use Rattle.lang_rules.proofs.OrElse.{in_these, in_those, or_else_cases}
use Rattle.lang_rules.proofs.PartRules.{WrongAt, from_wrong_type, in_wrong_type}
use Rattle.lang_rules.proofs.ExpressionRules.{BrokenIn, from_expression}

-- ---- induction over inner statements

abbrev Layer : (StmtTree → Type 0) → Type 0
Layer P = StmtTree-F ((statement : StmtTree) × P statement)

abbrev bare_layer : (P : StmtTree → Type 0) → Layer P → StmtTree-F StmtTree
bare_layer P = map-StmtTree ((statement : StmtTree) × P statement) StmtTree (λ e. e.0)

one_inner : (P : StmtTree → Type 0) (body : List ((statement : StmtTree) × P statement)) (inner : StmtTree) → Contains (map (λ e. e.0) body) inner → P inner
one_inner P body inner within = let found = from_map (λ (e : (statement : StmtTree) × P statement). e.0) body inner within in subst P found.is found.from.1

in_layer : (P : StmtTree → Type 0) (layer : Layer P) (inner : StmtTree) → Contains (layer_inner (bare_layer P layer)) inner → P inner
in_layer P (Set at name value) inner within = none_in inner within
in_layer P (If at when body other) inner within = elim (Contains-append_cases (map (λ e. e.0) body) (map (λ e. e.0) other) inner within) [
  | inl one ↦ one_inner P body inner one
  | inr one ↦ one_inner P other inner one
]
in_layer P (Return at value) inner within = none_in inner within

pub by_inner : (P : StmtTree → Type 0) → ((statement : StmtTree) → ((inner : StmtTree) → Contains (inner_of statement) inner → P inner) → P statement) → (statement : StmtTree) → P statement
by_inner P step =
    ind-StmtTree P (λ x y is. subst (λ (z : StmtTree-F StmtTree). P (roll-StmtTree z)) is (step (roll-StmtTree (bare_layer P y)) (λ inner within. in_layer P y inner (subst (λ (z : StmtTree-F StmtTree). Contains (layer_inner z) inner) (out-roll-StmtTree (bare_layer P y)) within))))

-- ---- an expression of a wanted kind

pub expected_cases : (scope : List Entry) (wanted : Option Kind) (value : Expr) (fault : SourceFault) → Contains (expected wanted (sense scope value)) fault
    → Contains (faults_in scope value) fault ⊎ ((kind : Kind) × (wanted ≡ Some kind) × IsFine scope value × WrongAt scope kind value fault)
expected_cases scope None value fault within = inl within
expected_cases scope (Some kind) value fault within = elim (or_else_cases (faults_in scope value) (wrong_type kind (sense scope value)) fault within) [
  | inl here ↦ inl here
  | inr later ↦ inr (kind, refl, later.0, from_wrong_type scope kind value fault later.1)
]

pub fault_expected : (scope : List Entry) (wanted : Option Kind) (value : Expr) (fault : SourceFault) → Contains (faults_in scope value) fault → Contains (expected wanted (sense scope value)) fault
fault_expected scope None value fault within = within
fault_expected scope (Some kind) value fault within = in_these (faults_in scope value) (wrong_type kind (sense scope value)) fault within

pub other_expected : (scope : List Entry) (kind : Kind) (place : ℕ) (value : Expr) → IsOther scope kind place value → Contains (expected (Some kind) (sense scope value)) (fault_at refusals.WrongType place)
other_expected scope kind place value other =
    in_those (faults_in scope value) (wrong_type kind (sense scope value)) (fault_at refusals.WrongType place) other.fine
    (subst (λ at. Contains (wrong_type kind (sense scope value)) (fault_at refusals.WrongType at)) other.begins (in_wrong_type scope kind value other.other))

-- ---- targets

abbrev TargetCases : ℕ → Option Entry → SourceFault → Type 0
TargetCases at target fault =
    ((fault ≡ fault_at refusals.Unknown at) × (target ≡ None))
    ⊎ ((fault ≡ fault_at refusals.ReadOnly at) × ((entry : Entry) × (target ≡ Some entry) × (entry.is_variable ≡ false)))

target_cases : (at : ℕ) (target : Option Entry) (fault : SourceFault) → Contains (target_faults at target) fault → TargetCases at target fault
target_cases at None fault within = inl (sym (only_in (fault_at refusals.Unknown at) fault within), refl)
target_cases at (Some entry) fault within = by_test entry.is_variable refl within
  where
    by_test : (test : Bool) → entry.is_variable ≡ test → Contains (if test then [] else fault_at refusals.ReadOnly at ∷ []) fault → TargetCases at (Some entry) fault
    by_test true is within = none_in fault within
    by_test false is within = inr (sym (only_in (fault_at refusals.ReadOnly at) fault within), (entry, refl, is))

unknown_target : (at : ℕ) (target : Option Entry) → target ≡ None → Contains (target_faults at target) (fault_at refusals.Unknown at)
unknown_target at target none = rw none (contains_head (fault_at refusals.Unknown at) [])

read_only_target : (at : ℕ) (target : Option Entry) (entry : Entry) → target ≡ Some entry → entry.is_variable ≡ false → Contains (target_faults at target) (fault_at refusals.ReadOnly at)
read_only_target at target entry is other = rw (is, other) (contains_head (fault_at refusals.ReadOnly at) [])

-- ---- one layer

-- the faults and the returns of a layer, by those of its inner statements
abbrev finding_of_layer : List Entry → StmtTree-F StmtTree → Finding
finding_of_layer scope layer = finding_step scope (map-StmtTree StmtTree Finding (finding scope) layer)

finding_is : (scope : List Entry) (statement : StmtTree) → finding scope statement ≡ finding_of_layer scope (out-StmtTree statement)
finding_is scope statement = fold_out-StmtTree Finding (finding_step scope) statement

abbrev ReturnsIn : ℕ → StmtTree-F StmtTree → Type 0
ReturnsIn at layer = (inner : StmtTree) × Contains (layer_inner layer) inner × IsReturn at (out-StmtTree inner)

-- a layer breaks the rule of a fault itself
abbrev pub BreaksRule : List Entry → StmtTree-F StmtTree → Refusal → ℕ → Type 0
BreaksRule scope layer refusals.Unknown at = HasUnknownTarget scope at layer
BreaksRule scope layer refusals.WrongType at = HasWrongValue scope at layer
BreaksRule scope layer refusals.ReadOnly at = HasReadOnlyTarget scope at layer
BreaksRule scope layer refusals.Misplaced at = ReturnsIn at layer
BreaksRule scope layer what at = ⊥

abbrev pub BreaksLayer : List Entry → StmtTree-F StmtTree → SourceFault → Type 0
BreaksLayer scope layer fault = BreaksRule scope layer fault.what fault.at

-- what a fault of a layer comes from
abbrev LayerCases : List Entry → StmtTree-F StmtTree → SourceFault → Type 0
LayerCases scope layer fault =
    ((inner : StmtTree) × Contains (layer_inner layer) inner × Contains (finding scope inner).faults fault)
    ⊎ BreaksLayer scope layer fault
    ⊎ Contains (faults_in scope (layer_expression layer)) fault

returns_from : (scope : List Entry) (layer : StmtTree-F StmtTree) (at : ℕ) → Contains (finding_of_layer scope layer).returns at → IsReturn at layer
returns_from scope (Set place name value) at within = none_in at within
returns_from scope (If place when body other) at within = none_in at within
returns_from scope (Return place value) at within = only_in place at within

in_returns : (scope : List Entry) (layer : StmtTree-F StmtTree) (at : ℕ) → IsReturn at layer → Contains (finding_of_layer scope layer).returns at
in_returns scope (Set place name value) at breaks = absurd breaks
in_returns scope (If place when body other) at breaks = absurd breaks
in_returns scope (Return place value) at is = subst (λ at. Contains (place ∷ []) at) is (contains_head place [])

pub is_return : (scope : List Entry) (statement : StmtTree) (at : ℕ) → Contains (finding scope statement).returns at → IsReturn at (out-StmtTree statement)
is_return scope statement at within = returns_from scope (out-StmtTree statement) at (subst (λ (found : Finding). Contains found.returns at) (finding_is scope statement) within)

pub return_in : (scope : List Entry) (statement : StmtTree) (at : ℕ) → IsReturn at (out-StmtTree statement) → Contains (finding scope statement).returns at
return_in scope statement at is = subst (λ (found : Finding). Contains found.returns at) (sym (finding_is scope statement)) (in_returns scope (out-StmtTree statement) at is)

-- ---- statements that stand in an `if`

abbrev InnerCases : List Entry → List StmtTree → SourceFault → Type 0
InnerCases scope body fault =
    (inner : StmtTree) × Contains body inner
    × (Contains (finding scope inner).faults fault ⊎ ((at : ℕ) × (fault ≡ fault_at refusals.Misplaced at) × IsReturn at (out-StmtTree inner)))

block_is : (scope : List Entry) (body : List StmtTree) → inner_faults (map (finding scope) body) ≡ flat_map (λ inner. (finding scope inner).faults ++ misplaced (finding scope inner).returns) body
block_is scope body = flat_map-map (λ inner. inner.faults ++ misplaced inner.returns) (finding scope) body

pub from_misplaced : (places : List ℕ) (fault : SourceFault) → Contains (misplaced places) fault → (at : ℕ) × (fault ≡ fault_at refusals.Misplaced at) × Contains places at
from_misplaced places fault within = let found = from_map (λ at. fault_at refusals.Misplaced at) places fault within in (found.from, sym found.is, found.one)

inner_cases : (scope : List Entry) (body : List StmtTree) (fault : SourceFault) → Contains (inner_faults (map (finding scope) body)) fault → InnerCases scope body fault
inner_cases scope body fault within =
    let source = from_flat_map (λ inner. (finding scope inner).faults ++ misplaced (finding scope inner).returns) body fault (subst (λ (list : List SourceFault). Contains list fault) (block_is scope body) within) in
    elim (Contains-append_cases (finding scope source.from).faults (misplaced (finding scope source.from).returns) fault source.within) [
      | inl here ↦ (source.from, source.one, inl here)
      | inr returns ↦ let found = from_misplaced (finding scope source.from).returns fault returns in (source.from, source.one, inr (found.0, found.1, is_return scope source.from found.0 found.2))
    ]

inner_in : (scope : List Entry) (body : List StmtTree) (inner : StmtTree) (fault : SourceFault) → Contains body inner → Contains ((finding scope inner).faults ++ misplaced (finding scope inner).returns) fault → Contains (inner_faults (map (finding scope) body)) fault
inner_in scope body inner fault one within =
    subst (λ (list : List SourceFault). Contains list fault) (sym (block_is scope body)) (in_flat_map (λ inner. (finding scope inner).faults ++ misplaced (finding scope inner).returns) body inner fault one within)

-- ---- from the faults of a layer

wrong_value : (scope : List Entry) (layer : StmtTree-F StmtTree) (kind : Kind) (value : Expr) (fault : SourceFault) → IsFine scope value → WrongAt scope kind value fault → (IsOther scope kind (first_in scope value) value → HasWrongValue scope (first_in scope value) layer) → BreaksLayer scope layer fault
wrong_value scope layer kind value fault fine wrong breaks = subst (BreaksLayer scope layer) (sym wrong.is) (breaks (record { begins = refl; fine = fine; other = wrong.other }))

target_layer : (scope : List Entry) (at : ℕ) (name : List ℕ) (value : Expr) (fault : SourceFault) → TargetCases at (entry_named scope name) fault → BreaksLayer scope (Set at name value) fault
target_layer scope at name value fault (inl unknown) = subst (BreaksLayer scope (Set at name value)) (sym unknown.0) (refl, unknown.1)
target_layer scope at name value fault (inr other) = subst (BreaksLayer scope (Set at name value)) (sym other.0) (refl, other.1)

inner_layer : (scope : List Entry) (layer : StmtTree-F StmtTree) (body : List StmtTree) (fault : SourceFault) → ((inner : StmtTree) → Contains body inner → Contains (layer_inner layer) inner) → InnerCases scope body fault → LayerCases scope layer fault
inner_layer scope layer body fault within (inner, one, inl here) = inl (inner, within inner one, here)
inner_layer scope layer body fault within (inner, one, inr (at, is, returns)) = inr (inl (subst (BreaksLayer scope layer) (sym is) (inner, within inner one, returns)))

condition_layer : (scope : List Entry) (at : ℕ) (when : Expr) (body other : List StmtTree) (fault : SourceFault) (kind : Kind) → Some kinds.Bool ≡ Some kind → IsFine scope when → WrongAt scope kind when fault → BreaksLayer scope (If at when body other) fault
condition_layer scope at when body other fault kind is fine wrong =
    let same : kinds.Bool ≡ kind = cc in
    wrong_value scope (If at when body other) kinds.Bool when fault fine (subst (λ (kind : Kind). WrongAt scope kind when fault) (sym same) wrong) (λ other. other)

layer_cases : (scope : List Entry) (layer : StmtTree-F StmtTree) (fault : SourceFault) → Contains (finding_of_layer scope layer).faults fault → LayerCases scope layer fault
layer_cases scope (Set at name value) fault within =
    elim (Contains-append_cases (target_faults at (entry_named scope name)) (expected (entry_kind (entry_named scope name)) (sense scope value)) fault within) [
      | inl target ↦ inr (inl (target_layer scope at name value fault (target_cases at (entry_named scope name) fault target)))
      | inr given ↦ elim (expected_cases scope (entry_kind (entry_named scope name)) value fault given) [
        | inl here ↦ inr (inr here)
        | inr wrong ↦ inr (inl (wrong_value scope (Set at name value) wrong.0 value fault wrong.2 wrong.3 (λ other. (wrong.0, wrong.1, other))))
      ]
    ]
layer_cases scope (If at when body other) fault within =
    elim (Contains-append_cases (expected (Some kinds.Bool) (sense scope when)) (inner_faults (map (finding scope) body) ++ inner_faults (map (finding scope) other)) fault within) [
      | inl condition ↦ elim (expected_cases scope (Some kinds.Bool) when fault condition) [
        | inl here ↦ inr (inr here)
        | inr wrong ↦ inr (inl (condition_layer scope at when body other fault wrong.0 wrong.1 wrong.2 wrong.3))
      ]
      | inr inner ↦ elim (Contains-append_cases (inner_faults (map (finding scope) body)) (inner_faults (map (finding scope) other)) fault inner) [
        | inl first ↦ inner_layer scope (If at when body other) body fault (λ inner one. Contains-append_left body other inner one) (inner_cases scope body fault first)
        | inr second ↦ inner_layer scope (If at when body other) other fault (λ inner one. Contains-append_right body other inner one) (inner_cases scope other fault second)
      ]
    ]
layer_cases scope (Return at value) fault within = inr (inr within)

-- ---- what a layer breaks is among its faults

first_in_if : (scope : List Entry) (at : ℕ) (when : Expr) (body other : List StmtTree) (fault : SourceFault) → Contains (expected (Some kinds.Bool) (sense scope when)) fault → Contains (finding_of_layer scope (If at when body other)).faults fault
first_in_if scope at when body other fault within = Contains-append_left (expected (Some kinds.Bool) (sense scope when)) (inner_faults (map (finding scope) body) ++ inner_faults (map (finding scope) other)) fault within

inner_in_if : (scope : List Entry) (at : ℕ) (when : Expr) (body other : List StmtTree) (inner : StmtTree) (fault : SourceFault) → Contains (body ++ other) inner → Contains ((finding scope inner).faults ++ misplaced (finding scope inner).returns) fault → Contains (finding_of_layer scope (If at when body other)).faults fault
inner_in_if scope at when body other inner fault one within =
    let first = inner_faults (map (finding scope) body) in
    let second = inner_faults (map (finding scope) other) in
    Contains-append_right (expected (Some kinds.Bool) (sense scope when)) (inner_faults (map (finding scope) body) ++ inner_faults (map (finding scope) other)) fault
    (elim (Contains-append_cases body other inner one) [
      | inl here ↦ Contains-append_left (inner_faults (map (finding scope) body)) (inner_faults (map (finding scope) other)) fault (inner_in scope body inner fault here within)
      | inr there ↦ Contains-append_right (inner_faults (map (finding scope) body)) (inner_faults (map (finding scope) other)) fault (inner_in scope other inner fault there within)
    ])

inner_reach : (scope : List Entry) (layer : StmtTree-F StmtTree) (inner : StmtTree) (fault : SourceFault) → Contains (layer_inner layer) inner → Contains ((finding scope inner).faults ++ misplaced (finding scope inner).returns) fault → Contains (finding_of_layer scope layer).faults fault
inner_reach scope (Set at name value) inner fault one within = none_in inner one
inner_reach scope (If at when body other) inner fault one within = inner_in_if scope at when body other inner fault one within
inner_reach scope (Return at value) inner fault one within = none_in inner one

expression_reach : (scope : List Entry) (layer : StmtTree-F StmtTree) (fault : SourceFault) → Contains (faults_in scope (layer_expression layer)) fault → Contains (finding_of_layer scope layer).faults fault
expression_reach scope (Set at name value) fault within =
    Contains-append_right (target_faults at (entry_named scope name)) (expected (entry_kind (entry_named scope name)) (sense scope value)) fault (fault_expected scope (entry_kind (entry_named scope name)) value fault within)
expression_reach scope (If at when body other) fault within = first_in_if scope at when body other fault (fault_expected scope (Some kinds.Bool) when fault within)
expression_reach scope (Return at value) fault within = within

value_in_set : (scope : List Entry) (place at : ℕ) (name : List ℕ) (value : Expr) (kind : Kind) → entry_kind (entry_named scope name) ≡ Some kind → IsOther scope kind place value → Contains (finding_of_layer scope (Set at name value)).faults (fault_at refusals.WrongType place)
value_in_set scope place at name value kind is other =
    Contains-append_right (target_faults at (entry_named scope name)) (expected (entry_kind (entry_named scope name)) (sense scope value)) (fault_at refusals.WrongType place)
    (subst (λ (wanted : Option Kind). Contains (expected wanted (sense scope value)) (fault_at refusals.WrongType place)) (sym is) (other_expected scope kind place value other))

value_reach : (scope : List Entry) (place : ℕ) (layer : StmtTree-F StmtTree) → HasWrongValue scope place layer → Contains (finding_of_layer scope layer).faults (fault_at refusals.WrongType place)
value_reach scope place (Set at name value) (kind, is, other) = value_in_set scope place at name value kind is other
value_reach scope place (If at when body other) wrong = first_in_if scope at when body other (fault_at refusals.WrongType place) (other_expected scope kinds.Bool place when wrong)
value_reach scope place (Return at value) wrong = absurd wrong

unknown_reach : (scope : List Entry) (place : ℕ) (layer : StmtTree-F StmtTree) → HasUnknownTarget scope place layer → Contains (finding_of_layer scope layer).faults (fault_at refusals.Unknown place)
unknown_reach scope place (Set at name value) (is, none) =
    subst (λ place. Contains (finding_of_layer scope (Set at name value)).faults (fault_at refusals.Unknown place)) is
    (Contains-append_left (target_faults at (entry_named scope name)) (expected (entry_kind (entry_named scope name)) (sense scope value)) (fault_at refusals.Unknown at) (unknown_target at (entry_named scope name) none))
unknown_reach scope place layer breaks = absurd breaks

read_only_reach : (scope : List Entry) (place : ℕ) (layer : StmtTree-F StmtTree) → HasReadOnlyTarget scope place layer → Contains (finding_of_layer scope layer).faults (fault_at refusals.ReadOnly place)
read_only_reach scope place (Set at name value) (is, (entry, found, other)) =
    subst (λ place. Contains (finding_of_layer scope (Set at name value)).faults (fault_at refusals.ReadOnly place)) is
    (Contains-append_left (target_faults at (entry_named scope name)) (expected (entry_kind (entry_named scope name)) (sense scope value)) (fault_at refusals.ReadOnly at) (read_only_target at (entry_named scope name) entry found other))
read_only_reach scope place layer breaks = absurd breaks

pub in_misplaced : (places : List ℕ) (at : ℕ) → Contains places at → Contains (misplaced places) (fault_at refusals.Misplaced at)
in_misplaced places at within = in_map (λ at. fault_at refusals.Misplaced at) places at within

rule_reach : (scope : List Entry) (layer : StmtTree-F StmtTree) (what : Refusal) (at : ℕ) → BreaksLayer scope layer (fault_at what at) → Contains (finding_of_layer scope layer).faults (fault_at what at)
rule_reach scope layer refusals.Unknown at breaks = unknown_reach scope at layer breaks
rule_reach scope layer refusals.WrongType at breaks = value_reach scope at layer breaks
rule_reach scope layer refusals.ReadOnly at breaks = read_only_reach scope at layer breaks
rule_reach scope layer refusals.Misplaced at (inner, one, returns) =
    inner_reach scope layer inner (fault_at refusals.Misplaced at) one
    (Contains-append_right (finding scope inner).faults (misplaced (finding scope inner).returns) (fault_at refusals.Misplaced at) (in_misplaced (finding scope inner).returns at (return_in scope inner at returns)))
rule_reach scope layer what at breaks = absurd breaks

layer_reach : (scope : List Entry) (layer : StmtTree-F StmtTree) (fault : SourceFault) → BreaksLayer scope layer fault → Contains (finding_of_layer scope layer).faults fault
layer_reach scope layer fault breaks = rule_reach scope layer fault.what fault.at breaks

-- ---- a statement with all its inner ones

abbrev pub BreaksStatement : List Entry → StmtTree → SourceFault → Type 0
BreaksStatement scope statement fault = BreaksLayer scope (out-StmtTree statement) fault

-- a statement that stands in another breaks the rule of a fault, or its expression does
pub record BrokenStatement (scope : List Entry) (statement : StmtTree) (fault : SourceFault) : Type 0 where
  pub inner : StmtTree
  pub stands : StandsIn inner_of statement inner
  pub breaks : BreaksStatement scope inner fault ⊎ BrokenIn scope (expression_of inner) fault

deeper : (scope : List Entry) (statement inner : StmtTree) (fault : SourceFault) → Contains (inner_of statement) inner → BrokenStatement scope inner fault → BrokenStatement scope statement fault
deeper scope statement inner fault one broken = record { inner = broken.inner; stands = (suc broken.stands.0, (inner, one, broken.stands.1)); breaks = broken.breaks }

abbrev AllBroken : List Entry → StmtTree → Type 0
AllBroken scope statement = (fault : SourceFault) → Contains (finding scope statement).faults fault → BrokenStatement scope statement fault

broken_step : (scope : List Entry) (statement : StmtTree) → ((inner : StmtTree) → Contains (inner_of statement) inner → AllBroken scope inner) → AllBroken scope statement
broken_step scope statement more fault within =
    elim (layer_cases scope (out-StmtTree statement) fault (subst (λ (found : Finding). Contains found.faults fault) (finding_is scope statement) within)) [
      | inl inner ↦ deeper scope statement inner.0 fault inner.1 (more inner.0 inner.1 fault inner.2)
      | inr here ↦ elim here [
        | inl breaks ↦ record { inner = statement; stands = (0, refl); breaks = inl breaks }
        | inr expression ↦ record { inner = statement; stands = (0, refl); breaks = inr (from_expression scope (expression_of statement) fault expression) }
      ]
    ]

pub from_statement : (scope : List Entry) (statement : StmtTree) (fault : SourceFault) → Contains (finding scope statement).faults fault → BrokenStatement scope statement fault
from_statement scope = by_inner (AllBroken scope) (broken_step scope)

statement_reach : (scope : List Entry) (statement : StmtTree) (fault : SourceFault) → Contains (finding_of_layer scope (out-StmtTree statement)).faults fault → Contains (finding scope statement).faults fault
statement_reach scope statement fault within = subst (λ (found : Finding). Contains found.faults fault) (sym (finding_is scope statement)) within

pub break_in : (scope : List Entry) (statement : StmtTree) (fault : SourceFault) → BreaksStatement scope statement fault → Contains (finding scope statement).faults fault
break_in scope statement fault breaks = statement_reach scope statement fault (layer_reach scope (out-StmtTree statement) fault breaks)

pub expression_in : (scope : List Entry) (statement : StmtTree) (fault : SourceFault) → Contains (faults_in scope (expression_of statement)) fault → Contains (finding scope statement).faults fault
expression_in scope statement fault within = statement_reach scope statement fault (expression_reach scope (out-StmtTree statement) fault within)

pub below_in : (scope : List Entry) (depth : ℕ) (statement inner : StmtTree) (fault : SourceFault) → IsBelow inner_of depth statement inner → Contains (finding scope inner).faults fault → Contains (finding scope statement).faults fault
below_in scope zero statement inner fault is within = subst (λ (s : StmtTree). Contains (finding scope s).faults fault) is within
below_in scope (suc depth) statement inner fault (part, one, below) within =
    statement_reach scope statement fault
    (inner_reach scope (out-StmtTree statement) part fault one (Contains-append_left (finding scope part).faults (misplaced (finding scope part).returns) fault (below_in scope depth part inner fault below within)))
