-- The rules on the parts of an expression: which fault each gives, and what each fault of parts
-- breaks.
use Rattle.std.proofs.Common.{◌≡◌, Bool, true, false, List, [], ◌∷◌, map, refl, sym, ap, subst, ◌∙◌, inl, inr}
use Rattle.std.specs.Prelude.{◌⊎◌, if◌then◌else◌}
use Rattle.std.specs.List.{All, Contains, flat_map}
use Rattle.std.proofs.lemmas.List.Elements.{All-contains}
use Rattle.std.proofs.lemmas.List.Folds.{flat_map-map}
use Rattle.std.proofs.lemmas.Bool.{cases_Bool}
use Rattle.lang_tree.specs.declared.tree.Expr.{Expr}
use Rattle.lang_base.specs.declared.kind.Kind.{Kind}
use Rattle.lang_base.specs.declared.source_fault.SourceFault.{SourceFault}
use Rattle.lang_base.specs.declared.source_fault.Refusal.TheVariants as refusals
use Rattle.lang_forms.specs.declared.scope.Entry.{Entry}
use Rattle.lang_base.specs.SourceFaults.{fault_at, ◌or_else◌}
use Rattle.lang_forms.specs.Sense.{Sense, faults_in, first_in, is_other, kind_in, part_faults, sense, wrong_type}
use Rattle.lang_forms.proofs.FineParts.{or_else_none}
use Rattle.lang_rules.specs.Judgements.{Fit, IsFine}
use Rattle.lang_base.proofs.Members.{all_empty, contains_head, each_empty, each_is, from_flat_map, in_flat_map, none_in, only_in}
use Rattle.lang_rules.proofs.OrElse.{in_these, in_those, or_else_cases}

-- ---- one expression of another kind

-- the fault of an expression of another kind
pub record WrongAt (scope : List Entry) (wanted : Kind) (part : Expr) (fault : SourceFault) : Type 0 where
  pub is : fault ≡ fault_at refusals.WrongType (first_in scope part)
  pub other : is_other wanted (kind_in scope part) ≡ true

pub from_wrong_type : (scope : List Entry) (wanted : Kind) (part : Expr) (fault : SourceFault) → Contains (wrong_type wanted (sense scope part)) fault → WrongAt scope wanted part fault
from_wrong_type scope wanted part fault within = by_test (is_other wanted (kind_in scope part)) refl (within)
  where
    by_test : (test : Bool) → is_other wanted (kind_in scope part) ≡ test → Contains (if test then fault_at refusals.WrongType (first_in scope part) ∷ [] else []) fault → WrongAt scope wanted part fault
    by_test true other within = record { is = sym (only_in (fault_at refusals.WrongType (first_in scope part)) fault within); other = other }
    by_test false other within = none_in fault within

pub in_wrong_type : (scope : List Entry) (wanted : Kind) (part : Expr) → is_other wanted (kind_in scope part) ≡ true → Contains (wrong_type wanted (sense scope part)) (fault_at refusals.WrongType (first_in scope part))
in_wrong_type scope wanted part other = rw other (contains_head (fault_at refusals.WrongType (first_in scope part)) [])

right_kind : (scope : List Entry) (wanted : Kind) (part : Expr) → wrong_type wanted (sense scope part) ≡ [] → is_other wanted (kind_in scope part) ≡ false
right_kind scope wanted part none = elim (cases_Bool (is_other wanted (kind_in scope part))) [
  | inl other ↦ let one = subst (λ (list : List SourceFault). Contains list (fault_at refusals.WrongType (first_in scope part))) none (in_wrong_type scope wanted part other) in none_in (fault_at refusals.WrongType (first_in scope part)) one
  | inr same ↦ same
]

no_wrong_type : (scope : List Entry) (wanted : Kind) (part : Expr) → is_other wanted (kind_in scope part) ≡ false → wrong_type wanted (sense scope part) ≡ []
no_wrong_type scope wanted part same = rw same refl

-- ---- the parts of an expression

pub record InPart (scope : List Entry) (parts : List Expr) (fault : SourceFault) : Type 0 where
  pub part : Expr
  pub one : Contains parts part
  pub within : Contains (faults_in scope part) fault

pub record WrongPart (scope : List Entry) (wanted : Kind) (parts : List Expr) (fault : SourceFault) : Type 0 where
  pub fine : All (IsFine scope) parts
  pub part : Expr
  pub one : Contains parts part
  pub wrong : WrongAt scope wanted part fault

senses_faults : (scope : List Entry) (parts : List Expr) → flat_map (λ (part : Sense). part.faults) (map (sense scope) parts) ≡ flat_map (faults_in scope) parts
senses_faults scope parts = flat_map-map (λ (part : Sense). part.faults) (sense scope) parts

senses_types : (scope : List Entry) (wanted : Kind) (parts : List Expr) → flat_map (wrong_type wanted) (map (sense scope) parts) ≡ flat_map (λ part. wrong_type wanted (sense scope part)) parts
senses_types scope wanted parts = flat_map-map (wrong_type wanted) (sense scope) parts

pub part_cases : (scope : List Entry) (wanted : Kind) (parts : List Expr) (fault : SourceFault) → Contains (part_faults wanted (map (sense scope) parts)) fault → InPart scope parts fault ⊎ WrongPart scope wanted parts fault
part_cases scope wanted parts fault within =
    let found = map (sense scope) parts in
    elim (or_else_cases (flat_map (λ (part : Sense). part.faults) found) (flat_map (wrong_type wanted) found) fault within) [
      | inl here ↦
          let source = from_flat_map (faults_in scope) parts fault (subst (λ (list : List SourceFault). Contains list fault) (senses_faults scope parts) here) in
          inl (record { part = source.from; one = source.one; within = source.within })
      | inr later ↦
          let source = from_flat_map (λ part. wrong_type wanted (sense scope part)) parts fault (subst (λ (list : List SourceFault). Contains list fault) (senses_types scope wanted parts) later.1) in
          inr (record { fine = each_empty (faults_in scope) parts (sym (senses_faults scope parts) ∙ later.0); part = source.from; one = source.one; wrong = from_wrong_type scope wanted source.from fault source.within })
    ]

pub part_in : (scope : List Entry) (wanted : Kind) (parts : List Expr) (part : Expr) (fault : SourceFault) → Contains parts part → Contains (faults_in scope part) fault → Contains (part_faults wanted (map (sense scope) parts)) fault
part_in scope wanted parts part fault one within =
    let found = map (sense scope) parts in
    in_these (flat_map (λ (part : Sense). part.faults) found) (flat_map (wrong_type wanted) found) fault
    (subst (λ (list : List SourceFault). Contains list fault) (sym (senses_faults scope parts)) (in_flat_map (faults_in scope) parts part fault one within))

pub wrong_part_in : (scope : List Entry) (wanted : Kind) (parts : List Expr) (part : Expr) → All (IsFine scope) parts → Contains parts part → is_other wanted (kind_in scope part) ≡ true → Contains (part_faults wanted (map (sense scope) parts)) (fault_at refusals.WrongType (first_in scope part))
wrong_part_in scope wanted parts part fine one other =
    let found = map (sense scope) parts in
    let fault = fault_at refusals.WrongType (first_in scope part) in
    in_those (flat_map (λ (part : Sense). part.faults) found) (flat_map (wrong_type wanted) found) fault
    (senses_faults scope parts ∙ all_empty (faults_in scope) parts fine)
    (subst (λ (list : List SourceFault). Contains list fault) (sym (senses_types scope wanted parts)) (in_flat_map (λ part. wrong_type wanted (sense scope part)) parts part fault one (in_wrong_type scope wanted part other)))

-- parts that fit give no fault, and only those
pub fit_none : (scope : List Entry) (wanted : Kind) (parts : List Expr) → Fit scope wanted parts → part_faults wanted (map (sense scope) parts) ≡ []
fit_none scope wanted parts fit =
    let found = map (sense scope) parts in
    let types = senses_types scope wanted parts ∙ all_empty (λ part. wrong_type wanted (sense scope part)) parts (each_is (λ part. wrong_type wanted (sense scope part) ≡ []) parts (λ part one. no_wrong_type scope wanted part (All-contains (λ part. is_other wanted (kind_in scope part) ≡ false) parts part fit.kinds one))) in
    ap (λ front. front or_else flat_map (wrong_type wanted) found) (senses_faults scope parts ∙ all_empty (faults_in scope) parts fit.fine) ∙ types

pub none_fit : (scope : List Entry) (wanted : Kind) (parts : List Expr) → part_faults wanted (map (sense scope) parts) ≡ [] → Fit scope wanted parts
none_fit scope wanted parts none =
    let found = map (sense scope) parts in
    let both = or_else_none (flat_map (λ (part : Sense). part.faults) found) (flat_map (wrong_type wanted) found) none in
    let types = each_empty (λ part. wrong_type wanted (sense scope part)) parts (sym (senses_types scope wanted parts) ∙ both.1) in
    record {
      fine = each_empty (faults_in scope) parts (sym (senses_faults scope parts) ∙ both.0);
      kinds = each_is (λ part. is_other wanted (kind_in scope part) ≡ false) parts (λ part one. right_kind scope wanted part (All-contains (λ part. wrong_type wanted (sense scope part) ≡ []) parts part types one));
    }
