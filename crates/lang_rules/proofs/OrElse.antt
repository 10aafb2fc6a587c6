-- What stands in a list of faults that is given in place of one that is empty.
use Rattle.std.proofs.Common.{◌≡◌, List, [], ◌∷◌, refl, sym, subst, inl, inr}
use Rattle.std.specs.Prelude.{◌⊎◌}
use Rattle.std.specs.List.{Contains}
use Rattle.lang_base.proofs.Members.{none_in}
use Rattle.lang_base.specs.declared.source_fault.SourceFault.{SourceFault}
use Rattle.lang_base.specs.SourceFaults.{◌or_else◌}

pub or_else_cases : (these those : List SourceFault) (fault : SourceFault) → Contains (these or_else those) fault → Contains these fault ⊎ ((these ≡ []) × Contains those fault)
or_else_cases [] those fault within = inr (refl, within)
or_else_cases (one ∷ these) those fault within = inl within

pub in_these : (these those : List SourceFault) (fault : SourceFault) → Contains these fault → Contains (these or_else those) fault
in_these [] those fault within = none_in fault within
in_these (one ∷ these) those fault within = within

pub in_those : (these those : List SourceFault) (fault : SourceFault) → these ≡ [] → Contains those fault → Contains (these or_else those) fault
in_those these those fault none within = subst (λ (front : List SourceFault). Contains (front or_else those) fault) (sym none) within
