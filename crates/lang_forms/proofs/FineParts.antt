-- Parts that break no rule and are of the wanted kind.
use Rattle.std.proofs.Common.{◌≡◌, Bool, true, false, List, [], ◌∷◌, ◌++◌, refl}
use Rattle.std.specs.Prelude.{if◌then◌else◌}
use Rattle.std.specs.List.{flat_map}
use Rattle.lang_base.specs.declared.kind.Kind.{Kind}
use Rattle.lang_base.specs.declared.source_fault.SourceFault.{SourceFault}
use Rattle.lang_base.specs.SourceFaults.{◌or_else◌}
use Rattle.lang_forms.specs.Sense.{Sense, is_other, part_faults, wrong_type}

pub append_none : (these those : List SourceFault) → these ++ those ≡ [] → (these ≡ []) × (those ≡ [])
append_none [] those none = (refl, none)
append_none (fault ∷ these) those none = absurd (cc)

pub or_else_none : (these those : List SourceFault) → (these or_else those) ≡ [] → (these ≡ []) × (those ≡ [])
or_else_none [] those none = (refl, none)
or_else_none (fault ∷ these) those none = absurd (cc)

pub no_fault : (test : Bool) (fault : SourceFault) → (if test then fault ∷ [] else []) ≡ [] → test ≡ false
no_fault true fault none = absurd (cc)
no_fault false fault none = refl

-- it breaks nothing and is of the kind
abbrev pub IsFine : Kind → Sense → Type 0
IsFine wanted part = (part.faults ≡ []) × (is_other wanted part.kind ≡ false)

abbrev pub AreFine : Kind → List Sense → Type 0
AreFine wanted [] = Unit {0}
AreFine wanted (part ∷ more) = IsFine wanted part × AreFine wanted more

each_fine : (wanted : Kind) (parts : List Sense) → flat_map (λ part. part.faults) parts ≡ [] → flat_map (wrong_type wanted) parts ≡ [] → AreFine wanted parts
each_fine wanted [] none same = tt
each_fine wanted (part ∷ more) none same =
    let here = append_none part.faults (flat_map (λ part. part.faults) more) none in
    let kind = append_none (wrong_type wanted part) (flat_map (wrong_type wanted) more) same in
    ((here.0, no_fault (is_other wanted part.kind) _ kind.0), each_fine wanted more here.1 kind.1)

pub parts_fine : (wanted : Kind) (parts : List Sense) → part_faults wanted parts ≡ [] → AreFine wanted parts
parts_fine wanted parts none =
    let both = or_else_none (flat_map (λ part. part.faults) parts) (flat_map (wrong_type wanted) parts) none in
    each_fine wanted parts both.0 both.1
