-- The least of faults: what holds of the least of any list, at faults.
use Rattle.std.proofs.Common.{◌≡◌, List, [], ◌∷◌, Some, None, refl, sym}
use Rattle.std.specs.Option.{option_or}
use Rattle.lang_base.specs.declared.source_fault.SourceFault.{SourceFault}
use Rattle.lang_base.proofs.Least as lemmas
use Rattle.lang_base.specs.SourceFaults.{IsLeast, least, order, ◌or_else◌}

pub none_is_least : (among : List SourceFault) → least among ≡ None → among ≡ []
none_is_least = lemmas.none_is_least order

pub some_is_least : (among : List SourceFault) (fault : SourceFault) → least among ≡ Some fault → IsLeast among fault
some_is_least = lemmas.some_is_least order

pub least_or_else : (these those : List SourceFault) → least (these or_else those) ≡ option_or (least these) (least those)
least_or_else [] those = refl
least_or_else (fault ∷ these) those = sym (lemmas.or_earlier order fault (least these) (least those))
