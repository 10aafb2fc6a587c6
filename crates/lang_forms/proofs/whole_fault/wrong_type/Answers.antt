use Rattle.std.proofs.Common.{◌≡◌, ℕ, Bool, true, [], ◌∷◌, Option, Some, sym, ap, ◌∙◌}
use Rattle.std.specs.Prelude.{if◌then◌else◌}
use Rattle.lang_base.specs.declared.kind.Kind.{Kind}
use Rattle.lang_base.specs.declared.source_fault.Refusal.TheVariants as refusals
use Rattle.lang_base.specs.SourceFaults.{fault_at, least}
use Rattle.lang_forms.specs.Sense.{Sense, is_other, sense, wrong_type}
use Rattle.lang_forms.proofs.whole_fault.wrong_type.Goals as goal

wrong_is : (wanted : Kind) (found : Sense) (kind : Option Kind) (test : Bool) (first : ℕ) → kind ≡ found.kind → test ≡ is_other wanted kind → test ≡ true → first ≡ found.first → Some (fault_at refusals.WrongType first) ≡ least (wrong_type wanted found)
wrong_is wanted found kind test first kind_is test_is so first_is =
    let other = sym (ap (is_other wanted) kind_is) ∙ sym test_is ∙ so in
    ap (λ at. Some (fault_at refusals.WrongType at)) first_is ∙ sym (ap (λ (t : Bool). least (if t then fault_at refusals.WrongType found.first ∷ [] else [])) other)

pub returns-then-is_other : goal.returns-then-is_other
returns-then-is_other c = wrong_is c.args.wanted (sense c.args.scope.now c.args.part.now) c.kind_of.result c.is_other.result c.first_place.result c.kind_of.ensures c.is_other.ensures c.if-is_other.true (c.first_place.ensures c.args.scope.now)
