-- Looking up what a module is printed of.
use Rattle.std.proofs.Common.{◌≡◌, Bool, List, [], ◌∷◌, ◌∙◌, sym, ap, refl}
use Rattle.logic_linear.specs.declared.formula.Formula.{Formula}
use Rattle.logic_linear.specs.declared.formula.Formula.TheVariants as formulas
use Rattle.logic_linear.specs.declared.formula.Formula.TheOpen as layers
use Rattle.logic_linear.specs.declared.formula.Formula.TheFolds.{fold-roll-Formula}
use Rattle.std.proofs.Common.{map}
use Rattle.emit_code.specs.Code.{is_always, is_always_step}
use Rattle.emit_statements.specs.inner.Parts.{are_none}

-- a guard of parts is `true` where there are none
pub always-All : (guard : Formula) (parts items : List Formula) (answer : Bool) → guard ≡ formulas.All parts → items ≡ parts → answer ≡ are_none items → answer ≡ is_always guard
always-All guard parts items answer is same says =
    says ∙ ap are_none same ∙ by parts ∙ sym (fold-roll-Formula Bool is_always_step (layers.All parts)) ∙ ap is_always (formulas.rolls-All parts) ∙ ap is_always (sym is)
  where
    by : (some : List Formula) → are_none some ≡ is_always_step (layers.All (map is_always some))
    by [] = refl
    by (part ∷ more) = refl
