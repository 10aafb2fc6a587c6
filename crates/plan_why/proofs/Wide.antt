-- Numbers on the way through bodies that are outside 128 bits.
use Rattle.std.proofs.Common.{◌≡◌, ℕ, zero, suc, ℤ, ◌<◌, Bool, true, false, List, [], ◌∷◌, ◌++◌, length, take, get_or, Option, Some, None, sym, ap, subst, arith, ◌∙◌}
use Rattle.logic_linear.specs.declared.formula.Formula.{Formula}
use Rattle.logic_linear.specs.Linear.{Linear}
use Rattle.logic_linear.specs.declared.substitution.Put.{Put}
use Rattle.logic_linear.specs.declared.substitution.Put.TheVariants as puts
use Rattle.logic_linear.specs.Substitution.{assigned}
use Rattle.logic_linear.specs.Truth.{Valuation, truth_of, value_of}
use Rattle.lang_monitor.specs.declared.monitor.Stmt.{Stmt}
use Rattle.lang_monitor.specs.declared.monitor.Stmt.TheVariants as statements
use Rattle.lang_monitor.specs.Changes.{on_valuations}
use Rattle.lang_monitor.specs.Statements.{Effect}
use Rattle.lang_monitor.proofs.Statements.{put_effect}
use Rattle.logic_solve.specs.declared.valuation.Solution.{Solution}
use Rattle.logic_solve.specs.Solutions.{valuation_of}
use Rattle.logic_solve.specs.WideNumbers.{IsWideForm, IsWideFormula}
use Rattle.plan_why.specs.WideNumbers.{IsWideBody, IsWidePut, assigns, test, taken, left, later}
use Rattle.plan_why.specs.inner.Running.{body_change, change_of, with_number, with_truth, IsAssigned, IsRun}
use Rattle.plan_why.proofs.Bodies.{takes_then, takes_other}

-- ---- bodies

pub wide_more : {body : List Stmt} {v : Valuation} → IsWideBody body v → (more : List Stmt) → IsWideBody (body ++ more) v
wide_more (assigns it rest v wide) more = assigns it (rest ++ more) v wide
wide_more (test when body other rest v wide) more = test when body other (rest ++ more) v wide
wide_more (taken when body other rest v held wide) more = taken when body other (rest ++ more) v held wide
wide_more (left when body other rest v held wide) more = left when body other (rest ++ more) v held wide
wide_more (later statement rest v wide) more = later statement (rest ++ more) v (wide_more wide more)

-- the statement that comes after so many
pub wide_at : (body : List Stmt) (i : ℕ) (statement : Stmt) (v now : Valuation) → i < length body → statement ≡ get_or body i statement → now ≡ body_change (take i body) v → IsWideBody (statement ∷ []) now → IsWideBody body v
wide_at [] i statement v now h is so wide = absurd (omega arith)
wide_at (first ∷ rest) zero statement v now h is so wide = wide_more (subst (λ (one : Stmt). IsWideBody (one ∷ []) v) is (subst (IsWideBody (statement ∷ [])) so wide)) rest
wide_at (first ∷ rest) (suc i) statement v now h is so wide = later first rest v (wide_at rest i statement (change_of first v) now (omega arith) is so wide)

-- what an assignment makes of a valuation
pub sets_number : (it : Put) (place : ℕ) (form : Linear) (v next : Valuation) (number : ℤ) → it ≡ puts.Number place form → number ≡ value_of v form → next ≡ with_number place number v → next ≡ assigned it v
sets_number it place form v next number is worth made = made ∙ ap (λ (one : ℤ). with_number place one v) worth ∙ ap (λ (one : Put). assigned one v) (sym is)

pub sets_truth : (it : Put) (place : ℕ) (formula : Formula) (v next : Valuation) (truth : Bool) → it ≡ puts.Truth place formula → truth ≡ truth_of v formula → next ≡ with_truth place truth v → next ≡ assigned it v
sets_truth it place formula v next truth is worth made = made ∙ ap (λ (one : Bool). with_truth place one v) worth ∙ ap (λ (one : Put). assigned one v) (sym is)

pub wide_number : (it : Put) (place : ℕ) (form : Linear) (v : Valuation) → it ≡ puts.Number place form → IsWideForm v form → IsWidePut it v
wide_number it place form v is wide = subst (λ (one : Put). IsWidePut one v) (sym is) wide

pub wide_truth : (it : Put) (place : ℕ) (formula : Formula) (v : Valuation) → it ≡ puts.Truth place formula → IsWideFormula v formula → IsWidePut it v
wide_truth it place formula v is wide = subst (λ (one : Put). IsWidePut one v) (sym is) wide

pub put_ran : (statement : Stmt) (it : Put) (v : Valuation) (last : Option Solution) → statement ≡ statements.Put it → IsAssigned it v last → IsRun (statement ∷ []) v last
put_ran statement it v (Some last) is ran =
    ran ∙ sym (ap (λ (some : Stmt). change_of some v) is ∙ ap (λ (effect : Effect Valuation). effect.next v) (put_effect on_valuations it))
put_ran statement it v None is wide = subst (λ (one : Stmt). IsWideBody (one ∷ []) v) (sym is) (assigns it [] v wide)

pub wide_test : (statement : Stmt) (when : Formula) (body other : List Stmt) (v : Valuation) → statement ≡ statements.If when body other → IsWideFormula v when → IsWideBody (statement ∷ []) v
wide_test statement when body other v is wide = subst (λ (one : Stmt). IsWideBody (one ∷ []) v) (sym is) (test when body other [] v wide)

pub ran_then : (statement : Stmt) (when : Formula) (body other : List Stmt) (v : Valuation) (last : Option Solution) → statement ≡ statements.If when body other → true ≡ truth_of v when → IsRun body v last → IsRun (statement ∷ []) v last
ran_then statement when body other v (Some last) is held ran = takes_then statement when body other v (valuation_of last) is held ran
ran_then statement when body other v None is held wide = subst (λ (one : Stmt). IsWideBody (one ∷ []) v) (sym is) (taken when body other [] v (sym held) wide)

pub ran_other : (statement : Stmt) (when : Formula) (body other : List Stmt) (v : Valuation) (last : Option Solution) → statement ≡ statements.If when body other → false ≡ truth_of v when → IsRun other v last → IsRun (statement ∷ []) v last
ran_other statement when body other v (Some last) is held ran = takes_other statement when body other v (valuation_of last) is held ran
ran_other statement when body other v None is held wide = subst (λ (one : Stmt). IsWideBody (one ∷ []) v) (sym is) (left when body other [] v (sym held) wide)
