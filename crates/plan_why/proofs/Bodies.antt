-- What statements make of valuations.
use Rattle.std.proofs.Common.{◌≡◌, ℕ, ◌+◌, ◌<◌, ◌≤◌, Bool, true, false, cond, List, [], ◌∷◌, ◌++◌, length, map, take, get_or, sym, ap, refl, arith, ◌∙◌}
use Rattle.std.proofs.lemmas.List.{take_all, take_more}
use Rattle.logic_linear.specs.declared.formula.Formula.{Formula}
use Rattle.logic_linear.specs.Truth.{Valuation, truth_of}
use Rattle.lang_monitor.specs.declared.monitor.Stmt.{Stmt}
use Rattle.lang_monitor.specs.declared.monitor.Stmt.TheVariants as statements
use Rattle.lang_monitor.specs.Changes.{on_valuations}
use Rattle.lang_monitor.specs.Statements.{Effect, in_turn, run_of}
use Rattle.lang_monitor.proofs.Statements.{if_effect}
use Rattle.plan_why.specs.inner.Running.{change_of, body_change}

-- ---- statements

change_If : (when : Formula) (body other : List Stmt) (v : Valuation) → change_of (statements.If when body other) v ≡ cond (truth_of v when) (body_change body v) (body_change other v)
change_If when body other v = ap (λ (effect : Effect Valuation). effect.next v) (if_effect on_valuations when body other)

pub takes_then : (statement : Stmt) (when : Formula) (body other : List Stmt) (v next : Valuation) → statement ≡ statements.If when body other → true ≡ truth_of v when → next ≡ body_change body v → next ≡ change_of statement v
takes_then statement when body other v next is held runs =
    runs ∙ ap (λ (test : Bool). cond test (body_change body v) (body_change other v)) held ∙ sym (ap (λ (some : Stmt). change_of some v) is ∙ change_If when body other v)

pub takes_other : (statement : Stmt) (when : Formula) (body other : List Stmt) (v next : Valuation) → statement ≡ statements.If when body other → false ≡ truth_of v when → next ≡ body_change other v → next ≡ change_of statement v
takes_other statement when body other v next is held runs =
    runs ∙ ap (λ (test : Bool). cond test (body_change body v) (body_change other v)) held ∙ sym (ap (λ (some : Stmt). change_of some v) is ∙ change_If when body other v)

turn_push : (effects : List (Effect Valuation)) (last : Effect Valuation) (v : Valuation) → (in_turn (effects ++ last ∷ [])).next v ≡ last.next ((in_turn effects).next v)
turn_push [] last v = refl
turn_push (first ∷ effects) last v = turn_push effects last (first.next v)

map_push : (body : List Stmt) (statement : Stmt) → map (run_of on_valuations) (body ++ statement ∷ []) ≡ map (run_of on_valuations) body ++ run_of on_valuations statement ∷ []
map_push [] statement = refl
map_push (first ∷ body) statement = ap (λ (rest : List (Effect Valuation)). run_of on_valuations first ∷ rest) (map_push body statement)

taken_one : {X : Type 0} (xs : List X) (i : ℕ) (x : X) → i < length xs → x ≡ get_or xs i x → take (i + 1) xs ≡ take i xs ++ x ∷ []
taken_one xs i x h is = take_more xs i x h ∙ ap (λ y. take i xs ++ y ∷ []) (sym is)

-- one more statement
pub ran_more : (body : List Stmt) (i : ℕ) (statement : Stmt) (v now next : Valuation) → i < length body → statement ≡ get_or body i statement → now ≡ body_change (take i body) v → next ≡ change_of statement now → next ≡ body_change (take (i + 1) body) v
ran_more body i statement v now next h is so ran =
    ran ∙ ap (change_of statement) so
    ∙ sym (ap (λ (some : List Stmt). body_change some v) (taken_one body i statement h is) ∙ ap (λ (some : List (Effect Valuation)). (in_turn some).next v) (map_push (take i body) statement) ∙ turn_push (map (run_of on_valuations) (take i body)) (run_of on_valuations statement) v)

pub ran_none : (body : List Stmt) (v now : Valuation) → now ≡ v → now ≡ body_change (take 0 body) v
ran_none [] v now is = is
ran_none (statement ∷ body) v now is = is

pub ran_all : (body : List Stmt) (i : ℕ) (v now : Valuation) → length body ≤ i → now ≡ body_change (take i body) v → now ≡ body_change body v
ran_all body i v now h so = so ∙ ap (λ (some : List Stmt). body_change some v) (take_all i body h)
