-- What goes over statements: a test of every part, and a run over memories of any kind.
use Rattle.std.specs.Prelude.{Bool, false, ◌&&◌, ◌||◌, List, [], ◌∷◌, map, if◌then◌else◌}
use Rattle.std.specs.List.{list_all}
use Rattle.logic_linear.specs.declared.formula.Formula.{Formula}
use Rattle.logic_linear.specs.declared.substitution.Put.{Put as Assignment}
use Rattle.lang_monitor.specs.declared.monitor.Stmt.{Stmt}
use Rattle.lang_monitor.specs.declared.monitor.Stmt.TheOpen.{Stmt-F, Put, If}
use Rattle.lang_monitor.specs.declared.monitor.Stmt.TheFolds.{fold-Stmt}

-- ---- every part

abbrev pub every_step : (Assignment → Bool) → (Formula → Bool) → Stmt-F Bool → Bool
every_step puts whens (Put put) = puts put
every_step puts whens (If when body other) =
    whens when && (list_all (λ inner. inner) body && list_all (λ inner. inner) other)

-- each assignment passes the one test, and each condition the other
abbrev pub every_part : (Assignment → Bool) → (Formula → Bool) → Stmt → Bool
every_part puts whens = fold-Stmt Bool (every_step puts whens)

-- ---- runs

-- what statements do: the memory that they reach, and whether some value that they assign on the
-- way overflows
pub record Effect (M : Type 0) : Type 0 where
  pub next : M → M
  pub overflows : M → Bool

-- one after the other
abbrev pub in_turn : {M : Type 0} → List (Effect M) → Effect M
in_turn [] = record { next = λ memory. memory; overflows = λ memory. false }
in_turn (first ∷ more) =
    record {
      next = λ memory. (in_turn more).next (first.next memory);
      overflows =
          λ memory. first.overflows memory || (in_turn more).overflows (first.next memory);
    }

-- the condition is read once, before the branch runs
abbrev pub choosing : {M : Type 0} → (M → Bool) → Effect M → Effect M → Effect M
choosing when body other = record {
  next = λ memory. if when memory then body.next memory else other.next memory;
  overflows = λ memory. if when memory then body.overflows memory else other.overflows memory;
}

-- a kind of run: what an assignment does, and whether a condition holds
pub record Runner (M : Type 0) : Type 0 where
  pub does : Assignment → Effect M
  pub holds : Formula → M → Bool

abbrev pub run_step : {M : Type 0} → Runner M → Stmt-F (Effect M) → Effect M
run_step runner (Put put) = runner.does put
run_step runner (If when body other) =
    choosing (runner.holds when) (in_turn body) (in_turn other)

abbrev pub run_of : {M : Type 0} → Runner M → Stmt → Effect M
run_of {M} runner = fold-Stmt (Effect M) (run_step runner)

-- what a body does
abbrev pub run_body : {M : Type 0} → Runner M → List Stmt → Effect M
run_body runner body = in_turn (map (run_of runner) body)
