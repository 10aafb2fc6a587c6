-- Failures of one query, and of one among more.
use Rattle.std.proofs.Common.{◌≡◌, zero, suc, List, [], ◌∷◌, Option, Some, None, subst, arith, refl}
use Rattle.std.specs.List.{Contains}
use Rattle.std.proofs.lemmas.List.Elements.{All-nil, All-cons, All-head}
use Rattle.lang_monitor.specs.declared.query.Query.{Query}
use Rattle.lang_monitor.specs.MonitorParts.{MonitorParts}
use Rattle.plan_why.specs.declared.failing.Failure.{Failure}
use Rattle.plan_why.specs.Failures.{IsFailure, IsFailureAmong, IsFailureOf}

in_first : (first query : Query) (more : List Query) → Contains (first ∷ []) query → Contains (first ∷ more) query
in_first first query more (zero, low, is) = (zero, omega arith, is)
in_first first query more (suc k, low, is) = absurd (omega arith)

in_later : (first query : Query) (more : List Query) → Contains more query → Contains (first ∷ more) query
in_later first query more (k, low, is) = (suc k, omega arith, is)

pub among_one : (monitor : MonitorParts) (query asked : Query) (found : Option Failure) → query ≡ asked → IsFailureOf monitor query found → IsFailureAmong monitor (asked ∷ []) found
among_one monitor query asked (Some failure) is fails = record {
  query = asked;
  there = (zero, omega arith, refl);
  fails = subst (λ (one : Query). IsFailure monitor one failure) is fails;
}
among_one monitor query asked None is spared =
    All-cons (λ (one : Query). IsFailureOf monitor one None) asked [] (subst (λ (one : Query). IsFailureOf monitor one None) is spared) (All-nil (λ (one : Query). IsFailureOf monitor one None))

pub among_none : (monitor : MonitorParts) → IsFailureAmong monitor [] None
among_none monitor = All-nil (λ (one : Query). IsFailureOf monitor one None)

pub among_first : (monitor : MonitorParts) (first : Query) (more : List Query) (failure : Failure) → IsFailureAmong monitor (first ∷ []) (Some failure) → IsFailureAmong monitor (first ∷ more) (Some failure)
among_first monitor first more failure found = record { query = found.query; there = in_first first found.query more found.there; fails = found.fails }

pub among_later : (monitor : MonitorParts) (first : Query) (more : List Query) (found : Option Failure) → IsFailureAmong monitor (first ∷ []) None → IsFailureAmong monitor more found → IsFailureAmong monitor (first ∷ more) found
among_later monitor first more (Some failure) none found = record { query = found.query; there = in_later first found.query more found.there; fails = found.fails }
among_later monitor first more None none spared =
    All-cons (λ (one : Query). IsFailureOf monitor one None) first more (All-head (λ (one : Query). IsFailureOf monitor one None) first [] none) spared
