-- What the tests of the rules of scripts stand on: the rule from its parts, values beside kinds.
use Rattle.std.proofs.Common.{◌≡◌, ◌≢◌, ◌≤◌, ◌↔◌, IsTrue, Bool, sum_by, List, [], ◌∷◌, length, refl, arith}
use Rattle.std.specs.List.{All, AllPairs, zip}
use Rattle.std.proofs.lemmas.List.Elements.{All-nil, All-cons, All-head, All-tail}
use Rattle.lang_base.specs.Identifiers.{IsIdentifier}
use Rattle.lang_base.specs.declared.kind.Kind.{Kind}
use Rattle.lang_base.specs.declared.value.Value.{Value}
use Rattle.lang_monitor.specs.MonitorParts.{IsOfKind, AreOfKinds}
use Rattle.machine_implicit.specs.declared.script.Client.{Client}
use Rattle.machine_implicit.specs.Scripted.{AreClients}

-- ---- the rule of scripts

-- where all parts but the last hold, the last decides
pub clients_rule : (clients : List Client) (answer : Bool) → length clients ≤ 32 → All (λ client. IsIdentifier client.name) clients → AllPairs (λ client other. client.name ≢ other.name) clients
    → IsTrue answer ↔ (sum_by (λ client. length client.calls) clients ≤ 16384) → IsTrue answer ↔ AreClients clients
clients_rule clients answer few named distinct few_calls = (
  λ right. record { few = few; names = named; distinct = distinct; few_calls = few_calls.0 right },
  λ rule. few_calls.1 rule.few_calls,
)

-- ---- kinds and values

-- the second is a value of the first
abbrev pub IsPairOfKind : Kind × Value → Type 0
IsPairOfKind pair = IsOfKind pair.0 pair.1

pub of_kinds_as_long : (kinds : List Kind) (values : List Value) → AreOfKinds kinds values → length kinds ≡ length values
of_kinds_as_long [] [] held = refl
of_kinds_as_long [] (value ∷ values) held = absurd held
of_kinds_as_long (kind ∷ kinds) [] held = absurd held
of_kinds_as_long (kind ∷ kinds) (value ∷ values) held = omega (arith, of_kinds_as_long kinds values held.1)

pub of_kinds_from_pairs : (kinds : List Kind) (values : List Value) → length kinds ≡ length values → All (λ pair. IsOfKind pair.0 pair.1) (zip kinds values) → AreOfKinds kinds values
of_kinds_from_pairs [] [] long each = tt
of_kinds_from_pairs [] (value ∷ values) long each = absurd (omega arith)
of_kinds_from_pairs (kind ∷ kinds) [] long each = absurd (omega arith)
of_kinds_from_pairs (kind ∷ kinds) (value ∷ values) long each =
    (All-head IsPairOfKind (kind, value) (zip kinds values) each, of_kinds_from_pairs kinds values (omega arith) (All-tail IsPairOfKind (kind, value) (zip kinds values) each))

pub pairs_from_of_kinds : (kinds : List Kind) (values : List Value) → AreOfKinds kinds values → All (λ pair. IsOfKind pair.0 pair.1) (zip kinds values)
pairs_from_of_kinds [] values held = All-nil IsPairOfKind
pairs_from_of_kinds (kind ∷ kinds) [] held = All-nil IsPairOfKind
pairs_from_of_kinds (kind ∷ kinds) (value ∷ values) held = All-cons IsPairOfKind (kind, value) (zip kinds values) held.0 (pairs_from_of_kinds kinds values held.1)
