-- Whose calls are done, by where clients stand.
use Rattle.std.proofs.Common.{◌≡◌, ℕ, ◌+◌, ◌<◌, ◌≤◌, ◌∙◌, true, false, List, map, length, take, get_or, Some, IsSomeAnd, ap, sym}
use Rattle.std.specs.Prelude.{slice_get, option_map}
use Rattle.std.specs.List.{list_all, enumerate_from}
use Rattle.std.proofs.lemmas.Option.{slice_get-map, get_or_from_slice_get}
use Rattle.std.proofs.lemmas.List.Folds.{list_all_at, list_all_more}
use Rattle.machine_implicit.specs.declared.place.Place.{Place}
use Rattle.machine_implicit.specs.declared.script.Client.{Client}
use Rattle.machine_events.specs.Configurations.{Standing}
use Rattle.machine_events.proofs.Facing.{is_some_and}
use Rattle.report_text.specs.TurnsText.{has_done}
use Rattle.report_text.specs.LogText.{are_done}
use Rattle.report_text.proofs.PlanRows.{both}
use Rattle.report_text.proofs.LogRows.{both_true, within_enumerated, enumerated_at, enumerated_end}

-- the place at which a client stands is listed for it
pub listed_at : (standings : List Standing) (client : ℕ) (place : Place)
    → IsSomeAnd (slice_get standings client) (λ standing. place ≡ standing.place)
    → place ≡ get_or (map (λ standing. standing.place) standings) client place
listed_at standings client place is =
    let found = is_some_and (slice_get standings client) (λ (standing : Standing). place ≡ standing.place) is in
    let there : slice_get (map (λ (standing : Standing). standing.place) standings) client ≡ Some place =
    slice_get-map (λ (standing : Standing). standing.place) standings client ∙ ap (option_map (λ (standing : Standing). standing.place)) found.1 ∙ ap Some (sym found.2) in
    sym (get_or_from_slice_get (map (λ (standing : Standing). standing.place) standings) client place place there)

-- the first so many clients have no call left
abbrev pub SoManyDone : List Client → List Place → ℕ → Type 0
SoManyDone clients places count = list_all (λ one. has_done clients one.0 one.1) (take count (enumerate_from 0 places)) ≡ true

pub one_left : (clients : List Client) (places : List Place) (client : ℕ) (place : Place)
    → client < length places → place ≡ get_or places client place
    → has_done clients client place ≡ false → false ≡ are_done clients places
one_left clients places client place within is left =
    let at = enumerated_at places client place within is in
    sym (list_all_at (λ one. has_done clients one.0 one.1) (enumerate_from 0 places) client (both client place) (within_enumerated places client within)
    (ap (λ one. has_done clients one.0 one.1) (sym at) ∙ left))

pub one_more : (clients : List Client) (places : List Place) (client : ℕ) (place : Place)
    → client < length places → place ≡ get_or places client place
    → has_done clients client place ≡ true
    → SoManyDone clients places client → SoManyDone clients places (client + 1)
one_more clients places client place within is does so_far =
    let at = enumerated_at places client place within is in
    both_true _ _ _ (list_all_more (λ one. has_done clients one.0 one.1) (enumerate_from 0 places) client (both client place) (within_enumerated places client within))
    so_far (ap (λ one. has_done clients one.0 one.1) (sym at) ∙ does)

pub all_done : (clients : List Client) (places : List Place) (count : ℕ) → length places ≤ count
    → SoManyDone clients places count → true ≡ are_done clients places
all_done clients places count over so_far = sym (ap (list_all (λ one. has_done clients one.0 one.1)) (sym (enumerated_end places count over)) ∙ so_far)
