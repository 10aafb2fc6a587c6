-- Where clients stand after one is put elsewhere, or after all are woken.
use Rattle.std.proofs.Common.{◌≡◌, ℕ, zero, suc, ◌<◌, ◌⊎◌, Bool, true, false, cond, List, [], ◌∷◌, length, Option, Some, None, refl, sym, ap, subst, ◌∙◌, arith, inl, inr}
use Rattle.std.specs.Prelude.{slice_get, option_map}
use Rattle.std.proofs.lemmas.List.{length-set, length-map}
use Rattle.std.proofs.lemmas.Option.{slice_get_within, slice_get-map, none-some, same_Some}
use Rattle.std.proofs.lemmas.Bool.{eq-eqb, eqb-true, cases_eq, true≢false}
use Rattle.machine_implicit.specs.declared.place.Place.{Place}
use Rattle.machine_events.specs.declared.plan.Note.{Note}
use Rattle.machine_events.specs.declared.event.Stage.{Stage}
use Rattle.machine_events.specs.Configurations.{Standing, StandsAt, put}
use Rattle.machine_events.specs.declared.event.Stage.TheVariants.{Idle, Entering, Waiting, Woken, Inside, Notifying}
use Rattle.machine_events.specs.Events.{waits_on, waking, wake_all, NoneWaits}
use Rattle.machine_events.specs.Pending.{SomeStands}

-- ---- one place

place_in : Option Standing → Place
place_in None = record { past = 0; block = 0; locals = [] }
place_in (Some standing) = standing.place

stage_in : Option Standing → Stage (List Note)
stage_in None = Idle
stage_in (Some standing) = standing.stage

abbrev some_at : Place → Stage (List Note) → Option Standing
some_at place stage = Some (record { place = place; stage = stage })

pub same_place : (place other_place : Place) (stage other : Stage (List Note))
    → some_at place stage ≡ some_at other_place other → place ≡ other_place
unfolding place_in
same_place place other_place stage other same = ap place_in same

pub same_stage : (place other_place : Place) (stage other : Stage (List Note))
    → some_at place stage ≡ some_at other_place other → stage ≡ other
unfolding stage_in
same_stage place other_place stage other same = ap stage_in same

-- a client stands at one place
pub one_place : (standings : List Standing) (client : ℕ) (place other_place : Place)
    (stage other : Stage (List Note)) → StandsAt standings client place stage
    → StandsAt standings client other_place other → place ≡ other_place
one_place standings client place other_place stage other at again = same_place place other_place stage other (sym at ∙ again)

pub one_stage : (standings : List Standing) (client : ℕ) (place other_place : Place)
    (stage other : Stage (List Note)) → StandsAt standings client place stage
    → StandsAt standings client other_place other → stage ≡ other
one_stage standings client place other_place stage other at again = same_stage place other_place stage other (sym at ∙ again)

pub stands_within : (standings : List Standing) (client : ℕ) (place : Place) (stage : Stage (List Note))
    → StandsAt standings client place stage → client < length standings
stands_within standings client place stage at = slice_get_within standings client (record { place = place; stage = stage }) at

-- ---- one is put elsewhere

pub put_length : (standings : List Standing) (client : ℕ) (place : Place) (stage : Stage (List Note))
    → length (put standings client place stage) ≡ length standings
put_length standings client place stage = length-set standings client (record { place = place; stage = stage })

pub put_same : (standings : List Standing) (client : ℕ) (place : Place) (stage : Stage (List Note))
    → client < length standings → StandsAt (put standings client place stage) client place stage
put_same [] client place stage within = absurd (omega arith)
put_same (first ∷ more) zero place stage within = refl
put_same (first ∷ more) (suc client) place stage within = put_same more client place stage (omega arith)

pub put_other : (standings : List Standing) (client : ℕ) (place : Place) (stage : Stage (List Note)) (other : ℕ)
    → (other ≡ client → ⊥) → slice_get (put standings client place stage) other
    ≡ slice_get standings other
put_other [] client place stage other differs = refl
put_other (first ∷ more) zero place stage zero differs = absurd (differs refl)
put_other (first ∷ more) zero place stage (suc other) differs = refl
put_other (first ∷ more) (suc client) place stage zero differs = refl
put_other (first ∷ more) (suc client) place stage (suc other) differs = put_other more client place stage other (λ same. differs (ap suc same))

-- who stands there afterwards: the one that was put there, or another that stood there before
pub record IsMover (client : ℕ) (place : Place) (stage : Stage (List Note)) (other : ℕ) (others_place : Place) (others_stage : Stage (List Note)) : Type 0 where
  pub who : other ≡ client
  pub where_place : others_place ≡ place
  pub where_stage : others_stage ≡ stage

pub record IsOther (standings : List Standing) (client other : ℕ) (others_place : Place) (others_stage : Stage (List Note)) : Type 0 where
  pub differs : other ≡ client → ⊥
  pub stood : StandsAt standings other others_place others_stage

pub came : (standings : List Standing) (client : ℕ) (place : Place) (stage : Stage (List Note)) (other : ℕ)
    (others_place : Place) (others_stage : Stage (List Note)) → client < length standings
    → StandsAt (put standings client place stage) other others_place others_stage
    → IsMover client place stage other others_place others_stage
    ⊎ IsOther standings client other others_place others_stage
came standings client place stage other others_place others_stage within at = elim (cases_eq other client) [
  | inl same ↦
      let own = put_same standings client place stage within in
      let here : StandsAt (put standings client place stage) client others_place others_stage =
      subst (λ (who : ℕ). StandsAt (put standings client place stage) who others_place others_stage) same at in
      inl (record {
        who = same;
        where_place = one_place (put standings client place stage) client others_place place others_stage stage here own;
        where_stage = one_stage (put standings client place stage) client others_place place others_stage stage here own;
      })
  | inr differs ↦ inr (record { differs = differs; stood = sym (put_other standings client place stage other differs) ∙ at })
]

-- two that stand at different stages are two clients
pub apart : (standings : List Standing) (client : ℕ) (place : Place) (other : ℕ)
    (others_place : Place) (stage others_stage : Stage (List Note))
    → StandsAt standings client place stage → StandsAt standings other others_place others_stage
    → (others_stage ≡ stage → ⊥) → other ≡ client → ⊥
apart standings client place other others_place stage others_stage at others_at differs same =
    differs (one_stage standings client others_place place others_stage stage (subst (λ (who : ℕ). StandsAt standings who others_place others_stage) same others_at) at)

pub stays : (standings : List Standing) (client : ℕ) (place : Place) (stage : Stage (List Note)) (other : ℕ)
    (others_place : Place) (others_stage : Stage (List Note)) → (other ≡ client → ⊥)
    → StandsAt standings other others_place others_stage
    → StandsAt (put standings client place stage) other others_place others_stage
stays standings client place stage other others_place others_stage differs at = put_other standings client place stage other differs ∙ at

-- ---- someone of whom a test is true

-- the mover, where it is put
pub mover_stands : (standings : List Standing) (client : ℕ) (place new_place : Place)
    (stage new_stage : Stage (List Note)) (test : ℕ → Place → Stage (List Note) → Bool)
    → StandsAt standings client place stage → test client new_place new_stage ≡ true
    → SomeStands (put standings client new_place new_stage) test
mover_stands standings client place new_place stage new_stage test at holds =
    (client, new_place, new_stage, put_same standings client new_place new_stage (stands_within standings client place stage at), holds)

-- still someone, if there is one whenever the test was true of the mover where it stood
pub someone_stays : (standings : List Standing) (client : ℕ) (place new_place : Place)
    (stage new_stage : Stage (List Note)) (test : ℕ → Place → Stage (List Note) → Bool)
    → StandsAt standings client place stage
    → (test client place stage ≡ true → SomeStands (put standings client new_place new_stage) test)
    → SomeStands standings test → SomeStands (put standings client new_place new_stage) test
someone_stays standings client place new_place stage new_stage test at keeps some = elim (cases_eq some.0 client) [
  | inl same ↦
      let here : StandsAt standings client some.1 some.2 = subst (λ (who : ℕ). StandsAt standings who some.1 some.2) same some.3 in
      let true_there : test client some.1 some.2 ≡ true = subst (λ (who : ℕ). test who some.1 some.2 ≡ true) same some.4 in
      let true_place : test client place some.2 ≡ true = subst (λ (where_place : Place). test client where_place some.2 ≡ true) (one_place standings client some.1 place some.2 stage here at) true_there in
      keeps (subst (λ (where_stage : Stage (List Note)). test client place where_stage ≡ true) (one_stage standings client some.1 place some.2 stage here at) true_place)
  | inr differs ↦ (some.0, some.1, some.2, stays standings client new_place new_stage some.0 some.1 some.2 differs some.3, some.4)
]

-- ---- all that wait on a condition are woken

option_some : {A B : Type 0} (f : A → B) (o : Option A) (b : B) → option_map f o ≡ Some b
    → (a : A) × (o ≡ Some a) × (f a ≡ b)
option_some f None b is = absurd (none-some b is)
option_some f (Some a) b is = (a, refl, same_Some (f a) b is)

by_test : (condition : ℕ) (place : Place) (stage : Stage (List Note)) (test : Bool)
    → test ≡ waits_on condition stage → (others_place : Place) (others_stage : Stage (List Note))
    → ◌≡◌ {A = Standing} (cond test (record { place = place; stage = Woken condition })
    (record { place = place; stage = stage }))
    (record { place = others_place; stage = others_stage })
    → ((stage ≡ others_stage) × (place ≡ others_place) × (waits_on condition stage ≡ false))
    ⊎ ((Woken condition ≡ others_stage) × (place ≡ others_place)
    × (waits_on condition stage ≡ true))
by_test condition place stage true is others_place others_stage same = inr (ap (λ (s : Standing). s.stage) same, ap (λ (s : Standing). s.place) same, sym is)
by_test condition place stage false is others_place others_stage same = inl (ap (λ (s : Standing). s.stage) same, ap (λ (s : Standing). s.place) same, sym is)

pub waits_is : {N : Type 0} (condition : ℕ) (stage : Stage N) → waits_on condition stage ≡ true
    → stage ≡ Waiting condition
waits_is condition Idle is = absurd (true≢false (sym is))
waits_is condition Entering is = absurd (true≢false (sym is))
waits_is condition (Waiting other) is = ap Waiting (eqb-true other condition is)
waits_is condition (Woken other) is = absurd (true≢false (sym is))
waits_is condition Inside is = absurd (true≢false (sym is))
waits_is condition (Notifying notes) is = absurd (true≢false (sym is))

-- who stands there afterwards stood there before, and did not wait on the condition, or waited on
-- it and is woken
pub woken_from : (standings : List Standing) (condition client : ℕ) (place : Place) (stage : Stage (List Note))
    → StandsAt (wake_all condition standings) client place stage
    → (StandsAt standings client place stage × (waits_on condition stage ≡ false))
    ⊎ (StandsAt standings client place (Waiting condition) × (stage ≡ Woken condition))
woken_from standings condition client place stage at =
    let before = option_some (waking condition) (slice_get standings client) (record { place = place; stage = stage }) (sym (slice_get-map (waking condition) standings client) ∙ at) in
    let stood = before.0 in
    elim (by_test condition stood.place stood.stage (waits_on condition stood.stage) refl place stage before.2) [
      | inl stayed ↦ inl (before.1 ∙ ap Some (λ i. record { place = stayed.1 i; stage = stayed.0 i }), subst (λ (which : Stage (List Note)). waits_on condition which ≡ false) stayed.0 stayed.2)
      | inr woken ↦ inr (before.1 ∙ ap Some (λ i. record { place = woken.1 i; stage = waits_is condition stood.stage woken.2 i }), sym woken.0)
    ]

-- who stood there, and did not wait on the condition, stands there
pub unwoken_stays : (standings : List Standing) (condition client : ℕ) (place : Place)
    (stage : Stage (List Note)) → StandsAt standings client place stage → waits_on condition stage ≡ false
    → StandsAt (wake_all condition standings) client place stage
unwoken_stays standings condition client place stage at not_waiting =
    slice_get-map (waking condition) standings client ∙ ap (option_map (waking condition)) at
    ∙ ap (λ (test : Bool). Some (cond test (record { place = place; stage = Woken condition }) (record { place = place; stage = stage }))) not_waiting

pub none_waits : (standings : List Standing) (condition : ℕ)
    → NoneWaits (wake_all condition standings) condition
none_waits standings condition client place at = elim (woken_from standings condition client place (Waiting condition) at) [
  | inl stayed ↦ true≢false (sym (eq-eqb condition condition refl) ∙ stayed.1)
  | inr woken ↦ absurd (cc woken.1)
]

pub woken_length : (standings : List Standing) (condition : ℕ)
    → length (wake_all condition standings) ≡ length standings
woken_length standings condition = length-map standings (waking condition)
