-- How many clients see to a condition, after one is put elsewhere, or after all are woken.
use Rattle.std.proofs.Common.{◌≡◌, ℕ, zero, suc, ◌+◌, ◌≤◌, Bool, true, false, ◌||◌, List, [], ◌∷◌, Some, refl, ap, ◌∙◌, arith, inl, inr}
use Rattle.std.specs.Prelude.{slice_get}
use Rattle.std.proofs.lemmas.Option.{none-some, same_Some}
use Rattle.std.proofs.lemmas.Bool.{cases_Bool}
use Rattle.machine_events.specs.Configurations.{Standing, put}
use Rattle.machine_events.specs.Events.{waking, wake_all}
use Rattle.machine_events.specs.Counts.{one_if}
use Rattle.machine_events.specs.Pending.{how_many}

-- ---- numbers

pub one_most : (a b : Bool) → (a ≡ true → b ≡ true) → one_if a ≤ one_if b
one_most false false follows = omega arith
one_most false true follows = omega arith
one_most true true follows = omega arith
one_most true false follows = absurd (cc (follows refl))

pub at_least_none : (a : ℕ) → 0 ≤ a
at_least_none a = omega arith

pub no_more : (a b : ℕ) → a ≡ b → a ≤ b
no_more a b same = omega (arith, same)

pub chain : (a b c : ℕ) → a ≤ b → b ≤ c → a ≤ c
chain a b c one two = omega (arith, one, two)

-- what is seen to after one moves
pub still_enough : (slack before later old new : ℕ) → slack ≤ before → old ≤ new
    → later + old ≡ before + new → slack ≤ later
still_enough slack before later old new enough grows moved = omega (arith, enough, grows, moved)

-- a note is handed on to a client that waits
pub handed_on : (slack before woken later : ℕ) (same more : Bool) → slack ≤ before
    → woken + one_if false ≡ before + one_if same
    → later + one_if (same || more) ≡ woken + one_if more → slack ≤ later
handed_on slack before woken later true true enough one two = omega (arith, enough, one, two)
handed_on slack before woken later true false enough one two = omega (arith, enough, one, two)
handed_on slack before woken later false true enough one two = omega (arith, enough, one, two)
handed_on slack before woken later false false enough one two = omega (arith, enough, one, two)

-- a block takes and gives, and its client sees to as much
pub takes_and_gives : (before after seen later takes saw gives sees : ℕ)
    → after + takes ≤ before + gives → before ≤ seen → saw ≡ takes → gives ≤ sees
    → later + saw ≡ seen + sees → after ≤ later
takes_and_gives before after seen later takes saw gives sees counted enough own told moved = omega (arith, counted, enough, own, told, moved)

-- ---- one is put elsewhere

pub many_put : (test : ℕ → Standing → Bool) (standings : List Standing) (first client who : ℕ)
    (old new : Standing) → who ≡ first + client → slice_get standings client ≡ Some old
    → how_many test first (put standings client new.place new.stage) + one_if (test who old)
    ≡ how_many test first standings + one_if (test who new)
many_put test [] first client who old new is at = absurd (none-some old at)
many_put test (here ∷ more) first zero who old new is at =
    let same : here ≡ old = same_Some here old at in
    let own : first ≡ who = omega (arith, is) in
    let old_here : one_if (test first here) ≡ one_if (test who old) = ap (λ (s : Standing). one_if (test first s)) same ∙ ap (λ (n : ℕ). one_if (test n old)) own in
    let new_here : one_if (test first new) ≡ one_if (test who new) = ap (λ (n : ℕ). one_if (test n new)) own in
    turned (one_if (test first here)) (one_if (test who old)) (one_if (test first new)) (one_if (test who new)) (how_many test (suc first) more) old_here new_here
  where
    turned : (a b c d rest : ℕ) → a ≡ b → c ≡ d → (c + rest) + b ≡ (a + rest) + d
    turned a b c d rest one two = omega (arith, one, two)
many_put test (here ∷ more) first (suc client) who old new is at =
    beside (one_if (test first here)) (how_many test (suc first) (put more client new.place new.stage)) (how_many test (suc first) more) (one_if (test who old)) (one_if (test who new))
    (many_put test more (suc first) client who old new (omega (arith, is)) at)
  where
    beside : (a b c d e : ℕ) → b + d ≡ c + e → (a + b) + d ≡ (a + c) + e
    beside a b c d e one = omega (arith, one)

-- ---- all that wait on a condition are woken

pub many_woken : (test : ℕ → Standing → Bool) (condition : ℕ)
    → ((client : ℕ) (standing : Standing) → one_if (test client standing)
    ≤ one_if (test client (waking condition standing)))
    → (standings : List Standing) (first : ℕ)
    → how_many test first standings ≤ how_many test first (wake_all condition standings)
many_woken test condition each [] first = omega arith
many_woken test condition each (here ∷ more) first =
    both (one_if (test first here)) (one_if (test first (waking condition here))) (how_many test (suc first) more) (how_many test (suc first) (wake_all condition more))
    (each first here) (many_woken test condition each more (suc first))
  where
    both : (a b c d : ℕ) → a ≤ b → c ≤ d → a + c ≤ b + d
    both a b c d one two = omega (arith, one, two)

-- ---- one of those that are counted

pub some_counted : (test : ℕ → Standing → Bool) (standings : List Standing) (first : ℕ)
    → 1 ≤ how_many test first standings
    → (client : ℕ) × (who : ℕ) × (standing : Standing) × (slice_get standings client ≡ Some standing)
    × (who ≡ first + client) × (test who standing ≡ true)
some_counted test [] first some = absurd (omega (arith, some))
some_counted test (here ∷ more) first some = elim (cases_Bool (test first here)) [
  | inl is ↦ (zero, first, here, refl, omega arith, is)
  | inr not_here ↦
      let later = some_counted test more (suc first) (rest (one_if (test first here)) (how_many test (suc first) more) some (ap one_if not_here)) in
      (suc later.0, later.1, later.2, later.3, further later.0 later.1 first later.4, later.5)
]
  where
    rest : (a b : ℕ) → 1 ≤ a + b → a ≡ 0 → 1 ≤ b
    rest a b one none = omega (arith, one, none)

    further : (client who first : ℕ) → who ≡ suc first + client → who ≡ first + suc client
    further client who first is = omega (arith, is)
