-- How many threads wait on a condition is what the code counts.
use Rattle.std.proofs.Common.{◌≡◌, ◌==◌, ℕ, zero, suc, ◌+◌, ◌≤◌, Bool, true, false, cond, List, [], ◌∷◌, map, Some, refl, sym, ap, ◌∙◌, arith, inl, inr}
use Rattle.std.specs.Prelude.{slice_get, slice_set}
use Rattle.std.proofs.lemmas.Option.{none-some, same_Some}
use Rattle.std.proofs.lemmas.Bool.{eqb-true, eq-eqb}
use Rattle.machine_implicit.specs.declared.script.Client.{Client}
use Rattle.machine_events.specs.declared.plan.Note.{Note}
use Rattle.machine_events.specs.Counts.{one_if}
use Rattle.machine_events.specs.Configurations.{System}
use Rattle.emit_code.specs.Code.{Op}
use Rattle.emit_code.specs.Code.Op.{WaitUntil, Notify}
use Rattle.emit_code.specs.Executions.{Program, program_with, Position, Frame, Thread, Moment, IsThread, woken_position, woken_thread, NoneSleeps, AreNotified, new_thread, start, IsMove, Executes}
use Rattle.emit_code.specs.Executions.Position.{Outside, At, Asleep, Notified}
use Rattle.emit_code.specs.Executions.IsMove.{calls, takes, passes, falls_asleep, wakes, retakes, refuses, abandons, runs_body, panics, notifies, unlocks, releases, returns}
use Rattle.emit_code.specs.Executions.Executes.{none_yet, one_more}
use Rattle.emit_code.specs.Sleepers.{waits_on, waiting_on, SleepersAreCounted, UncountedSleepNot, LeftOutIsMade}
use Rattle.emit_code.proofs.Running.{noter_stays}

-- ---- one thread goes

sum_set : (threads : List Thread) (thread : ℕ) (old new : Thread) (condition : ℕ) → slice_get threads thread ≡ Some old
    → waiting_on (slice_set threads thread new) condition + waits_on condition old.position ≡ waiting_on threads condition + waits_on condition new.position
sum_set [] thread old new condition at = absurd (none-some old at)
sum_set (first ∷ more) zero old new condition at =
    let same : waits_on condition first.position ≡ waits_on condition old.position = ap (λ (one : Thread). waits_on condition one.position) (same_Some first old at) in
    omega (arith, same)
sum_set (first ∷ more) (suc thread) old new condition at =
    let rest = sum_set more thread old new condition at in
    omega (arith, rest)

goes_same : (threads : List Thread) (thread : ℕ) (old new : Thread) (condition : ℕ) → slice_get threads thread ≡ Some old → waits_on condition new.position ≡ waits_on condition old.position
    → waiting_on (slice_set threads thread new) condition ≡ waiting_on threads condition
goes_same threads thread old new condition at same =
    let sum = sum_set threads thread old new condition at in
    omega (arith, sum, same)

-- ---- some are notified

woken_by : (note condition other block : ℕ) (rest : List Op) (test : Bool) → other == note ≡ test
    → waits_on condition (cond test (Notified block note rest) (Asleep block other rest)) ≡ one_if (other == condition)
woken_by note condition other block rest true is = ap (λ (one : ℕ). one_if (one == condition)) (sym (eqb-true other note is))
woken_by note condition other block rest false is = refl

one_same : (note condition : ℕ) (position : Position) → waits_on condition (woken_position note position) ≡ waits_on condition position
one_same note condition Outside = refl
one_same note condition (At rest) = refl
one_same note condition (Asleep block other rest) = woken_by note condition other block rest (other == note) refl
one_same note condition (Notified block other rest) = refl

each_same : (note condition : ℕ) (threads : List Thread) → waiting_on (map (woken_thread note) threads) condition ≡ waiting_on threads condition
each_same note condition [] = refl
each_same note condition (first ∷ more) =
    let one = one_same note condition first.position in
    let rest = each_same note condition more in
    omega (arith, one, rest)

notified_same : (program : Program) (now : Moment) (note : Note) (woken : List Thread) (condition : ℕ) → AreNotified program now note woken → waiting_on woken condition ≡ waiting_on now.threads condition
notified_same program now note woken condition (inl first) =
    ap (λ (threads : List Thread). waiting_on threads condition) first.becomes
    ∙ goes_same now.threads first.target (record { frame = first.target_frame; position = Asleep first.block note.condition first.rest })
    (record { frame = first.target_frame; position = Notified first.block note.condition first.rest }) condition first.sleeps refl
notified_same program now note woken condition (inr (inl each)) = ap (λ (threads : List Thread). waiting_on threads condition) each.becomes ∙ each_same note.condition condition now.threads
notified_same program now note woken condition (inr (inr nobody)) = ap (λ (threads : List Thread). waiting_on threads condition) nobody.becomes

-- ---- each move

abbrev count : ℕ → Moment → ℕ
count condition now = now.asleep condition

abbrev number : ℕ → Moment → ℕ
number condition now = waiting_on now.threads condition

move_counts : (system : System) (told : ℕ → List Op) (timed : ℕ → ℕ → Bool) (before next : Moment) (move : IsMove (program_with system told timed) before next) → SleepersAreCounted before → SleepersAreCounted next
move_counts system told timed before next (calls thread frame move) counted condition =
    ap (count condition) move.becomes ∙ counted condition ∙ sym (ap (number condition) move.becomes ∙ goes_same before.threads thread _ _ condition move.outside refl)
move_counts system told timed before next (takes thread frame move) counted condition =
    ap (count condition) move.becomes ∙ counted condition ∙ sym (ap (number condition) move.becomes ∙ goes_same before.threads thread _ _ condition move.at refl)
move_counts system told timed before next (passes thread frame move) counted condition =
    ap (count condition) move.becomes ∙ counted condition ∙ sym (ap (number condition) move.becomes ∙ goes_same before.threads thread _ _ condition move.at refl)
move_counts system told timed before next (falls_asleep thread frame move) counted condition =
    let sum = sum_set before.threads thread (record { frame = frame; position = At (WaitUntil move.block move.condition ∷ move.rest) })
    (record { frame = frame; position = Asleep move.block move.condition move.rest }) condition move.at in
    let was = counted condition in
    ap (count condition) move.becomes ∙ omega (arith, sum, was) ∙ sym (ap (number condition) move.becomes)
move_counts system told timed before next (wakes thread frame move) counted condition =
    ap (count condition) move.becomes ∙ counted condition ∙ sym (ap (number condition) move.becomes ∙ goes_same before.threads thread _ _ condition move.at refl)
move_counts system told timed before next (retakes thread frame move) counted condition =
    let sum = sum_set before.threads thread (record { frame = frame; position = Notified move.block move.condition move.rest })
    (record { frame = frame; position = At (WaitUntil move.block move.condition ∷ move.rest) }) condition move.at in
    let was = counted condition in
    ap (count condition) move.becomes ∙ omega (arith, sum, was) ∙ sym (ap (number condition) move.becomes)
move_counts system told timed before next (refuses thread frame move) counted condition =
    ap (count condition) move.becomes ∙ counted condition ∙ sym (ap (number condition) move.becomes ∙ goes_same before.threads thread _ _ condition move.at refl)
move_counts system told timed before next (abandons thread frame move) counted condition =
    ap (count condition) move.becomes ∙ counted condition ∙ sym (ap (number condition) move.becomes ∙ goes_same before.threads thread _ _ condition move.at refl)
move_counts system told timed before next (runs_body thread frame move) counted condition =
    ap (count condition) move.becomes ∙ counted condition ∙ sym (ap (number condition) move.becomes ∙ goes_same before.threads thread _ _ condition move.at refl)
move_counts system told timed before next (panics thread frame move) counted condition =
    ap (count condition) move.becomes ∙ counted condition ∙ sym (ap (number condition) move.becomes ∙ goes_same before.threads thread _ _ condition move.at refl)
move_counts system told timed before next (notifies thread frame move) counted condition =
    ap (count condition) move.becomes ∙ counted condition
    ∙ sym (ap (number condition) move.becomes
    ∙ goes_same move.woken thread (record { frame = frame; position = At (Notify move.note ∷ move.rest) }) (record { frame = frame; position = At move.rest }) condition
    (noter_stays system told timed before move.note move.woken move.notified thread frame (Notify move.note ∷ move.rest) move.at) refl
    ∙ notified_same (program_with system told timed) before move.note move.woken condition move.notified)
move_counts system told timed before next (unlocks thread frame move) counted condition =
    ap (count condition) move.becomes ∙ counted condition ∙ sym (ap (number condition) move.becomes ∙ goes_same before.threads thread _ _ condition move.at refl)
move_counts system told timed before next (releases thread frame move) counted condition =
    ap (count condition) move.becomes ∙ counted condition ∙ sym (ap (number condition) move.becomes ∙ goes_same before.threads thread _ _ condition move.at refl)
move_counts system told timed before next (returns thread frame move) counted condition =
    ap (count condition) move.becomes ∙ counted condition ∙ sym (ap (number condition) move.becomes ∙ goes_same before.threads thread _ _ condition move.at refl)

-- ---- executions

start_counts : (clients : List Client) (condition : ℕ) → waiting_on (map (λ client. new_thread) clients) condition ≡ 0
start_counts [] condition = refl
start_counts (first ∷ more) condition =
    let rest = start_counts more condition in
    omega (arith, rest)

pub counted_late : (system : System) (told : ℕ → List Op) (timed : ℕ → ℕ → Bool) (last : Moment) → Executes (program_with system told timed) (start (program_with system told timed)) last → SleepersAreCounted last
counted_late system told timed last none_yet = λ condition. sym (start_counts system.clients condition)
counted_late system told timed last (one_more middle end so_far move) = move_counts system told timed middle end move (counted_late system told timed middle so_far)

-- ---- nobody is counted

pub asleep_counts : (threads : List Thread) (thread : ℕ) (frame : Frame) (block condition : ℕ) (rest : List Op) → IsThread threads thread frame (Asleep block condition rest) → 1 ≤ waiting_on threads condition
asleep_counts [] thread frame block condition rest at = absurd (none-some (record { frame = frame; position = Asleep block condition rest }) at)
asleep_counts (first ∷ more) zero frame block condition rest at =
    let same : waits_on condition first.position ≡ one_if (condition == condition) =
    ap (λ (one : Thread). waits_on condition one.position) (same_Some first (record { frame = frame; position = Asleep block condition rest }) at) in
    let one : one_if (condition == condition) ≡ 1 = ap one_if (eq-eqb condition condition refl) in
    omega (arith, same, one)
asleep_counts (first ∷ more) (suc thread) frame block condition rest at =
    let later = asleep_counts more thread frame block condition rest at in
    omega (arith, later)

pub none_counted : (now : Moment) → SleepersAreCounted now → UncountedSleepNot now
none_counted now counted condition none thread frame block rest at =
    let some = asleep_counts now.threads thread frame block condition rest at in
    let kept = counted condition in
    absurd (omega (arith, some, kept, none))

-- ---- where nobody sleeps a note does nothing

unwoken_by : (condition other block : ℕ) (rest : List Op) (test : Bool) → other == condition ≡ test → (Asleep block other rest ≡ Asleep block condition rest → ⊥)
    → cond test (Notified block condition rest) (Asleep block other rest) ≡ Asleep block other rest
unwoken_by condition other block rest true is none = absurd (none (ap (λ (one : ℕ). Asleep block one rest) (eqb-true other condition is)))
unwoken_by condition other block rest false is none = refl

unwoken : (condition : ℕ) (position : Position) → ((block : ℕ) (rest : List Op) → position ≡ Asleep block condition rest → ⊥) → woken_position condition position ≡ position
unwoken condition Outside none = refl
unwoken condition (At rest) none = refl
unwoken condition (Asleep block other rest) none = unwoken_by condition other block rest (other == condition) refl (none block rest)
unwoken condition (Notified block other rest) none = refl

none_woken : (threads : List Thread) (condition : ℕ) → NoneSleeps threads condition → map (woken_thread condition) threads ≡ threads
none_woken [] condition none = refl
none_woken (first ∷ more) condition none =
    let same = unwoken condition first.position (λ block rest is. none zero first.frame block rest (ap Some (λ i. record { frame = first.frame; position = is i }))) in
    let rest = none_woken more condition (λ thread. none (suc thread)) in
    λ i. record { frame = first.frame; position = same i } ∷ rest i

idle : (program : Program) (now : Moment) (note : Note) (woken : List Thread) → NoneSleeps now.threads note.condition → AreNotified program now note woken → woken ≡ now.threads
idle program now note woken none (inl first) = absurd (none first.target first.target_frame first.block first.rest first.sleeps)
idle program now note woken none (inr (inl each)) = each.becomes ∙ none_woken now.threads note.condition none
idle program now note woken none (inr (inr nobody)) = nobody.becomes

pub left_out : (program : Program) (now : Moment) → SleepersAreCounted now → LeftOutIsMade program now
left_out program now counted note woken none notified = idle program now note woken (none_counted now counted note.condition none) notified
