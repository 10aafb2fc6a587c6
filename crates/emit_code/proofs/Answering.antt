-- What a call answers is the reply of the last that its thread did.
use Rattle.std.proofs.Common.{◌≡◌, ◌≢◌, ℕ, zero, suc, ◌+◌, Bool, false, List, [], ◌∷◌, ◌++◌, Some, None, refl, sym, ap, subst, ◌∙◌, arith, inl, inr}
use Rattle.std.specs.Prelude.{All, slice_get}
use Rattle.std.proofs.lemmas.List.{append_assoc}
use Rattle.std.proofs.lemmas.List.Elements.{All-nil, All-cons, All-head, All-tail}
use Rattle.std.proofs.lemmas.Option.{none-some, same_Some}
use Rattle.lang_base.specs.declared.value.Value.{Value}
use Rattle.lang_monitor.specs.MonitorParts.{locals_in}
use Rattle.machine_implicit.specs.declared.commit.Commit.{Commit}
use Rattle.machine_implicit.specs.declared.commit.Reply.{Reply}
use Rattle.machine_implicit.specs.declared.commit.Reply.TheVariants as replies
use Rattle.machine_implicit.specs.declared.script.Call.{Call}
use Rattle.machine_implicit.specs.Scripted.{calls_of}
use Rattle.machine_implicit.specs.Places.{gives_up}
use Rattle.machine_events.specs.declared.plan.Note.{Note}
use Rattle.machine_events.specs.Configurations.{System}
use Rattle.machine_events.specs.Pending.{IsSystem}
use Rattle.emit_code.specs.Code.{Op}
use Rattle.emit_code.specs.Code.Op.{Lock, WaitUntil, Notify, Unlock, Release}
use Rattle.emit_code.specs.Executions.{Position, Frame, Thread, Moment, IsThread, goes, program_with, commit_of, continues, recovers, AreNotified, called_for, start, IsMove, Executes}
use Rattle.emit_code.specs.Executions.Position.{Outside, At, Asleep, Notified}
use Rattle.emit_code.specs.Executions.IsMove.{calls, takes, passes, falls_asleep, wakes, retakes, refuses, abandons, runs_body, panics, notifies, unlocks, releases, returns}
use Rattle.emit_code.specs.Executions.Executes.{none_yet, one_more}
use Rattle.emit_code.specs.Orders.{IsTold}
use Rattle.emit_code.specs.Laws.{Leads, IsDoneBy, Answers, AnswersAreReplies}
use Rattle.emit_code.proofs.Lists.{came}
use Rattle.emit_code.proofs.Views.{next_block, number_at, thread_before}
use Rattle.emit_code.proofs.Parts.{first_of, count_of, refuses_in, IsAt, call_code, later_code, told_code, number_is, some_block, next_locked, follows_locked, called_next, again_next}
use Rattle.emit_code.proofs.Placed.{IsSoundly, code_is, passed_at, start_position}
use Rattle.emit_code.proofs.Running.{continues_so, BodyAt, body_at, sound_late}

-- ---- what is kept of a thread with no body to run any more

abbrev IsAnswered : System → (ℕ → List Op) → (ℕ → ℕ → Bool) → List Commit → ℕ → Frame → Position → Type 0
IsAnswered system told timed ran thread frame Outside = Unit {0}
IsAnswered system told timed ran thread frame (At rest) =
    next_block rest ≡ None → (call : Call) → slice_get (calls_of system.clients thread) frame.past ≡ Some call → Answers (program_with system told timed) ran thread frame call
IsAnswered system told timed ran thread frame (Asleep block condition rest) = Unit {0}
IsAnswered system told timed ran thread frame (Notified block condition rest) = Unit {0}

abbrev AreAnswered : System → (ℕ → List Op) → (ℕ → ℕ → Bool) → List Commit → List Thread → Type 0
AreAnswered system told timed ran threads =
    (thread : ℕ) (frame : Frame) (position : Position) → IsThread threads thread frame position → IsAnswered system told timed ran thread frame position

-- ---- one more commit

all_more : (P : Commit → Type 0) (some : List Commit) (one : Commit) → All P some → P one → All P (some ++ one ∷ [])
all_more P [] one all is = All-cons P one [] is (All-nil P)
all_more P (first ∷ some) one all is = All-cons P first (some ++ one ∷ []) (All-head P first some all) (all_more P some one (All-tail P first some all) is)

-- of another thread
still_answers : (system : System) (told : ℕ → List Op) (timed : ℕ → ℕ → Bool) (ran : List Commit) (commit : Commit) (thread : ℕ) (frame : Frame) (call : Call) → commit.client ≢ thread → Answers (program_with system told timed) ran thread frame call
    → Answers (program_with system told timed) (ran ++ commit ∷ []) thread frame call
still_answers system told timed ran commit thread frame call differs answers = record {
  commit = answers.commit;
  last_is = record {
    earlier = answers.last_is.earlier;
    later = answers.last_is.later ++ commit ∷ [];
    is = ap (λ (some : List Commit). some ++ commit ∷ []) answers.last_is.is ∙ append_assoc answers.last_is.earlier (answers.commit ∷ answers.last_is.later) (commit ∷ []);
    own = answers.last_is.own;
    none_later = all_more (λ other. other.client ≢ thread) answers.last_is.later commit answers.last_is.none_later differs;
  };
  of = answers.of;
  answer_is = answers.answer_is;
  done = answers.done;
}

still_answered : (system : System) (told : ℕ → List Op) (timed : ℕ → ℕ → Bool) (ran : List Commit) (commit : Commit) (thread : ℕ) (frame : Frame) (position : Position) → commit.client ≢ thread → IsAnswered system told timed ran thread frame position
    → IsAnswered system told timed (ran ++ commit ∷ []) thread frame position
still_answered system told timed ran commit thread frame Outside differs is = tt
still_answered system told timed ran commit thread frame (At rest) differs is = λ none call call_is. still_answers system told timed ran commit thread frame call differs (is none call call_is)
still_answered system told timed ran commit thread frame (Asleep block condition rest) differs is = tt
still_answered system told timed ran commit thread frame (Notified block condition rest) differs is = tt

-- its own
own_answers : (system : System) (told : ℕ → List Op) (timed : ℕ → ℕ → Bool) (ran : List Commit) (thread : ℕ) (frame new_frame : Frame) (number : ℕ) (call : Call) → frame.past ≡ new_frame.past
    → IsDoneBy system.monitor call (commit_of (program_with system told timed) thread frame number new_frame.answer)
    → Answers (program_with system told timed) (ran ++ commit_of (program_with system told timed) thread frame number new_frame.answer ∷ []) thread new_frame call
own_answers system told timed ran thread frame new_frame number call past done = record {
  commit = commit_of (program_with system told timed) thread frame number new_frame.answer;
  last_is = record { earlier = ran; later = []; is = refl; own = refl; none_later = All-nil (λ other. other.client ≢ thread) };
  of = ap (λ (one : ℕ). one + 1) past;
  answer_is = refl;
  done = done;
}

-- ---- one thread goes

goes_answered : (system : System) (told : ℕ → List Op) (timed : ℕ → ℕ → Bool) (ran : List Commit) (threads : List Thread) (thread : ℕ) (frame : Frame) (position : Position) → AreAnswered system told timed ran threads → IsAnswered system told timed ran thread frame position
    → AreAnswered system told timed ran (goes threads thread frame position)
goes_answered system told timed ran threads thread frame position answered new other others_frame others_position at =
    elim (came threads thread (record { frame = frame; position = position }) other (record { frame = others_frame; position = others_position }) at) [
      | inl here ↦
          subst (λ (one : ℕ). IsAnswered system told timed ran one others_frame others_position) (sym here.0)
          (subst (λ (one : Thread). IsAnswered system told timed ran thread one.frame one.position) (sym here.1) new)
      | inr there ↦ answered other others_frame others_position there.1
    ]

commits_answered : (system : System) (told : ℕ → List Op) (timed : ℕ → ℕ → Bool) (ran : List Commit) (threads : List Thread) (thread : ℕ) (was : Frame) (number : ℕ) (frame : Frame) (position : Position) → AreAnswered system told timed ran threads
    → IsAnswered system told timed (ran ++ commit_of (program_with system told timed) thread was number frame.answer ∷ []) thread frame position
    → AreAnswered system told timed (ran ++ commit_of (program_with system told timed) thread was number frame.answer ∷ []) (goes threads thread frame position)
commits_answered system told timed ran threads thread was number frame position answered new other others_frame others_position at =
    let commit = commit_of (program_with system told timed) thread was number frame.answer in
    elim (came threads thread (record { frame = frame; position = position }) other (record { frame = others_frame; position = others_position }) at) [
      | inl here ↦
          subst (λ (one : ℕ). IsAnswered system told timed (ran ++ commit ∷ []) one others_frame others_position) (sym here.0)
          (subst (λ (one : Thread). IsAnswered system told timed (ran ++ commit ∷ []) thread one.frame one.position) (sym here.1) new)
      | inr there ↦ still_answered system told timed ran commit other others_frame others_position (λ same. there.0 (sym same)) (answered other others_frame others_position there.1)
    ]

woken_answered : (system : System) (told : ℕ → List Op) (timed : ℕ → ℕ → Bool) (now : Moment) (note : Note) (woken : List Thread) → AreAnswered system told timed now.ran now.threads → AreNotified (program_with system told timed) now note woken
    → AreAnswered system told timed now.ran woken
woken_answered system told timed now note woken answered (inl first) =
    subst (AreAnswered system told timed now.ran) (sym first.becomes) (goes_answered system told timed now.ran now.threads first.target first.target_frame (Notified first.block note.condition first.rest) answered tt)
woken_answered system told timed now note woken answered (inr (inl each)) =
    subst (AreAnswered system told timed now.ran) (sym each.becomes) (λ thread frame position at. elim (thread_before note.condition now.threads thread frame position at) [
      | inl same ↦ answered thread frame position same
      | inr slept ↦ subst (IsAnswered system told timed now.ran thread frame) (sym slept.3) tt
    ])
woken_answered system told timed now note woken answered (inr (inr nobody)) = subst (AreAnswered system told timed now.ran) (sym nobody.becomes) answered

-- ---- a body

-- after a whole body with no block left, it was the last
last_done : (system : System) (told : ℕ → List Op) (timed : ℕ → ℕ → Bool) → IsTold system told → (thread : ℕ) (frame : Frame) (call : Call) (block left : ℕ) (reply : Reply) → IsAt system thread frame.past call block (suc left)
    → next_block (told_code system told block left) ≡ None → (commit_of (program_with system told timed) thread frame block reply).block ≡ count_of system call
last_done system told timed order thread frame call block left reply at none =
    let follows = follows_locked system told (block + 1) left (told block) (order.shape block) in
    by left at (sym follows.next ∙ none)
  where
    by : (left : ℕ) → IsAt system thread frame.past call block (suc left) → next_block (later_code system told (block + 1) left) ≡ None → number_at system thread frame.past block + 1 ≡ count_of system call
    by zero at none =
        let own = number_is system thread frame.past call block (suc zero) at in
        omega (arith, own, at.begins, at.ends)
    by (suc left) at none = absurd (none-some (block + 1) (sym none ∙ next_locked system told false (block + 1) left))

body_done : (system : System) (told : ℕ → List Op) (timed : ℕ → ℕ → Bool) → IsTold system told → (now : Moment) (thread : ℕ) (frame : Frame) (number : ℕ) (otherwise : List Note) (rest : List Op) (reply : Reply) (state locals : List Value)
    → BodyAt system told timed now thread frame number otherwise rest reply state locals → next_block (continues reply otherwise rest) ≡ None
    → (call : Call) → slice_get (calls_of system.clients thread) frame.past ≡ Some call → IsDoneBy system.monitor call (commit_of (program_with system told timed) thread frame number reply)
body_done system told timed order now thread frame number otherwise rest reply state locals body none call call_is = elim body.steps [
  | inr over ↦ inl (ap gives_up over.1)
  | inl all ↦
      let same : body.call ≡ call = same_Some body.call call (sym body.at.call_is ∙ call_is) in
      let ops : continues reply otherwise rest ≡ told_code system told number body.left = ap (λ (one : Reply). continues one otherwise rest) all.1 ∙ continues_so _ otherwise rest ∙ body.rest_is in
      inr (last_done system told timed order thread frame body.call number body.left reply body.at (sym (ap next_block ops) ∙ none) ∙ ap (count_of system) same)
]

-- ---- each move

move_answered : (system : System) (told : ℕ → List Op) (timed : ℕ → ℕ → Bool) → IsSystem system → IsTold system told → (before next : Moment) → IsSoundly system told timed before → AreAnswered system told timed before.ran before.threads
    → IsMove (program_with system told timed) before next → AreAnswered system told timed next.ran next.threads
move_answered system told timed is order before next sound answered (calls thread frame move) =
    let some = some_block system thread frame.past move.call is move.call_is in
    let first = first_of system move.call in
    let next : next_block (call_code system told timed thread frame.past move.call) ≡ Some first =
    ap next_block (code_is system told timed thread frame.past move.call some.0 some.1) ∙ next_locked system told (refuses_in system timed thread frame.past move.call first) first some.0 in
    subst (λ (one : Moment). AreAnswered system told timed one.ran one.threads) (sym move.becomes)
    (goes_answered system told timed before.ran before.threads thread (record { past = frame.past; locals = locals_in (slice_get system.monitor.methods move.call.method); answer = replies.Unit })
    (At (call_code system told timed thread frame.past move.call)) answered (λ none call call_is. absurd (none-some first (sym none ∙ next))))
move_answered system told timed is order before next sound answered (takes thread frame move) =
    subst (λ (one : Moment). AreAnswered system told timed one.ran one.threads) (sym move.becomes)
    (goes_answered system told timed before.ran before.threads thread frame (At move.rest) answered (answered thread frame (At (Lock ∷ move.rest)) move.at))
move_answered system told timed is order before next sound answered (passes thread frame move) =
    let passed = passed_at system told timed before sound.placed thread frame move.op move.block move.rest move.at move.tests in
    subst (λ (one : Moment). AreAnswered system told timed one.ran one.threads) (sym move.becomes)
    (goes_answered system told timed before.ran before.threads thread frame (At move.rest) answered (λ none call call_is. absurd (none-some move.block (sym none ∙ ap next_block passed.rest_is))))
move_answered system told timed is order before next sound answered (falls_asleep thread frame move) =
    subst (λ (one : Moment). AreAnswered system told timed one.ran one.threads) (sym move.becomes)
    (goes_answered system told timed before.ran before.threads thread frame (Asleep move.block move.condition move.rest) answered tt)
move_answered system told timed is order before next sound answered (wakes thread frame move) =
    subst (λ (one : Moment). AreAnswered system told timed one.ran one.threads) (sym move.becomes)
    (goes_answered system told timed before.ran before.threads thread frame (Notified move.block move.condition move.rest) answered tt)
move_answered system told timed is order before next sound answered (retakes thread frame move) =
    subst (λ (one : Moment). AreAnswered system told timed one.ran one.threads) (sym move.becomes)
    (goes_answered system told timed before.ran before.threads thread frame (At (WaitUntil move.block move.condition ∷ move.rest)) answered (λ none call call_is. absurd (none-some move.block (sym none))))
move_answered system told timed is order before next sound answered (refuses thread frame move) =
    let refused : Frame = record { past = frame.past; locals = frame.locals; answer = replies.Refused } in
    subst (λ (one : Moment). AreAnswered system told timed one.ran one.threads) (sym move.becomes)
    (commits_answered system told timed before.ran before.threads thread frame move.block refused (At (Unlock ∷ [])) answered
    (λ none call call_is. own_answers system told timed before.ran thread frame refused move.block call refl (inl refl)))
move_answered system told timed is order before next sound answered (abandons thread frame move) =
    let refused : Frame = record { past = frame.past; locals = frame.locals; answer = replies.Refused } in
    subst (λ (one : Moment). AreAnswered system told timed one.ran one.threads) (sym move.becomes)
    (commits_answered system told timed before.ran before.threads thread frame move.block refused (At (Unlock ∷ [])) answered
    (λ none call call_is. own_answers system told timed before.ran thread frame refused move.block call refl (inl refl)))
move_answered system told timed is order before next sound answered (runs_body thread frame move) =
    let body = body_at system told timed is thread frame before next sound move in
    let ran_frame : Frame = record { past = frame.past; locals = move.locals; answer = move.reply } in
    subst (λ (one : Moment). AreAnswered system told timed one.ran one.threads) (sym move.becomes)
    (commits_answered system told timed before.ran before.threads thread frame move.block ran_frame (At (continues move.reply move.otherwise move.rest)) answered
    (λ none call call_is. own_answers system told timed before.ran thread frame ran_frame move.block call refl
    (body_done system told timed order before thread frame move.block move.otherwise move.rest move.reply move.state move.locals body none call call_is)))
move_answered system told timed is order before next sound answered (panics thread frame move) =
    let ops = recovers (program_with system told timed) thread frame move.block move.otherwise move.rest in
    subst (λ (one : Moment). AreAnswered system told timed one.ran one.threads) (sym move.becomes)
    (goes_answered system told timed before.ran before.threads thread frame (At ops) answered
    (λ none call call_is. absurd (none-some move.block (sym none ∙ again_next (program_with system told timed) thread frame move.block move.otherwise move.rest))))
move_answered system told timed is order before next sound answered (notifies thread frame move) =
    let woken = woken_answered system told timed before move.note move.woken answered move.notified in
    subst (λ (one : Moment). AreAnswered system told timed one.ran one.threads) (sym move.becomes)
    (goes_answered system told timed before.ran move.woken thread frame (At move.rest) woken (answered thread frame (At (Notify move.note ∷ move.rest)) move.at))
move_answered system told timed is order before next sound answered (unlocks thread frame move) =
    subst (λ (one : Moment). AreAnswered system told timed one.ran one.threads) (sym move.becomes)
    (goes_answered system told timed before.ran before.threads thread frame (At move.rest) answered (answered thread frame (At (Unlock ∷ move.rest)) move.at))
move_answered system told timed is order before next sound answered (releases thread frame move) =
    let ops = called_for (program_with system told timed) before move.notes move.rest in
    subst (λ (one : Moment). AreAnswered system told timed one.ran one.threads) (sym move.becomes)
    (goes_answered system told timed before.ran before.threads thread frame (At ops) answered
    (λ none. answered thread frame (At (Release move.notes ∷ move.rest)) move.at (sym (called_next (program_with system told timed) before move.notes move.rest) ∙ none)))
move_answered system told timed is order before next sound answered (returns thread frame move) =
    subst (λ (one : Moment). AreAnswered system told timed one.ran one.threads) (sym move.becomes)
    (goes_answered system told timed before.ran before.threads thread (record { past = frame.past + 1; locals = frame.locals; answer = frame.answer }) Outside answered tt)

answered_late : (system : System) (told : ℕ → List Op) (timed : ℕ → ℕ → Bool) → IsSystem system → IsTold system told → (last : Moment) → Executes (program_with system told timed) (start (program_with system told timed)) last
    → AreAnswered system told timed last.ran last.threads
answered_late system told timed is order last none_yet = λ thread frame position at. subst (IsAnswered system told timed [] thread frame) (sym (start_position system.clients thread frame position at).1) tt
answered_late system told timed is order last (one_more middle end so_far move) =
    move_answered system told timed is order middle end (sound_late system told timed is order middle so_far) (answered_late system told timed is order middle so_far) move

pub late_answers : (system : System) (told : ℕ → List Op) (timed : ℕ → ℕ → Bool) (last : Moment) → IsSystem system → IsTold system told → Leads (program_with system told timed) last → AnswersAreReplies (program_with system told timed) last
late_answers system told timed last is order run thread frame call at call_is = answered_late system told timed is order last run thread frame (At []) at refl call call_is
