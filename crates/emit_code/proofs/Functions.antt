-- Functions run with the last bodies of the code of calls: those that return are those of the blocks that completed their calls.
use Rattle.std.proofs.Common.{◌≡◌, ◌==◌, ℕ, zero, suc, ◌+◌, ◌-◌, Bool, true, false, cond, not, ◌&&◌, ◌||◌, List, [], ◌∷◌, ◌++◌, map, Option, Some, None, refl, sym, ap, subst, ◌∙◌, arith, inl, inr}
use Rattle.std.specs.Prelude.{filter, slice_get}
use Rattle.std.specs.Option.{option_map_or}
use Rattle.std.proofs.lemmas.Bool.{true≢false, and_parts, eq-eqb, ne_eqb}
use Rattle.lang_base.specs.declared.value.Value.{Value}
use Rattle.lang_base.specs.declared.value.Value.TheVariants as values
use Rattle.lang_monitor.specs.declared.monitor.Block.{Block}
use Rattle.lang_monitor.specs.Bodies.{Inputs, Memory}
use Rattle.machine_implicit.specs.declared.commit.Commit.{Commit}
use Rattle.machine_implicit.specs.declared.commit.Reply.{Reply}
use Rattle.machine_implicit.specs.declared.commit.Reply.TheVariants as replies
use Rattle.machine_implicit.specs.declared.script.Call.{Call}
use Rattle.machine_implicit.specs.Places.{gives_up}
use Rattle.machine_implicit.specs.Scripted.{calls_of}
use Rattle.machine_implicit.specs.Steps.{given, held, reply_of, BlockSteps}
use Rattle.machine_events.specs.Configurations.{System, block_condition}
use Rattle.machine_events.specs.Pending.{IsSystem}
use Rattle.emit_code.specs.Code.{Op, is_guarded, is_last_run}
use Rattle.emit_code.specs.Code.Op.{Lock, WaitUntil, ElseRefuse, Run, Notify, Unlock, Release}
use Rattle.emit_code.specs.Executions.{Frame, Moment, program_with, number_in, commit_of, start, RunsBody, IsMove}
use Rattle.emit_code.specs.Executions.IsMove.{calls, takes, passes, falls_asleep, wakes, retakes, refuses, abandons, runs_body, panics, notifies, unlocks, releases, returns}
use Rattle.emit_code.specs.Executions.Executes.{none_yet, one_more}
use Rattle.emit_code.specs.Functions.{Turn, has_overflowed, returned_in, completes, turns_in, turns_of, returned, left_by, has_panic, FunctionsRanOnce}
use Rattle.emit_code.specs.Functions.Turn.{Returned, Panicked}
use Rattle.emit_code.specs.Orders.{is_free, is_locked, IsTold}
use Rattle.emit_code.specs.Laws.{LateDataFollowTheRun}
use Rattle.emit_code.proofs.Parts.{first_of, count_of, IsAt, later_code, passed_code, told_code, number_is, never}
use Rattle.emit_code.proofs.Placed.{IsSoundly}
use Rattle.emit_code.proofs.Running.{body_at, sound_late}

-- ---- the last body of a call's code

-- what comes after a body runs none
last_free : (ops later : List Op) → is_free ops ≡ true → is_last_run (ops ++ later) ≡ is_last_run later
last_free [] later is = refl
last_free (Lock ∷ rest) later is = never is
last_free (WaitUntil block condition ∷ rest) later is = never is
last_free (ElseRefuse block ∷ rest) later is = never is
last_free (Run block otherwise ∷ rest) later is = never is
last_free (Notify note ∷ rest) later is = last_free rest later (and_parts (not note.tested) (is_free rest) is).1
last_free (Unlock ∷ rest) later is = never is
last_free (Release notes ∷ rest) later is = never is

last_told : (ops later : List Op) → is_locked ops ≡ true → is_last_run (ops ++ later) ≡ is_last_run later
last_told [] later is = never is
last_told (Lock ∷ rest) later is = never is
last_told (WaitUntil block condition ∷ rest) later is = never is
last_told (ElseRefuse block ∷ rest) later is = never is
last_told (Run block otherwise ∷ rest) later is = never is
last_told (Notify note ∷ rest) later is = last_told rest later is
last_told (Unlock ∷ rest) later is = last_free rest later is
last_told (Release notes ∷ rest) later is = last_free rest later is

-- a block does
runs_passed : (system : System) (told : ℕ → List Op) (block left : ℕ) (tries tested : Bool)
    → is_last_run (cond tested (cond tries (ElseRefuse block ∷ passed_code system told block left) (WaitUntil block (block_condition system.monitor block) ∷ passed_code system told block left))
    (passed_code system told block left)) ≡ false
runs_passed system told block left true true = refl
runs_passed system told block left false true = refl
runs_passed system told block left true false = refl
runs_passed system told block left false false = refl

runs_later : (system : System) (told : ℕ → List Op) (block left : ℕ) → is_last_run (later_code system told block (suc left)) ≡ false
runs_later system told block left = runs_passed system told block left (false || block_condition system.monitor block == 0) (is_guarded system.monitor block)

-- so the last body of the code is that of the last block of the method
last_is : (system : System) (told : ℕ → List Op) → IsTold system told → (thread past : ℕ) (call : Call) (block left : ℕ) → IsAt system thread past call block (suc left)
    → ((block - first_of system call) + 1 == count_of system call) ≡ is_last_run (told_code system told block left)
last_is system told order thread past call block zero at =
    eq-eqb ((block - first_of system call) + 1) (count_of system call) (omega (arith, at.begins, at.ends))
    ∙ sym (last_told (told block) (later_code system told (block + 1) zero) (order.shape block))
last_is system told order thread past call block (suc left) at =
    ne_eqb ((block - first_of system call) + 1) (count_of system call) (λ same. omega (arith, same, at.begins, at.ends))
    ∙ sym (last_told (told block) (later_code system told (block + 1) (suc left)) (order.shape block) ∙ runs_later system told (block + 1) left)

-- ---- a body gives up where it overflows

result_whole : (result : Option Value) → gives_up (reply_of result) ≡ has_overflowed (reply_of result)
result_whole None = refl
result_whole (Some (values.Int number)) = refl
result_whole (Some (values.Bool truth)) = refl

reply_whole : (block : Block) (inputs : Inputs) (state : List Value) (reply : Reply) (next : Memory) → BlockSteps block inputs state reply next → gives_up reply ≡ has_overflowed reply
reply_whole block inputs state reply next (inl whole) = subst (λ (one : Reply). gives_up one ≡ has_overflowed one) (sym whole.1) (result_whole _)
reply_whole block inputs state reply next (inr over) = subst (λ (one : Reply). gives_up one ≡ has_overflowed one) (sym over.1) refl

-- ---- so a block completes its call where the call's function runs

completes_at : (system : System) (told : ℕ → List Op) (timed : ℕ → ℕ → Bool) → IsTold system told → (thread : ℕ) (frame : Frame) (call : Call) (block left : ℕ) → IsAt system thread frame.past call block (suc left)
    → (rest : List Op) → rest ≡ told_code system told block left → (reply : Reply) → gives_up reply ≡ has_overflowed reply
    → completes (program_with system told timed) (commit_of (program_with system told timed) thread frame block reply) ≡ not (has_overflowed reply) && is_last_run rest
completes_at system told timed order thread frame call block left at rest rest_is reply whole =
    let number = number_in (program_with system told timed) thread frame block in
    let past_is : (frame.past + 1) - 1 ≡ frame.past = omega arith in
    let of_call : Call → Bool = λ call. number + 1 == count_of system call in
    let number_there : number ≡ block - first_of system call = number_is system thread frame.past call block (suc left) at in
    let last : option_map_or of_call (slice_get (calls_of system.clients thread) ((frame.past + 1) - 1)) false ≡ is_last_run rest =
    ap (λ (past : ℕ). option_map_or of_call (slice_get (calls_of system.clients thread) past) false) past_is
    ∙ ap (λ (one : Option Call). option_map_or of_call one false) at.call_is
    ∙ ap (λ (one : ℕ). one + 1 == count_of system call) number_there
    ∙ last_is system told order thread frame.past call block left at
    ∙ ap is_last_run (sym rest_is) in
    λ i. not (whole i) && last i

body_completes : (system : System) (told : ℕ → List Op) (timed : ℕ → ℕ → Bool) → IsSystem system → IsTold system told → (thread : ℕ) (frame : Frame) (before next : Moment) → IsSoundly system told timed before
    → (move : RunsBody (program_with system told timed) thread frame before next)
    → completes (program_with system told timed) (commit_of (program_with system told timed) thread frame move.block move.reply) ≡ not (has_overflowed move.reply) && is_last_run move.rest
body_completes system told timed is order thread frame before next sound move =
    let body = body_at system told timed is thread frame before next sound move in
    completes_at system told timed order thread frame body.call move.block body.left body.at move.rest body.rest_is move.reply
    (reply_whole body.here.block (given body.call.inputs frame.locals) before.state move.reply (held move.state move.locals) body.steps)

-- ---- what a move adds

returned_both : (turns more : List Turn) → returned (turns ++ more) ≡ returned turns ++ returned more
returned_both [] more = refl
returned_both (Returned commit ∷ turns) more = ap (λ (commits : List Commit). commit ∷ commits) (returned_both turns more)
returned_both (Panicked thread call ∷ turns) more = returned_both turns more

nothing_more : {X : Type 0} → (xs : List X) → xs ++ [] ≡ xs
nothing_more [] = refl
nothing_more (x ∷ xs) = ap (λ rest. x ∷ rest) (nothing_more xs)

filter_both : (test : Commit → Bool) (commits more : List Commit) → filter test (commits ++ more) ≡ filter test commits ++ filter test more
filter_both test [] more = refl
filter_both test (commit ∷ commits) more = kept (test commit) (filter_both test commits more)
  where
    kept : (is : Bool) → filter test (commits ++ more) ≡ filter test commits ++ filter test more
        → cond is (commit ∷ filter test (commits ++ more)) (filter test (commits ++ more)) ≡ cond is (commit ∷ filter test commits) (filter test commits) ++ filter test more
    kept true rest = ap (λ (later : List Commit). commit ∷ later) rest
    kept false rest = rest

-- a body adds its function where its block completed the call
one_ran : (test : Commit → Bool) (rest : List Op) (commit : Commit) → test commit ≡ not (has_overflowed commit.reply) && is_last_run rest → returned (returned_in rest commit) ≡ filter test (commit ∷ [])
one_ran test rest commit same = by (not (has_overflowed commit.reply) && is_last_run rest) ∙ ap (λ (is : Bool). cond is (commit ∷ []) []) (sym same)
  where
    by : (is : Bool) → returned (cond is (Returned commit ∷ []) []) ≡ cond is (commit ∷ []) []
    by true = refl
    by false = refl

abbrev completed : System → (ℕ → List Op) → (ℕ → ℕ → Bool) → Moment → List Commit
completed system told timed now = filter (completes (program_with system told timed)) now.ran

abbrev Adds : (system : System) (told : ℕ → List Op) (timed : ℕ → ℕ → Bool) (before next : Moment) → IsMove (program_with system told timed) before next → Type 0
Adds system told timed before next move =
    completed system told timed next ≡ completed system told timed before ++ returned (turns_in (program_with system told timed) before next move)

-- nothing ran
nothing_ran : (system : System) (told : ℕ → List Op) (timed : ℕ → ℕ → Bool) (before next : Moment) → next.ran ≡ before.ran → completed system told timed next ≡ completed system told timed before ++ []
nothing_ran system told timed before next same = ap (filter (completes (program_with system told timed))) same ∙ sym (nothing_more (completed system told timed before))

-- a call was refused
refused_ran : (system : System) (told : ℕ → List Op) (timed : ℕ → ℕ → Bool) (thread : ℕ) (frame : Frame) (block : ℕ) (before next : Moment)
    → next.ran ≡ before.ran ++ commit_of (program_with system told timed) thread frame block replies.Refused ∷ [] → completed system told timed next ≡ completed system told timed before ++ []
refused_ran system told timed thread frame block before next ran =
    let test = completes (program_with system told timed) in
    ap (filter test) ran ∙ filter_both test before.ran (commit_of (program_with system told timed) thread frame block replies.Refused ∷ [])

move_adds : (system : System) (told : ℕ → List Op) (timed : ℕ → ℕ → Bool) → IsSystem system → IsTold system told → (before next : Moment) → IsSoundly system told timed before
    → (move : IsMove (program_with system told timed) before next) → Adds system told timed before next move
move_adds system told timed is order before next sound (calls thread frame move) = nothing_ran system told timed before next (ap (λ (now : Moment). now.ran) move.becomes)
move_adds system told timed is order before next sound (takes thread frame move) = nothing_ran system told timed before next (ap (λ (now : Moment). now.ran) move.becomes)
move_adds system told timed is order before next sound (passes thread frame move) = nothing_ran system told timed before next (ap (λ (now : Moment). now.ran) move.becomes)
move_adds system told timed is order before next sound (falls_asleep thread frame move) = nothing_ran system told timed before next (ap (λ (now : Moment). now.ran) move.becomes)
move_adds system told timed is order before next sound (wakes thread frame move) = nothing_ran system told timed before next (ap (λ (now : Moment). now.ran) move.becomes)
move_adds system told timed is order before next sound (retakes thread frame move) = nothing_ran system told timed before next (ap (λ (now : Moment). now.ran) move.becomes)
move_adds system told timed is order before next sound (refuses thread frame move) = refused_ran system told timed thread frame move.block before next (ap (λ (now : Moment). now.ran) move.becomes)
move_adds system told timed is order before next sound (abandons thread frame move) = refused_ran system told timed thread frame move.block before next (ap (λ (now : Moment). now.ran) move.becomes)
move_adds system told timed is order before next sound (runs_body thread frame move) =
    let test = completes (program_with system told timed) in
    let commit = commit_of (program_with system told timed) thread frame move.block move.reply in
    ap (λ (now : Moment). filter test now.ran) move.becomes
    ∙ filter_both test before.ran (commit ∷ [])
    ∙ ap (λ (more : List Commit). filter test before.ran ++ more) (sym (one_ran test move.rest commit (body_completes system told timed is order thread frame before next sound move)))
move_adds system told timed is order before next sound (panics thread frame move) = nothing_ran system told timed before next (ap (λ (now : Moment). now.ran) move.becomes)
move_adds system told timed is order before next sound (notifies thread frame move) = nothing_ran system told timed before next (ap (λ (now : Moment). now.ran) move.becomes)
move_adds system told timed is order before next sound (unlocks thread frame move) = nothing_ran system told timed before next (ap (λ (now : Moment). now.ran) move.becomes)
move_adds system told timed is order before next sound (releases thread frame move) = nothing_ran system told timed before next (ap (λ (now : Moment). now.ran) move.becomes)
move_adds system told timed is order before next sound (returns thread frame move) = nothing_ran system told timed before next (ap (λ (now : Moment). now.ran) move.becomes)

pub ran_once : (system : System) (told : ℕ → List Op) (timed : ℕ → ℕ → Bool) (last : Moment) → IsSystem system → IsTold system told → FunctionsRanOnce (program_with system told timed) last
ran_once system told timed last is order none_yet = refl
ran_once system told timed last is order (one_more middle end so_far move) =
    let program = program_with system told timed in
    returned_both (turns_of program (start program) middle so_far) (turns_in program middle end move)
    ∙ ap (λ (commits : List Commit). commits ++ returned (turns_in program middle end move)) (ran_once system told timed middle is order so_far)
    ∙ sym (move_adds system told timed is order middle end (sound_late system told timed is order middle so_far) move)

-- ---- data

all_returned : (turns : List Turn) → has_panic turns ≡ false → turns ≡ map Returned (returned turns)
all_returned [] none = refl
all_returned (Returned commit ∷ turns) none = ap (λ (more : List Turn). Returned commit ∷ more) (all_returned turns none)
all_returned (Panicked thread call ∷ turns) none = absurd (true≢false none)

pub data_follow : {D : Type 0} → LateDataFollowTheRun D
data_follow system told timed last is order run does begun none =
    let program = program_with system told timed in
    ap (λ (turns : List Turn). left_by does 0 turns begun) (all_returned (turns_of program (start program) last run) none)
    ∙ ap (λ (commits : List Commit). left_by does 0 (map Returned commits) begun) (ran_once system told timed last is order run)
