-- A drawn schedule, one turn longer.
use Rattle.std.proofs.Common.{◌≡◌, ℕ, ◌+◌, ◌-◌, ◌/◌, ◌%◌, ◌==◌, ◌&&◌, nat_lt, ◌<◌, true, false, List, length, refl, ap, ◌∙◌, arith}
use Rattle.std.proofs.lemmas.Bool.{and_parts, ltb-true}
use Rattle.rand_pcg.specs.Lcg.{Lcg}
use Rattle.rand_pcg.specs.Pcg.{pcg32}
use Rattle.machine_events.specs.declared.log.Entry.{Entry}
use Rattle.machine_events.specs.Logs.{IsClosed}
use Rattle.machine_explicit.specs.Sections.{FreeMachine, AddsEntry, WokenByNothing, HoldsAlways, spurious_in, spurious_entry, room_of}
use Rattle.machine_simulate.specs.declared.draws.Draws.{Draws}
use Rattle.machine_simulate.specs.Schedules.{Drawing, Acts, IsAt, IsTurn, IsDrawnFrom, ready, waiting, wakes_at}
use Rattle.machine_simulate.specs.Schedules.IsTurn.{woken, acted}
use Rattle.machine_simulate.specs.Schedules.IsDrawnFrom.{ended, turned}
use Rattle.machine_simulate.specs.inner.Turns.{DrawnSoFar, drawing}
use Rattle.machine_simulate.proofs.Rounding.{extends_itself, extends_more, spurious_more, section_spurious, room_falls}

-- ---- a turn

pub turn_wakes : (now next : FreeMachine) (draws : Draws) (x y client : ℕ) (drawn last : Lcg) → (x, drawn) ≡ pcg32 draws.generator → wakes_at x draws.left now ≡ true → (y, last) ≡ pcg32 drawn
    → IsAt (waiting now) y client → WokenByNothing client now next → IsTurn (drawing now draws) (drawing next (record { generator = last; left = draws.left - 1 }))
turn_wakes now next draws x y client drawn last first wakes second at wake =
    let both = and_parts (x % 4 == 0 && nat_lt 0 draws.left) (nat_lt 0 (length (waiting now))) wakes in
    let some = ltb-true 0 draws.left (and_parts (x % 4 == 0) (nat_lt 0 draws.left) both.0).1 in
    woken (drawing now draws) (drawing next (record { generator = last; left = draws.left - 1 })) x y client drawn first wakes second at wake (omega (arith, some))

pub turn_acts : (now next : FreeMachine) (draws : Draws) (x client : ℕ) (last : Lcg) → (x, last) ≡ pcg32 draws.generator → wakes_at x draws.left now ≡ false
    → IsAt (ready now) (x / 4) client → Acts client now next → IsTurn (drawing now draws) (drawing next (record { generator = last; left = draws.left }))
turn_acts now next draws x client last first wakes at acts = acted (drawing now draws) (drawing next (record { generator = last; left = draws.left })) x client first wakes at acts refl

-- ---- what it leaves

wake_spurious : (client : ℕ) (now next : FreeMachine) → WokenByNothing client now next → spurious_in next.log ≡ spurious_in now.log + 1
wake_spurious client now next wakes = ap (λ (log : List Entry). spurious_in log) wakes.appends.log ∙ spurious_more now.log (spurious_entry client wakes.place)

turn_appends : (now next : Drawing) → IsTurn now next → (entry : Entry) × AddsEntry now.machine entry next.machine
turn_appends now next (woken own end x y client drawn first wakes second at wake left) = (spurious_entry client wake.place, wake.appends)
turn_appends now next (acted own end x client first wakes at acts left) = (acts.0.entry, acts.1.appends)

turn_spurious : (now next : Drawing) → IsTurn now next → spurious_in next.machine.log + next.left ≡ spurious_in now.machine.log + now.left
turn_spurious now next (woken own end x y client drawn first wakes second at wake left) = omega (arith, left, wake_spurious client own.machine end.machine wake)
turn_spurious now next (acted own end x client first wakes at acts left) = omega (arith, left, section_spurious client own.machine end.machine acts)

pub turn_falls : (now next : Drawing) → IsTurn now next → HoldsAlways next.machine → room_of next.machine - length next.machine.log < room_of now.machine - length now.machine.log
turn_falls now next turn always = let more = turn_appends now next turn in room_falls now.machine next.machine more.0 more.1 always

-- ---- the schedule

pub drawn_begins : (machine : FreeMachine) (draws : Draws) → DrawnSoFar (drawing machine draws) machine draws
drawn_begins machine draws = record { follows = λ last rest. rest; extends = extends_itself machine; spurious = refl }

pub drawn_more : (before : Drawing) (now next : FreeMachine) (draws drawn : Draws) → DrawnSoFar before now draws → (IsClosed now.system now.now → ⊥) → IsTurn (drawing now draws) (drawing next drawn) → DrawnSoFar before next drawn
drawn_more before now next draws drawn so_far is_open turn =
    let more = turn_appends (drawing now draws) (drawing next drawn) turn in
    record {
      follows = λ last rest. so_far.follows last (turned (drawing now draws) (drawing next drawn) last is_open turn rest);
      extends = extends_more before.machine now next more.0 so_far.extends more.1;
      spurious = turn_spurious (drawing now draws) (drawing next drawn) turn ∙ so_far.spurious;
    }

pub drawn_ends : (before : Drawing) (now : FreeMachine) (draws : Draws) → DrawnSoFar before now draws → IsClosed now.system now.now → IsDrawnFrom before now
drawn_ends before now draws so_far closed = so_far.follows now (ended (drawing now draws) closed)
