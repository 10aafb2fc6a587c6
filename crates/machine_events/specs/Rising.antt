-- The rule of a list of notes.
use Rattle.std.specs.Prelude.{List, map}
use Rattle.std.specs.List.Sorted.{IsStrictlyIncreasing}
use Rattle.machine_events.specs.declared.plan.Note.{Note}

-- the conditions of the notes rise, so each stands at most once
abbrev pub AreRising : List Note → Type 0
AreRising notes = IsStrictlyIncreasing (map (λ note. note.condition) notes)
