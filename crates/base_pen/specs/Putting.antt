-- What is put on a sink by a pen.
use Rattle.std.specs.Prelude.{◌≡◌, ℕ, List, OnOk, OnErr}
use Rattle.base_io.specs.Outside.{SinkSeen}
use Rattle.base_io.specs.Writing.{Wrote}
use Rattle.base_pen.specs.declared.pen.Pen.{Pen}

-- A text was put on the sink of a pen, which is `seen` so: it was written, where no write had
-- failed before, and else nothing changed. The pen has the same sink.
pub record Adds {S : Type 0} (seen : S → SinkSeen) (old new : Pen S) (text : List ℕ) : Type 0
  where
    pub same : new.out.ghost_name ≡ old.out.ghost_name
    pub written : OnOk old.outcome (Wrote (seen old.out.now) (seen new.out.now) new.outcome text)
    pub after : OnErr old.outcome (new ≡ old)
