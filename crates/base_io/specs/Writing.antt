-- What a writer of a text did to its sink.
use Rattle.std.specs.Prelude.{◌≡◌, ℕ, ◌≤◌, List, Result, OnOk, OnErr}
use Rattle.std.specs.Borrow.{Bor}
use Rattle.std.specs.Io.KnownBytes.{Appends}
use Rattle.std.specs.List.{flat_map}
use Rattle.base_io.specs.declared.sink.SinkFailed.{SinkFailed}
use Rattle.base_io.specs.Outside.{SinkSeen, AppendsFront, Rises}

-- A text was written to a sink that was seen `before` the call and is seen `now`. At `Ok` all of it
-- was appended, and no
-- fault rose. At an error a proper front of it was, and the count of faults rose.
pub record Wrote (before now : SinkSeen) (answer : Result (Unit {0}) SinkFailed) (text : List ℕ) :
    Type 0 where
  pub written : OnOk answer (Appends before.written now.written text)
  pub front : OnErr answer (AppendsFront before.written now.written text)
  pub steady : OnOk answer (now.faults ≡ before.faults)
  pub cause : OnErr answer (Rises before.faults now.faults)
  pub later : before.faults ≤ now.faults

-- pieces, one after the other
abbrev pub pieces_text : List (Bor (List ℕ)) → List ℕ
pieces_text pieces = flat_map (λ piece. piece.now) pieces
