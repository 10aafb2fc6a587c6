-- What the passes knew of a closed monitor is so.
use Rattle.std.proofs.Common.{◌↔◌, ◌<◌, Bool, IsTrue, List, [], ◌∷◌, length, sym, subst, arith}
use Rattle.std.specs.List.{All}
use Rattle.std.proofs.lemmas.List.Elements.{All-head}
use Rattle.machine_events.specs.Logs.{IsClosed}
use Rattle.machine_explicit.specs.Sections.{FreeMachine, HasEnded}
use Rattle.threads_lock.specs.Closing.{Covers, KnowsClosed}
use Rattle.threads_lock.specs.Passes.{PassView}

-- the first pass knew a closed monitor, and a closed monitor takes no further section
pub is_closed : (top : FreeMachine) (passes : List PassView) → 0 < length passes → All KnowsClosed passes → All (λ pass. Covers top pass.known) passes → IsClosed top.system top.now
is_closed top [] some closed covers = absurd (omega arith)
is_closed top (pass ∷ passes) some closed covers =
    let knew = All-head KnowsClosed pass passes closed in
    let front = (All-head (λ (p : PassView). Covers top p.known) pass passes covers).front in
    subst (λ (m : FreeMachine). IsClosed m.system m.now) (sym (front.closed knew)) knew

-- a closed monitor says so, and has ended
pub has_ended : (top : FreeMachine) (passes : List PassView) (says : Bool) → 0 < length passes → All KnowsClosed passes → All (λ pass. Covers top pass.known) passes
    → IsTrue says ↔ IsClosed top.system top.now → (IsTrue says → HasEnded top) → HasEnded top
has_ended top passes says some closed covers is ends = ends (is.1 (is_closed top passes some closed covers))
