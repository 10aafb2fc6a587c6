-- The plan under which everyone is woken fits, and is lawful.
use Rattle.std.proofs.Common.{◌≡◌, ◌==◌, ℕ, zero, suc, ◌+◌, ◌-◌, ◌<◌, true, false, List, [], ◌∷◌, ◌++◌, map, length, take, get_or, append_assoc, Option, Some, refl, sym, ap, subst, ◌∙◌, arith}
use Rattle.std.specs.Prelude.{All, slice_get, slice_index, option_map, unwrap_or, IsSomeAnd}
use Rattle.std.proofs.lemmas.Grind.{common_steps}
use Rattle.std.proofs.lemmas.List.{length-map, take_more}
use Rattle.std.proofs.lemmas.List.Elements.{All-nil, All-cons, All-weaker}
use Rattle.std.proofs.lemmas.Option.{none-some, slice_get-map}
use Rattle.std.proofs.lemmas.Bool.{true≢false, eq-eqb, or_parts, both_ways}
use Rattle.lang_monitor.specs.declared.candidate.Candidate.{Candidate}
use Rattle.lang_monitor.specs.declared.monitor.Block.{Block}
use Rattle.lang_monitor.specs.declared.monitor.Condition.{Condition}
use Rattle.lang_monitor.specs.MonitorParts.{MonitorParts}
use Rattle.machine_events.specs.declared.plan.CondKind.TheVariants as kinds
use Rattle.machine_events.specs.declared.plan.Note.{Note}
use Rattle.machine_events.specs.declared.plan.Plan.{Plan}
use Rattle.lang_monitor.specs.Inputs.{reads_inputs}
use Rattle.lang_monitor.specs.Candidates.{candidate_truth}
use Rattle.lang_monitor.specs.Triples.{Keeps}
use Rattle.machine_events.specs.Rising.{AreRising}
use Rattle.machine_events.proofs.Facing.{at_index}
use Rattle.machine_events.specs.Plans.{has_note, FitsNote, FitsNotes, FitsPlan, IsUntestedBroadcast, IsLawful, broadcasts_from, everyone}

-- ---- one condition more

pub one_more : (number : ℕ) (conditions : List Condition) (condition : Condition)
    → broadcasts_from number (conditions ++ condition ∷ [])
    ≡ broadcasts_from number conditions ++ record {
      condition = number + length conditions;
      all = true;
      tested = false;
    } ∷ []
one_more number [] condition = ap (λ (one : ℕ). record { condition = one; all = true; tested = false } ∷ []) (omega arith)
one_more number (first ∷ conditions) condition =
    ap (λ (rest : List Note). record { condition = number; all = true; tested = false } ∷ rest) (one_more (number + 1) conditions condition)
    ∙ ap (λ (one : ℕ). record { condition = number; all = true; tested = false } ∷ broadcasts_from (number + 1) conditions ++ record { condition = one; all = true; tested = false } ∷ []) (omega arith)

-- the broadcasts on the first conditions, and on the next one
pub next_made : (conditions : List Condition) (index number : ℕ) (other : Condition)
    → index < length conditions → number ≡ index + 1
    → broadcasts_from 1 (take (index + 1) conditions)
    ≡ broadcasts_from 1 (take index conditions)
    ++ record { condition = number; all = true; tested = false } ∷ []
next_made conditions index number other within same =
    ap (broadcasts_from 1) (take_more conditions index other within) ∙ one_more 1 (take index conditions) (get_or conditions index other)
    ∙ ap (λ (one : ℕ). broadcasts_from 1 (take index conditions) ++ record { condition = one; all = true; tested = false } ∷ []) (grind (arith, common_steps, within, same))

-- ---- each condition has a note

has_each : (number place : ℕ) (conditions : List Condition) (which : Condition)
    → slice_get conditions place ≡ Some which
    → has_note (broadcasts_from number conditions) (number + place) ≡ false → ⊥
has_each number place [] which is none = none-some which is
has_each number zero (condition ∷ conditions) which is none =
    both_ways (number == (number + zero)) (or_parts (number == (number + zero)) (has_note (broadcasts_from (number + 1) conditions) (number + zero)) none).0 (eq-eqb number (number + zero) (omega arith))
has_each number (suc place) (condition ∷ conditions) which is none =
    has_each (number + 1) place conditions which is
    (ap (has_note (broadcasts_from (number + 1) conditions)) (omega arith) ∙ (or_parts (number == (number + suc place)) (has_note (broadcasts_from (number + 1) conditions) (number + suc place)) none).1)

abbrev AreBroadcastsOn : ℕ → List Note → Type 0
AreBroadcastsOn condition notes = All (λ note. note.condition ≡ condition → IsUntestedBroadcast note) notes

each_broadcasts : (condition number : ℕ) (conditions : List Condition)
    → AreBroadcastsOn condition (broadcasts_from number conditions)
each_broadcasts condition number [] = All-nil (λ (note : Note). note.condition ≡ condition → IsUntestedBroadcast note)
each_broadcasts condition number (first ∷ conditions) =
    All-cons (λ (note : Note). note.condition ≡ condition → IsUntestedBroadcast note) (record { condition = number; all = true; tested = false }) (broadcasts_from (number + 1) conditions)
    (λ same. record { all = refl; untested = refl }) (each_broadcasts condition (number + 1) conditions)

-- ---- they fit

-- the notes on the conditions from a number on, of all conditions
each_fits : (monitor : MonitorParts) (number : ℕ) (before conditions : List Condition)
    → monitor.conditions ≡ before ++ conditions → number ≡ length before + 1
    → All (FitsNote monitor) (broadcasts_from number conditions)
each_fits monitor number before [] whole same = All-nil (FitsNote monitor)
each_fits monitor number before (first ∷ conditions) whole same =
    let there : slice_get monitor.conditions (number - 1) ≡ Some first = ap (λ (all : List Condition). slice_get all (number - 1)) whole ∙ ap (slice_get (before ++ first ∷ conditions)) (omega arith) ∙ get_next before first conditions in
    All-cons (FitsNote monitor) (record { condition = number; all = true; tested = false }) (broadcasts_from (number + 1) conditions)
    (omega arith, subst (λ (one : Option Condition). IsSomeAnd one (λ which. false ≡ true → reads_inputs which.guard ≡ false)) (sym there) (λ tested. absurd (true≢false (sym tested))))
    (each_fits monitor (number + 1) (before ++ first ∷ []) conditions (whole ∙ sym (append_assoc before (first ∷ []) conditions)) (grind (arith, common_steps, same)))
  where
    get_next : (before : List Condition) (first : Condition) (conditions : List Condition)
        → slice_get (before ++ first ∷ conditions) (length before) ≡ Some first
    get_next [] first conditions = refl
    get_next (one ∷ before) first conditions = get_next before first conditions

broadcast_at : (number : ℕ) (conditions : List Condition) (place : ℕ) → place < length conditions
    → slice_index (map (λ note. note.condition) (broadcasts_from number conditions)) place
    ≡ number + place
broadcast_at number [] place within = absurd (omega arith)
broadcast_at number (first ∷ conditions) zero within = omega arith
broadcast_at number (first ∷ conditions) (suc place) within = broadcast_at (number + 1) conditions place (omega arith) ∙ omega arith

as_many : (number : ℕ) (conditions : List Condition)
    → length (map (λ note. note.condition) (broadcasts_from number conditions)) ≡ length conditions
as_many number [] = refl
as_many number (first ∷ conditions) = omega (arith, as_many (number + 1) conditions)

pub broadcasts_rise : (number : ℕ) (conditions : List Condition)
    → AreRising (broadcasts_from number conditions)
broadcasts_rise number conditions place within =
    let many = as_many number conditions in
    omega (arith, broadcast_at number conditions place (omega (arith, many)), broadcast_at number conditions (place + 1) (omega (arith, many)))

each_block : (P : List Note → Type 0) (notes : List Note) → P notes → (blocks : List Block)
    → All P (map (λ block. notes) blocks)
each_block P notes holds [] = All-nil P
each_block P notes holds (block ∷ blocks) = All-cons P notes (map (λ block. notes) blocks) holds (each_block P notes holds blocks)

-- the notes of a block: a broadcast on each condition, or none where there is no such block
notes_or_none : (P : Note → Type 0) (notes : List Note) (blocks : List Block) (block : ℕ)
    → All P notes → All P (unwrap_or (slice_get (map (λ one. notes) blocks) block) [])
notes_or_none P notes [] block all = All-nil P
notes_or_none P notes (first ∷ blocks) zero all = all
notes_or_none P notes (first ∷ blocks) (suc block) all = notes_or_none P notes blocks block all

notes_there : (notes : List Note) (blocks : List Block) (number : ℕ) (block : Block)
    → slice_get blocks number ≡ Some block
    → unwrap_or (slice_get (map (λ one. notes) blocks) number) [] ≡ notes
notes_there notes [] number block is = absurd (none-some block is)
notes_there notes (first ∷ blocks) zero block is = refl
notes_there notes (first ∷ blocks) (suc number) block is = notes_there notes blocks number block is

kind_there : (conditions : List Condition) (place : ℕ) (which : Condition)
    → slice_get conditions place ≡ Some which
    → slice_get (map (λ condition. kinds.Broadcast) conditions) place ≡ Some kinds.Broadcast
kind_there conditions place which is = slice_get-map (λ (condition : Condition). kinds.Broadcast) conditions place ∙ ap (option_map (λ (condition : Condition). kinds.Broadcast)) is

no_signal : (conditions : List Condition) (place : ℕ)
    → slice_get (map (λ condition. kinds.Broadcast) conditions) place ≡ Some kinds.Signal → ⊥
no_signal [] place is = none-some kinds.Signal is
no_signal (first ∷ conditions) zero is = cc is
no_signal (first ∷ conditions) (suc place) is = no_signal conditions place is

pub everyone_fits : (monitor : MonitorParts) → FitsPlan monitor (everyone monitor)
everyone_fits monitor = record {
  kept = tt;
  kinds = length-map monitor.conditions (λ condition. kinds.Broadcast);
  notes = length-map monitor.blocks (λ block. broadcasts_from 1 monitor.conditions);
  each = each_block (FitsNotes monitor) (broadcasts_from 1 monitor.conditions)
      (record { rising = broadcasts_rise 1 monitor.conditions; each = each_fits monitor 1 [] monitor.conditions refl refl }) monitor.blocks;
}

pub everyone_lawful : (monitor : MonitorParts) → IsLawful monitor (everyone monitor)
everyone_lawful monitor = record {
  inductive = record {
    starts = λ start is. All-nil (λ (candidate : Candidate). candidate_truth start candidate ≡ true);
    keeps = λ block within. All-nil (λ (candidate : Candidate). Keeps monitor [] candidate block);
  };
  noted = λ number condition within numbered last none.
      let block = at_index monitor.blocks number within in
      let which = at_index monitor.conditions (condition - 1) (omega arith) in
      absurd (has_each 1 (condition - 1) monitor.conditions which.0 which.1
      (ap (has_note (broadcasts_from 1 monitor.conditions)) (omega arith)
      ∙ sym (ap (λ (notes : List Note). has_note notes condition) (notes_there (broadcasts_from 1 monitor.conditions) monitor.blocks number block.0 block.1)) ∙ none));
  reading = λ condition which is reads. record {
    kind = kind_there monitor.conditions (condition - 1) which is.there;
    notes = λ block.
        notes_or_none (λ (note : Note). note.condition ≡ condition → IsUntestedBroadcast note) (broadcasts_from 1 monitor.conditions) monitor.blocks block (each_broadcasts condition 1 monitor.conditions);
  };
  broadcasts = λ condition kind block.
      notes_or_none (λ (note : Note). note.condition ≡ condition → note.all ≡ true) (broadcasts_from 1 monitor.conditions) monitor.blocks block
      (All-weaker (λ (note : Note). note.condition ≡ condition → IsUntestedBroadcast note) (λ (note : Note). note.condition ≡ condition → note.all ≡ true)
      (λ note is same. (is same).all) (broadcasts_from 1 monitor.conditions) (each_broadcasts condition 1 monitor.conditions));
  signals = λ number block is numbered kind. absurd (no_signal monitor.conditions (block.condition - 1) kind);
}

-- ---- the plan that is made

pub plan_is : (monitor : MonitorParts) (plan : Plan) → plan.kept ≡ []
    → plan.kinds ≡ (everyone monitor).kinds → plan.notes ≡ (everyone monitor).notes
    → everyone monitor ≡ plan
plan_is monitor plan kept kinds notes = λ i. record { kept = sym kept i; kinds = sym kinds i; notes = sym notes i }
