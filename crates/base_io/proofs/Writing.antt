-- Texts that were written in several pieces.
use Rattle.std.proofs.Common.{◌≡◌, ℕ, ◌+◌, ◌-◌, ◌^◌, ◌++◌, ◌∙◌, ◌≤◌, min, List, Option, Result, Ok, Err, IsErr, length, take, sym, subst, length-append, arith}
use Rattle.std.proofs.lemmas.List.{take-append-le}
use Rattle.std.proofs.Math.Seq.{take-append-add}
use Rattle.std.specs.Io.KnownBytes.{Appends}
use Rattle.base_io.specs.declared.sink.SinkFailed.{SinkFailed}
use Rattle.base_io.specs.Outside.{SinkSeen, AppendsFront}
use Rattle.base_io.specs.Writing.{Wrote}
use Rattle.base_io.proofs.WrittenBytes.{appends_more}

-- a whole text, and then a front of another
appends_front_after : (w0 w1 w2 : Option (List ℕ)) (a b : List ℕ) → Appends w0 w1 a → AppendsFront w1 w2 b → AppendsFront w0 w2 (a ++ b)
appends_front_after w0 w1 w2 a b p q = (
  length a + q.0,
  omega (arith, length-append {A = ℕ}, q.1),
  subst (λ (text : List ℕ). Appends w0 w2 text) (sym (take-append-add a b q.0)) (appends_more w0 w1 w2 a (take q.0 b) p q.2),
)

-- a front of a text is one of each longer text
appends_front_of : (w0 w1 : Option (List ℕ)) (a b : List ℕ) → AppendsFront w0 w1 a → AppendsFront w0 w1 (a ++ b)
appends_front_of w0 w1 a b q =
    let within : q.0 ≤ length a = omega (arith, q.1) in (
      q.0,
      omega (arith, length-append {A = ℕ}, q.1),
      subst (λ (text : List ℕ). Appends w0 w1 text) (sym (take-append-le q.0 a b within)) q.2,
    )

rises_later : (most f0 f1 f2 : ℕ) → f0 ≤ f1 → min (f1 + 1) most ≤ f2 → min (f0 + 1) most ≤ f2
rises_later most f0 f1 f2 le rises = omega arith

-- two texts in a row
pub wrote_both : {s0 s1 s2 : SinkSeen} {answer : Result (Unit {0}) SinkFailed} {a b : List ℕ}
    → Wrote s0 s1 (Ok tt) a → Wrote s1 s2 answer b → Wrote s0 s2 answer (a ++ b)
wrote_both {s0 = s0} {s1 = s1} {s2 = s2} {answer = Ok u} {a = a} {b = b} p q = record {
  written = appends_more s0.written s1.written s2.written a b p.written q.written;
  front = tt;
  steady = q.steady ∙ p.steady;
  cause = tt;
  later = omega (arith, p.later, q.later);
}
wrote_both {s0 = s0} {s1 = s1} {s2 = s2} {answer = Err e} {a = a} {b = b} p q = record {
  written = tt;
  front = appends_front_after s0.written s1.written s2.written a b p.written q.front;
  steady = tt;
  cause = rises_later (2 ^ 64 - 1) s0.faults s1.faults s2.faults p.later q.cause;
  later = omega (arith, p.later, q.later);
}

-- a text that wasn't written whole, nor is a longer one
pub wrote_longer : {s0 s1 : SinkSeen} {fault : SinkFailed} {a : List ℕ} (b : List ℕ)
    → Wrote s0 s1 (Err fault) a → Wrote s0 s1 (Err fault) (a ++ b)
wrote_longer {s0 = s0} {s1 = s1} {a = a} b p = record {
  written = tt;
  front = appends_front_of s0.written s1.written a b p.front;
  steady = tt;
  cause = p.cause;
  later = p.later;
}

-- the fault is handed on
pub wrote_fails : {s0 s1 : SinkSeen} {fault : SinkFailed} {text : List ℕ} (answer : Result (Unit {0}) SinkFailed)
    → IsErr answer → Wrote s0 s1 (Err fault) text → Wrote s0 s1 answer text
wrote_fails (Ok u) fails p = cc
wrote_fails (Err e) fails p = record { written = tt; front = p.front; steady = tt; cause = p.cause; later = p.later }

-- an equal text
pub wrote_same : {s0 s1 : SinkSeen} {answer : Result (Unit {0}) SinkFailed} {a : List ℕ} (b : List ℕ)
    → a ≡ b → Wrote s0 s1 answer a → Wrote s0 s1 answer b
wrote_same {s0 = s0} {s1 = s1} {answer = answer} b same p = subst (λ (text : List ℕ). Wrote s0 s1 answer text) same p

-- the first texts of a row, then one that wasn't written whole
pub wrote_until : {s0 s1 s2 : SinkSeen} {fault : SinkFailed} {a b : List ℕ} (rest all : List ℕ) (answer : Result (Unit {0}) SinkFailed)
    → a ++ b ++ rest ≡ all → IsErr answer → Wrote s0 s1 (Ok tt) a → Wrote s1 s2 (Err fault) b → Wrote s0 s2 answer all
wrote_until rest all answer parts fails p q = wrote_same all parts (wrote_fails answer fails (wrote_longer rest (wrote_both p q)))
