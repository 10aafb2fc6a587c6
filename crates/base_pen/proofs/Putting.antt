-- Texts that were put on a sink one after the other.
use Rattle.std.proofs.Common.{◌≡◌, ◌∙◌, ℕ, ◌+◌, ◌<◌, ◌≤◌, ◌++◌, List, [], Result, Ok, Err, OnOk, OnErr, length, get_or, take, refl, sym, ap, subst, arith}
use Rattle.std.specs.List.{flat_map, enumerate_from}
use Rattle.std.proofs.lemmas.List.{take_all}
use Rattle.std.proofs.lemmas.List.FromFn.{length-enumerate_from, get_or-enumerate_from}
use Rattle.base_io.specs.declared.sink.SinkFailed.{SinkFailed}
use Rattle.base_io.specs.Outside.{SinkSeen}
use Rattle.base_io.specs.Writing.{Wrote}
use Rattle.base_io.proofs.Writing.{wrote_both, wrote_longer}
use Rattle.base_io.proofs.WrittenBytes.{appends_none}
use Rattle.base_io.proofs.Rows.{flat_map-next}
use Rattle.base_pen.specs.Putting.{Adds}
use Rattle.base_pen.specs.declared.pen.Pen.{Pen}

-- the first text was written, or a write of it failed
wrote_next : {S : Type 0} (seen : S → SinkSeen) (s : SinkSeen) (p1 p2 : Pen S) (a b : List ℕ) (outcome : Result (Unit {0}) SinkFailed)
    → p1.outcome ≡ outcome → Wrote s (seen p1.out.now) outcome a → OnOk outcome (Wrote (seen p1.out.now) (seen p2.out.now) p2.outcome b)
    → OnErr outcome (p2 ≡ p1) → Wrote s (seen p2.out.now) p2.outcome (a ++ b)
wrote_next seen s p1 p2 a b (Ok u) is first next stays = wrote_both first next
wrote_next {S} seen s p1 p2 a b (Err e) is first next stays =
    subst (λ (pen : Pen S). Wrote s (seen pen.out.now) pen.outcome (a ++ b)) (sym stays) (rw is (wrote_longer b first))

written_both : {S : Type 0} (seen : S → SinkSeen) (p0 p1 p2 : Pen S) (a b : List ℕ) (outcome : Result (Unit {0}) SinkFailed)
    → OnOk outcome (Wrote (seen p0.out.now) (seen p1.out.now) p1.outcome a) → Adds seen p1 p2 b
    → OnOk outcome (Wrote (seen p0.out.now) (seen p2.out.now) p2.outcome (a ++ b))
written_both seen p0 p1 p2 a b (Err e) first next = tt
written_both seen p0 p1 p2 a b (Ok u) first next =
    wrote_next seen (seen p0.out.now) p1 p2 a b p1.outcome refl first next.written next.after

ok_err : (e : SinkFailed) (v : Unit {0}) → ◌≡◌ {A = Result (Unit {0}) SinkFailed} (Err e) (Ok v) → ⊥
ok_err e v same = cc

stays_after : {S : Type 0} (p0 p1 p2 : Pen S) (o0 o1 : Result (Unit {0}) SinkFailed)
    → p0.outcome ≡ o0 → p1.outcome ≡ o1 → OnErr o0 (p1 ≡ p0) → OnErr o1 (p2 ≡ p1) → OnErr o0 (p2 ≡ p0)
stays_after p0 p1 p2 (Ok u) o1 is was first next = tt
stays_after p0 p1 p2 (Err e) (Err f) is was first next = next ∙ first
stays_after {S} p0 p1 p2 (Err e) (Ok v) is was first next =
    absurd (ok_err e v (sym is ∙ ap (λ (pen : Pen S). pen.outcome) (sym first) ∙ was))

-- two texts in a row
pub adds_both : {S : Type 0} {seen : S → SinkSeen} {p0 p1 p2 : Pen S} {a b : List ℕ} → Adds seen p0 p1 a → Adds seen p1 p2 b → Adds seen p0 p2 (a ++ b)
adds_both {seen = seen} {p0 = p0} {p1 = p1} {p2 = p2} {a = a} {b = b} p q = record {
  same = q.same ∙ p.same;
  written = written_both seen p0 p1 p2 a b p0.outcome p.written q;
  after = stays_after p0 p1 p2 p0.outcome p1.outcome refl refl p.after q.after;
}

wrote_nothing : (seen : SinkSeen) (outcome : Result (Unit {0}) SinkFailed) → OnOk outcome (Wrote seen seen outcome [])
wrote_nothing seen (Ok u) = record { written = appends_none seen.written []; front = tt; steady = refl; cause = tt; later = omega arith }
wrote_nothing seen (Err e) = tt

err_same : {X : Type 0} (x : X) (outcome : Result (Unit {0}) SinkFailed) → OnErr outcome (x ≡ x)
err_same x (Ok u) = tt
err_same x (Err e) = refl

none : {S : Type 0} (seen : S → SinkSeen) (pen : Pen S) → Adds seen pen pen []
none seen pen = record { same = refl; written = wrote_nothing (seen pen.out.now) pen.outcome; after = err_same pen pen.outcome }

-- an equal text
pub adds_same : {S : Type 0} {seen : S → SinkSeen} {p0 p1 : Pen S} {a : List ℕ} (b : List ℕ) → a ≡ b → Adds seen p0 p1 a → Adds seen p0 p1 b
adds_same {seen = seen} {p0 = p0} {p1 = p1} b same p = subst (λ (text : List ℕ). Adds seen p0 p1 text) same p

-- ---- a text that so many calls put, one after the other: `using` names the one that fits

pub adds_nothing : {S : Type 0} {seen : S → SinkSeen} {pen : Pen S} (text : List ℕ) → [] ≡ text → Adds seen pen pen text
adds_nothing {seen = seen} {pen = pen} text is = adds_same text is (none seen pen)

pub adds_two : {S : Type 0} {seen : S → SinkSeen} {p0 p1 p2 : Pen S} {a b : List ℕ} (text : List ℕ)
    → Adds seen p0 p1 a → Adds seen p1 p2 b → a ++ b ≡ text → Adds seen p0 p2 text
adds_two text p q is = adds_same text is (adds_both p q)

pub adds_three : {S : Type 0} {seen : S → SinkSeen} {p0 p1 p2 p3 : Pen S} {a b c : List ℕ} (text : List ℕ)
    → Adds seen p0 p1 a → Adds seen p1 p2 b → Adds seen p2 p3 c → a ++ b ++ c ≡ text → Adds seen p0 p3 text
adds_three text p q r is = adds_same text is (adds_both (adds_both p q) r)

pub adds_four : {S : Type 0} {seen : S → SinkSeen} {p0 p1 p2 p3 p4 : Pen S} {a b c d : List ℕ} (text : List ℕ)
    → Adds seen p0 p1 a → Adds seen p1 p2 b → Adds seen p2 p3 c → Adds seen p3 p4 d → a ++ b ++ c ++ d ≡ text → Adds seen p0 p4 text
adds_four text p q r t is = adds_same text is (adds_both (adds_both (adds_both p q) r) t)

pub adds_five : {S : Type 0} {seen : S → SinkSeen} {p0 p1 p2 p3 p4 p5 : Pen S} {a b c d e : List ℕ} (text : List ℕ)
    → Adds seen p0 p1 a → Adds seen p1 p2 b → Adds seen p2 p3 c → Adds seen p3 p4 d → Adds seen p4 p5 e → a ++ b ++ c ++ d ++ e ≡ text → Adds seen p0 p5 text
adds_five text p q r t u is = adds_same text is (adds_both (adds_both (adds_both (adds_both p q) r) t) u)

pub adds_six : {S : Type 0} {seen : S → SinkSeen} {p0 p1 p2 p3 p4 p5 p6 : Pen S} {a b c d e f : List ℕ} (text : List ℕ)
    → Adds seen p0 p1 a → Adds seen p1 p2 b → Adds seen p2 p3 c → Adds seen p3 p4 d → Adds seen p4 p5 e → Adds seen p5 p6 f → a ++ b ++ c ++ d ++ e ++ f ≡ text → Adds seen p0 p6 text
adds_six text p q r t u v is = adds_same text is (adds_both (adds_both (adds_both (adds_both (adds_both p q) r) t) u) v)

pub adds_seven : {S : Type 0} {seen : S → SinkSeen} {p0 p1 p2 p3 p4 p5 p6 p7 : Pen S} {a b c d e f g : List ℕ} (text : List ℕ)
    → Adds seen p0 p1 a → Adds seen p1 p2 b → Adds seen p2 p3 c → Adds seen p3 p4 d → Adds seen p4 p5 e → Adds seen p5 p6 f → Adds seen p6 p7 g → a ++ b ++ c ++ d ++ e ++ f ++ g ≡ text → Adds seen p0 p7 text
adds_seven text p q r t u v w is = adds_same text is (adds_both (adds_both (adds_both (adds_both (adds_both (adds_both p q) r) t) u) v) w)

-- ---- a row, put element by element

-- the next text of a row
pub adds_next : {X : Type 0} {S : Type 0} {seen : S → SinkSeen} {p0 p1 p2 : Pen S} (f : X → List ℕ) (xs : List X) (i : ℕ) (x : X) (text : List ℕ)
    → i < length xs → x ≡ get_or xs i x → text ≡ f x → Adds seen p0 p1 (flat_map f (take i xs)) → Adds seen p1 p2 text → Adds seen p0 p2 (flat_map f (take (i + 1) xs))
adds_next f xs i x text within is says before here =
    adds_same _ (ap (λ y. flat_map f (take i xs) ++ y) (says ∙ ap f is) ∙ flat_map-next f xs i x within) (adds_both before here)

-- ---- a row, put element by element, each by its number

-- the text of an element with its number
abbrev pub numbered : {X : Type 0} → (ℕ → X → List ℕ) → ℕ × X → List ℕ
numbered f one = f one.0 one.1

abbrev both : {A B : Type 0} → A → B → A × B
both x y = (x, y)

at : {X : Type 0} (start : ℕ) (xs : List X) (i number : ℕ) (x : X) → number ≡ start + i → i < length xs → x ≡ get_or xs i x
    → both number x ≡ get_or (enumerate_from start xs) i (both number x)
at {X} start xs i number x counted less is =
    ap (λ (n : ℕ). both n x) counted ∙ ap (λ (y : X). both (start + i) y) is ∙ sym (get_or-enumerate_from start xs i (both number x) less)

-- the next text of such a row
pub adds_numbered : {X : Type 0} {S : Type 0} {seen : S → SinkSeen} {p0 p1 p2 : Pen S} (f : ℕ → X → List ℕ) (start : ℕ) (xs : List X) (i number : ℕ) (x : X) (text : List ℕ)
    → number ≡ start + i → i < length xs → x ≡ get_or xs i x → text ≡ f number x → Adds seen p0 p1 (flat_map (numbered f) (take i (enumerate_from start xs))) → Adds seen p1 p2 text
    → Adds seen p0 p2 (flat_map (numbered f) (take (i + 1) (enumerate_from start xs)))
adds_numbered f start xs i number x text counted less is says before here =
    adds_next (numbered f) (enumerate_from start xs) i (both number x) text (omega (arith, length-enumerate_from start xs)) (at start xs i number x counted less is) says before here

-- the whole of such a row
pub adds_all_numbered : {X : Type 0} {S : Type 0} {seen : S → SinkSeen} {p0 p1 : Pen S} (f : ℕ → X → List ℕ) (start : ℕ) (xs : List X) (i : ℕ)
    → length xs ≤ i → Adds seen p0 p1 (flat_map (numbered f) (take i (enumerate_from start xs))) → Adds seen p0 p1 (flat_map (numbered f) (enumerate_from start xs))
adds_all_numbered f start xs i end all =
    adds_same _ (ap (flat_map (numbered f)) (take_all i (enumerate_from start xs) (omega (arith, length-enumerate_from start xs)))) all
