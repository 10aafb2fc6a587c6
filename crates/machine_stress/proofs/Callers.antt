-- The calls of the producers and of the consumers, by their numbers.
use Rattle.std.proofs.Common.{◌≡◌, ℕ, zero, suc, ◌+◌, ◌-◌, ◌<◌, ◌≤◌, List, [], ◌∷◌, ◌++◌, length, map, replicate, refl, sym, ap, ◌∙◌, arith, length-append}
use Rattle.std.specs.Prelude.{slice_get, Some, codes}
use Rattle.std.specs.List.{range_with_len}
use Rattle.std.proofs.lemmas.List.FromFn.{length-map-range_with_len, map-range_with_len_more}
use Rattle.std.proofs.lemmas.List.{append_assoc}
use Rattle.std.proofs.lemmas.Option.{none-some, same_Some, slice_get_past}
use Rattle.machine_implicit.specs.declared.script.Call.{Call}
use Rattle.machine_implicit.specs.declared.script.Client.{Client}
use Rattle.machine_implicit.specs.Scripted.{calls_in, calls_of}
use Rattle.machine_stress.specs.LargeInput.{caller, callers, clients_of, plain_call}

-- so many clients with so many calls of one method, and then as many of the other
pub record AreHalves (clients : List Client) (count calls : ℕ) : Type 0 where
  pub long : length clients ≡ count + count
  pub puts : (client : ℕ) → client < count → calls_of clients client ≡ replicate calls (plain_call 0)
  pub gets : (client : ℕ) → count ≤ client → client < count + count → calls_of clients client ≡ replicate calls (plain_call 1)
  pub none : (client : ℕ) → count + count ≤ client → calls_of clients client ≡ []

got_left : {A : Type 0} (xs ys : List A) (i : ℕ) → i < length xs → slice_get (xs ++ ys) i ≡ slice_get xs i
got_left [] ys i within = absurd (omega arith)
got_left (x ∷ xs) ys zero within = refl
got_left (x ∷ xs) ys (suc i) within = got_left xs ys i (omega arith)

got_right : {A : Type 0} (xs ys : List A) (i : ℕ) → slice_get (xs ++ ys) (length xs + i) ≡ slice_get ys i
got_right [] ys i = ap (slice_get ys) (let same : 0 + i ≡ i = omega arith in same)
got_right (x ∷ xs) ys i = ap (slice_get (x ∷ (xs ++ ys))) (let same : suc (length xs) + i ≡ suc (length xs + i) = omega arith in same) ∙ got_right xs ys i

-- the calls of one of them
calls_from : (letter : List ℕ) (method calls from count client : ℕ) → client < count → calls_in (slice_get (map (caller letter method calls) (range_with_len from count)) client) ≡ replicate calls (plain_call method)
calls_from letter method calls from zero client within = absurd (omega arith)
calls_from letter method calls from (suc count) zero within = refl
calls_from letter method calls from (suc count) (suc client) within = calls_from letter method calls (from + 1) count client (omega arith)

pub are_halves : (count calls : ℕ) → AreHalves (clients_of count count calls) count calls
unfolding clients_of
are_halves count calls =
    let first = callers (codes "P") 0 calls count in
    let second = callers (codes "G") 1 calls count in
    let long : length first ≡ count = length-map-range_with_len (caller (codes "P") 0 calls) 1 count in
    let wide : length second ≡ count = length-map-range_with_len (caller (codes "G") 1 calls) 1 count in
    record {
      long = omega (arith, long, wide, length-append first second);
      puts = λ client within. ap calls_in (got_left first second client (omega (arith, long))) ∙ calls_from (codes "P") 0 calls 1 count client within;
      gets = λ client past within.
          let place : client ≡ length first + (client - count) = omega (arith, long) in
          ap (λ (at : ℕ). calls_in (slice_get (first ++ second) at)) place ∙ ap calls_in (got_right first second (client - count))
          ∙ calls_from (codes "G") 1 calls 1 count (client - count) (omega arith);
      none = λ client past. ap calls_in (slice_get_past (first ++ second) client (omega (arith, long, wide, length-append first second)));
    }

-- ---- the next one of equal calls

pub called : (calls past : ℕ) (call next : Call) → slice_get (replicate calls call) past ≡ Some next → (past < calls) × (call ≡ next)
called zero past call next is = absurd (none-some next is)
called (suc calls) zero call next is = (omega arith, same_Some call next is)
called (suc calls) (suc past) call next is = let rest = called calls past call next is in (omega (arith, rest.0), rest.1)

pub calls_next : (calls past : ℕ) (call : Call) → past < calls → slice_get (replicate calls call) past ≡ Some call
calls_next zero past call within = absurd (omega arith)
calls_next (suc calls) zero call within = refl
calls_next (suc calls) (suc past) call within = calls_next calls past call (omega arith)

-- ---- one client more

pub one_more_caller : (letter : List ℕ) (method calls count : ℕ) (before now after : List Client) (client : Client)
    → now ≡ before ++ callers letter method calls count → client ≡ caller letter method calls (count + 1) → after ≡ now ++ client ∷ []
    → after ≡ before ++ callers letter method calls (count + 1)
one_more_caller letter method calls count before now after client are is pushed =
    pushed ∙ ap (λ (some : List Client). some ++ client ∷ []) are
    ∙ ap (λ (one : Client). (before ++ callers letter method calls count) ++ one ∷ []) is
    ∙ append_assoc before (callers letter method calls count) (caller letter method calls (count + 1) ∷ [])
    ∙ ap (λ (some : List Client). before ++ some) (sym (map-range_with_len_more (caller letter method calls) 1 count (count + 1) (omega arith)))
