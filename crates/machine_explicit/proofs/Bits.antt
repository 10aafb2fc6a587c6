-- Bits of clients.
use Rattle.std.proofs.Common.{◌≡◌, ◌↔◌, ◌⊎◌, ℕ, ◌+◌, ◌<◌, List, [], ◌∷◌, ◌++◌, length, get_or, take, Some, sym, ap, subst, ◌∙◌, arith, inl, inr}
use Rattle.std.specs.Prelude.{slice_get, IsBitSet, Contains}
use Rattle.std.specs.Int.{bit_at}
use Rattle.std.specs.Int.RustNames.{bit_or}
use Rattle.std.proofs.lemmas.Nat.{bit_set_by_shift}
use Rattle.std.proofs.lemmas.Nat.Bits.{shr_and_one, bit_at_or, bit_at-zero, bit_at-lt}
use Rattle.std.proofs.lemmas.Bool.{cases_eq}
use Rattle.std.proofs.lemmas.List.{take_more}
use Rattle.std.proofs.lemmas.List.Elements.{Contains-append_left, Contains-push, Contains-push_cases}
use Rattle.std.proofs.lemmas.Option.{same_Some, slice_get-get_or}
use Rattle.machine_explicit.specs.inner.Waiting.{AreBits}

bit_is : (n k : ℕ) → IsBitSet n k ↔ (bit_at n k ≡ 1)
bit_is n k = (
  (λ is. sym (shr_and_one n k) ∙ (bit_set_by_shift n k).1 is),
  (λ one. (bit_set_by_shift n k).0 (shr_and_one n k ∙ one)),
)

pub bits_alike : (P Q : ℕ → Type 0) (bits : ℕ) → ((client : ℕ) → P client ↔ Q client) → AreBits P bits → AreBits Q bits
bits_alike P Q bits alike are client = ((λ is. (alike client).0 ((are client).0 is)), (λ true_of. (are client).1 ((alike client).1 true_of)))

pub no_bits : (P : ℕ → Type 0) → ((client : ℕ) → P client → ⊥) → AreBits P 0
no_bits P none client = ((λ is. absurd (omega (arith, (bit_is 0 client).0 is, bit_at-zero client))), (λ true_of. absurd (none client true_of)))

pub either_bits : (P Q : ℕ → Type 0) (first second : ℕ) → AreBits P first → AreBits Q second → AreBits (λ client. P client ⊎ Q client) (bit_or first second)
either_bits P Q first second ones others client = (there, back)
  where
    there : IsBitSet (bit_or first second) client → P client ⊎ Q client
    there is =
        let one = (bit_is (bit_or first second) client).0 is in
        let greatest = bit_at_or first second client in
        elim (cases_eq (bit_at first client) 1) [
          | inl own ↦ inl ((ones client).0 ((bit_is first client).1 own))
          | inr differs ↦ inr ((others client).0 ((bit_is second client).1 (omega (arith, one, greatest, differs, bit_at-lt first client, bit_at-lt second client))))
        ]

    back : P client ⊎ Q client → IsBitSet (bit_or first second) client
    back either =
        let greatest = bit_at_or first second client in
        elim either [
          | inl own ↦ (bit_is (bit_or first second) client).1 (omega (arith, greatest, (bit_is first client).0 ((ones client).1 own), bit_at-lt second client))
          | inr own ↦ (bit_is (bit_or first second) client).1 (omega (arith, greatest, (bit_is second client).0 ((others client).1 own), bit_at-lt first client))
        ]

-- ---- the bits of a line

pub more_bits : (line : List ℕ) (place first second : ℕ) → place < length line → AreBits (λ client. Contains (take place line) client) first → AreBits (λ client. slice_get line place ≡ Some client) second
    → AreBits (λ client. Contains (take (place + 1) line) client) (bit_or first second)
more_bits line place first second within ones one =
    bits_alike (λ client. Contains (take place line) client ⊎ (slice_get line place ≡ Some client)) (λ client. Contains (take (place + 1) line) client) (bit_or first second) (λ client. (there client, back client))
    (either_bits (λ client. Contains (take place line) client) (λ client. slice_get line place ≡ Some client) first second ones one)
  where
    next : ℕ
    next = get_or line place 0

    at : slice_get line place ≡ Some next
    at = slice_get-get_or line place 0 within

    longer : take (place + 1) line ≡ take place line ++ next ∷ []
    longer = take_more line place 0 within

    there : (client : ℕ) → Contains (take place line) client ⊎ (slice_get line place ≡ Some client) → Contains (take (place + 1) line) client
    there client (inl has) = subst (λ (some : List ℕ). Contains some client) (sym longer) (Contains-append_left (take place line) (next ∷ []) client has)
    there client (inr found) = subst (λ (some : List ℕ). Contains some client) (sym longer)
        (subst (λ (who : ℕ). Contains (take place line ++ next ∷ []) who) (same_Some next client (sym at ∙ found)) (Contains-push (take place line) next))

    back : (client : ℕ) → Contains (take (place + 1) line) client → Contains (take place line) client ⊎ (slice_get line place ≡ Some client)
    back client has = elim (Contains-push_cases (take place line) next client (subst (λ (some : List ℕ). Contains some client) longer has)) [
      | inl old ↦ inl old
      | inr same ↦ inr (at ∙ ap Some same)
    ]
