-- The names of those that a reply woke, written from one of them to the next.
use Rattle.std.proofs.Common.{◌≡◌, ℕ, zero, suc, ◌+◌, ◌-◌, ◌/◌, ◌%◌, ◌^◌, ◌<◌, ◌≤◌, ◌++◌, ◌∷◌, [], ◌∙◌, true, false, List, take, codes, ap, sym, refl, append-nil, arith}
use Rattle.std.specs.Int.{bit_at, trailing_zeros, w32}
use Rattle.std.specs.List.{flat_map, enumerate_from}
use Rattle.std.proofs.lemmas.Nat.Bits.{bit_at-zero, bit_at-trailing_zeros}
use Rattle.std.proofs.Math.Nat.{div-le_self}
use lib.Pow.{shr-shr}
use Rattle.machine_implicit.specs.declared.script.Client.{Client}
use Rattle.report_text.specs.LogText.{is_woken, woken_name}
use Rattle.report_text.proofs.Wakes.{set_is_woken, clear_is_not}

-- ---- the bits from a place on

bit_from : (woken from number : ℕ) → from ≤ number
    → bit_at woken number ≡ bit_at (woken / 2 ^ from) (number - from)
bit_from woken from number later =
    let sum : number ≡ from + (number - from) = omega arith in
    ap (bit_at woken) sum ∙ ap (λ n. n % 2) (sym (shr-shr woken from (number - from)))

no_bit_before : (rest place : ℕ) → rest < 2 ^ 32 → place < trailing_zeros w32 rest → bit_at rest place ≡ 0
no_bit_before zero place small before = bit_at-zero place
no_bit_before (suc rest) place small before = (bit_at-trailing_zeros w32 (suc rest) (omega arith) small).2 place before

no_bits : trailing_zeros w32 0 ≡ 32
unfolding lib.Count.count_trailing_zeros
no_bits = refl

bit_there : (rest : ℕ) → rest < 2 ^ 32 → trailing_zeros w32 rest < 32 → bit_at rest (trailing_zeros w32 rest) ≡ 1
bit_there zero small within =
    absurd (omega (arith, no_bits, within))
bit_there (suc rest) small within = (bit_at-trailing_zeros w32 (suc rest) (omega arith) small).1

rest_small : (woken from : ℕ) → woken < 2 ^ 32 → woken / 2 ^ from < 2 ^ 32
rest_small woken from small = omega (arith, div-le_self woken (2 ^ from), small)

pub none_before : (woken from number : ℕ) → woken < 2 ^ 32 → from ≤ number
    → number < from + trailing_zeros w32 (woken / 2 ^ from) → is_woken woken number ≡ false
none_before woken from number small later before =
    clear_is_not woken number (bit_from woken from number later ∙ no_bit_before (woken / 2 ^ from) (number - from) (rest_small woken from small) (omega (arith, later, before)))

pub woken_there : (woken from : ℕ) → woken < 2 ^ 32
    → from + trailing_zeros w32 (woken / 2 ^ from) < 32
    → is_woken woken (from + trailing_zeros w32 (woken / 2 ^ from)) ≡ true
woken_there woken from small within =
    let number : ℕ = from + trailing_zeros w32 (woken / 2 ^ from) in
    let place : number - from ≡ trailing_zeros w32 (woken / 2 ^ from) = omega arith in
    set_is_woken woken number
    (bit_from woken from number (omega arith) ∙ ap (bit_at (woken / 2 ^ from)) place ∙ bit_there (woken / 2 ^ from) (rest_small woken from small) (omega (arith, within)))

-- ---- the names up to a place

abbrev names : ℕ → List (ℕ × Client) → List ℕ
names woken rows = flat_map (λ one. woken_name woken one.0 one.1) rows

not_named : (woken number : ℕ) (client : Client) → is_woken woken number ≡ false → woken_name woken number client ≡ []
not_named woken number client none = rw none refl

-- where none of those between is woken
names_alike : (woken number : ℕ) (clients : List Client) (from to : ℕ) → from ≤ to
    → ((k : ℕ) → from ≤ k → k < to → is_woken woken (number + k) ≡ false)
    → names woken (take from (enumerate_from number clients)) ≡ names woken (take to (enumerate_from number clients))
names_alike woken number [] zero zero le none = refl
names_alike woken number [] zero (suc to) le none = refl
names_alike woken number [] (suc from) zero le none = absurd (omega (arith, le))
names_alike woken number [] (suc from) (suc to) le none = refl
names_alike woken number (client ∷ clients) zero zero le none = refl
names_alike woken number (client ∷ clients) zero (suc to) le none =
    let here : number + 0 ≡ number = omega arith in
    let first : is_woken woken number ≡ false = ap (is_woken woken) (sym here) ∙ none 0 (omega arith) (omega arith) in
    let later = names_alike woken (number + 1) clients 0 to (omega arith) (λ k above below. ap (is_woken woken) (next number k) ∙ none (suc k) (omega arith) (omega (arith, below))) in
    later ∙ ap (λ text. text ++ names woken (take to (enumerate_from (number + 1) clients))) (sym (not_named woken number client first))
  where
    next : (number k : ℕ) → number + 1 + k ≡ number + suc k
    next number k = omega arith
names_alike woken number (client ∷ clients) (suc from) zero le none = absurd (omega (arith, le))
names_alike woken number (client ∷ clients) (suc from) (suc to) le none =
    ap (λ text. woken_name woken number client ++ text)
    (names_alike woken (number + 1) clients from to (omega (arith, le)) (λ k above below. ap (is_woken woken) (next number k) ∙ none (suc k) (omega (arith, above)) (omega (arith, below))))
  where
    next : (number k : ℕ) → number + 1 + k ≡ number + suc k
    next number k = omega arith

pub names_up_to : (woken : ℕ) (clients : List Client) (from to : ℕ) → from ≤ to
    → ((number : ℕ) → from ≤ number → number < to → is_woken woken number ≡ false)
    → flat_map (λ one. woken_name woken one.0 one.1) (take from (enumerate_from 0 clients))
    ≡ flat_map (λ one. woken_name woken one.0 one.1) (take to (enumerate_from 0 clients))
names_up_to woken clients from to le none =
    names_alike woken 0 clients from to le (λ k above below. let same : 0 + k ≡ k = omega arith in ap (is_woken woken) same ∙ none k above below)

-- a blank and the name of one that is woken, as it was written
pub named : (woken number : ℕ) (client : Client) (name : List ℕ) → name ≡ client.name
    → is_woken woken number ≡ true → codes " " ++ (name ++ []) ≡ woken_name woken number client
named woken number client name is set =
    let text : codes " " ++ (name ++ []) ≡ codes " " ++ client.name = ap (λ bytes. codes " " ++ bytes) (append-nil name ∙ is) in
    rw set text
