-- The names of those that a reply woke say who was woken. Bytes: 10 is a line feed, 32 a blank.
use Rattle.std.proofs.Common.{◌≡◌, ◌≢◌, ◌==◌, ℕ, zero, suc, ◌+◌, ◌^◌, ◌<◌, ◌≤◌, ◌↔◌, Bool, true, false, not, cond, List, [], ◌∷◌, ◌++◌, length, codes, ap, sym, refl, subst, ◌∙◌, append_assoc, arith, inl, inr, eqb-true, eq-eqb}
use Rattle.std.specs.Prelude.{AllPairs, IsBitSet, bit_and}
use Rattle.std.specs.Int.{bit_at}
use Rattle.std.specs.List.{flat_map, enumerate_from, AllByRecursion as Each}
use Rattle.std.proofs.lemmas.Bool.{true≢false, cases_lt, not-false}
use Rattle.std.proofs.lemmas.List.{append_cancel_left}
use Rattle.std.proofs.lemmas.List.Elements.{recursion_from_All}
use Rattle.std.proofs.lemmas.Nat.{bit_set_by_shift}
use Rattle.std.proofs.lemmas.Nat.Bits.{shr_and_one, bit_at-lt, bit_at-zero, same_from_bits}
use Rattle.lang_base.specs.Identifiers.{IsIdentifier, is_word_byte}
use Rattle.machine_implicit.specs.declared.script.Client.{Client}
use Rattle.machine_implicit.specs.Scripted.{AreClients}
use Rattle.report_text.specs.LogText.{is_woken, woken_name, woken_names, wakes_text}
use Rattle.lang_base.proofs.Cuts.{same_first, same_rest, stops, cut}
use Rattle.lang_base.proofs.Lines.{HasNoLineFeed, both_in_line, words_in_line}
use Rattle.lang_base.proofs.Words.{name_words}

-- ---- clients with distinct names, by recursion

abbrev AreApart : List Client → Type 0
AreApart [] = Unit {0}
AreApart (client ∷ clients) = Each (λ other. client.name ≢ other.name) clients × AreApart clients

first_apart : (client : Client) (clients : List Client)
    → AllPairs (λ one other. one.name ≢ other.name) (client ∷ clients)
    → Each (λ other. client.name ≢ other.name) clients
first_apart client clients distinct = recursion_from_All (λ (other : Client). client.name ≢ other.name) clients (λ k d within. distinct zero (suc k) d (omega arith) (omega (arith, within)))

are_apart : (clients : List Client) → AllPairs (λ one other. one.name ≢ other.name) clients
    → AreApart clients
are_apart [] distinct = tt
are_apart (client ∷ clients) distinct =
    (first_apart client clients distinct, are_apart clients (λ i j d below within. distinct (suc i) (suc j) d (omega (arith, below)) (omega (arith, within))))

abbrev AreNamed : List Client → Type 0
AreNamed clients = Each (λ client. IsIdentifier client.name) clients

are_named : (clients : List Client) → AreClients clients → AreNamed clients
are_named clients are = recursion_from_All (λ (client : Client). IsIdentifier client.name) clients are.names

-- ---- the names of those that are woken, from a number on

abbrev names_from : ℕ → ℕ → List Client → List ℕ
names_from woken number clients = flat_map (λ one. woken_name woken one.0 one.1) (enumerate_from number clients)

names_in_line : (woken number : ℕ) (clients : List Client) → AreNamed clients
    → HasNoLineFeed (names_from woken number clients)
names_in_line woken number [] named = refl
names_in_line woken number (client ∷ clients) named =
    both_in_line (woken_name woken number client) (names_from woken (number + 1) clients) (by_test (is_woken woken number)) (names_in_line woken (number + 1) clients named.1)
  where
    by_test : (test : Bool) → HasNoLineFeed (cond test (codes " " ++ client.name) [])
    by_test true = both_in_line (codes " ") client.name refl (words_in_line client.name (name_words client.name named.0))
    by_test false = refl

pub wakes_in_line : (clients : List Client) (woken : ℕ) → AreClients clients
    → HasNoLineFeed (wakes_text clients woken)
wakes_in_line clients woken are = by_test (woken == 0)
  where
    by_test : (test : Bool)
        → HasNoLineFeed (cond test [] (codes " wakes" ++ woken_names woken clients))
    by_test true = refl
    by_test false = both_in_line (codes " wakes") (woken_names woken clients) refl (names_in_line woken 0 clients (are_named clients are))

-- the names, and the end of the line
abbrev line_from : ℕ → ℕ → List Client → List ℕ
line_from woken number clients = names_from woken number clients ++ codes "\n"

-- one name more, or none
line_more : (woken number : ℕ) (client : Client) (clients : List Client)
    → line_from woken number (client ∷ clients)
    ≡ cond (is_woken woken number) (codes " " ++ client.name) [] ++ line_from woken
    (number + 1) clients
line_more woken number client clients = append_assoc (woken_name woken number client) (names_from woken (number + 1) clients) (codes "\n")

named_stops : (test : Bool) (name rest : List ℕ) → stops is_word_byte rest ≡ true
    → stops is_word_byte (cond test (codes " " ++ name) [] ++ rest) ≡ true
named_stops true name rest end = refl
named_stops false name rest end = end

line_stops : (woken number : ℕ) (clients : List Client)
    → stops is_word_byte (line_from woken number clients) ≡ true
line_stops woken number [] = refl
line_stops woken number (client ∷ clients) =
    ap (stops is_word_byte) (line_more woken number client clients)
    ∙ named_stops (is_woken woken number) client.name (line_from woken (number + 1) clients) (line_stops woken (number + 1) clients)

-- the text does not go on with this name
abbrev IsNotNext : List ℕ → List ℕ → Type 0
IsNotNext name text = (more : List ℕ) → stops is_word_byte more ≡ true → text ≡ codes " " ++ (name ++ more) → ⊥

other_not_next : (test : Bool) (name other rest : List ℕ) → IsIdentifier name → IsIdentifier other
    → name ≢ other → stops is_word_byte rest ≡ true → IsNotNext name rest
    → IsNotNext name (cond test (codes " " ++ other) [] ++ rest)
other_not_next true name other rest is also differs ends later more end same =
    differs (sym (cut is_word_byte other name rest more (name_words other also) (name_words name is) ends end (same_rest 32 32 (other ++ rest) (name ++ more) same)).0)
other_not_next false name other rest is also differs ends later more end same = later more end same

is_not_next : (name : List ℕ) → IsIdentifier name → (woken number : ℕ) (clients : List Client)
    → AreNamed clients → Each (λ client. name ≢ client.name) clients
    → IsNotNext name (line_from woken number clients)
is_not_next name is woken number [] named apart = λ more end same. omega (arith, same_first 10 32 [] (name ++ more) same)
is_not_next name is woken number (client ∷ clients) named apart =
    let rest : List ℕ = line_from woken (number + 1) clients in
    subst (IsNotNext name) (sym (line_more woken number client clients))
    (other_not_next (is_woken woken number) name client.name rest is named.0 apart.0 (line_stops woken (number + 1) clients) (is_not_next name is woken (number + 1) clients named.1 apart.1))

-- ---- two lines of names

-- whether one is named, from the first name, and what stands after it
same_named : (test also : Bool) (name rest others : List ℕ) → stops is_word_byte rest ≡ true
    → stops is_word_byte others ≡ true → IsNotNext name rest → IsNotNext name others
    → cond test (codes " " ++ name) [] ++ rest ≡ cond also (codes " " ++ name) [] ++ others
    → (test ≡ also) × (rest ≡ others)
same_named true true name rest others end ends later more same = (refl, append_cancel_left (codes " " ++ name) rest others same)
same_named false false name rest others end ends later more same = (refl, same)
same_named true false name rest others end ends later more same = absurd (more rest end (sym same))
same_named false true name rest others end ends later more same = absurd (later others ends same)

same_tests : (woken other number : ℕ) (clients : List Client) → AreNamed clients → AreApart clients
    → line_from woken number clients ≡ line_from other number clients
    → (k : ℕ) → k < length clients → is_woken woken (number + k) ≡ is_woken other (number + k)
same_tests woken other number [] named apart same k within = absurd (omega (arith, within))
same_tests woken other number (client ∷ clients) named apart same k within =
    let rest : List ℕ = line_from woken (number + 1) clients in
    let others : List ℕ = line_from other (number + 1) clients in
    let parts =
    same_named (is_woken woken number) (is_woken other number) client.name rest others (line_stops woken (number + 1) clients) (line_stops other (number + 1) clients)
    (is_not_next client.name named.0 woken (number + 1) clients named.1 apart.0) (is_not_next client.name named.0 other (number + 1) clients named.1 apart.0)
    (sym (line_more woken number client clients) ∙ same ∙ line_more other number client clients) in
    at_place woken other number k (length clients) parts.0 (same_tests woken other (number + 1) clients named.1 apart.1 parts.1) (omega (arith, within))
  where
    at_place : (woken other number k count : ℕ) → is_woken woken number ≡ is_woken other number
        → ((k : ℕ) → k < count → is_woken woken (number + 1 + k) ≡ is_woken other (number + 1 + k))
        → k < suc count → is_woken woken (number + k) ≡ is_woken other (number + k)
    at_place woken other number zero count first later within =
        let here : number + 0 ≡ number = omega arith in ap (is_woken woken) here ∙ first ∙ ap (is_woken other) (sym here)
    at_place woken other number (suc k) count first later within =
        let here : number + suc k ≡ number + 1 + k = omega arith in ap (is_woken woken) here ∙ later k (omega (arith, within)) ∙ ap (is_woken other) (sym here)

-- ---- the bits

bit_is : (woken client : ℕ) → IsBitSet woken client ↔ (bit_at woken client ≡ 1)
bit_is woken client = (
  (λ is. sym (shr_and_one woken client) ∙ (bit_set_by_shift woken client).1 is),
  (λ one. (bit_set_by_shift woken client).0 (shr_and_one woken client ∙ one)),
)

test_is : (woken client : ℕ) → is_woken woken client ≡ true → IsBitSet woken client
test_is woken client test none = true≢false (sym test ∙ ap not (eq-eqb (bit_and woken (2 ^ client)) 0 none))

no_test : (woken client : ℕ) → is_woken woken client ≡ false → IsBitSet woken client → ⊥
no_test woken client test set = set (eqb-true (bit_and woken (2 ^ client)) 0 (not-false (bit_and woken (2 ^ client) == 0) test))

same_bit : (woken other client : ℕ) (test : Bool) → is_woken woken client ≡ test
    → is_woken other client ≡ test → bit_at woken client ≡ bit_at other client
same_bit woken other client true one two = (bit_is woken client).0 (test_is woken client one) ∙ sym ((bit_is other client).0 (test_is other client two))
same_bit woken other client false one two =
    let here : bit_at woken client ≡ 1 → ⊥ = λ set. no_test woken client one ((bit_is woken client).1 set) in
    let there : bit_at other client ≡ 1 → ⊥ = λ set. no_test other client two ((bit_is other client).1 set) in
    no_bits (bit_at woken client) (bit_at other client) here there (bit_at-lt woken client) (bit_at-lt other client)
  where
    no_bits : (a b : ℕ) → (a ≡ 1 → ⊥) → (b ≡ 1 → ⊥) → a < 2 → b < 2 → a ≡ b
    no_bits a b here there low high = omega (arith, here, there, low, high)

pub set_is_woken : (woken client : ℕ) → bit_at woken client ≡ 1 → is_woken woken client ≡ true
set_is_woken woken client one = by_test (is_woken woken client) refl
  where
    by_test : (test : Bool) → is_woken woken client ≡ test → test ≡ true
    by_test true is = refl
    by_test false is = absurd (no_test woken client is ((bit_is woken client).1 one))

pub clear_is_not : (woken client : ℕ) → bit_at woken client ≡ 0 → is_woken woken client ≡ false
clear_is_not woken client none = by_test (is_woken woken client) refl
  where
    by_test : (test : Bool) → is_woken woken client ≡ test → test ≡ false
    by_test true is = absurd (omega (arith, none, (bit_is woken client).0 (test_is woken client is)))
    by_test false is = refl

-- the bits are those of clients
abbrev pub AreClientBits : ℕ → ℕ → Type 0
AreClientBits count woken = (client : ℕ) → IsBitSet woken client → client < count

pub no_client_bits : (count : ℕ) → AreClientBits count 0
no_client_bits count client set = absurd (omega (arith, (bit_is 0 client).0 set, bit_at-zero client))

past_all : (count woken client : ℕ) → AreClientBits count woken → count ≤ client → (test : Bool)
    → is_woken woken client ≡ test → is_woken woken client ≡ false
past_all count woken client few past true is = absurd (omega (arith, past, few client (test_is woken client is)))
past_all count woken client few past false is = is

same_everywhere : (count woken other : ℕ) → AreClientBits count woken → AreClientBits count other
    → ((k : ℕ) → k < count → is_woken woken (0 + k) ≡ is_woken other (0 + k)) → woken ≡ other
same_everywhere count woken other few also tests = same_from_bits woken other (λ client. same_bit woken other client (is_woken other client) (at client) refl)
  where
    at : (client : ℕ) → is_woken woken client ≡ is_woken other client
    at client = elim (cases_lt client count) [
      | inl within ↦ let here : 0 + client ≡ client = omega arith in ap (is_woken woken) (sym here) ∙ tests client within ∙ ap (is_woken other) here
      | inr past ↦ past_all count woken client few past (is_woken woken client) refl ∙ sym (past_all count other client also past (is_woken other client) refl)
    ]

-- what stands in a line from ` wakes` on says who was woken
pub same_wakes : (clients : List Client) (woken other : ℕ) → AreClients clients
    → AreClientBits (length clients) woken → AreClientBits (length clients) other
    → wakes_text clients woken ++ codes "\n" ≡ wakes_text clients other ++ codes "\n"
    → woken ≡ other
same_wakes clients woken other are few also same = by_tests (woken == 0) (other == 0) refl refl same
  where
    by_tests : (none nobody : Bool) → (woken == 0) ≡ none → (other == 0) ≡ nobody
        → cond none [] (codes " wakes" ++ woken_names woken clients) ++ codes "\n"
        ≡ cond nobody [] (codes " wakes" ++ woken_names other clients) ++ codes "\n" → woken ≡ other
    by_tests true true one two same = eqb-true woken 0 one ∙ sym (eqb-true other 0 two)
    by_tests false false one two same =
        same_everywhere (length clients) woken other few also (same_tests woken other 0 clients (are_named clients are) (are_apart clients are.distinct)
        (append_cancel_left (codes " wakes") (line_from woken 0 clients) (line_from other 0 clients) same))
    by_tests true false one two same = absurd (omega (arith, same_first 10 32 [] (codes "wakes" ++ line_from other 0 clients) same))
    by_tests false true one two same = absurd (omega (arith, same_first 32 10 (codes "wakes" ++ line_from woken 0 clients) [] same))
