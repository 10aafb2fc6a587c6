-- The parts of a node's text, and its four kinds.
use Rattle.std.proofs.Common.{◌≡◌, Bor, Option, None, Some, Result, Ok, Err, IfOk, ℕ, ◌<◌, ◌^◌, List, ◌∷◌, ◌++◌, length, codes, sym, ap, refl, ◌∙◌, subst, append_assoc, arith}
use Rattle.std.proofs.lemmas.List.{append_cancel_left}
use Rattle.logic_linear.specs.Linear.{Linear}
use Rattle.logic_cert.specs.declared.cert.Combine.{Combine}
use Rattle.logic_cert.specs.declared.cert.Cert.{Cert, out-Cert}
use Rattle.logic_cert.specs.declared.cert.Cert.TheOpen.{Cert-F}
use Rattle.logic_cert.specs.declared.cert.Cert.TheOpen as layers
use Rattle.logic_cert.specs.declared.cert.Cert.TheVariants.{Clash, Chain, rolls-Clash, rolls-Chain}
use Rattle.logic_cert.specs.declared.cert.Cert.TheViews.{roll-Cert, out-roll-Cert, roll-out-Cert}
use Rattle.logic_cert.specs.CertText.{cert_text, combine_text}
use Rattle.logic_cert.proofs.TextLemmas.{text-Clash, text-Chain}
use Rattle.logic_outline.specs.declared.outline.Node.{Node}
use Rattle.logic_outline.specs.declared.outline.Node.TheVariants.{Parts, End, Sides}
use Rattle.logic_outline.specs.Outlines.{IsCombine, IsEnd, IsFactor, IsForm, IsTyped}
use Rattle.logic_outline.specs.Readings.{EndsNumber, IsRead}
use Rattle.logic_outline.specs.inner.Parts.{AreCombines, chain_text, clash_text, combines_text, IsBelow, IsChain, IsClash, IsPair, later_factor, later_number, node_text, pair_text, sides_text}
use Rattle.logic_outline.proofs.Readings.{Joins, ends_items, joined, second_fails}

-- ---- parts one after the other

abbrev pub pair_joins : Joins later_number (IsBelow (2 ^ 32)) later_factor
    (λ row. IsFactor) pair_text IsPair
pair_joins = record { join = λ a b. (a, b); head = λ c. c.0; tail = λ c. c.1; is = λ c. refl; spelled = λ a b h. refl; ends = λ b rest h. refl; parts = λ c p. p; good = λ a b p q. (p, q) }

abbrev pub clash_joins : Joins later_number (IsBelow (2 ^ 32)) later_number
    (λ row. IsBelow (2 ^ 32)) clash_text IsClash
clash_joins = record { join = λ a b. (a, b); head = λ c. c.0; tail = λ c. c.1; is = λ c. refl; spelled = λ a b h. refl; ends = λ b rest h. refl; parts = λ c p. p; good = λ a b p q. (p, q) }

abbrev pub combine_joins : Joins pair_text IsPair pair_text (λ pair. IsPair) combine_text IsCombine
combine_joins = record {
  join = λ a b. record { left = a.0; left_times = a.1; right = b.0; right_times = b.1 };
  head = λ c. (c.left, c.left_times);
  tail = λ c. (c.right, c.right_times);
  is = λ c. refl;
  spelled = λ a b h. refl;
  ends = λ b rest h. refl;
  parts = λ c p. ((p.0, p.1), (p.2, p.3));
  good = λ a b p q. (p.0, p.1, q.0, q.1);
}

pub combine_starts : (combine : Combine) (rest : List ℕ) → EndsNumber (combine_text combine ++ rest)
combine_starts combine rest = refl

abbrev pub chain_joins : Joins later_number
    (IsBelow (2 ^ 64)) combines_text AreCombines chain_text IsChain
chain_joins = record {
  join = λ a b. b;
  head = λ c. length c;
  tail = λ c. c;
  is = λ c. refl;
  spelled = λ a b h. ap (λ (n : ℕ). later_number n ++ combines_text b) h.0;
  ends = λ b rest h. ends_items combine_text IsCombine combine_starts b rest h;
  parts = λ c p. (p.0, (refl, p.1));
  good = λ a b p q. (subst (λ (n : ℕ). n < 2 ^ 64) (sym q.0) p, q.1);
}

pub chain_rest : {E : Type 0} (bytes : List ℕ) (count : ℕ × Bor (List ℕ))
    (read : Result (Option (List Combine × Bor (List ℕ))) E)
    → IsRead later_number (IsBelow (2 ^ 64)) bytes (Some count)
    → IfOk read (IsRead combines_text (AreCombines count.0) count.1.now)
    → IfOk read (IsRead chain_text IsChain bytes)
chain_rest bytes count (Err e) r s = tt
chain_rest bytes count (Ok None) r s = second_fails later_number (IsBelow (2 ^ 64)) combines_text AreCombines chain_text IsChain chain_joins bytes count r s
chain_rest bytes count (Ok (Some rows)) r s = joined later_number (IsBelow (2 ^ 64)) combines_text AreCombines chain_text IsChain chain_joins bytes count rows r s

-- ---- the four kinds

data Kind (node : Node) : Type 0 where
  a_split : (count : ℕ) → node ≡ Parts count → count < 2 ^ 64 → Kind node
  a_clash : (left right : ℕ) → node ≡ End (Clash left right) → IsClash (left, right) → Kind node
  a_chain : (combines : List Combine) → node ≡ End (Chain combines) → IsChain combines → Kind node
  some_cases : (form : Linear) → node ≡ Sides form → IsForm form → Kind node

kind_of_layer : (cert : Cert) (layer : Cert-F Cert) → cert ≡ roll-Cert layer → IsEnd layer → Kind (End cert)
kind_of_layer cert (layers.Split certs) is fits = absurd fits
kind_of_layer cert (layers.Clash left right) is fits = a_clash left right (ap End (is ∙ rolls-Clash left right)) fits
kind_of_layer cert (layers.Chain combines) is fits = a_chain combines (ap End (is ∙ rolls-Chain combines)) fits
kind_of_layer cert (layers.Cases form below above) is fits = absurd fits

kind_of : (node : Node) → IsTyped node → Kind node
kind_of (Parts count) fits = a_split count refl fits
kind_of (End cert) fits = kind_of_layer cert (out-Cert cert) (sym (roll-out-Cert cert)) fits
kind_of (Sides form) fits = some_cases form refl fits

pub typed_end : (cert : Cert) (layer : Cert-F Cert) → roll-Cert layer ≡ cert → IsEnd layer → IsTyped (End cert)
typed_end cert layer is fits = subst IsEnd (sym (out-roll-Cert layer) ∙ ap out-Cert is) fits

clash_spelled : (rows : ℕ × ℕ) → cert_text (Clash rows.0 rows.1) ≡ codes "clash" ++ clash_text rows
clash_spelled rows = sym (text-Clash (Clash rows.0 rows.1) rows.0 rows.1 refl)

chain_spelled : (combines : List Combine)
    → cert_text (Chain combines) ≡ codes "chain" ++ chain_text combines
chain_spelled combines = sym (text-Chain (Chain combines) combines combines combines refl refl refl)

-- the second byte tells which kind it is
abbrev second_byte : List ℕ → ℕ
second_byte (first ∷ second ∷ bytes) = second
second_byte bytes = 0

second_is : (node made : Node) (text left whole : List ℕ) → node ≡ made → node_text made ≡ text
    → node_text node ++ left ≡ whole → second_byte (text ++ left) ≡ second_byte whole
second_is node made text left whole is spelled same = ap second_byte (ap (λ (t : List ℕ). t ++ left) (sym spelled ∙ ap node_text (sym is)) ∙ same)

-- a node of one kind
record Made {A : Type 0} (make : A → Node) (Fits : A → Type 0) (node : Node) : Type 0 where
  value : A
  is : node ≡ make value
  fits : Fits value

module _ {A : Type 0} (make : A → Node) (text : A → List ℕ) (Fits : A → Type 0) (word : List ℕ)
    (spelled : (a : A) → node_text (make a) ≡ word ++ text a)
    (typed : (a : A) → Fits a → IsTyped (make a))
    (only : (node : Node) (left rest : List ℕ) → IsTyped node → node_text node ++ left ≡ word ++ rest → Made make Fits node) where
  at_rest : (node : Node) (left rest bytes : List ℕ) → word ++ rest ≡ bytes
      → node_text node ++ left ≡ bytes → (value : A) → node ≡ make value → text value ++ left ≡ rest
  at_rest node left rest bytes at same value is =
      append_cancel_left word (text value ++ left) rest (sym (append_assoc word (text value) left) ∙ ap (λ (t : List ℕ). t ++ left) (sym (spelled value) ∙ ap node_text (sym is)) ∙ same ∙ sym at)

  kind_none : (rest bytes : List ℕ) → word ++ rest ≡ bytes → IsRead text Fits rest None
      → IsRead node_text IsTyped bytes None
  kind_none rest bytes at r = record {
    found = tt;
    again = λ node left fits ends same.
        let made = only node left rest fits (same ∙ sym at) in
        r.again made.value left made.fits ends (at_rest node left rest bytes at same made.value made.is);
  }

  kind_some : (rest bytes : List ℕ) (a : A × Bor (List ℕ)) → word ++ rest ≡ bytes
      → IsRead text Fits rest (Some a)
      → IsRead node_text IsTyped bytes (Some (make a.0, a.1))
  kind_some rest bytes a at r = record {
    found = (typed a.0 r.found.0, ap (λ (t : List ℕ). t ++ a.1.now) (spelled a.0) ∙ append_assoc word (text a.0) a.1.now ∙ ap (λ (t : List ℕ). word ++ t) r.found.1 ∙ at);
    again = λ node left fits ends same.
        let made = only node left rest fits (same ∙ sym at) in
        let got = r.again made.value left made.fits ends (at_rest node left rest bytes at same made.value made.is) in
        (ap make got.0 ∙ sym made.is, got.1);
  }

abbrev clash_of : ℕ × ℕ → Node
clash_of rows = End (Clash rows.0 rows.1)

abbrev chain_of : List Combine → Node
chain_of combines = End (Chain combines)

clash_typed : (rows : ℕ × ℕ) → IsClash rows → IsTyped (clash_of rows)
clash_typed rows fits = typed_end (Clash rows.0 rows.1) (layers.Clash rows.0 rows.1) (rolls-Clash rows.0 rows.1) fits

chain_typed : (combines : List Combine) → IsChain combines → IsTyped (chain_of combines)
chain_typed combines fits = typed_end (Chain combines) (layers.Chain combines) (rolls-Chain combines) fits

only_split : (node : Node) (left rest : List ℕ) → IsTyped node
    → node_text node ++ left ≡ codes "split" ++ rest → Made Parts (IsBelow (2 ^ 64)) node
only_split node left rest typed same = by (kind_of node typed)
  where
    by : Kind node → Made Parts (IsBelow (2 ^ 64)) node
    by (a_split count is fits) = record { value = count; is = is; fits = fits }
    by (a_clash one other is fits) = let bytes : 108 ≡ 112 = second_is node (clash_of (one, other)) (codes "clash" ++ clash_text (one, other)) left (codes "split" ++ rest) is (clash_spelled (one, other)) same in absurd (omega (arith, bytes))
    by (a_chain combines is fits) = let bytes : 104 ≡ 112 = second_is node (chain_of combines) (codes "chain" ++ chain_text combines) left (codes "split" ++ rest) is (chain_spelled combines) same in absurd (omega (arith, bytes))
    by (some_cases form is fits) = let bytes : 97 ≡ 112 = second_is node (Sides form) (codes "cases" ++ sides_text form) left (codes "split" ++ rest) is refl same in absurd (omega (arith, bytes))

only_clash : (node : Node) (left rest : List ℕ) → IsTyped node
    → node_text node ++ left ≡ codes "clash" ++ rest → Made clash_of IsClash node
only_clash node left rest typed same = by (kind_of node typed)
  where
    by : Kind node → Made clash_of IsClash node
    by (a_split count is fits) = let bytes : 112 ≡ 108 = second_is node (Parts count) (codes "split" ++ later_number count) left (codes "clash" ++ rest) is refl same in absurd (omega (arith, bytes))
    by (a_clash one other is fits) = record { value = (one, other); is = is; fits = fits }
    by (a_chain combines is fits) = let bytes : 104 ≡ 108 = second_is node (chain_of combines) (codes "chain" ++ chain_text combines) left (codes "clash" ++ rest) is (chain_spelled combines) same in absurd (omega (arith, bytes))
    by (some_cases form is fits) = let bytes : 97 ≡ 108 = second_is node (Sides form) (codes "cases" ++ sides_text form) left (codes "clash" ++ rest) is refl same in absurd (omega (arith, bytes))

only_chain : (node : Node) (left rest : List ℕ) → IsTyped node
    → node_text node ++ left ≡ codes "chain" ++ rest → Made chain_of IsChain node
only_chain node left rest typed same = by (kind_of node typed)
  where
    by : Kind node → Made chain_of IsChain node
    by (a_split count is fits) = let bytes : 112 ≡ 104 = second_is node (Parts count) (codes "split" ++ later_number count) left (codes "chain" ++ rest) is refl same in absurd (omega (arith, bytes))
    by (a_clash one other is fits) = let bytes : 108 ≡ 104 = second_is node (clash_of (one, other)) (codes "clash" ++ clash_text (one, other)) left (codes "chain" ++ rest) is (clash_spelled (one, other)) same in absurd (omega (arith, bytes))
    by (a_chain combines is fits) = record { value = combines; is = is; fits = fits }
    by (some_cases form is fits) = let bytes : 97 ≡ 104 = second_is node (Sides form) (codes "cases" ++ sides_text form) left (codes "chain" ++ rest) is refl same in absurd (omega (arith, bytes))

only_cases : (node : Node) (left rest : List ℕ) → IsTyped node
    → node_text node ++ left ≡ codes "cases" ++ rest → Made Sides IsForm node
only_cases node left rest typed same = by (kind_of node typed)
  where
    by : Kind node → Made Sides IsForm node
    by (a_split count is fits) = let bytes : 112 ≡ 97 = second_is node (Parts count) (codes "split" ++ later_number count) left (codes "cases" ++ rest) is refl same in absurd (omega (arith, bytes))
    by (a_clash one other is fits) = let bytes : 108 ≡ 97 = second_is node (clash_of (one, other)) (codes "clash" ++ clash_text (one, other)) left (codes "cases" ++ rest) is (clash_spelled (one, other)) same in absurd (omega (arith, bytes))
    by (a_chain combines is fits) = let bytes : 104 ≡ 97 = second_is node (chain_of combines) (codes "chain" ++ chain_text combines) left (codes "cases" ++ rest) is (chain_spelled combines) same in absurd (omega (arith, bytes))
    by (some_cases form is fits) = record { value = form; is = is; fits = fits }

pub split_none : (rest bytes : List ℕ) → codes "split" ++ rest ≡ bytes
    → IsRead later_number (IsBelow (2 ^ 64)) rest None → IsRead node_text IsTyped bytes None
split_none = kind_none Parts later_number (IsBelow (2 ^ 64)) (codes "split") (λ count. refl) (λ count fits. fits) only_split

pub split_some : (rest bytes : List ℕ) (a : ℕ × Bor (List ℕ)) → codes "split" ++ rest ≡ bytes
    → IsRead later_number (IsBelow (2 ^ 64)) rest (Some a)
    → IsRead node_text IsTyped bytes (Some (Parts a.0, a.1))
split_some = kind_some Parts later_number (IsBelow (2 ^ 64)) (codes "split") (λ count. refl) (λ count fits. fits) only_split

pub clash_none : (rest bytes : List ℕ) → codes "clash" ++ rest ≡ bytes
    → IsRead clash_text IsClash rest None → IsRead node_text IsTyped bytes None
clash_none = kind_none clash_of clash_text IsClash (codes "clash") clash_spelled clash_typed only_clash

pub clash_some : (rest bytes : List ℕ) (a : (ℕ × ℕ) × Bor (List ℕ))
    → codes "clash" ++ rest ≡ bytes → IsRead clash_text IsClash rest (Some a)
    → IsRead node_text IsTyped bytes (Some (End (Clash a.0.0 a.0.1), a.1))
clash_some = kind_some clash_of clash_text IsClash (codes "clash") clash_spelled clash_typed only_clash

pub chain_none : (rest bytes : List ℕ) → codes "chain" ++ rest ≡ bytes
    → IsRead chain_text IsChain rest None → IsRead node_text IsTyped bytes None
chain_none = kind_none chain_of chain_text IsChain (codes "chain") chain_spelled chain_typed only_chain

pub chain_some : (rest bytes : List ℕ) (a : List Combine × Bor (List ℕ))
    → codes "chain" ++ rest ≡ bytes → IsRead chain_text IsChain rest (Some a)
    → IsRead node_text IsTyped bytes (Some (End (Chain a.0), a.1))
chain_some = kind_some chain_of chain_text IsChain (codes "chain") chain_spelled chain_typed only_chain

pub cases_none : (rest bytes : List ℕ) → codes "cases" ++ rest ≡ bytes
    → IsRead sides_text IsForm rest None → IsRead node_text IsTyped bytes None
cases_none = kind_none Sides sides_text IsForm (codes "cases") (λ form. refl) (λ form fits. fits) only_cases

pub cases_some : (rest bytes : List ℕ) (a : Linear × Bor (List ℕ))
    → codes "cases" ++ rest ≡ bytes → IsRead sides_text IsForm rest (Some a)
    → IsRead node_text IsTyped bytes (Some (Sides a.0, a.1))
cases_some = kind_some Sides sides_text IsForm (codes "cases") (λ form. refl) (λ form fits. fits) only_cases
