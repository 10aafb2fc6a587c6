-- For private contracts: the texts of parts of certificates.
use Rattle.std.specs.Prelude.{◌≡◌, ℕ, zero, suc, ◌+◌, ◌-◌, ◌<◌, ◌≤◌, ◌^◌, ℤ, pos, negsuc}
use Rattle.std.specs.Prelude.{List, [], ◌∷◌, ◌++◌, length, All, codes, decimal, Option, Some, None}
use Rattle.std.specs.Borrow.{Bor}
use Rattle.std.specs.Fmt.{signed_decimal}
use Rattle.std.specs.List.{flat_map}
use Rattle.logic_linear.specs.declared.form.Term.{Term}
use Rattle.logic_linear.specs.Linear.{Linear}
use Rattle.logic_cert.specs.declared.cert.Combine.{Combine}
use Rattle.logic_cert.specs.CertText.{cert_text, combine_text, form_text, multiple_text, term_text}
use Rattle.logic_cert.specs.inner.Texts.{later_texts}
use Rattle.logic_cert.specs.declared.cert.Cert.{Cert}
use Rattle.logic_outline.specs.declared.outline.Node.{Node}
use Rattle.logic_outline.specs.declared.outline.Node.TheVariants.{Parts, End, Sides}
use Rattle.logic_outline.specs.Outlines.{IsCombine, IsFactor}

-- A number below this one.
abbrev pub IsBelow : ℕ → ℕ → Type 0
IsBelow limit number = number < limit

-- A number after a blank.
abbrev pub later_number : ℕ → List ℕ
later_number number = codes " " ++ decimal number

-- A factor after a blank.
abbrev pub later_factor : ℤ → List ℕ
later_factor factor = codes " " ++ signed_decimal factor

-- A factor from zero on.
abbrev pub IsFromZero : ℤ → Type 0
IsFromZero (pos n) = n < 2 ^ 127
IsFromZero (negsuc n) = ⊥

-- A factor below zero.
abbrev pub IsBelowZero : ℤ → Type 0
IsBelowZero (pos n) = ⊥
IsBelowZero (negsuc n) = n < 2 ^ 127

-- The text of a factor below zero after its sign.
abbrev pub text_below_zero : ℤ → List ℕ
text_below_zero (pos n) = []
text_below_zero (negsuc n) = decimal (suc n)

-- A row's number or a place, and how many times it counts.
abbrev pub pair_text : ℕ × ℤ → List ℕ
pair_text pair = multiple_text pair.0 pair.1

abbrev pub IsPair : ℕ × ℤ → Type 0
IsPair pair = (pair.0 < 2 ^ 32) × IsFactor pair.1

-- The two numbers of a clash.
abbrev pub clash_text : ℕ × ℕ → List ℕ
clash_text rows = later_number rows.0 ++ later_number rows.1

abbrev pub IsClash : ℕ × ℕ → Type 0
IsClash rows = (rows.0 < 2 ^ 32) × (rows.1 < 2 ^ 32)

-- Made rows, one after the other.
abbrev pub combines_text : List Combine → List ℕ
combines_text combines = flat_map combine_text combines

-- So many made rows.
abbrev pub AreCombines : ℕ → List Combine → Type 0
AreCombines count combines = (length combines ≡ count) × All IsCombine combines

-- The rest of a chain after its word.
abbrev pub chain_text : List Combine → List ℕ
chain_text combines = later_number (length combines) ++ combines_text combines

abbrev pub IsChain : List Combine → Type 0
IsChain combines = (length combines < 2 ^ 64) × All IsCombine combines

-- A term whose place has 32 bits.
abbrev pub IsTypedTerm : Term → Type 0
IsTypedTerm term = (term.place < 2 ^ 32) × IsFactor term.times

-- Terms, one after the other.
abbrev pub all_terms_text : List Term → List ℕ
all_terms_text terms = flat_map term_text terms

-- So many terms.
abbrev pub AreTerms : ℕ → List Term → Type 0
AreTerms count terms = (length terms ≡ count) × All IsTypedTerm terms

-- How many terms there are, and the terms.
abbrev pub terms_text : List Term → List ℕ
terms_text terms = later_number (length terms) ++ all_terms_text terms

abbrev pub IsTerms : List Term → Type 0
IsTerms terms = (length terms < 2 ^ 64) × All IsTypedTerm terms

-- Terms and a constant, which may be no form.
abbrev pub sum_text : List Term × ℤ → List ℕ
sum_text sum = terms_text sum.0 ++ later_factor sum.1

abbrev pub IsSum : List Term × ℤ → Type 0
IsSum sum = IsTerms sum.0 × IsFactor sum.1

-- A form after a blank.
abbrev pub later_form : Linear → List ℕ
later_form form = codes " " ++ form_text form

-- The form of cases after their word, and the word of the first side.
abbrev pub sides_text : Linear → List ℕ
sides_text form = later_form form ++ codes " below"

-- A node: of a split its word and its number, of cases their form between two words.
abbrev pub node_text : Node → List ℕ
node_text (Parts count) = codes "split" ++ later_number count
node_text (End cert) = cert_text cert
node_text (Sides form) = codes "cases" ++ sides_text form

-- A node after a blank.
abbrev pub later_node : Node → List ℕ
later_node node = codes " " ++ node_text node

-- ---- what is due

-- The text of certificates, each list after the first with the word of the second side before it.
abbrev pub above_texts : List (List Cert) → List ℕ
above_texts [] = []
above_texts (certs ∷ later) = codes " above" ++ later_texts certs ++ above_texts later

abbrev pub due_texts : List Cert → List (List Cert) → List ℕ
due_texts certs later = later_texts certs ++ above_texts later

-- How many certificates come at once after a node, where so many came with it.
abbrev pub opened : Node → ℕ → ℕ
opened (Parts count) due = (due - 1) + count
opened (End cert) due = due - 1
opened (Sides form) due = 1

-- There are as many, unless there are more than bytes.
abbrev pub IsOpened : Node → ℕ → ℕ → Option ℕ → Type 0
IsOpened node due bytes (Some count) = (count ≡ opened node due) × (count ≤ bytes)
IsOpened node due bytes None = bytes < opened node due

-- How many come after each word of a second side: after cases the second side and what came with
-- them.
abbrev pub later_after : Node → ℕ → List ℕ → List ℕ
later_after (Parts count) due later = later
later_after (End cert) due later = later
later_after (Sides form) due later = due ∷ later

-- Where so many certificates come at once, and so many after each word of a second side, that word
-- is read where none comes before it.
abbrev pub IsResumed : ℕ → List ℕ → List ℕ → List ℕ → Option (ℕ × Bor (List ℕ)) → Type 0
IsResumed (suc count) later bytes new None = length bytes < suc count
IsResumed zero [] bytes new None = ⊥
IsResumed zero (due ∷ later) bytes new None = (rest : List ℕ) → codes " above" ++ rest ≡ bytes → ⊥
IsResumed (suc count) later bytes new (Some at) =
    (at.0 ≡ suc count) × (at.1.now ≡ bytes) × (new ≡ later)
IsResumed zero [] bytes new (Some at) = (at.0 ≡ 0) × (at.1.now ≡ bytes) × (new ≡ [])
IsResumed zero (due ∷ later) bytes new (Some at) =
    (at.0 ≡ due) × (codes " above" ++ at.1.now ≡ bytes) × (new ≡ later)

-- What is read after a node.
abbrev pub IsAfter : Node → ℕ → List ℕ → List ℕ → List ℕ → Option (ℕ × Bor (List ℕ)) → Type 0
IsAfter node due later bytes new read =
    IsResumed (opened node due) (later_after node due later) bytes new read
