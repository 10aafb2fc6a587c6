-- The line of a claim with its certificate: it ends in its only line feed.
use Rattle.std.proofs.Common.{ℕ, zero, suc, ◌+◌, ◌-◌, ◌<◌, Bool, true, false, List, [], ◌∷◌, ◌++◌, length, map, codes, decimal, ℤ, Option, Some, None, refl, ap, subst, ◌∙◌, arith}
use Rattle.std.specs.Prelude.{slice_get}
use Rattle.std.specs.List.{list_all, flat_map}
use Rattle.std.specs.Option.{option_map_or}
use Rattle.std.specs.Fmt.{signed_decimal}
use Rattle.logic_linear.specs.Linear.{Linear}
use Rattle.logic_cert.specs.declared.cert.Combine.{Combine}
use Rattle.logic_cert.specs.declared.cert.Cert.{Cert}
use Rattle.logic_cert.specs.declared.cert.Cert.TheOpen.{Cert-F, Split, Clash, Chain, Cases}
use Rattle.logic_cert.specs.declared.cert.Cert.TheViews.{roll-Cert}
use Rattle.logic_cert.specs.declared.cert.Cert.TheFolds.{fold-roll-Cert, ind-Cert, map-Cert}
use Rattle.logic_cert.specs.CertText.{cert_layer_text, cert_text, combine_text, form_text, multiple_text, term_text}
use Rattle.lang_monitor.specs.declared.candidate.Candidate.{Candidate}
use Rattle.lang_monitor.specs.declared.candidate.Candidate.TheVariants as candidates
use Rattle.lang_monitor.specs.declared.claim.Claim.{Claim}
use Rattle.lang_monitor.specs.declared.claim.Claim.TheVariants as claims
use Rattle.lang_monitor.specs.declared.monitor.Block.{Block}
use Rattle.lang_monitor.specs.declared.monitor.Field.{Field}
use Rattle.lang_monitor.specs.declared.monitor.Method.{Method}
use Rattle.lang_monitor.specs.MonitorParts.{MonitorParts, IsMonitor, count_in, first_in}
use Rattle.machine_events.specs.PlanText.{block_mark, block_name, candidate_text, field_name, flag_mark, kept_text, method_name, name_in}
use Rattle.lang_base.specs.Lines.{is_in_line}
use Rattle.lang_base.proofs.Lines.{HasNoLineFeed, IsLine, both_in_line, decimal_in_line, each_in_line, signed_in_line, words_in_line}
use Rattle.report_text.proofs.Lines.{block_mark_in_line}
use Rattle.report_text.proofs.Names.{field_is_named, method_words}
use Rattle.lang_base.proofs.Words.{name_words}
use Rattle.report_proofs.specs.ReportTexts.{claim_text, proof_text}

-- ---- names, and none where there is no such field or block

names_in_line : (fields : List Field)
    → ((i : ℕ) → i < length fields → HasNoLineFeed (field_name (slice_get fields i)))
    → (i : ℕ) → HasNoLineFeed (field_name (slice_get fields i))
names_in_line [] each i = refl
names_in_line (field ∷ fields) each zero = each zero (omega arith)
names_in_line (field ∷ fields) each (suc i) = names_in_line fields (λ k within. each (suc k) (omega (arith, within))) i

field_in_line : (monitor : MonitorParts) (field : ℕ) → IsMonitor monitor
    → HasNoLineFeed (field_name (slice_get monitor.fields field))
field_in_line monitor field rule =
    names_in_line monitor.fields (λ i within. words_in_line (field_name (slice_get monitor.fields i)) (name_words (field_name (slice_get monitor.fields i)) (field_is_named monitor i rule within))) field

pub block_in_line : (monitor : MonitorParts) (block : ℕ) → IsMonitor monitor
    → HasNoLineFeed (block_name monitor block)
block_in_line monitor block rule = by_held (slice_get monitor.blocks block)
  where
    by_held : (held : Option Block)
        → HasNoLineFeed
        (option_map_or (λ one. name_in (slice_get monitor.methods one.method) block) held [])
    by_held None = refl
    by_held (Some one) =
        let method : Option Method = slice_get monitor.methods one.method in
        let number : ℕ = block - first_in method + 1 in
        both_in_line (method_name method) (block_mark (count_in method) number) (words_in_line (method_name method) (method_words monitor one.method rule)) (block_mark_in_line (count_in method) number)

-- ---- candidates

mark_in_line : (is : Bool) → HasNoLineFeed (flag_mark is)
mark_in_line true = refl
mark_in_line false = refl

candidate_in_line : (monitor : MonitorParts) (candidate : Candidate) → IsMonitor monitor
    → HasNoLineFeed (candidate_text monitor.fields candidate)
candidate_in_line monitor (candidates.AtMost field bound) rule =
    let name : List ℕ = field_name (slice_get monitor.fields field) in
    both_in_line (name ++ codes " <= ") (signed_decimal bound) (both_in_line name (codes " <= ") (field_in_line monitor field rule) refl) (signed_in_line bound)
candidate_in_line monitor (candidates.AtLeast field bound) rule =
    let name : List ℕ = field_name (slice_get monitor.fields field) in
    both_in_line (name ++ codes " >= ") (signed_decimal bound) (both_in_line name (codes " >= ") (field_in_line monitor field rule) refl) (signed_in_line bound)
candidate_in_line monitor (candidates.Flag field is) rule =
    both_in_line (flag_mark is) (field_name (slice_get monitor.fields field)) (mark_in_line is) (field_in_line monitor field rule)
candidate_in_line monitor (candidates.Below left right) rule =
    let name : List ℕ = field_name (slice_get monitor.fields left) in
    both_in_line (name ++ codes " <= ") (field_name (slice_get monitor.fields right)) (both_in_line name (codes " <= ") (field_in_line monitor left rule) refl) (field_in_line monitor right rule)

pub kept_is_line : (monitor : MonitorParts) (candidate : Candidate) → IsMonitor monitor
    → IsLine (kept_text monitor.fields candidate)
kept_is_line monitor candidate rule = record {
  body = codes "keep " ++ candidate_text monitor.fields candidate;
  plain = both_in_line (codes "keep ") (candidate_text monitor.fields candidate) refl (candidate_in_line monitor candidate rule);
  is = refl;
}

-- ---- claims

-- a word, the name of a block, a blank and a number
noted_in_line : (monitor : MonitorParts) (word : List ℕ) (block condition : ℕ) → IsMonitor monitor
    → HasNoLineFeed word
    → HasNoLineFeed (word ++ block_name monitor block ++ codes " " ++ decimal condition)
noted_in_line monitor word block condition rule plain =
    let named : List ℕ = word ++ block_name monitor block in
    both_in_line (named ++ codes " ") (decimal condition) (both_in_line named (codes " ") (both_in_line word (block_name monitor block) plain (block_in_line monitor block rule)) refl) (decimal_in_line condition)

claim_in_line : (monitor : MonitorParts) (claim : Claim) → IsMonitor monitor
    → HasNoLineFeed (claim_text monitor claim)
claim_in_line monitor (claims.Keeps candidate block) rule =
    let kept : List ℕ = codes "keep " ++ candidate_text monitor.fields candidate in
    both_in_line (kept ++ codes " ") (block_name monitor block)
    (both_in_line kept (codes " ") (both_in_line (codes "keep ") (candidate_text monitor.fields candidate) refl (candidate_in_line monitor candidate rule)) refl)
    (block_in_line monitor block rule)
claim_in_line monitor (claims.NoNote block condition) rule = noted_in_line monitor (codes "none ") block condition rule refl
claim_in_line monitor (claims.One condition block) rule =
    let numbered : List ℕ = codes "one " ++ decimal condition in
    both_in_line (numbered ++ codes " ") (block_name monitor block) (both_in_line numbered (codes " ") (both_in_line (codes "one ") (decimal condition) refl (decimal_in_line condition)) refl) (block_in_line monitor block rule)
claim_in_line monitor (claims.NoTest block condition) rule = noted_in_line monitor (codes "untested ") block condition rule refl

-- ---- certificates

abbrev Part : Type 0
Part = (cert : Cert) × HasNoLineFeed (cert_text cert)

later_in_line : (number : ℕ) → HasNoLineFeed (codes " " ++ decimal number)
later_in_line number = both_in_line (codes " ") (decimal number) refl (decimal_in_line number)

multiple_in_line : (row : ℕ) (times : ℤ) → HasNoLineFeed (multiple_text row times)
multiple_in_line row times = both_in_line (codes " " ++ decimal row) (codes " " ++ signed_decimal times) (later_in_line row) (both_in_line (codes " ") (signed_decimal times) refl (signed_in_line times))

combine_in_line : (combine : Combine) → HasNoLineFeed (combine_text combine)
combine_in_line combine =
    both_in_line (multiple_text combine.left combine.left_times) (multiple_text combine.right combine.right_times)
    (multiple_in_line combine.left combine.left_times) (multiple_in_line combine.right combine.right_times)

form_in_line : (form : Linear) → HasNoLineFeed (form_text form)
form_in_line form =
    let count : ℕ = length form.terms in
    both_in_line (decimal count ++ flat_map term_text form.terms) (codes " " ++ signed_decimal form.constant)
    (both_in_line (decimal count) (flat_map term_text form.terms) (decimal_in_line count) (each_in_line term_text (λ term. multiple_in_line term.place term.times) form.terms))
    (both_in_line (codes " ") (signed_decimal form.constant) refl (signed_in_line form.constant))

parts_in_line : (parts : List Part)
    → HasNoLineFeed
    (flat_map (λ text. codes " " ++ text) (map cert_text (map (λ part. part.0) parts)))
parts_in_line [] = refl
parts_in_line (part ∷ parts) =
    both_in_line (codes " " ++ cert_text part.0) (flat_map (λ text. codes " " ++ text) (map cert_text (map (λ part. part.0) parts)))
    (both_in_line (codes " ") (cert_text part.0) refl part.1) (parts_in_line parts)

layer_in_line : (layer : Cert-F Part)
    → HasNoLineFeed
    (cert_layer_text (map-Cert Cert (List ℕ) cert_text (map-Cert Part Cert (λ part. part.0) layer)))
layer_in_line (Split parts) =
    let count : ℕ = length (map cert_text (map (λ part. part.0) parts)) in
    both_in_line (codes "split " ++ decimal count) (flat_map (λ text. codes " " ++ text) (map cert_text (map (λ part. part.0) parts)))
    (both_in_line (codes "split ") (decimal count) refl (decimal_in_line count)) (parts_in_line parts)
layer_in_line (Clash left right) =
    both_in_line (codes "clash " ++ decimal left) (codes " " ++ decimal right) (both_in_line (codes "clash ") (decimal left) refl (decimal_in_line left)) (later_in_line right)
layer_in_line (Chain combines) =
    let count : ℕ = length combines in
    both_in_line (codes "chain " ++ decimal count) (flat_map combine_text combines)
    (both_in_line (codes "chain ") (decimal count) refl (decimal_in_line count)) (each_in_line combine_text combine_in_line combines)
layer_in_line (Cases form below above) =
    both_in_line ((codes "cases " ++ form_text form) ++ (codes " below " ++ cert_text below.0)) (codes " above " ++ cert_text above.0)
    (both_in_line (codes "cases " ++ form_text form) (codes " below " ++ cert_text below.0)
    (both_in_line (codes "cases ") (form_text form) refl (form_in_line form)) (both_in_line (codes " below ") (cert_text below.0) refl below.1))
    (both_in_line (codes " above ") (cert_text above.0) refl above.1)

pub cert_in_line : (cert : Cert) → HasNoLineFeed (cert_text cert)
cert_in_line = ind-Cert (λ cert. HasNoLineFeed (cert_text cert)) (λ layer parts is. subst (λ (one : Cert-F Cert). HasNoLineFeed (cert_text (roll-Cert one))) is (rolled parts))
  where
    rolled : (parts : Cert-F Part)
        → HasNoLineFeed (cert_text (roll-Cert (map-Cert Part Cert (λ part. part.0) parts)))
    rolled parts =
        ap (list_all is_in_line) (fold-roll-Cert (List ℕ) cert_layer_text (map-Cert Part Cert (λ part. part.0) parts)) ∙ layer_in_line parts

-- ---- the whole line

pub proof_is_line : (monitor : MonitorParts) (claim : Claim) (cert : Cert) → IsMonitor monitor
    → IsLine (proof_text monitor claim cert)
proof_is_line monitor claim cert rule =
    let claimed : List ℕ = codes "proof " ++ claim_text monitor claim in
    record {
      body = claimed ++ codes ": " ++ cert_text cert;
      plain = both_in_line (claimed ++ codes ": ") (cert_text cert) (both_in_line claimed (codes ": ") (both_in_line (codes "proof ") (claim_text monitor claim) refl (claim_in_line monitor claim rule)) refl) (cert_in_line cert);
      is = refl;
    }
