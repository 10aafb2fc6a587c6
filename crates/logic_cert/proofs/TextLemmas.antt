-- The texts of certificates, by their forms.
use Rattle.std.proofs.Common.{◌≡◌, ℕ, ℤ, zero, suc, ◌<◌, List, [], ◌∷◌, ◌++◌, ◌∙◌, map, codes, decimal, length, get_or, sym, ap, refl, arith}
use Rattle.std.specs.List.{flat_map}
use Rattle.std.proofs.lemmas.List.{length-map}
use Rattle.std.proofs.lemmas.List.Folds.{flat_map-map}
use Rattle.std.specs.Fmt.{signed_decimal}
use Rattle.logic_linear.specs.declared.form.Term.{Term}
use Rattle.logic_linear.specs.Linear.{Linear}
use Rattle.logic_cert.specs.declared.cert.Combine.{Combine}
use Rattle.logic_cert.specs.declared.cert.Cert.{Cert}
use Rattle.logic_cert.specs.declared.cert.Cert.TheVariants.{Split, Clash, Chain, Cases, rolls-Split, rolls-Clash, rolls-Chain, rolls-Cases}
use Rattle.logic_cert.specs.declared.cert.Cert.TheOpen as layers
use Rattle.logic_cert.specs.declared.cert.Cert.TheFolds.{fold-roll-Cert}
use Rattle.logic_cert.specs.CertText.{cert_text, cert_layer_text, combine_text, form_text, term_text}
use Rattle.logic_cert.specs.inner.Texts.{later_texts}

pub text-Split : (cert : Cert) (certs counted items : List Cert) → cert ≡ Split certs → counted ≡ certs → items ≡ certs → (codes "split " ++ decimal (length counted)) ++ later_texts items ≡ cert_text cert
text-Split cert certs counted items is count same =
    let whole = ap cert_text (is ∙ sym (rolls-Split certs)) ∙ fold-roll-Cert (List ℕ) cert_layer_text (layers.Split certs) in
    sym (whole ∙ ap (λ n. codes "split " ++ decimal n ++ flat_map (λ text. codes " " ++ text) (map cert_text certs)) (length-map certs cert_text)
    ∙ ap (λ texts. codes "split " ++ decimal (length certs) ++ texts) (flat_map-map (λ text. codes " " ++ text) cert_text certs)
    ∙ rw (count, same) refl)

pub text-Clash : (cert : Cert) (left right : ℕ) → cert ≡ Clash left right → (codes "clash " ++ decimal left) ++ (codes " " ++ decimal right) ≡ cert_text cert
text-Clash cert left right is = sym (ap cert_text (is ∙ sym (rolls-Clash left right)) ∙ fold-roll-Cert (List ℕ) cert_layer_text (layers.Clash left right))

pub text-Chain : (cert : Cert) (combines counted items : List Combine) → cert ≡ Chain combines → counted ≡ combines → items ≡ combines → (codes "chain " ++ decimal (length counted)) ++ flat_map combine_text items ≡ cert_text cert
text-Chain cert combines counted items is count same =
    sym (ap cert_text (is ∙ sym (rolls-Chain combines)) ∙ fold-roll-Cert (List ℕ) cert_layer_text (layers.Chain combines) ∙ rw (count, same) refl)

pub text-Cases : (cert : Cert) (form : Linear) (below above : Cert) (low high : Cert) → cert ≡ Cases form below above → low ≡ below → high ≡ above
    → ((codes "cases " ++ form_text form) ++ (codes " below " ++ cert_text low)) ++ (codes " above " ++ cert_text high) ≡ cert_text cert
text-Cases cert form below above low high is low_is high_is =
    sym (ap cert_text (is ∙ sym (rolls-Cases form below above)) ∙ fold-roll-Cert (List ℕ) cert_layer_text (layers.Cases form below above) ∙ rw (low_is, high_is) refl)

pub cases_start : (form : Linear) (counted items : List Term) (constant : ℤ) → counted ≡ form.terms → items ≡ form.terms → constant ≡ form.constant
    → ((codes "cases " ++ decimal (length counted)) ++ flat_map term_text items) ++ (codes " " ++ signed_decimal constant) ≡ codes "cases " ++ form_text form
cases_start form counted items constant count same is = rw (count, same, is) refl

pub same_default : {X : Type 0} (xs : List X) (i : ℕ) (d : X) → i < length xs → get_or xs i d ≡ get_or xs i (get_or xs i d)
same_default [] i d h = absurd (omega arith)
same_default (x ∷ xs) zero d h = refl
same_default (x ∷ xs) (suc i) d h = same_default xs i d (omega arith)
