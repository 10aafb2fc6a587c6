-- The text of a certificate: words with one blank between them, and numbers in decimal.
use Rattle.std.specs.Prelude.{ℕ, ℤ, List, ◌++◌, length, codes, decimal}
use Rattle.std.specs.Fmt.{signed_decimal}
use Rattle.std.specs.List.{flat_map}
use Rattle.logic_linear.specs.declared.form.Term.{Term}
use Rattle.logic_linear.specs.Linear.{Linear}
use Rattle.logic_cert.specs.declared.cert.Combine.{Combine}
use Rattle.logic_cert.specs.declared.cert.Cert.{Cert}
use Rattle.logic_cert.specs.declared.cert.Cert.TheOpen.{Cert-F, Split, Clash, Chain, Cases}
use Rattle.logic_cert.specs.declared.cert.Cert.TheFolds.{fold-Cert}

-- After a blank, the number of a row or the place of a variable, and how many times it counts.
abbrev pub multiple_text : ℕ → ℤ → List ℕ
multiple_text row times = (codes " " ++ decimal row) ++ (codes " " ++ signed_decimal times)

-- The four numbers of a made row.
abbrev pub combine_text : Combine → List ℕ
combine_text combine =
    multiple_text combine.left combine.left_times ++ multiple_text combine.right combine.right_times

-- The place and the number of a term.
abbrev pub term_text : Term → List ℕ
term_text term = multiple_text term.place term.times

-- How many terms a form has, the terms by rising place, and its constant.
abbrev pub form_text : Linear → List ℕ
form_text form =
    decimal (length form.terms) ++ flat_map term_text form.terms
    ++ (codes " " ++ signed_decimal form.constant)

-- One layer of a certificate, given the texts of its parts.
abbrev pub cert_layer_text : Cert-F (List ℕ) → List ℕ
cert_layer_text (Split texts) =
    codes "split " ++ decimal (length texts) ++ flat_map (λ text. codes " " ++ text) texts
cert_layer_text (Clash left right) = codes "clash " ++ decimal left ++ (codes " " ++ decimal right)
cert_layer_text (Chain combines) =
    codes "chain " ++ decimal (length combines) ++ flat_map combine_text combines
cert_layer_text (Cases form below above) =
    codes "cases " ++ form_text form ++ (codes " below " ++ below) ++ (codes " above " ++ above)

-- The text of a certificate.
abbrev pub cert_text : Cert → List ℕ
cert_text = fold-Cert (List ℕ) cert_layer_text
