-- The numbers of a certificate, by its form.
use Rattle.std.proofs.Common.{◌≡◌, ℕ, ◌<◌, ◌^◌, List, [], ◌∷◌, length, sym, ap, subst, ◌∙◌}
use Rattle.std.specs.Prelude.{All}
use Rattle.std.proofs.lemmas.List.Elements.{All-append, All-cons, All-head, All-nil, All-tail}
use Rattle.logic_linear.specs.declared.form.Term.{Term}
use Rattle.logic_linear.specs.Linear.{IsLinear, Linear}
use Rattle.logic_cert.specs.declared.cert.Combine.{Combine}
use Rattle.logic_cert.specs.declared.cert.Cert.{Cert}
use Rattle.logic_cert.specs.declared.cert.Cert.TheOpen as layers
use Rattle.logic_cert.specs.declared.cert.Cert.TheVariants.{Split, Clash, Chain, Cases, rolls-Clash, rolls-Chain}
use Rattle.logic_outline.specs.declared.outline.Node.{Node}
use Rattle.logic_outline.specs.declared.outline.Node.TheVariants.{Parts, End, Sides}
use Rattle.logic_outline.specs.Outlines.{HasTypedNumbers, HasTypedPlace, IsCombine, IsForm, IsTyped}
use Rattle.logic_outline.specs.Outlines.{outline_of, outlines_of}
use Rattle.logic_outline.proofs.NodeParts.{typed_end}
use Rattle.logic_outline.proofs.OutlineForms.{cases_outline, chain_outline, clash_outline, split_outline}

all_typed : (certs : List Cert) → All HasTypedNumbers certs → All IsTyped (outlines_of certs)
all_typed [] all = All-nil IsTyped
all_typed (cert ∷ certs) all =
    All-append IsTyped (outline_of cert) (outlines_of certs) (All-head HasTypedNumbers cert certs all) (all_typed certs (All-tail HasTypedNumbers cert certs all))

one_typed : (cert : Cert) (nodes : List Node) → outline_of cert ≡ nodes → All IsTyped nodes → HasTypedNumbers cert
one_typed cert nodes is all = subst (All IsTyped) (sym is) all

pub split_typed : (cert : Cert) (certs counted items : List Cert) → cert ≡ Split certs → counted ≡ certs → items ≡ certs
    → length counted < 2 ^ 64 → All HasTypedNumbers items → HasTypedNumbers cert
split_typed cert certs counted items is count same few each =
    one_typed cert (Parts (length certs) ∷ outlines_of certs) (ap outline_of is ∙ split_outline certs)
    (All-cons IsTyped (Parts (length certs)) (outlines_of certs) (subst (λ (some : List Cert). length some < 2 ^ 64) count few)
    (all_typed certs (subst (λ (some : List Cert). All HasTypedNumbers some) same each)))

pub clash_typed : (cert : Cert) (left right : ℕ) → cert ≡ Clash left right
    → (left < 2 ^ 32) × (right < 2 ^ 32) → HasTypedNumbers cert
clash_typed cert left right is few =
    one_typed cert (End (Clash left right) ∷ []) (ap outline_of is ∙ clash_outline left right)
    (All-cons IsTyped (End (Clash left right)) [] (typed_end (Clash left right) (layers.Clash left right) (rolls-Clash left right) few) (All-nil IsTyped))

pub chain_typed : (cert : Cert) (combines counted items : List Combine) → cert ≡ Chain combines → counted ≡ combines → items ≡ combines
    → length counted < 2 ^ 64 → All IsCombine items → HasTypedNumbers cert
chain_typed cert combines counted items is count same few each =
    one_typed cert (End (Chain combines) ∷ []) (ap outline_of is ∙ chain_outline combines)
    (All-cons IsTyped (End (Chain combines)) []
    (typed_end (Chain combines) (layers.Chain combines) (rolls-Chain combines)
    (subst (λ (some : List Combine). length some < 2 ^ 64) count few, subst (λ (some : List Combine). All IsCombine some) same each))
    (All-nil IsTyped))

pub form_typed : (form : Linear) (terms : List Term) → terms ≡ form.terms → IsLinear form → All HasTypedPlace terms → length terms < 2 ^ 64 → IsForm form
form_typed form terms same rule places few = record {
  rule = rule;
  places = subst (All HasTypedPlace) same places;
  count = subst (λ (some : List Term). length some < 2 ^ 64) same few;
}

pub cases_typed : (cert : Cert) (form : Linear) (below above low high : Cert) → cert ≡ Cases form below above → low ≡ below → high ≡ above → IsForm form
    → HasTypedNumbers low → HasTypedNumbers high → HasTypedNumbers cert
cases_typed cert form below above low high is low_is high_is typed low_typed high_typed =
    one_typed cert (Sides form ∷ outlines_of (below ∷ above ∷ [])) (ap outline_of is ∙ cases_outline form below above)
    (All-cons IsTyped (Sides form) (outlines_of (below ∷ above ∷ [])) typed
    (all_typed (below ∷ above ∷ [])
    (All-cons HasTypedNumbers below (above ∷ []) (subst HasTypedNumbers low_is low_typed)
    (All-cons HasTypedNumbers above [] (subst HasTypedNumbers high_is high_typed) (All-nil HasTypedNumbers)))))
