-- Certificates and the lists that they are.
use Rattle.std.proofs.Common.{◌≡◌, ℕ, List, [], ◌∷◌, ◌++◌, map, length, take, drop, refl, sym, ap, ◌∙◌, append_assoc, append-nil}
use Rattle.std.specs.List.{flat_map}
use Rattle.std.proofs.Math.Seq.{take-append_seam, drop-append_seam}
use Rattle.std.proofs.lemmas.List.{length-map}
use Rattle.std.proofs.lemmas.List.Folds.{flat_map-map}
use Rattle.logic_linear.specs.Linear.{Linear}
use Rattle.logic_cert.specs.declared.cert.Combine.{Combine}
use Rattle.logic_cert.specs.declared.cert.Cert.{Cert}
use Rattle.logic_cert.specs.declared.cert.Cert.TheOpen as layers
use Rattle.logic_cert.specs.declared.cert.Cert.TheVariants as certificates
use Rattle.logic_cert.specs.declared.cert.Cert.TheFolds.{fold-roll-Cert}
use Rattle.logic_cert.proofs.CertForms.{by_parts}
use Rattle.logic_outline.specs.declared.outline.Node.{Node}
use Rattle.logic_outline.specs.declared.outline.Node.TheVariants.{Parts, End, Sides}
use Rattle.logic_outline.specs.Outlines.{cert_of, certs_of, first_of, outline_layer, outline_of, outlines_of}

-- ---- the list of each form

pub split_outline : (certs : List Cert) → outline_of (certificates.Split certs) ≡ Parts (length certs) ∷ outlines_of certs
split_outline certs =
    ap outline_of (sym (certificates.rolls-Split certs)) ∙ fold-roll-Cert (List Node) outline_layer (layers.Split certs)
    ∙ ap (λ (n : ℕ). Parts n ∷ flat_map (λ nodes. nodes) (map outline_of certs)) (length-map certs outline_of)
    ∙ ap (λ (nodes : List Node). Parts (length certs) ∷ nodes) (flat_map-map (λ nodes. nodes) outline_of certs)

pub clash_outline : (left right : ℕ) → outline_of (certificates.Clash left right) ≡ End (certificates.Clash left right) ∷ []
clash_outline left right = ap outline_of (sym (certificates.rolls-Clash left right)) ∙ fold-roll-Cert (List Node) outline_layer (layers.Clash left right)

pub cases_outline : (form : Linear) (below above : Cert) → outline_of (certificates.Cases form below above) ≡ Sides form ∷ outlines_of (below ∷ above ∷ [])
cases_outline form below above =
    ap outline_of (sym (certificates.rolls-Cases form below above)) ∙ fold-roll-Cert (List Node) outline_layer (layers.Cases form below above)
    ∙ ap (λ (nodes : List Node). Sides form ∷ (outline_of below ++ nodes)) (sym (append-nil (outline_of above)))

pub chain_outline : (combines : List Combine) → outline_of (certificates.Chain combines) ≡ End (certificates.Chain combines) ∷ []
chain_outline combines = ap outline_of (sym (certificates.rolls-Chain combines)) ∙ fold-roll-Cert (List Node) outline_layer (layers.Chain combines)

-- ---- the certificates of their nodes

abbrev Back : Cert → Type 0
Back cert = (rest : List Node) → certs_of (outline_of cert ++ rest) ≡ cert ∷ certs_of rest

abbrev certs_in : List ((cert : Cert) × Back cert) → List Cert
certs_in parts = map (λ part. part.0) parts

parts_back : (parts : List ((cert : Cert) × Back cert)) (rest : List Node) → certs_of (outlines_of (certs_in parts) ++ rest) ≡ certs_in parts ++ certs_of rest
parts_back [] rest = refl
parts_back (part ∷ parts) rest =
    ap certs_of (append_assoc (outline_of part.0) (outlines_of (certs_in parts)) rest)
    ∙ part.1 (outlines_of (certs_in parts) ++ rest) ∙ ap (λ (certs : List Cert). part.0 ∷ certs) (parts_back parts rest)

split_back : (parts : List ((cert : Cert) × Back cert)) → Back (certificates.Split (certs_in parts))
split_back parts rest =
    let certs = certs_in parts in
    let all = parts_back parts rest in
    ap (λ (nodes : List Node). certs_of (nodes ++ rest)) (split_outline certs)
    ∙ ap (λ (some : List Cert). certificates.Split (take (length certs) some) ∷ drop (length certs) some) all
    ∙ ap (λ (some : List Cert). certificates.Split some ∷ drop (length certs) (certs ++ certs_of rest)) (take-append_seam certs (certs_of rest))
    ∙ ap (λ (some : List Cert). certificates.Split certs ∷ some) (drop-append_seam certs (certs_of rest))

cases_back : (form : Linear) (below above : Cert) → Back below → Back above → Back (certificates.Cases form below above)
cases_back form below above low high rest =
    let all : certs_of (outlines_of (below ∷ above ∷ []) ++ rest) ≡ below ∷ above ∷ certs_of rest =
    ap certs_of (append_assoc (outline_of below) (outline_of above ++ []) rest) ∙ low ((outline_of above ++ []) ++ rest)
    ∙ ap (λ (nodes : List Node). below ∷ certs_of (nodes ++ rest)) (append-nil (outline_of above)) ∙ ap (λ (some : List Cert). below ∷ some) (high rest) in
    ap (λ (nodes : List Node). certs_of (nodes ++ rest)) (cases_outline form below above)
    ∙ ap (λ (some : List Cert). certificates.Cases form (first_of some) (first_of (drop 1 some)) ∷ drop 2 some) all

back : (cert : Cert) → Back cert
back = by_parts Back split_back (λ left right rest. ap (λ (nodes : List Node). certs_of (nodes ++ rest)) (clash_outline left right))
    (λ combines rest. ap (λ (nodes : List Node). certs_of (nodes ++ rest)) (chain_outline combines)) cases_back

pub cert_back : (cert : Cert) → cert_of (outline_of cert) ≡ cert
cert_back cert = ap (λ (nodes : List Node). first_of (certs_of nodes)) (sym (append-nil (outline_of cert))) ∙ ap first_of (back cert [])

-- nodes that are a certificate's are those of what they are
pub whole_back : (cert : Cert) (nodes : List Node) → outline_of cert ≡ nodes → outline_of (cert_of nodes) ≡ nodes
whole_back cert nodes is = ap outline_of (ap cert_of (sym is) ∙ cert_back cert) ∙ is

pub same_back : (cert : Cert) (nodes : List Node) → outline_of cert ≡ nodes → cert_of nodes ≡ cert
same_back cert nodes is = ap cert_of (sym is) ∙ cert_back cert
