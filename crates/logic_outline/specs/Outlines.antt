-- Certificates as lists: their splits, cases, clashes and chains in the order of their texts.
use Rattle.std.specs.Prelude.{ℤ, pos, negsuc, ◌<◌, ◌^◌, List, [], ◌∷◌, ◌++◌, length, take, drop}
use Rattle.std.specs.Prelude.{All}
use Rattle.std.specs.List.{flat_map}
use Rattle.logic_linear.specs.declared.form.Term.{Term}
use Rattle.logic_linear.specs.Linear.{Linear, IsLinear}
use Rattle.logic_cert.specs.declared.cert.Combine.{Combine}
use Rattle.logic_cert.specs.declared.cert.Cert.{Cert, out-Cert}
use Rattle.logic_cert.specs.declared.cert.Cert.TheOpen.{Cert-F, Split, Clash, Chain, Cases}
use Rattle.logic_cert.specs.declared.cert.Cert.TheVariants as certificates
use Rattle.logic_cert.specs.declared.cert.Cert.TheFolds.{fold-Cert}
use Rattle.logic_outline.specs.declared.outline.Node.{Node}
use Rattle.logic_outline.specs.declared.outline.Node.TheVariants.{Parts, End, Sides}

-- ---- from certificates to lists

-- One layer of a certificate, given the lists of its parts.
abbrev pub outline_layer : Cert-F (List Node) → List Node
outline_layer (Split outlines) = Parts (length outlines) ∷ flat_map (λ nodes. nodes) outlines
outline_layer (Clash left right) = End (certificates.Clash left right) ∷ []
outline_layer (Chain combines) = End (certificates.Chain combines) ∷ []
outline_layer (Cases form below above) = Sides form ∷ below ++ above

-- A split or cases, and then the parts one after the other; or a clash or a chain.
abbrev pub outline_of : Cert → List Node
outline_of = fold-Cert (List Node) outline_layer

-- Those of certificates, one after the other.
abbrev pub outlines_of : List Cert → List Node
outlines_of certs = flat_map outline_of certs

-- ---- from lists to certificates

abbrev pub first_of : List Cert → Cert
first_of [] = certificates.Split []
first_of (cert ∷ certs) = cert

-- The certificates that the nodes are, one after the other.
abbrev pub certs_of : List Node → List Cert
certs_of [] = []
certs_of (Parts count ∷ nodes) =
    certificates.Split (take count (certs_of nodes)) ∷ drop count (certs_of nodes)
certs_of (End cert ∷ nodes) = cert ∷ certs_of nodes
certs_of (Sides form ∷ nodes) =
    certificates.Cases form (first_of (certs_of nodes)) (first_of (drop 1 (certs_of nodes)))
    ∷ drop 2 (certs_of nodes)

-- The certificate that the nodes are.
abbrev pub cert_of : List Node → Cert
cert_of nodes = first_of (certs_of nodes)

-- ---- numbers of their types

-- A factor is a number of 128 bits, with a sign.
abbrev pub IsFactor : ℤ → Type 0
IsFactor (pos n) = n < 2 ^ 127
IsFactor (negsuc n) = n < 2 ^ 127

-- The numbers of a made row are of their types.
abbrev pub IsCombine : Combine → Type 0
IsCombine combine =
    (combine.left < 2 ^ 32) × IsFactor combine.left_times
    × (combine.right < 2 ^ 32) × IsFactor combine.right_times

-- A clash or a chain, with numbers of their types.
abbrev pub IsEnd : Cert-F Cert → Type 0
IsEnd (Split certs) = ⊥
IsEnd (Clash left right) = (left < 2 ^ 32) × (right < 2 ^ 32)
IsEnd (Chain combines) = (length combines < 2 ^ 64) × All IsCombine combines
IsEnd (Cases form below above) = ⊥

-- The place of a term has 32 bits.
abbrev pub HasTypedPlace : Term → Type 0
HasTypedPlace term = term.place < 2 ^ 32

-- The numbers of a form keep its rule, its places have 32 bits, and the count of its terms 64.
pub record IsForm (form : Linear) : Type 0 where
  pub rule : IsLinear form
  pub places : All HasTypedPlace form.terms
  pub count : length form.terms < 2 ^ 64

-- So are those of a node.
abbrev pub IsTyped : Node → Type 0
IsTyped (Parts count) = count < 2 ^ 64
IsTyped (End cert) = IsEnd (out-Cert cert)
IsTyped (Sides form) = IsForm form

-- The numbers of a certificate are of their types.
abbrev pub HasTypedNumbers : Cert → Type 0
HasTypedNumbers cert = All IsTyped (outline_of cert)
