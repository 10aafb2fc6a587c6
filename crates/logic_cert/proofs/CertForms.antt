-- Certificates by their forms.
use Rattle.std.proofs.Common.{◌≡◌, ℕ, ◌&&◌, List, [], ◌∷◌, ◌++◌, map, sym, subst, ap, refl, ◌∙◌}
use Rattle.logic_linear.specs.Linear.{Linear}
use Rattle.logic_linear.specs.Negation.{can_negate_linear, one_less}
use Rattle.logic_cert.specs.declared.cert.Combine.{Combine}
use Rattle.logic_cert.specs.declared.cert.Literal.{Literal}
use Rattle.logic_cert.specs.declared.cert.Literal.TheVariants.{Row}
use Rattle.logic_cert.specs.declared.cert.Cert.{Cert, out-Cert}
use Rattle.logic_cert.specs.declared.cert.Cert.TheOpen.{Cert-F}
use Rattle.logic_cert.specs.declared.cert.Cert.TheOpen as layers
use Rattle.logic_cert.specs.declared.cert.Cert.TheVariants as certificates
use Rattle.logic_cert.specs.declared.cert.Cert.TheViews.{roll-Cert, out-roll-Cert}
use Rattle.logic_cert.specs.declared.cert.Cert.TheFolds.{ind-Cert, map-Cert, fold-roll-Cert}
use Rattle.logic_cert.specs.inner.Deciding.{Ends, Way, way_layer, whole_layer, way_of, by_cases}

-- ---- induction

-- what holds of a split and of cases where it holds of their parts, of clashes and of chains holds of all
pub by_parts : (P : Cert → Type 0) → ((parts : List ((cert : Cert) × P cert)) → P (certificates.Split (map (λ part. part.0) parts)))
    → ((left right : ℕ) → P (certificates.Clash left right)) → ((combines : List Combine) → P (certificates.Chain combines))
    → ((form : Linear) (below above : Cert) → P below → P above → P (certificates.Cases form below above))
    → (cert : Cert) → P cert
by_parts P split clash chain cases = ind-Cert P (λ layer parts is. subst (λ (z : Cert-F Cert). P (roll-Cert z)) is (of_layer parts))
  where
    of_layer : (layer : Cert-F ((cert : Cert) × P cert)) → P (roll-Cert (map-Cert _ Cert (λ part. part.0) layer))
    of_layer (layers.Split parts) = subst P (sym (certificates.rolls-Split (map (λ part. part.0) parts))) (split parts)
    of_layer (layers.Clash left right) = subst P (sym (certificates.rolls-Clash left right)) (clash left right)
    of_layer (layers.Chain combines) = subst P (sym (certificates.rolls-Chain combines)) (chain combines)
    of_layer (layers.Cases form below above) = subst P (sym (certificates.rolls-Cases form below.0 above.0)) (cases form below.0 above.0 below.1 above.1)

-- ---- layers

pub split_out : (certs : List Cert) → out-Cert (certificates.Split certs) ≡ layers.Split certs
split_out certs = ap out-Cert (sym (certificates.rolls-Split certs)) ∙ out-roll-Cert (layers.Split certs)

pub clash_out : (left right : ℕ) → out-Cert (certificates.Clash left right) ≡ layers.Clash left right
clash_out left right = ap out-Cert (sym (certificates.rolls-Clash left right)) ∙ out-roll-Cert (layers.Clash left right)

pub chain_out : (combines : List Combine) → out-Cert (certificates.Chain combines) ≡ layers.Chain combines
chain_out combines = ap out-Cert (sym (certificates.rolls-Chain combines)) ∙ out-roll-Cert (layers.Chain combines)

-- ---- cases

-- the first of a way is its certificate
abbrev Kept : Ends → Cert → Type 0
Kept ends cert = (way_of ends cert).0 ≡ cert

kept_parts : (ends : Ends) (parts : List ((cert : Cert) × Kept ends cert)) → map (λ (way : Way). way.0) (map (way_of ends) (map (λ part. part.0) parts)) ≡ map (λ part. part.0) parts
kept_parts ends [] = refl
kept_parts ends (part ∷ parts) =
    ap (λ (cert : Cert). cert ∷ map (λ (way : Way). way.0) (map (way_of ends) (map (λ (one : (cert : Cert) × Kept ends cert). one.0) parts))) part.1
    ∙ ap (λ (certs : List Cert). part.0 ∷ certs) (kept_parts ends parts)

pub way_is : (ends : Ends) (layer : Cert-F Cert) → way_of ends (roll-Cert layer) ≡ whole_layer ends (map-Cert Cert Way (way_of ends) layer)
way_is ends layer = fold-roll-Cert Way (whole_layer ends) layer

kept : (ends : Ends) (cert : Cert) → Kept ends cert
kept ends = by_parts (Kept ends) of_split of_clash of_chain of_cases
  where
    of_split : (parts : List ((cert : Cert) × Kept ends cert)) → Kept ends (certificates.Split (map (λ part. part.0) parts))
    of_split parts =
        let certs = map (λ (part : (cert : Cert) × Kept ends cert). part.0) parts in
        ap (λ (cert : Cert). (way_of ends cert).0) (sym (certificates.rolls-Split certs)) ∙ ap (λ (way : Way). way.0) (way_is ends (layers.Split certs))
        ∙ ap (λ (some : List Cert). roll-Cert (layers.Split some)) (kept_parts ends parts) ∙ certificates.rolls-Split certs

    of_clash : (left right : ℕ) → Kept ends (certificates.Clash left right)
    of_clash left right =
        ap (λ (cert : Cert). (way_of ends cert).0) (sym (certificates.rolls-Clash left right)) ∙ ap (λ (way : Way). way.0) (way_is ends (layers.Clash left right)) ∙ certificates.rolls-Clash left right

    of_chain : (combines : List Combine) → Kept ends (certificates.Chain combines)
    of_chain combines =
        ap (λ (cert : Cert). (way_of ends cert).0) (sym (certificates.rolls-Chain combines)) ∙ ap (λ (way : Way). way.0) (way_is ends (layers.Chain combines)) ∙ certificates.rolls-Chain combines

    of_cases : (form : Linear) (below above : Cert) → Kept ends below → Kept ends above → Kept ends (certificates.Cases form below above)
    of_cases form below above low high =
        ap (λ (cert : Cert). (way_of ends cert).0) (sym (certificates.rolls-Cases form below above)) ∙ ap (λ (way : Way). way.0) (way_is ends (layers.Cases form below above))
        ∙ ap (λ (cert : Cert). roll-Cert (layers.Cases form cert (way_of ends above).0)) low
        ∙ ap (λ (cert : Cert). roll-Cert (layers.Cases form below cert)) high ∙ certificates.rolls-Cases form below above

kept_all : (ends : Ends) (certs : List Cert) → map (λ (way : Way). way.0) (map (way_of ends) certs) ≡ certs
kept_all ends [] = refl
kept_all ends (cert ∷ certs) =
    ap (λ (one : Cert). one ∷ map (λ (way : Way). way.0) (map (way_of ends) certs)) (kept ends cert) ∙ ap (λ (some : List Cert). cert ∷ some) (kept_all ends certs)

by_layer : (ends : Ends) (literals : List Literal) (layer : Cert-F Cert) → by_cases ends literals (roll-Cert layer) ≡ way_layer ends (map-Cert Cert Way (way_of ends) layer) literals
by_layer ends literals layer = ap (λ (way : Way). way.1 literals) (way_is ends layer)

pub by_split : (ends : Ends) (literals : List Literal) (certs : List Cert) → by_cases ends literals (certificates.Split certs) ≡ ends literals (layers.Split certs)
by_split ends literals certs =
    ap (by_cases ends literals) (sym (certificates.rolls-Split certs)) ∙ by_layer ends literals (layers.Split certs) ∙ ap (λ (some : List Cert). ends literals (layers.Split some)) (kept_all ends certs)

pub by_clash : (ends : Ends) (literals : List Literal) (left right : ℕ) → by_cases ends literals (certificates.Clash left right) ≡ ends literals (layers.Clash left right)
by_clash ends literals left right = ap (by_cases ends literals) (sym (certificates.rolls-Clash left right)) ∙ by_layer ends literals (layers.Clash left right)

pub by_chain : (ends : Ends) (literals : List Literal) (combines : List Combine) → by_cases ends literals (certificates.Chain combines) ≡ ends literals (layers.Chain combines)
by_chain ends literals combines = ap (by_cases ends literals) (sym (certificates.rolls-Chain combines)) ∙ by_layer ends literals (layers.Chain combines)

pub by_both : (ends : Ends) (literals : List Literal) (form : Linear) (below above : Cert) → by_cases ends literals (certificates.Cases form below above)
    ≡ (can_negate_linear form && (by_cases ends (literals ++ Row form ∷ []) below && by_cases ends (literals ++ Row (one_less form) ∷ []) above))
by_both ends literals form below above = ap (by_cases ends literals) (sym (certificates.rolls-Cases form below above)) ∙ by_layer ends literals (layers.Cases form below above)
