-- A certificate that is taken apart.
use Rattle.std.proofs.Common.{◌≡◌, ℕ, ◌<◌, List, [], ◌∷◌, ◌++◌, length, reverse, refl, sym, ap, ◌∙◌, append_assoc, append-nil, arith}
use Rattle.std.proofs.lemmas.List.{reverse-append}
use Rattle.std.proofs.lemmas.List.Concat.{flat_map-append}
use Rattle.logic_linear.specs.Linear.{Linear}
use Rattle.logic_cert.specs.declared.cert.Combine.{Combine}
use Rattle.logic_cert.specs.declared.cert.Cert.{Cert}
use Rattle.logic_cert.specs.declared.cert.Cert.TheVariants as certificates
use Rattle.logic_outline.specs.declared.outline.Node.{Node}
use Rattle.logic_outline.specs.declared.outline.Node.TheVariants.{Parts, End, Sides}
use Rattle.logic_outline.specs.Outlines.{outline_of, outlines_of}
use Rattle.logic_outline.proofs.OutlineForms.{cases_outline, chain_outline, clash_outline, split_outline}

pub top_first : {X : Type 0} (xs : List X) (x : X) → reverse (xs ++ x ∷ []) ≡ x ∷ reverse xs
top_first xs x = reverse-append xs (x ∷ [])

-- the certificate on top is one node, and then its parts
taken : (todo left after : List Cert) (cert : Cert) (node : Node) (parts : List Cert) → todo ≡ left ++ cert ∷ [] → outline_of cert ≡ node ∷ outlines_of parts → reverse after ≡ parts ++ reverse left
    → outlines_of (reverse todo) ≡ node ∷ outlines_of (reverse after)
taken todo left after cert node parts popped is put =
    ap (λ (some : List Cert). outlines_of (reverse some)) popped ∙ ap outlines_of (top_first left cert) ∙ ap (λ (nodes : List Node). nodes ++ outlines_of (reverse left)) is
    ∙ ap (λ (nodes : List Node). node ∷ nodes) (sym (flat_map-append outline_of parts (reverse left)) ∙ ap outlines_of (sym put))

goes : (nodes more whole : List Node) (todo after : List Cert) (node : Node) → outlines_of (reverse todo) ≡ node ∷ outlines_of (reverse after) → more ≡ nodes ++ node ∷ []
    → nodes ++ outlines_of (reverse todo) ≡ whole → more ++ outlines_of (reverse after) ≡ whole
goes nodes more whole todo after node is push so_far =
    ap (λ (some : List Node). some ++ outlines_of (reverse after)) push ∙ append_assoc nodes (node ∷ []) (outlines_of (reverse after)) ∙ ap (λ (some : List Node). nodes ++ some) (sym is) ∙ so_far

less : (todo after : List Cert) (node : Node) → outlines_of (reverse todo) ≡ node ∷ outlines_of (reverse after) → length (outlines_of (reverse after)) < length (outlines_of (reverse todo))
less todo after node is = omega (arith, ap length is)

-- what a turn of the loop does
pub record Turn (todo after : List Cert) (nodes more : List Node) (whole : List Node) : Type 0 where
  pub goes : nodes ++ outlines_of (reverse todo) ≡ whole → more ++ outlines_of (reverse after) ≡ whole
  pub less : length (outlines_of (reverse after)) < length (outlines_of (reverse todo))

turn : (nodes more whole : List Node) (todo after : List Cert) (node : Node) → outlines_of (reverse todo) ≡ node ∷ outlines_of (reverse after) → more ≡ nodes ++ node ∷ [] → Turn todo after nodes more whole
turn nodes more whole todo after node is push = record { goes = goes nodes more whole todo after node is push; less = less todo after node is }

pub split_turn : (nodes more whole : List Node) (todo left after : List Cert) (cert : Cert) (certs counted put : List Cert) → todo ≡ left ++ cert ∷ [] → cert ≡ certificates.Split certs → counted ≡ certs → put ≡ certs
    → more ≡ nodes ++ Parts (length counted) ∷ [] → reverse after ≡ put ++ reverse left → Turn todo after nodes more whole
split_turn nodes more whole todo left after cert certs counted put popped is count same push put_is =
    turn nodes more whole todo after (Parts (length certs))
    (taken todo left after cert (Parts (length certs)) certs popped (ap outline_of is ∙ split_outline certs) (put_is ∙ ap (λ (some : List Cert). some ++ reverse left) same))
    (push ∙ ap (λ (some : List Cert). nodes ++ Parts (length some) ∷ []) count)

pub clash_turn : (nodes more whole : List Node) (todo left : List Cert) (cert : Cert) (one other : ℕ) → todo ≡ left ++ cert ∷ [] → cert ≡ certificates.Clash one other
    → more ≡ nodes ++ End (certificates.Clash one other) ∷ [] → Turn todo left nodes more whole
clash_turn nodes more whole todo left cert one other popped is push =
    turn nodes more whole todo left (End (certificates.Clash one other)) (taken todo left left cert (End (certificates.Clash one other)) [] popped (ap outline_of is ∙ clash_outline one other) refl) push

pub chain_turn : (nodes more whole : List Node) (todo left : List Cert) (cert : Cert) (combines : List Combine) → todo ≡ left ++ cert ∷ [] → cert ≡ certificates.Chain combines
    → more ≡ nodes ++ End (certificates.Chain combines) ∷ [] → Turn todo left nodes more whole
chain_turn nodes more whole todo left cert combines popped is push =
    turn nodes more whole todo left (End (certificates.Chain combines)) (taken todo left left cert (End (certificates.Chain combines)) [] popped (ap outline_of is ∙ chain_outline combines) refl) push

pub cases_turn : (nodes more whole : List Node) (todo left one after : List Cert) (cert : Cert) (form : Linear) (below above low high : Cert) → todo ≡ left ++ cert ∷ [] → cert ≡ certificates.Cases form below above → low ≡ below → high ≡ above
    → more ≡ nodes ++ Sides form ∷ [] → one ≡ left ++ high ∷ [] → after ≡ one ++ low ∷ [] → Turn todo after nodes more whole
cases_turn nodes more whole todo left one after cert form below above low high popped is low_is high_is push first second =
    turn nodes more whole todo after (Sides form)
    (taken todo left after cert (Sides form) (below ∷ above ∷ []) popped (ap outline_of is ∙ cases_outline form below above)
    (ap reverse second ∙ top_first one low ∙ ap (λ (some : List Cert). low ∷ some) (ap reverse first ∙ top_first left high) ∙ rw (low_is, high_is) refl))
    push

pub all_done : (cert : Cert) (todo : List Cert) (nodes : List Node) → todo ≡ [] → nodes ++ outlines_of (reverse todo) ≡ outline_of cert → outline_of cert ≡ nodes
all_done cert todo nodes none so_far =
    sym so_far ∙ ap (λ (some : List Cert). nodes ++ outlines_of (reverse some)) none ∙ append-nil nodes
