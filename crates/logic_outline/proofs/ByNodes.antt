-- A certificate that is read node by node.
use Rattle.std.proofs.Common.{◌≡◌, Bor, Option, None, Some, ℕ, zero, suc, ◌<◌, ◌≤◌, List, [], ◌∷◌, ◌++◌, All, map, length, take, drop, codes, refl, sym, ap, subst, ◌∙◌, append_assoc, append-nil, length-append, arith}
use Rattle.std.specs.List.{flat_map}
use Rattle.std.proofs.lemmas.List.{append_cancel_left, take-append-drop, length-take, length-drop}
use Rattle.std.proofs.lemmas.List.Concat.{flat_map-append}
use Rattle.std.proofs.lemmas.List.Elements.{All-head, All-nil, All-push, All-tail}
use Rattle.logic_linear.specs.Linear.{Linear}
use Rattle.logic_cert.specs.declared.cert.Cert.{Cert, out-Cert}
use Rattle.logic_cert.specs.declared.cert.Cert.TheOpen.{Cert-F}
use Rattle.logic_cert.specs.declared.cert.Cert.TheOpen as layers
use Rattle.logic_cert.specs.declared.cert.Cert.TheVariants as certificates
use Rattle.logic_cert.specs.declared.cert.Cert.TheViews.{roll-Cert, roll-out-Cert}
use Rattle.logic_cert.specs.CertText.{cert_text, form_text}
use Rattle.logic_cert.specs.inner.Texts.{later_text, later_texts}
use Rattle.logic_cert.proofs.TextLemmas.{text-Cases, text-Split}
use Rattle.logic_outline.specs.declared.outline.Node.{Node}
use Rattle.logic_outline.specs.declared.outline.Node.TheVariants.{Parts, End, Sides}
use Rattle.logic_outline.specs.Outlines.{cert_of, HasTypedNumbers, IsEnd, IsTyped, outline_of, outlines_of}
use Rattle.logic_outline.specs.Readings.{EndsNumber, IsRead}
use Rattle.logic_outline.specs.inner.Parts.{above_texts, due_texts, IsAfter, IsResumed, later_after, later_node, node_text, opened}
use Rattle.logic_outline.proofs.OutlineForms.{cases_outline, chain_outline, clash_outline, same_back, split_outline, whole_back}
use Rattle.logic_outline.proofs.Readings.{word_then}

-- ---- what is due

-- the nodes of the certificates that come at once, and after each word of a second side
abbrev pub due_nodes : List Cert → List (List Cert) → List Node
due_nodes certs later = outlines_of certs ++ flat_map outlines_of later

outlines_append : (certs more : List Cert) → outlines_of (certs ++ more) ≡ outlines_of certs ++ outlines_of more
outlines_append certs more = flat_map-append outline_of certs more

texts_append : (certs more : List Cert) → later_texts (certs ++ more) ≡ later_texts certs ++ later_texts more
texts_append certs more = flat_map-append later_text certs more

-- a node comes first, and these certificates after it
record Step (certs : List Cert) (later : List (List Cert)) (node : Node) (now : List Cert) (after : List (List Cert)) : Type 0 where
  nodes : due_nodes certs later ≡ node ∷ due_nodes now after
  text : due_texts certs later ≡ later_node node ++ due_texts now after

split_step : (parts more : List Cert) (later : List (List Cert)) → Step (certificates.Split parts ∷ more) later (Parts (length parts)) (parts ++ more) later
split_step parts more later = record {
  nodes =
      ap (λ (some : List Node). (some ++ outlines_of more) ++ flat_map outlines_of later) (split_outline parts)
      ∙ ap (λ (some : List Node). Parts (length parts) ∷ (some ++ flat_map outlines_of later)) (sym (outlines_append parts more));
  text =
      ap (λ (some : List ℕ). ((codes " " ++ some) ++ later_texts more) ++ above_texts later) (sym (text-Split (certificates.Split parts) parts parts parts refl refl refl))
      ∙ ap (λ (some : List ℕ). some ++ above_texts later) (append_assoc (later_node (Parts (length parts))) (later_texts parts) (later_texts more))
      ∙ append_assoc (later_node (Parts (length parts))) (later_texts parts ++ later_texts more) (above_texts later)
      ∙ ap (λ (some : List ℕ). later_node (Parts (length parts)) ++ (some ++ above_texts later)) (sym (texts_append parts more));
}

end_step : (cert : Cert) (more : List Cert) (later : List (List Cert)) → outline_of cert ≡ End cert ∷ [] → Step (cert ∷ more) later (End cert) more later
end_step cert more later is = record {
  nodes = ap (λ (some : List Node). (some ++ outlines_of more) ++ flat_map outlines_of later) is;
  text = append_assoc (later_text cert) (later_texts more) (above_texts later);
}

from_above : (below above more later : List ℕ) → ((below ++ (codes " above " ++ above)) ++ more) ++ later ≡ (below ++ []) ++ ((codes " above" ++ ((codes " " ++ above) ++ more)) ++ later)
from_above [] above more later = refl
from_above (byte ∷ below) above more later = ap (λ (some : List ℕ). byte ∷ some) (from_above below above more later)

from_below : (form below above more later : List ℕ) → (((form ++ (codes " below " ++ below)) ++ (codes " above " ++ above)) ++ more) ++ later
    ≡ (form ++ codes " below") ++ (((codes " " ++ below) ++ []) ++ ((codes " above" ++ ((codes " " ++ above) ++ more)) ++ later))
from_below [] below above more later = ap (λ (some : List ℕ). codes " below " ++ some) (from_above below above more later)
from_below (byte ∷ form) below above more later = ap (λ (some : List ℕ). byte ∷ some) (from_below form below above more later)

cases_step : (form : Linear) (below above : Cert) (more : List Cert) (later : List (List Cert)) → Step (certificates.Cases form below above ∷ more) later (Sides form) (below ∷ []) ((above ∷ more) ∷ later)
cases_step form below above more later = record { nodes = nodes; text = text }
  where
    nodes : due_nodes (certificates.Cases form below above ∷ more) later ≡ Sides form ∷ due_nodes (below ∷ []) ((above ∷ more) ∷ later)
    nodes =
        ap (λ (some : List Node). (some ++ outlines_of more) ++ flat_map outlines_of later) (cases_outline form below above)
        ∙ ap (λ (some : List Node). Sides form ∷ (some ++ flat_map outlines_of later))
        (append_assoc (outline_of below) (outline_of above ++ []) (outlines_of more) ∙ ap (λ (some : List Node). outline_of below ++ (some ++ outlines_of more)) (append-nil (outline_of above)))
        ∙ ap (λ (some : List Node). Sides form ∷ some) (append_assoc (outline_of below) (outline_of above ++ outlines_of more) (flat_map outlines_of later))
        ∙ ap (λ (some : List Node). Sides form ∷ (some ++ ((outline_of above ++ outlines_of more) ++ flat_map outlines_of later))) (sym (append-nil (outline_of below)))

    text : due_texts (certificates.Cases form below above ∷ more) later ≡ later_node (Sides form) ++ due_texts (below ∷ []) ((above ∷ more) ∷ later)
    text =
        ap (λ (some : List ℕ). ((codes " " ++ some) ++ later_texts more) ++ above_texts later) (sym (text-Cases (certificates.Cases form below above) form below above below above refl refl refl))
        ∙ ap (λ (some : List ℕ). codes " cases " ++ some) (from_below (form_text form) (cert_text below) (cert_text above) (later_texts more) (above_texts later))

-- ---- the first node of a certificate

-- a clash or a chain is a node of its own
end_layer : (cert : Cert) (layer : Cert-F Cert) → cert ≡ roll-Cert layer → IsEnd layer → outline_of cert ≡ End cert ∷ []
end_layer cert (layers.Split certs) is fits = absurd fits
end_layer cert (layers.Clash left right) is fits =
    let same = is ∙ certificates.rolls-Clash left right in
    ap outline_of same ∙ clash_outline left right ∙ ap (λ (one : Cert). End one ∷ []) (sym same)
end_layer cert (layers.Chain combines) is fits =
    let same = is ∙ certificates.rolls-Chain combines in
    ap outline_of same ∙ chain_outline combines ∙ ap (λ (one : Cert). End one ∷ []) (sym same)
end_layer cert (layers.Cases form below above) is fits = absurd fits

end_outline : (cert : Cert) → IsTyped (End cert) → outline_of cert ≡ End cert ∷ []
end_outline cert fits = end_layer cert (out-Cert cert) (sym (roll-out-Cert cert)) fits

-- the node that comes next where certificates are due
record Next (certs : List Cert) (later : List (List Cert)) : Type 0 where
  node : Node
  now : List Cert
  after : List (List Cert)
  step : Step certs later node now after
  number : length now ≡ opened node (length certs)
  numbers : map length after ≡ later_after node (length certs) (map length later)

next_layer : (cert : Cert) (layer : Cert-F Cert) (more : List Cert) (later : List (List Cert)) → cert ≡ roll-Cert layer → Next (cert ∷ more) later
next_layer cert (layers.Split parts) more later is = record {
  node = Parts (length parts);
  now = parts ++ more;
  after = later;
  step = subst (λ (one : Cert). Step (one ∷ more) later (Parts (length parts)) (parts ++ more) later) (sym (is ∙ certificates.rolls-Split parts)) (split_step parts more later);
  number = omega (arith, length-append parts more);
  numbers = refl;
}
next_layer cert (layers.Clash left right) more later is = record {
  node = End cert;
  now = more;
  after = later;
  step = end_step cert more later (let same = is ∙ certificates.rolls-Clash left right in ap outline_of same ∙ clash_outline left right ∙ ap (λ (one : Cert). End one ∷ []) (sym same));
  number = omega arith;
  numbers = refl;
}
next_layer cert (layers.Chain combines) more later is = record {
  node = End cert;
  now = more;
  after = later;
  step = end_step cert more later (let same = is ∙ certificates.rolls-Chain combines in ap outline_of same ∙ chain_outline combines ∙ ap (λ (one : Cert). End one ∷ []) (sym same));
  number = omega arith;
  numbers = refl;
}
next_layer cert (layers.Cases form below above) more later is = record {
  node = Sides form;
  now = below ∷ [];
  after = (above ∷ more) ∷ later;
  step = subst (λ (one : Cert). Step (one ∷ more) later (Sides form) (below ∷ []) ((above ∷ more) ∷ later)) (sym (is ∙ certificates.rolls-Cases form below above)) (cases_step form below above more later);
  number = refl;
  numbers = refl;
}

next : (certs : List Cert) (later : List (List Cert)) → 1 ≤ length certs → Next certs later
next [] later some = absurd (omega (arith, some))
next (cert ∷ certs) later some = next_layer cert (out-Cert cert) certs later (sym (roll-out-Cert cert))

-- ---- the state of a reading

-- no word of a second side has nothing after it
abbrev pub Positive : List ℕ → Type 0
Positive [] = Unit {0}
Positive (due ∷ later) = (1 ≤ due) × Positive later

-- what comes after the nodes that were read, in the text of a certificate
pub record Later (nodes : List Node) (now : List ℕ) (due : ℕ) (later : List ℕ) (cert : Cert) (left : List ℕ) : Type 0 where
  pub certs : List Cert
  pub others : List (List Cert)
  pub whole : nodes ++ due_nodes certs others ≡ outline_of cert
  pub number : length certs ≡ due
  pub numbers : map length others ≡ later
  pub all : All IsTyped (due_nodes certs others)
  pub text : due_texts certs others ++ left ≡ now

-- a certificate whose nodes and whose text go on so
pub record Whole (nodes : List Node) (read : List ℕ) (certs : List Cert) (others : List (List Cert)) : Type 0 where
  pub cert : Cert
  pub is : outline_of cert ≡ nodes ++ due_nodes certs others
  pub text : codes " " ++ cert_text cert ≡ read ++ due_texts certs others

-- nodes were read, and so many certificates are due
pub record Reads (start : List ℕ) (nodes : List Node) (now : List ℕ) (due : ℕ) (later : List ℕ) : Type 0 where
  pub read : List ℕ
  pub here : read ++ now ≡ codes " " ++ start
  pub all : All IsTyped nodes
  pub positive : Positive later
  pub whole : (certs : List Cert) (others : List (List Cert)) → length certs ≡ due → map length others ≡ later → Whole nodes read certs others
  pub onward : (cert : Cert) (left : List ℕ) → HasTypedNumbers cert → EndsNumber left → cert_text cert ++ left ≡ start → Later nodes now due later cert left

one_whole : (certs : List Cert) (others : List (List Cert)) → length certs ≡ 1 → map length others ≡ [] → Whole [] [] certs others
one_whole [] others number numbers = absurd (omega (arith, number))
one_whole (cert ∷ other ∷ certs) others number numbers = absurd (omega (arith, number))
one_whole (cert ∷ []) (some ∷ others) number numbers = absurd cc
one_whole (cert ∷ []) [] number numbers = record {
  cert = cert;
  is = sym (append-nil (outline_of cert ++ []) ∙ append-nil (outline_of cert));
  text = sym (append-nil (later_text cert ++ []) ∙ append-nil (later_text cert));
}

pub at_start : (start : List ℕ) → Reads start [] (codes " " ++ start) 1 []
at_start start = record {
  read = [];
  here = refl;
  all = All-nil IsTyped;
  positive = tt;
  whole = one_whole;
  onward = λ cert left typed ends same.
      let alone : due_nodes (cert ∷ []) [] ≡ outline_of cert = append-nil (outline_of cert ++ []) ∙ append-nil (outline_of cert) in
      record {
        certs = cert ∷ [];
        others = [];
        whole = alone;
        number = refl;
        numbers = refl;
        all = subst (All IsTyped) (sym alone) typed;
        text = ap (λ (text : List ℕ). text ++ left) (append-nil (later_text cert ++ []) ∙ append-nil (later_text cert)) ∙ ap (λ (text : List ℕ). codes " " ++ text) same;
      };
}

-- ---- a node more

-- where certificates are due, no digit comes next
due_starts : (certs : List Cert) (others : List (List Cert)) (left : List ℕ) → EndsNumber left → EndsNumber (due_texts certs others ++ left)
due_starts [] [] left ends = ends
due_starts [] (some ∷ others) left ends = refl
due_starts (cert ∷ certs) others left ends = refl

-- with the certificates that are due after the node, it is whole again
record Before (node : Node) (due : ℕ) (later : List ℕ) (now : List Cert) (after : List (List Cert)) : Type 0 where
  certs : List Cert
  others : List (List Cert)
  number : length certs ≡ due
  numbers : map length others ≡ later
  step : Step certs others node now after

sides_before : (form : Linear) (due : ℕ) (later : List ℕ) (now : List Cert) (after : List (List Cert)) → 1 ≤ due → length now ≡ 1 → map length after ≡ due ∷ later → Before (Sides form) due later now after
sides_before form due later [] after some number numbers = absurd (omega (arith, number))
sides_before form due later (below ∷ other ∷ now) after some number numbers = absurd (omega (arith, number))
sides_before form due later (below ∷ []) [] some number numbers = absurd cc
sides_before form due later (below ∷ []) ([] ∷ others) some number numbers = let none : 0 ≡ due = cc in absurd (omega (arith, none, some))
sides_before form due later (below ∷ []) ((above ∷ more) ∷ others) some number numbers = record {
  certs = certificates.Cases form below above ∷ more;
  others = others;
  number = cc;
  numbers = cc;
  step = cases_step form below above more others;
}

due_before : (node : Node) (due : ℕ) (later : List ℕ) (now : List Cert) (after : List (List Cert)) → 1 ≤ due → IsTyped node → length now ≡ opened node due → map length after ≡ later_after node due later
    → Before node due later now after
due_before (Parts count) due later now after some typed number numbers =
    let size : length (take count now) ≡ count = omega (arith, length-take count now, number) in
    record {
      certs = certificates.Split (take count now) ∷ drop count now;
      others = after;
      number = omega (arith, length-drop count now, number);
      numbers = numbers;
      step = subst (λ (n : ℕ). Step (certificates.Split (take count now) ∷ drop count now) after (Parts n) now after) size
          (subst (λ (whole : List Cert). Step (certificates.Split (take count now) ∷ drop count now) after (Parts (length (take count now))) whole after) (take-append-drop count now)
          (split_step (take count now) (drop count now) after));
    }
due_before (End cert) due later now after some typed number numbers = record {
  certs = cert ∷ now;
  others = after;
  number = omega (arith, number);
  numbers = numbers;
  step = end_step cert now after (end_outline cert typed);
}
due_before (Sides form) due later now after some typed number numbers = sides_before form due later now after some number numbers

later_on : (nodes : List Node) (now : List ℕ) (due : ℕ) (later : List ℕ) (one : Node × Bor (List ℕ)) (cert : Cert) (left : List ℕ) → 1 ≤ due
    → IsRead later_node IsTyped now (Some one) → EndsNumber left → Later nodes now due later cert left
    → Later (nodes ++ one.0 ∷ []) one.1.now (opened one.0 due) (later_after one.0 due later) cert left
later_on nodes now due later one cert left some r ends l =
    let n = next l.certs l.others (omega (arith, some, l.number)) in
    let each : All IsTyped (n.node ∷ due_nodes n.now n.after) = subst (All IsTyped) n.step.nodes l.all in
    let at = r.again n.node (due_texts n.now n.after ++ left) (All-head IsTyped n.node (due_nodes n.now n.after) each) (due_starts n.now n.after left ends)
    (sym (append_assoc (later_node n.node) (due_texts n.now n.after) left) ∙ ap (λ (t : List ℕ). t ++ left) (sym n.step.text) ∙ l.text) in
    record {
      certs = n.now;
      others = n.after;
      whole = append_assoc nodes (one.0 ∷ []) (due_nodes n.now n.after) ∙ ap (λ (node : Node). nodes ++ node ∷ due_nodes n.now n.after) at.0
          ∙ ap (λ (some : List Node). nodes ++ some) (sym n.step.nodes) ∙ l.whole;
      number = n.number ∙ ap (opened n.node) l.number ∙ ap (λ (node : Node). opened node due) (sym at.0);
      numbers = n.numbers ∙ ap (λ (size : ℕ). later_after n.node size (map length l.others)) l.number ∙ ap (later_after n.node due) l.numbers ∙ ap (λ (node : Node). later_after node due later) (sym at.0);
      all = All-tail IsTyped n.node (due_nodes n.now n.after) each;
      text = sym at.1;
    }

still_positive : (node : Node) (due : ℕ) (later : List ℕ) → 1 ≤ due → Positive later → Positive (later_after node due later)
still_positive (Parts count) due later some h = h
still_positive (End cert) due later some h = h
still_positive (Sides form) due later some h = (some, h)

pub go_on : (start : List ℕ) (nodes : List Node) (now : List ℕ) (due : ℕ) (later : List ℕ) (one : Node × Bor (List ℕ)) → 1 ≤ due → IsRead later_node IsTyped now (Some one)
    → Reads start nodes now due later → Reads start (nodes ++ one.0 ∷ []) one.1.now (opened one.0 due) (later_after one.0 due later)
go_on start nodes now due later one some r f = record {
  read = f.read ++ later_node one.0;
  here = append_assoc f.read (later_node one.0) one.1.now ∙ ap (λ (t : List ℕ). f.read ++ t) r.found.1 ∙ f.here;
  all = All-push IsTyped nodes one.0 f.all r.found.0;
  positive = still_positive one.0 due later some f.positive;
  whole = λ certs others number numbers.
      let b = due_before one.0 due later certs others some r.found.0 number numbers in
      let w = f.whole b.certs b.others b.number b.numbers in
      record {
        cert = w.cert;
        is = w.is ∙ ap (λ (some : List Node). nodes ++ some) b.step.nodes ∙ sym (append_assoc nodes (one.0 ∷ []) (due_nodes certs others));
        text = w.text ∙ ap (λ (t : List ℕ). f.read ++ t) b.step.text ∙ sym (append_assoc f.read (later_node one.0) (due_texts certs others));
      };
  onward = λ cert left typed ends same. later_on nodes now due later one cert left some r ends (f.onward cert left typed ends same);
}

-- ---- the word of a second side

no_certs : {X : Type 0} (xs : List X) → length xs ≡ 0 → xs ≡ []
no_certs [] number = refl
no_certs (x ∷ xs) number = absurd (omega (arith, number))

above_on : (nodes : List Node) (now rest : List ℕ) (due : ℕ) (later : List ℕ) (cert : Cert) (left : List ℕ) → codes " above" ++ rest ≡ now
    → (certs : List Cert) (others : List (List Cert)) → nodes ++ due_nodes certs others ≡ outline_of cert → length certs ≡ 0 → map length others ≡ due ∷ later
    → All IsTyped (due_nodes certs others) → due_texts certs others ++ left ≡ now → Later nodes rest due later cert left
above_on nodes now rest due later cert left at (one ∷ certs) others whole number numbers all text = absurd (omega (arith, number))
above_on nodes now rest due later cert left at [] [] whole number numbers all text = absurd cc
above_on nodes now rest due later cert left at [] (some ∷ others) whole number numbers all text = record {
  certs = some;
  others = others;
  whole = whole;
  number = cc;
  numbers = cc;
  all = all;
  text = append_cancel_left (codes " above") (due_texts some others ++ left) rest
      (sym (append_assoc (codes " above") (due_texts some others) left) ∙ ap (λ (t : List ℕ). t ++ left) (sym (append_assoc (codes " above") (later_texts some) (above_texts others))) ∙ text ∙ sym at);
}

go_above : (start : List ℕ) (nodes : List Node) (now rest : List ℕ) (due : ℕ) (later : List ℕ) → codes " above" ++ rest ≡ now → Reads start nodes now 0 (due ∷ later) → Reads start nodes rest due later
go_above start nodes now rest due later at f = record {
  read = f.read ++ codes " above";
  here = append_assoc f.read (codes " above") rest ∙ ap (λ (t : List ℕ). f.read ++ t) at ∙ f.here;
  all = f.all;
  positive = f.positive.1;
  whole = λ certs others number numbers.
      let w = f.whole [] (certs ∷ others) refl (rw (number, numbers) refl) in
      record {
        cert = w.cert;
        is = w.is;
        text = w.text ∙ ap (λ (t : List ℕ). f.read ++ t) (append_assoc (codes " above") (later_texts certs) (above_texts others)) ∙ sym (append_assoc f.read (codes " above") (due_texts certs others));
      };
  onward = λ cert left typed ends same.
      let l = f.onward cert left typed ends same in
      above_on nodes now rest due later cert left at l.certs l.others l.whole l.number l.numbers l.all l.text;
}

-- ---- where it stops

pub stops : (start : List ℕ) (nodes : List Node) (now : List ℕ) (due : ℕ) (later : List ℕ) → 1 ≤ due → IsRead later_node IsTyped now None
    → Reads start nodes now due later → IsRead cert_text HasTypedNumbers start None
stops start nodes now due later some r f = record {
  found = tt;
  again = λ cert left typed ends same.
      let l = f.onward cert left typed ends same in
      let n = next l.certs l.others (omega (arith, some, l.number)) in
      let each : All IsTyped (n.node ∷ due_nodes n.now n.after) = subst (All IsTyped) n.step.nodes l.all in
      r.again n.node (due_texts n.now n.after ++ left) (All-head IsTyped n.node (due_nodes n.now n.after) each) (due_starts n.now n.after left ends)
      (sym (append_assoc (later_node n.node) (due_texts n.now n.after) left) ∙ ap (λ (t : List ℕ). t ++ left) (sym n.step.text) ∙ l.text);
}

-- each certificate has a byte at least
short : (certs : List Cert) → length certs ≤ length (later_texts certs)
short [] = omega arith
short (cert ∷ certs) = let rest = short certs in omega (arith, rest, length-append (later_text cert) (later_texts certs))

too_many : (start : List ℕ) (nodes : List Node) (now : List ℕ) (due : ℕ) (later : List ℕ) → length now < due → Reads start nodes now due later → IsRead cert_text HasTypedNumbers start None
too_many start nodes now due later few f = record {
  found = tt;
  again = λ cert left typed ends same.
      let l = f.onward cert left typed ends same in
      absurd (omega (arith, few, l.number, short l.certs, length-append (later_texts l.certs) (above_texts l.others), length-append (due_texts l.certs l.others) left, ap length l.text));
}

no_above : (start : List ℕ) (nodes : List Node) (now : List ℕ) (due : ℕ) (later : List ℕ) → ((rest : List ℕ) → codes " above" ++ rest ≡ now → ⊥) → Reads start nodes now 0 (due ∷ later)
    → IsRead cert_text HasTypedNumbers start None
no_above start nodes now due later never f = record {
  found = tt;
  again = λ cert left typed ends same. let l = f.onward cert left typed ends same in by left l.certs l.others l.number l.numbers l.text;
}
  where
    by : (left : List ℕ) (certs : List Cert) (others : List (List Cert)) → length certs ≡ 0 → map length others ≡ due ∷ later → due_texts certs others ++ left ≡ now → ⊥
    by left (cert ∷ certs) others number numbers text = absurd (omega (arith, number))
    by left [] [] number numbers text = absurd cc
    by left [] (some ∷ others) number numbers text =
        never ((later_texts some ++ above_texts others) ++ left)
        (sym (append_assoc (codes " above") (later_texts some ++ above_texts others) left) ∙ ap (λ (t : List ℕ). t ++ left) (sym (append_assoc (codes " above") (later_texts some) (above_texts others))) ∙ text)

-- ---- what is read after a node

-- nodes were read, and where no certificate is due, nothing is
pub record Ready (start : List ℕ) (nodes : List Node) (now : List ℕ) (due : ℕ) (later : List ℕ) : Type 0 where
  pub reads : Reads start nodes now due later
  pub ends : due ≡ 0 → later ≡ []

resumed : (start : List ℕ) (nodes : List Node) (now : List ℕ) (due : ℕ) (later new : List ℕ) (at : ℕ × Bor (List ℕ)) → Reads start nodes now due later → IsResumed due later now new (Some at)
    → Ready start nodes at.1.now at.0 new
resumed start nodes now (suc due) later new at f (number, left, same) = record {
  reads = rw (number, left, same) f;
  ends = λ none. absurd (omega (arith, number, none));
}
resumed start nodes now zero [] new at f (number, left, same) = record { reads = rw (number, left, same) f; ends = λ none. same }
resumed start nodes now zero (due ∷ later) new at f (number, left, same) = record {
  reads = rw (number, same) (go_above start nodes now at.1.now due later left f);
  ends = λ none. absurd (omega (arith, number, none, f.positive.0));
}

not_resumed : (start : List ℕ) (nodes : List Node) (now : List ℕ) (due : ℕ) (later new : List ℕ) → Reads start nodes now due later → IsResumed due later now new None → IsRead cert_text HasTypedNumbers start None
not_resumed start nodes now (suc due) later new f h = too_many start nodes now (suc due) later h f
not_resumed start nodes now zero [] new f h = absurd h
not_resumed start nodes now zero (due ∷ later) new f h = no_above start nodes now due later h f

pub after_is : (node : Node) (due : ℕ) (old same bytes new : List ℕ) (read made : Option (ℕ × Bor (List ℕ))) → old ≡ same → read ≡ made → IsAfter node due old bytes new read → IsAfter node due same bytes new made
after_is node due old same bytes new read made old_is is h = subst (IsAfter node due same bytes new) is (subst (λ (later : List ℕ). IsAfter node due later bytes new read) old_is h)

pub after_node : (start : List ℕ) (nodes : List Node) (now : List ℕ) (due : ℕ) (later new : List ℕ) (one : Node × Bor (List ℕ)) (at : ℕ × Bor (List ℕ)) → 1 ≤ due → IsRead later_node IsTyped now (Some one)
    → IsAfter one.0 due later one.1.now new (Some at) → Reads start nodes now due later → Ready start (nodes ++ one.0 ∷ []) at.1.now at.0 new
after_node start nodes now due later new one at some r h f = resumed start (nodes ++ one.0 ∷ []) one.1.now (opened one.0 due) (later_after one.0 due later) new at (go_on start nodes now due later one some r f) h

pub none_after : (start : List ℕ) (nodes : List Node) (now : List ℕ) (due : ℕ) (later new : List ℕ) (one : Node × Bor (List ℕ)) → 1 ≤ due → IsRead later_node IsTyped now (Some one)
    → IsAfter one.0 due later one.1.now new None → Reads start nodes now due later → IsRead cert_text HasTypedNumbers start None
none_after start nodes now due later new one some r h f = not_resumed start (nodes ++ one.0 ∷ []) one.1.now (opened one.0 due) (later_after one.0 due later) new (go_on start nodes now due later one some r f) h

-- ---- where it ends

none_due : (nodes : List Node) (certs : List Cert) (others : List (List Cert)) (cert : Cert) (left now : List ℕ) → length certs ≡ 0 → map length others ≡ [] → nodes ++ due_nodes certs others ≡ outline_of cert
    → due_texts certs others ++ left ≡ now → (outline_of cert ≡ nodes) × (now ≡ left)
none_due nodes [] [] cert left now number numbers whole text = (sym whole ∙ append-nil nodes, sym text)
none_due nodes [] (some ∷ others) cert left now number numbers whole text = absurd cc
none_due nodes (one ∷ certs) others cert left now number numbers whole text = absurd (omega (arith, number))

last_whole : (start : List ℕ) (nodes : List Node) (now : List ℕ) (due : ℕ) (later : List ℕ) → due ≡ 0 → (f : Ready start nodes now due later) → Whole nodes f.reads.read [] []
last_whole start nodes now due later none f = f.reads.whole [] [] (sym none) (sym (f.ends none))

pub is_whole : (start : List ℕ) (nodes : List Node) (now : List ℕ) (due : ℕ) (later : List ℕ) → due ≡ 0 → Ready start nodes now due later → outline_of (cert_of nodes) ≡ nodes
is_whole start nodes now due later none f =
    let w = last_whole start nodes now due later none f in
    whole_back w.cert nodes (w.is ∙ append-nil nodes)

pub ends : (start : List ℕ) (nodes : List Node) (now : Bor (List ℕ)) (due : ℕ) (later : List ℕ) → due ≡ 0 → Ready start nodes now.now due later
    → IsRead cert_text HasTypedNumbers start (Some (cert_of nodes, now))
ends start nodes now due later none f =
    let w = last_whole start nodes now.now due later none f in
    let same : cert_of nodes ≡ w.cert = same_back w.cert nodes (w.is ∙ append-nil nodes) in
    record {
      found = (
        subst (All IsTyped) (sym (is_whole start nodes now.now due later none f)) f.reads.all,
        append_cancel_left (codes " ") (cert_text (cert_of nodes) ++ now.now) start
            (ap (λ (cert : Cert). codes " " ++ (cert_text cert ++ now.now)) same ∙ ap (λ (t : List ℕ). t ++ now.now) (w.text ∙ append-nil f.reads.read) ∙ f.reads.here),
      );
      again = λ cert left typed ends same.
          let l = f.reads.onward cert left typed ends same in
          let last = none_due nodes l.certs l.others cert left now.now (l.number ∙ none) (l.numbers ∙ f.ends none) l.whole l.text in
          (same_back cert nodes last.0, last.1);
    }

-- ---- the first node, after no blank

pub first_read : (start : List ℕ) (read : Option (Node × Bor (List ℕ))) → IsRead node_text IsTyped start read → IsRead later_node IsTyped (codes " " ++ start) read
first_read start read r = word_then node_text IsTyped (codes " ") start (codes " " ++ start) read refl r
