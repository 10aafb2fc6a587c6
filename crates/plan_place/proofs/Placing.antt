-- One condition, note, kind or proof more.
use Rattle.std.proofs.Common.{◌≡◌, ◌==◌, ◌⊎◌, inl, inr, ℕ, ◌+◌, ◌-◌, ◌<◌, ◌≤◌, Bool, true, false, not, cond, ◌&&◌, ◌||◌, List, [], ◌∷◌, ◌++◌, map, length, get_or, length-append, append_assoc, append-nil, Option, Some, None, refl, sym, ap, subst, ◌∙◌, arith}
use Rattle.std.specs.Prelude.{All, slice_get, IfSome}
use Rattle.std.specs.List.{filter, flat_map, enumerate_from, range_with_len}
use Rattle.std.specs.List.Sorted.{IsStrictlyIncreasing}
use Rattle.std.specs.Option.{option_map_or, option_to_list}
use Rattle.std.proofs.lemmas.Bool.{cases_lt, ne_eqb, eq-eqb, or_from, or_left, or_right, not_from_true, not_from_false}
use Rattle.std.proofs.lemmas.List.{map-append, get_or_append_left, get_or_push}
use Rattle.std.proofs.lemmas.List.Concat.{flat_map-append}
use Rattle.std.proofs.lemmas.List.Elements.{All-nil, All-cons, All-head, All-tail, All-append, All-push, All-map, All-weaker, filter-append}
use Rattle.lang_monitor.specs.declared.candidate.Candidate.{Candidate}
use Rattle.lang_monitor.specs.declared.claim.Claim.{Claim}
use Rattle.lang_monitor.specs.declared.claim.Claim.TheVariants as claims
use Rattle.lang_monitor.specs.declared.monitor.Block.{Block}
use Rattle.lang_monitor.specs.declared.monitor.Condition.{Condition}
use Rattle.lang_monitor.specs.MonitorParts.{MonitorParts}
use Rattle.machine_events.specs.declared.plan.CondKind.{CondKind}
use Rattle.machine_events.specs.declared.plan.Note.{Note}
use Rattle.machine_events.specs.declared.plan.Plan.{Plan}
use Rattle.machine_events.specs.Plans.{has_note}
use Rattle.plan_claims.specs.declared.placed.Proof.{Proof}
use Rattle.plan_claims.specs.Backing.{AreProofs, Certifies, backed_claims, kind_claims, reads_none, unnoted_claims, untested_claims, waits_at}
use Rattle.plan_place.specs.inner.Answers.{Adds, AreNotes, IsAnswerTo, IsNote, proof_of_kept, unnoted_claim, unnoted_up_to}
use Rattle.plan_prune.specs.declared.kept.Kept.{Kept}
use Rattle.plan_candidates.specs.Claims.{keeps_claims}
use Rattle.plan_prune.specs.Invariants.{AreProofs as AreKept}
use Rattle.plan_claims.proofs.Lists.{numbered_more, range_more, same_filter}

-- ---- proofs

pub no_proofs : (monitor : MonitorParts) (kept : List Candidate) → AreProofs monitor kept [] []
no_proofs monitor kept = record { claims = refl; certificates = All-nil (λ (proof : Proof). Certifies monitor kept proof.claim proof.cert) }

pub proofs_join : (monitor : MonitorParts) (kept : List Candidate) (wanted others : List Claim) (proofs more : List Proof) → AreProofs monitor kept wanted proofs
    → AreProofs monitor kept others more → AreProofs monitor kept (wanted ++ others) (proofs ++ more)
proofs_join monitor kept wanted others proofs more are too = record {
  claims = map-append (λ (proof : Proof). proof.claim) proofs more
      ∙ ap (λ (first : List Claim). first ++ map (λ (proof : Proof). proof.claim) more) are.claims ∙ ap (λ (rest : List Claim). wanted ++ rest) too.claims;
  certificates = All-append (λ (proof : Proof). Certifies monitor kept proof.claim proof.cert) proofs more are.certificates too.certificates;
}

pub one_proof : (monitor : MonitorParts) (kept : List Candidate) (claim : Claim) (proof : Proof) → IsAnswerTo monitor kept claim (Some proof)
    → AreProofs monitor kept (claim ∷ []) (proof ∷ [])
one_proof monitor kept claim proof is = record {
  claims = ap (λ (one : Claim). one ∷ []) is.0;
  certificates = All-cons (λ (proof : Proof). Certifies monitor kept proof.claim proof.cert) proof [] is.1 (All-nil (λ (proof : Proof). Certifies monitor kept proof.claim proof.cert));
}

pub adds_proofs : (monitor : MonitorParts) (kept : List Candidate) (others : List Claim) (before now more : List Proof) → now ≡ before ++ more
    → AreProofs monitor kept others more → Adds monitor kept others before now
adds_proofs monitor kept others before now more is are = λ wanted had.
    subst (AreProofs monitor kept (wanted ++ others)) (sym is) (proofs_join monitor kept wanted others before more had are)

pub adds_none : (monitor : MonitorParts) (kept : List Candidate) (before : List Proof) → Adds monitor kept [] before before
adds_none monitor kept before = λ wanted had. subst (λ (all : List Claim). AreProofs monitor kept all before) (sym (append-nil wanted)) had

pub adds_then : (monitor : MonitorParts) (kept : List Candidate) (first second all : List Claim) (before then now : List Proof) → all ≡ first ++ second
    → Adds monitor kept first before then → Adds monitor kept second then now → Adds monitor kept all before now
adds_then monitor kept first second all before then now is adds more = λ wanted had.
    subst (λ (claims : List Claim). AreProofs monitor kept claims now) (append_assoc wanted first second ∙ ap (λ (rest : List Claim). wanted ++ rest) (sym is))
    (more (wanted ++ first) (adds wanted had))

-- ---- numbered elements

pub flat_more : {X Y : Type 0} (f : ℕ × X → List Y) (first : ℕ) (xs : List X) (x : X) (last : ℕ) → first + length xs ≡ last
    → flat_map f (enumerate_from first (xs ++ x ∷ [])) ≡ flat_map f (enumerate_from first xs) ++ f (last, x)
flat_more f first xs x last is =
    ap (flat_map f) (numbered_more first xs x last is) ∙ flat_map-append f (enumerate_from first xs) ((last, x) ∷ [])
    ∙ ap (λ rest. flat_map f (enumerate_from first xs) ++ rest) (append-nil (f (last, x)))

pub all_more : {X : Type 0} (P : ℕ × X → Type 0) (first : ℕ) (xs : List X) (x : X) (last : ℕ) → first + length xs ≡ last → All P (enumerate_from first xs) → P (last, x)
    → All P (enumerate_from first (xs ++ x ∷ []))
all_more P first xs x last is all here =
    subst (All P) (sym (numbered_more first xs x last is)) (All-push P (enumerate_from first xs) (last, x) all here)

-- ---- the notes of a block

pub rises_more : (xs : List ℕ) (x count : ℕ) → IsStrictlyIncreasing xs → All (λ y. y ≤ count) xs → x ≡ count + 1 → IsStrictlyIncreasing (xs ++ x ∷ [])
rises_more xs x count rising below is place within = by_place (cases_lt (place + 1) (length xs))
  where
    by_place : ((place + 1 < length xs) ⊎ (length xs ≤ place + 1)) → get_or (xs ++ x ∷ []) place 0 < get_or (xs ++ x ∷ []) (place + 1) 0
    by_place (inl low) =
        rw (get_or_append_left xs (x ∷ []) 0 place (omega arith), get_or_append_left xs (x ∷ []) 0 (place + 1) low) (rising place low)
    by_place (inr high) =
        let long : length xs ≡ place + 1 = omega (arith, length-append xs (x ∷ [])) in
        let at_most = below place 0 (omega arith) in
        rw (get_or_append_left xs (x ∷ []) 0 place (omega arith), get_or_push xs x 0 (place + 1) long) (omega arith)

-- no note on the next condition
no_note : (notes : List Note) (count : ℕ) → All (λ note. note.condition ≤ count) notes → has_note notes (count + 1) ≡ false
no_note [] count below = refl
no_note (note ∷ notes) count below =
    let low = All-head (λ (note : Note). note.condition ≤ count) note notes below in
    or_from (note.condition == (count + 1)) (has_note notes (count + 1)) (ne_eqb note.condition (count + 1) (λ same. omega arith))
    (no_note notes count (All-tail (λ (note : Note). note.condition ≤ count) note notes below))

-- a note on a later condition changes nothing of the others
same_note : (notes : List Note) (note : Note) (condition : ℕ) → (note.condition ≡ condition → ⊥) → has_note notes condition ≡ has_note (notes ++ note ∷ []) condition
same_note [] note condition other = sym (or_from (note.condition == condition) false (ne_eqb note.condition condition other) refl)
same_note (one ∷ notes) note condition other = ap (λ (rest : Bool). (one.condition == condition) || rest) (same_note notes note condition other)

has_last : (notes : List Note) (note : Note) (condition : ℕ) → note.condition ≡ condition → has_note (notes ++ note ∷ []) condition ≡ true
has_last [] note condition is = or_left (note.condition == condition) false (eq-eqb note.condition condition is)
has_last (one ∷ notes) note condition is = or_right (one.condition == condition) (has_note (notes ++ note ∷ []) condition) (has_last notes note condition is)

unnoted_none : (block count condition : ℕ) (notes : List Note) → condition ≡ count + 1 → All (λ note. note.condition ≤ count) notes
    → unnoted_up_to block (count + 1) (notes ++ []) ≡ unnoted_up_to block count notes ++ claims.NoNote block condition ∷ []
unnoted_none block count condition notes is below =
    let test = λ (one : ℕ). not (has_note notes one) in
    let open_too : test condition ≡ true = not_from_false (has_note notes condition) (ap (has_note notes) is ∙ no_note notes count below) in
    ap (unnoted_up_to block (count + 1)) (append-nil notes)
    ∙ ap (λ (numbers : List ℕ). map (claims.NoNote block) (filter test numbers)) (range_more 1 count condition (omega arith))
    ∙ ap (map (claims.NoNote block)) (filter-append test (range_with_len 1 count) (condition ∷ []))
    ∙ ap (λ (answer : Bool). map (claims.NoNote block) (filter test (range_with_len 1 count) ++ cond answer (condition ∷ []) [])) open_too
    ∙ map-append (claims.NoNote block) (filter test (range_with_len 1 count)) (condition ∷ [])

unnoted_some : (block count : ℕ) (notes : List Note) (note : Note) → note.condition ≡ count + 1
    → unnoted_up_to block (count + 1) (notes ++ note ∷ []) ≡ unnoted_up_to block count notes ++ []
unnoted_some block count notes note is =
    let test = λ (one : ℕ). not (has_note notes one) in
    let later = λ (one : ℕ). not (has_note (notes ++ note ∷ []) one) in
    let closed : later (count + 1) ≡ false = not_from_true (has_note (notes ++ note ∷ []) (count + 1)) (has_last notes note (count + 1) is) in
    let same = same_filter later test 1 count (λ number first last. ap not (sym (same_note notes note number (λ meets. omega arith)))) in
    ap (λ (numbers : List ℕ). map (claims.NoNote block) (filter later numbers)) (range_more 1 count (count + 1) (omega arith))
    ∙ ap (map (claims.NoNote block)) (filter-append later (range_with_len 1 count) ((count + 1) ∷ []))
    ∙ ap (λ (answer : Bool). map (claims.NoNote block) (filter later (range_with_len 1 count) ++ cond answer ((count + 1) ∷ []) [])) closed
    ∙ ap (map (claims.NoNote block)) (append-nil (filter later (range_with_len 1 count)) ∙ same)
    ∙ sym (append-nil (map (claims.NoNote block) (filter test (range_with_len 1 count))))

pub unnoted_more : (block count condition : ℕ) (notes : List Note) (found : Option Note) → condition ≡ count + 1 → IfSome found (λ note. note.condition ≡ condition)
    → All (λ note. note.condition ≤ count) notes
    → unnoted_up_to block (count + 1) (notes ++ option_to_list found) ≡ unnoted_up_to block count notes ++ unnoted_claim block condition found
unnoted_more block count condition notes None is on below = unnoted_none block count condition notes is below
unnoted_more block count condition notes (Some note) is on below = unnoted_some block count notes note (on ∙ is)

pub untested_more : (monitor : MonitorParts) (block : ℕ) (notes more : List Note)
    → untested_claims monitor block (notes ++ more) ≡ untested_claims monitor block notes ++ untested_claims monitor block more
untested_more monitor block notes more =
    let claim = λ (note : Note). claims.NoTest block note.condition in
    let test = λ (note : Note). not note.tested && reads_none monitor note.condition in
    ap (map claim) (filter-append test notes more) ∙ map-append claim (filter test notes) (filter test more)

pub notes_more : (monitor : MonitorParts) (kept : List Candidate) (all_kinds : List CondKind) (block count condition : ℕ) (notes : List Note) (found : Option Note)
    → condition ≡ count + 1 → IfSome found (λ note. note.condition ≡ condition) → IfSome found (IsNote monitor kept all_kinds block)
    → AreNotes monitor kept all_kinds block count notes → AreNotes monitor kept all_kinds block (count + 1) (notes ++ option_to_list found)
notes_more monitor kept all_kinds block count condition notes None is on note are =
    subst (AreNotes monitor kept all_kinds block (count + 1)) (sym (append-nil notes)) (record {
      rising = are.rising;
      below = All-weaker (λ (note : Note). note.condition ≤ count) (λ (note : Note). note.condition ≤ count + 1) (λ note low. omega arith) notes are.below;
      each = are.each;
    })
notes_more monitor kept all_kinds block count condition notes (Some note) is on known are = record {
  rising = subst IsStrictlyIncreasing (sym (map-append (λ (note : Note). note.condition) notes (note ∷ [])))
      (rises_more (map (λ (note : Note). note.condition) notes) note.condition count are.rising
      (All-map (λ (one : ℕ). one ≤ count) (λ (note : Note). note.condition) notes are.below) (on ∙ is));
  below = All-push (λ (note : Note). note.condition ≤ count + 1) notes note
      (All-weaker (λ (note : Note). note.condition ≤ count) (λ (note : Note). note.condition ≤ count + 1) (λ note low. omega arith) notes are.below) (omega (arith, on));
  each = All-push (IsNote monitor kept all_kinds block) notes note are.each known;
}

pub no_notes : (monitor : MonitorParts) (kept : List Candidate) (all_kinds : List CondKind) (block : ℕ) → AreNotes monitor kept all_kinds block 0 []
no_notes monitor kept all_kinds block = record {
  rising = λ place within. absurd (omega arith);
  below = All-nil (λ (note : Note). note.condition ≤ 0);
  each = All-nil (IsNote monitor kept all_kinds block);
}

-- ---- the notes of one condition

pub reads_at : (monitor : MonitorParts) (condition : ℕ) (which : Condition) → slice_get monitor.conditions (condition - 1) ≡ Some which
    → reads_none monitor condition ≡ not which.reads_inputs
reads_at monitor condition which there = ap (λ (found : Option Condition). option_map_or (λ held. not held.reads_inputs) found false) there

pub reading_unclaimed : (monitor : MonitorParts) (block condition : ℕ) (all : Bool) → reads_none monitor condition ≡ false
    → [] ≡ untested_claims monitor block (record { condition = condition; all = all; tested = false } ∷ [])
reading_unclaimed monitor block condition all reads =
    let note : Note = record { condition = condition; all = all; tested = false } in
    ap (λ (answer : Bool). map (λ (one : Note). claims.NoTest block one.condition) (cond answer (note ∷ []) [])) (sym reads)

pub untested_claimed : (monitor : MonitorParts) (block condition : ℕ) (all : Bool) → reads_none monitor condition ≡ true
    → claims.NoTest block condition ∷ [] ≡ untested_claims monitor block (record { condition = condition; all = all; tested = false } ∷ [])
untested_claimed monitor block condition all reads =
    let note : Note = record { condition = condition; all = all; tested = false } in
    ap (λ (answer : Bool). map (λ (one : Note). claims.NoTest block one.condition) (cond answer (note ∷ []) [])) (sym reads)

-- ---- the blocks that wait at a condition

abbrev pub class_up_to : MonitorParts → ℕ → ℕ → List Claim
class_up_to monitor condition count = map (claims.One condition) (filter (waits_at monitor condition) (range_with_len 0 count))

class_more : (monitor : MonitorParts) (condition count : ℕ) (answer : Bool) → waits_at monitor condition count ≡ answer
    → class_up_to monitor condition (count + 1) ≡ class_up_to monitor condition count ++ map (claims.One condition) (cond answer (count ∷ []) [])
class_more monitor condition count answer is =
    let test = waits_at monitor condition in
    let range = range_with_len 0 count in
    ap (λ (numbers : List ℕ). map (claims.One condition) (filter test numbers)) (range_more 0 count count (omega arith))
    ∙ ap (map (claims.One condition)) (filter-append test range (count ∷ []))
    ∙ ap (λ (answer : Bool). map (claims.One condition) (filter test range ++ cond answer (count ∷ []) [])) is
    ∙ map-append (claims.One condition) (filter test range) (cond answer (count ∷ []) [])

waits_as : (monitor : MonitorParts) (condition count : ℕ) (block : Block) → slice_get monitor.blocks count ≡ Some block
    → waits_at monitor condition count ≡ (block.condition == condition)
waits_as monitor condition count block there = ap (λ (found : Option Block). option_map_or (λ held. held.condition == condition) found false) there

pub class_with : (monitor : MonitorParts) (kept : List Candidate) (condition count : ℕ) (block : Block) (proof : Proof) (before now : List Proof)
    → slice_get monitor.blocks count ≡ Some block → block.condition ≡ condition → IsAnswerTo monitor kept (claims.One condition count) (Some proof)
    → now ≡ before ++ proof ∷ [] → AreProofs monitor kept (class_up_to monitor condition count) before → AreProofs monitor kept (class_up_to monitor condition (count + 1)) now
class_with monitor kept condition count block proof before now there same is added are =
    subst (λ (claims : List Claim). AreProofs monitor kept claims now)
    (sym (class_more monitor condition count true (waits_as monitor condition count block there ∙ eq-eqb block.condition condition same)))
    (adds_proofs monitor kept (claims.One condition count ∷ []) before now (proof ∷ []) added (one_proof monitor kept (claims.One condition count) proof is)
    (class_up_to monitor condition count) are)

pub class_without : (monitor : MonitorParts) (kept : List Candidate) (condition count : ℕ) (block : Block) (before now : List Proof)
    → slice_get monitor.blocks count ≡ Some block → (block.condition ≡ condition → ⊥) → now ≡ before
    → AreProofs monitor kept (class_up_to monitor condition count) before → AreProofs monitor kept (class_up_to monitor condition (count + 1)) now
class_without monitor kept condition count block before now there other same are =
    subst (λ (proofs : List Proof). AreProofs monitor kept (class_up_to monitor condition (count + 1)) proofs) (sym same)
    (subst (λ (claims : List Claim). AreProofs monitor kept claims before)
    (sym (class_more monitor condition count false (waits_as monitor condition count block there ∙ ne_eqb block.condition condition other) ∙ append-nil (class_up_to monitor condition count))) are)

-- ---- proofs of numbered elements

pub proofs_more : {X : Type 0} (monitor : MonitorParts) (kept : List Candidate) (f : ℕ × X → List Claim) (first : ℕ) (xs ys : List X) (x : X) (last : ℕ) (before now : List Proof)
    → ys ≡ xs ++ x ∷ [] → first + length xs ≡ last → AreProofs monitor kept (flat_map f (enumerate_from first xs)) before → Adds monitor kept (f (last, x)) before now
    → AreProofs monitor kept (flat_map f (enumerate_from first ys)) now
proofs_more {X} monitor kept f first xs ys x last before now made is are adds =
    subst (λ (all : List X). AreProofs monitor kept (flat_map f (enumerate_from first all)) now) (sym made)
    (subst (λ (claims : List Claim). AreProofs monitor kept claims now) (sym (flat_more f first xs x last is)) (adds (flat_map f (enumerate_from first xs)) are))

pub each_more : {X : Type 0} (P : ℕ × X → Type 0) (first : ℕ) (xs ys : List X) (x : X) (last : ℕ) → ys ≡ xs ++ x ∷ [] → first + length xs ≡ last
    → All P (enumerate_from first xs) → P (last, x) → All P (enumerate_from first ys)
each_more {X} P first xs ys x last made is all here =
    subst (λ (every : List X). All P (enumerate_from first every)) (sym made) (all_more P first xs x last is all here)

-- ---- the whole plan

claims_of_kept : (proofs : List Kept) → map (λ proof. proof.claim) (map proof_of_kept proofs) ≡ map (λ (proof : Kept). claims.Keeps proof.candidate proof.block) proofs
claims_of_kept [] = refl
claims_of_kept (proof ∷ proofs) = ap (λ (rest : List Claim). claims.Keeps proof.candidate proof.block ∷ rest) (claims_of_kept proofs)

pub kept_proofs : (monitor : MonitorParts) (kept : List Candidate) (proofs : List Kept) → AreKept monitor kept kept proofs
    → AreProofs monitor kept (keeps_claims monitor kept) (map proof_of_kept proofs)
kept_proofs monitor kept proofs are = record {
  claims = claims_of_kept proofs ∙ are.claims;
  certificates = All-map (λ (proof : Proof). Certifies monitor kept proof.claim proof.cert) proof_of_kept proofs are.each;
}

pub proofs_of_plan : (monitor : MonitorParts) (plan : Plan) (keeps unnoted signals untested all : List Proof)
    → AreProofs monitor plan.kept (keeps_claims monitor plan.kept) keeps
    → AreProofs monitor plan.kept (flat_map (λ one. unnoted_claims monitor one.0 one.1) (enumerate_from 0 plan.notes)) unnoted
    → AreProofs monitor plan.kept (flat_map (λ one. kind_claims monitor one.0 one.1) (enumerate_from 1 plan.kinds)) signals
    → AreProofs monitor plan.kept (flat_map (λ one. untested_claims monitor one.0 one.1) (enumerate_from 0 plan.notes)) untested
    → all ≡ keeps ++ (unnoted ++ (signals ++ untested)) → AreProofs monitor plan.kept (backed_claims monitor plan) all
proofs_of_plan monitor plan keeps unnoted signals untested all a b c d is =
    let kept = plan.kept in
    let numbered = enumerate_from 0 plan.notes in
    let bs = flat_map (λ (one : ℕ × List Note). unnoted_claims monitor one.0 one.1) numbered in
    let cs = flat_map (λ (one : ℕ × CondKind). kind_claims monitor one.0 one.1) (enumerate_from 1 plan.kinds) in
    let ds = flat_map (λ (one : ℕ × List Note). untested_claims monitor one.0 one.1) numbered in
    subst (AreProofs monitor kept (backed_claims monitor plan)) (sym is)
    (proofs_join monitor kept (keeps_claims monitor kept) (bs ++ (cs ++ ds)) keeps (unnoted ++ (signals ++ untested)) a
    (proofs_join monitor kept bs (cs ++ ds) unnoted (signals ++ untested) b (proofs_join monitor kept cs ds signals untested c d)))
