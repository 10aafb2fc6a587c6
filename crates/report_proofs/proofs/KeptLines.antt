-- The lines of kept candidates, which are looked for in the order of the monitor's.
use Rattle.std.proofs.Common.{◌≡◌, ℕ, zero, suc, ◌+◌, ◌<◌, ◌≤◌, Bool, true, List, [], ◌∷◌, ◌++◌, length, drop, get_or, inl, inr, codes, refl, sym, ap, subst, ◌∙◌, append_assoc, append-nil}
use Rattle.std.specs.Prelude.{slice_get}
use Rattle.std.specs.List.{flat_map, AllByRecursion as Each}
use Rattle.std.proofs.lemmas.List.{append_cancel_left, drop_more, drop_all}
use Rattle.std.proofs.lemmas.List.Concat.{flat_map-append}
use Rattle.std.proofs.lemmas.List.Elements.{recursion_from_All}
use Rattle.lang_monitor.specs.declared.candidate.Candidate.{Candidate}
use Rattle.lang_monitor.specs.Candidates.{AreSomeOf, candidates_of}
use Rattle.lang_monitor.specs.MonitorParts.{MonitorParts, IsMonitor}
use Rattle.lang_monitor.specs.declared.candidate.Candidate.TheVariants as candidates
use Rattle.lang_monitor.specs.declared.monitor.Field.{Field}
use Rattle.machine_events.specs.PlanText.{candidate_text, field_name, flag_mark, kept_text}
use Rattle.machine_events.proofs.CandidatePlaces.{is_low, kept_low}
use Rattle.lang_base.proofs.Lines.{same_line}
use Rattle.report_text.proofs.CandidateBounds.{start_at, IsNearStart, kept_near}
use Rattle.report_text.proofs.PlanLines.{IsKnown, kept_is_line, kept_line_names}
use Rattle.report_proofs.specs.Fronts.{IsAfterKept, IsFront}
use Rattle.report_proofs.specs.inner.Reading.{IsTurn}

-- ---- some of the candidates

some_more : (kept all : List Candidate) (first : Candidate) → AreSomeOf kept all
    → AreSomeOf kept (first ∷ all)
some_more [] all first are = tt
some_more (one ∷ kept) all first are = inr are

some_rest : (one : Candidate) (kept all : List Candidate) → AreSomeOf (one ∷ kept) all
    → AreSomeOf kept all
some_rest one kept [] are = absurd are
some_rest one kept (first ∷ all) (inl both) = some_more kept all first both.1
some_rest one kept (first ∷ all) (inr are) = some_more kept all first (some_rest one kept all are)

some_self : (all : List Candidate) → AreSomeOf all all
some_self [] = tt
some_self (first ∷ all) = inl (refl, some_self all)

some_each : (P : Candidate → Type 0) (kept all : List Candidate) → AreSomeOf kept all → Each P all
    → Each P kept
some_each P [] all are each = tt
some_each P (one ∷ kept) [] are each = absurd are
some_each P (one ∷ kept) (first ∷ all) (inl both) each = (subst P (sym both.0) each.0, some_each P kept all both.1 each.1)
some_each P (one ∷ kept) (first ∷ all) (inr are) each = some_each P (one ∷ kept) all are each.1

none_some : (kept : List Candidate) → AreSomeOf kept [] → kept ≡ []
none_some [] are = refl
none_some (one ∷ kept) are = absurd are

each_drop : (P : Candidate → Type 0) (i : ℕ) (all : List Candidate) → Each P all
    → Each P (drop i all)
each_drop P zero all each = each
each_drop P (suc i) [] each = tt
each_drop P (suc i) (first ∷ all) each = each_drop P i all each.1

-- ---- what the lines are

known_each : (monitor : MonitorParts) (kept : List Candidate)
    → Each (λ candidate. is_low (length monitor.fields) candidate ≡ true) kept
    → Each (IsNearStart (start_at monitor.fields)) kept → Each (IsKnown monitor) kept
known_each monitor [] low near = tt
known_each monitor (candidate ∷ kept) low near = (record { low = low.0; near = near.0 }, known_each monitor kept low.1 near.1)

pub candidates_known : (monitor : MonitorParts) → IsMonitor monitor
    → Each (IsKnown monitor) (candidates_of monitor)
candidates_known monitor rule =
    let self = some_self (candidates_of monitor) in
    known_each monitor (candidates_of monitor)
    (recursion_from_All (λ candidate. is_low (length monitor.fields) candidate ≡ true) (candidates_of monitor) (kept_low monitor (candidates_of monitor) self))
    (kept_near monitor (candidates_of monitor) rule self)

-- ---- what was read so far

-- what other candidates are left
abbrev Left : MonitorParts → List Candidate → List Candidate → List Candidate → List ℕ → List ℕ
    → Type 0
Left monitor all others done more rest =
    (left : List Candidate) × AreSomeOf left all × (others ≡ done ++ left) × (flat_map (kept_text monitor.fields) left ++ more ≡ rest)

pub record IsGoing (monitor : MonitorParts) (all : List Candidate) (bytes : List ℕ) (i : ℕ) (done : List Candidate) (rest : List ℕ) : Type 0 where
  pub some : (left : List Candidate) → AreSomeOf left (drop i all) → AreSomeOf (done ++ left) all
  pub front : flat_map (kept_text monitor.fields) done ++ rest ≡ bytes
  pub only : (others : List Candidate) (more : List ℕ) → AreSomeOf others all → IsAfterKept more
      → flat_map (kept_text monitor.fields) others ++ more ≡ bytes
      → Left monitor (drop i all) others done more rest

pub going_start : (monitor : MonitorParts) (all : List Candidate) (bytes : List ℕ)
    → IsGoing monitor all bytes 0 [] bytes
going_start monitor all bytes = record {
  some = λ left are. are;
  front = refl;
  only = λ others more are after same. (others, are, refl, same);
}

-- ---- the next candidate's line stands there

taken_left : (monitor : MonitorParts) (one : Candidate) (all others done : List Candidate)
    (more rest next : List ℕ) → IsMonitor monitor → Each (IsKnown monitor) (one ∷ all)
    → IsAfterKept more
    → kept_text monitor.fields one ++ next ≡ rest → Left monitor (one ∷ all) others done more rest
    → Left monitor all others (done ++ one ∷ []) more next
taken_left monitor one all others done more rest next rule known after here ([], some, are, same) =
    absurd (after (candidate_text monitor.fields one ++ codes "\n" ++ next) (same ∙ sym here))
taken_left monitor one all others done more rest next rule known after here (first ∷ left, inl both, are, same) =
    let text : Candidate → List ℕ = kept_text monitor.fields in (
      left,
      both.1,
      are ∙ ap (λ (which : Candidate). done ++ which ∷ left) both.0 ∙ sym (append_assoc done (one ∷ []) left),
      append_cancel_left (text one) (flat_map text left ++ more) next
          (sym (append_assoc (text one) (flat_map text left) more) ∙ ap (λ (which : Candidate). text which ++ flat_map text left ++ more) (sym both.0) ∙ same ∙ sym here),
    )
taken_left monitor one all others done more rest next rule known after here (first ∷ left, inr some, are, same) =
    let text : Candidate → List ℕ = kept_text monitor.fields in
    let also : IsKnown monitor first = (some_each (IsKnown monitor) (first ∷ left) all some known.1).0 in
    let lines =
    same_line (text first) (text one) (flat_map text left ++ more) next (kept_is_line monitor first rule also) (kept_is_line monitor one rule known.0)
    (sym (append_assoc (text first) (flat_map text left) more) ∙ same ∙ sym here) in
    let is : first ≡ one = kept_line_names monitor first one rule also known.0 lines.0 in (
      left,
      some_rest first left all some,
      are ∙ ap (λ (which : Candidate). done ++ which ∷ left) is ∙ sym (append_assoc done (one ∷ []) left),
      lines.1,
    )

going_taken : (monitor : MonitorParts) (all : List Candidate) (bytes : List ℕ) (i : ℕ)
    (done : List Candidate) (one d : Candidate) (rest next : List ℕ) → IsMonitor monitor
    → Each (IsKnown monitor) all → i < length all → one ≡ get_or all i d
    → kept_text monitor.fields one ++ next ≡ rest → IsGoing monitor all bytes i done rest
    → IsGoing monitor all bytes (i + 1) (done ++ one ∷ []) next
going_taken monitor all bytes i done one d rest next rule known low is here going = record {
  some = λ left are.
      subst (λ (kept : List Candidate). AreSomeOf kept all) (sym (append_assoc done (one ∷ []) left))
      (going.some (one ∷ left) (subst (AreSomeOf (one ∷ left)) (sym split) (inl (refl, are))));
  front =
      let text : Candidate → List ℕ = kept_text monitor.fields in
      ap (λ front. front ++ next) (flat_map-append text done (one ∷ []) ∙ ap (λ end. flat_map text done ++ end) (append-nil (text one)))
      ∙ append_assoc (flat_map text done) (text one) next ∙ ap (λ end. flat_map text done ++ end) here ∙ going.front;
  only = λ others more are after same.
      taken_left monitor one (drop (i + 1) all) others done more rest next rule (subst (Each (IsKnown monitor)) split (each_drop (IsKnown monitor) i all known)) after here
      (subst (λ (from : List Candidate). Left monitor from others done more rest) split (going.only others more are after same));
}
  where
    split : drop i all ≡ one ∷ drop (i + 1) all
    split = drop_more all i d low ∙ ap (λ (which : Candidate). which ∷ drop (i + 1) all) (sym is)

-- ---- it doesn't

passed_left : (monitor : MonitorParts) (one : Candidate) (all others done : List Candidate)
    (more rest : List ℕ) → ((next : List ℕ) → kept_text monitor.fields one ++ next ≡ rest → ⊥)
    → Left monitor (one ∷ all) others done more rest → Left monitor all others done more rest
passed_left monitor one all others done more rest none ([], some, are, same) = ([], tt, are, same)
passed_left monitor one all others done more rest none (first ∷ left, inl both, are, same) =
    let text : Candidate → List ℕ = kept_text monitor.fields in
    absurd (none (flat_map text left ++ more)
    (sym (append_assoc (text one) (flat_map text left) more) ∙ ap (λ (which : Candidate). text which ++ flat_map text left ++ more) (sym both.0) ∙ same))
passed_left monitor one all others done more rest none (first ∷ left, inr some, are, same) = (first ∷ left, some, are, same)

going_passed : (monitor : MonitorParts) (all : List Candidate) (bytes : List ℕ) (i : ℕ)
    (done : List Candidate) (one d : Candidate) (rest : List ℕ) → i < length all
    → one ≡ get_or all i d
    → ((next : List ℕ) → kept_text monitor.fields one ++ next ≡ rest → ⊥)
    → IsGoing monitor all bytes i done rest → IsGoing monitor all bytes (i + 1) done rest
going_passed monitor all bytes i done one d rest low is none going = record {
  some = λ left are. going.some left (subst (AreSomeOf left) (sym split) (some_more left (drop (i + 1) all) one are));
  front = going.front;
  only = λ others more are after same.
      passed_left monitor one (drop (i + 1) all) others done more rest none
      (subst (λ (from : List Candidate). Left monitor from others done more rest) split (going.only others more are after same));
}
  where
    split : drop i all ≡ one ∷ drop (i + 1) all
    split = drop_more all i d low ∙ ap (λ (which : Candidate). which ∷ drop (i + 1) all) (sym is)

pub going_turn : (monitor : MonitorParts) (all : List Candidate) (bytes : List ℕ) (i : ℕ)
    (before now : List Candidate) (one d : Candidate) (rest next : List ℕ) → IsMonitor monitor
    → all ≡ candidates_of monitor → i < length all → one ≡ get_or all i d
    → IsTurn (kept_text monitor.fields one) one rest next before now
    → IsGoing monitor all bytes i before rest
    → IsGoing monitor all bytes (i + 1) now next
going_turn monitor all bytes i before now one d rest next rule whole low is (inl (here, pushed)) going =
    subst (λ (done : List Candidate). IsGoing monitor all bytes (i + 1) done next) (sym pushed)
    (going_taken monitor all bytes i before one d rest next rule (subst (Each (IsKnown monitor)) (sym whole) (candidates_known monitor rule)) low is here going)
going_turn monitor all bytes i before now one d rest next rule whole low is (inr (none, same, kept)) going =
    subst (λ (done : List Candidate). IsGoing monitor all bytes (i + 1) done next) (sym kept)
    (subst (λ text. IsGoing monitor all bytes (i + 1) before text) (sym same) (going_passed monitor all bytes i before one d rest low is none going))

-- ---- the end

end_left : (monitor : MonitorParts) (others done : List Candidate) (more rest : List ℕ)
    → Left monitor [] others done more rest → (others ≡ done) × (more ≡ rest)
end_left monitor others done more rest ([], some, are, same) = (are ∙ append-nil done, same)
end_left monitor others done more rest (first ∷ left, some, are, same) = absurd some

pub going_end : (monitor : MonitorParts) (all : List Candidate) (bytes : List ℕ) (i : ℕ)
    (done : List Candidate) (rest : List ℕ) → length all ≤ i → all ≡ candidates_of monitor
    → IsGoing monitor all bytes i done rest
    → IsFront (List Candidate) (λ kept. AreSomeOf kept (candidates_of monitor)) IsAfterKept
    (λ kept. flat_map (kept_text monitor.fields) kept) bytes done rest
going_end monitor all bytes i done rest end whole going = record {
  holds = subst (AreSomeOf done) whole (subst (λ (kept : List Candidate). AreSomeOf kept all) (append-nil done) (going.some [] tt));
  begins = going.front;
  only = λ others more are after same.
      end_left monitor others done more rest
      (subst (λ (from : List Candidate). Left monitor from others done more rest) (drop_all i all end) (going.only others more (subst (AreSomeOf others) (sym whole) are) after same));
}

-- ---- the line of a flag

pub flag_line : (fields : List Field) (candidate : Candidate) (field : ℕ) (is : Bool)
    (left name : List ℕ) → candidate ≡ candidates.Flag field is → left ≡ flag_mark is
    → name ≡ field_name (slice_get fields field)
    → codes "keep " ++ (left ++ name ++ []) ++ codes "\n" ≡ kept_text fields candidate
flag_line fields candidate field is left name same mark named =
    ap (λ text. codes "keep " ++ text ++ codes "\n") (append-nil (left ++ name) ∙ ap (λ one. one ++ name) mark ∙ ap (λ one. flag_mark is ++ one) named)
    ∙ ap (kept_text fields) (sym same)
