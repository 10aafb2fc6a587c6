-- Claims that are asked, and what a certificate or none says of one.
use Rattle.std.proofs.Common.{◌≡◌, ℕ, ◌+◌, ◌<◌, ◌≤◌, Bool, true, false, cond, List, [], ◌∷◌, ◌++◌, length, take, get_or, Option, Some, refl, sym, ap, subst, ◌∙◌}
use Rattle.std.specs.Prelude.{All, slice_get}
use Rattle.std.specs.List.{filter}
use Rattle.std.proofs.lemmas.List.{take_more}
use Rattle.std.proofs.lemmas.List.Elements.{All-nil, All-cons, All-head, All-tail, filter-append}
use Rattle.std.proofs.lemmas.Option.{slice_get-get_or}
use Rattle.lang_monitor.specs.declared.candidate.Candidate.{Candidate}
use Rattle.lang_monitor.specs.declared.claim.Claim.{Claim}
use Rattle.lang_monitor.specs.MonitorParts.{MonitorParts}
use Rattle.plan_claims.specs.Backing.{HasCertificate}
use Rattle.report_verdict.proofs.Pairs.{all_taken, one_more_at}
use Rattle.report_audit.specs.inner.Asked.{IsAnswer, IsFirstOpen}

-- ---- those that pass a test

pub filtered_turn : {X : Type 0} (test : X → Bool) (before after xs : List X) (i : ℕ) (x d : X) (passes : Bool) → i < length xs → x ≡ get_or xs i d
    → passes ≡ test x → before ≡ filter test (take i xs) → after ≡ before ++ cond passes (x ∷ []) [] → after ≡ filter test (take (i + 1) xs)
filtered_turn {X} test before after xs i x d passes low is same had made =
    made ∙ ap (λ (some : List X). some ++ cond passes (x ∷ []) []) had
    ∙ ap (λ (held : Bool). filter test (take i xs) ++ cond held (x ∷ []) []) same
    ∙ ap (λ (one : X). filter test (take i xs) ++ cond (test one) (one ∷ []) []) is
    ∙ sym (filter-append test (take i xs) (get_or xs i d ∷ []))
    ∙ ap (filter test) (sym (take_more xs i d low))

pub passing : {X : Type 0} (test : X → Bool) (P : X → Type 0) (xs : List X) → All (λ x. test x ≡ true → P x) xs → All P (filter test xs)
passing test P [] all = All-nil P
passing {X} test P (x ∷ xs) all = by_test (test x) refl (passing test P xs (All-tail (λ (x : X). test x ≡ true → P x) x xs all))
  where
    by_test : (passes : Bool) → test x ≡ passes → All P (filter test xs) → All P (cond passes (x ∷ filter test xs) (filter test xs))
    by_test true is rest = All-cons P x (filter test xs) (All-head (λ (x : X). test x ≡ true → P x) x xs all is) rest
    by_test false is rest = rest

-- ---- the first without a certificate

there : (claims : List Claim) (place : ℕ) (claim d : Claim) → place < length claims → claim ≡ get_or claims place d → slice_get claims place ≡ Some claim
there claims place claim d low is = slice_get-get_or claims place d low ∙ ap {B = Option Claim} (λ (one : Claim). Some one) (sym is)

pub open_here : (monitor : MonitorParts) (kept : List Candidate) (claims : List Claim) (place : ℕ) (claim d : Claim) (result : Bool) → place < length claims
    → claim ≡ get_or claims place d → IsAnswer monitor kept claim result → result ≡ false → All (HasCertificate monitor kept) (take place claims)
    → IsFirstOpen monitor kept claims (Some claim)
open_here monitor kept claims place claim d result low is told fails before = record {
  place = place;
  here = there claims place claim d low is;
  before = before;
  unproved = subst (IsAnswer monitor kept claim) fails told;
}

pub proved_more : (monitor : MonitorParts) (kept : List Candidate) (claims : List Claim) (place : ℕ) (claim d : Claim) (result : Bool) → place < length claims
    → claim ≡ get_or claims place d → IsAnswer monitor kept claim result → result ≡ true → All (HasCertificate monitor kept) (take place claims)
    → All (HasCertificate monitor kept) (take (place + 1) claims)
proved_more monitor kept claims place claim d result low is told passes before =
    one_more_at (HasCertificate monitor kept) claims place claim (there claims place claim d low is) before (subst (IsAnswer monitor kept claim) passes told)

pub all_proved : (monitor : MonitorParts) (kept : List Candidate) (claims : List Claim) (place : ℕ) → length claims ≤ place
    → All (HasCertificate monitor kept) (take place claims) → All (HasCertificate monitor kept) claims
all_proved monitor kept claims place end before = all_taken (HasCertificate monitor kept) claims place end before
