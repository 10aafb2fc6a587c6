-- The lines of claims, where those of some conditions are left out that one waiter is enough. Bytes:
-- 99 is `c`, 102 `f`, 103 `g`, 107 `k`, 110 `n`, 111 `o`, 117 `u`.
use Rattle.std.proofs.Common.{◌≡◌, ℕ, zero, suc, ◌+◌, ◌^◌, ◌<◌, ◌≤◌, Bool, true, false, not, cond, List, [], ◌∷◌, ◌++◌, length, take, drop, get_or, Option, codes, decimal, inl, inr, refl, sym, ap, subst, ◌∙◌, append_assoc, arith}
use Rattle.std.specs.Prelude.{All}
use Rattle.std.specs.List.{filter}
use Rattle.std.proofs.lemmas.Bool.{true≢false, not-true}
use Rattle.std.proofs.lemmas.List.{drop_more, take_more, take_all}
use Rattle.std.proofs.lemmas.List.Elements.{All-nil, All-cons, All-head, All-tail, All-filter, All-get_or, filter-append}
use Rattle.lang_base.specs.Identifiers.{is_digit}
use Rattle.lang_base.proofs.Cuts.{cut}
use Rattle.lang_base.proofs.Numerals.{decimal_digits, same_number}
use Rattle.logic_cert.specs.declared.cert.Cert.{Cert}
use Rattle.logic_cert.specs.CertText.{cert_text}
use Rattle.lang_monitor.specs.declared.claim.Claim.{Claim}
use Rattle.lang_monitor.specs.declared.claim.Claim.TheVariants as claims
use Rattle.lang_monitor.specs.MonitorParts.{MonitorParts, IsMonitor}
use Rattle.machine_events.specs.PlanText.{block_name}
use Rattle.logic_wp.specs.PlainClaims.{MayAsk}
use Rattle.report_proofs.specs.Fronts.{AreFor}
use Rattle.report_proofs.specs.Readings.{IsReadable}
use Rattle.report_proofs.specs.ReportTexts.{proof_text, proofs_text}
use Rattle.report_tally.specs.CountedReports.{is_counted, is_owed}
use Rattle.report_tally.specs.inner.Lines.{AreFound, IsAfterOnes, IsLineTurn}

-- ---- the bytes of a line

abbrev pub head : List ℕ → ℕ
head [] = 0
head (byte ∷ text) = byte

abbrev pub rest : List ℕ → List ℕ
rest [] = []
rest (byte ∷ text) = text

-- the first byte of what a line says, after `proof `
abbrev pub kind_byte : List ℕ → ℕ
kind_byte text = head (rest (rest (rest (rest (rest (rest text))))))

-- what stands after `proof one `
abbrev after_one : List ℕ → List ℕ
after_one text = rest (rest (rest (rest (rest (rest (rest (rest (rest (rest text)))))))))

-- what a line of a claim that one waiter is enough says after these words
abbrev one_tail : MonitorParts → ℕ → ℕ → Cert → List ℕ → List ℕ
one_tail monitor number block cert next =
    (((((decimal number ++ codes " ") ++ block_name monitor block) ++ codes ": ") ++ cert_text cert) ++ codes "\n") ++ next

regrouped : (a b c d e f g : List ℕ) → (((((a ++ b) ++ c) ++ d) ++ e) ++ f) ++ g
    ≡ a ++ (b ++ (c ++ (d ++ (e ++ (f ++ g)))))
regrouped a b c d e f g =
    append_assoc ((((a ++ b) ++ c) ++ d) ++ e) f g ∙ append_assoc (((a ++ b) ++ c) ++ d) e (f ++ g) ∙ append_assoc ((a ++ b) ++ c) d (e ++ (f ++ g))
    ∙ append_assoc (a ++ b) c (d ++ (e ++ (f ++ g))) ∙ append_assoc a b (c ++ (d ++ (e ++ (f ++ g))))

-- the number comes first, and then a blank
same_first_number : (monitor : MonitorParts) (number other block by : ℕ) (cert also : Cert)
    (next more : List ℕ) → number < 10 ^ 64 → other < 10 ^ 64
    → one_tail monitor number block cert next ≡ one_tail monitor other by also more
    → number ≡ other
same_first_number monitor number other block by cert also next more short low same =
    same_number number other short low
    (cut is_digit (decimal number) (decimal other) (left block cert next) (left by also more) (decimal_digits number) (decimal_digits other) refl refl
    (sym (regrouped (decimal number) (codes " ") (block_name monitor block) (codes ": ") (cert_text cert) (codes "\n") next) ∙ same
    ∙ regrouped (decimal other) (codes " ") (block_name monitor by) (codes ": ") (cert_text also) (codes "\n") more)).0
  where
    left : ℕ → Cert → List ℕ → List ℕ
    left at cert next = codes " " ++ (block_name monitor at ++ (codes ": " ++ (cert_text cert ++ (codes "\n" ++ next))))

-- ---- a line that is left out doesn't stand there

-- claims that are owed, each of which may be asked
pub record AreOwed (monitor : MonitorParts) (counted : List (Option ℕ)) (wanted : List Claim) : Type 0 where
  pub owed : All (λ claim. is_owed counted claim ≡ true) wanted
  pub may : All (MayAsk monitor) wanted

pub no_one_line : (monitor : MonitorParts) (counted : List (Option ℕ)) (wanted : List Claim) (certs : List Cert)
    (more next : List ℕ) (number block : ℕ) (cert : Cert) → IsMonitor monitor
    → AreOwed monitor counted wanted → number ≤ 64 → is_counted counted number ≡ true
    → IsAfterOnes more
    → proof_text monitor (claims.One number block) cert ++ next ≡ proofs_text monitor wanted certs ++ more → ⊥
no_one_line monitor counted [] certs more next number block cert rule are few is after same = after (one_tail monitor number block cert next) (sym same)
no_one_line monitor counted (claim ∷ wanted) [] more next number block cert rule are few is after same = after (one_tail monitor number block cert next) (sym same)
no_one_line monitor counted (claims.Keeps candidate by ∷ wanted) (also ∷ certs) more next number block cert rule are few is after same = absurd (omega (arith, ap {B = ℕ} kind_byte same))
no_one_line monitor counted (claims.NoNote by condition ∷ wanted) (also ∷ certs) more next number block cert rule are few is after same = absurd (omega (arith, ap {B = ℕ} kind_byte same))
no_one_line monitor counted (claims.NoTest by condition ∷ wanted) (also ∷ certs) more next number block cert rule are few is after same = absurd (omega (arith, ap {B = ℕ} kind_byte same))
no_one_line monitor counted (claims.One other by ∷ wanted) (also ∷ certs) more next number block cert rule are few is after same =
    let may = All-head (MayAsk monitor) (claims.One other by) wanted are.may in
    let owed : is_counted counted other ≡ false = not-true (is_counted counted other) (All-head (λ (claim : Claim). is_owed counted claim ≡ true) (claims.One other by) wanted are.owed) in
    let tails : one_tail monitor number block cert next ≡ one_tail monitor other by also (proofs_text monitor wanted certs ++ more) =
    ap after_one (same ∙ append_assoc (proof_text monitor (claims.One other by) also) (proofs_text monitor wanted certs) more) in
    let numbers = same_first_number monitor number other block by cert also next (proofs_text monitor wanted certs ++ more) (omega (arith, few)) (omega (arith, may.1.1, rule.few_conditions)) tails in
    true≢false (sym is ∙ ap (is_counted counted) numbers ∙ owed)

-- ---- what was found so far

-- the lines of the claims from here on that are owed
pub record IsLeft (monitor : MonitorParts) (counted : List (Option ℕ)) (done todo found : List Claim) (more left : List ℕ) : Type 0 where
  pub certs : List Cert
  pub are : AreFor (filter (is_owed counted) todo) IsReadable certs
  pub found_is : found ≡ filter (is_owed counted) done
  pub same : proofs_text monitor (filter (is_owed counted) todo) certs ++ more ≡ left

pub record IsWalking (monitor : MonitorParts) (all : List Claim) (bytes : List ℕ) (i : ℕ) (found : List Claim) (left : List ℕ) : Type 0 where
  pub again : (counted : List (Option ℕ)) (certs : List Cert) (more : List ℕ) → AreFor (filter (is_owed counted) all) IsReadable certs
      → IsAfterOnes more → proofs_text monitor (filter (is_owed counted) all) certs ++ more ≡ bytes
      → IsLeft monitor counted (take i all) (drop i all) found more left

pub walking_start : (monitor : MonitorParts) (all : List Claim) (bytes : List ℕ) → IsWalking monitor all bytes 0 [] bytes
walking_start monitor all bytes = record { again = λ counted certs more are after same. record { certs = certs; are = are; found_is = refl; same = same } }

-- what passes a test passes it
all_pass : {X : Type 0} (test : X → Bool) (xs : List X) → All (λ x. test x ≡ true) (filter test xs)
all_pass test [] = All-nil (λ x. test x ≡ true)
all_pass {X} test (x ∷ xs) = by_test (test x) refl (all_pass test xs)
  where
    by_test : (passes : Bool) → test x ≡ passes → All (λ x. test x ≡ true) (filter test xs) → All (λ x. test x ≡ true) (cond passes (x ∷ filter test xs) (filter test xs))
    by_test true is rest = All-cons (λ (x : X). test x ≡ true) x (filter test xs) is rest
    by_test false is rest = rest

-- the line of a claim that isn't owed doesn't stand there
not_there : (monitor : MonitorParts) (counted : List (Option ℕ)) (wanted : List Claim) (certs : List Cert)
    (more next : List ℕ) (claim : Claim) (cert : Cert) → IsMonitor monitor → AreOwed monitor counted wanted
    → MayAsk monitor claim → is_owed counted claim ≡ false → IsAfterOnes more
    → proof_text monitor claim cert ++ next ≡ proofs_text monitor wanted certs ++ more → ⊥
not_there monitor counted wanted certs more next (claims.Keeps candidate block) cert rule are may is after same = true≢false is
not_there monitor counted wanted certs more next (claims.NoNote block condition) cert rule are may is after same = true≢false is
not_there monitor counted wanted certs more next (claims.NoTest block condition) cert rule are may is after same = true≢false is
not_there monitor counted wanted certs more next (claims.One number block) cert rule are may is after same =
    no_one_line monitor counted wanted certs more next number block cert rule are (omega (arith, may.1.1, rule.few_conditions)) (counts (is_counted counted number) is) after same
  where
    counts : (held : Bool) → not held ≡ false → held ≡ true
    counts true is = refl
    counts false is = absurd (true≢false is)

step_left : (monitor : MonitorParts) (counted : List (Option ℕ)) (claim : Claim) (done todo found now : List Claim) (more left next : List ℕ)
    → IsMonitor monitor → MayAsk monitor claim → All (MayAsk monitor) todo → IsAfterOnes more
    → IsLineTurn monitor claim left next found now
    → IsLeft monitor counted done (claim ∷ todo) found more left → IsLeft monitor counted (done ++ claim ∷ []) todo now more next
step_left monitor counted claim done todo found now more left next rule may later after turn before =
    by_owed (is_owed counted claim) refl before.certs before.are before.same
  where
    test : Claim → Bool
    test = is_owed counted

    wanted : List Claim
    wanted = filter test todo

    grown : (owed : Bool) → test claim ≡ owed → filter test (done ++ claim ∷ []) ≡ filter test done ++ cond owed (claim ∷ []) []
    grown owed is = filter-append test done (claim ∷ []) ∙ ap (λ (held : Bool). filter test done ++ cond held (claim ∷ []) []) is

    by_owed : (owed : Bool) → test claim ≡ owed → (certs : List Cert) → AreFor (cond owed (claim ∷ wanted) wanted) IsReadable certs
        → proofs_text monitor (cond owed (claim ∷ wanted) wanted) certs ++ more ≡ left → IsLeft monitor counted (done ++ claim ∷ []) todo now more next
    by_owed true is [] are same = absurd (omega (arith, are.count))
    by_owed true is (cert ∷ certs) are same =
        let readable = All-head IsReadable cert certs are.each in
        let line : proof_text monitor claim cert ++ (proofs_text monitor wanted certs ++ more) ≡ left = sym (append_assoc (proof_text monitor claim cert) (proofs_text monitor wanted certs) more) ∙ same in
        elim turn [
          | inl there ↦ record {
            certs = certs;
            are = record { count = omega (arith, are.count); each = All-tail IsReadable cert certs are.each };
            found_is = there.2 ∙ ap (λ (one : List Claim). one ++ claim ∷ []) before.found_is ∙ sym (grown true is);
            same = (there.1.only cert (proofs_text monitor wanted certs ++ more) readable tt line).1;
          }
          | inr none ↦ absurd (none.0 cert (proofs_text monitor wanted certs ++ more) readable tt line)
        ]
    by_owed false is certs are same = elim turn [
      | inl there ↦ absurd (not_there monitor counted wanted certs more next claim there.0 rule (record { owed = all_pass test todo; may = All-filter test (MayAsk monitor) todo later }) may is after
          (there.1.begins ∙ sym same))
      | inr none ↦ record {
        certs = certs;
        are = are;
        found_is = none.2 ∙ before.found_is ∙ sym (grown false is ∙ nothing (filter test done));
        same = same ∙ sym none.1;
      }
    ]
      where
        nothing : (xs : List Claim) → xs ++ [] ≡ xs
        nothing [] = refl
        nothing (x ∷ xs) = ap (λ (one : List Claim). x ∷ one) (nothing xs)

pub walking_more : (monitor : MonitorParts) (all : List Claim) (bytes : List ℕ) (i : ℕ) (found now : List Claim) (left next : List ℕ) (claim d : Claim)
    → IsMonitor monitor → All (MayAsk monitor) all → i < length all → claim ≡ get_or all i d
    → IsLineTurn monitor claim left next found now → IsWalking monitor all bytes i found left → IsWalking monitor all bytes (i + 1) now next
walking_more monitor all bytes i found now left next claim d rule may low is turn walking = record {
  again = λ counted certs more are after same.
      let here : drop i all ≡ claim ∷ drop (i + 1) all = drop_more all i d low ∙ ap (λ (one : Claim). one ∷ drop (i + 1) all) (sym is) in
      let done : take (i + 1) all ≡ take i all ++ claim ∷ [] = take_more all i d low ∙ ap (λ (one : Claim). take i all ++ one ∷ []) (sym is) in
      subst (λ (front : List Claim). IsLeft monitor counted front (drop (i + 1) all) now more next) (sym done)
      (step_left monitor counted claim (take i all) (drop (i + 1) all) found now more left next rule
      (subst (MayAsk monitor) (sym is) (All-get_or (MayAsk monitor) all i d low may)) (dropped (i + 1) all may) after turn
      (subst (λ (back : List Claim). IsLeft monitor counted (take i all) back found more left) here (walking.again counted certs more are after same)));
}
  where
    dropped : (n : ℕ) (xs : List Claim) → All (MayAsk monitor) xs → All (MayAsk monitor) (drop n xs)
    dropped zero xs each = each
    dropped (suc n) [] each = each
    dropped (suc n) (x ∷ xs) each = dropped n xs (All-tail (MayAsk monitor) x xs each)

pub walked : (monitor : MonitorParts) (all : List Claim) (bytes : List ℕ) (i : ℕ) (found : List Claim) (left : List ℕ)
    → length all ≤ i → IsWalking monitor all bytes i found left → AreFound monitor all bytes found
walked monitor all bytes i found left end walking = λ counted certs more are after same.
    (walking.again counted certs more are after same).found_is ∙ ap (filter (is_owed counted)) (take_all i all end)
