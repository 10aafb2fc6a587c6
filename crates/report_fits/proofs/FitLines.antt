-- The lines of blocks that fit, as they are written and as they are read. Byte 58 is a colon.
use Rattle.std.proofs.Common.{◌≡◌, ℕ, suc, ◌+◌, ◌<◌, ◌≤◌, List, [], ◌∷◌, ◌++◌, length, Option, Some, None, inl, inr, codes, refl, sym, ap, subst, ◌∙◌, append_assoc, append-nil, arith}
use Rattle.std.specs.Prelude.{All, IfSome, MatchOption, option_map, slice_get}
use Rattle.std.specs.List.{enumerate_from, flat_map}
use Rattle.std.proofs.lemmas.Bool.{cases_order}
use Rattle.std.proofs.lemmas.List.{append_cancel_left}
use Rattle.std.proofs.lemmas.List.Concat.{flat_map-append}
use Rattle.std.proofs.lemmas.List.Elements.{All-append, All-cons, All-head, All-nil, All-tail}
use Rattle.logic_cert.specs.declared.cert.Cert.{Cert}
use Rattle.logic_cert.specs.CertText.{cert_text}
use Rattle.lang_monitor.specs.MonitorParts.{IsMonitor, MonitorParts}
use Rattle.machine_events.specs.PlanText.{block_name}
use Rattle.report_proofs.specs.Fronts.{Anything, IsFront, IsNoFront}
use Rattle.report_proofs.specs.Readings.{IsReadable}
use Rattle.report_fits.specs.declared.fit.Fit.{Fit}
use Rattle.report_fits.specs.FitReadings.{AreFitsRead, AreReadableFits}
use Rattle.report_fits.specs.FitTexts.{AreFrom, certified, certified_from, fit_if, fit_line, fit_text, fits_text}
use Rattle.report_fits.specs.inner.Reading.{IsFitTurn, fit_of}
use Rattle.report_verdict.proofs.Pairs.{all_at}
use Rattle.report_fits.proofs.BlockNames.{same_block}

abbrev pub IsTypedAnswer : Option Cert → Type 0
IsTypedAnswer answer = IfSome answer IsReadable

abbrev Readable : Fit → Type 0
Readable fit = IsReadable fit.cert

-- ---- a line

abbrev pub cert_line : Cert → List ℕ
cert_line cert = cert_text cert ++ codes "\n"

pub head_line : (monitor : MonitorParts) (block : ℕ) (cert : Cert)
    → fit_line monitor block cert ≡ (codes "proof fits " ++ block_name monitor block ++ codes ": ") ++ cert_line cert
head_line monitor block cert = append_assoc (codes "proof fits " ++ block_name monitor block ++ codes ": ") (cert_text cert) (codes "\n")

-- what follows the name of the block
abbrev after_name : Cert → List ℕ → List ℕ
after_name cert more = codes " " ++ (cert_line cert ++ more)

name_line : (monitor : MonitorParts) (block : ℕ) (cert : Cert) (more : List ℕ)
    → fit_line monitor block cert ++ more ≡ codes "proof fits " ++ (block_name monitor block ++ 58 ∷ after_name cert more)
name_line monitor block cert more =
    let name : List ℕ = block_name monitor block in
    ap (λ (text : List ℕ). text ++ more) (head_line monitor block cert)
    ∙ append_assoc (codes "proof fits " ++ name ++ codes ": ") (cert_line cert) more
    ∙ append_assoc (codes "proof fits " ++ name) (codes ": ") (cert_line cert ++ more)
    ∙ append_assoc (codes "proof fits ") name (codes ": " ++ (cert_line cert ++ more))

no_line : (monitor : MonitorParts) (block : ℕ) (cert : Cert) (more : List ℕ) → fit_line monitor block cert ++ more ≡ [] → ⊥
no_line monitor block cert more none = absurd (omega (arith, ap {B = ℕ} length none))

same_line_block : (monitor : MonitorParts) (i j : ℕ) (cert other : Cert) (more others : List ℕ) → IsMonitor monitor → i < length monitor.blocks → j < length monitor.blocks
    → fit_line monitor i cert ++ more ≡ fit_line monitor j other ++ others → i ≡ j
same_line_block monitor i j cert other more others rule here there same =
    same_block monitor i j (after_name cert more) (after_name other others) rule here there
    (append_cancel_left (codes "proof fits ") (block_name monitor i ++ 58 ∷ after_name cert more) (block_name monitor j ++ 58 ∷ after_name other others)
    (sym (name_line monitor i cert more) ∙ same ∙ name_line monitor j other others))

-- ---- the lines of what is answered of each block

pub answered_lines : (monitor : MonitorParts) (first : ℕ) (answers : List (Option Cert))
    → flat_map (λ one. flat_map (fit_text monitor) (fit_if one.0 one.1)) (enumerate_from first answers) ≡ fits_text monitor (certified_from first answers)
answered_lines monitor first [] = refl
answered_lines monitor first (answer ∷ answers) =
    ap (λ (text : List ℕ). flat_map (fit_text monitor) (fit_if first answer) ++ text) (answered_lines monitor (first + 1) answers)
    ∙ sym (flat_map-append (fit_text monitor) (fit_if first answer) (certified_from (first + 1) answers))

sooner : (first second last : ℕ) (fits : List Fit) → first ≤ second → AreFrom second last fits → AreFrom first last fits
sooner first second last [] low are = tt
sooner first second last (fit ∷ fits) low are = (omega (arith, low, are.0), are.1, are.2)

later : (first last further : ℕ) (fits : List Fit) → last ≤ further → AreFrom first last fits → AreFrom first further fits
later first last further [] high are = tt
later first last further (fit ∷ fits) high are = (are.0, omega (arith, high, are.1), later (fit.block + 1) last further fits high are.2)

-- each block is one of the monitor's
pub below_last : (first last : ℕ) (fits : List Fit) → AreFrom first last fits → All (λ fit. fit.block < last) fits
below_last first last [] are = All-nil (λ (fit : Fit). fit.block < last)
below_last first last (fit ∷ fits) are = All-cons (λ (one : Fit). one.block < last) fit fits are.1 (below_last (fit.block + 1) last fits are.2)

certified_rise : (first last : ℕ) (answers : List (Option Cert)) → first + length answers ≤ last → AreFrom first last (certified_from first answers)
certified_rise first last [] within = tt
certified_rise first last (None ∷ answers) within =
    sooner first (first + 1) last (certified_from (first + 1) answers) (omega arith) (certified_rise (first + 1) last answers (omega (arith, within)))
certified_rise first last (Some cert ∷ answers) within = (omega arith, omega (arith, within), certified_rise (first + 1) last answers (omega (arith, within)))

-- what holds of each certificate with its block
pub certified_all : (P : Fit → Type 0) (first : ℕ) (answers : List (Option Cert))
    → ((k : ℕ) (cert : Cert) → slice_get answers k ≡ Some (Some cert) → P (fit_of (first + k) cert)) → All P (certified_from first answers)
certified_all P first [] each = All-nil P
certified_all P first (answer ∷ answers) each = by_answer answer (λ cert is. subst (λ (block : ℕ). P (fit_of block cert)) start (each 0 cert (ap (λ (one : Option Cert). Some one) is)))
    (certified_all P (first + 1) answers (λ k cert there. subst (λ (block : ℕ). P (fit_of block cert)) (further k) (each (suc k) cert there)))
  where
    start : first + 0 ≡ first
    start = omega arith

    further : (k : ℕ) → first + suc k ≡ first + 1 + k
    further k = omega arith

    by_answer : (one : Option Cert) → ((cert : Cert) → one ≡ Some cert → P (fit_of first cert)) → All P (certified_from (first + 1) answers)
        → All P (fit_if first one ++ certified_from (first + 1) answers)
    by_answer None here rest = rest
    by_answer (Some cert) here rest = All-cons P (fit_of first cert) (certified_from (first + 1) answers) (here cert refl) rest

pub certified_readable : (monitor : MonitorParts) (answers : List (Option Cert)) → length answers ≡ length monitor.blocks → All (λ answer. IfSome answer IsReadable) answers
    → AreReadableFits monitor (certified answers)
certified_readable monitor answers many each = record {
  are = certified_rise 0 (length monitor.blocks) answers (omega (arith, many));
  readable = certified_all Readable 0 answers (λ k cert there. readable_at answers k cert each there);
}
  where
    readable_at : (answers : List (Option Cert)) (k : ℕ) (cert : Cert) → All (λ answer. IfSome answer IsReadable) answers → slice_get answers k ≡ Some (Some cert) → IsReadable cert
    readable_at answers k cert each there = all_at (λ answer. IfSome answer IsReadable) answers k (Some cert) there each

-- ---- what was read so far, and what is left

-- other fits begin with those that were read, and go on from this block
pub record IsLeft (monitor : MonitorParts) (first : ℕ) (others done : List Fit) (rest : List ℕ) : Type 0 where
  pub left : List Fit
  pub are : AreFrom first (length monitor.blocks) left
  pub readable : All Readable left
  pub whole : others ≡ done ++ left
  pub text : fits_text monitor left ≡ rest

pub record IsWalking (monitor : MonitorParts) (bytes : List ℕ) (i : ℕ) (done : List Fit) (rest : List ℕ) : Type 0 where
  pub within : i ≤ length monitor.blocks
  pub are : AreFrom 0 i done
  pub readable : All Readable done
  pub front : fits_text monitor done ++ rest ≡ bytes
  pub only : (others : List Fit) → AreReadableFits monitor others → fits_text monitor others ≡ bytes → IsLeft monitor i others done rest

pub walking_start : (monitor : MonitorParts) (bytes : List ℕ) → IsWalking monitor bytes 0 [] bytes
walking_start monitor bytes = record {
  within = omega arith;
  are = tt;
  readable = All-nil Readable;
  front = refl;
  only = λ others is same. record { left = others; are = is.are; readable = is.readable; whole = refl; text = same };
}

pushed : (first i : ℕ) (cert : Cert) (done : List Fit) → first ≤ i → AreFrom first i done → AreFrom first (i + 1) (done ++ fit_of i cert ∷ [])
pushed first i cert [] low are = (low, omega arith, tt)
pushed first i cert (fit ∷ done) low are = (are.0, omega (arith, are.1), pushed (fit.block + 1) i cert done (omega (arith, are.1)) are.2)

fit_line_of : (monitor : MonitorParts) (fit : Fit) (left : List Fit) (rest : List ℕ) → fits_text monitor (fit ∷ left) ≡ rest
    → fit_line monitor fit.block fit.cert ++ fits_text monitor left ≡ rest
fit_line_of monitor fit left rest same = same

-- the line of the block stands there
taken : (monitor : MonitorParts) (i : ℕ) (cert : Cert) (others done : List Fit) (rest next : List ℕ) → IsMonitor monitor → i < length monitor.blocks
    → IsFront Cert IsReadable Anything (fit_line monitor i) rest cert next → IsLeft monitor i others done rest → IsLeft monitor (i + 1) others (done ++ fit_of i cert ∷ []) next
taken monitor i cert others done rest next rule low front is = by_left is.left is.are is.readable is.whole is.text
  where
    by_left : (left : List Fit) → AreFrom i (length monitor.blocks) left → All Readable left → others ≡ done ++ left → fits_text monitor left ≡ rest
        → IsLeft monitor (i + 1) others (done ++ fit_of i cert ∷ []) next
    by_left [] are readable whole text = absurd (no_line monitor i cert next (front.begins ∙ sym text))
    by_left (fit ∷ left) are readable whole text =
        let block : i ≡ fit.block = same_line_block monitor i fit.block cert fit.cert next (fits_text monitor left) rule low are.1 (front.begins ∙ sym text) in
        let line : fit_line monitor i fit.cert ++ fits_text monitor left ≡ rest = ap (λ (one : ℕ). fit_line monitor one fit.cert ++ fits_text monitor left) block ∙ text in
        let found = front.only fit.cert (fits_text monitor left) (All-head Readable fit left readable) tt line in
        let same : fit ≡ fit_of i cert = λ k. record { block = sym block k; cert = found.0 k } in
        record {
          left = left;
          are = subst (λ (one : ℕ). AreFrom (one + 1) (length monitor.blocks) left) (sym block) are.2;
          readable = All-tail Readable fit left readable;
          whole = whole ∙ ap (λ (one : Fit). done ++ one ∷ left) same ∙ sym (append_assoc done (fit_of i cert ∷ []) left);
          text = found.1;
        }

-- it doesn't
passed : (monitor : MonitorParts) (i : ℕ) (others done : List Fit) (rest : List ℕ) → IsNoFront Cert IsReadable Anything (fit_line monitor i) rest
    → IsLeft monitor i others done rest → IsLeft monitor (i + 1) others done rest
passed monitor i others done rest none is = by_left is.left is.are is.readable is.whole is.text
  where
    by_left : (left : List Fit) → AreFrom i (length monitor.blocks) left → All Readable left → others ≡ done ++ left → fits_text monitor left ≡ rest
        → IsLeft monitor (i + 1) others done rest
    by_left [] are readable whole text = record { left = []; are = tt; readable = readable; whole = whole; text = text }
    by_left (fit ∷ left) are readable whole text = elim (cases_order i fit.block) [
      | inl block ↦ absurd (none fit.cert (fits_text monitor left) (All-head Readable fit left readable) tt
          (ap (λ (one : ℕ). fit_line monitor one fit.cert ++ fits_text monitor left) block ∙ text))
      | inr (inl below) ↦ record { left = fit ∷ left; are = (omega (arith, below), are.1, are.2); readable = readable; whole = whole; text = text }
      | inr (inr above) ↦ absurd (omega (arith, above, are.0))
    ]

pub walking_more : (monitor : MonitorParts) (bytes : List ℕ) (i : ℕ) (done now : List Fit) (rest next : List ℕ) → IsMonitor monitor → i < length monitor.blocks
    → IsFitTurn monitor i rest next done now → IsWalking monitor bytes i done rest → IsWalking monitor bytes (i + 1) now next
walking_more monitor bytes i done now rest next rule low (inl (cert, front, grown)) walking =
    subst (λ (all : List Fit). IsWalking monitor bytes (i + 1) all next) (sym grown) (record {
      within = omega (arith, low);
      are = pushed 0 i cert done (omega arith) walking.are;
      readable = All-append Readable done (fit_of i cert ∷ []) walking.readable (All-cons Readable (fit_of i cert) [] front.holds (All-nil Readable));
      front =
          ap (λ (text : List ℕ). text ++ next) (flat_map-append (fit_text monitor) done (fit_of i cert ∷ []) ∙ ap (λ (text : List ℕ). fits_text monitor done ++ text) (append-nil (fit_line monitor i cert)))
          ∙ append_assoc (fits_text monitor done) (fit_line monitor i cert) next ∙ ap (λ (text : List ℕ). fits_text monitor done ++ text) front.begins ∙ walking.front;
      only = λ others is same. taken monitor i cert others done rest next rule low front (walking.only others is same);
    })
walking_more monitor bytes i done now rest next rule low (inr (none, same_rest, same_done)) walking =
    subst (λ (all : List Fit). IsWalking monitor bytes (i + 1) all next) (sym same_done)
    (subst (λ (text : List ℕ). IsWalking monitor bytes (i + 1) done text) (sym same_rest) (record {
      within = omega (arith, low);
      are = later 0 i (i + 1) done (omega arith) walking.are;
      readable = walking.readable;
      front = walking.front;
      only = λ others is same. passed monitor i others done rest none (walking.only others is same);
    }))

-- ---- the end

nothing_left : (monitor : MonitorParts) (i : ℕ) (others done : List Fit) (rest : List ℕ) → length monitor.blocks ≤ i → IsLeft monitor i others done rest
    → (others ≡ done) × (rest ≡ [])
nothing_left monitor i others done rest end is = by_left is.left is.are is.whole is.text
  where
    by_left : (left : List Fit) → AreFrom i (length monitor.blocks) left → others ≡ done ++ left → fits_text monitor left ≡ rest → (others ≡ done) × (rest ≡ [])
    by_left [] are whole text = (whole ∙ append-nil done, sym text)
    by_left (fit ∷ left) are whole text = absurd (omega (arith, end, are.0, are.1))

pub walked : {A : Type 0} (monitor : MonitorParts) (bytes : List ℕ) (i : ℕ) (done : List Fit) (rest : List ℕ) (items : A → List Fit) (answer : Option A)
    → length monitor.blocks ≤ i → IsWalking monitor bytes i done rest → MatchOption answer (rest ≡ [] → ⊥) (λ read. (items read ≡ done) × (rest ≡ []))
    → AreFitsRead monitor bytes (option_map items answer)
walked monitor bytes i done rest items None end walking some = λ fits is same. some (nothing_left monitor i fits done rest end (walking.only fits is same)).1
walked monitor bytes i done rest items (Some read) end walking is =
    subst (λ (fits : List Fit). AreFitsRead monitor bytes (Some fits)) (sym is.0) (record {
      are = record { are = later 0 i (length monitor.blocks) done walking.within walking.are; readable = walking.readable };
      text = sym (append-nil (fits_text monitor done)) ∙ ap (λ (text : List ℕ). fits_text monitor done ++ text) (sym is.1) ∙ walking.front;
      only = λ others is same. (nothing_left monitor i others done rest end (walking.only others is same)).0;
    })

-- what was written is read
pub read_again : (monitor : MonitorParts) (fits : List Fit) (read : Option (List Fit)) → AreReadableFits monitor fits → AreFitsRead monitor (fits_text monitor fits) read → read ≡ Some fits
read_again monitor fits None is none = absurd (none fits is refl)
read_again monitor fits (Some found) is told = ap (λ (one : List Fit). Some one) (sym (told.only fits is refl))
