-- A counted plan whose certificates were checked is lawful by counting.
use Rattle.std.proofs.Common.{◌≡◌, ℕ, ◌+◌, ◌-◌, ◌<◌, ◌≤◌, Bool, true, false, not, List, [], ◌∷◌, length, Option, Some, None, inl, inr, refl, sym, ap, subst, ◌∙◌, arith}
use Rattle.std.specs.Prelude.{All, IsSomeAnd, is_some, slice_get, unwrap_or}
use Rattle.std.specs.List.{enumerate_from}
use Rattle.std.proofs.lemmas.Bool.{true≢false, cases_Bool}
use Rattle.std.proofs.lemmas.Option.{slice_get_within}
use Rattle.std.proofs.lemmas.List.Elements.{All-head, All-tail}
use Rattle.logic_cert.specs.declared.cert.Cert.{Cert}
use Rattle.lang_monitor.specs.declared.candidate.Candidate.{Candidate}
use Rattle.lang_monitor.specs.declared.claim.Claim.{Claim}
use Rattle.lang_monitor.specs.declared.claim.Claim.TheVariants as claims
use Rattle.lang_monitor.specs.declared.monitor.Block.{Block}
use Rattle.lang_monitor.specs.declared.monitor.Condition.{Condition}
use Rattle.lang_monitor.specs.Inputs.{reads_inputs}
use Rattle.lang_monitor.specs.MonitorParts.{MonitorParts, IsMonitor}
use Rattle.lang_monitor.specs.Queries.{query_of}
use Rattle.lang_monitor.specs.Triples.{Keeps}
use Rattle.machine_events.specs.declared.plan.CondKind.{CondKind}
use Rattle.machine_events.specs.declared.plan.CondKind.TheVariants as kinds
use Rattle.machine_events.specs.declared.plan.Note.{Note}
use Rattle.machine_events.specs.declared.plan.Plan.{Plan}
use Rattle.machine_events.specs.CountClaims.{GuardsCount, IsLawfulByGuards}
use Rattle.machine_events.specs.Plans.{IsCondition, IsLawful, condition_kind, has_note, notes_at}
use Rattle.logic_wp.specs.Limits.{is_query_within}
use Rattle.logic_wp.specs.NegatedQueries.{negated_query}
use Rattle.plan_claims.specs.Backing.{HasCertificate, backed_claims, block_numbers}
use Rattle.plan_place.specs.Relayed.{note_on}
use Rattle.plan_claims.proofs.Backed.{Laws, held, of_kept, of_signal, of_unnoted}
use Rattle.plan_claims.proofs.Lists.{all_filtered, all_flat, in_numbered, in_range}
use Rattle.plan_count.specs.declared.question.Question.{Question}
use Rattle.plan_count.specs.declared.question.Question.TheVariants as questions
use Rattle.plan_count.specs.Questions.{AnswersCount, HasRowAt, IsSo, IsToldRight, question_query}
use Rattle.plan_counted.proofs.Table.{broadcast_found, has_if}
use Rattle.report_verdict.specs.Verdicts.{AreChecked, IsLawfulAtSight, IsProof}
use Rattle.report_verdict.proofs.Pairs.{all_at, at_place, from_places, zip_at}
use Rattle.report_verdict.proofs.PlansFit.{plan_fits}
use Rattle.report_tally.specs.declared.report.CountedReport.{CountedReport}
use Rattle.report_tally.specs.CountedReports.{IsCountedReport, answers_of, block_questions, condition_questions, given_questions, is_counted, is_owed, note_questions, owed_claims, owed_proofs, owed_questions}
use Rattle.report_tally.specs.CountedVerdicts.{IsAnswer, IsAnswered, IsCountedAccepted}

-- ---- what was checked

-- of a claim, where it is owed, a certificate
abbrev IsOwedSo : MonitorParts → CountedReport → Claim → Type 0
IsOwedSo monitor report claim = is_owed report.counted claim ≡ true → HasCertificate monitor report.plan.kept claim

claims_so : (monitor : MonitorParts) (report : CountedReport) → IsCountedReport monitor report
    → AreChecked monitor report.plan.kept (owed_proofs monitor report) → All (IsOwedSo monitor report) (backed_claims monitor report.plan)
claims_so monitor report is checked =
    all_filtered (is_owed report.counted) (HasCertificate monitor report.plan.kept) (backed_claims monitor report.plan)
    (from_places (HasCertificate monitor report.plan.kept) wanted (λ k claim there.
    let low = slice_get_within wanted k claim there in
    let cert = at_place report.proofs k (omega (arith, low, is.proofs)) in
    let both = all_at (λ (one : Claim × Cert). IsProof monitor report.plan.kept one × (is_query_within monitor (query_of monitor report.plan.kept one.0) ≡ true))
    (owed_proofs monitor report) k (claim, cert.0) (zip_at wanted report.proofs k claim cert.0 there cert.1) checked in
    (cert.0, both.0)))
  where
    wanted : List Claim
    wanted = owed_claims monitor report.plan report.counted

-- a question is answered
abbrev HasAnswer : MonitorParts → List Candidate → Question → Type 0
HasAnswer monitor kept question = (cert : Cert) × IsAnswer monitor kept (question, cert)

questions_so : (monitor : MonitorParts) (report : CountedReport) → IsCountedReport monitor report
    → All (IsAnswered monitor report.plan.kept) (answers_of monitor report)
    → All (HasAnswer monitor report.plan.kept) (owed_questions monitor report.plan report.counted)
questions_so monitor report is answered =
    from_places (HasAnswer monitor report.plan.kept) asked (λ k question there.
    let low = slice_get_within asked k question there in
    let cert = at_place report.answers k (omega (arith, low, is.answers)) in
    let both = all_at (IsAnswered monitor report.plan.kept) (answers_of monitor report) k (question, cert.0) (zip_at asked report.answers k question cert.0 there cert.1) answered in
    (cert.0, both.0))
  where
    asked : List Question
    asked = owed_questions monitor report.plan report.counted

-- what an answered question asks is so
so : Laws → (monitor : MonitorParts) (kept : List Candidate) (question : Question) → IsMonitor monitor
    → (question_query monitor kept question).block < length monitor.blocks → HasAnswer monitor kept question → IsSo monitor kept question
so laws monitor kept question rule within cert =
    laws.refuted_is_valid monitor (question_query monitor kept question) rule within
    (λ v. laws.refuted_is_false (negated_query monitor (question_query monitor kept question)) cert.0 v cert.1)

-- ---- conditions that are counted

-- the questions on a block and a counted condition
on_block : (P : Question → Type 0) (monitor : MonitorParts) (plan : Plan) (counted : List (Option ℕ)) (number row block : ℕ)
    → All P (owed_questions monitor plan counted) → slice_get counted (number - 1) ≡ Some (Some row) → 1 ≤ number → block < length monitor.blocks
    → All P (note_questions number row block (note_on (notes_at plan block) number))
on_block P monitor plan counted number row block all there first within =
    let each = all_flat P (λ (one : ℕ × Option ℕ). condition_questions monitor plan one.0 one.1) (enumerate_from 1 counted) all in
    let own : All P (block_questions monitor plan number row) =
    in_numbered (λ (one : ℕ × Option ℕ). All P (condition_questions monitor plan one.0 one.1)) 1 counted (number - 1) (Some row) number there (omega (arith, first)) each in
    in_range (λ (by : ℕ). All P (note_questions number row by (note_on (notes_at plan by) number))) 0 (length monitor.blocks) block (omega arith) (omega (arith, within))
    (all_flat P (λ by. note_questions number row by (note_on (notes_at plan by) number)) (block_numbers monitor) own)

told_right : Laws → (monitor : MonitorParts) (plan : Plan) (number row block : ℕ) → IsMonitor monitor → block < length monitor.blocks
    → All (HasAnswer monitor plan.kept) (note_questions number row block (note_on (notes_at plan block) number))
    → IsToldRight monitor plan number row block
told_right laws monitor plan number row block rule within all = by_note (note_on (notes_at plan block) number) refl all
  where
    answer : Question → Type 0
    answer = HasAnswer monitor plan.kept

    by_all : (note : Note) (every : Bool) → note.all ≡ every → note_on (notes_at plan block) number ≡ Some note
        → All answer (given_questions number row block every) → IsToldRight monitor plan number row block
    by_all note true is found all = inl (broadcast_found (notes_at plan block) number note found is)
    by_all note false is found all =
        let later = All-tail answer (questions.Gives number row block) (questions.First number row block ∷ []) all in
        inr (inr (record {
          one = has_if (notes_at plan block) number (Some note) found;
          gives = so laws monitor plan.kept (questions.Gives number row block) rule within (All-head answer (questions.Gives number row block) (questions.First number row block ∷ []) all);
          first = λ other. so laws monitor plan.kept (questions.First number row block) rule within (All-head answer (questions.First number row block) [] later);
        }))

    by_note : (found : Option Note) → note_on (notes_at plan block) number ≡ found → All answer (note_questions number row block found)
        → IsToldRight monitor plan number row block
    by_note None is all = inr (inl (record {
      none = has_if (notes_at plan block) number None is;
      counts = so laws monitor plan.kept (questions.Counts number row block) rule within (All-head answer (questions.Counts number row block) [] all);
    }))
    by_note (Some note) is all = by_all note note.all refl is all

abbrev is_signal : Option CondKind → Bool
is_signal None = false
is_signal (Some kinds.Signal) = true
is_signal (Some kinds.Broadcast) = false

-- ---- the plan

row_of : (counted : List (Option ℕ)) (number : ℕ) → is_counted counted number ≡ true → (row : ℕ) × (slice_get counted (number - 1) ≡ Some (Some row))
row_of counted number is = by_found (slice_get counted (number - 1)) refl is
  where
    by_found : (found : Option (Option ℕ)) → slice_get counted (number - 1) ≡ found → is_some (unwrap_or found None) ≡ true
        → (row : ℕ) × (slice_get counted (number - 1) ≡ Some (Some row))
    by_found None there is = absurd (true≢false (sym is))
    by_found (Some None) there is = absurd (true≢false (sym is))
    by_found (Some (Some row)) there is = (row, there)

lawful_by_guards : Laws → AnswersCount → (monitor : MonitorParts) (report : CountedReport) → IsMonitor monitor
    → IsCountedReport monitor report → IsLawfulAtSight monitor report.plan
    → AreChecked monitor report.plan.kept (owed_proofs monitor report)
    → All (IsAnswered monitor report.plan.kept) (answers_of monitor report) → IsLawfulByGuards monitor report.plan
lawful_by_guards laws count monitor report rule is sight checked answered = record {
  inductive = record {
    starts = sight.starts;
    keeps = λ block within. from_places (λ candidate. Keeps monitor plan.kept candidate block) plan.kept (λ k candidate there.
        held laws monitor plan.kept (claims.Keeps candidate block) rule within (of_kept P monitor plan k candidate block claims_are there within refl));
  };
  noted = λ block condition within first last none.
      let notes = at_place plan.notes block (omega (arith, within, is.plan.notes)) in
      let same : notes_at plan block ≡ notes.0 = ap (λ (o : Option (List Note)). unwrap_or o []) notes.1 in
      held laws monitor plan.kept (claims.NoNote block condition) rule within
      (of_unnoted P monitor plan block condition notes.0 claims_are notes.1 first last (ap (λ (own : List Note). has_note own condition) (sym same) ∙ none) refl);
  reading = sight.reading;
  broadcasts = sight.broadcasts;
  signals = λ number which there kind. elim (cases_Bool (is_counted report.counted number)) [
    | inl counts ↦
        let row = row_of report.counted number counts in
        inr (count monitor plan number row.0 which rule there (no_inputs number which there kind) (has_row number row.0 there.numbered row.1)
        (λ block within. told_right laws monitor plan number row.0 block rule within
        (on_block (HasAnswer monitor plan.kept) monitor plan report.counted number row.0 block questions_are row.1 there.numbered within)))
    | inr plain ↦ inl (λ block held_block at same.
        let low = slice_get_within monitor.blocks block held_block at in
        let waits = subst (λ (o : Option Block). IsSomeAnd o (λ one. one.condition ≡ number)) (sym at) same in
        inl (held laws monitor plan.kept (claims.One number block) rule low
        (of_signal P monitor plan block number claims_are kind there.numbered waits low (ap not plain))))
  ];
}
  where
    plan : Plan
    plan = report.plan

    P : Claim → Type 0
    P = IsOwedSo monitor report

    claims_are : All P (backed_claims monitor plan)
    claims_are = claims_so monitor report is checked

    questions_are : All (HasAnswer monitor plan.kept) (owed_questions monitor plan report.counted)
    questions_are = questions_so monitor report is answered

    has_row : (number row : ℕ) → 1 ≤ number → slice_get report.counted (number - 1) ≡ Some (Some row) → HasRowAt monitor number row
    has_row number row first there =
        let same : 1 + (number - 1) ≡ number = omega (arith, first) in
        subst (λ (condition : ℕ). HasRowAt monitor condition row) same (is.counted.each (number - 1) row there).has

    no_inputs : (number : ℕ) (which : Condition) → IsCondition monitor number which → condition_kind plan number ≡ Some kinds.Signal
        → reads_inputs which.guard ≡ false
    no_inputs number which there kind = elim (cases_Bool (reads_inputs which.guard)) [
      | inl reads ↦ absurd (true≢false (ap is_signal (sym kind ∙ (sight.reading number which there reads).kind)))
      | inr none ↦ none
    ]

-- where no condition is counted
none_counted : (counted : List (Option ℕ)) → All (λ row. row ≡ None) counted → (number : ℕ) → is_counted counted number ≡ false
none_counted counted none number = by_mark (slice_get counted (number - 1)) refl
  where
    by_mark : (found : Option (Option ℕ)) → slice_get counted (number - 1) ≡ found → is_some (unwrap_or found None) ≡ false
    by_mark None there = refl
    by_mark (Some row) there = ap is_some (all_at (λ (one : Option ℕ). one ≡ None) counted (number - 1) row there none)

lawful_plainly : Laws → (monitor : MonitorParts) (report : CountedReport) → IsMonitor monitor
    → IsCountedReport monitor report → AreChecked monitor report.plan.kept (owed_proofs monitor report)
    → IsLawfulByGuards monitor report.plan → All (λ row. row ≡ None) report.counted → IsLawful monitor report.plan
lawful_plainly laws monitor report rule is checked by_guards none = record {
  inductive = by_guards.inductive;
  noted = by_guards.noted;
  reading = by_guards.reading;
  broadcasts = by_guards.broadcasts;
  signals = λ number block there numbered kind.
      let low = slice_get_within monitor.blocks number block there in
      let waits = subst (λ (o : Option Block). IsSomeAnd o (λ held. held.condition ≡ block.condition)) (sym there) refl in
      inl (held laws monitor report.plan.kept (claims.One block.condition number) rule low
      (of_signal (IsOwedSo monitor report) monitor report.plan number block.condition (claims_so monitor report is checked) kind
      numbered waits low (ap not (none_counted report.counted none block.condition))));
}

pub counted_accepted : Laws → AnswersCount → GuardsCount → (monitor : MonitorParts) (report : CountedReport) → IsMonitor monitor
    → IsCountedReport monitor report → IsLawfulAtSight monitor report.plan
    → AreChecked monitor report.plan.kept (owed_proofs monitor report)
    → All (IsAnswered monitor report.plan.kept) (answers_of monitor report) → IsCountedAccepted monitor report
counted_accepted laws count applies monitor report rule is sight checked answered =
    let by_guards = lawful_by_guards laws count monitor report rule is sight checked answered in
    record {
      fits = plan_fits monitor report.plan is.plan sight.reading;
      lawful = applies monitor report.plan by_guards;
      plain = lawful_plainly laws monitor report rule is checked by_guards;
      proofs = checked;
      answers = answered;
    }
