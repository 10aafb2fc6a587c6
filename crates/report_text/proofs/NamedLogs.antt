-- A plan's text followed by a log's names the plan and the log. Bytes: 100 is `d`, 115 is `s`.
use Rattle.std.proofs.Common.{◌≡◌, ℕ, Bool, true, false, ◌⊎◌, List, [], ◌∷◌, ◌++◌, codes, sym, refl, ◌∙◌, subst, append_assoc, append-nil, arith, inl, inr}
use Rattle.std.specs.List.{flat_map}
use Rattle.lang_monitor.specs.MonitorParts.{MonitorParts, IsMonitor}
use Rattle.machine_implicit.specs.declared.script.Client.{Client}
use Rattle.machine_implicit.specs.Scripted.{AreClients}
use Rattle.machine_implicit.specs.Runs.{Situation}
use Rattle.machine_events.specs.declared.log.Entry.{Entry}
use Rattle.machine_events.specs.declared.plan.Plan.{Plan}
use Rattle.machine_events.specs.Plans.{FitsPlan}
use Rattle.machine_events.specs.PlanText.{plan_text}
use Rattle.report_text.specs.TurnsText.{ended_text}
use Rattle.report_text.specs.LogText.{entry_text, are_done, closing_text}
use Rattle.lang_base.proofs.Lines.{same_line}
use Rattle.report_text.proofs.NamedPlans.{IsAfterKept, other_after, plan_named}
use Rattle.report_text.proofs.LogLines.{IsEntryAfter, entry_is_line, entry_line_names, entry_begins, no_word, no_candidate}

-- each entry is one after those before it
abbrev pub AreEntriesAfter : MonitorParts → List Client → List Entry → List Entry → Type 0
AreEntriesAfter monitor clients past [] = Unit {0}
AreEntriesAfter monitor clients past (entry ∷ log) = IsEntryAfter monitor clients past entry × AreEntriesAfter monitor clients (past ++ entry ∷ []) log

pub entries_push : (monitor : MonitorParts) (clients : List Client) (past log : List Entry)
    (entry : Entry) → AreEntriesAfter monitor clients past log
    → IsEntryAfter monitor clients (past ++ log) entry
    → AreEntriesAfter monitor clients past (log ++ entry ∷ [])
entries_push monitor clients past [] entry before after = (subst (λ some. IsEntryAfter monitor clients some entry) (append-nil past) after, tt)
entries_push monitor clients past (first ∷ log) entry before after =
    (before.0, entries_push monitor clients (past ++ first ∷ []) log entry before.1 (subst (λ some. IsEntryAfter monitor clients some entry) (sym (append_assoc past (first ∷ []) log)) after))

-- ---- the end of a log, from the line that says how it ended

abbrev IsEnd : List ℕ → Type 0
IsEnd text = ((more : List ℕ) × (text ≡ codes "done" ++ (codes "\n" ++ more))) ⊎ ((more : List ℕ) × (text ≡ codes "stalled" ++ (codes "\n" ++ more)))

closing : MonitorParts → List Client → Situation → List ℕ
closing = closing_text

end_is : (monitor : MonitorParts) (clients : List Client) (now : Situation)
    → IsEnd (closing monitor clients now)
unfolding closing
end_is monitor clients now = by_test (are_done clients now.places)
  where
    by_test : (done : Bool) → IsEnd (ended_text monitor clients now done)
    by_test true = inl (_, refl)
    by_test false = inr (_, refl)

-- an entry's line is none of these
no_end : (monitor : MonitorParts) (clients : List Client) (past : List Entry) (entry : Entry)
    (rest text : List ℕ) → AreClients clients → IsEntryAfter monitor clients past entry
    → IsEnd text → entry_text monitor clients entry ++ rest ≡ text → ⊥
no_end monitor clients past entry rest text are after (inl (more, is)) same =
    no_word (entry_text monitor clients entry ++ rest) (codes "done") more (entry_begins monitor clients past entry rest are after) refl (same ∙ is)
no_end monitor clients past entry rest text are after (inr (more, is)) same =
    no_word (entry_text monitor clients entry ++ rest) (codes "stalled") more (entry_begins monitor clients past entry rest are after) refl (same ∙ is)

end_after : (text : List ℕ) → IsEnd text → IsAfterKept text
end_after text (inl (more, is)) = subst IsAfterKept (sym is) (other_after 100 _ (λ same. omega (arith, same)))
end_after text (inr (more, is)) = subst IsAfterKept (sym is) (other_after 115 _ (λ same. omega (arith, same)))

-- ---- the entries

same_entries : (monitor : MonitorParts) (clients : List Client) (past log others : List Entry)
    (rest more : List ℕ) → IsMonitor monitor → AreClients clients
    → AreEntriesAfter monitor clients past log → AreEntriesAfter monitor clients past others
    → IsEnd rest → IsEnd more
    → flat_map (entry_text monitor clients) log ++ rest
    ≡ flat_map (entry_text monitor clients) others ++ more → log ≡ others
same_entries monitor clients past [] [] rest more rule are after also end ends same = refl
same_entries monitor clients past [] (other ∷ others) rest more rule are after also end ends same =
    let texts : List ℕ = flat_map (entry_text monitor clients) others in
    absurd (no_end monitor clients past other (texts ++ more) rest are also.0 end (sym (append_assoc (entry_text monitor clients other) texts more) ∙ sym same))
same_entries monitor clients past (entry ∷ log) [] rest more rule are after also end ends same =
    let texts : List ℕ = flat_map (entry_text monitor clients) log in
    absurd (no_end monitor clients past entry (texts ++ rest) more are after.0 ends (sym (append_assoc (entry_text monitor clients entry) texts rest) ∙ same))
same_entries monitor clients past (entry ∷ log) (other ∷ others) rest more rule are after also end ends same =
    let text : Entry → List ℕ = entry_text monitor clients in
    let texts : List ℕ = flat_map text log in
    let alsos : List ℕ = flat_map text others in
    let lines =
    same_line (text entry) (text other) (texts ++ rest) (alsos ++ more) (entry_is_line monitor clients past entry rule are after.0) (entry_is_line monitor clients past other rule are also.0)
    (sym (append_assoc (text entry) texts rest) ∙ same ∙ append_assoc (text other) alsos more) in
    let first = entry_line_names monitor clients past entry other are after.0 also.0 lines.0 in
    let later : AreEntriesAfter monitor clients (past ++ entry ∷ []) others = subst (λ one. AreEntriesAfter monitor clients (past ++ one ∷ []) others) (sym first) also.1 in
    λ i. first i ∷ same_entries monitor clients (past ++ entry ∷ []) log others rest more rule are after.1 later end ends lines.1 i

-- ---- the whole

log_after : (monitor : MonitorParts) (clients : List Client) (past log : List Entry) (rest : List ℕ)
    → AreClients clients → AreEntriesAfter monitor clients past log → IsEnd rest
    → IsAfterKept (flat_map (entry_text monitor clients) log ++ rest)
log_after monitor clients past [] rest are after end = end_after rest end
log_after monitor clients past (entry ∷ log) rest are after end =
    let texts : List ℕ = flat_map (entry_text monitor clients) log in
    let line : List ℕ = entry_text monitor clients entry in
    subst IsAfterKept (sym (append_assoc line texts rest))
    (λ more same. no_candidate (line ++ (texts ++ rest)) more (entry_begins monitor clients past entry (texts ++ rest) are after.0) same)

-- of plans that fit one monitor, and logs each of whose entries is one after those before it
pub plan_and_log_named : (monitor : MonitorParts) (clients : List Client) (plan other : Plan)
    (log others : List Entry) (now last : Situation) → IsMonitor monitor → AreClients clients
    → FitsPlan monitor plan → FitsPlan monitor other → AreEntriesAfter monitor clients [] log
    → AreEntriesAfter monitor clients [] others
    → plan_text monitor plan ++
    (flat_map (entry_text monitor clients) log ++ closing_text monitor clients now)
    ≡ plan_text monitor other ++
    (flat_map (entry_text monitor clients) others ++ closing_text monitor clients last)
    → (plan ≡ other) × (log ≡ others)
unfolding closing
plan_and_log_named monitor clients plan other log others now last rule are fits fit after also same =
    let rest : List ℕ = closing monitor clients now in
    let more : List ℕ = closing monitor clients last in
    let texts : List ℕ = flat_map (entry_text monitor clients) log ++ rest in
    let alsos : List ℕ = flat_map (entry_text monitor clients) others ++ more in
    let end = end_is monitor clients now in
    let ends = end_is monitor clients last in
    let parts =
    plan_named monitor plan other texts alsos rule fits fit (log_after monitor clients [] log rest are after end) (log_after monitor clients [] others more are also ends) same in
    (parts.0, same_entries monitor clients [] log others rest more rule are after also end ends parts.1)
