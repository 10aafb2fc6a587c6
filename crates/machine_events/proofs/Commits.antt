-- The commits after a legal log are the replies of the log.
use Rattle.std.proofs.Common.{◌≡◌, ℕ, List, [], ◌∷◌, ◌++◌, refl, sym, ap, ◌∙◌, inl, inr}
use Rattle.std.proofs.lemmas.List.{append_assoc, append-nil}
use Rattle.machine_implicit.specs.declared.commit.Commit.{Commit}
use Rattle.machine_events.specs.declared.log.Entry.{Entry}
use Rattle.machine_events.specs.declared.log.Outcome.TheVariants as outcomes
use Rattle.machine_implicit.specs.declared.place.Place.{Place}
use Rattle.machine_events.specs.Events.{commit_at}
use Rattle.machine_events.specs.Configurations.{System, Configuration}
use Rattle.machine_events.specs.Logs.{IsNotified, IsBegun, IsSection, IsLegal, entry_at, commits_in, commits_of}
use Rattle.machine_events.specs.Logs.IsNotified.{all_made, one_made}
use Rattle.machine_events.specs.Logs.IsSection.{waited, refused, replied}
use Rattle.machine_events.specs.Logs.IsLegal.{empty, sectioned, woken}

abbrev commits : Configuration → List Commit
commits c = c.commits

commits_of_push : (log : List Entry) (entry : Entry)
    → commits_of (log ++ entry ∷ []) ≡ commits_of log ++ commits_in entry entry.outcome
commits_of_push [] entry = append-nil (commits_in entry entry.outcome)
commits_of_push (first ∷ log) entry =
    ap (λ (more : List Commit). commits_in first first.outcome ++ more) (commits_of_push log entry)
    ∙ sym (append_assoc (commits_in first first.outcome) (commits_of log) (commits_in entry entry.outcome))

begun_commits : (system : System) (client : ℕ) (place : Place) (before begun : Configuration)
    → IsBegun system client place before begun → begun.commits ≡ before.commits
begun_commits system client place before begun (inl begins) = ap commits begins.becomes
begun_commits system client place before begun (inr stays) = ap commits stays.1

notified_commits : (system : System) (log : List Entry) (client : ℕ) (c last : Configuration)
    → IsNotified system log client c last → last.commits ≡ c.commits
notified_commits system log client c last (all_made own place at) = refl
notified_commits system log client c last (one_made own next end target chosen happens more) = notified_commits system log client next end more ∙ ap commits happens.1.becomes

pub section_commits : (system : System) (log : List Entry) (before : Configuration) (entry : Entry)
    (next : Configuration) → IsSection system log before entry next
    → next.commits ≡ before.commits ++ commits_in entry entry.outcome
section_commits system log before entry next (waited client place begun locked last free begins locks waits) =
    ap commits waits.becomes ∙ ap commits locks.becomes ∙ begun_commits system client place before begun begins ∙ sym (append-nil before.commits)
section_commits system log before entry next (refused client place goes reply state begun locked ran last free begins locks refuses unlocks) =
    ap commits unlocks.becomes ∙ ap commits refuses.steps.becomes
    ∙ ap (λ (some : List Commit). some ++ commit_at client place reply ∷ []) (ap commits locks.becomes ∙ begun_commits system client place before begun begins)
section_commits system log before entry next (replied client place goes bits reply state begun locked ran notified last free begins locks runs notes unlocks are) =
    ap commits unlocks.becomes ∙ notified_commits system log client ran notified notes ∙ ap commits runs.steps.becomes
    ∙ ap (λ (some : List Commit). some ++ commit_at client place reply ∷ []) (ap commits locks.becomes ∙ begun_commits system client place before begun begins)

pub legal_commits : (system : System) (log : List Entry) (c : Configuration) → IsLegal system log c
    → c.commits ≡ commits_of log
legal_commits system log c empty = refl
legal_commits system log c (sectioned more before entry next legal section) =
    section_commits system more before entry next section
    ∙ ap (λ (some : List Commit). some ++ commits_in entry entry.outcome) (legal_commits system more before legal)
    ∙ sym (commits_of_push more entry)
legal_commits system log c (woken more before client place condition next legal wakens) =
    ap commits wakens.becomes ∙ legal_commits system more before legal
    ∙ sym (append-nil (commits_of more)) ∙ sym (commits_of_push more (entry_at client place outcomes.Spurious))
