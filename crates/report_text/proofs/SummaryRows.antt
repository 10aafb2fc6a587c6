-- The replies of a log are its commits.
use Rattle.std.proofs.Common.{◌≡◌, ℕ, ◌+◌, ◌++◌, ◌∷◌, [], ◌∙◌, List, length, refl, zero-add, arith}
use Rattle.std.specs.Prelude.{cond, count_by}
use Rattle.std.proofs.lemmas.List.Sums.{sum_by-cons}
use Rattle.machine_implicit.specs.declared.commit.Commit.{Commit}
use Rattle.machine_events.specs.declared.log.Entry.{Entry}
use Rattle.machine_events.specs.declared.log.Outcome.{Outcome}
use Rattle.machine_events.specs.declared.log.Outcome.TheVariants as outcomes
use Rattle.machine_events.specs.Logs.{commits_in, commits_of}
use Rattle.report_text.specs.inner.Ends.{is_reply, says_replies}

one_counts : (entry : Entry) (outcome : Outcome) (rest : ℕ) (history : List Commit)
    → rest ≡ length history
    → cond (says_replies outcome) 1 0 + rest ≡ length (commits_in entry outcome ++ history)
one_counts entry outcomes.Waits rest history is = zero-add rest ∙ is
one_counts entry (outcomes.Replies reply bits) rest history is = omega (arith, is)
one_counts entry outcomes.Spurious rest history is = zero-add rest ∙ is

pub replies_are_commits : (log : List Entry) → count_by is_reply log ≡ length (commits_of log)
replies_are_commits [] = refl
replies_are_commits (entry ∷ log) =
    sum_by-cons (λ one. cond (is_reply one) 1 0) entry log
    ∙ one_counts entry entry.outcome (count_by is_reply log) (commits_of log) (replies_are_commits log)
