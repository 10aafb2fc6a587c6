-- What a call that blocks comes to, by its sections and looks.
use Rattle.std.proofs.Common.{◌≡◌, ℕ, ◌≤◌, ◌+◌, List, [], ◌∷◌, ◌++◌, length, Option, Some, None, Result, Ok, Err, true≢false, refl, sym, ap, ◌∙◌, subst, arith, length-append}
use Rattle.std.specs.Prelude.{MatchOption, All}
use Rattle.std.proofs.lemmas.List.{append_assoc, append-nil}
use Rattle.std.proofs.lemmas.List.Elements.{All-nil, All-cons, All-append, All-weaker}
use Rattle.machine_events.specs.declared.log.Entry.{Entry}
use Rattle.machine_events.specs.declared.log.Outcome.{Outcome}
use Rattle.machine_events.specs.declared.log.Outcome.TheVariants as outcomes
use Rattle.machine_events.specs.Logs.{says_spurious}
use Rattle.machine_explicit.specs.declared.section.NotReady.{NotReady}
use Rattle.threads_lock.specs.declared.receipt.Receipt.{Receipt}
use Rattle.threads_lock.specs.declared.standing.Standing.{Standing}
use Rattle.threads_lock.specs.declared.standing.Standing.TheVariants as standings
use Rattle.threads_lock.specs.declared.view.Knowledge.{Knowledge}
use Rattle.threads_lock.specs.Passes.{Looks, MadeShared, NotMadeShared, SectionsShared}
use Rattle.threads_lock.specs.Standings.{StandsAs}
use Rattle.threads_lock.proofs.Growing.{follows_same, follows_on}
use Rattle.threads_lock.proofs.Readiness.{not_spurious, section_follows}
use Rattle.threads_lock.proofs.Standings.{stalled_not_over}
use Rattle.threads_call.specs.declared.commit_end.CommitEnd.{CommitEnd}
use Rattle.threads_call.specs.declared.commit_end.CommitEnd.TheVariants as ends
use Rattle.threads_call.specs.Commits.{Adds, Commits, HasLooked, HasReplied, HasWaited, IsWaitOf}
use Rattle.threads_call.specs.inner.Attempts.{end_of, replied_by, reply_in, reply_of}

-- ---- what is known grows

-- the receipts stand after what was seen before
abbrev pub Later : Knowledge → Receipt → Type 0
Later k receipt = k.seen ≤ receipt.place

adds_none : (k : Knowledge) → Adds [] k k
adds_none k = record { receipts = sym (append-nil k.receipts); later = All-nil (Later k); front = follows_same k.front; seen = omega arith; looks = omega arith; joined = refl }

later_still : (a b : Knowledge) → a.seen ≤ b.seen → (xs : List Receipt) → All (Later b) xs → All (Later a) xs
later_still a b seen xs later =
    All-weaker (Later b) (Later a) (λ receipt at. let p : a.seen ≤ b.seen = seen in let q : b.seen ≤ receipt.place = at in omega arith) xs later

adds_on : (xs ys : List Receipt) (a b c : Knowledge) → Adds xs a b → Adds ys b c → Adds (xs ++ ys) a c
adds_on xs ys a b c f g = record {
  receipts = g.receipts ∙ (ap (λ l. l ++ ys) f.receipts ∙ append_assoc a.receipts xs ys);
  later = All-append (Later a) xs ys f.later (later_still a b f.seen ys g.later);
  front = follows_on a.front b.front c.front f.front g.front;
  seen = (let p = f.seen in let q = g.seen in omega arith);
  looks = (let p = f.looks in let q = g.looks in omega arith);
  joined = g.joined ∙ f.joined;
}

looked_on : (xs : List Receipt) (a b c : Knowledge) → Adds xs a b → HasLooked b c → HasLooked a c
looked_on xs a b c f g = record { more = (let p = f.looks in let q = g.more in omega arith); seen = g.seen }

pub waited_none : (client : ℕ) (k : Knowledge) → HasWaited client k k
waited_none client k = record { waits = []; each = All-nil (IsWaitOf client); adds = adds_none k }

pub waited_on : (client : ℕ) (a b c : Knowledge) → HasWaited client a b → HasWaited client b c → HasWaited client a c
waited_on client a b c f g = record {
  waits = f.waits ++ g.waits;
  each = All-append (IsWaitOf client) f.waits g.waits f.each g.each;
  adds = adds_on f.waits g.waits a b c f.adds g.adds;
}

pub commits_on : (client : ℕ) (a b c : Knowledge) (end : CommitEnd) → HasWaited client a b → Commits client b c end → Commits client a c end
commits_on client a b c (ends.Replied told) f g = record {
  waits = f.waits ++ g.waits;
  receipt = g.receipt;
  each = All-append (IsWaitOf client) f.waits g.waits f.each g.each;
  replies = g.replies;
  adds = subst (λ made. Adds made a c) (sym (append_assoc f.waits g.waits (g.receipt ∷ []))) (adds_on f.waits (g.waits ++ g.receipt ∷ []) a b c f.adds g.adds);
  told_is = g.told_is;
  counted = g.counted;
  looked = looked_on f.waits a b c f.adds g.looked;
}
commits_on client a b c (ends.Over entries) f g = record {
  waited = waited_on client a b c f g.waited;
  looked = looked_on f.waits a b c f.adds g.looked;
  entries = g.entries;
  over = g.over;
}
commits_on client a b c (ends.Stalled entries) f g = record {
  waited = waited_on client a b c f g.waited;
  looked = looked_on f.waits a b c f.adds g.looked;
  entries = g.entries;
  closed = g.closed;
  left = g.left;
}

pub commits_system : (client : ℕ) (before after : Knowledge) (end : CommitEnd) → Commits client before after end → after.front.system ≡ before.front.system
commits_system client before after (ends.Replied told) is = is.adds.front.system
commits_system client before after (ends.Over entries) is = is.waited.adds.front.system
commits_system client before after (ends.Stalled entries) is = is.waited.adds.front.system

-- what an attempt comes to, after sections in which the client waits
pub attempts_on : (client : ℕ) (a b c : Knowledge) (answer : Option CommitEnd) → HasWaited client a b → MatchOption answer (HasWaited client b c) (λ end. Commits client b c end)
    → MatchOption answer (HasWaited client a c) (λ end. Commits client a c end)
attempts_on client a b c None f g = waited_on client a b c f g
attempts_on client a b c (Some end) f g = commits_on client a b c end f g

-- ---- a look

look_adds : (a b : Knowledge) → Looks a b → Adds [] a b
look_adds a b l = subst (Adds [] a) (sym l.known) record {
  receipts = sym (append-nil a.receipts);
  later = All-nil (Later a);
  front = l.reaches.front;
  seen = l.reaches.seen;
  looks = omega arith;
  joined = refl;
}

look_looked : (a b : Knowledge) → Looks a b → HasLooked a b
look_looked a b l = subst (HasLooked a) (sym l.known) record { more = omega arith; seen = refl }

pub look_waited : (client : ℕ) (a b : Knowledge) → Looks a b → HasWaited client a b
look_waited client a b l = record { waits = []; each = All-nil (IsWaitOf client); adds = look_adds a b l }

pub replied_looks : (a b : Knowledge) → Looks a b → (client : ℕ) (before : Knowledge) (told : Receipt) → HasReplied client before a told → HasReplied client before b told
replied_looks a b l client before told is =
    let adds = look_adds a b l in record {
      waits = is.waits;
      receipt = is.receipt;
      each = is.each;
      replies = is.replies;
      adds = subst (λ made. Adds made before b) (append-nil (is.waits ++ is.receipt ∷ [])) (adds_on (is.waits ++ is.receipt ∷ []) [] before a b is.adds adds);
      told_is = is.told_is;
      counted = (let p = is.counted in let q = adds.seen in omega arith);
      looked = looked_on (is.waits ++ is.receipt ∷ []) before a b is.adds (look_looked a b l);
    }

pub look_ends : (client entries : ℕ) (a b : Knowledge) (standing : Standing) → Looks a b → StandsAs b.front client standing → entries ≡ b.seen
    → MatchOption (end_of standing entries) (HasWaited client a b) (λ end. Commits client a b end)
look_ends client entries a b standings.Ready l is count = look_waited client a b l
look_ends client entries a b standings.Waits l is count = look_waited client a b l
look_ends client entries a b standings.Over l is count = record {
  waited = look_waited client a b l;
  looked = look_looked a b l;
  entries = count ∙ (look_looked a b l).seen;
  over = is.over.0 refl;
}
look_ends client entries a b standings.Stalled l is count = record {
  waited = look_waited client a b l;
  looked = look_looked a b l;
  entries = count ∙ (look_looked a b l).seen;
  closed = (is.stalled.0 refl).1;
  left = λ none. stalled_not_over (is.over.1 none);
}

-- ---- a section

module _ (client : ℕ) (a b : Knowledge) (told : Receipt) (m : MadeShared client a b told) where
  longer : length m.next.log ≡ length m.found.log + 1
  longer = ap length m.made.appends.log ∙ length-append m.found.log (m.receipt.entry ∷ [])

  made_adds : Adds (m.receipt ∷ []) a b
  made_adds = subst (Adds (m.receipt ∷ []) a) (sym m.known) record {
    receipts = refl;
    later = All-cons (Later a) m.receipt [] (let p = m.reaches.seen in let q = m.made.place in omega arith) (All-nil (Later a));
    front = follows_on a.front m.found m.next m.reaches.front (section_follows client m.found m.next (record { place = m.receipt.place; entry = m.receipt.entry }) m.made);
    seen = (let p = m.reaches.seen in let q = longer in omega arith);
    looks = omega arith;
    joined = refl;
  }

  made_looked : HasLooked a b
  made_looked = subst (HasLooked a) (sym m.known) record { more = omega arith; seen = refl }

  made_counted : m.receipt.place + 1 ≤ b.seen
  made_counted = subst (λ (k : Knowledge). m.receipt.place + 1 ≤ k.seen) (sym m.known) (let p = m.made.place in let q = longer in omega arith)

  same_outcome : m.receipt.entry.outcome ≡ told.entry.outcome
  same_outcome = ap (λ (e : Entry). e.outcome) (sym m.told_is.1)

  not_by_nothing : told.entry.outcome ≡ outcomes.Spurious → ⊥
  not_by_nothing is = true≢false (sym (ap says_spurious (same_outcome ∙ is)) ∙ not_spurious m.found.system m.found.log m.found.now m.receipt.entry m.next.now m.made.made)

  by_outcome : (outcome : Outcome) → told.entry.outcome ≡ outcome → MatchOption (replied_by told outcome) (HasWaited client a b) (λ receipt. HasReplied client a b receipt)
  by_outcome outcomes.Waits is = record {
    waits = m.receipt ∷ [];
    each = All-cons (IsWaitOf client) m.receipt [] (m.made.whose, same_outcome ∙ is) (All-nil (IsWaitOf client));
    adds = made_adds;
  }
  by_outcome (outcomes.Replies reply woken) is = record {
    waits = [];
    receipt = m.receipt;
    each = All-nil (IsWaitOf client);
    replies = (m.made.whose, (reply, woken, same_outcome ∙ is));
    adds = made_adds;
    told_is = m.told_is;
    counted = made_counted;
    looked = made_looked;
  }
  by_outcome outcomes.Spurious is = absurd (not_by_nothing is)

  pub made_ends : MatchOption (reply_in told) (HasWaited client a b) (λ receipt. HasReplied client a b receipt)
  made_ends = by_outcome told.entry.outcome refl

pub rested_waited : (client : ℕ) (a b : Knowledge) (fault : NotReady) → NotMadeShared client a b fault → HasWaited client a b
rested_waited client a b fault n = look_waited client a b (record { found = n.found; reaches = n.reaches; known = n.known })

-- what a section comes to, of which the receipt is answered where it replied
pub section_ends : (client : ℕ) (a b : Knowledge) (result : Result Receipt NotReady) → SectionsShared client a b result
    → MatchOption (reply_of result) (HasWaited client a b) (λ receipt. HasReplied client a b receipt)
section_ends client a b (Ok told) is = made_ends client a b told is
section_ends client a b (Err fault) is = rested_waited client a b fault is

-- ---- what is answered of a section

-- the receipt of a reply is answered, and nothing of another section
pub section_answers : (client : ℕ) (a b : Knowledge) (made : Result Receipt NotReady) (answer : Option Receipt) → answer ≡ reply_of made → SectionsShared client a b made
    → MatchOption answer (HasWaited client a b) (λ receipt. HasReplied client a b receipt)
section_answers client a b made answer is shared =
    subst (λ o. MatchOption o (HasWaited client a b) (λ receipt. HasReplied client a b receipt)) (sym is) (section_ends client a b made shared)

-- what a caller is answered, after sections in which the client waits
pub answers_on : (client : ℕ) (a b c : Knowledge) (answer : Option Receipt) → HasWaited client a b → MatchOption answer (HasWaited client b c) (λ receipt. HasReplied client b c receipt)
    → MatchOption answer (HasWaited client a c) (λ receipt. HasReplied client a c receipt)
answers_on client a b c None f g = waited_on client a b c f g
answers_on client a b c (Some told) f g = commits_on client a b c (ends.Replied told) f g

-- nothing was made meanwhile
pub waited_kept : (client : ℕ) (a b : Knowledge) → b ≡ a → HasWaited client a b
waited_kept client a b same = subst (HasWaited client a) (sym same) (waited_none client a)

-- how a call ends after a look
pub look_answers : (client entries : ℕ) (a b : Knowledge) (standing : Standing) (answer : Option CommitEnd) → answer ≡ end_of standing entries → Looks a b → StandsAs b.front client standing → entries ≡ b.seen
    → MatchOption answer (HasWaited client a b) (λ end. Commits client a b end)
look_answers client entries a b standing answer is looks stands count =
    subst (λ o. MatchOption o (HasWaited client a b) (λ end. Commits client a b end)) (sym is) (look_ends client entries a b standing looks stands count)
