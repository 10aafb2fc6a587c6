-- The lines of a log's entries: each ends in its only line feed, and with the log before it names
-- one entry. Bytes: 10 is a line feed, 32 a blank, 45 `-`, 46 a dot, 61 `=`, 119 `w`.
use Rattle.std.proofs.Common.{◌≡◌, ◌==◌, ℕ, suc, ◌+◌, ◌-◌, ◌<◌, Bool, true, false, not, ◌||◌, cond, ℤ, pos, negsuc, List, [], ◌∷◌, ◌++◌, length, map, codes, decimal, ap, sym, refl, subst, ◌∙◌, append_assoc, arith}
use Rattle.std.specs.Prelude.{slice_get, Option, None, Some}
use Rattle.std.specs.Fmt.{signed_decimal}
use Rattle.std.specs.List.{list_all}
use Rattle.std.proofs.lemmas.Bool.{false≢true}
use Rattle.std.proofs.lemmas.List.{append_cancel_left}
use Rattle.std.proofs.lemmas.Option.{same_Some}
use Rattle.std.specs.Option.{option_map_or}
use Rattle.lang_base.specs.Identifiers.{is_word_byte}
use Rattle.lang_base.specs.declared.value.Value.{Value}
use Rattle.lang_base.specs.declared.value.Value.TheVariants as values
use Rattle.lang_printer.specs.Canonical.{joined, truth_text}
use Rattle.lang_printer.specs.CanonicalClients.{try_text}
use Rattle.lang_monitor.specs.MonitorParts.{MonitorParts, IsMonitor}
use Rattle.machine_implicit.specs.declared.commit.Reply.{Reply}
use Rattle.machine_implicit.specs.declared.commit.Reply.TheVariants as replies
use Rattle.machine_implicit.specs.declared.script.Call.{Call}
use Rattle.machine_implicit.specs.declared.script.Client.{Client}
use Rattle.machine_implicit.specs.declared.place.Place.{Place}
use Rattle.machine_implicit.specs.Scripted.{AreClients, calls_of, blocks_in}
use Rattle.machine_implicit.specs.Runs.{Situation, IsRun}
use Rattle.machine_implicit.proofs.OneSituation.{one_situation}
use Rattle.machine_events.specs.declared.log.Outcome.{Outcome}
use Rattle.machine_events.specs.declared.log.Outcome.TheVariants as outcomes
use Rattle.machine_events.specs.declared.log.Entry.{Entry}
use Rattle.machine_events.specs.Logs.{commits_of}
use Rattle.machine_events.specs.PlanText.{method_name, block_mark}
use Rattle.report_text.specs.TurnsText.{value_text, reply_text, client_name, called_text, numbers_text, call_text}
use Rattle.report_text.specs.LogText.{woken_names, wakes_text, replied_text}
use Rattle.report_text.specs.LogText.{outcome_text, entry_text}
use Rattle.lang_base.proofs.Cuts.{same_first, same_rest, stops, cut, all_weaker}
use Rattle.lang_base.proofs.Numerals.{IsShortInt, is_figure, decimal_some, no_minus, signed_figures, same_signed}
use Rattle.lang_base.proofs.Lines.{HasNoLineFeed, IsLine, words_in_line, decimal_in_line, signed_in_line, both_in_line, joined_in_line}
use Rattle.report_text.proofs.Lines.{block_mark_in_line}
use Rattle.report_text.proofs.Names.{method_words, client_is_named, same_client}
use Rattle.lang_base.proofs.Words.{name_words}
use Rattle.lang_printer.proofs.ExpressionLines.{truth_in_line}
use Rattle.report_text.proofs.Wakes.{AreClientBits, wakes_in_line, same_wakes}

-- ---- what an entry is known by, after a log

abbrev pub IsShortReply : Reply → Type 0
IsShortReply replies.Unit = Unit {0}
IsShortReply (replies.Int number) = IsShortInt number
IsShortReply (replies.Bool truth) = Unit {0}
IsShortReply replies.Overflow = Unit {0}
IsShortReply replies.Refused = Unit {0}

-- a reply has a number that its text has in full, and wakes clients
abbrev pub FitsOutcome : ℕ → Outcome → Type 0
FitsOutcome count outcomes.Waits = Unit {0}
FitsOutcome count (outcomes.Replies reply woken) = IsShortReply reply × AreClientBits count woken
FitsOutcome count outcomes.Spurious = Unit {0}

-- it is of a client, at the call and the block at which that stands after those that replied
pub record IsEntryAfter (monitor : MonitorParts) (clients : List Client) (past : List Entry) (entry : Entry) : Type 0 where
  pub client : entry.client < length clients
  pub now : Situation
  pub run : IsRun monitor clients (commits_of past) now
  pub place : Place
  pub at : slice_get now.places entry.client ≡ Some place
  pub call : entry.call ≡ place.past + 1
  pub block : entry.block ≡ place.block + 1
  pub outcome : FitsOutcome (length clients) entry.outcome

-- ---- no line feed but the last

value_in_line : (value : Value) → HasNoLineFeed (value_text value)
value_in_line (values.Int number) = signed_in_line number
value_in_line (values.Bool truth) = truth_in_line truth

try_in_line : (tries : Bool) → HasNoLineFeed (try_text tries)
try_in_line true = refl
try_in_line false = refl

called_in_line : (monitor : MonitorParts) (call : Option Call) → IsMonitor monitor
    → HasNoLineFeed (called_text monitor call)
called_in_line monitor None rule = refl
called_in_line monitor (Some call) rule =
    let name : List ℕ = method_name (slice_get monitor.methods call.method) in
    let begun : List ℕ = try_text call.tries ++ name in
    let inputs : List ℕ = joined (codes ", ") (map value_text call.inputs) in
    let first : HasNoLineFeed begun = both_in_line (try_text call.tries) name (try_in_line call.tries) (words_in_line name (method_words monitor call.method rule)) in
    let front : HasNoLineFeed (begun ++ codes "(") = both_in_line begun (codes "(") first refl in
    let whole : HasNoLineFeed (begun ++ codes "(" ++ inputs) = both_in_line (begun ++ codes "(") inputs front (joined_in_line (codes ", ") value_text refl value_in_line call.inputs) in
    both_in_line (begun ++ codes "(" ++ inputs) (codes ")") whole refl

client_in_line : (clients : List Client) (client : ℕ) → AreClients clients → client < length clients
    → HasNoLineFeed (client_name (slice_get clients client))
client_in_line clients client are within = let name = client_name (slice_get clients client) in words_in_line name (name_words name (client_is_named clients client are within))

-- the numbers of a call and its block, as a line has them
abbrev numbers_at : MonitorParts → List Client → ℕ → ℕ → ℕ → List ℕ
numbers_at monitor clients client call block = numbers_text (option_map_or (blocks_in monitor) (slice_get (calls_of clients client) (call - 1)) 0) call block

numbers_in_line : (monitor : MonitorParts) (clients : List Client) (client call block : ℕ)
    → HasNoLineFeed (numbers_at monitor clients client call block)
numbers_in_line monitor clients client call block =
    let count : ℕ = option_map_or (blocks_in monitor) (slice_get (calls_of clients client) (call - 1)) 0 in
    both_in_line (decimal call) (block_mark count block) (decimal_in_line call) (block_mark_in_line count block)

call_in_line : (monitor : MonitorParts) (clients : List Client) (client call block : ℕ)
    → IsMonitor monitor → AreClients clients → client < length clients
    → HasNoLineFeed (call_text monitor clients client call block)
call_in_line monitor clients client call block rule are within =
    let name : List ℕ = client_name (slice_get clients client) in
    let numbers : List ℕ = numbers_at monitor clients client call block in
    let called : List ℕ = called_text monitor (slice_get (calls_of clients client) (call - 1)) in
    let first : HasNoLineFeed (name ++ codes ".") = both_in_line name (codes ".") (client_in_line clients client are within) refl in
    let second : HasNoLineFeed (name ++ codes "." ++ numbers) = both_in_line (name ++ codes ".") numbers first (numbers_in_line monitor clients client call block) in
    let third : HasNoLineFeed (name ++ codes "." ++ numbers ++ codes " ") = both_in_line (name ++ codes "." ++ numbers) (codes " ") second refl in
    both_in_line (name ++ codes "." ++ numbers ++ codes " ") called third (called_in_line monitor (slice_get (calls_of clients client) (call - 1)) rule)

reply_in_line : (reply : Reply) → HasNoLineFeed (reply_text reply)
reply_in_line replies.Unit = refl
reply_in_line (replies.Int number) = signed_in_line number
reply_in_line (replies.Bool truth) = truth_in_line truth
reply_in_line replies.Overflow = refl
reply_in_line replies.Refused = refl

outcome_is_line : (monitor : MonitorParts) (clients : List Client) (client call block : ℕ)
    (outcome : Outcome) → IsMonitor monitor → AreClients clients → client < length clients
    → IsLine (outcome_text monitor clients client call block outcome)
outcome_is_line monitor clients client call block outcomes.Waits rule are within =
    let front : List ℕ = call_text monitor clients client call block in
    record {
      body = front ++ codes " waits";
      plain = both_in_line front (codes " waits") (call_in_line monitor clients client call block rule are within) refl;
      is = sym (append_assoc front (codes " waits") (codes "\n"));
    }
outcome_is_line monitor clients client call block (outcomes.Replies reply woken) rule are within =
    let front : List ℕ = call_text monitor clients client call block in
    let answer : List ℕ = codes " = " ++ reply_text reply in
    let wakes : List ℕ = wakes_text clients woken in
    let plain : HasNoLineFeed (answer ++ wakes) = both_in_line answer wakes (both_in_line (codes " = ") (reply_text reply) refl (reply_in_line reply)) (wakes_in_line clients woken are) in
    record {
      body = front ++ (answer ++ wakes);
      plain = both_in_line front (answer ++ wakes) (call_in_line monitor clients client call block rule are within) plain;
      is = sym (append_assoc front (answer ++ wakes) (codes "\n"));
    }
outcome_is_line monitor clients client call block outcomes.Spurious rule are within =
    let name : List ℕ = client_name (slice_get clients client) in
    record { body = codes "spurious " ++ name; plain = both_in_line (codes "spurious ") name refl (client_in_line clients client are within); is = refl }

pub entry_is_line : (monitor : MonitorParts) (clients : List Client) (past : List Entry)
    (entry : Entry) → IsMonitor monitor → AreClients clients
    → IsEntryAfter monitor clients past entry
    → IsLine (entry_text monitor clients entry)
entry_is_line monitor clients past entry rule are after = outcome_is_line monitor clients entry.client entry.call entry.block entry.outcome rule are after.client

-- ---- replies

-- a byte of a reply
abbrev is_answer : ℕ → Bool
is_answer byte = is_word_byte byte || byte == 45

figure_answers : (byte : ℕ) → is_figure byte ≡ true → is_answer byte ≡ true
figure_answers byte is = grind arith

reply_answers : (reply : Reply) → list_all is_answer (reply_text reply) ≡ true
reply_answers replies.Unit = refl
reply_answers (replies.Int number) = all_weaker is_figure is_answer figure_answers (signed_decimal number) (signed_figures number)
reply_answers (replies.Bool true) = refl
reply_answers (replies.Bool false) = refl
reply_answers replies.Overflow = refl
reply_answers replies.Refused = refl

truth_no_figures : (truth : Bool) → list_all is_figure (truth_text truth) ≡ false
truth_no_figures true = refl
truth_no_figures false = refl

no_figures : (number : ℤ) (text : List ℕ) → list_all is_figure text ≡ false
    → signed_decimal number ≡ text → ⊥
no_figures number text none same = false≢true (sym none ∙ ap (list_all is_figure) (sym same) ∙ signed_figures number)

no_number : (number : ℤ) → signed_decimal number ≡ codes "-" → ⊥
no_number (pos number) same = no_minus number [] same
no_number (negsuc number) same = omega (arith, decimal_some (suc number), ap {B = ℕ} length (same_rest 45 45 (decimal (suc number)) [] same))

same_truth : (truth other : Bool) → truth_text truth ≡ truth_text other → truth ≡ other
same_truth true true same = refl
same_truth false false same = refl
same_truth truth other same = absurd (omega (arith, ap {B = ℕ} length same))

truth_no_dash : (truth : Bool) → truth_text truth ≡ codes "-" → ⊥
truth_no_dash truth same = false≢true (sym (truth_no_figures truth) ∙ ap (list_all is_figure) same)

truth_no_overflow : (truth : Bool) → truth_text truth ≡ codes "overflow" → ⊥
truth_no_overflow true same = omega (arith, ap {B = ℕ} length same)
truth_no_overflow false same = omega (arith, ap {B = ℕ} length same)

truth_no_refused : (truth : Bool) → truth_text truth ≡ codes "refused" → ⊥
truth_no_refused true same = omega (arith, ap {B = ℕ} length same)
truth_no_refused false same = omega (arith, ap {B = ℕ} length same)

same_reply : (reply other : Reply) → IsShortReply reply → IsShortReply other
    → reply_text reply ≡ reply_text other → reply ≡ other
same_reply replies.Unit replies.Unit short also same = refl
same_reply replies.Unit (replies.Int number) short also same = absurd (no_number number (sym same))
same_reply replies.Unit (replies.Bool truth) short also same = absurd (truth_no_dash truth (sym same))
same_reply replies.Unit replies.Overflow short also same = absurd (omega (arith, ap {B = ℕ} length same))
same_reply replies.Unit replies.Refused short also same = absurd (omega (arith, ap {B = ℕ} length same))
same_reply (replies.Int number) replies.Unit short also same = absurd (no_number number same)
same_reply (replies.Int number) (replies.Int other) short also same = ap replies.Int (same_signed number other short also same)
same_reply (replies.Int number) (replies.Bool truth) short also same = absurd (no_figures number (truth_text truth) (truth_no_figures truth) same)
same_reply (replies.Int number) replies.Overflow short also same = absurd (no_figures number (codes "overflow") refl same)
same_reply (replies.Int number) replies.Refused short also same = absurd (no_figures number (codes "refused") refl same)
same_reply (replies.Bool truth) replies.Unit short also same = absurd (truth_no_dash truth same)
same_reply (replies.Bool truth) (replies.Int number) short also same = absurd (no_figures number (truth_text truth) (truth_no_figures truth) (sym same))
same_reply (replies.Bool truth) (replies.Bool other) short also same = ap replies.Bool (same_truth truth other same)
same_reply (replies.Bool truth) replies.Overflow short also same = absurd (truth_no_overflow truth same)
same_reply (replies.Bool truth) replies.Refused short also same = absurd (truth_no_refused truth same)
same_reply replies.Overflow replies.Unit short also same = absurd (omega (arith, ap {B = ℕ} length same))
same_reply replies.Overflow (replies.Int number) short also same = absurd (no_figures number (codes "overflow") refl (sym same))
same_reply replies.Overflow (replies.Bool truth) short also same = absurd (truth_no_overflow truth (sym same))
same_reply replies.Overflow replies.Overflow short also same = refl
same_reply replies.Overflow replies.Refused short also same = absurd (omega (arith, ap {B = ℕ} length same))
same_reply replies.Refused replies.Unit short also same = absurd (omega (arith, ap {B = ℕ} length same))
same_reply replies.Refused (replies.Int number) short also same = absurd (no_figures number (codes "refused") refl (sym same))
same_reply replies.Refused (replies.Bool truth) short also same = absurd (truth_no_refused truth (sym same))
same_reply replies.Refused replies.Overflow short also same = absurd (omega (arith, ap {B = ℕ} length same))
same_reply replies.Refused replies.Refused short also same = refl

-- ---- what stands after the call

wakes_stop : (clients : List Client) (woken : ℕ)
    → stops is_answer (wakes_text clients woken ++ codes "\n") ≡ true
wakes_stop clients woken = by_test (woken == 0)
  where
    by_test : (test : Bool)
        → stops is_answer (cond test [] (codes " wakes" ++ woken_names woken clients) ++ codes "\n")
        ≡ true
    by_test true = refl
    by_test false = refl

replied_parts : (clients : List Client) (reply : Reply) (woken : ℕ)
    → replied_text clients reply woken
    ≡ codes " = " ++ (reply_text reply ++ (wakes_text clients woken ++ codes "\n"))
replied_parts clients reply woken = append_assoc (codes " = " ++ reply_text reply) (wakes_text clients woken) (codes "\n")

same_replied : (clients : List Client) (reply other : Reply) (woken bits : ℕ) → AreClients clients
    → FitsOutcome (length clients) (outcomes.Replies reply woken)
    → FitsOutcome (length clients) (outcomes.Replies other bits)
    → replied_text clients reply woken ≡ replied_text clients other bits
    → (reply ≡ other) × (woken ≡ bits)
same_replied clients reply other woken bits are fits also same =
    let rest : List ℕ = wakes_text clients woken ++ codes "\n" in
    let others : List ℕ = wakes_text clients bits ++ codes "\n" in
    let parts =
    cut is_answer (reply_text reply) (reply_text other) rest others (reply_answers reply) (reply_answers other) (wakes_stop clients woken) (wakes_stop clients bits)
    (append_cancel_left (codes " = ") (reply_text reply ++ rest) (reply_text other ++ others) (sym (replied_parts clients reply woken) ∙ same ∙ replied_parts clients other bits)) in
    (same_reply reply other fits.0 also.0 parts.0, same_wakes clients woken bits are fits.1 also.1 parts.1)

no_wait : (clients : List Client) (reply : Reply) (woken : ℕ)
    → codes " waits\n" ≡ replied_text clients reply woken → ⊥
no_wait clients reply woken same =
    let rest : List ℕ = codes " " ++ (reply_text reply ++ (wakes_text clients woken ++ codes "\n")) in
    omega (arith, same_first 119 61 (codes "aits\n") rest (same_rest 32 32 (codes "waits\n") (codes "=" ++ rest) (same ∙ replied_parts clients reply woken)))

-- ---- the client, its call and its block

-- what stands after the client's name and a dot
abbrev line_of : MonitorParts → List Client → ℕ → ℕ → ℕ → List ℕ
line_of monitor clients client call block = numbers_at monitor clients client call block ++ codes " " ++ called_text monitor (slice_get (calls_of clients client) (call - 1))

call_parts : (monitor : MonitorParts) (clients : List Client) (client call block : ℕ)
    (rest : List ℕ)
    → call_text monitor clients client call block ++ rest
    ≡ client_name (slice_get clients client) ++
    (codes "." ++ (line_of monitor clients client call block ++ rest))
call_parts monitor clients client call block rest =
    let name : List ℕ = client_name (slice_get clients client) in
    let numbers : List ℕ = numbers_at monitor clients client call block in
    let called : List ℕ = called_text monitor (slice_get (calls_of clients client) (call - 1)) in
    append_assoc (name ++ codes "." ++ numbers ++ codes " ") called rest
    ∙ append_assoc (name ++ codes "." ++ numbers) (codes " ") (called ++ rest)
    ∙ append_assoc (name ++ codes ".") numbers (codes " " ++ (called ++ rest))
    ∙ append_assoc name (codes ".") (numbers ++ (codes " " ++ (called ++ rest)))
    ∙ ap (λ text. name ++ (codes "." ++ text)) (sym (append_assoc numbers (codes " ") (called ++ rest)) ∙ sym (append_assoc (numbers ++ codes " ") called rest))

-- a client at a block of its call, where these follow from the client, and what stands after them
same_called : (monitor : MonitorParts) (clients : List Client)
    (client call block other others_call others_block : ℕ) (rest more : List ℕ) → AreClients clients
    → client < length clients → other < length clients
    → (client ≡ other → (call ≡ others_call) × (block ≡ others_block))
    → call_text monitor clients client call block ++ rest
    ≡ call_text monitor clients other others_call others_block ++ more
    → (client ≡ other) × ((call ≡ others_call) × (block ≡ others_block)) × (rest ≡ more)
same_called monitor clients client call block other others_call others_block rest more are here there follows same =
    let name : List ℕ = client_name (slice_get clients client) in
    let also : List ℕ = client_name (slice_get clients other) in
    let parts =
    cut is_word_byte name also (codes "." ++ (line_of monitor clients client call block ++ rest)) (codes "." ++ (line_of monitor clients other others_call others_block ++ more))
    (name_words name (client_is_named clients client are here)) (name_words also (client_is_named clients other are there)) refl refl
    (sym (call_parts monitor clients client call block rest) ∙ same ∙ call_parts monitor clients other others_call others_block more) in
    let who = same_client clients client other are here there parts.0 in
    let which = follows who in
    let fronts : call_text monitor clients client call block ≡ call_text monitor clients other others_call others_block = λ i. call_text monitor clients (who i) (which.0 i) (which.1 i) in
    (who, which, append_cancel_left (call_text monitor clients other others_call others_block) rest more (ap (λ text. text ++ rest) (sym fronts) ∙ same))

-- a call is no spurious wake-up
no_spurious : (monitor : MonitorParts) (clients : List Client) (client call block : ℕ)
    (rest more : List ℕ) → AreClients clients → client < length clients
    → call_text monitor clients client call block ++ rest ≡ codes "spurious " ++ more → ⊥
no_spurious monitor clients client call block rest more are within same =
    let name : List ℕ = client_name (slice_get clients client) in
    let after : List ℕ = line_of monitor clients client call block ++ rest in
    let parts =
    cut is_word_byte name (codes "spurious") (codes "." ++ after) (codes " " ++ more) (name_words name (client_is_named clients client are within)) refl refl refl
    (sym (call_parts monitor clients client call block rest) ∙ same) in
    omega (arith, same_first 46 32 after more parts.1)

-- ---- the entry

-- of a client at a block of its call, where these follow from the client
same_outcome : (monitor : MonitorParts) (clients : List Client)
    (client call block other others_call others_block : ℕ) (outcome also : Outcome)
    → AreClients clients → client < length clients → other < length clients
    → (client ≡ other → (call ≡ others_call) × (block ≡ others_block))
    → FitsOutcome (length clients) outcome → FitsOutcome (length clients) also
    → outcome_text monitor clients client call block outcome
    ≡ outcome_text monitor clients other others_call others_block also
    → (client ≡ other) × ((call ≡ others_call) × (block ≡ others_block)) × (outcome ≡ also)
same_outcome monitor clients client call block other others_call others_block outcomes.Waits outcomes.Waits are here there follows fits fit same =
    let parts = same_called monitor clients client call block other others_call others_block (codes " waits\n") (codes " waits\n") are here there follows same in (parts.0, parts.1, refl)
same_outcome monitor clients client call block other others_call others_block outcomes.Waits (outcomes.Replies reply woken) are here there follows fits fit same =
    absurd (no_wait clients reply woken (same_called monitor clients client call block other others_call others_block (codes " waits\n") (replied_text clients reply woken) are here there follows same).2)
same_outcome monitor clients client call block other others_call others_block outcomes.Waits outcomes.Spurious are here there follows fits fit same =
    absurd (no_spurious monitor clients client call block (codes " waits\n") (client_name (slice_get clients other) ++ codes "\n") are here same)
same_outcome monitor clients client call block other others_call others_block (outcomes.Replies reply woken) outcomes.Waits are here there follows fits fit same =
    absurd (no_wait clients reply woken (sym (same_called monitor clients client call block other others_call others_block (replied_text clients reply woken) (codes " waits\n") are here there follows same).2))
same_outcome monitor clients client call block other others_call others_block (outcomes.Replies reply woken) (outcomes.Replies answer bits) are here there follows fits fit same =
    let parts = same_called monitor clients client call block other others_call others_block (replied_text clients reply woken) (replied_text clients answer bits) are here there follows same in
    let replied = same_replied clients reply answer woken bits are fits fit parts.2 in
    (parts.0, parts.1, λ i. outcomes.Replies (replied.0 i) (replied.1 i))
same_outcome monitor clients client call block other others_call others_block (outcomes.Replies reply woken) outcomes.Spurious are here there follows fits fit same =
    absurd (no_spurious monitor clients client call block (replied_text clients reply woken) (client_name (slice_get clients other) ++ codes "\n") are here same)
same_outcome monitor clients client call block other others_call others_block outcomes.Spurious outcomes.Waits are here there follows fits fit same =
    absurd (no_spurious monitor clients other others_call others_block (codes " waits\n") (client_name (slice_get clients client) ++ codes "\n") are there (sym same))
same_outcome monitor clients client call block other others_call others_block outcomes.Spurious (outcomes.Replies reply woken) are here there follows fits fit same =
    absurd (no_spurious monitor clients other others_call others_block (replied_text clients reply woken) (client_name (slice_get clients client) ++ codes "\n") are there (sym same))
same_outcome monitor clients client call block other others_call others_block outcomes.Spurious outcomes.Spurious are here there follows fits fit same =
    let name : List ℕ = client_name (slice_get clients client) in
    let also : List ℕ = client_name (slice_get clients other) in
    let parts =
    cut is_word_byte name also (codes "\n") (codes "\n") (name_words name (client_is_named clients client are here)) (name_words also (client_is_named clients other are there)) refl refl
    (append_cancel_left (codes "spurious ") (name ++ codes "\n") (also ++ codes "\n") same) in
    let who = same_client clients client other are here there parts.0 in
    (who, follows who, refl)

-- after one log a client is at one call and block
same_place_after : (monitor : MonitorParts) (clients : List Client) (past : List Entry)
    (entry other : Entry) → IsEntryAfter monitor clients past entry
    → IsEntryAfter monitor clients past other
    → entry.client ≡ other.client → (entry.call ≡ other.call) × (entry.block ≡ other.block)
same_place_after monitor clients past entry other after also who =
    let situation : after.now ≡ also.now = one_situation monitor clients (commits_of past) after.now also.now after.run also.run in
    let found : slice_get after.now.places entry.client ≡ slice_get also.now.places other.client = λ i. slice_get ((situation i).places) (who i) in
    let place : after.place ≡ also.place = same_Some after.place also.place (sym after.at ∙ found ∙ also.at) in
    (after.call ∙ ap (λ (one : Place). one.past + 1) place ∙ sym also.call, after.block ∙ ap (λ (one : Place). one.block + 1) place ∙ sym also.block)

-- after one log, a line names one entry
pub entry_line_names : (monitor : MonitorParts) (clients : List Client) (past : List Entry)
    (entry other : Entry) → AreClients clients → IsEntryAfter monitor clients past entry
    → IsEntryAfter monitor clients past other
    → entry_text monitor clients entry ≡ entry_text monitor clients other → entry ≡ other
entry_line_names monitor clients past entry other are after also same =
    let follows = same_place_after monitor clients past entry other after also in
    let parts = same_outcome monitor clients entry.client entry.call entry.block other.client other.call other.block entry.outcome other.outcome are after.client also.client follows after.outcome also.outcome same in
    λ i. record { client = parts.0 i; call = parts.1.0 i; block = parts.1.1 i; outcome = parts.2 i }

-- ---- what a line of an entry is not

-- a word with what ends it: a client and a dot, or `spurious` and a blank
pub record Begins (text : List ℕ) : Type 0 where
  pub word : List ℕ
  pub sign : ℕ
  pub more : List ℕ
  pub words : list_all is_word_byte word ≡ true
  pub ends : is_word_byte sign ≡ false
  pub no_feed : sign ≡ 10 → ⊥
  pub no_keep : word ≡ codes "keep" → sign ≡ 32 → ⊥
  pub is : text ≡ word ++ (sign ∷ more)

call_begins : (monitor : MonitorParts) (clients : List Client) (client call block : ℕ)
    (rest : List ℕ) → AreClients clients → client < length clients
    → Begins (call_text monitor clients client call block ++ rest)
call_begins monitor clients client call block rest are within = record {
  word = client_name (slice_get clients client);
  sign = 46;
  more = line_of monitor clients client call block ++ rest;
  words = name_words (client_name (slice_get clients client)) (client_is_named clients client are within);
  ends = refl;
  no_feed = λ same. omega (arith, same);
  no_keep = λ word same. omega (arith, same);
  is = call_parts monitor clients client call block rest;
}

outcome_begins : (monitor : MonitorParts) (clients : List Client) (client call block : ℕ)
    (outcome : Outcome) (rest : List ℕ) → AreClients clients → client < length clients
    → Begins (outcome_text monitor clients client call block outcome ++ rest)
outcome_begins monitor clients client call block outcomes.Waits rest are within =
    subst Begins (sym (append_assoc (call_text monitor clients client call block) (codes " waits\n") rest)) (call_begins monitor clients client call block (codes " waits\n" ++ rest) are within)
outcome_begins monitor clients client call block (outcomes.Replies reply woken) rest are within =
    let line : List ℕ = replied_text clients reply woken in
    subst Begins (sym (append_assoc (call_text monitor clients client call block) line rest)) (call_begins monitor clients client call block (line ++ rest) are within)
outcome_begins monitor clients client call block outcomes.Spurious rest are within = record {
  word = codes "spurious";
  sign = 32;
  more = client_name (slice_get clients client) ++ codes "\n" ++ rest;
  words = refl;
  ends = refl;
  no_feed = λ same. omega (arith, same);
  no_keep = λ word same. omega (arith, ap {B = ℕ} length word);
  is = refl;
}

pub entry_begins : (monitor : MonitorParts) (clients : List Client) (past : List Entry)
    (entry : Entry) (rest : List ℕ) → AreClients clients → IsEntryAfter monitor clients past entry
    → Begins (entry_text monitor clients entry ++ rest)
entry_begins monitor clients past entry rest are after = outcome_begins monitor clients entry.client entry.call entry.block entry.outcome rest are after.client

-- a word that stands before a line feed
pub no_word : (text word rest : List ℕ) → Begins text → list_all is_word_byte word ≡ true
    → text ≡ word ++ (codes "\n" ++ rest) → ⊥
no_word text word rest begins words same =
    begins.no_feed (same_first begins.sign 10 begins.more rest
    (cut is_word_byte begins.word word (begins.sign ∷ begins.more) (codes "\n" ++ rest) begins.words words (ap not begins.ends) refl (sym begins.is ∙ same)).1)

-- a candidate's line
pub no_candidate : (text rest : List ℕ) → Begins text → text ≡ codes "keep " ++ rest → ⊥
no_candidate text rest begins same =
    let parts = cut is_word_byte begins.word (codes "keep") (begins.sign ∷ begins.more) (codes " " ++ rest) begins.words refl (ap not begins.ends) refl (sym begins.is ∙ same) in
    begins.no_keep parts.0 (same_first begins.sign 32 begins.more rest parts.1)
