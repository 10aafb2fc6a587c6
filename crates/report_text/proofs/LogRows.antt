-- The parts of a log's text.
use Rattle.std.proofs.Common.{◌≡◌, ℕ, ◌+◌, ◌<◌, ◌≤◌, ◌==◌, ◌++◌, [], ◌∙◌, ◌&&◌, Bool, true, false, List, length, get_or, take, codes, ap, sym, refl, append-nil, arith}
use Rattle.std.specs.List.{flat_map, enumerate_from}
use Rattle.std.proofs.lemmas.List.{take_all}
use Rattle.std.proofs.lemmas.List.FromFn.{length-enumerate_from, get_or-enumerate_from}
use Rattle.std.proofs.lemmas.Bool.Decides.{nat_tests}
use Rattle.lang_base.specs.declared.value.Value.{Value}
use Rattle.lang_monitor.specs.MonitorParts.{MonitorParts}
use Rattle.machine_implicit.specs.declared.script.Client.{Client}
use Rattle.machine_implicit.specs.declared.commit.Reply.{Reply}
use Rattle.machine_events.specs.declared.log.Entry.{Entry}
use Rattle.machine_events.specs.Configurations.{System, Configuration, situation_of}
use Rattle.report_text.specs.TurnsText.{reply_text, end_text, state_text}
use Rattle.report_text.specs.LogText.{wakes_text, woken_names, replied_text, entry_text, are_done, closing_text}
use Rattle.report_text.proofs.PlanRows.{both}

pub both_true : (first second whole : Bool) → whole ≡ (first && second) → first ≡ true
    → second ≡ true → whole ≡ true
both_true first second whole is one other = is ∙ ap (λ test. test && second) one ∙ other

-- ---- who was woken

pub wakes_text-some : (clients : List Client) (woken : ℕ) → (woken ≡ 0 → ⊥)
    → codes " wakes" ++ woken_names woken clients ≡ wakes_text clients woken
wakes_text-some clients woken some =
    let no : (woken == 0) ≡ false = grind (arith, nat_tests) in
    rw no refl

-- a reply's text, by what stands for its reply
pub replied_text-parts : (clients : List Client) (reply : Reply) (woken : ℕ) (bytes : List ℕ)
    → bytes ≡ reply_text reply
    → (codes " = " ++ (bytes ++ [])) ++ wakes_text clients woken ++ codes "\n"
    ≡ replied_text clients reply woken
replied_text-parts clients reply woken bytes is = ap (λ text. codes " = " ++ text ++ wakes_text clients woken ++ codes "\n") (append-nil bytes ∙ is)

-- ---- each element with its number, from 0

pub within_enumerated : {A : Type 0} (xs : List A) (i : ℕ) → i < length xs
    → i < length (enumerate_from 0 xs)
within_enumerated xs i within = omega (arith, length-enumerate_from 0 xs)

pub enumerated_at : {A : Type 0} (xs : List A) (i : ℕ) (x : A) → i < length xs → x ≡ get_or xs i x
    → both i x ≡ get_or (enumerate_from 0 xs) i (both i x)
enumerated_at xs i x within is =
    let number : i ≡ 0 + i = omega arith in
    ap (λ n. both n x) number ∙ ap (λ y. both (0 + i) y) is ∙ sym (get_or-enumerate_from 0 xs i (both i x) within)

pub enumerated_end : {A : Type 0} (xs : List A) (i : ℕ) → length xs ≤ i
    → take i (enumerate_from 0 xs) ≡ enumerate_from 0 xs
enumerated_end xs i end = take_all i (enumerate_from 0 xs) (omega (arith, length-enumerate_from 0 xs))

-- ---- the whole, by what stands for its parts

pub entries_text-parts : (system : System) (log : List Entry) (monitor : MonitorParts)
    (clients : List Client) (entries : List Entry) → monitor ≡ system.monitor
    → clients ≡ system.clients → entries ≡ log
    → flat_map (entry_text monitor clients) entries
    ≡ flat_map (entry_text system.monitor system.clients) log
entries_text-parts system log monitor clients entries is are say =
    ap (λ m. flat_map (entry_text m clients) entries) is
    ∙ ap (λ them. flat_map (entry_text system.monitor them) entries) are
    ∙ ap (flat_map (entry_text system.monitor system.clients)) say

pub closing_text-parts : (system : System) (last : Configuration) (monitor also : MonitorParts)
    (clients : List Client) (finished : Bool) (state : List Value)
    → monitor ≡ system.monitor → also ≡ system.monitor → clients ≡ system.clients
    → finished ≡ are_done system.clients (situation_of last).places → state ≡ last.state
    → end_text monitor clients (situation_of last).places finished ++ state_text also state
    ≡ closing_text system.monitor system.clients (situation_of last)
closing_text-parts system last monitor also clients finished state is again are ends holds =
    ap (λ m. end_text m clients (situation_of last).places finished ++ state_text also state) is
    ∙ ap (λ m. end_text system.monitor clients (situation_of last).places finished ++ state_text m state) again
    ∙ ap (λ them. end_text system.monitor them (situation_of last).places finished ++ state_text system.monitor state) are
    ∙ ap (λ end. end_text system.monitor system.clients (situation_of last).places end ++ state_text system.monitor state) ends
    ∙ ap (λ held. end_text system.monitor system.clients (situation_of last).places (are_done system.clients (situation_of last).places) ++ state_text system.monitor held) holds
