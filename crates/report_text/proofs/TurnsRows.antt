-- Texts of a row, cut at a place: what stands before it, what stands there, and the rest.
use Rattle.std.proofs.Common.{◌≡◌, ℕ, zero, suc, ◌+◌, ◌-◌, ◌<◌, ◌≤◌, min, map, ◌++◌, ◌∷◌, ◌∙◌, List, [], Option, Some, length, get_or, take, drop, codes, slice_get, Bor, Result, Ok, Err, IsErr, refl, ap, sym, append_assoc, append-nil, arith}
use Rattle.std.proofs.lemmas.List.{take_all}
use Rattle.std.specs.List.{flat_map}
use Rattle.std.specs.Option.{option_copied, option_map_or}
use Rattle.base_io.specs.declared.sink.SinkFailed.{SinkFailed}
use Rattle.base_io.specs.Outside.{SinkSeen}
use Rattle.base_io.specs.Writing.{Wrote}
use Rattle.base_io.proofs.Writing.{wrote_both, wrote_same, wrote_until}
use Rattle.lang_printer.specs.Canonical.{joined}
use Rattle.lang_printer.specs.CanonicalClients.{try_text}
use Rattle.lang_monitor.specs.declared.monitor.Field.{Field}
use Rattle.lang_base.specs.declared.value.Value.{Value}
use Rattle.lang_monitor.specs.MonitorParts.{MonitorParts}
use Rattle.machine_implicit.specs.declared.commit.Commit.{Commit}
use Rattle.machine_implicit.specs.declared.commit.Turns.{Turns}
use Rattle.machine_implicit.specs.declared.script.Client.{Client}
use Rattle.machine_implicit.specs.declared.script.Call.{Call}
use Rattle.machine_implicit.specs.Scripted.{calls_of, blocks_in}
use Rattle.report_text.specs.TurnsText.{client_name, method_name, called_text, numbers_text, call_text, commit_text, fields_text, state_text, value_text, ended_text, last_of, turns_text}

-- ---- the inputs of a call

-- the inputs but the first, as a pattern of the code has them
abbrev pub after_first : List Value → List Value
after_first inputs = take (length inputs - 1) (drop 1 inputs)

inputs-rest : (inputs : List Value)
    → flat_map (λ input. codes ", " ++ value_text input) inputs
    ≡ flat_map (λ text. codes ", " ++ text) (map value_text inputs)
inputs-rest [] = refl
inputs-rest (input ∷ inputs) = ap (λ l. (codes ", " ++ value_text input) ++ l) (inputs-rest inputs)

-- the first input, then the others
pub inputs-cut : (inputs : List Value) (any : Value) (text : List ℕ) → 1 ≤ length inputs
    → text ≡ value_text (get_or inputs 0 any)
    → text ++ flat_map (λ input. codes ", " ++ value_text input) (after_first inputs)
    ≡ joined (codes ", ") (map value_text inputs)
inputs-cut [] any text some says = absurd (omega arith)
inputs-cut (input ∷ inputs) any text some says =
    ap (λ t. t ++ flat_map (λ i. codes ", " ++ value_text i) (after_first (input ∷ inputs))) says
    ∙ ap (λ l. value_text input ++ flat_map (λ i. codes ", " ++ value_text i) l) (take_all (length (input ∷ inputs) - 1) inputs (omega arith))
    ∙ ap (λ l. value_text input ++ l) (inputs-rest inputs)

-- a call, by whether it tries, its method's name and its inputs
pub called_text-parts : (monitor : MonitorParts) (call : Option (Bor Call)) (this : Bor Call)
    (tries name : List ℕ) (inputs : List Value)
    → call ≡ Some this → tries ≡ try_text this.now.tries
    → name ≡ method_name (slice_get monitor.methods this.now.method) → inputs ≡ this.now.inputs
    → (tries ++ (name ++ codes "(")) ++ joined (codes ", ") (map value_text inputs) ++ codes ")"
    ≡ called_text monitor (option_copied call)
called_text-parts monitor call this tries name inputs is attempts named given =
    ap (λ text. text ++ joined (codes ", ") (map value_text inputs) ++ codes ")") (sym (append_assoc tries name (codes "(")))
    ∙ ap (λ t. t ++ name ++ codes "(" ++ joined (codes ", ") (map value_text inputs) ++ codes ")") attempts
    ∙ ap (λ n. try_text this.now.tries ++ n ++ codes "(" ++ joined (codes ", ") (map value_text inputs) ++ codes ")") named
    ∙ ap (λ l. try_text this.now.tries ++ method_name (slice_get monitor.methods this.now.method) ++ codes "(" ++ joined (codes ", ") (map value_text l) ++ codes ")") given
    ∙ ap (λ c. called_text monitor (option_copied c)) (sym is)

-- a client, its call and its block, by what stands for their parts
pub call_text-parts : (monitor : MonitorParts) (clients : List Client)
    (client number block count : ℕ) (name : List ℕ) (call : Option Call)
    → name ≡ client_name (slice_get clients client)
    → call ≡ slice_get (calls_of clients client) (number - 1)
    → count ≡ option_map_or (blocks_in monitor) call 0
    → name ++ codes "." ++ numbers_text count number block ++ codes " " ++ called_text monitor call
    ≡ call_text monitor clients client number block
call_text-parts monitor clients client number block count name call named is counts =
    ap (λ n. n ++ codes "." ++ numbers_text count number block ++ codes " " ++ called_text monitor call) named
    ∙ ap (λ k. client_name (slice_get clients client) ++ codes "." ++ numbers_text k number block ++ codes " " ++ called_text monitor call) counts
    ∙ ap (λ c. client_name (slice_get clients client) ++ codes "." ++ numbers_text (option_map_or (blocks_in monitor) c 0) number block ++ codes " " ++ called_text monitor c) is

-- ---- the fields with their values

abbrev pub field_text : Field → Value → List ℕ
field_text field value = codes " " ++ field.name ++ codes "=" ++ value_text value

fields_text-take_suc : (fields : List Field) (values : List Value) (i : ℕ) (field : Field)
    (value : Value) → i < length fields → i < length values
    → fields_text (take i fields) (take i values) ++ field_text (get_or fields i field)
    (get_or values i value) ≡ fields_text (take (suc i) fields) (take (suc i) values)
fields_text-take_suc [] values i field value here there = absurd (omega arith)
fields_text-take_suc (f ∷ fields) [] i field value here there = absurd (omega arith)
fields_text-take_suc (f ∷ fields) (v ∷ values) zero field value here there = sym (append-nil (field_text f v))
fields_text-take_suc (f ∷ fields) (v ∷ values) (suc i) field value here there =
    append_assoc (field_text f v) _ _ ∙ ap (λ l. field_text f v ++ l) (fields_text-take_suc fields values i field value (omega arith) (omega arith))

-- the field and the value at a place
fields_text-next : (fields : List Field) (values : List Value) (i next : ℕ) (field : Field)
    (value : Value) → next ≡ i + 1 → i < length fields → i < length values
    → field ≡ get_or fields i field → value ≡ get_or values i value
    → fields_text (take i fields) (take i values) ++ field_text field value
    ≡ fields_text (take next fields) (take next values)
fields_text-next fields values i next field value further here there is_field is_value =
    let after : next ≡ suc i = omega arith in
    ap (λ f. fields_text (take i fields) (take i values) ++ field_text f value) is_field
    ∙ ap (λ v. fields_text (take i fields) (take i values) ++ field_text (get_or fields i field) v) is_value
    ∙ fields_text-take_suc fields values i field value here there
    ∙ ap (λ n. fields_text (take n fields) (take n values)) (sym after)

fields_text-cut : (fields : List Field) (values : List Value) (i : ℕ) (field : Field)
    (value : Value) → i < length fields → i < length values
    → fields_text (take i fields) (take i values) ++ field_text (get_or fields i field)
    (get_or values i value) ++ fields_text (drop (suc i) fields) (drop (suc i) values)
    ≡ fields_text fields values
fields_text-cut [] values i field value here there = absurd (omega arith)
fields_text-cut (f ∷ fields) [] i field value here there = absurd (omega arith)
fields_text-cut (f ∷ fields) (v ∷ values) zero field value here there = refl
fields_text-cut (f ∷ fields) (v ∷ values) (suc i) field value here there =
    let rest = fields_text-cut fields values i field value (omega arith) (omega arith) in
    ap (λ l. l ++ fields_text (drop (suc i) fields) (drop (suc i) values)) (append_assoc (field_text f v) _ _) ∙ append_assoc (field_text f v) _ _ ∙ ap (λ l. field_text f v ++ l) rest

fields_text-parts : (fields : List Field) (values : List Value) (i : ℕ) (field : Field)
    (value : Value) → i < length fields → i < length values → field ≡ get_or fields i field
    → value ≡ get_or values i value
    → fields_text (take i fields) (take i values) ++ field_text field value ++ fields_text
    (drop (suc i) fields) (drop (suc i) values) ≡ fields_text fields values
fields_text-parts fields values i field value here there is_field is_value =
    ap (λ f. fields_text (take i fields) (take i values) ++ field_text f value ++ fields_text (drop (suc i) fields) (drop (suc i) values)) is_field
    ∙ ap (λ v. fields_text (take i fields) (take i values) ++ field_text (get_or fields i field) v ++ fields_text (drop (suc i) fields) (drop (suc i) values)) is_value
    ∙ fields_text-cut fields values i field value here there

-- the next field, with its value
pub fields_went : {s0 s1 s2 : SinkSeen} (fields : List Field) (values : List Value) (i next : ℕ)
    (field : Field) (value : Value) → next ≡ i + 1 → i < length fields → i < length values
    → field ≡ get_or fields i field → value ≡ get_or values i value
    → Wrote s0 s1 (Ok tt) (fields_text (take i fields) (take i values))
    → Wrote s1 s2 (Ok tt) (field_text field value)
    → Wrote s0 s2 (Ok tt) (fields_text (take next fields) (take next values))
fields_went fields values i next field value further here there is_field is_value before wrote =
    wrote_same _ (fields_text-next fields values i next field value further here there is_field is_value) (wrote_both before wrote)

-- a field with its value that wasn't written whole
pub fields_stopped : {s0 s1 s2 : SinkSeen} {fault : SinkFailed} (fields : List Field)
    (values : List Value) (i : ℕ) (field : Field) (value : Value)
    (answer : Result (Unit {0}) SinkFailed) → i < length fields → i < length values
    → field ≡ get_or fields i field → value ≡ get_or values i value
    → IsErr answer → Wrote s0 s1 (Ok tt) (fields_text (take i fields) (take i values))
    → Wrote s1 s2 (Err fault) (field_text field value)
    → Wrote s0 s2 answer (fields_text fields values)
fields_stopped fields values i field value answer here there is_field is_value fails before wrote =
    wrote_until _ _ answer (fields_text-parts fields values i field value here there is_field is_value) fails before wrote

-- the shorter list ends the row
pub fields_text-end : (fields : List Field) (values : List Value) (i : ℕ)
    → i ≡ min (length fields) (length values)
    → fields_text (take i fields) (take i values) ≡ fields_text fields values
fields_text-end [] values zero end = refl
fields_text-end [] values (suc i) end = refl
fields_text-end (f ∷ fields) [] zero end = refl
fields_text-end (f ∷ fields) [] (suc i) end = absurd (omega arith)
fields_text-end (f ∷ fields) (v ∷ values) zero end = absurd (omega arith)
fields_text-end (f ∷ fields) (v ∷ values) (suc i) end = ap (λ l. field_text f v ++ l) (fields_text-end fields values i (omega arith))

-- ---- the whole

-- the line of the state, by what stands for the fields and the values
pub state_text-parts : (monitor : MonitorParts) (fields : List Field) (values state : List Value)
    → fields ≡ monitor.fields → values ≡ state
    → codes "state" ++ fields_text fields values ++ codes "\n" ≡ state_text monitor state
state_text-parts monitor fields values state are stand =
    ap (λ all. codes "state" ++ fields_text all values ++ codes "\n") are ∙ ap (λ held. codes "state" ++ fields_text monitor.fields held ++ codes "\n") stand

-- the parts of a run's text, by what stands for the scripts and the history
pub turns_text-parts : (monitor : MonitorParts) (scripts : List Client) (turns : Turns)
    (clients : List Client) (history : List Commit) → clients ≡ scripts → history ≡ turns.history
    → flat_map (commit_text monitor clients) history ++ ended_text monitor clients
    (last_of turns) turns.finished ≡ turns_text monitor scripts turns
turns_text-parts monitor scripts turns clients history these did =
    ap (λ them. flat_map (commit_text monitor them) history ++ ended_text monitor them (last_of turns) turns.finished) these
    ∙ ap (λ so_far. flat_map (commit_text monitor scripts) so_far ++ ended_text monitor scripts (last_of turns) turns.finished) did
