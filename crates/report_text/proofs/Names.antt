-- Names of fields, methods and clients: that each names one.
use Rattle.std.proofs.Common.{◌≡◌, ◌≢◌, ℕ, zero, suc, ◌+◌, ◌<◌, true, List, [], ◌∷◌, ◌++◌, length, map, get_or, sym, refl, ◌∙◌, arith, inl, inr, length-append, subst}
use Rattle.std.specs.Prelude.{AllPairs, slice_get}
use Rattle.std.specs.List.{list_all}
use Rattle.std.proofs.lemmas.Bool.{cases_order}
use Rattle.std.proofs.lemmas.List.{length-map, get_or-map, get_or-append-add}
use Rattle.lang_base.specs.Identifiers.{is_word_byte, IsIdentifier}
use Rattle.lang_base.proofs.Words.{name_words}
use Rattle.lang_monitor.specs.declared.monitor.Field.{Field}
use Rattle.lang_monitor.specs.declared.monitor.Method.{Method}
use Rattle.lang_monitor.specs.MonitorParts.{MonitorParts, IsMonitor, names_of}
use Rattle.machine_implicit.specs.declared.script.Client.{Client}
use Rattle.machine_implicit.specs.Scripted.{AreClients}
use Rattle.machine_events.specs.PlanText.{field_name, method_name}
use Rattle.report_text.specs.TurnsText.{client_name}

-- ---- one of distinct names

-- two places of one name are one
same_place : (names : List (List ℕ)) (i j : ℕ) → AllPairs (λ name other. name ≢ other) names
    → i < length names → j < length names → get_or names i [] ≡ get_or names j [] → i ≡ j
same_place names i j distinct here there same = elim (cases_order i j) [
  | inl is ↦ is
  | inr (inl below) ↦ absurd (distinct i j [] below there same)
  | inr (inr above) ↦ absurd (distinct j i [] above here (sym same))
]

-- ---- fields and methods of a monitor

field_at : (fields : List Field) (more : List (List ℕ)) (i : ℕ) → i < length fields
    → field_name (slice_get fields i) ≡ get_or (map (λ field. field.name) fields ++ more) i []
field_at [] more i within = absurd (omega (arith, within))
field_at (field ∷ fields) more zero within = refl
field_at (field ∷ fields) more (suc i) within = field_at fields more i (omega (arith, within))

method_at : (methods : List Method) (i : ℕ) → i < length methods
    → method_name (slice_get methods i) ≡ get_or (map (λ method. method.name) methods) i []
method_at [] i within = absurd (omega (arith, within))
method_at (method ∷ methods) zero within = refl
method_at (method ∷ methods) (suc i) within = method_at methods i (omega (arith, within))

within_names : (monitor : MonitorParts) (field : ℕ) → field < length monitor.fields
    → field < length (names_of monitor)
within_names monitor field within =
    let fields : List (List ℕ) = map (λ one. one.name) monitor.fields in
    let methods : List (List ℕ) = map (λ one. one.name) monitor.methods in
    omega (arith, length-append fields methods, length-map monitor.fields (λ one. one.name))

pub field_is_named : (monitor : MonitorParts) (field : ℕ) → IsMonitor monitor
    → field < length monitor.fields → IsIdentifier (field_name (slice_get monitor.fields field))
field_is_named monitor field rule within =
    subst IsIdentifier (sym (field_at monitor.fields (map (λ method. method.name) monitor.methods) field within)) (rule.names field [] (within_names monitor field within))

pub same_field : (monitor : MonitorParts) (field other : ℕ) → IsMonitor monitor
    → field < length monitor.fields → other < length monitor.fields
    → field_name (slice_get monitor.fields field) ≡ field_name (slice_get monitor.fields other)
    → field ≡ other
same_field monitor field other rule here there same =
    let methods : List (List ℕ) = map (λ method. method.name) monitor.methods in
    same_place (names_of monitor) field other rule.distinct (within_names monitor field here) (within_names monitor other there)
    (sym (field_at monitor.fields methods field here) ∙ same ∙ field_at monitor.fields methods other there)

methods_words : (methods : List Method)
    →
    ((i : ℕ) → i < length methods → IsIdentifier (get_or (map (λ method. method.name) methods) i []))
    → (i : ℕ) → list_all is_word_byte (method_name (slice_get methods i)) ≡ true
methods_words [] named i = refl
methods_words (method ∷ methods) named zero = name_words method.name (named zero (omega arith))
methods_words (method ∷ methods) named (suc i) = methods_words methods (λ k within. named (suc k) (omega (arith, within))) i

method_named : (monitor : MonitorParts) (method : ℕ) → IsMonitor monitor
    → method < length monitor.methods
    → IsIdentifier (get_or (map (λ one. one.name) monitor.methods) method [])
method_named monitor method rule within =
    let fields : List (List ℕ) = map (λ one. one.name) monitor.fields in
    let methods : List (List ℕ) = map (λ one. one.name) monitor.methods in
    let place : ℕ = length fields + method in
    subst IsIdentifier (get_or-append-add fields methods method [])
    (rule.names place [] (omega (arith, within, length-append fields methods, length-map monitor.methods (λ one. one.name))))

-- the name of a method, or none
pub method_words : (monitor : MonitorParts) (method : ℕ) → IsMonitor monitor
    → list_all is_word_byte (method_name (slice_get monitor.methods method)) ≡ true
method_words monitor method rule = methods_words monitor.methods (λ i. method_named monitor i rule) method

-- ---- clients

client_at : (clients : List Client) (i : ℕ) → i < length clients
    → client_name (slice_get clients i) ≡ get_or (map (λ client. client.name) clients) i []
client_at [] i within = absurd (omega (arith, within))
client_at (client ∷ clients) zero within = refl
client_at (client ∷ clients) (suc i) within = client_at clients i (omega (arith, within))

-- the names of clients are distinct where the clients' are
client_names_distinct : (clients : List Client)
    → AllPairs (λ client other. client.name ≢ other.name) clients
    → AllPairs (λ name other. name ≢ other) (map (λ client. client.name) clients)
client_names_distinct [] distinct i j d below within same = absurd (omega (arith, within))
client_names_distinct (client ∷ clients) distinct i j d below within same =
    let here : i < length (client ∷ clients) = omega (arith, below, within, length-map (client ∷ clients) (λ one. one.name)) in
    let there : j < length (client ∷ clients) = omega (arith, within, length-map (client ∷ clients) (λ one. one.name)) in
    distinct i j client below there
    (sym (get_or-map (λ one. one.name) (client ∷ clients) i client d here) ∙ same ∙ get_or-map (λ one. one.name) (client ∷ clients) j client d there)

pub client_is_named : (clients : List Client) (client : ℕ) → AreClients clients
    → client < length clients → IsIdentifier (client_name (slice_get clients client))
client_is_named [] client are within = absurd (omega (arith, within))
client_is_named (first ∷ clients) client are within =
    subst IsIdentifier (sym (client_at (first ∷ clients) client within ∙ get_or-map (λ one. one.name) (first ∷ clients) client first [] within)) (are.names client first within)

pub same_client : (clients : List Client) (client other : ℕ) → AreClients clients
    → client < length clients → other < length clients
    → client_name (slice_get clients client) ≡ client_name (slice_get clients other)
    → client ≡ other
same_client clients client other are here there same =
    let names : List (List ℕ) = map (λ one. one.name) clients in
    same_place names client other (client_names_distinct clients are.distinct) (omega (arith, here, length-map clients (λ one. one.name))) (omega (arith, there, length-map clients (λ one. one.name)))
    (sym (client_at clients client here) ∙ same ∙ client_at clients other there)
