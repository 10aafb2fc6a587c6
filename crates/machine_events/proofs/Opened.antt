-- A plan for a monitor that is opened with some values.
use Rattle.std.proofs.Common.{◌≡◌, ◌⊎◌, inl, inr, ℕ, ◌+◌, ℤ, true, false, List, [], ◌∷◌, ◌++◌, sym, ap, ap₂, subst, refl, ◌∙◌}
use Rattle.std.specs.Prelude.{All}
use Rattle.std.proofs.lemmas.List.Elements.{All-weaker}
use Rattle.lang_base.specs.declared.kind.Kind.{Kind}
use Rattle.lang_base.specs.declared.value.Value.{Value}
use Rattle.lang_monitor.specs.declared.candidate.Candidate.{Candidate}
use Rattle.lang_monitor.specs.declared.monitor.Field.{Field}
use Rattle.lang_monitor.specs.declared.monitor.Block.{Block}
use Rattle.lang_monitor.specs.declared.monitor.Condition.{Condition}
use Rattle.lang_monitor.specs.declared.start.Origin.{Origin}
use Rattle.lang_monitor.specs.declared.start.Origin.TheVariants as origins
use Rattle.lang_monitor.specs.Bodies.{Inputs, after, number_of_value}
use Rattle.lang_monitor.specs.Candidates.{candidates_of, field_candidates, int_fields, int_number, kind_candidates, own_numbers, pair_candidates}
use Rattle.lang_monitor.specs.MonitorParts.{MonitorParts, IsMonitor, AreOfKinds, opened_with}
use Rattle.lang_monitor.specs.Queries.{none_needed_query, one_enough_query}
use Rattle.lang_monitor.specs.Starts.{AreStarts, IsStart, MayStart, started}
use Rattle.lang_monitor.specs.Triples.{NoneNeeded, OneEnough}
use Rattle.lang_monitor.proofs.Openings.{opened_inductive, opened_monitor, query_stays, started_kinds}
use Rattle.machine_implicit.specs.declared.script.Call.{Call}
use Rattle.machine_implicit.specs.declared.script.Client.{Client}
use Rattle.machine_implicit.specs.Scripted.{FitsCall}
use Rattle.machine_events.specs.declared.plan.Note.{Note}
use Rattle.machine_events.specs.declared.plan.Plan.{Plan}
use Rattle.machine_events.specs.Configurations.{System}
use Rattle.machine_events.specs.Counts.{IsCounted, IsLawfulByCounting, IsPassedOn, LeavesCounted, Measure, is_free}
use Rattle.machine_events.specs.Laws.{opened_system}
use Rattle.machine_events.specs.Pending.{IsSystem}
use Rattle.machine_events.specs.Plans.{AreSomeOf, FitsNotes, FitsPlan, IsCondition, IsLawful, has_broadcast, notes_at}
use Rattle.machine_events.specs.Running.{MayRun}

-- ---- candidates

own_stay : (all : List Value) (own : Value) (origin : Origin) (value : Value) → MayStart all own origin value → own_numbers value origin ≡ own_numbers own origin
own_stay all own origins.Own value may = ap (λ (one : Value). number_of_value one ∷ []) may
own_stay all own (origins.Chosen limit) value may = refl
own_stay all own (origins.Copied parameter) value may = refl

fields_stay : (all : List Value) (blocks : List Block) (number : ℕ) (fields : List Field) (start : List Value) → AreStarts all fields start
    → field_candidates blocks number (started fields start) ≡ field_candidates blocks number fields
fields_stay all blocks number [] start are = refl
fields_stay all blocks number (field ∷ fields) [] are = absurd are
fields_stay all blocks number (field ∷ fields) (value ∷ more) are =
    ap₂ (λ (here rest : List Candidate). here ++ rest)
    (ap (λ (own : List ℤ). kind_candidates blocks number own field.kind) (own_stay all field.start field.origin value are.0))
    (fields_stay all blocks (number + 1) fields more are.1)

ints_stay : (number : ℕ) (fields : List Field) (start : List Value) → int_fields number (started fields start) ≡ int_fields number fields
ints_stay number [] start = refl
ints_stay number (field ∷ fields) [] = refl
ints_stay number (field ∷ fields) (value ∷ more) = ap (λ (rest : List ℕ). int_number number field.kind ++ rest) (ints_stay (number + 1) fields more)

pub candidates_stay : (monitor : MonitorParts) (start : List Value) → IsStart monitor.fields start → candidates_of (opened_with monitor start) ≡ candidates_of monitor
candidates_stay monitor start is =
    ap₂ (λ (here rest : List Candidate). here ++ rest) (fields_stay start monitor.blocks 0 monitor.fields start is) (ap pair_candidates (ints_stay 0 monitor.fields start))

-- ---- plans that fit

notes_stay : (monitor : MonitorParts) (start : List Value) (notes : List Note) → FitsNotes monitor notes → FitsNotes (opened_with monitor start) notes
notes_stay monitor start notes fits = record { rising = fits.rising; each = fits.each }

pub plan_stays : (monitor : MonitorParts) (plan : Plan) (start : List Value) → IsStart monitor.fields start → FitsPlan monitor plan → FitsPlan (opened_with monitor start) plan
plan_stays monitor plan start is fits = record {
  kept = subst (AreSomeOf plan.kept) (sym (candidates_stay monitor start is)) fits.kept;
  kinds = fits.kinds;
  notes = fits.notes;
  each = All-weaker (FitsNotes monitor) (FitsNotes (opened_with monitor start)) (notes_stay monitor start) plan.notes fits.each;
}

-- ---- lawful plans

condition_before : (monitor : MonitorParts) (start : List Value) (number : ℕ) (condition : Condition) → IsCondition (opened_with monitor start) number condition → IsCondition monitor number condition
condition_before monitor start number condition is = record { numbered = is.numbered; there = is.there }

none_needed_stays : (monitor : MonitorParts) (start : List Value) (kept : List Candidate) (block condition : ℕ) → NoneNeeded monitor kept block condition → NoneNeeded (opened_with monitor start) kept block condition
none_needed_stays monitor start kept block condition = query_stays monitor start (none_needed_query monitor kept block condition)

one_enough_stays : (monitor : MonitorParts) (start : List Value) (kept : List Candidate) (condition block : ℕ) → OneEnough monitor kept condition block → OneEnough (opened_with monitor start) kept condition block
one_enough_stays monitor start kept condition block = query_stays monitor start (one_enough_query monitor kept condition block)

left_stays : {A B C : Type 0} → (A → B) → A ⊎ C → B ⊎ C
left_stays change (inl a) = inl (change a)
left_stays change (inr c) = inr c

pub lawful_stays : (monitor : MonitorParts) (plan : Plan) (start : List Value) → IsStart monitor.fields start → IsLawful monitor plan → IsLawful (opened_with monitor start) plan
lawful_stays monitor plan start is lawful = record {
  inductive = opened_inductive monitor start plan.kept is lawful.inductive;
  noted = λ block condition within first last none. none_needed_stays monitor start plan.kept block condition (lawful.noted block condition within first last none);
  reading = λ number condition there reads. lawful.reading number condition (condition_before monitor start number condition there) reads;
  broadcasts = lawful.broadcasts;
  signals = λ number block there first kind. left_stays (one_enough_stays monitor start plan.kept block.condition number) (lawful.signals number block there first kind);
}

-- ---- plans that are lawful by counting

-- a block may run in the opened monitor only where it may in the monitor
pub may_before : (monitor : MonitorParts) (start : List Value) (kept : List Candidate) (number : ℕ) (block : Block) (inputs : Inputs) (state : List Value) → IsMonitor monitor → IsStart monitor.fields start
    → MayRun (opened_with monitor start) kept number block inputs state → MayRun monitor kept number block inputs state
may_before monitor start kept number block inputs state rule is may = record {
  rule = rule;
  candidates = subst (AreSomeOf kept) (candidates_stay monitor start is) may.candidates;
  is = may.is;
  fits = subst (λ (some : List Kind). AreOfKinds some state) (started_kinds monitor.fields start) may.fits;
  inputs_fit = record { arguments = may.inputs_fit.arguments; locals = may.inputs_fit.locals };
  guard = may.guard;
  kept_hold = may.kept_hold;
}

leaves_stay : (monitor : MonitorParts) (start : List Value) (plan : Plan) (measure : Measure) (condition number : ℕ) (block : Block) (state next : List Value)
    → LeavesCounted monitor plan measure condition number block state next → LeavesCounted (opened_with monitor start) plan measure condition number block state next
leaves_stay monitor start plan measure condition number block state next leaves = record { bounded = leaves.bounded; many = leaves.many }

counted_stays : (monitor : MonitorParts) (plan : Plan) (start : List Value) (condition : ℕ) (measure : Measure) → IsMonitor monitor → IsStart monitor.fields start
    → IsCounted monitor plan condition measure → IsCounted (opened_with monitor start) plan condition measure
counted_stays monitor plan start condition measure rule is counted = λ number block there. by_note number block (counted number block there)
  where
    by_note : (number : ℕ) (block : Block)
        → (has_broadcast (notes_at plan number) condition ≡ true)
        ⊎ ((inputs : Inputs) (state : List Value) → MayRun monitor plan.kept number block inputs state → is_free monitor measure state condition ≡ false
        → LeavesCounted monitor plan measure condition number block state (after inputs block.body state).state)
        → (has_broadcast (notes_at plan number) condition ≡ true)
        ⊎ ((inputs : Inputs) (state : List Value) → MayRun (opened_with monitor start) plan.kept number block inputs state → is_free (opened_with monitor start) measure state condition ≡ false
        → LeavesCounted (opened_with monitor start) plan measure condition number block state (after inputs block.body state).state)
    by_note number block (inl has) = inl has
    by_note number block (inr leaves) = inr (λ inputs state may free.
        leaves_stay monitor start plan measure condition number block state (after inputs block.body state).state
        (leaves inputs state (may_before monitor start plan.kept number block inputs state rule is may) free))

passed_stays : (monitor : MonitorParts) (plan : Plan) (start : List Value) (condition : ℕ) → IsPassedOn monitor plan condition → IsPassedOn (opened_with monitor start) plan condition
passed_stays monitor plan start condition passed = λ number block there same. left_stays (one_enough_stays monitor start plan.kept condition number) (passed number block there same)

abbrev Signals : MonitorParts → Plan → ℕ → Type 0
Signals monitor plan number = IsPassedOn monitor plan number ⊎ ((measure : Measure) × IsCounted monitor plan number measure)

signals_stay : (monitor : MonitorParts) (plan : Plan) (start : List Value) (number : ℕ) → IsMonitor monitor → IsStart monitor.fields start → Signals monitor plan number → Signals (opened_with monitor start) plan number
signals_stay monitor plan start number rule is (inl passed) = inl (passed_stays monitor plan start number passed)
signals_stay monitor plan start number rule is (inr counted) = inr (counted.0, counted_stays monitor plan start number counted.0 rule is counted.1)

pub counting_stays : (monitor : MonitorParts) (plan : Plan) (start : List Value) → IsMonitor monitor → IsStart monitor.fields start → IsLawfulByCounting monitor plan → IsLawfulByCounting (opened_with monitor start) plan
counting_stays monitor plan start rule is lawful = record {
  inductive = opened_inductive monitor start plan.kept is lawful.inductive;
  noted = λ block condition within first last none. none_needed_stays monitor start plan.kept block condition (lawful.noted block condition within first last none);
  reading = λ number condition there reads. lawful.reading number condition (condition_before monitor start number condition there) reads;
  broadcasts = lawful.broadcasts;
  signals = λ number condition there kind. signals_stay monitor plan start number rule is (lawful.signals number condition (condition_before monitor start number condition there) kind);
}

-- ---- systems

call_stays : (monitor : MonitorParts) (start : List Value) (call : Call) → FitsCall monitor call → FitsCall (opened_with monitor start) call
call_stays monitor start call fits = record { method = fits.method; inputs = fits.inputs; tries = fits.tries }

abbrev FitsCalls : MonitorParts → Client → Type 0
FitsCalls monitor client = All (FitsCall monitor) client.calls

pub system_stays : (system : System) (start : List Value) → IsStart system.monitor.fields start → IsSystem system → IsSystem (opened_system system start)
system_stays system start is known = record {
  rule = opened_monitor system.monitor start known.rule is;
  scripts = All-weaker (FitsCalls system.monitor) (FitsCalls (opened_with system.monitor start))
      (λ client. All-weaker (FitsCall system.monitor) (FitsCall (opened_with system.monitor start)) (call_stays system.monitor start) client.calls) system.clients known.scripts;
  plan = plan_stays system.monitor system.plan start is known.plan;
}
