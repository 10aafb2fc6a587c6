-- A monitor that is opened with some values.
use Rattle.std.proofs.Common.{◌≡◌, ◌≢◌, ℕ, zero, suc, ◌+◌, ◌<◌, List, [], ◌∷◌, ◌++◌, length, map, take, slice_index_or, slice_set, refl, sym, ap, subst, ◌∙◌, arith}
use Rattle.std.specs.Prelude.{Some, None, Option, slice_get, IsSomeAnd}
use Rattle.std.specs.List.{All, AllPairs}
use Rattle.std.proofs.lemmas.List.Elements.{All-nil, All-cons, All-head, All-tail}
use Rattle.lang_base.specs.Identifiers.{IsIdentifier}
use Rattle.lang_base.specs.declared.kind.Kind.{Kind}
use Rattle.lang_base.specs.declared.kind.Kind.TheVariants as kinds
use Rattle.lang_base.specs.declared.value.Value.{Value}
use Rattle.lang_base.specs.declared.value.Value.TheVariants as values
use Rattle.logic_linear.specs.declared.formula.Formula.TheVariants as formulas
use Rattle.lang_monitor.specs.declared.monitor.Field.{Field}
use Rattle.lang_monitor.specs.declared.monitor.Method.{Method}
use Rattle.lang_monitor.specs.declared.monitor.Block.{Block}
use Rattle.lang_monitor.specs.declared.candidate.Candidate.{Candidate}
use Rattle.lang_monitor.specs.declared.query.Query.{Query}
use Rattle.lang_monitor.specs.declared.start.Origin.{Origin}
use Rattle.lang_monitor.specs.declared.start.Origin.TheVariants as origins
use Rattle.lang_monitor.specs.Starts.{AreStarts, IsStart, MayStart, started}
use Rattle.lang_monitor.specs.MonitorParts.{MonitorParts, IsBlockOf, IsChosen, IsMethod, IsMonitor, IsOfKind, HasOrigin, Places, fits_block, kinds_of, method_places, names_of, opened_with, start_of}
use Rattle.lang_monitor.specs.Bodies.{IsValid}
use Rattle.lang_monitor.specs.Queries.{keeps_query}
use Rattle.lang_monitor.specs.Triples.{HoldAtStart, IsInductive, IsValidQuery}

-- ---- what stays

pub started_kinds : (fields : List Field) (start : List Value) → kinds_of (started fields start) ≡ kinds_of fields
started_kinds [] start = refl
started_kinds (field ∷ fields) [] = refl
started_kinds (field ∷ fields) (value ∷ more) = ap (λ (rest : List Kind). field.kind ∷ rest) (started_kinds fields more)

started_names : (fields : List Field) (start : List Value) → map (λ field. field.name) (started fields start) ≡ map (λ field. field.name) fields
started_names [] start = refl
started_names (field ∷ fields) [] = refl
started_names (field ∷ fields) (value ∷ more) = ap (λ (rest : List (List ℕ)). field.name ∷ rest) (started_names fields more)

pub started_length : (fields : List Field) (start : List Value) → length (started fields start) ≡ length fields
started_length [] start = refl
started_length (field ∷ fields) [] = refl
started_length (field ∷ fields) (value ∷ more) = ap suc (started_length fields more)

-- ---- one field after the other

pub started_none : (fields : List Field) → started fields [] ≡ fields
started_none [] = refl
started_none (field ∷ fields) = refl

take_none : {X : Type 0} (xs : List X) → take 0 xs ≡ []
take_none [] = refl
take_none (x ∷ xs) = refl

abbrev beginning : Field → Value → Field
beginning field value = record { name = field.name; kind = field.kind; start = value; origin = field.origin }

begun_at : (fields : List Field) (start : List Value) (place : ℕ) (d : Value) (x : Field) → place < length fields → place < length start
    → slice_set (started fields (take place start)) place (beginning (slice_index_or (started fields (take place start)) place x) (slice_index_or start place d)) ≡ started fields (take (suc place) start)
begun_at [] start place d x within low = absurd (omega (arith, within))
begun_at (field ∷ fields) [] place d x within low = absurd (omega (arith, low))
begun_at (field ∷ fields) (value ∷ more) zero d x within low =
    ap (λ (rest : List Field). beginning field value ∷ rest) (sym (ap (started fields) (take_none more) ∙ started_none fields))
begun_at (field ∷ fields) (value ∷ more) (suc place) d x within low =
    ap (λ (rest : List Field). beginning field value ∷ rest) (begun_at fields more place d x (omega (arith, within)) (omega (arith, low)))

-- with the values before a place, and then with the one that stands there, too
pub one_more_begun : (fields now : List Field) (start : List Value) (place : ℕ) (d : Value) (x : Field) → now ≡ started fields (take place start) → place < length fields → length fields ≡ length start
    → slice_set now place (beginning (slice_index_or now place x) (slice_index_or start place d)) ≡ started fields (take (place + 1) start)
one_more_begun fields now start place d x is within same =
    let next : suc place ≡ place + 1 = omega arith in
    ap (λ (some : List Field). slice_set some place (beginning (slice_index_or some place x) (slice_index_or start place d))) is
    ∙ begun_at fields start place d x within (omega (arith, within, same))
    ∙ ap (λ (many : ℕ). started fields (take many start)) next

pub starts_length : (all : List Value) (fields : List Field) (start : List Value) → AreStarts all fields start → length fields ≡ length start
starts_length all [] [] are = refl
starts_length all [] (value ∷ more) are = absurd are
starts_length all (field ∷ fields) [] are = absurd are
starts_length all (field ∷ fields) (value ∷ more) are = ap suc (starts_length all fields more are.1)

-- ---- what they start with

pub started_start : (all : List Value) (fields : List Field) (start : List Value) → AreStarts all fields start → map (λ field. field.start) (started fields start) ≡ start
started_start all [] [] are = refl
started_start all [] (value ∷ more) are = absurd are
started_start all (field ∷ fields) [] are = absurd are
started_start all (field ∷ fields) (value ∷ more) are = ap (λ (rest : List Value). value ∷ rest) (started_start all fields more are.1)

may_again : (all : List Value) (own : Value) (origin : Origin) (value : Value) → MayStart all own origin value → MayStart all value origin value
may_again all own origins.Own value may = refl
may_again all own (origins.Chosen limit) (values.Int number) may = may
may_again all own (origins.Chosen limit) (values.Bool truth) may = absurd may
may_again all own (origins.Copied parameter) value may = may

starts_again : (all : List Value) (fields : List Field) (start : List Value) → AreStarts all fields start → AreStarts all (started fields start) start
starts_again all [] [] are = tt
starts_again all [] (value ∷ more) are = absurd are
starts_again all (field ∷ fields) [] are = absurd are
starts_again all (field ∷ fields) (value ∷ more) are = (may_again all field.start field.origin value are.0, starts_again all fields more are.1)

-- what the opened monitor may be opened with, the monitor may be
may_before : (all others : List Value) (own : Value) (origin : Origin) (value other : Value) → MayStart all own origin value → MayStart others value origin other → MayStart others own origin other
may_before all others own origins.Own value other may after = after ∙ may
may_before all others own (origins.Chosen limit) value (values.Int number) may after = after
may_before all others own (origins.Chosen limit) value (values.Bool truth) may after = absurd after
may_before all others own (origins.Copied parameter) value other may after = after

starts_before : (all others : List Value) (fields : List Field) (start next : List Value) → AreStarts all fields start → AreStarts others (started fields start) next → AreStarts others fields next
starts_before all others [] start [] are after = tt
starts_before all others [] start (other ∷ next) are after = absurd after
starts_before all others (field ∷ fields) [] next are after = absurd are
starts_before all others (field ∷ fields) (value ∷ more) [] are after = absurd after
starts_before all others (field ∷ fields) (value ∷ more) (other ∷ next) are after =
    (may_before all others field.start field.origin value other are.0 after.0, starts_before all others fields more next are.1 after.1)

-- ---- kinds

chosen_int : (all : List Value) (own : Value) (origin : Origin) (value : Value) → IsChosen origin → MayStart all own origin value → IsOfKind kinds.Int value
chosen_int all own origins.Own value chosen may = absurd chosen
chosen_int all own (origins.Chosen limit) (values.Int number) chosen may = tt
chosen_int all own (origins.Chosen limit) (values.Bool truth) chosen may = absurd may
chosen_int all own (origins.Copied parameter) value chosen may = absurd chosen

parameter_int : (all : List Value) (fields : List Field) (start : List Value) (place : ℕ) → AreStarts all fields start → IsSomeAnd (slice_get fields place) (λ source. IsChosen source.origin)
    → IsSomeAnd (slice_get start place) (IsOfKind kinds.Int)
parameter_int all [] start place are chosen = absurd chosen
parameter_int all (field ∷ fields) [] place are chosen = absurd are
parameter_int all (field ∷ fields) (value ∷ more) zero are chosen = chosen_int all field.start field.origin value chosen are.0
parameter_int all (field ∷ fields) (value ∷ more) (suc place) are chosen = parameter_int all fields more place are.1 chosen

kind_stays : (fields : List Field) (start : List Value) (kind : Kind) (own : Value) (origin : Origin) (value : Value) → IsStart fields start → IsOfKind kind own → HasOrigin fields kind origin
    → MayStart start own origin value → IsOfKind kind value
kind_stays fields start kind own origins.Own value is of has may = subst (IsOfKind kind) (sym may) of
kind_stays fields start kind own (origins.Chosen limit) value is of has may = subst (λ (one : Kind). IsOfKind one value) (sym has.0) (chosen_int start own (origins.Chosen limit) value tt may)
kind_stays fields start kind own (origins.Copied parameter) value is of has may =
    subst (λ (one : Kind). IsOfKind one value) (sym has.0) (subst (λ (found : Option Value). IsSomeAnd found (IsOfKind kinds.Int)) may (parameter_int start fields start parameter is has.1))

abbrev StartsOfKind : Field → Type 0
StartsOfKind field = IsOfKind field.kind field.start

abbrev HasItsOrigin : List Field → Field → Type 0
HasItsOrigin all field = HasOrigin all field.kind field.origin

kinds_stay : (all : List Field) (begun : List Value) (fields : List Field) (start : List Value) → IsStart all begun → All StartsOfKind fields → All (HasItsOrigin all) fields
    → AreStarts begun fields start → All StartsOfKind (started fields start)
kinds_stay all begun [] start is of has are = of
kinds_stay all begun (field ∷ fields) [] is of has are = absurd are
kinds_stay all begun (field ∷ fields) (value ∷ more) is of has are =
    All-cons StartsOfKind _ (started fields more)
    (kind_stays all begun field.kind field.start field.origin value is (All-head StartsOfKind field fields of) (All-head (HasItsOrigin all) field fields has) are.0)
    (kinds_stay all begun fields more is (All-tail StartsOfKind field fields of) (All-tail (HasItsOrigin all) field fields has) are.1)

-- ---- origins

chosen_stays : (fields : List Field) (start : List Value) (place : ℕ) → IsSomeAnd (slice_get fields place) (λ source. IsChosen source.origin)
    → IsSomeAnd (slice_get (started fields start) place) (λ source. IsChosen source.origin)
chosen_stays [] start place chosen = absurd chosen
chosen_stays (field ∷ fields) [] place chosen = chosen
chosen_stays (field ∷ fields) (value ∷ more) zero chosen = chosen
chosen_stays (field ∷ fields) (value ∷ more) (suc place) chosen = chosen_stays fields more place chosen

origin_stays : (all : List Field) (begun : List Value) (kind : Kind) (origin : Origin) → HasOrigin all kind origin → HasOrigin (started all begun) kind origin
origin_stays all begun kind origins.Own has = tt
origin_stays all begun kind (origins.Chosen limit) has = has
origin_stays all begun kind (origins.Copied parameter) has = (has.0, chosen_stays all begun parameter has.1)

origins_stay : (all : List Field) (begun : List Value) (fields : List Field) (start : List Value) → All (HasItsOrigin all) fields → All (HasItsOrigin (started all begun)) (started fields start)
origins_stay all begun [] start has = All-nil (HasItsOrigin (started all begun))
origins_stay all begun (field ∷ fields) [] has = λ k d low. origin_stays all begun _ _ (has k d low)
origins_stay all begun (field ∷ fields) (value ∷ more) has =
    All-cons (HasItsOrigin (started all begun)) _ (started fields more)
    (origin_stays all begun field.kind field.origin (All-head (HasItsOrigin all) field fields has))
    (origins_stay all begun fields more (All-tail (HasItsOrigin all) field fields has))

-- ---- the monitor

places_stay : (monitor : MonitorParts) (start : List Value) (number : ℕ) → method_places (opened_with monitor start) number ≡ method_places monitor number
places_stay monitor start number =
    ap (λ (fields : List Kind). record { fields = fields; inputs = (method_places monitor number).inputs; locals = (method_places monitor number).locals }) (started_kinds monitor.fields start)

some_and : {X : Type 0} (P Q : X → Type 0) (found : Option X) → ((x : X) → P x → Q x) → IsSomeAnd found P → IsSomeAnd found Q
some_and P Q None each is = absurd is
some_and P Q (Some x) each is = each x is

block_stays : (monitor : MonitorParts) (start : List Value) (number place : ℕ) (method : Method) (block : Block) → IsBlockOf monitor number place method block
    → IsBlockOf (opened_with monitor start) number place method block
block_stays monitor start number place method block is = record {
  of = is.of;
  fits = ap (λ (places : Places). fits_block places block) (places_stay monitor start number) ∙ is.fits;
  answers = is.answers;
  waits = is.waits;
}

method_stays : (monitor : MonitorParts) (start : List Value) (number : ℕ) (method : Method) → IsMethod monitor number method → IsMethod (opened_with monitor start) number method
method_stays monitor start number method is = record {
  few_inputs = is.few_inputs;
  few_locals = is.few_locals;
  some = is.some;
  few = is.few;
  alone = is.alone;
  blocks = λ place low.
      some_and (IsBlockOf monitor number place method) (IsBlockOf (opened_with monitor start) number place method) (slice_get monitor.blocks (method.first + place))
      (block_stays monitor start number place method) (is.blocks place low);
}

names_stay : (monitor : MonitorParts) (start : List Value) → names_of (opened_with monitor start) ≡ names_of monitor
names_stay monitor start = ap (λ (some : List (List ℕ)). some ++ map (λ method. method.name) monitor.methods) (started_names monitor.fields start)

pub opened_monitor : (monitor : MonitorParts) (start : List Value) → IsMonitor monitor → IsStart monitor.fields start → IsMonitor (opened_with monitor start)
opened_monitor monitor start rule is = record {
  few_fields = let same = started_length monitor.fields start in let few = rule.few_fields in rw same few;
  few_methods = rule.few_methods;
  few_blocks = rule.few_blocks;
  few_conditions = rule.few_conditions;
  name = rule.name;
  names = subst (All IsIdentifier) (sym (names_stay monitor start)) rule.names;
  distinct = subst (AllPairs (λ (name other : List ℕ). name ≢ other)) (sym (names_stay monitor start)) rule.distinct;
  starts = kinds_stay monitor.fields start monitor.fields start is rule.starts rule.origins is;
  origins = origins_stay monitor.fields start monitor.fields start rule.origins;
  opens = subst (IsStart (started monitor.fields start)) (sym (started_start start monitor.fields start is)) (starts_again start monitor.fields start is);
  methods = λ number method there. method_stays monitor start number method (rule.methods number method there);
  in_turn = rule.in_turn;
  owned = rule.owned;
  conditions = rule.conditions;
  described = rule.described;
  different = rule.different;
  in_order = rule.in_order;
}

pub opened_start : (monitor : MonitorParts) (start : List Value) → IsStart monitor.fields start → start_of (opened_with monitor start) ≡ start
opened_start monitor start is = started_start start monitor.fields start is

-- ---- inductive lists

pub query_stays : (monitor : MonitorParts) (start : List Value) (query : Query) → IsValidQuery monitor query → IsValidQuery (opened_with monitor start) query
query_stays monitor start query valid =
    some_and (λ block. IsValid (method_places monitor block.method) (formulas.All query.hyps) block.body query.post)
    (λ block. IsValid (method_places (opened_with monitor start) block.method) (formulas.All query.hyps) block.body query.post) (slice_get monitor.blocks query.block)
    (λ block is. subst (λ (places : Places). IsValid places (formulas.All query.hyps) block.body query.post) (sym (places_stay monitor start block.method)) is) valid

pub starts_hold : (monitor : MonitorParts) (start : List Value) (kept : List Candidate) → IsStart monitor.fields start → HoldAtStart monitor kept → HoldAtStart (opened_with monitor start) kept
starts_hold monitor start kept is held next after = held next (starts_before start next monitor.fields start next is after)

pub opened_inductive : (monitor : MonitorParts) (start : List Value) (kept : List Candidate) → IsStart monitor.fields start → IsInductive monitor kept → IsInductive (opened_with monitor start) kept
opened_inductive monitor start kept is inductive = record {
  starts = starts_hold monitor start kept is inductive.starts;
  keeps = λ block low k d within. query_stays monitor start (keeps_query monitor kept _ block) (inductive.keeps block low k d within);
}
