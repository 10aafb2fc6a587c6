-- What statements do to a memory is what they do to the names of its scope.
use Rattle.std.proofs.Common.{◌≡◌, ◌≢◌, ℕ, zero, suc, ◌+◌, ◌-◌, ◌<◌, ◌≤◌, pos, Bool, true, false, List, [], ◌∷◌, ◌++◌, length, map, get_or, Option, Some, None, unwrap_or, refl, sym, ap, subst, ◌∙◌, arith, inl, inr, get_or-set_other, get_or-set_same}
use Rattle.std.specs.Prelude.{nat_lt, slice_get, slice_set, if◌then◌else◌}
use Rattle.std.specs.List.{flat_map}
use Rattle.std.specs.Option.{option_map}
use Rattle.std.specs.Str.{bytes_eq}
use Rattle.std.proofs.lemmas.Bool.Decides.{nat_tests}
use Rattle.std.proofs.lemmas.Option.{slice_get_within, unwrap_or-slice_get}
use Rattle.lang_tree.specs.declared.tree.Expr.{Expr}
use Rattle.lang_tree.specs.declared.tree.StmtTree.{StmtTree, roll-StmtTree, out-StmtTree, roll-out-StmtTree}
use Rattle.lang_tree.specs.declared.tree.StmtTree.TheOpen.{StmtTree-F, Set, If, Return}
use Rattle.lang_tree.specs.declared.tree.StmtTree.TheFolds.{fold-roll-StmtTree, map-StmtTree, ind-StmtTree}
use Rattle.logic_linear.specs.declared.substitution.Put.{Put}
use Rattle.logic_linear.specs.declared.substitution.Put.TheVariants as puts
use Rattle.logic_linear.specs.declared.formula.Formula.{Formula}
use Rattle.logic_linear.specs.Truth.{value_of, truth_of}
use Rattle.lang_base.specs.declared.kind.Kind.{Kind}
use Rattle.lang_base.specs.declared.kind.Kind.TheVariants as kinds
use Rattle.lang_base.specs.declared.value.Value.{Value}
use Rattle.lang_base.specs.declared.value.Value.TheVariants as values
use Rattle.lang_base.specs.declared.source_fault.SourceFault.{SourceFault}
use Rattle.lang_forms.specs.declared.scope.Meaning.{Meaning}
use Rattle.lang_forms.specs.declared.scope.Meaning.TheVariants as meanings
use Rattle.lang_forms.specs.declared.scope.Entry.{Entry}
use Rattle.lang_forms.specs.Scope.{entry_named}
use Rattle.lang_forms.specs.Forms.{linear_of}
use Rattle.lang_forms.specs.Sense.{sense, entry_kind, is_other, meaning_kind, wrong_type}
use Rattle.lang_forms.specs.Plain.{Plain, number, truth, truth_in, meaning_value, entry_value}
use Rattle.lang_forms.proofs.FineParts.{or_else_none}
use Rattle.lang_forms.proofs.SenseValues.{ints_keep_meaning, bools_keep_meaning}
use Rattle.lang_rules.specs.Rules.{Finding, early_returns, expected, finding, finding_step, misplaced, target_faults}
use Rattle.lang_monitor.specs.declared.monitor.Stmt.{Stmt}
use Rattle.lang_monitor.specs.declared.monitor.Stmt.TheVariants as statements
use Rattle.lang_monitor.specs.declared.monitor.Ret.{Ret}
use Rattle.lang_monitor.specs.MonitorParts.{AreOfKinds, IsOfKind}
use Rattle.lang_monitor.specs.Bodies.{Memory, body_effect, effect_of, number_of_value, on_memory, reading, result_value, target_of, truth_of_value, value_at, value_of_put, with_value}
use Rattle.lang_monitor.specs.Statements.{Effect}
use Rattle.lang_monitor.proofs.Statements.{if_effect, put_effect}
use Rattle.lang_types.specs.Typed.{assignment, result_layer, result_of, result_of_kind, set_of, statement_of, statement_of_step}
use Rattle.lang_types.specs.PlainRuns.{Environment, PlainState, reassigned, expression_value, one_by_one, plain_of, run_step, statement_run}
use Rattle.lang_types.proofs.FineTrees.{append_none, no_fault, no_places}
use Rattle.lang_types.proofs.NamedPlaces.{AreApart, AreTargets, FoundMisses, FoundTarget, HasPlace, IsStored, Misses, OfField, OfLocal, TargetPlace, Variables, found, found_target, named_is_found, others_miss, same_name}
use Rattle.lang_types.proofs.PlainExpressions.{ReadsAlike, bool_value, has_kind, int_value, value_alike}

-- ---- memories with a value replaced

-- what stands at a place, where the arguments are these
abbrev pub stands_at : List Value → Memory → ℕ → Value
stands_at arguments memory place = value_at memory.state (record { arguments = arguments; locals = memory.locals }) place

-- what statements make of a memory
abbrev pub run_in : List Value → List Stmt → Memory → Memory
run_in arguments body memory = (body_effect arguments body).next memory

abbrev no_value : Value
no_value = values.Int (pos 0)

pub field_value : (arguments : List Value) (memory : Memory) (place : ℕ) → place < 16 → stands_at arguments memory place ≡ get_or memory.state place no_value
field_value arguments memory place low =
    let test : nat_lt place 16 ≡ true = grind (arith, nat_tests) in
    ap (λ (b : Bool). unwrap_or (if b then slice_get memory.state place else if nat_lt place 22 then slice_get arguments (place - 16) else slice_get memory.locals (place - 22)) no_value) test
    ∙ unwrap_or-slice_get memory.state place no_value

pub local_value : (arguments : List Value) (memory : Memory) (place own : ℕ) → place ≡ 22 + own → stands_at arguments memory place ≡ get_or memory.locals own no_value
local_value arguments memory place own at =
    let low : nat_lt place 16 ≡ false = grind (arith, nat_tests) in
    let high : nat_lt place 22 ≡ false = grind (arith, nat_tests) in
    let index : place - 22 ≡ own = omega arith in
    ap (λ (b : Bool). unwrap_or (if b then slice_get memory.state place else if nat_lt place 22 then slice_get arguments (place - 16) else slice_get memory.locals (place - 22)) no_value) low
    ∙ ap (λ (b : Bool). unwrap_or (if b then slice_get arguments (place - 16) else slice_get memory.locals (place - 22)) no_value) high
    ∙ ap (λ (n : ℕ). unwrap_or (slice_get memory.locals n) no_value) index
    ∙ unwrap_or-slice_get memory.locals own no_value

other_field : (state locals arguments : List Value) (place other : ℕ) (value : Value) (test : Bool) → other ≢ place
    → unwrap_or (if test then slice_get (slice_set state place value) other else if nat_lt other 22 then slice_get arguments (other - 16) else slice_get locals (other - 22)) no_value
    ≡ unwrap_or (if test then slice_get state other else if nat_lt other 22 then slice_get arguments (other - 16) else slice_get locals (other - 22)) no_value
other_field state locals arguments place other value true differ =
    unwrap_or-slice_get (slice_set state place value) other no_value ∙ get_or-set_other state place other value no_value differ
    ∙ sym (unwrap_or-slice_get state other no_value)
other_field state locals arguments place other value false differ = refl

-- a place from 22 on, or one before
other_own : (locals arguments : List Value) (own other : ℕ) (value : Value) (test : Bool) → nat_lt other 22 ≡ test → other ≢ 22 + own
    → unwrap_or (if test then slice_get arguments (other - 16) else slice_get (slice_set locals own value) (other - 22)) no_value
    ≡ unwrap_or (if test then slice_get arguments (other - 16) else slice_get locals (other - 22)) no_value
other_own locals arguments own other value true high differ = refl
other_own locals arguments own other value false high differ =
    let far : 22 ≤ other = grind (arith, nat_tests) in
    let apart : other - 22 ≢ own = λ same. differ (omega arith) in
    unwrap_or-slice_get (slice_set locals own value) (other - 22) no_value ∙ get_or-set_other locals own (other - 22) value no_value apart
    ∙ sym (unwrap_or-slice_get locals (other - 22) no_value)

other_local : (state locals arguments : List Value) (own other : ℕ) (value : Value) (test : Bool) → other ≢ 22 + own
    → unwrap_or (if test then slice_get state other else if nat_lt other 22 then slice_get arguments (other - 16) else slice_get (slice_set locals own value) (other - 22)) no_value
    ≡ unwrap_or (if test then slice_get state other else if nat_lt other 22 then slice_get arguments (other - 16) else slice_get locals (other - 22)) no_value
other_local state locals arguments own other value true differ = refl
other_local state locals arguments own other value false differ = other_own locals arguments own other value (nat_lt other 22) refl differ

set_keeps : (kinds : List Kind) (list : List Value) (place : ℕ) (kind : Kind) (value : Value) → AreOfKinds kinds list → slice_get kinds place ≡ Some kind → IsOfKind kind value
    → AreOfKinds kinds (slice_set list place value)
set_keeps [] [] place kind value fit is own = tt
set_keeps [] (first ∷ list) place kind value fit is own = absurd fit
set_keeps (one ∷ kinds) [] place kind value fit is own = absurd fit
set_keeps (one ∷ kinds) (first ∷ list) zero kind value fit is own = let same : kind ≡ one = cc in (subst (λ (x : Kind). IsOfKind x value) same own, fit.1)
set_keeps (one ∷ kinds) (first ∷ list) (suc place) kind value fit is own = (fit.0, set_keeps kinds list place kind value fit.1 is own)

pub as_long : (kinds : List Kind) (list : List Value) → AreOfKinds kinds list → length list ≡ length kinds
as_long [] [] fit = refl
as_long [] (first ∷ list) fit = absurd fit
as_long (one ∷ kinds) [] fit = absurd fit
as_long (one ∷ kinds) (first ∷ list) fit = let rest = as_long kinds list fit.1 in omega arith

within_list : (kinds : List Kind) (list : List Value) (place : ℕ) (kind : Kind) → AreOfKinds kinds list → slice_get kinds place ≡ Some kind → place < length list
within_list kinds list place kind fit is = let long = as_long kinds list fit in let within = slice_get_within kinds place kind is in omega arith

-- the values of the fields and the locals are of their kinds
pub record AreStored (variables : Variables) (memory : Memory) : Type 0 where
  pub fields : AreOfKinds variables.fields memory.state
  pub locals : AreOfKinds variables.locals memory.locals

-- the value stands at the place, all else is as before, and the kinds stay
record IsWritten (variables : Variables) (arguments : List Value) (memory next : Memory) (place : ℕ) (value : Value) : Type 0 where
  here : stands_at arguments next place ≡ value
  others : (other : ℕ) → other ≢ place → stands_at arguments next other ≡ stands_at arguments memory other
  stored : AreStored variables next

field_written : (variables : Variables) (arguments : List Value) (memory : Memory) (place : ℕ) (kind : Kind) (value : Value) → AreStored variables memory → IsOfKind kind value → OfField variables.fields place kind
    → IsWritten variables arguments memory (record { state = slice_set memory.state place value; locals = memory.locals }) place value
field_written variables arguments memory place kind value stored own is = record {
  here = field_value arguments (record { state = slice_set memory.state place value; locals = memory.locals }) place is.low
      ∙ get_or-set_same memory.state place value no_value (within_list variables.fields memory.state place kind stored.fields is.is);
  others = λ other differ. other_field memory.state memory.locals arguments place other value (nat_lt other 16) differ;
  stored = record { fields = set_keeps variables.fields memory.state place kind value stored.fields is.is own; locals = stored.locals };
}

local_written : (variables : Variables) (arguments : List Value) (memory : Memory) (place : ℕ) (kind : Kind) (value : Value) → AreStored variables memory → IsOfKind kind value → (is : OfLocal variables.locals place kind)
    → IsWritten variables arguments memory (record { state = memory.state; locals = slice_set memory.locals is.own value }) place value
local_written variables arguments memory place kind value stored own is = record {
  here = local_value arguments (record { state = memory.state; locals = slice_set memory.locals is.own value }) place is.own is.at
      ∙ get_or-set_same memory.locals is.own value no_value (within_list variables.locals memory.locals is.own kind stored.locals is.is);
  others = λ other differ. other_local memory.state memory.locals arguments is.own other value (nat_lt other 16) (λ same. differ (same ∙ sym is.at));
  stored = record { fields = stored.fields; locals = set_keeps variables.locals memory.locals is.own kind value stored.locals is.is own };
}

-- a memory that a test chooses
abbrev chosen : Bool → Memory → Memory → Memory
chosen test this that = if test then this else that

value_written : (variables : Variables) (arguments : List Value) (memory : Memory) (place : ℕ) (kind : Kind) (value : Value) → AreStored variables memory → IsOfKind kind value → IsStored variables place kind
    → IsWritten variables arguments memory (with_value memory place value) place value
value_written variables arguments memory place kind value stored own (inl field) =
    let low = field.low in
    let test : nat_lt place 16 ≡ true = grind (arith, nat_tests) in
    let front : Memory = record { state = slice_set memory.state place value; locals = memory.locals } in
    let back : Memory = record { state = memory.state; locals = slice_set memory.locals (place - 22) value } in
    subst (λ (b : Bool). IsWritten variables arguments memory (chosen b front back) place value) (sym test) (field_written variables arguments memory place kind value stored own field)
value_written variables arguments memory place kind value stored own (inr local) =
    let at = local.at in
    let test : nat_lt place 16 ≡ false = grind (arith, nat_tests) in
    let index : local.own ≡ place - 22 = omega arith in
    let front : Memory = record { state = slice_set memory.state place value; locals = memory.locals } in
    let back = λ (n : ℕ). let one : Memory = record { state = memory.state; locals = slice_set memory.locals n value } in one in
    subst (λ (b : Bool). IsWritten variables arguments memory (chosen b front (back (place - 22))) place value) (sym test)
    (subst (λ (n : ℕ). IsWritten variables arguments memory (back n) place value) index (local_written variables arguments memory place kind value stored own local))

other_meaning : (variables : Variables) (arguments : List Value) (memory next : Memory) (place : ℕ) (value : Value) (meaning : Meaning) → IsWritten variables arguments memory next place value → Misses place meaning
    → meaning_value (reading arguments next) meaning ≡ meaning_value (reading arguments memory) meaning
other_meaning variables arguments memory next place value (meanings.Number own) written miss = refl
other_meaning variables arguments memory next place value (meanings.Int own) written miss = ap (λ x. number (number_of_value x)) (written.others own miss)
other_meaning variables arguments memory next place value (meanings.Flag own) written miss = ap (λ x. truth (truth_of_value x)) (written.others own miss)

other_entry : (variables : Variables) (arguments : List Value) (memory next : Memory) (place : ℕ) (value : Value) (entry : Option Entry) → IsWritten variables arguments memory next place value → FoundMisses place entry
    → entry_value (reading arguments next) entry ≡ entry_value (reading arguments memory) entry
other_entry variables arguments memory next place value None written miss = refl
other_entry variables arguments memory next place value (Some entry) written miss = other_meaning variables arguments memory next place value entry.meaning written miss

-- ---- memories and names

-- where the places of names are, and the arguments of a call
pub record Setting : Type 0 where
  pub scope : List Entry
  pub variables : Variables
  pub arguments : List Value
  pub apart : AreApart scope
  pub targets : AreTargets variables scope

-- each name stands for the value at its place
pub record Agrees (given : Setting) (memory : Memory) (names : Environment) : Type 0 where
  pub stored : AreStored given.variables memory
  pub alike : ReadsAlike given.scope (reading given.arguments memory) names

-- ---- assignments

-- a value at the place of a target
record IsNew (given : Setting) (memory next : Memory) (target : List ℕ) (entry : Entry) (place : ℕ) (value : Value) (made : Plain) : Type 0 where
  written : IsWritten given.variables given.arguments memory next place value
  named : found given.scope target ≡ Some entry
  placed : HasPlace place entry.meaning
  read : meaning_value (reading given.arguments next) entry.meaning ≡ made

read_one : (given : Setting) (memory next : Memory) (names : Environment) (target : List ℕ) (entry : Entry) (place : ℕ) (value : Value) (made : Plain)
    → Agrees given memory names → IsNew given memory next target entry place value made → (name : List ℕ) (same : Bool) → bytes_eq target name ≡ same
    → entry_value (reading given.arguments next) (found given.scope name) ≡ (if same then made else names name)
read_one given memory next names target entry place value made agrees new name true is =
    ap (entry_value (reading given.arguments next)) (ap (found given.scope) (sym (same_name target name is)) ∙ new.named) ∙ new.read
read_one given memory next names target entry place value made agrees new name false is =
    other_entry given.variables given.arguments memory next place value (found given.scope name) new.written (others_miss given.scope target name given.apart is place entry new.named new.placed)
    ∙ ap (entry_value (reading given.arguments memory)) (sym (named_is_found given.scope name)) ∙ agrees.alike name

set_agrees : (given : Setting) (memory next : Memory) (names : Environment) (target : List ℕ) (entry : Entry) (place : ℕ) (value : Value) (made : Plain)
    → Agrees given memory names → IsNew given memory next target entry place value made → Agrees given next (reassigned target made names)
set_agrees given memory next names target entry place value made agrees new = record {
  stored = new.written.stored;
  alike = λ name. ap (entry_value (reading given.arguments next)) (named_is_found given.scope name)
      ∙ read_one given memory next names target entry place value made agrees new name (bytes_eq target name) refl;
}

-- ---- what one statement of a body does

put_run : (arguments : List Value) (memory : Memory) (put : Put) → run_in arguments (statements.Put put ∷ []) memory ≡ with_value memory (target_of put) (value_of_put arguments put memory)
put_run arguments memory put = ap (λ (effect : Effect Memory). effect.next memory) (put_effect (on_memory arguments) put)

if_run : (arguments : List Value) (memory : Memory) (when : Formula) (body other : List Stmt)
    → run_in arguments (statements.If when body other ∷ []) memory ≡ chosen (truth_of (reading arguments memory) when) (run_in arguments body memory) (run_in arguments other memory)
if_run arguments memory when body other = ap (λ (effect : Effect Memory). effect.next memory) (if_effect (on_memory arguments) when body other)

after_both : (arguments : List Value) (these those : List Stmt) (memory : Memory) → run_in arguments (these ++ those) memory ≡ run_in arguments those (run_in arguments these memory)
after_both arguments [] those memory = refl
after_both arguments (first ∷ these) those memory = after_both arguments these those ((effect_of arguments first).next memory)

-- ---- values of checked expressions

pub known_int : (kind : Option Kind) → is_other kinds.Int kind ≡ false → (kind ≡ None → ⊥) → kind ≡ Some kinds.Int
known_int None fine known = absurd (known refl)
known_int (Some kinds.Int) fine known = refl
known_int (Some kinds.Bool) fine known = absurd cc

pub known_bool : (kind : Option Kind) → is_other kinds.Bool kind ≡ false → (kind ≡ None → ⊥) → kind ≡ Some kinds.Bool
known_bool None fine known = absurd (known refl)
known_bool (Some kinds.Bool) fine known = refl
known_bool (Some kinds.Int) fine known = absurd cc

form_alike : (given : Setting) (memory : Memory) (names : Environment) (value : Expr) → Agrees given memory names → (sense given.scope value).faults ≡ [] → is_other kinds.Int (sense given.scope value).kind ≡ false
    → number (value_of (reading given.arguments memory) (linear_of given.scope (sense given.scope value).form)) ≡ expression_value names value
form_alike given memory names value agrees none fine =
    let here = reading given.arguments memory in
    ap (λ x. number x) (ints_keep_meaning given.scope here value none fine)
    ∙ sym (int_value given.scope here value (known_int (sense given.scope value).kind fine (has_kind given.scope value none)))
    ∙ value_alike given.scope here names agrees.alike value

formula_alike : (given : Setting) (memory : Memory) (names : Environment) (value : Expr) → Agrees given memory names → (sense given.scope value).faults ≡ [] → is_other kinds.Bool (sense given.scope value).kind ≡ false
    → truth (truth_of (reading given.arguments memory) (sense given.scope value).formula) ≡ expression_value names value
formula_alike given memory names value agrees none fine =
    let here = reading given.arguments memory in
    ap (λ x. truth x) (bools_keep_meaning given.scope here value none fine)
    ∙ sym (bool_value given.scope here value (known_bool (sense given.scope value).kind fine (has_kind given.scope value none)))
    ∙ value_alike given.scope here names agrees.alike value

-- ---- assignments of a checked value

int_set : (given : Setting) (memory : Memory) (names : Environment) (target : List ℕ) (value : Expr) (entry : Entry) (place : ℕ) → Agrees given memory names
    → found given.scope target ≡ Some entry → entry.meaning ≡ meanings.Int place → TargetPlace given.variables (meanings.Int place)
    → (sense given.scope value).faults ≡ [] → is_other kinds.Int (sense given.scope value).kind ≡ false
    → Agrees given (run_in given.arguments (assignment given.scope (meanings.Int place) (sense given.scope value)) memory) (reassigned target (expression_value names value) names)
int_set given memory names target value entry place agrees named means placed none fine =
    let form = linear_of given.scope (sense given.scope value).form in
    let made = values.Int (value_of (reading given.arguments memory) form) in
    let next = with_value memory place made in
    let written = value_written given.variables given.arguments memory place kinds.Int made agrees.stored tt placed in
    let read = ap (λ x. number (number_of_value x)) written.here ∙ form_alike given memory names value agrees none fine in
    let after_set : Agrees given next (reassigned target (expression_value names value) names) =
    set_agrees given memory next names target entry place made (expression_value names value) agrees (record {
      written = written;
      named = named;
      placed = subst (HasPlace place) (sym means) refl;
      read = ap (meaning_value (reading given.arguments next)) means ∙ read;
    }) in
    subst (λ (x : Memory). Agrees given x (reassigned target (expression_value names value) names)) (sym (put_run given.arguments memory (puts.Number place form))) after_set

bool_set : (given : Setting) (memory : Memory) (names : Environment) (target : List ℕ) (value : Expr) (entry : Entry) (place : ℕ) → Agrees given memory names
    → found given.scope target ≡ Some entry → entry.meaning ≡ meanings.Flag place → TargetPlace given.variables (meanings.Flag place)
    → (sense given.scope value).faults ≡ [] → is_other kinds.Bool (sense given.scope value).kind ≡ false
    → Agrees given (run_in given.arguments (assignment given.scope (meanings.Flag place) (sense given.scope value)) memory) (reassigned target (expression_value names value) names)
bool_set given memory names target value entry place agrees named means placed none fine =
    let formula = (sense given.scope value).formula in
    let made = values.Bool (truth_of (reading given.arguments memory) formula) in
    let next = with_value memory place made in
    let written = value_written given.variables given.arguments memory place kinds.Bool made agrees.stored tt placed in
    let read = ap (λ x. truth (truth_of_value x)) written.here ∙ formula_alike given memory names value agrees none fine in
    let after_set : Agrees given next (reassigned target (expression_value names value) names) =
    set_agrees given memory next names target entry place made (expression_value names value) agrees (record {
      written = written;
      named = named;
      placed = subst (HasPlace place) (sym means) refl;
      read = ap (meaning_value (reading given.arguments next)) means ∙ read;
    }) in
    subst (λ (x : Memory). Agrees given x (reassigned target (expression_value names value) names)) (sym (put_run given.arguments memory (puts.Truth place formula))) after_set

meaning_set : (given : Setting) (memory : Memory) (names : Environment) (target : List ℕ) (value : Expr) (entry : Entry) (meaning : Meaning) → Agrees given memory names
    → found given.scope target ≡ Some entry → entry.meaning ≡ meaning → TargetPlace given.variables meaning
    → (sense given.scope value).faults ≡ [] → wrong_type (meaning_kind meaning) (sense given.scope value) ≡ []
    → Agrees given (run_in given.arguments (assignment given.scope meaning (sense given.scope value)) memory) (reassigned target (expression_value names value) names)
meaning_set given memory names target value entry (meanings.Number constant) agrees named means placed none right = absurd placed
meaning_set given memory names target value entry (meanings.Int place) agrees named means placed none right =
    int_set given memory names target value entry place agrees named means placed none (no_fault (is_other kinds.Int (sense given.scope value).kind) _ right)
meaning_set given memory names target value entry (meanings.Flag place) agrees named means placed none right =
    bool_set given memory names target value entry place agrees named means placed none (no_fault (is_other kinds.Bool (sense given.scope value).kind) _ right)

pub is_a_variable : (test : Bool) (fault : SourceFault) → (if test then [] else fault ∷ []) ≡ [] → test ≡ true
is_a_variable true fault none = refl
is_a_variable false fault none = absurd cc

entry_set : (given : Setting) (memory : Memory) (names : Environment) (at : ℕ) (target : List ℕ) (value : Expr) (entry : Option Entry) → Agrees given memory names
    → found given.scope target ≡ entry → FoundTarget given.variables entry → target_faults at entry ≡ [] → expected (entry_kind entry) (sense given.scope value) ≡ []
    → Agrees given (run_in given.arguments (set_of given.scope entry (sense given.scope value)) memory) (reassigned target (expression_value names value) names)
entry_set given memory names at target value None agrees named place none right = absurd cc
entry_set given memory names at target value (Some entry) agrees named place none right =
    let both = or_else_none (sense given.scope value).faults (wrong_type (meaning_kind entry.meaning) (sense given.scope value)) right in
    meaning_set given memory names target value entry entry.meaning agrees named refl (place (is_a_variable entry.is_variable _ none)) both.0 both.1

-- ---- statements

-- a statement that breaks no rule does to a memory what it does to the names
abbrev StatementAgrees : Setting → StmtTree → Type 0
StatementAgrees given statement =
    (finding given.scope statement).faults ≡ [] → (memory : Memory) (before : PlainState) → Agrees given memory before.names
    → Agrees given (run_in given.arguments (statement_of given.scope statement) memory) (statement_run statement before).names

abbrev Known : Setting → Type 0
Known given = (statement : StmtTree) × StatementAgrees given statement

abbrev trees_of : (given : Setting) → List (Known given) → List StmtTree
trees_of given body = map (λ e. e.0) body

abbrev inner_faults : (given : Setting) → List (Known given) → List SourceFault
inner_faults given body = flat_map (λ inner. inner.faults ++ misplaced inner.returns) (map (finding given.scope) (trees_of given body))

abbrev inner_statements : (given : Setting) → List (Known given) → List Stmt
inner_statements given body = flat_map (λ inner. inner) (map (statement_of given.scope) (trees_of given body))

inner_agree : (given : Setting) (body : List (Known given)) → inner_faults given body ≡ [] → (memory : Memory) (before : PlainState) → Agrees given memory before.names
    → Agrees given (run_in given.arguments (inner_statements given body) memory) (one_by_one (map statement_run (trees_of given body)) before).names
inner_agree given [] none memory before agrees = agrees
inner_agree given (statement ∷ body) none memory before agrees =
    let what = finding given.scope statement.0 in
    let both = append_none (what.faults ++ misplaced what.returns) (inner_faults given body) none in
    let first = statement.1 (append_none what.faults (misplaced what.returns) both.0).0 memory before agrees in
    let run = (one_by_one (map statement_run (trees_of given (statement ∷ body))) before).names in
    subst (λ (x : Memory). Agrees given x run) (sym (after_both given.arguments (statement_of given.scope statement.0) (inner_statements given body) memory))
    (inner_agree given body both.1 (run_in given.arguments (statement_of given.scope statement.0) memory) (statement_run statement.0 before) first)

branch_agrees : (given : Setting) (test : Bool) (memory other : Memory) (end others : PlainState) → Agrees given memory end.names → Agrees given other others.names
    → Agrees given (chosen test memory other) (if test then end else others).names
branch_agrees given true memory other end others this that = this
branch_agrees given false memory other end others this that = that

abbrev bare_layer : (given : Setting) → StmtTree-F (Known given) → StmtTree-F StmtTree
bare_layer given = map-StmtTree (Known given) StmtTree (λ e. e.0)

abbrev LayerAgrees : Setting → StmtTree-F StmtTree → Type 0
LayerAgrees given layer =
    (finding_step given.scope (map-StmtTree StmtTree Finding (finding given.scope) layer)).faults ≡ [] → (memory : Memory) (before : PlainState) → Agrees given memory before.names
    → Agrees given (run_in given.arguments (statement_of_step given.scope (map-StmtTree StmtTree (List Stmt) (statement_of given.scope) layer)) memory)
    (run_step (map-StmtTree StmtTree (PlainState → PlainState) statement_run layer) before).names

if_agrees : (given : Setting) (when : Expr) (body other : List (Known given)) → (sense given.scope when).faults ≡ [] → is_other kinds.Bool (sense given.scope when).kind ≡ false
    → inner_faults given body ≡ [] → inner_faults given other ≡ [] → (memory : Memory) (before : PlainState) → Agrees given memory before.names
    → Agrees given (run_in given.arguments (statements.If (sense given.scope when).formula (inner_statements given body) (inner_statements given other) ∷ []) memory)
    (if truth_in (expression_value before.names when) then one_by_one (map statement_run (trees_of given body)) before else one_by_one (map statement_run (trees_of given other)) before).names
if_agrees given when body other none fine this that memory before agrees =
    let formula = (sense given.scope when).formula in
    let test : truth_of (reading given.arguments memory) formula ≡ truth_in (expression_value before.names when) = ap truth_in (formula_alike given memory before.names when agrees none fine) in
    let reached = run_in given.arguments (inner_statements given body) memory in
    let others = run_in given.arguments (inner_statements given other) memory in
    let run = one_by_one (map statement_run (trees_of given body)) before in
    let other_run = one_by_one (map statement_run (trees_of given other)) before in
    subst (λ (x : Memory). Agrees given x (if truth_in (expression_value before.names when) then run else other_run).names)
    (sym (if_run given.arguments memory formula (inner_statements given body) (inner_statements given other) ∙ ap (λ (x : Bool). chosen x reached others) test))
    (branch_agrees given (truth_in (expression_value before.names when)) reached others run other_run (inner_agree given body this memory before agrees) (inner_agree given other that memory before agrees))

layer_agrees : (given : Setting) (layer : StmtTree-F (Known given)) → LayerAgrees given (bare_layer given layer)
layer_agrees given (Set at name value) none memory before agrees =
    let entry = entry_named given.scope name in
    let both = append_none (target_faults at entry) (expected (entry_kind entry) (sense given.scope value)) none in
    let place = subst (FoundTarget given.variables) (sym (named_is_found given.scope name)) (found_target given.variables given.scope name given.targets) in
    entry_set given memory before.names at name value entry agrees (sym (named_is_found given.scope name)) place both.0 both.1
layer_agrees given (If at when body other) none memory before agrees =
    let outer = append_none (expected (Some kinds.Bool) (sense given.scope when)) (inner_faults given body ++ inner_faults given other) none in
    let both = append_none (inner_faults given body) (inner_faults given other) outer.1 in
    let right = or_else_none (sense given.scope when).faults (wrong_type kinds.Bool (sense given.scope when)) outer.0 in
    if_agrees given when body other right.0 (no_fault (is_other kinds.Bool (sense given.scope when).kind) _ right.1) both.0 both.1 memory before agrees
layer_agrees given (Return at value) none memory before agrees = agrees

roll_agrees : (given : Setting) (layer : StmtTree-F StmtTree) → LayerAgrees given layer → StatementAgrees given (roll-StmtTree layer)
roll_agrees given layer follows none memory before agrees =
    let fine = sym (ap (λ (f : Finding). f.faults) (fold-roll-StmtTree Finding (finding_step given.scope) layer)) ∙ none in
    let made = fold-roll-StmtTree (List Stmt) (statement_of_step given.scope) layer in
    let run = fold-roll-StmtTree (PlainState → PlainState) run_step layer in
    subst (λ (x : List Stmt). Agrees given (run_in given.arguments x memory) (statement_run (roll-StmtTree layer) before).names) (sym made)
    (subst (λ (x : PlainState → PlainState). Agrees given (run_in given.arguments (statement_of_step given.scope (map-StmtTree StmtTree (List Stmt) (statement_of given.scope) layer)) memory) (x before).names) (sym run)
    (follows fine memory before agrees))

pub statement_agrees : (given : Setting) (statement : StmtTree) → StatementAgrees given statement
statement_agrees given = ind-StmtTree (StatementAgrees given) (λ x y is. subst (λ (z : StmtTree-F StmtTree). StatementAgrees given (roll-StmtTree z)) is (roll_agrees given (bare_layer given y) (layer_agrees given y)))

-- ---- bodies

abbrev body_faults : Setting → List StmtTree → List SourceFault
body_faults given body = flat_map (λ statement. (finding given.scope statement).faults) body

pub body_agrees : (given : Setting) (body : List StmtTree) → body_faults given body ≡ [] → (memory : Memory) (before : PlainState) → Agrees given memory before.names
    → Agrees given (run_in given.arguments (flat_map (statement_of given.scope) body) memory) (one_by_one (map statement_run body) before).names
body_agrees given [] none memory before agrees = agrees
body_agrees given (statement ∷ body) none memory before agrees =
    let both = append_none (finding given.scope statement).faults (body_faults given body) none in
    let first = statement_agrees given statement both.0 memory before agrees in
    subst (λ (x : Memory). Agrees given x (one_by_one (map statement_run (statement ∷ body)) before).names) (sym (after_both given.arguments (statement_of given.scope statement) (flat_map (statement_of given.scope) body) memory))
    (body_agrees given body both.1 (run_in given.arguments (statement_of given.scope statement) memory) (statement_run statement before) first)

-- ---- what is returned

-- a statement without a `return` returns nothing
abbrev StaysQuiet : Setting → StmtTree → Type 0
StaysQuiet given statement = (finding given.scope statement).faults ≡ [] → (finding given.scope statement).returns ≡ [] → (before : PlainState) → (statement_run statement before).returned ≡ before.returned

abbrev Quiet : Setting → Type 0
Quiet given = (statement : StmtTree) × StaysQuiet given statement

abbrev quiet_trees : (given : Setting) → List (Quiet given) → List StmtTree
quiet_trees given body = map (λ e. e.0) body

inner_quiet : (given : Setting) (body : List (Quiet given)) → flat_map (λ inner. inner.faults ++ misplaced inner.returns) (map (finding given.scope) (quiet_trees given body)) ≡ []
    → (before : PlainState) → (one_by_one (map statement_run (quiet_trees given body)) before).returned ≡ before.returned
inner_quiet given [] none before = refl
inner_quiet given (statement ∷ body) none before =
    let what = finding given.scope statement.0 in
    let both = append_none (what.faults ++ misplaced what.returns) (flat_map (λ inner. inner.faults ++ misplaced inner.returns) (map (finding given.scope) (quiet_trees given body))) none in
    let first = append_none what.faults (misplaced what.returns) both.0 in
    inner_quiet given body both.1 (statement_run statement.0 before) ∙ statement.1 first.0 (no_places what.returns first.1) before

branch_quiet : (test : Bool) (end others before : PlainState) → end.returned ≡ before.returned → others.returned ≡ before.returned → (if test then end else others).returned ≡ before.returned
branch_quiet true end others before this that = this
branch_quiet false end others before this that = that

abbrev LayerQuiet : Setting → StmtTree-F StmtTree → Type 0
LayerQuiet given layer =
    (finding_step given.scope (map-StmtTree StmtTree Finding (finding given.scope) layer)).faults ≡ [] → (finding_step given.scope (map-StmtTree StmtTree Finding (finding given.scope) layer)).returns ≡ []
    → (before : PlainState) → (run_step (map-StmtTree StmtTree (PlainState → PlainState) statement_run layer) before).returned ≡ before.returned

layer_quiet : (given : Setting) (layer : StmtTree-F (Quiet given)) → LayerQuiet given (map-StmtTree (Quiet given) StmtTree (λ e. e.0) layer)
layer_quiet given (Set at name value) none quiet before = refl
layer_quiet given (If at when body other) none quiet before =
    let outer = append_none (expected (Some kinds.Bool) (sense given.scope when)) _ none in
    let both = append_none (flat_map (λ inner. inner.faults ++ misplaced inner.returns) (map (finding given.scope) (quiet_trees given body))) _ outer.1 in
    branch_quiet (truth_in (expression_value before.names when)) (one_by_one (map statement_run (quiet_trees given body)) before) (one_by_one (map statement_run (quiet_trees given other)) before) before
    (inner_quiet given body both.0 before) (inner_quiet given other both.1 before)
layer_quiet given (Return at value) none quiet before = absurd cc

roll_quiet : (given : Setting) (layer : StmtTree-F StmtTree) → LayerQuiet given layer → StaysQuiet given (roll-StmtTree layer)
roll_quiet given layer stays none quiet before =
    let found = fold-roll-StmtTree Finding (finding_step given.scope) layer in
    let fine = sym (ap (λ (f : Finding). f.faults) found) ∙ none in
    let silent = sym (ap (λ (f : Finding). f.returns) found) ∙ quiet in
    ap (λ (x : PlainState → PlainState). (x before).returned) (fold-roll-StmtTree (PlainState → PlainState) run_step layer) ∙ stays fine silent before

stays_quiet : (given : Setting) (statement : StmtTree) → StaysQuiet given statement
stays_quiet given = ind-StmtTree (StaysQuiet given)
    (λ x y is. subst (λ (z : StmtTree-F StmtTree). StaysQuiet given (roll-StmtTree z)) is (roll_quiet given (map-StmtTree (Quiet given) StmtTree (λ e. e.0) y) (layer_quiet given y)))

-- ---- results

abbrev answer : Setting → Memory → Ret → Option Plain
answer given memory result = option_map plain_of (result_value memory given.arguments result)

kind_answers : (given : Setting) (memory : Memory) (names : Environment) (value : Expr) (kind : Option Kind) → (sense given.scope value).kind ≡ kind → (sense given.scope value).faults ≡ []
    → Agrees given memory names → answer given memory (result_of_kind given.scope kind (sense given.scope value)) ≡ Some (expression_value names value)
kind_answers given memory names value None is none agrees = absurd (has_kind given.scope value none is)
kind_answers given memory names value (Some kinds.Int) is none agrees = ap (λ x. Some x) (form_alike given memory names value agrees none (ap (is_other kinds.Int) is))
kind_answers given memory names value (Some kinds.Bool) is none agrees = ap (λ x. Some x) (formula_alike given memory names value agrees none (ap (is_other kinds.Bool) is))

abbrev Answers : Setting → StmtTree → Ret → Type 0
Answers given statement result =
    (finding given.scope statement).faults ≡ [] → (memory : Memory) (before : PlainState) → Agrees given memory before.names → before.returned ≡ None
    → answer given (run_in given.arguments (statement_of given.scope statement ++ []) memory) result ≡ (statement_run statement before).returned

layer_answers : (given : Setting) (layer : StmtTree-F StmtTree) → Answers given (roll-StmtTree layer) (result_layer given.scope layer)
layer_answers given (Set at name value) none memory before agrees nothing =
    let layer = Set at name value in
    let quiet = ap (λ (f : Finding). f.returns) (fold-roll-StmtTree Finding (finding_step given.scope) layer) in
    sym (stays_quiet given (roll-StmtTree layer) none quiet before ∙ nothing)
layer_answers given (If at when body other) none memory before agrees nothing =
    let layer = If at when body other in
    let quiet = ap (λ (f : Finding). f.returns) (fold-roll-StmtTree Finding (finding_step given.scope) layer) in
    sym (stays_quiet given (roll-StmtTree layer) none quiet before ∙ nothing)
layer_answers given (Return at value) none memory before agrees nothing =
    let layer = Return at value in
    let fine = sym (ap (λ (f : Finding). f.faults) (fold-roll-StmtTree Finding (finding_step given.scope) layer)) ∙ none in
    ap (λ (x : List Stmt). answer given (run_in given.arguments (x ++ []) memory) (result_layer given.scope layer)) (fold-roll-StmtTree (List Stmt) (statement_of_step given.scope) layer)
    ∙ kind_answers given memory before.names value (sense given.scope value).kind refl fine agrees
    ∙ ap (λ (x : PlainState → PlainState). (x before).returned) (sym (fold-roll-StmtTree (PlainState → PlainState) run_step layer))

last_answers : (given : Setting) (statement : StmtTree) → Answers given statement (result_layer given.scope (out-StmtTree statement))
last_answers given statement = subst (λ (x : StmtTree). Answers given x (result_layer given.scope (out-StmtTree statement))) (roll-out-StmtTree statement) (layer_answers given (out-StmtTree statement))

pub body_answers : (given : Setting) (body : List StmtTree) → body_faults given body ≡ [] → misplaced (early_returns (map (finding given.scope) body)) ≡ []
    → (memory : Memory) (before : PlainState) → Agrees given memory before.names → before.returned ≡ None
    → answer given (run_in given.arguments (flat_map (statement_of given.scope) body) memory) (result_of given.scope body) ≡ (one_by_one (map statement_run body) before).returned
body_answers given [] none early memory before agrees nothing = sym nothing
body_answers given (last ∷ []) none early memory before agrees nothing = last_answers given last (append_none (finding given.scope last).faults [] none).0 memory before agrees nothing
body_answers given (statement ∷ next ∷ body) none early memory before agrees nothing =
    let both = append_none (finding given.scope statement).faults (body_faults given (next ∷ body)) none in
    let last = append_none (finding given.scope statement).returns (early_returns (map (finding given.scope) (next ∷ body))) (no_places _ early) in
    let first = statement_agrees given statement both.0 memory before agrees in
    ap (λ (x : Memory). answer given x (result_of given.scope (next ∷ body))) (after_both given.arguments (statement_of given.scope statement) (flat_map (statement_of given.scope) (next ∷ body)) memory)
    ∙ body_answers given (next ∷ body) both.1 (ap misplaced last.1) (run_in given.arguments (statement_of given.scope statement) memory) (statement_run statement before) first
    (stays_quiet given statement both.0 last.0 before ∙ nothing)
