-- A printed body stops just where its statements overflow, and reaches what they reach.
use Rattle.std.proofs.Common.{◌≡◌, ℕ, Bool, true, false, ◌||◌, ◌&&◌, List, [], ◌∷◌, ◌++◌, map, Option, Some, None, refl, sym, ap, subst, ◌∙◌, true≢false}
use Rattle.std.specs.Prelude.{not, if◌then◌else◌}
use Rattle.std.specs.List.{flat_map}
use Rattle.lang_tree.specs.declared.tree.Expr.{Expr}
use Rattle.lang_tree.specs.declared.tree.StmtTree.{StmtTree, roll-StmtTree}
use Rattle.lang_tree.specs.declared.tree.StmtTree.TheOpen.{StmtTree-F, Set, If, Return}
use Rattle.lang_tree.specs.declared.tree.StmtTree.TheFolds.{fold-roll-StmtTree, map-StmtTree, ind-StmtTree}
use Rattle.logic_linear.specs.Linear.{Linear}
use Rattle.logic_linear.specs.declared.formula.Formula.{Formula}
use Rattle.logic_linear.specs.declared.substitution.Put.TheVariants as puts
use Rattle.logic_linear.specs.Truth.{value_of, truth_of}
use Rattle.lang_base.specs.declared.kind.Kind.TheVariants as kinds
use Rattle.lang_base.specs.declared.value.Value.{Value}
use Rattle.lang_base.specs.declared.value.Value.TheVariants as values
use Rattle.lang_base.specs.declared.source_fault.SourceFault.{SourceFault}
use Rattle.lang_forms.specs.declared.scope.Meaning.{Meaning}
use Rattle.lang_forms.specs.declared.scope.Meaning.TheVariants as meanings
use Rattle.lang_forms.specs.declared.scope.Entry.{Entry}
use Rattle.lang_forms.specs.Scope.{entry_named}
use Rattle.lang_forms.specs.Forms.{linear_of}
use Rattle.lang_forms.specs.Sense.{Sense, sense, entry_kind, is_other, meaning_kind, wrong_type}
use Rattle.lang_forms.specs.Plain.{truth_in}
use Rattle.lang_forms.proofs.FineParts.{or_else_none}
use Rattle.lang_forms.proofs.SenseValues.{ints_keep_meaning, bools_keep_meaning}
use Rattle.lang_rules.specs.Rules.{Finding, expected, finding, finding_step, misplaced, target_faults}
use Rattle.lang_monitor.specs.declared.monitor.Stmt.{Stmt}
use Rattle.lang_monitor.specs.declared.monitor.Stmt.TheVariants as statements
use Rattle.lang_monitor.specs.Bodies.{Memory, assigning, body_effect, effect_of, fits_64, on_memory, reading, with_value}
use Rattle.lang_monitor.specs.Statements.{Effect, choosing}
use Rattle.lang_monitor.proofs.Statements.{if_effect, put_effect}
use Rattle.lang_types.specs.Typed.{assignment, set_of, statement_of, statement_of_step}
use Rattle.lang_types.proofs.FineTrees.{append_none, no_fault, no_places}
use Rattle.lang_types.proofs.NamedPlaces.{named_is_found}
use Rattle.lang_types.proofs.PlainExpressions.{bool_value, has_kind, int_value}
use Rattle.lang_types.proofs.PlainStatements.{is_a_variable, known_bool, known_int}
use Rattle.emit_expressions.specs.Scopes.{ScopeParts}
use Rattle.emit_expressions.specs.Expressions.{written}
use Rattle.emit_numbers.specs.Calls.{Outcome, and_then, assigned, as_value, call_step, entries, in_order, keeps_64, plain_now, statement_call, tested, value_now, with_meaning}
use Rattle.emit_numbers.specs.Calls.Outcome.{goes_on, stops}
use Rattle.emit_numbers.specs.Laws.{AreShort}
use Rattle.emit_numbers.proofs.Short.{HasShort, ArePlain, FoundPlain, assigned_short, found_plain}
use Rattle.emit_numbers.proofs.Atoms.{Reading, value_short}
use Rattle.emit_numbers.proofs.Singles.{keeps_short}

-- ---- effects of statements

or_false : (test : Bool) → (test || false) ≡ test
or_false true = refl
or_false false = refl

-- two effects from a memory
record IsAlike (effect : Effect Memory) (memory : Memory) (overflow : Bool) (next : Memory) : Type 0 where
  overflows : effect.overflows memory ≡ overflow
  reaches : effect.next memory ≡ next

one_effect : (arguments : List Value) (statement : Stmt) (effect : Effect Memory) (memory : Memory) → effect_of arguments statement ≡ effect
    → IsAlike (body_effect arguments (statement ∷ [])) memory (effect.overflows memory) (effect.next memory)
one_effect arguments statement effect memory is = record {
  overflows = or_false ((effect_of arguments statement).overflows memory) ∙ ap (λ (x : Effect Memory). x.overflows memory) is;
  reaches = ap (λ (x : Effect Memory). x.next memory) is;
}

number_effect : (arguments : List Value) (memory : Memory) (place : ℕ) (form : Linear) (made : Value) → values.Int (value_of (reading arguments memory) form) ≡ made
    → IsAlike (body_effect arguments (statements.Put (puts.Number place form) ∷ [])) memory (not (fits_64 made)) (with_value memory place made)
number_effect arguments memory place form made is =
    subst (λ (x : Value). IsAlike (body_effect arguments (statements.Put (puts.Number place form) ∷ [])) memory (not (fits_64 x)) (with_value memory place x)) is
    (one_effect arguments (statements.Put (puts.Number place form)) (assigning arguments (puts.Number place form)) memory (put_effect (on_memory arguments) (puts.Number place form)))

truth_effect : (arguments : List Value) (memory : Memory) (place : ℕ) (formula : Formula) (made : Value) → values.Bool (truth_of (reading arguments memory) formula) ≡ made
    → IsAlike (body_effect arguments (statements.Put (puts.Truth place formula) ∷ [])) memory (not (fits_64 made)) (with_value memory place made)
truth_effect arguments memory place formula made is =
    subst (λ (x : Value). IsAlike (body_effect arguments (statements.Put (puts.Truth place formula) ∷ [])) memory (not (fits_64 x)) (with_value memory place x)) is
    (one_effect arguments (statements.Put (puts.Truth place formula)) (assigning arguments (puts.Truth place formula)) memory (put_effect (on_memory arguments) (puts.Truth place formula)))

abbrev chosen_memory : Bool → Memory → Memory → Memory
chosen_memory test one other = if test then one else other

branch_effect : (arguments : List Value) (memory : Memory) (when : Formula) (body other : List Stmt) (test : Bool) → truth_of (reading arguments memory) when ≡ test
    → IsAlike (body_effect arguments (statements.If when body other ∷ [])) memory
    (if test then (body_effect arguments body).overflows memory else (body_effect arguments other).overflows memory)
    (chosen_memory test ((body_effect arguments body).next memory) ((body_effect arguments other).next memory))
branch_effect arguments memory when body other test is =
    subst (λ (x : Bool). IsAlike (body_effect arguments (statements.If when body other ∷ [])) memory
    (if x then (body_effect arguments body).overflows memory else (body_effect arguments other).overflows memory)
    (chosen_memory x ((body_effect arguments body).next memory) ((body_effect arguments other).next memory))) is
    (one_effect arguments (statements.If when body other) (choosing (λ (one : Memory). truth_of (reading arguments one) when) (body_effect arguments body) (body_effect arguments other)) memory
    (if_effect (on_memory arguments) when body other))

or_assoc : (a b c : Bool) → (a || (b || c)) ≡ ((a || b) || c)
or_assoc true b c = refl
or_assoc false b c = refl

pub both_overflow : (arguments : List Value) (these those : List Stmt) (memory : Memory)
    → (body_effect arguments (these ++ those)).overflows memory
    ≡ ((body_effect arguments these).overflows memory || (body_effect arguments those).overflows ((body_effect arguments these).next memory))
both_overflow arguments [] those memory = refl
both_overflow arguments (first ∷ these) those memory =
    let one = effect_of arguments first in
    ap (λ (x : Bool). one.overflows memory || x) (both_overflow arguments these those (one.next memory))
    ∙ or_assoc (one.overflows memory) ((body_effect arguments these).overflows (one.next memory)) _

pub both_reach : (arguments : List Value) (these those : List Stmt) (memory : Memory)
    → (body_effect arguments (these ++ those)).next memory ≡ (body_effect arguments those).next ((body_effect arguments these).next memory)
both_reach arguments [] those memory = refl
both_reach arguments (first ∷ these) those memory = both_reach arguments these those ((effect_of arguments first).next memory)

-- ---- an outcome and an effect

-- It goes on where nothing overflows, to what the effect reaches, and stops where something does.
abbrev pub Follows : Effect Memory → Memory → Outcome → Type 0
Follows effect memory (goes_on next) = (effect.overflows memory ≡ false) × (effect.next memory ≡ next) × HasShort next
Follows effect memory (stops last) = (effect.overflows memory ≡ true) × HasShort last

tested_follows : (effect : Effect Memory) (memory next : Memory) (narrows fits : Bool) → (narrows ≡ false → fits ≡ true) → IsAlike effect memory (not fits) next → HasShort memory → (fits ≡ true → HasShort next)
    → Follows effect memory (if narrows && not fits then stops memory else goes_on next)
tested_follows effect memory next true true atom alike short later = (alike.overflows, alike.reaches, later refl)
tested_follows effect memory next true false atom alike short later = (alike.overflows, short)
tested_follows effect memory next false true atom alike short later = (alike.overflows, alike.reaches, later refl)
tested_follows effect memory next false false atom alike short later = absurd (true≢false (sym (atom refl)))

-- an effect from another memory that does as much
abbrev pub DoesAs : Effect Memory → Memory → Effect Memory → Memory → Type 0
DoesAs effect memory other now = (effect.overflows memory ≡ other.overflows now) × (effect.next memory ≡ other.next now)

pub as_follows : (effect other : Effect Memory) (memory now : Memory) (outcome : Outcome) → DoesAs effect memory other now → Follows other now outcome → Follows effect memory outcome
as_follows effect other memory now (goes_on next) same follows = (same.0 ∙ follows.0, same.1 ∙ follows.1, follows.2)
as_follows effect other memory now (stops last) same follows = (same.0 ∙ follows.0, follows.1)

chosen_follows : (effect one other : Effect Memory) (memory : Memory) (test : Bool) (this that : Outcome)
    → IsAlike effect memory (if test then one.overflows memory else other.overflows memory) (chosen_memory test (one.next memory) (other.next memory))
    → Follows one memory this → Follows other memory that → Follows effect memory (if test then this else that)
chosen_follows effect one other memory true this that alike follows others = as_follows effect one memory memory this (alike.overflows, alike.reaches) follows
chosen_follows effect one other memory false this that alike follows others = as_follows effect other memory memory that (alike.overflows, alike.reaches) others

-- the one and then the other
pub record AreBoth (whole one other : Effect Memory) (memory : Memory) : Type 0 where
  pub overflow : whole.overflows memory ≡ (one.overflows memory || other.overflows (one.next memory))
  pub reach : whole.next memory ≡ other.next (one.next memory)

or_first : (a b c : Bool) → c ≡ (a || b) → a ≡ true → c ≡ true
or_first a b c is first = is ∙ ap (λ (x : Bool). x || b) first

or_second : (a b c : Bool) → c ≡ (a || b) → a ≡ false → c ≡ b
or_second a b c is first = is ∙ ap (λ (x : Bool). x || b) first

then_follows : (whole one other : Effect Memory) (memory : Memory) (outcome : Outcome) (rest : Memory → Outcome) → AreBoth whole one other memory
    → Follows one memory outcome → ((now : Memory) → HasShort now → Follows other now (rest now)) → Follows whole memory (and_then outcome rest)
then_follows whole one other memory (goes_on next) rest both follows later =
    as_follows whole other memory next (rest next) (
      or_second (one.overflows memory) (other.overflows (one.next memory)) (whole.overflows memory) both.overflow follows.0 ∙ ap other.overflows follows.1,
      both.reach ∙ ap other.next follows.1,
    )
    (later next follows.2)
then_follows whole one other memory (stops last) rest both follows later =
    (or_first (one.overflows memory) (other.overflows (one.next memory)) (whole.overflows memory) both.overflow follows.0, follows.1)

-- ---- where statements run

pub record Setting : Type 0 where
  pub scope : ScopeParts
  pub arguments : List Value
  pub plain : ArePlain (entries scope)
  pub given : AreShort arguments

abbrev pub read_in : Setting → (memory : Memory) → HasShort memory → Reading
read_in it memory short = record {
  scope = it.scope;
  arguments = it.arguments;
  memory = memory;
  plain = it.plain;
  given = it.given;
  short = short;
}

abbrev pub sensed : Setting → Expr → Sense
sensed it value = sense (entries it.scope) value

abbrev made_in : Setting → Memory → Expr → Value
made_in it memory value = value_now it.scope it.arguments memory value

-- ---- values

pub int_made : (it : Setting) (memory : Memory) (value : Expr) → (sensed it value).faults ≡ [] → is_other kinds.Int (sensed it value).kind ≡ false
    → values.Int (value_of (reading it.arguments memory) (linear_of (entries it.scope) (sensed it value).form)) ≡ value_now it.scope it.arguments memory value
int_made it memory value none fine =
    let here = reading it.arguments memory in
    let scope = entries it.scope in
    ap (λ n. values.Int n) (ints_keep_meaning scope here value none fine)
    ∙ ap as_value (sym (int_value scope here value (known_int (sensed it value).kind fine (has_kind scope value none))))

pub bool_made : (it : Setting) (memory : Memory) (value : Expr) → (sensed it value).faults ≡ [] → is_other kinds.Bool (sensed it value).kind ≡ false
    → values.Bool (truth_of (reading it.arguments memory) (sensed it value).formula) ≡ value_now it.scope it.arguments memory value
bool_made it memory value none fine =
    let here = reading it.arguments memory in
    let scope = entries it.scope in
    ap (λ b. values.Bool b) (bools_keep_meaning scope here value none fine)
    ∙ ap as_value (sym (bool_value scope here value (known_bool (sensed it value).kind fine (has_kind scope value none))))

-- what is written for a value keeps to 64 bits just where the value does
pub kept_here : (it : Setting) (memory : Memory) (short : HasShort memory) (value : Expr) → (sensed it value).faults ≡ []
    → fits_64 (value_now it.scope it.arguments memory value) ≡ keeps_64 it.scope it.arguments memory value
kept_here it memory short value none = sym (keeps_short (read_in it memory short) value none)

kept_follows : (it : Setting) (memory : Memory) (short : HasShort memory) (value : Expr) → (sensed it value).faults ≡ [] → (effect : Effect Memory) (next : Memory)
    → Follows effect memory (tested (written it.scope value).narrows (fits_64 (made_in it memory value)) memory next)
    → Follows effect memory (tested (written it.scope value).narrows (keeps_64 it.scope it.arguments memory value) memory next)
kept_follows it memory short value none effect next =
    subst (λ (fits : Bool). Follows effect memory (tested (written it.scope value).narrows fits memory next)) (kept_here it memory short value none)

-- ---- assignments

abbrev SetFollows : Setting → Memory → Expr → Option Entry → Type 0
SetFollows it memory value entry =
    Follows (body_effect it.arguments (set_of (entries it.scope) entry (sensed it value))) memory
    (tested (written it.scope value).narrows (keeps_64 it.scope it.arguments memory value) memory (assigned entry (made_in it memory value) memory))

meaning_follows : (it : Setting) (memory : Memory) (short : HasShort memory) (value : Expr) (variable : Bool) (meaning : Meaning) → variable ≡ true
    → FoundPlain (Some (record { name = []; meaning = meaning; is_variable = variable })) → (sensed it value).faults ≡ [] → wrong_type (meaning_kind meaning) (sensed it value) ≡ []
    → Follows (body_effect it.arguments (assignment (entries it.scope) meaning (sensed it value))) memory
    (tested (written it.scope value).narrows (keeps_64 it.scope it.arguments memory value) memory (with_meaning meaning (made_in it memory value) memory))
meaning_follows it memory short value variable (meanings.Number constant) is plain none right = absurd (true≢false (sym is ∙ plain.0))
meaning_follows it memory short value variable (meanings.Int place) is plain none right =
    let made = made_in it memory value in
    let form = linear_of (entries it.scope) (sensed it value).form in
    let fine = no_fault (is_other kinds.Int (sensed it value).kind) _ right in
    let target = Some (record { name = []; meaning = meanings.Int place; is_variable = true }) in
    kept_follows it memory short value none (body_effect it.arguments (statements.Put (puts.Number place form) ∷ [])) (with_value memory place made)
    (tested_follows (body_effect it.arguments (statements.Put (puts.Number place form) ∷ [])) memory (with_value memory place made) (written it.scope value).narrows (fits_64 made)
    (value_short (read_in it memory short) value none) (number_effect it.arguments memory place form made (int_made it memory value none fine)) short (assigned_short target made memory short))
meaning_follows it memory short value variable (meanings.Flag place) is plain none right =
    let made = made_in it memory value in
    let formula = (sensed it value).formula in
    let fine = no_fault (is_other kinds.Bool (sensed it value).kind) _ right in
    let target = Some (record { name = []; meaning = meanings.Flag place; is_variable = true }) in
    kept_follows it memory short value none (body_effect it.arguments (statements.Put (puts.Truth place formula) ∷ [])) (with_value memory place made)
    (tested_follows (body_effect it.arguments (statements.Put (puts.Truth place formula) ∷ [])) memory (with_value memory place made) (written it.scope value).narrows (fits_64 made)
    (value_short (read_in it memory short) value none) (truth_effect it.arguments memory place formula made (bool_made it memory value none fine)) short (assigned_short target made memory short))

set_follows : (it : Setting) (memory : Memory) (short : HasShort memory) (at : ℕ) (value : Expr) (entry : Option Entry) → FoundPlain entry
    → target_faults at entry ≡ [] → expected (entry_kind entry) (sensed it value) ≡ [] → SetFollows it memory value entry
set_follows it memory short at value None plain none right = absurd cc
set_follows it memory short at value (Some entry) plain none right =
    let both = or_else_none (sensed it value).faults (wrong_type (meaning_kind entry.meaning) (sensed it value)) right in
    meaning_follows it memory short value entry.is_variable entry.meaning (is_a_variable entry.is_variable _ none) plain both.0 both.1

-- ---- statements

-- a statement without a `return` that breaks no rule
abbrev pub StatementFollows : Setting → StmtTree → Type 0
StatementFollows it statement =
    (finding (entries it.scope) statement).faults ≡ [] → (finding (entries it.scope) statement).returns ≡ [] → (memory : Memory) → HasShort memory
    → Follows (body_effect it.arguments (statement_of (entries it.scope) statement)) memory (statement_call it.scope it.arguments statement memory)

abbrev Known : Setting → Type 0
Known it = (statement : StmtTree) × StatementFollows it statement

abbrev trees_of : (it : Setting) → List (Known it) → List StmtTree
trees_of it body = map (λ e. e.0) body

abbrev inner_faults : (it : Setting) → List (Known it) → List SourceFault
inner_faults it body = flat_map (λ inner. inner.faults ++ misplaced inner.returns) (map (finding (entries it.scope)) (trees_of it body))

abbrev inner_statements : (it : Setting) → List (Known it) → List Stmt
inner_statements it body = flat_map (λ inner. inner) (map (statement_of (entries it.scope)) (trees_of it body))

inner_follow : (it : Setting) (body : List (Known it)) → inner_faults it body ≡ [] → (memory : Memory) → HasShort memory
    → Follows (body_effect it.arguments (inner_statements it body)) memory (in_order (map (statement_call it.scope it.arguments) (trees_of it body)) memory)
inner_follow it [] none memory short = (refl, refl, short)
inner_follow it (statement ∷ body) none memory short =
    let found = finding (entries it.scope) statement.0 in
    let both = append_none (found.faults ++ misplaced found.returns) (inner_faults it body) none in
    let here = append_none found.faults (misplaced found.returns) both.0 in
    let these = statement_of (entries it.scope) statement.0 in
    let those = inner_statements it body in
    then_follows (body_effect it.arguments (these ++ those)) (body_effect it.arguments these) (body_effect it.arguments those) memory (statement_call it.scope it.arguments statement.0 memory)
    (in_order (map (statement_call it.scope it.arguments) (trees_of it body)))
    (record { overflow = both_overflow it.arguments these those memory; reach = both_reach it.arguments these those memory })
    (statement.1 here.0 (no_places found.returns here.1) memory short) (inner_follow it body both.1)

abbrev bare_layer : (it : Setting) → StmtTree-F (Known it) → StmtTree-F StmtTree
bare_layer it = map-StmtTree (Known it) StmtTree (λ e. e.0)

abbrev LayerFollows : Setting → StmtTree-F StmtTree → Type 0
LayerFollows it layer =
    let scope = entries it.scope in
    (finding_step scope (map-StmtTree StmtTree Finding (finding scope) layer)).faults ≡ [] → (finding_step scope (map-StmtTree StmtTree Finding (finding scope) layer)).returns ≡ []
    → (memory : Memory) → HasShort memory
    → Follows (body_effect it.arguments (statement_of_step scope (map-StmtTree StmtTree (List Stmt) (statement_of scope) layer))) memory
    (call_step it.scope it.arguments (map-StmtTree StmtTree (Memory → Outcome) (statement_call it.scope it.arguments) layer) memory)

layer_follows : (it : Setting) (layer : StmtTree-F (Known it)) → LayerFollows it (bare_layer it layer)
layer_follows it (Set at name value) none quiet memory short =
    let scope = entries it.scope in
    let entry = entry_named scope name in
    let both = append_none (target_faults at entry) (expected (entry_kind entry) (sensed it value)) none in
    set_follows it memory short at value entry (subst FoundPlain (sym (named_is_found scope name)) (found_plain scope name it.plain)) both.0 both.1
layer_follows it (If at when body other) none quiet memory short =
    let here = sensed it when in
    let outer = append_none (expected (Some kinds.Bool) here) (inner_faults it body ++ inner_faults it other) none in
    let both = append_none (inner_faults it body) (inner_faults it other) outer.1 in
    let right = or_else_none here.faults (wrong_type kinds.Bool here) outer.0 in
    let test = truth_in (plain_now it.scope it.arguments memory when) in
    let is = bools_keep_meaning (entries it.scope) (reading it.arguments memory) when right.0 (no_fault (is_other kinds.Bool here.kind) _ right.1) in
    let these = inner_statements it body in
    let those = inner_statements it other in
    chosen_follows (body_effect it.arguments (statements.If here.formula these those ∷ [])) (body_effect it.arguments these) (body_effect it.arguments those) memory test
    (in_order (map (statement_call it.scope it.arguments) (trees_of it body)) memory) (in_order (map (statement_call it.scope it.arguments) (trees_of it other)) memory)
    (branch_effect it.arguments memory here.formula these those test is) (inner_follow it body both.0 memory short) (inner_follow it other both.1 memory short)
layer_follows it (Return at value) none quiet memory short = absurd cc

roll_follows : (it : Setting) (layer : StmtTree-F StmtTree) → LayerFollows it layer → StatementFollows it (roll-StmtTree layer)
roll_follows it layer follows none quiet memory short =
    let scope = entries it.scope in
    let found = fold-roll-StmtTree Finding (finding_step scope) layer in
    let fine = sym (ap (λ (f : Finding). f.faults) found) ∙ none in
    let silent = sym (ap (λ (f : Finding). f.returns) found) ∙ quiet in
    let made = fold-roll-StmtTree (List Stmt) (statement_of_step scope) layer in
    let run = fold-roll-StmtTree (Memory → Outcome) (call_step it.scope it.arguments) layer in
    subst (λ (x : List Stmt). Follows (body_effect it.arguments x) memory (statement_call it.scope it.arguments (roll-StmtTree layer) memory)) (sym made)
    (subst (λ (x : Memory → Outcome). Follows (body_effect it.arguments (statement_of_step scope (map-StmtTree StmtTree (List Stmt) (statement_of scope) layer))) memory (x memory)) (sym run)
    (follows fine silent memory short))

pub statement_follows : (it : Setting) (statement : StmtTree) → StatementFollows it statement
statement_follows it = ind-StmtTree (StatementFollows it)
    (λ x y is. subst (λ (z : StmtTree-F StmtTree). StatementFollows it (roll-StmtTree z)) is (roll_follows it (bare_layer it y) (layer_follows it y)))
