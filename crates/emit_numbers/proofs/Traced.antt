-- What a printed body has changed where it stops, by its trace.
use Rattle.std.proofs.Common.{◌≡◌, ℕ, Bool, true, false, ◌||◌, ◌&&◌, List, [], ◌∷◌, map, Option, Some, None, refl, sym, ap, subst, ◌∙◌, true≢false}
use Rattle.std.specs.Prelude.{not, nat_lt, if◌then◌else◌}
use Rattle.std.specs.List.{list_any}
use Rattle.std.proofs.lemmas.Bool.{or_parts, or_left, or_right}
use Rattle.lang_tree.specs.declared.tree.StmtTree.{StmtTree, roll-StmtTree}
use Rattle.lang_tree.specs.declared.tree.StmtTree.TheOpen.{StmtTree-F, Set, If, Return}
use Rattle.lang_tree.specs.declared.tree.StmtTree.TheFolds.{fold-roll-StmtTree, map-StmtTree, ind-StmtTree}
use Rattle.lang_base.specs.declared.value.Value.{Value}
use Rattle.lang_forms.specs.declared.scope.Meaning.{Meaning}
use Rattle.lang_forms.specs.declared.scope.Meaning.TheVariants as meanings
use Rattle.lang_forms.specs.declared.scope.Entry.{Entry}
use Rattle.lang_forms.specs.Scope.{entry_named}
use Rattle.lang_forms.specs.Plain.{truth_in}
use Rattle.lang_monitor.specs.Bodies.{Memory, with_value}
use Rattle.lang_types.proofs.NamedPlaces.{named_is_found}
use Rattle.emit_expressions.specs.Scopes.{ScopeParts, declares}
use Rattle.emit_expressions.specs.Values.{is_tested}
use Rattle.lang_tree.specs.declared.tree.Expr.{Expr}
use Rattle.emit_bodies.specs.Traces.{nothing, trace_step, statement_trace, body_trace}
use Rattle.emit_bodies.specs.Traces.{and_then as trace_then, in_turn as traces_in_turn}
use Rattle.emit_numbers.specs.Calls.{Outcome, and_then, assigned, body_call, call_step, entries, in_order, is_long, keeps_64, plain_now, statement_call, value_now, with_meaning}
use Rattle.emit_numbers.specs.Calls.Outcome.{goes_on, stops}
use Rattle.emit_numbers.proofs.Fields.{FoundNoField, IsNoField, undeclared_no_field}

-- ---- what may happen

-- The parts of a trace, whose type is no other crate's to name.
pub record May : Type 0 where
  pub writes : Bool
  pub fails : Bool
  pub copies : Bool

abbrev pub may : Bool → Bool → Bool → May
may writes fails copies = record { writes = writes; fails = fails; copies = copies }

-- the one, and then the other
abbrev then_may : May → May → May
then_may one next = may (one.writes || next.writes) (one.fails || next.fails) (one.copies || (next.copies || (one.writes && next.fails)))

-- the one or the other
abbrev or_may : May → May → May
or_may one other = may (one.writes || other.writes) (one.fails || other.fails) (one.copies || other.copies)

-- Where no field may be assigned the state is as before. Where it stops some value may fail, and
-- the state is as before, unless it works on a copy.
abbrev pub IsTraced : May → Memory → Outcome → Type 0
IsTraced trace before (goes_on next) = trace.writes ≡ false → next.state ≡ before.state
IsTraced trace before (stops last) = (trace.fails ≡ true) × (trace.copies ≡ false → last.state ≡ before.state)

-- what may happen in the one may happen in the other
record IsPart (one whole : May) : Type 0 where
  writes : whole.writes ≡ false → one.writes ≡ false
  fails : one.fails ≡ true → whole.fails ≡ true
  copies : whole.copies ≡ false → one.copies ≡ false

part_traced : (one whole : May) (before : Memory) (outcome : Outcome) → IsPart one whole → IsTraced one before outcome → IsTraced whole before outcome
part_traced one whole before (goes_on next) part traced = λ quiet. traced (part.writes quiet)
part_traced one whole before (stops last) part traced = (part.fails traced.0, λ quiet. traced.1 (part.copies quiet))

part_of_itself : (one : May) → IsPart one one
part_of_itself one = record { writes = λ quiet. quiet; fails = λ may. may; copies = λ quiet. quiet }

part_of_part : (one other whole : May) → IsPart one other → IsPart other whole → IsPart one whole
part_of_part one other whole this that = record {
  writes = λ quiet. this.writes (that.writes quiet);
  fails = λ may. that.fails (this.fails may);
  copies = λ quiet. this.copies (that.copies quiet);
}

first_of_two : (one other : May) → IsPart one (or_may one other)
first_of_two one other = record {
  writes = λ quiet. (or_parts one.writes other.writes quiet).0;
  fails = λ may. or_left one.fails other.fails may;
  copies = λ quiet. (or_parts one.copies other.copies quiet).0;
}

second_of_two : (one other : May) → IsPart other (or_may one other)
second_of_two one other = record {
  writes = λ quiet. (or_parts one.writes other.writes quiet).1;
  fails = λ may. or_right one.fails other.fails may;
  copies = λ quiet. (or_parts one.copies other.copies quiet).1;
}

first_in_turn : (one next : May) → IsPart one (then_may one next)
first_in_turn one next = record {
  writes = λ quiet. (or_parts one.writes next.writes quiet).0;
  fails = λ may. or_left one.fails next.fails may;
  copies = λ quiet. (or_parts one.copies (next.copies || (one.writes && next.fails)) quiet).0;
}

-- ---- the one, and then the other

none_written : (writes fails : Bool) → (writes && fails) ≡ false → fails ≡ true → writes ≡ false
none_written true fails quiet may = absurd (true≢false (sym may ∙ quiet))
none_written false fails quiet may = refl

-- the statement goes on
more_traced : (one next : May) (before now later : Memory) → IsTraced one before (goes_on now) → IsTraced next now (goes_on later) → IsTraced (then_may one next) before (goes_on later)
more_traced one next before now later this that quiet =
    let both = or_parts one.writes next.writes quiet in
    that both.1 ∙ this both.0

-- the statement stops
end_traced : (one next : May) (before now last : Memory) → IsTraced one before (goes_on now) → IsTraced next now (stops last) → IsTraced (then_may one next) before (stops last)
end_traced one next before now last this that = (
  or_right one.fails next.fails that.0,
  λ quiet.
      let outer = or_parts one.copies (next.copies || (one.writes && next.fails)) quiet in
      let both = or_parts next.copies (one.writes && next.fails) outer.1 in
      that.1 both.0 ∙ this (none_written one.writes next.fails both.1 that.0),
)

-- ---- statements one after the other

-- traces of any type that are put in turn as those of a body are
record AreTraces {X : Type 0} (joined : X → X → X) (turn : X → List X → X) (flags : X → May) : Type 0 where
  both : (one next : X) → flags (joined one next) ≡ then_may (flags one) (flags next)
  none : (one : X) → turn one [] ≡ one
  more : (one next : X) (rest : List X) → turn one (next ∷ rest) ≡ turn (joined one next) rest

abbrev IsTracedAlways : (StmtTree → Memory → Outcome) → (StmtTree → May) → StmtTree → Type 0
IsTracedAlways run trace statement = (memory : Memory) → IsTraced (trace statement) memory (run statement memory)

abbrev Known : (StmtTree → Memory → Outcome) → (StmtTree → May) → Type 0
Known run trace = (statement : StmtTree) × IsTracedAlways run trace statement

module _ {X : Type 0} (joined : X → X → X) (turn : X → List X → X) (flags : X → May) (are : AreTraces joined turn flags) where
  joined_part : (one next : X) → IsPart (flags one) (flags (joined one next))
  joined_part one next = subst (IsPart (flags one)) (sym (are.both one next)) (first_in_turn (flags one) (flags next))

  turn_part : (before : X) (rest : List X) → IsPart (flags before) (flags (turn before rest))
  turn_part before [] = subst (λ (x : X). IsPart (flags before) (flags x)) (sym (are.none before)) (part_of_itself (flags before))
  turn_part before (next ∷ rest) =
      subst (λ (x : X). IsPart (flags before) (flags x)) (sym (are.more before next rest))
      (part_of_part (flags before) (flags (joined before next)) (flags (turn (joined before next) rest)) (joined_part before next) (turn_part (joined before next) rest))

  module _ (run : StmtTree → Memory → Outcome) (trace : StmtTree → X) where
    abbrev Part : Type 0
    Part = Known run (λ statement. flags (trace statement))

    abbrev run_all : List Part → Memory → Outcome
    run_all body = in_order (map run (map (λ e. e.0) body))

    abbrev traces : List Part → List X
    traces body = map trace (map (λ e. e.0) body)

    step_traced : (body : List Part) (so_far next : X) (before now : Memory) (outcome : Outcome) → IsTraced (flags so_far) before (goes_on now) → IsTraced (flags next) now outcome
        → ((later : Memory) → IsTraced (flags (joined so_far next)) before (goes_on later) → IsTraced (flags (turn (joined so_far next) (traces body))) before (run_all body later))
        → IsTraced (flags (turn (joined so_far next) (traces body))) before (and_then outcome (run_all body))
    step_traced body so_far next before now (goes_on later) this that more =
        more later (subst (λ (x : May). IsTraced x before (goes_on later)) (sym (are.both so_far next)) (more_traced (flags so_far) (flags next) before now later this that))
    step_traced body so_far next before now (stops last) this that more =
        part_traced (flags (joined so_far next)) (flags (turn (joined so_far next) (traces body))) before (stops last) (turn_part (joined so_far next) (traces body))
        (subst (λ (x : May). IsTraced x before (stops last)) (sym (are.both so_far next)) (end_traced (flags so_far) (flags next) before now last this that))

    rest_traced : (body : List Part) (so_far : X) (before now : Memory) → IsTraced (flags so_far) before (goes_on now) → IsTraced (flags (turn so_far (traces body))) before (run_all body now)
    rest_traced [] so_far before now traced = subst (λ (x : X). IsTraced (flags x) before (goes_on now)) (sym (are.none so_far)) traced
    rest_traced (statement ∷ body) so_far before now traced =
        subst (λ (x : X). IsTraced (flags x) before (run_all (statement ∷ body) now)) (sym (are.more so_far (trace statement.0) (traces body)))
        (step_traced body so_far (trace statement.0) before now (run statement.0 now) traced (statement.1 now)
        (λ later traced. rest_traced body (joined so_far (trace statement.0)) before later traced))

-- ---- assignments to no field

with_state : (memory : Memory) (place : ℕ) (value : Value) → nat_lt place 16 ≡ false → (with_value memory place value).state ≡ memory.state
with_state memory place value is = rw (is) refl

meaning_state : (meaning : Meaning) (value : Value) (memory : Memory) → IsNoField meaning → (with_meaning meaning value memory).state ≡ memory.state
meaning_state (meanings.Number constant) value memory is = refl
meaning_state (meanings.Int place) value memory is = with_state memory place value is
meaning_state (meanings.Flag place) value memory is = with_state memory place value is

assigned_state : (target : Option Entry) (value : Value) (memory : Memory) → FoundNoField target → (assigned target value memory).state ≡ memory.state
assigned_state None value memory is = refl
assigned_state (Some target) value memory is = meaning_state target.meaning value memory is

-- ---- statements

tested_traced : (writes narrows fits : Bool) (memory next : Memory) → (writes ≡ false → next.state ≡ memory.state)
    → IsTraced (may writes narrows false) memory (if narrows && not fits then stops memory else goes_on next)
tested_traced writes true true memory next same = same
tested_traced writes true false memory next same = (refl, λ quiet. refl)
tested_traced writes false fits memory next same = same

chosen_traced : (one other : May) (memory : Memory) (test : Bool) (this that : Outcome) → IsTraced one memory this → IsTraced other memory that → IsTraced (or_may one other) memory (if test then this else that)
chosen_traced one other memory true this that traced others = part_traced one (or_may one other) memory this (first_of_two one other) traced
chosen_traced one other memory false this that traced others = part_traced other (or_may one other) memory that (second_of_two one other) others

body_traces : AreTraces trace_then traces_in_turn (λ trace. may trace.writes trace.fails trace.copies)
body_traces = record { both = λ one next. refl; none = λ one. refl; more = λ one next rest. refl }

-- what may happen in a body
abbrev pub may_of : ScopeParts → List StmtTree → May
may_of scope body =
    let trace = body_trace scope body in
    may trace.writes trace.fails trace.copies

and_plain : (long whole : Bool) → whole ≡ false → long ≡ (long && not whole)
and_plain true whole plain = rw (plain) refl
and_plain false whole plain = refl

module _ (scope : ScopeParts) (tests : scope.whole ≡ false) (arguments : List Value) where
  -- a value of a body that is not whole is tested where it may need more than 64 bits
  value_traced : (writes : Bool) (value : Expr) (memory next : Memory) → (writes ≡ false → next.state ≡ memory.state)
      → IsTraced (may writes (is_tested scope value) false) memory (if is_long scope value && not (keeps_64 scope arguments memory value) then stops memory else goes_on next)
  value_traced writes value memory next same =
      subst (λ (x : Bool). IsTraced (may writes x false) memory (if is_long scope value && not (keeps_64 scope arguments memory value) then stops memory else goes_on next))
      (and_plain (is_long scope value) scope.whole tests) (tested_traced writes (is_long scope value) (keeps_64 scope arguments memory value) memory next same)

  abbrev call : StmtTree → Memory → Outcome
  call = statement_call scope arguments

  -- what may happen in a statement
  abbrev may_in : StmtTree → May
  may_in statement =
      let trace = statement_trace scope statement in
      may trace.writes trace.fails trace.copies

  -- what may happen in these, one after the other
  abbrev may_in_turn : List StmtTree → May
  may_in_turn body =
      let trace = traces_in_turn nothing (map (statement_trace scope) body) in
      may trace.writes trace.fails trace.copies

  abbrev Piece : Type 0
  Piece = Known call may_in

  abbrev trees_of : List Piece → List StmtTree
  trees_of body = map (λ e. e.0) body

  pieces_traced : (body : List Piece) (memory : Memory) → IsTraced (may_in_turn (trees_of body)) memory (in_order (map call (trees_of body)) memory)
  pieces_traced body memory =
      rest_traced trace_then traces_in_turn (λ trace. may trace.writes trace.fails trace.copies) body_traces call (statement_trace scope) body nothing memory memory (λ quiet. refl)

  abbrev bare_layer : StmtTree-F Piece → StmtTree-F StmtTree
  bare_layer = map-StmtTree Piece StmtTree (λ e. e.0)

  -- what may happen in one layer
  abbrev may_layer : StmtTree-F StmtTree → May
  may_layer layer =
      let trace = trace_step scope (map-StmtTree StmtTree _ (statement_trace scope) layer) in
      may trace.writes trace.fails trace.copies

  abbrev LayerTraced : StmtTree-F StmtTree → Type 0
  LayerTraced layer = (memory : Memory) → IsTraced (may_layer layer) memory (call_step scope arguments (map-StmtTree StmtTree (Memory → Outcome) call layer) memory)

  layer_traced : (layer : StmtTree-F Piece) → LayerTraced (bare_layer layer)
  layer_traced (Set at name value) memory =
      let target = entry_named (entries scope) name in
      let made = value_now scope arguments memory value in
      value_traced (list_any (declares name) scope.tree.decls) value memory (assigned target made memory)
      (λ quiet. assigned_state target made memory (subst FoundNoField (sym (named_is_found (entries scope) name)) (undeclared_no_field scope name quiet)))
  layer_traced (If at when body other) memory =
      chosen_traced (may_in_turn (trees_of body)) (may_in_turn (trees_of other)) memory (truth_in (plain_now scope arguments memory when)) (in_order (map call (trees_of body)) memory)
      (in_order (map call (trees_of other)) memory) (pieces_traced body memory) (pieces_traced other memory)
  layer_traced (Return at value) memory = value_traced false value memory memory (λ quiet. refl)

  roll_traced : (layer : StmtTree-F StmtTree) → LayerTraced layer → IsTracedAlways call may_in (roll-StmtTree layer)
  roll_traced layer traced memory =
      let is = fold-roll-StmtTree _ (trace_step scope) layer in
      let same : may_in (roll-StmtTree layer) ≡ may_layer layer = λ i. may (is i).writes (is i).fails (is i).copies in
      subst (λ (x : May). IsTraced x memory (call (roll-StmtTree layer) memory)) (sym same)
      (subst (λ (x : Memory → Outcome). IsTraced (may_layer layer) memory (x memory)) (sym (fold-roll-StmtTree (Memory → Outcome) (call_step scope arguments) layer)) (traced memory))

  statement_traced : (statement : StmtTree) → IsTracedAlways call may_in statement
  statement_traced = ind-StmtTree (IsTracedAlways call may_in) (λ x y is. subst (λ (z : StmtTree-F StmtTree). IsTracedAlways call may_in (roll-StmtTree z)) is (roll_traced (bare_layer y) (layer_traced y)))

  abbrev known : List StmtTree → List Piece
  known [] = []
  known (statement ∷ body) = (statement, statement_traced statement) ∷ known body

  known_are : (body : List StmtTree) → trees_of (known body) ≡ body
  known_are [] = refl
  known_are (statement ∷ body) = ap (λ (rest : List StmtTree). statement ∷ rest) (known_are body)

  pub body_traced : (body : List StmtTree) (memory : Memory) → IsTraced (may_of scope body) memory (body_call scope arguments body memory)
  body_traced body memory =
      subst (λ (x : List StmtTree). IsTraced (may_of scope x) memory (body_call scope arguments x memory)) (known_are body) (pieces_traced (known body) memory)
