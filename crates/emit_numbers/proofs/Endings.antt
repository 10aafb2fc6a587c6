-- The end of a printed body: its result is tested last, and is the answer.
use Rattle.std.proofs.Common.{◌≡◌, Bool, true, false, ◌||◌, ◌&&◌, List, [], ◌∷◌, ◌++◌, map, Option, Some, None, refl, sym, ap, subst, ◌∙◌, true≢false}
use Rattle.std.specs.Prelude.{not, if◌then◌else◌}
use Rattle.std.specs.List.{flat_map}
use Rattle.std.proofs.lemmas.Bool.{or_left}
use Rattle.lang_tree.specs.declared.tree.Expr.{Expr}
use Rattle.lang_tree.specs.declared.tree.StmtTree.{StmtTree, out-StmtTree, roll-StmtTree, roll-out-StmtTree}
use Rattle.lang_tree.specs.declared.tree.StmtTree.TheOpen.{StmtTree-F, Set, If, Return}
use Rattle.lang_tree.specs.declared.tree.StmtTree.TheFolds.{fold-roll-StmtTree}
use Rattle.lang_base.specs.declared.kind.Kind.{Kind}
use Rattle.lang_base.specs.declared.kind.Kind.TheVariants as kinds
use Rattle.lang_base.specs.declared.value.Value.{Value}
use Rattle.lang_forms.specs.Sense.{is_other}
use Rattle.lang_rules.specs.Rules.{Finding, early_faults, early_returns, faults_in_each, finding, finding_step, misplaced}
use Rattle.lang_monitor.specs.declared.monitor.Stmt.{Stmt}
use Rattle.lang_monitor.specs.declared.monitor.Ret.{Ret}
use Rattle.lang_monitor.specs.Bodies.{Memory, body_effect, fits_64, fits_result_64, result_value}
use Rattle.lang_monitor.specs.Statements.{Effect}
use Rattle.lang_types.specs.Typed.{result_layer, result_of, result_of_kind, statement_of, statement_of_step}
use Rattle.lang_types.proofs.FineTrees.{append_none, no_places}
use Rattle.lang_types.proofs.PlainExpressions.{has_kind}
use Rattle.emit_expressions.specs.Expressions.{written}
use Rattle.emit_numbers.specs.Calls.{Outcome, and_then, answer_by, answer_of, body_call, call_step, entries, in_order, keeps_64, statement_call, value_now}
use Rattle.emit_numbers.specs.Calls.Outcome.{goes_on, stops}
use Rattle.emit_numbers.proofs.Short.{HasShort}
use Rattle.emit_numbers.proofs.Atoms.{value_short}
use Rattle.emit_numbers.proofs.Running.{AreBoth, DoesAs, Follows, Setting, bool_made, both_overflow, both_reach, int_made, kept_here, read_in, sensed, statement_follows}

-- ---- an outcome, an effect, and a result after it

-- It goes on where no assigned value and not the result is outside 64 bits, and then the answer is
-- the result.
abbrev pub Ends : Effect Memory → (Memory → Option Value) → (Memory → Option Value) → Memory → Outcome → Type 0
Ends effect result answer memory (goes_on next) =
    (effect.overflows memory ≡ false) × (effect.next memory ≡ next) × HasShort next × (result next ≡ answer next) × (fits_result_64 (result next) ≡ true)
Ends effect result answer memory (stops last) =
    ((effect.overflows memory || not (fits_result_64 (result (effect.next memory)))) ≡ true) × HasShort last

as_ends : (effect other : Effect Memory) (result answer : Memory → Option Value) (memory now : Memory) (outcome : Outcome) → DoesAs effect memory other now → Ends other result answer now outcome
    → Ends effect result answer memory outcome
as_ends effect other result answer memory now (goes_on next) same ends = (same.0 ∙ ends.0, same.1 ∙ ends.1, ends.2, ends.3, ends.4)
as_ends effect other result answer memory now (stops last) same ends = ((λ i. same.0 i || not (fits_result_64 (result (same.1 i)))) ∙ ends.0, ends.1)

or_by : (a b c : Bool) → a ≡ c → (a || b) ≡ (c || b)
or_by a b c is = ap (λ (x : Bool). x || b) is

then_ends : (whole one other : Effect Memory) (result answer : Memory → Option Value) (memory : Memory) (outcome : Outcome) (rest : Memory → Outcome) → AreBoth whole one other memory → Follows one memory outcome
    → ((now : Memory) → HasShort now → Ends other result answer now (rest now)) → Ends whole result answer memory (and_then outcome rest)
then_ends whole one other result answer memory (goes_on next) rest both follows later =
    as_ends whole other result answer memory next (rest next)
    (both.overflow ∙ or_by (one.overflows memory) (other.overflows (one.next memory)) false follows.0 ∙ ap other.overflows follows.1, both.reach ∙ ap other.next follows.1) (later next follows.2)
then_ends whole one other result answer memory (stops last) rest both follows later =
    (or_left (whole.overflows memory) (not (fits_result_64 (result (whole.next memory)))) (both.overflow ∙ or_by (one.overflows memory) (other.overflows (one.next memory)) true follows.0), follows.1)

nothing_ends : (arguments : List Value) (memory : Memory) → HasShort memory → Ends (body_effect arguments []) (λ now. None) (λ now. None) memory (in_order [] memory)
nothing_ends arguments memory short = (refl, refl, short, refl, refl)

-- ---- the result

kind_answers : (it : Setting) (memory : Memory) (value : Expr) (kind : Option Kind) → (sensed it value).kind ≡ kind → (sensed it value).faults ≡ []
    → result_value memory it.arguments (result_of_kind (entries it.scope) kind (sensed it value)) ≡ Some (value_now it.scope it.arguments memory value)
kind_answers it memory value None is none = absurd (has_kind (entries it.scope) value none is)
kind_answers it memory value (Some kinds.Int) is none = ap (λ x. Some x) (int_made it memory value none (ap (is_other kinds.Int) is))
kind_answers it memory value (Some kinds.Bool) is none = ap (λ x. Some x) (bool_made it memory value none (ap (is_other kinds.Bool) is))

tested_ends : (arguments : List Value) (result answer : Memory → Option Value) (memory : Memory) (made : Value) (narrows fits : Bool) → fits_64 made ≡ fits → (narrows ≡ false → fits ≡ true) → HasShort memory
    → result memory ≡ Some made → answer memory ≡ Some made
    → Ends (body_effect arguments []) result answer memory (and_then (if narrows && not fits then stops memory else goes_on memory) (in_order []))
tested_ends arguments result answer memory made true true is atom short worth told = (refl, refl, short, worth ∙ sym told, ap fits_result_64 worth ∙ is)
tested_ends arguments result answer memory made true false is atom short worth told = (ap (λ (x : Option Value). not (fits_result_64 x)) worth ∙ ap not is, short)
tested_ends arguments result answer memory made false true is atom short worth told = (refl, refl, short, worth ∙ sym told, ap fits_result_64 worth ∙ is)
tested_ends arguments result answer memory made false false is atom short worth told = absurd (true≢false (sym (atom refl)))

-- ---- the last statement

abbrev result_in : Setting → Ret → Memory → Option Value
result_in it result memory = result_value memory it.arguments result

abbrev LastEnds : Setting → StmtTree → StmtTree-F StmtTree → Type 0
LastEnds it statement layer =
    (finding (entries it.scope) statement).faults ≡ [] → (memory : Memory) → HasShort memory
    → Ends (body_effect it.arguments (statement_of (entries it.scope) statement ++ [])) (result_in it (result_layer (entries it.scope) layer)) (λ now. answer_by it.scope it.arguments now layer) memory
    (and_then (statement_call it.scope it.arguments statement memory) (in_order []))

-- one without a result
quiet_ends : (it : Setting) (statement : StmtTree) → (finding (entries it.scope) statement).faults ≡ [] → (finding (entries it.scope) statement).returns ≡ [] → (memory : Memory) → HasShort memory
    → Ends (body_effect it.arguments (statement_of (entries it.scope) statement ++ [])) (λ now. None) (λ now. None) memory (and_then (statement_call it.scope it.arguments statement memory) (in_order []))
quiet_ends it statement none quiet memory short =
    let made = statement_of (entries it.scope) statement in
    then_ends (body_effect it.arguments (made ++ [])) (body_effect it.arguments made) (body_effect it.arguments []) (λ now. None) (λ now. None) memory (statement_call it.scope it.arguments statement memory) (in_order [])
    (record { overflow = both_overflow it.arguments made [] memory; reach = both_reach it.arguments made [] memory })
    (statement_follows it statement none quiet memory short) (nothing_ends it.arguments)

layer_ends : (it : Setting) (layer : StmtTree-F StmtTree) → LastEnds it (roll-StmtTree layer) layer
layer_ends it (Set at name value) none memory short =
    let layer = Set at name value in
    quiet_ends it (roll-StmtTree layer) none (ap (λ (f : Finding). f.returns) (fold-roll-StmtTree Finding (finding_step (entries it.scope)) layer)) memory short
layer_ends it (If at when body other) none memory short =
    let layer = If at when body other in
    quiet_ends it (roll-StmtTree layer) none (ap (λ (f : Finding). f.returns) (fold-roll-StmtTree Finding (finding_step (entries it.scope)) layer)) memory short
layer_ends it (Return at value) none memory short =
    let layer = Return at value in
    let scope = entries it.scope in
    let result = result_in it (result_layer scope layer) in
    let answer = λ (now : Memory). answer_by it.scope it.arguments now layer in
    let made = value_now it.scope it.arguments memory value in
    let fine = sym (ap (λ (f : Finding). f.faults) (fold-roll-StmtTree Finding (finding_step scope) layer)) ∙ none in
    subst (λ (x : List Stmt). Ends (body_effect it.arguments (x ++ [])) result answer memory (and_then (statement_call it.scope it.arguments (roll-StmtTree layer) memory) (in_order [])))
    (sym (fold-roll-StmtTree (List Stmt) (statement_of_step scope) layer))
    (subst (λ (x : Memory → Outcome). Ends (body_effect it.arguments []) result answer memory (and_then (x memory) (in_order [])))
    (sym (fold-roll-StmtTree (Memory → Outcome) (call_step it.scope it.arguments) layer))
    (tested_ends it.arguments result answer memory made (written it.scope value).narrows (keeps_64 it.scope it.arguments memory value) (kept_here it memory short value fine)
    (λ atom. sym (kept_here it memory short value fine) ∙ value_short (read_in it memory short) value fine atom) short
    (kind_answers it memory value (sensed it value).kind refl fine) refl))

last_ends : (it : Setting) (statement : StmtTree) → LastEnds it statement (out-StmtTree statement)
last_ends it statement = subst (λ (x : StmtTree). LastEnds it x (out-StmtTree statement)) (roll-out-StmtTree statement) (layer_ends it (out-StmtTree statement))

-- ---- whole bodies

abbrev pub BodyEnds : Setting → List StmtTree → Type 0
BodyEnds it body =
    faults_in_each (entries it.scope) body ≡ [] → early_faults (entries it.scope) body ≡ [] → (memory : Memory) → HasShort memory
    → Ends (body_effect it.arguments (flat_map (statement_of (entries it.scope)) body)) (result_in it (result_of (entries it.scope) body)) (λ now. answer_of it.scope it.arguments now body) memory
    (body_call it.scope it.arguments body memory)

pub body_ends : (it : Setting) (body : List StmtTree) → BodyEnds it body
body_ends it [] none early memory short = nothing_ends it.arguments memory short
body_ends it (last ∷ []) none early memory short = last_ends it last (append_none (finding (entries it.scope) last).faults [] none).0 memory short
body_ends it (first ∷ next ∷ body) none early memory short =
    let scope = entries it.scope in
    let both = append_none (finding scope first).faults (faults_in_each scope (next ∷ body)) none in
    let quiet = append_none (finding scope first).returns (early_returns (map (finding scope) (next ∷ body))) (no_places _ early) in
    let these = statement_of scope first in
    let those = flat_map (statement_of scope) (next ∷ body) in
    then_ends (body_effect it.arguments (these ++ those)) (body_effect it.arguments these) (body_effect it.arguments those) (result_in it (result_of scope (next ∷ body)))
    (λ now. answer_of it.scope it.arguments now (next ∷ body)) memory (statement_call it.scope it.arguments first memory) (body_call it.scope it.arguments (next ∷ body))
    (record { overflow = both_overflow it.arguments these those memory; reach = both_reach it.arguments these those memory })
    (statement_follows it first both.0 quiet.0 memory short) (body_ends it (next ∷ body) both.1 (ap misplaced quiet.1))
