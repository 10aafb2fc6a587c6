-- Questions as the code makes them.
use Rattle.std.proofs.Common.{◌≡◌, ℕ, zero, suc, ◌+◌, ◌-◌, ◌<◌, ◌≤◌, ◌^◌, ℤ, pos, neg_ℤ, ◌+ℤ◌, ◌≤ℤ◌, ◌<ℤ◌, Bool, true, false, not, cond, ◌&&◌, List, [], ◌∷◌, ◌++◌, map, drop, get_or, length, Option, Some, None, arith, refl, sym, ap, subst, ◌∙◌}
use Rattle.std.specs.Prelude.{slice_get}
use Rattle.std.specs.List.{list_all}
use Rattle.std.specs.Option.{is_some}
use Rattle.std.proofs.lemmas.Bool.{and_from, and_left, and_parts, and_right}
use Rattle.std.proofs.lemmas.Int.{ints}
use Rattle.std.proofs.lemmas.List.{at_drop_more}
use Rattle.std.proofs.lemmas.List.Folds.{list_all-append}
use Rattle.std.proofs.lemmas.Option.{none-some, same_Some, slice_get-get_or, slice_get_within}
use mir.Syntax.{w128}
use mir.Val.{to_z, of_z}
use Rattle.lang_base.specs.Numbers.{is_within}
use Rattle.lang_base.specs.declared.kind.Kind.{Kind}
use Rattle.lang_base.specs.declared.kind.Kind.TheVariants as kinds
use Rattle.logic_linear.specs.declared.formula.Formula.{Formula}
use Rattle.logic_linear.specs.declared.formula.Formula.TheVariants as formulas
use Rattle.logic_linear.specs.declared.substitution.Put.{Put as Assignment}
use Rattle.logic_linear.specs.declared.substitution.Put.TheVariants.{Number}
use Rattle.logic_linear.specs.Linear.{Linear, IsLinear}
use Rattle.logic_linear.specs.Negation.{can_negate_term}
use Rattle.logic_linear.specs.Substitution.{is_formula_within, substituted, within_limits}
use Rattle.lang_monitor.specs.declared.candidate.Candidate.{Candidate}
use Rattle.lang_monitor.specs.declared.monitor.Block.{Block}
use Rattle.lang_monitor.specs.declared.monitor.Field.{Field}
use Rattle.lang_monitor.specs.declared.monitor.Method.{Method}
use Rattle.lang_monitor.specs.declared.monitor.Ret.{Ret}
use Rattle.lang_monitor.specs.declared.monitor.Stmt.{Stmt}
use Rattle.lang_monitor.specs.declared.monitor.Stmt.TheVariants as statements
use Rattle.lang_monitor.proofs.Statements.{if_parts, put_part}
use Rattle.lang_monitor.specs.MonitorParts.{MonitorParts, IsMonitor, Places, kind_of, kinds_in, kinds_of, locals_in}
use Rattle.lang_monitor.specs.Candidates.{AreSomeOf}
use Rattle.lang_monitor.specs.Queries.{guard_in_block, hypotheses}
use Rattle.lang_monitor.specs.Triples.{places_of}
use Rattle.logic_cert.specs.declared.cert.Cert.{Cert}
use Rattle.logic_wp.specs.declared.step.Step.{Step}
use Rattle.logic_wp.specs.declared.step.Step.TheVariants.{Put}
use Rattle.logic_wp.specs.Expressible.{is_expressible}
use Rattle.logic_wp.specs.Limits.{value_if}
use Rattle.logic_wp.specs.NegatedQueries.{part_before}
use Rattle.machine_implicit.proofs.Placed.{some_of}
use Rattle.plan_candidates.proofs.SomeOf.{some_pass}
use Rattle.plan_fits.specs.Answers.{IsFitAnswer, IsWhole}
use Rattle.plan_fits.specs.Outside.{answers_outside, assigns_outside, bounds_from, bounds_of, hyps_of, is_number, is_numberless, outside_64, path_outside}
use Rattle.plan_fits.specs.Within.{has_room, has_room_at_end, is_step_within, is_way_within}
use Rattle.plan_fits.specs.inner.Hypotheses.{places_in}

-- ---- values that are there on a condition

pub value_there : {X : Type 0} (test : Bool) (x y : X) → Some y ≡ value_if test x → y ≡ x
value_there true x y e = cc
value_there false x y e = absurd cc

pub made_there : {X : Type 0} (test : Bool) (x y : X) → Some y ≡ value_if test x → test ≡ true
made_there true x y e = refl
made_there false x y e = absurd cc

there_none : {X : Type 0} (test : Bool) (x : X) → None ≡ value_if test x → test ≡ false
there_none true x e = absurd cc
there_none false x e = refl

is_none : {X : Type 0} (test : Bool) (x : X) → test ≡ false → None ≡ value_if test x
is_none test x e = rw e refl

-- ---- whether a statement assigns a number

pub numberless_put : (statement : Stmt) (put : Assignment) (number : Bool) → statement ≡ statements.Put put → number ≡ is_number put → not number ≡ is_numberless statement
numberless_put statement put number is same = ap not same ∙ sym (ap is_numberless is ∙ put_part (λ one. not (is_number one)) (λ when. true) put)

pub numberless_parts : (statement : Stmt) (when : Formula) (body other : List Stmt) (a b : Bool) → statement ≡ statements.If when body other → a ≡ list_all is_numberless body → b ≡ list_all is_numberless other
    → (a && b) ≡ is_numberless statement
numberless_parts statement when body other a b is same_a same_b =
    and_same _ _ _ _ same_a same_b ∙ sym (ap is_numberless is ∙ if_parts (λ one. not (is_number one)) (λ some. true) when body other)
  where
    and_same : (a b c d : Bool) → a ≡ b → c ≡ d → (a && c) ≡ (b && d)
    and_same a b c d e f = rw (e, f) refl

-- ---- a form and a number more

low_94 : (z : ℤ) → is_within (2 ^ 94) z ≡ true → neg_ℤ (pos (2 ^ 94)) ≤ℤ z
low_94 z within = grind (arith, ints)

high_94 : (z : ℤ) → is_within (2 ^ 94) z ≡ true → z ≤ℤ pos (2 ^ 94)
high_94 z within = grind (arith, ints)

low_64 : (z : ℤ) → is_within (2 ^ 64) z ≡ true → neg_ℤ (pos (2 ^ 64)) ≤ℤ z
low_64 z within = grind (arith, ints)

high_64 : (z : ℤ) → is_within (2 ^ 64) z ≡ true → z ≤ℤ pos (2 ^ 64)
high_64 z within = grind (arith, ints)

pub room_of : (form : Linear) → has_room form ≡ true → is_within (2 ^ 94) form.constant ≡ true
room_of form has = (and_parts (list_all can_negate_term form.terms) (is_within (2 ^ 94) form.constant) has).1

pub sum_read : (z k n : ℤ) → z ≡ k → is_within (2 ^ 94) k ≡ true → is_within (2 ^ 64) n ≡ true
    → to_z w128 (of_z w128 (to_z w128 (of_z w128 z) +ℤ to_z w128 (of_z w128 n))) ≡ k +ℤ n
sum_read z k n same within small =
    ap (λ (x : ℤ). to_z w128 (of_z w128 (to_z w128 (of_z w128 x) +ℤ to_z w128 (of_z w128 n)))) same ∙ plain k n (low_94 k within) (high_94 k within) (low_64 n small) (high_64 n small)
  where
    plain : (k n : ℤ) → neg_ℤ (pos (2 ^ 94)) ≤ℤ k → k ≤ℤ pos (2 ^ 94) → neg_ℤ (pos (2 ^ 64)) ≤ℤ n → n ≤ℤ pos (2 ^ 64)
        → to_z w128 (of_z w128 (to_z w128 (of_z w128 k) +ℤ to_z w128 (of_z w128 n))) ≡ k +ℤ n
    plain k n low high less more = omega (arith, ints)

pub more_linear : (form : Linear) (n : ℤ) → IsLinear form → has_room form ≡ true → is_within (2 ^ 64) n ≡ true → IsLinear (record { terms = form.terms; constant = form.constant +ℤ n })
more_linear form n rule has small = record {
  rising = rule.rising;
  each = rule.each;
  above = above form.constant (low_94 form.constant (room_of form has)) (low_64 n small);
  below = below form.constant (high_94 form.constant (room_of form has)) (high_64 n small);
}
  where
    above : (k : ℤ) → neg_ℤ (pos (2 ^ 94)) ≤ℤ k → neg_ℤ (pos (2 ^ 64)) ≤ℤ n → neg_ℤ (pos (2 ^ 95)) ≤ℤ (k +ℤ n)
    above k low less = omega (arith, ints)

    below : (k : ℤ) → k ≤ℤ pos (2 ^ 94) → n ≤ℤ pos (2 ^ 64) → (k +ℤ n) <ℤ pos (2 ^ 95)
    below k high more = omega (arith, ints)

-- ---- before an assignment

number_made : (room within : Bool) (out sub part : Formula) → room ≡ true → Some part ≡ cond within (Some sub) None
    → Some (formulas.Any (out ∷ part ∷ [])) ≡ value_if (room && within) (formulas.Any (out ∷ sub ∷ []))
number_made true true out sub part has is = ap (λ (one : Formula). Some (formulas.Any (out ∷ one ∷ []))) (same_Some part sub is)
number_made true false out sub part has is = absurd (none-some part (sym is))
number_made false within out sub part has is = absurd cc

pub number_before : (put : Assignment) (later : Formula) (place : ℕ) (form : Linear) (here part made : Formula) → put ≡ Number place form → has_room form ≡ true
    → Some part ≡ within_limits (substituted put later) → here ≡ outside_64 form → made ≡ formulas.Any (here ∷ part ∷ [])
    → Some made ≡ value_if (is_step_within (Put put) later) (assigns_outside (Put put) (part_before (Put put) later))
number_before put later place form here part made is has there here_is made_is =
    ap Some (made_is ∙ ap (λ (one : Formula). formulas.Any (one ∷ part ∷ [])) here_is)
    ∙ number_made (has_room form) (is_formula_within (substituted put later)) (outside_64 form) (substituted put later) part has there
    ∙ sym (whole is)
  where
    whole : put ≡ Number place form → value_if (is_step_within (Put put) later) (assigns_outside (Put put) (part_before (Put put) later))
        ≡ value_if (has_room form && is_formula_within (substituted put later)) (formulas.Any (outside_64 form ∷ substituted put later ∷ []))
    whole is =
        ap (λ (one : Assignment). value_if (is_step_within (Put one) later) (assigns_outside (Put one) (part_before (Put one) later))) is
        ∙ ap (λ (one : Assignment). value_if (has_room form && is_formula_within (substituted one later)) (formulas.Any (outside_64 form ∷ substituted one later ∷ []))) (sym is)

-- ---- along a path

ends_late : (answer : Ret) (steps : List Step) → has_room_at_end answer ≡ false → is_way_within answer steps ≡ false
ends_late answer [] none = none
ends_late answer (step ∷ steps) none = and_left (is_way_within answer steps) (is_step_within step (path_outside answer steps)) (ends_late answer steps none)

stops_late : (answer : Ret) (steps : List Step) (left : ℕ) → is_way_within answer (drop left steps) ≡ false → is_way_within answer steps ≡ false
stops_late answer steps zero none = none
stops_late answer [] (suc left) none = none
stops_late answer (step ∷ steps) (suc left) none = and_left (is_way_within answer steps) (is_step_within step (path_outside answer steps)) (stops_late answer steps left none)

pub none_at_end : (answer : Ret) (steps : List Step) → None ≡ value_if (has_room_at_end answer) (answers_outside answer)
    → None ≡ value_if (is_way_within answer steps) (path_outside answer steps)
none_at_end answer steps none =
    is_none (is_way_within answer steps) (path_outside answer steps) (ends_late answer steps (there_none (has_room_at_end answer) (answers_outside answer) none))

pub none_on_the_way : (answer : Ret) (steps : List Step) (left : ℕ) (step : Step) (made before : Formula) → 0 < left → left ≤ length steps → step ≡ get_or steps (left - 1) step
    → made ≡ path_outside answer (drop left steps) → None ≡ value_if (is_step_within step made) before
    → None ≡ value_if (is_way_within answer steps) (path_outside answer steps)
none_on_the_way answer steps left step made before some within at is none =
    let stops : is_step_within step (path_outside answer (drop left steps)) ≡ false = ap (is_step_within step) (sym is) ∙ there_none (is_step_within step made) before none in
    let next : (left - 1) + 1 ≡ left = omega arith in
    let whole : is_way_within answer (drop (left - 1) steps) ≡ is_way_within answer (step ∷ drop left steps) =
    at_drop_more (is_way_within answer) steps (left - 1) step (omega arith)
    ∙ ap (λ (one : Step). is_way_within answer (one ∷ drop ((left - 1) + 1) steps)) (sym at)
    ∙ ap (λ (n : ℕ). is_way_within answer (step ∷ drop n steps)) next in
    is_none (is_way_within answer steps) (path_outside answer steps)
    (stops_late answer steps (left - 1) (whole ∙ and_right (is_way_within answer (drop left steps)) (is_step_within step (path_outside answer (drop left steps))) stops))

-- ---- the method of a block

abbrev IsOwn : Block → ℕ → Method → Type 0
IsOwn block number method = (method.first ≤ number) × (number < method.first + method.count)

pub method_within : (monitor : MonitorParts) (number : ℕ) (block : Block) (methods : List Method) → IsMonitor monitor → slice_get monitor.blocks number ≡ Some block → methods ≡ monitor.methods → block.method < length methods
method_within monitor number block methods rule is same =
    let owner = some_of (slice_get monitor.methods block.method) (IsOwn block number) (rule.owned number block is) in
    let within = slice_get_within monitor.methods block.method owner.0 owner.1 in
    subst (λ (some : List Method). block.method < length some) (sym same) within

pub method_there : (monitor : MonitorParts) (block : Block) (methods : List Method) (method : Method) → methods ≡ monitor.methods → block.method < length methods → method ≡ get_or methods block.method method
    → slice_get monitor.methods block.method ≡ Some method
method_there monitor block methods method same within is =
    ap (λ (some : List Method). slice_get some block.method) (sym same) ∙ slice_get-get_or methods block.method method within ∙ ap Some (sym is)

pub places_same : (monitor : MonitorParts) (block : Block) (fields : List Field) (method : Method) → fields ≡ monitor.fields → slice_get monitor.methods block.method ≡ Some method
    → places_in fields method ≡ places_of monitor block
places_same monitor block fields method same there = λ i. record {
  fields = kinds_of (same i);
  inputs = kinds_in (sym there i);
  locals = map kind_of (locals_in (sym there i));
}

-- ---- the hypotheses

bounds_expressible : (place : ℕ) (some : List Kind) → list_all is_expressible (bounds_from place some) ≡ true
bounds_expressible place [] = refl
bounds_expressible place (kinds.Int ∷ some) = bounds_expressible (place + 1) some
bounds_expressible place (kinds.Bool ∷ some) = bounds_expressible (place + 1) some

pub all_expressible : (all kept : List Candidate) (places : Places) → AreSomeOf kept all → list_all is_expressible all ≡ true → list_all is_expressible (kept ++ bounds_of places) ≡ true
all_expressible all kept places are told =
    let fields = bounds_from 0 places.fields in
    let inputs = bounds_from 16 places.inputs in
    let locals = bounds_from 22 places.locals in
    list_all-append is_expressible kept (bounds_of places)
    ∙ and_from (list_all is_expressible kept) (list_all is_expressible (bounds_of places)) (some_pass is_expressible kept all are told)
    (list_all-append is_expressible fields (inputs ++ locals)
    ∙ and_from (list_all is_expressible fields) (list_all is_expressible (inputs ++ locals)) (bounds_expressible 0 places.fields)
    (list_all-append is_expressible inputs locals
    ∙ and_from (list_all is_expressible inputs) (list_all is_expressible locals) (bounds_expressible 16 places.inputs) (bounds_expressible 22 places.locals)))

pub hyps_made : (monitor : MonitorParts) (kept all : List Candidate) (number : ℕ) (block : Block) (places : Places) → slice_get monitor.blocks number ≡ Some block → places ≡ places_of monitor block
    → all ≡ kept ++ bounds_of places → hypotheses all (guard_in_block (slice_get monitor.blocks number) ∷ []) ≡ hyps_of monitor kept block
hyps_made monitor kept all number block places is same made =
    ap (λ (one : Option Block). hypotheses all (guard_in_block one ∷ [])) is
    ∙ ap (λ (some : List Candidate). hypotheses some (block.guard ∷ [])) (made ∙ ap (λ (one : Places). kept ++ bounds_of one) same)

-- ---- answers, one after the other

push_at : {X : Type 0} (list : List X) (last found : X) (number : ℕ) (P : ℕ → X → Type 0)
    → ((k : ℕ) (one : X) → slice_get list k ≡ Some one → P k one) → P (length list) last
    → slice_get (list ++ last ∷ []) number ≡ Some found → P number found
push_at [] last found zero P each is at = subst (P zero) (same_Some last found at) is
push_at [] last found (suc number) P each is at = absurd (none-some found at)
push_at (first ∷ list) last found zero P each is at = each zero found at
push_at (first ∷ list) last found (suc number) P each is at =
    push_at list last found number (λ k one. P (suc k) one) (λ k one there. each (suc k) one there) (subst (λ (n : ℕ). P n last) longer is) at
  where
    longer : length (first ∷ list) ≡ suc (length list)
    longer = omega arith

pushed_length : {X : Type 0} (list : List X) (last : X) → length (list ++ last ∷ []) ≡ length list + 1
pushed_length [] last = refl
pushed_length (first ∷ list) last = let rest = pushed_length list last in omega (arith, rest)

one_more : {X : Type 0} (P : ℕ → X → Type 0) (old new : List X) (last : X) (count : ℕ) → length old ≡ count
    → ((number : ℕ) (found : X) → slice_get old number ≡ Some found → P number found) → P count last → new ≡ old ++ last ∷ []
    → (length new ≡ count + 1) × ((number : ℕ) (found : X) → slice_get new number ≡ Some found → P number found)
one_more P old new last count is each here made = (
  ap length made ∙ pushed_length old last ∙ ap (λ (n : ℕ). n + 1) is,
  λ number found at. push_at old last found number P each (subst (λ (n : ℕ). P n last) (sym is) here) (ap (λ some. slice_get some number) (sym made) ∙ at),
)

pub one_more_fit : (monitor : MonitorParts) (kept : List Candidate) (old new : List (Option Cert)) (answer : Option Cert) (block : ℕ) → length old ≡ block
    → ((number : ℕ) (found : Option Cert) → slice_get old number ≡ Some found → IsFitAnswer monitor kept number found) → IsFitAnswer monitor kept block answer → new ≡ old ++ answer ∷ []
    → (length new ≡ block + 1) × ((number : ℕ) (found : Option Cert) → slice_get new number ≡ Some found → IsFitAnswer monitor kept number found)
one_more_fit monitor kept old new answer block count each fits made = one_more (IsFitAnswer monitor kept) old new answer block count each fits made

is_whole : (monitor : MonitorParts) (kept : List Candidate) (number : ℕ) (answer : Option Cert) → IsFitAnswer monitor kept number answer → IsWhole monitor kept number (is_some answer)
is_whole monitor kept number (Some cert) is = is.fits
is_whole monitor kept number None is = is

pub one_more_whole : (monitor : MonitorParts) (kept : List Candidate) (old new : List Bool) (answer : Option Cert) (test : Bool) (block : ℕ) → length old ≡ block
    → ((number : ℕ) (found : Bool) → slice_get old number ≡ Some found → IsWhole monitor kept number found) → IsFitAnswer monitor kept block answer → test ≡ is_some answer → new ≡ old ++ test ∷ []
    → (length new ≡ block + 1) × ((number : ℕ) (found : Bool) → slice_get new number ≡ Some found → IsWhole monitor kept number found)
one_more_whole monitor kept old new answer test block count each fits told made =
    one_more (IsWhole monitor kept) old new test block count each (subst (IsWhole monitor kept block) (sym told) (is_whole monitor kept block answer fits)) made
