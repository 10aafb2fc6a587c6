-- What goes over statements, by their form, and when two runs agree.
use Rattle.std.proofs.Common.{◌≡◌, Bool, true, false, ◌||◌, ◌&&◌, List, [], ◌∷◌, map, refl, sym, ap, subst, ◌∙◌}
use Rattle.std.specs.Prelude.{if◌then◌else◌}
use Rattle.std.specs.List.{list_all}
use Rattle.std.proofs.lemmas.Bool.{and_from, and_parts, or_parts}
use Rattle.std.proofs.lemmas.List.Folds.{list_all-map}
use Rattle.logic_linear.specs.declared.formula.Formula.{Formula}
use Rattle.logic_linear.specs.declared.substitution.Put.{Put as Assignment}
use Rattle.lang_monitor.specs.declared.monitor.Stmt.{Stmt}
use Rattle.lang_monitor.specs.declared.monitor.Stmt.TheVariants as statements
use Rattle.lang_monitor.specs.declared.monitor.Stmt.TheOpen.{Stmt-F, Put, If}
use Rattle.lang_monitor.specs.declared.monitor.Stmt.TheViews.{roll-Stmt}
use Rattle.lang_monitor.specs.declared.monitor.Stmt.TheFolds.{ind-Stmt, map-Stmt, fold-roll-Stmt}
use Rattle.lang_monitor.specs.Statements.{Effect, Runner, choosing, every_part, every_step, in_turn, run_body, run_of, run_step}

-- ---- each form of a statement

pub put_part : (puts : Assignment → Bool) (whens : Formula → Bool) (put : Assignment) → every_part puts whens (statements.Put put) ≡ puts put
put_part puts whens put = ap (every_part puts whens) (sym (statements.rolls-Put put)) ∙ fold-roll-Stmt Bool (every_step puts whens) (Put put)

pub if_parts : (puts : Assignment → Bool) (whens : Formula → Bool) (when : Formula) (body other : List Stmt)
    → every_part puts whens (statements.If when body other) ≡ (whens when && (list_all (every_part puts whens) body && list_all (every_part puts whens) other))
if_parts puts whens when body other =
    let test = every_part puts whens in
    ap test (sym (statements.rolls-If when body other))
    ∙ fold-roll-Stmt Bool (every_step puts whens) (If when body other)
    ∙ ap (λ inner. whens when && (inner && list_all (λ part. part) (map test other))) (list_all-map (λ part. part) test body)
    ∙ ap (λ inner. whens when && (list_all test body && inner)) (list_all-map (λ part. part) test other)

pub put_effect : {M : Type 0} (runner : Runner M) (put : Assignment) → run_of runner (statements.Put put) ≡ runner.does put
put_effect {M} runner put = ap (run_of runner) (sym (statements.rolls-Put put)) ∙ fold-roll-Stmt (Effect M) (run_step runner) (Put put)

pub if_effect : {M : Type 0} (runner : Runner M) (when : Formula) (body other : List Stmt)
    → run_of runner (statements.If when body other) ≡ choosing (runner.holds when) (run_body runner body) (run_body runner other)
if_effect {M} runner when body other = ap (run_of runner) (sym (statements.rolls-If when body other)) ∙ fold-roll-Stmt (Effect M) (run_step runner) (If when body other)

-- ---- bodies, from their ends

-- what holds of no statements, and of a statement before others where it holds of these and of the
-- statement's sides, holds of each body
pub by_bodies : (P : List Stmt → Type 0) → P []
    → ((put : Assignment) (rest : List Stmt) → P rest → P (statements.Put put ∷ rest))
    → ((when : Formula) (body other rest : List Stmt) → P body → P other → P rest → P (statements.If when body other ∷ rest))
    → (body : List Stmt) → P body
by_bodies P none assigns chooses = bodies
  where
    Before : Stmt → Type 0
    Before statement = (rest : List Stmt) → P rest → P (statement ∷ rest)

    parts : (body : List ((statement : Stmt) × Before statement)) → P (map (λ part. part.0) body)
    parts [] = none
    parts (part ∷ body) = part.1 (map (λ one. one.0) body) (parts body)

    whole : (layer : Stmt-F ((statement : Stmt) × Before statement)) → Before (roll-Stmt (map-Stmt _ Stmt (λ part. part.0) layer))
    whole (Put put) rest held = subst (λ (one : Stmt). P (one ∷ rest)) (sym (statements.rolls-Put put)) (assigns put rest held)
    whole (If when body other) rest held =
        subst (λ (one : Stmt). P (one ∷ rest)) (sym (statements.rolls-If when (map (λ part. part.0) body) (map (λ part. part.0) other)))
        (chooses when (map (λ part. part.0) body) (map (λ part. part.0) other) rest (parts body) (parts other) held)

    each : (statement : Stmt) → Before statement
    each = ind-Stmt Before (λ layer found is. subst (λ (one : Stmt-F Stmt). Before (roll-Stmt one)) is (whole found))

    bodies : (body : List Stmt) → P body
    bodies [] = none
    bodies (statement ∷ body) = each statement body (bodies body)

-- ---- every part

-- the assignment passes, and the rest
pub put_passes : (puts : Assignment → Bool) (whens : Formula → Bool) (put : Assignment) (rest : List Stmt)
    → list_all (every_part puts whens) (statements.Put put ∷ rest) ≡ true → (puts put ≡ true) × (list_all (every_part puts whens) rest ≡ true)
put_passes puts whens put rest all =
    let both = and_parts (every_part puts whens (statements.Put put)) (list_all (every_part puts whens) rest) all in
    (sym (put_part puts whens put) ∙ both.0, both.1)

pub record IfPasses (puts : Assignment → Bool) (whens : Formula → Bool) (when : Formula) (body other rest : List Stmt) : Type 0 where
  pub when_passes : whens when ≡ true
  pub body_passes : list_all (every_part puts whens) body ≡ true
  pub other_passes : list_all (every_part puts whens) other ≡ true
  pub rest_passes : list_all (every_part puts whens) rest ≡ true

pub if_passes : (puts : Assignment → Bool) (whens : Formula → Bool) (when : Formula) (body other rest : List Stmt)
    → list_all (every_part puts whens) (statements.If when body other ∷ rest) ≡ true → IfPasses puts whens when body other rest
if_passes puts whens when body other rest all =
    let test = every_part puts whens in
    let outer = and_parts (test (statements.If when body other)) (list_all test rest) all in
    let here = and_parts (whens when) (list_all test body && list_all test other) (sym (if_parts puts whens when body other) ∙ outer.0) in
    let sides = and_parts (list_all test body) (list_all test other) here.1 in
    record { when_passes = here.0; body_passes = sides.0; other_passes = sides.1; rest_passes = outer.1 }

-- what passes stronger tests passes
pub every_weaker : (puts others : Assignment → Bool) (whens thens : Formula → Bool)
    → ((put : Assignment) → puts put ≡ true → others put ≡ true) → ((when : Formula) → whens when ≡ true → thens when ≡ true)
    → (body : List Stmt) → list_all (every_part puts whens) body ≡ true → list_all (every_part others thens) body ≡ true
every_weaker puts others whens thens one two = by_bodies Weaker (λ all. refl) assigns chooses
  where
    Weaker : List Stmt → Type 0
    Weaker body = list_all (every_part puts whens) body ≡ true → list_all (every_part others thens) body ≡ true

    assigns : (put : Assignment) (rest : List Stmt) → Weaker rest → Weaker (statements.Put put ∷ rest)
    assigns put rest later all =
        let both = put_passes puts whens put rest all in
        and_from (every_part others thens (statements.Put put)) (list_all (every_part others thens) rest) (put_part others thens put ∙ one put both.0) (later both.1)

    chooses : (when : Formula) (body other rest : List Stmt) → Weaker body → Weaker other → Weaker rest → Weaker (statements.If when body other ∷ rest)
    chooses when body other rest first second later all =
        let test = every_part others thens in
        let has = if_passes puts whens when body other rest all in
        and_from (test (statements.If when body other)) (list_all test rest)
        (if_parts others thens when body other
        ∙ and_from (thens when) (list_all test body && list_all test other) (two when has.when_passes)
        (and_from (list_all test body) (list_all test other) (first has.body_passes) (second has.other_passes)))
        (later has.rest_passes)

-- each part passes where nothing is asked
pub all_pass : (body : List Stmt) → list_all (every_part (λ put. true) (λ when. true)) body ≡ true
all_pass = by_bodies Pass refl assigns chooses
  where
    test : Stmt → Bool
    test = every_part (λ put. true) (λ when. true)

    Pass : List Stmt → Type 0
    Pass body = list_all test body ≡ true

    assigns : (put : Assignment) (rest : List Stmt) → Pass rest → Pass (statements.Put put ∷ rest)
    assigns put rest later = and_from (test (statements.Put put)) (list_all test rest) (put_part (λ one. true) (λ when. true) put) later

    chooses : (when : Formula) (body other rest : List Stmt) → Pass body → Pass other → Pass rest → Pass (statements.If when body other ∷ rest)
    chooses when body other rest first second later =
        and_from (test (statements.If when body other)) (list_all test rest)
        (if_parts (λ put. true) (λ some. true) when body other ∙ and_from (list_all test body) (list_all test other) first second) later

-- ---- two runs

-- from these memories they reach memories that are as they should, and overflow alike
pub record RunAlike (M N : Type 0) (alike : M → N → Type 0) (one : Effect M) (other : Effect N) (memory : M) (mirror : N) : Type 0 where
  pub reaches : alike (one.next memory) (other.next mirror)
  pub overflows : one.overflows memory ≡ other.overflows mirror

-- from memories that are alike the one does as the other, where parts pass these tests
pub record Agree (M N : Type 0) (alike : M → N → Type 0) (one : Runner M) (other : Runner N) (puts : Assignment → Bool) (whens : Formula → Bool) : Type 0 where
  pub does : (put : Assignment) → puts put ≡ true → (memory : M) (mirror : N) → alike memory mirror → RunAlike M N alike (one.does put) (other.does put) memory mirror
  pub holds : (when : Formula) → whens when ≡ true → (memory : M) (mirror : N) → alike memory mirror → one.holds when memory ≡ other.holds when mirror

abbrev AllAlike : (M N : Type 0) → (M → N → Type 0) → Effect M → Effect N → Type 0
AllAlike M N alike one other = (memory : M) (mirror : N) → alike memory mirror → RunAlike M N alike one other memory mirror

then_alike : {M N : Type 0} (alike : M → N → Type 0) (first : Effect M) (second : Effect N) (more : List (Effect M)) (others : List (Effect N))
    → AllAlike M N alike first second → AllAlike M N alike (in_turn more) (in_turn others) → AllAlike M N alike (in_turn (first ∷ more)) (in_turn (second ∷ others))
then_alike alike first second more others here later memory mirror are =
    let one = here memory mirror are in
    let rest = later (first.next memory) (second.next mirror) one.reaches in
    record { reaches = rest.reaches; overflows = or_same _ _ _ _ one.overflows rest.overflows }
  where
    or_same : (a b c d : Bool) → a ≡ b → c ≡ d → (a || c) ≡ (b || d)
    or_same a b c d e f = rw (e, f) refl

choose_alike : {M N : Type 0} (alike : M → N → Type 0) (when : M → Bool) (mirrors : N → Bool) (body other : Effect M) (this that : Effect N)
    → ((memory : M) (mirror : N) → alike memory mirror → when memory ≡ mirrors mirror) → AllAlike M N alike body this → AllAlike M N alike other that
    → AllAlike M N alike (choosing when body other) (choosing mirrors this that)
choose_alike alike when mirrors body other this that test first second memory mirror are =
    let found = by (when memory) (mirrors mirror) (test memory mirror are) in
    record { reaches = found.0; overflows = found.1 }
  where
    by : (a b : Bool) → a ≡ b
        → alike (if a then body.next memory else other.next memory) (if b then this.next mirror else that.next mirror)
        × ((if a then body.overflows memory else other.overflows memory) ≡ (if b then this.overflows mirror else that.overflows mirror))
    by true true e = let run = first memory mirror are in (run.reaches, run.overflows)
    by false false e = let run = second memory mirror are in (run.reaches, run.overflows)
    by true false e = absurd cc
    by false true e = absurd cc

-- Two runs that agree on each part agree on each body.
pub simulated : (M N : Type 0) (alike : M → N → Type 0) (one : Runner M) (other : Runner N) (puts : Assignment → Bool) (whens : Formula → Bool) → Agree M N alike one other puts whens
    → (body : List Stmt) → list_all (every_part puts whens) body ≡ true → (memory : M) (mirror : N) → alike memory mirror → RunAlike M N alike (run_body one body) (run_body other body) memory mirror
simulated M N alike one other puts whens agree = by_bodies Same (λ all memory mirror are. record { reaches = are; overflows = refl }) assigns chooses
  where
    Same : List Stmt → Type 0
    Same body = list_all (every_part puts whens) body ≡ true → AllAlike M N alike (run_body one body) (run_body other body)

    assigns : (put : Assignment) (rest : List Stmt) → Same rest → Same (statements.Put put ∷ rest)
    assigns put rest later all =
        let both = put_passes puts whens put rest all in
        then_alike alike (run_of one (statements.Put put)) (run_of other (statements.Put put)) (map (run_of one) rest) (map (run_of other) rest)
        (subst (λ (effect : Effect M). AllAlike M N alike effect (run_of other (statements.Put put))) (sym (put_effect one put))
        (subst (AllAlike M N alike (one.does put)) (sym (put_effect other put)) (agree.does put both.0)))
        (later both.1)

    chooses : (when : Formula) (body side rest : List Stmt) → Same body → Same side → Same rest → Same (statements.If when body side ∷ rest)
    chooses when body side rest first second later all =
        let has = if_passes puts whens when body side rest all in
        then_alike alike (run_of one (statements.If when body side)) (run_of other (statements.If when body side)) (map (run_of one) rest) (map (run_of other) rest)
        (subst (λ (effect : Effect M). AllAlike M N alike effect (run_of other (statements.If when body side))) (sym (if_effect one when body side))
        (subst (AllAlike M N alike (choosing (one.holds when) (run_body one body) (run_body one side))) (sym (if_effect other when body side))
        (choose_alike alike (one.holds when) (other.holds when) (run_body one body) (run_body one side) (run_body other body) (run_body other side)
        (agree.holds when has.when_passes) (first has.body_passes) (second has.other_passes))))
        (later has.rest_passes)

-- ---- what runs keep

-- what each assignment keeps that does not overflow
abbrev pub Keeps : (M : Type 0) → (M → Type 0) → Effect M → Type 0
Keeps M held effect = (memory : M) → effect.overflows memory ≡ false → held memory → held (effect.next memory)

then_keeps : {M : Type 0} (held : M → Type 0) (first : Effect M) (more : List (Effect M)) → Keeps M held first → Keeps M held (in_turn more) → Keeps M held (in_turn (first ∷ more))
then_keeps held first more here later memory none has =
    let both = or_parts (first.overflows memory) ((in_turn more).overflows (first.next memory)) none in
    later (first.next memory) both.1 (here memory both.0 has)

choose_keeps : {M : Type 0} (held : M → Type 0) (when : M → Bool) (body other : Effect M) → Keeps M held body → Keeps M held other → Keeps M held (choosing when body other)
choose_keeps held when body other first second memory none has = by (when memory) none
  where
    by : (test : Bool) → (if test then body.overflows memory else other.overflows memory) ≡ false → held (if test then body.next memory else other.next memory)
    by true none = first memory none has
    by false none = second memory none has

-- A body keeps what each of its assignments keeps.
pub kept : (M : Type 0) (held : M → Type 0) (runner : Runner M) (puts : Assignment → Bool) (whens : Formula → Bool) → ((put : Assignment) → puts put ≡ true → Keeps M held (runner.does put))
    → (body : List Stmt) → list_all (every_part puts whens) body ≡ true → Keeps M held (run_body runner body)
kept M held runner puts whens keeps = by_bodies Kept (λ all memory none has. has) assigns chooses
  where
    Kept : List Stmt → Type 0
    Kept body = list_all (every_part puts whens) body ≡ true → Keeps M held (run_body runner body)

    assigns : (put : Assignment) (rest : List Stmt) → Kept rest → Kept (statements.Put put ∷ rest)
    assigns put rest later all =
        let both = put_passes puts whens put rest all in
        then_keeps held (run_of runner (statements.Put put)) (map (run_of runner) rest) (subst (Keeps M held) (sym (put_effect runner put)) (keeps put both.0)) (later both.1)

    chooses : (when : Formula) (body other rest : List Stmt) → Kept body → Kept other → Kept rest → Kept (statements.If when body other ∷ rest)
    chooses when body other rest first second later all =
        let has = if_passes puts whens when body other rest all in
        then_keeps held (run_of runner (statements.If when body other)) (map (run_of runner) rest)
        (subst (Keeps M held) (sym (if_effect runner when body other))
        (choose_keeps held (runner.holds when) (run_body runner body) (run_body runner other) (first has.body_passes) (second has.other_passes)))
        (later has.rest_passes)

-- ---- runs that never overflow

abbrev Never : (M : Type 0) → Effect M → Type 0
Never M effect = (memory : M) → effect.overflows memory ≡ false

then_never : {M : Type 0} (first : Effect M) (more : List (Effect M)) → Never M first → Never M (in_turn more) → Never M (in_turn (first ∷ more))
then_never first more here later memory = rw (here memory, later (first.next memory)) refl

choose_never : {M : Type 0} (when : M → Bool) (body other : Effect M) → Never M body → Never M other → Never M (choosing when body other)
choose_never when body other first second memory = by (when memory)
  where
    by : (test : Bool) → (if test then body.overflows memory else other.overflows memory) ≡ false
    by true = first memory
    by false = second memory

-- A body whose assignments never overflow doesn't.
pub stays_whole : (M : Type 0) (runner : Runner M) (puts : Assignment → Bool) (whens : Formula → Bool) → ((put : Assignment) → puts put ≡ true → (memory : M) → (runner.does put).overflows memory ≡ false)
    → (body : List Stmt) → list_all (every_part puts whens) body ≡ true → (memory : M) → (run_body runner body).overflows memory ≡ false
stays_whole M runner puts whens whole = by_bodies Whole (λ all memory. refl) assigns chooses
  where
    Whole : List Stmt → Type 0
    Whole body = list_all (every_part puts whens) body ≡ true → Never M (run_body runner body)

    assigns : (put : Assignment) (rest : List Stmt) → Whole rest → Whole (statements.Put put ∷ rest)
    assigns put rest later all =
        let both = put_passes puts whens put rest all in
        then_never (run_of runner (statements.Put put)) (map (run_of runner) rest) (subst (Never M) (sym (put_effect runner put)) (whole put both.0)) (later both.1)

    chooses : (when : Formula) (body other rest : List Stmt) → Whole body → Whole other → Whole rest → Whole (statements.If when body other ∷ rest)
    chooses when body other rest first second later all =
        let has = if_passes puts whens when body other rest all in
        then_never (run_of runner (statements.If when body other)) (map (run_of runner) rest)
        (subst (Never M) (sym (if_effect runner when body other)) (choose_never (runner.holds when) (run_body runner body) (run_body runner other) (first has.body_passes) (second has.other_passes)))
        (later has.rest_passes)
