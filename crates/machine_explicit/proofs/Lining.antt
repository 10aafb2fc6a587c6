-- Who waits on each condition, in order, from event to event.
use Rattle.std.proofs.Common.{◌≡◌, ℕ, zero, suc, ◌+◌, ◌<◌, ◌≤◌, Bool, true, false, not, ◌==◌, ◌⊎◌, cond, List, [], ◌∷◌, ◌++◌, length, get_or, set, drop, Some, refl, sym, ap, subst, ◌∙◌, arith, inl, inr}
use Rattle.std.specs.Prelude.{AllPairs, Contains, slice_get}
use Rattle.std.proofs.lemmas.Option.{same_Some}
use Rattle.std.proofs.lemmas.List.{length_push, length-set, get_or-set_same, get_or-set_other}
use Rattle.std.proofs.lemmas.List.Elements.{Contains-get_or, Contains-append_left, Contains-push, Contains-push_cases, All-filter, filter_passes}
use Rattle.std.proofs.lemmas.List.Kept.{AllPairs-filter}
use Rattle.std.proofs.lemmas.List.Quantifiers.{all_pairs_push}
use Rattle.machine_explicit.proofs.Pigeonhole.{pigeonhole}
use Rattle.std.proofs.lemmas.Bool.{true≢false, cases_eq, eqb-true, eq-eqb, ne_eqb}
use Rattle.machine_events.specs.declared.plan.Note.{Note}
use Rattle.machine_events.specs.declared.event.Stage.{Stage}
use Rattle.machine_events.specs.Configurations.{System, Standing, StandsAt, put}
use Rattle.machine_events.specs.declared.event.Stage.TheVariants.{Idle, Entering, Waiting, Woken, Inside, Notifying}
use Rattle.machine_events.specs.Events.{wake_all}
use Rattle.machine_events.proofs.Standings.{put_same, put_other, put_length, one_stage, stands_within, woken_from, unwoken_stays}
use Rattle.machine_explicit.specs.inner.Rings.{line_of, is_not, without}
use Rattle.machine_explicit.specs.inner.Rings.{IsLine, AreLines, AreBefore}
use Rattle.machine_implicit.specs.declared.place.Place.{Place}

-- ---- who waits after an event

-- who waits is who waited, of whom this is true
abbrev pub WaitsAfter : (ℕ → ℕ → Type 0) → List Standing → List Standing → Type 0
WaitsAfter P before next = (other : ℕ) (place : Place) (condition : ℕ)
    → (StandsAt next other place (Waiting condition) → StandsAt before other place (Waiting condition) × P other condition)
    × (StandsAt before other place (Waiting condition) → P other condition → StandsAt next other place (Waiting condition))

abbrev pub Anyone : ℕ → ℕ → Type 0
Anyone other condition = Unit {0}

abbrev pub ButOne : ℕ → ℕ → ℕ → Type 0
ButOne target other condition = other ≡ target → ⊥

abbrev pub ButOn : ℕ → ℕ → ℕ → Type 0
ButOn on other condition = condition ≡ on → ⊥

abbrev pub IsQuiet : Stage (List Note) → Type 0
IsQuiet stage = (condition : ℕ) → Waiting condition ≡ stage → ⊥

condition_in : Stage (List Note) → ℕ
condition_in (Waiting condition) = condition
condition_in stage = 0

pub same_waiting : (condition another : ℕ) → ◌≡◌ {A = Stage (List Note)} (Waiting condition) (Waiting another) → condition ≡ another
unfolding condition_in
same_waiting condition another is = ap condition_in is

pub idle_is_quiet : IsQuiet Idle
idle_is_quiet condition is = cc is

pub entering_is_quiet : IsQuiet Entering
entering_is_quiet condition is = cc is

pub woken_is_quiet : (on : ℕ) → IsQuiet (Woken on)
woken_is_quiet on condition is = cc is

pub inside_is_quiet : IsQuiet Inside
inside_is_quiet condition is = cc is

pub notifying_is_quiet : (notes : List Note) → IsQuiet (Notifying notes)
notifying_is_quiet notes condition is = cc is

pub nobody_left : (before next : List Standing) → next ≡ before → WaitsAfter Anyone before next
nobody_left before next is other place condition = (
  (λ at. (subst (λ (some : List Standing). StandsAt some other place (Waiting condition)) is at, tt)),
  (λ at any. subst (λ (some : List Standing). StandsAt some other place (Waiting condition)) (sym is) at),
)

-- the client did not wait before the event, nor does it after it
pub quiet_put : (P : ℕ → ℕ → Type 0) (client : ℕ) (place was_place : Place) (stage was : Stage (List Note)) (before woken next : List Standing) → next ≡ put woken client place stage → StandsAt before client was_place was → IsQuiet was → IsQuiet stage
    → WaitsAfter P before woken → WaitsAfter P before next
quiet_put P client place was_place stage was before woken next is stood quiet_before quiet after other others_place condition = (there, back)
  where
    there : StandsAt next other others_place (Waiting condition) → StandsAt before other others_place (Waiting condition) × P other condition
    there at =
        let here : StandsAt (put woken client place stage) other others_place (Waiting condition) = subst (λ (some : List Standing). StandsAt some other others_place (Waiting condition)) is at in
        elim (cases_eq other client) [
          | inl same ↦
              let its = subst (λ (who : ℕ). StandsAt (put woken client place stage) who others_place (Waiting condition)) same here in
              let within : client < length woken = omega (arith, put_length woken client place stage, stands_within (put woken client place stage) client others_place (Waiting condition) its) in
              absurd (quiet condition (one_stage (put woken client place stage) client others_place place (Waiting condition) stage its (put_same woken client place stage within)))
          | inr differs ↦ (after other others_place condition).0 (sym (put_other woken client place stage other differs) ∙ here)
        ]

    back : StandsAt before other others_place (Waiting condition) → P other condition → StandsAt next other others_place (Waiting condition)
    back at allowed = elim (cases_eq other client) [
      | inl same ↦ absurd (quiet_before condition (one_stage before client others_place was_place (Waiting condition) was (subst (λ (who : ℕ). StandsAt before who others_place (Waiting condition)) same at) stood))
      | inr differs ↦ subst (λ (some : List Standing). StandsAt some other others_place (Waiting condition)) (sym is)
          (put_other woken client place stage other differs ∙ (after other others_place condition).1 at allowed)
    ]

pub one_left : (target : ℕ) (place : Place) (on : ℕ) (before next : List Standing) → StandsAt before target place (Waiting on) → next ≡ put before target place (Woken on) → WaitsAfter (ButOne target) before next
one_left target place on before next stood is other others_place condition = (there, back)
  where
    there : StandsAt next other others_place (Waiting condition) → StandsAt before other others_place (Waiting condition) × (other ≡ target → ⊥)
    there at =
        let here : StandsAt (put before target place (Woken on)) other others_place (Waiting condition) = subst (λ (some : List Standing). StandsAt some other others_place (Waiting condition)) is at in
        let apart = λ (same : other ≡ target). woken_is_quiet on condition
        (one_stage (put before target place (Woken on)) target others_place place (Waiting condition) (Woken on) (subst (λ (who : ℕ). StandsAt (put before target place (Woken on)) who others_place (Waiting condition)) same here)
        (put_same before target place (Woken on) (stands_within before target place (Waiting on) stood))) in
        (sym (put_other before target place (Woken on) other apart) ∙ here, apart)

    back : StandsAt before other others_place (Waiting condition) → (other ≡ target → ⊥) → StandsAt next other others_place (Waiting condition)
    back at apart = subst (λ (some : List Standing). StandsAt some other others_place (Waiting condition)) (sym is) (put_other before target place (Woken on) other apart ∙ at)

pub each_left : (on : ℕ) (before next : List Standing) → next ≡ wake_all on before → WaitsAfter (ButOn on) before next
each_left on before next is other place condition = (there, back)
  where
    there : StandsAt next other place (Waiting condition) → StandsAt before other place (Waiting condition) × (condition ≡ on → ⊥)
    there at = elim (woken_from before on other place (Waiting condition) (subst (λ (some : List Standing). StandsAt some other place (Waiting condition)) is at)) [
      | inl stayed ↦ (stayed.0, λ same. true≢false (sym (eq-eqb condition on same) ∙ stayed.1))
      | inr woken ↦ absurd (woken_is_quiet on condition woken.1)
    ]

    back : StandsAt before other place (Waiting condition) → (condition ≡ on → ⊥) → StandsAt next other place (Waiting condition)
    back at apart = subst (λ (some : List Standing). StandsAt some other place (Waiting condition)) (sym is) (unwoken_stays before on other place (Waiting condition) at (ne_eqb condition on apart))

-- ---- one line

pub line_kept : (P : ℕ → ℕ → Type 0) (since : List ℕ) (before next : List Standing) (condition : ℕ) (line : List ℕ) → WaitsAfter P before next → ((client : ℕ) → Contains line client → P client condition)
    → IsLine since before condition line → IsLine since next condition line
line_kept P since before next condition line after allowed is = record {
  all = λ client place at. is.all client place ((after client place condition).0 at).0;
  only = λ client has. let stood = is.only client has in (stood.0, (after client stood.0 condition).1 stood.1 (allowed client has));
  rising = is.rising;
  numbered = is.numbered;
}

pub no_line : (since : List ℕ) (standings : List Standing) (condition : ℕ) → ((client : ℕ) (place : Place) → StandsAt standings client place (Waiting condition) → ⊥) → IsLine since standings condition []
no_line since standings condition none = record {
  all = λ client place at. absurd (none client place at);
  only = λ client has. absurd (omega (arith, has.1));
  rising = λ i j d below within. absurd (omega (arith, within));
  numbered = λ client has. absurd (omega (arith, has.1));
}

contains_head : (x : ℕ) (xs : List ℕ) → Contains (x ∷ xs) x
contains_head x xs = (0, omega arith, refl)

contains_tail : (x y : ℕ) (xs : List ℕ) → Contains xs y → Contains (x ∷ xs) y
contains_tail x y xs has = (suc has.0, omega (arith, has.1), has.2)

contains_rest : (x y : ℕ) (xs : List ℕ) → (x ≡ y → ⊥) → Contains (x ∷ xs) y → Contains xs y
contains_rest x y xs apart (zero, within, is) = absurd (apart is)
contains_rest x y xs apart (suc k, within, is) = (k, omega (arith, within), is)

kept_in : (target client x : ℕ) (rest : List ℕ) (same : Bool) → (x == target) ≡ same → (client ≡ target → ⊥) → ((x ≡ client → ⊥) → Contains rest client) → Contains (cond (not same) (x ∷ rest) rest) client
kept_in target client x rest true is apart more = more (λ here. apart (sym here ∙ eqb-true x target is))
kept_in target client x rest false is apart more = elim (cases_eq x client) [
  | inl same ↦ subst (λ (who : ℕ). Contains (x ∷ rest) who) same (contains_head x rest)
  | inr differs ↦ contains_tail x client rest (more differs)
]

still_in : (target client : ℕ) (line : List ℕ) → (client ≡ target → ⊥) → Contains line client → Contains (without target line) client
still_in target client [] apart has = absurd (omega (arith, has.1))
still_in target client (x ∷ xs) apart has = kept_in target client x (without target xs) (x == target) refl apart (λ differs. still_in target client xs apart (contains_rest x client xs differs has))

was_in : (target client : ℕ) (line : List ℕ) → Contains (without target line) client → Contains line client
was_in target client line has =
    subst (λ (who : ℕ). Contains line who) has.2 (All-filter (is_not target) (λ who. Contains line who) line (λ i d within. Contains-get_or line i d within) has.0 client has.1)

is_apart : (target client : ℕ) (line : List ℕ) → Contains (without target line) client → client ≡ target → ⊥
is_apart target client line has same =
    let passes : is_not target client ≡ true = subst (λ (who : ℕ). is_not target who ≡ true) has.2 (filter_passes (is_not target) line has.0 client has.1) in
    true≢false (sym passes ∙ ap not (eq-eqb client target same))

pub line_left : (since : List ℕ) (before next : List Standing) (target condition : ℕ) (line : List ℕ) → WaitsAfter (ButOne target) before next → IsLine since before condition line → IsLine since next condition (without target line)
line_left since before next target condition line after is = record {
  all = λ client place at. let was = (after client place condition).0 at in still_in target client line was.1 (is.all client place was.0);
  only = λ client has. let stood = is.only client (was_in target client line has) in (stood.0, (after client stood.0 condition).1 stood.1 (is_apart target client line has));
  rising = AllPairs-filter (λ one other. get_or since one 0 < get_or since other 0) (is_not target) line is.rising;
  numbered = λ client has. is.numbered client (was_in target client line has);
}

-- ---- all lines

line_set : (rings : List (List ℕ)) (condition : ℕ) (line : List ℕ) → (length rings ≤ condition → line ≡ []) → line_of (set rings condition line) condition ≡ line
line_set [] condition line short = sym (short (omega arith))
line_set (first ∷ rings) zero line short = refl
line_set (first ∷ rings) (suc condition) line short = line_set rings condition line (λ over. short (omega (arith, over)))

no_line_beyond : (rings : List (List ℕ)) (condition : ℕ) → length rings ≤ condition → line_of rings condition ≡ []
no_line_beyond [] condition over = refl
no_line_beyond (first ∷ rings) zero over = absurd (omega (arith, over))
no_line_beyond (first ∷ rings) (suc condition) over = no_line_beyond rings condition (omega (arith, over))

pub lines_kept : (since : List ℕ) (system next_system : System) (before next : List Standing) (rings : List (List ℕ)) → next_system ≡ system → length next ≡ length before → WaitsAfter Anyone before next → AreLines since system before rings
    → AreLines since next_system next rings
lines_kept since system next_system before next rings same lengths after are = record {
  one_each = are.one_each ∙ sym lengths;
  conditions = are.conditions ∙ ap (λ (s : System). length s.monitor.conditions + 1) (sym same);
  each = λ condition. line_kept Anyone since before next condition (line_of rings condition) after (λ client has. tt) (are.each condition);
}

pub lines_cleared : (since : List ℕ) (system next_system : System) (before next : List Standing) (rings : List (List ℕ)) (on : ℕ) → next_system ≡ system → length next ≡ length before → WaitsAfter (ButOn on) before next
    → AreLines since system before rings → AreLines since next_system next (set rings on [])
lines_cleared since system next_system before next rings on same lengths after are = record {
  one_each = are.one_each ∙ sym lengths;
  conditions = length-set rings on [] ∙ are.conditions ∙ ap (λ (s : System). length s.monitor.conditions + 1) (sym same);
  each = λ condition. elim (cases_eq condition on) [
    | inl is ↦ subst (λ (which : ℕ). IsLine since next which (line_of (set rings on []) which)) (sym is)
        (subst (λ (line : List ℕ). IsLine since next on line) (sym (line_set rings on [] (λ over. refl)))
        (no_line since next on (λ client place at. ((after client place on).0 at).1 refl)))
    | inr differs ↦ subst (λ (line : List ℕ). IsLine since next condition line) (sym (get_or-set_other rings on condition [] [] differs))
        (line_kept (ButOn on) since before next condition (line_of rings condition) after (λ client has. differs) (are.each condition))
  ];
}

pub lines_left : (since : List ℕ) (system next_system : System) (before next : List Standing) (rings : List (List ℕ)) (target : ℕ) (place : Place) (on : ℕ) → next_system ≡ system → length next ≡ length before → StandsAt before target place (Waiting on)
    → WaitsAfter (ButOne target) before next → AreLines since system before rings → AreLines since next_system next (set rings on (without target (line_of rings on)))
lines_left since system next_system before next rings target place on same lengths stood after are = record {
  one_each = are.one_each ∙ sym lengths;
  conditions = length-set rings on new ∙ are.conditions ∙ ap (λ (s : System). length s.monitor.conditions + 1) (sym same);
  each = λ condition. elim (cases_eq condition on) [
    | inl is ↦ subst (λ (which : ℕ). IsLine since next which (line_of (set rings on new) which)) (sym is)
        (subst (λ (line : List ℕ). IsLine since next on line) (sym (line_set rings on new (λ over. ap (without target) (no_line_beyond rings on over))))
        (line_left since before next target on (line_of rings on) after (are.each on)))
    | inr differs ↦ subst (λ (line : List ℕ). IsLine since next condition line) (sym (get_or-set_other rings on condition new [] differs))
        (line_kept (ButOne target) since before next condition (line_of rings condition) after (λ client has. apart condition client differs has) (are.each condition))
  ];
}
  where
    new : List ℕ
    new = without target (line_of rings on)

    apart : (condition client : ℕ) → (condition ≡ on → ⊥) → Contains (line_of rings condition) client → client ≡ target → ⊥
    apart condition client differs has is =
        let waits = (are.each condition).only client has in
        differs (same_waiting condition on (one_stage before target waits.0 place (Waiting condition) (Waiting on) (subst (λ (who : ℕ). StandsAt before who waits.0 (Waiting condition)) is waits.1) stood))

-- ---- the first leaves a line

-- no other of the line is the first, as their numbers are above its number
all_kept : (target : ℕ) (line : List ℕ) → ((client : ℕ) → Contains line client → client ≡ target → ⊥) → without target line ≡ line
all_kept target [] apart = refl
all_kept target (x ∷ xs) apart =
    ap (λ (same : Bool). cond (not same) (x ∷ without target xs) (without target xs)) (ne_eqb x target (apart x (contains_head x xs)))
    ∙ ap (λ (rest : List ℕ). x ∷ rest) (all_kept target xs (λ client has. apart client (contains_tail x client xs has)))

pub without_first : (since : List ℕ) (standings : List Standing) (condition target : ℕ) (line : List ℕ) → IsLine since standings condition line → slice_get line 0 ≡ Some target → without target line ≡ drop 1 line
without_first since standings condition target [] is first = refl
without_first since standings condition target (x ∷ xs) is first =
    ap (λ (same : Bool). cond (not same) (x ∷ without target xs) (without target xs)) (eq-eqb x target (same_Some x target first))
    ∙ all_kept target xs (λ client has same. omega (
      arith,
      is.rising 0 (suc has.0) client (omega arith) (omega (arith, has.1)),
      ap (λ (who : ℕ). get_or since who 0) (same_Some x target first),
      ap (λ (who : ℕ). get_or since who 0) has.2,
      ap (λ (who : ℕ). get_or since who 0) same,
    ))

-- ---- a client joins a line

-- numbers that rise, where one that is not of the line is changed
rises : (since : List ℕ) (client number : ℕ) (line : List ℕ) → (Contains line client → ⊥) → AllPairs (λ one other. get_or since one 0 < get_or since other 0) line
    → AllPairs (λ one other. get_or (set since client number) one 0 < get_or (set since client number) other 0) line
rises since client number line apart rising i j d below within =
    let one = get_or line i d in
    let other = get_or line j d in
    let one_apart = λ (is : one ≡ client). apart (subst (λ (who : ℕ). Contains line who) is (Contains-get_or line i d (omega (arith, below, within)))) in
    let other_apart = λ (is : other ≡ client). apart (subst (λ (who : ℕ). Contains line who) is (Contains-get_or line j d within)) in
    omega (arith, rising i j d below within, get_or-set_other since client one number 0 one_apart, get_or-set_other since client other number 0 other_apart)

line_joined : (since : List ℕ) (before next : List Standing) (client : ℕ) (place : Place) (on number : ℕ) (line : List ℕ) → client < length since → AreBefore since number → StandsAt before client place Inside → next ≡ put before client place (Waiting on)
    → IsLine since before on line → IsLine (set since client (number + 1)) next on (line ++ client ∷ [])
line_joined since before next client place on number line within early inside is lined = record {
  all = λ other others_place at. elim (cases_eq other client) [
    | inl same ↦ subst (λ (who : ℕ). Contains (line ++ client ∷ []) who) (sym same) (Contains-push line client)
    | inr differs ↦ Contains-append_left line (client ∷ []) other (lined.all other others_place
        (sym (put_other before client place (Waiting on) other differs) ∙ subst (λ (some : List Standing). StandsAt some other others_place (Waiting on)) is at))
  ];
  only = λ other has. elim (Contains-push_cases line client other has) [
    | inl old ↦
        let stood = lined.only other old in
        let differs = λ (same : other ≡ client). absent (subst (λ (who : ℕ). Contains line who) same old) in
        (stood.0, subst (λ (some : List Standing). StandsAt some other stood.0 (Waiting on)) (sym is) (put_other before client place (Waiting on) other differs ∙ stood.1))
    | inr same ↦ (
      place,
      subst (λ (some : List Standing). StandsAt some other place (Waiting on)) (sym is)
          (subst (λ (who : ℕ). StandsAt (put before client place (Waiting on)) who place (Waiting on)) same
          (put_same before client place (Waiting on) (stands_within before client place Inside inside))),
    )
  ];
  rising = all_pairs_push (λ one other. get_or (set since client (number + 1)) one 0 < get_or (set since client (number + 1)) other 0) line client
      (rises since client (number + 1) line absent lined.rising)
      (λ k d below.
      let one = get_or line k d in
      let apart = λ (same : one ≡ client). absent (subst (λ (who : ℕ). Contains line who) same (Contains-get_or line k d below)) in
      omega (arith, get_or-set_other since client one (number + 1) 0 apart, get_or-set_same since client (number + 1) 0 within, early one));
  numbered = λ other has. elim (Contains-push_cases line client other has) [
    | inl old ↦ omega (arith, get_or-set_other since client other (number + 1) 0 (λ same. absent (subst (λ (who : ℕ). Contains line who) same old)), lined.numbered other old)
    | inr same ↦ omega (arith, ap (λ (who : ℕ). get_or (set since client (number + 1)) who 0) same, get_or-set_same since client (number + 1) 0 within)
  ];
}
  where
    absent : Contains line client → ⊥
    absent has =
        let stood = lined.only client has in
        inside_is_quiet on (one_stage before client stood.0 place (Waiting on) Inside stood.1 inside)

other_line : (since : List ℕ) (before next : List Standing) (client : ℕ) (place : Place) (on number condition : ℕ) (line : List ℕ) → (condition ≡ on → ⊥) → StandsAt before client place Inside → next ≡ put before client place (Waiting on)
    → IsLine since before condition line → IsLine (set since client (number + 1)) next condition line
other_line since before next client place on number condition line differs inside is lined = record {
  all = λ other others_place at.
      let here : StandsAt (put before client place (Waiting on)) other others_place (Waiting condition) = subst (λ (some : List Standing). StandsAt some other others_place (Waiting condition)) is at in
      lined.all other others_place (sym (put_other before client place (Waiting on) other (λ same. differs (same_waiting condition on
      (one_stage (put before client place (Waiting on)) client others_place place (Waiting condition) (Waiting on)
      (subst (λ (who : ℕ). StandsAt (put before client place (Waiting on)) who others_place (Waiting condition)) same here)
      (put_same before client place (Waiting on) (stands_within before client place Inside inside)))))) ∙ here);
  only = λ other has.
      let stood = lined.only other has in
      let apart = λ (same : other ≡ client). absent (subst (λ (who : ℕ). Contains line who) same has) in
      (stood.0, subst (λ (some : List Standing). StandsAt some other stood.0 (Waiting condition)) (sym is) (put_other before client place (Waiting on) other apart ∙ stood.1));
  rising = rises since client (number + 1) line absent lined.rising;
  numbered = λ other has.
      omega (arith, get_or-set_other since client other (number + 1) 0 (λ same. absent (subst (λ (who : ℕ). Contains line who) same has)), lined.numbered other has);
}
  where
    absent : Contains line client → ⊥
    absent has =
        let stood = lined.only client has in
        inside_is_quiet condition (one_stage before client stood.0 place (Waiting condition) Inside stood.1 inside)

pub lines_joined : (since : List ℕ) (system next_system : System) (before next : List Standing) (rings : List (List ℕ)) (client : ℕ) (place : Place) (on number : ℕ) → next_system ≡ system → AreBefore since number
    → on < length rings → StandsAt before client place Inside → next ≡ put before client place (Waiting on)
    → AreLines since system before rings → AreLines (set since client (number + 1)) next_system next (set rings on (line_of rings on ++ client ∷ []))
lines_joined since system next_system before next rings client place on number same early below inside is are = record {
  one_each = length-set since client (number + 1) ∙ are.one_each ∙ sym (ap length is ∙ put_length before client place (Waiting on));
  conditions = length-set rings on new ∙ are.conditions ∙ ap (λ (s : System). length s.monitor.conditions + 1) (sym same);
  each = λ condition. elim (cases_eq condition on) [
    | inl here ↦ subst (λ (which : ℕ). IsLine (set since client (number + 1)) next which (line_of (set rings on new) which)) (sym here)
        (subst (λ (line : List ℕ). IsLine (set since client (number + 1)) next on line) (sym (line_set rings on new (λ over. absurd (omega (arith, over, below)))))
        (line_joined since before next client place on number (line_of rings on) (omega (arith, are.one_each, stands_within before client place Inside inside)) early inside is (are.each on)))
    | inr differs ↦ subst (λ (line : List ℕ). IsLine (set since client (number + 1)) next condition line) (sym (get_or-set_other rings on condition new [] differs))
        (other_line since before next client place on number condition (line_of rings condition) differs inside is (are.each condition))
  ];
}
  where
    new : List ℕ
    new = line_of rings on ++ client ∷ []

-- ---- there is room in a line for each client

pub line_is_short : (since : List ℕ) (standings : List Standing) (condition client : ℕ) (place : Place) (stage : Stage (List Note)) (line : List ℕ) → IsLine since standings condition line → StandsAt standings client place stage → IsQuiet stage
    → length line < length standings
line_is_short since standings condition client place stage line lined stood quiet =
    omega (arith, pigeonhole (length line + 1) (length standings) number into one_to_one)
  where
    -- the clients of the line, and this one
    number : ℕ → ℕ
    number i = get_or (line ++ client ∷ []) i 0

    whole : AllPairs (λ one other. one ≡ other → ⊥) (line ++ client ∷ [])
    whole = all_pairs_push (λ one other. one ≡ other → ⊥) line client
        (λ i j d below within same. omega (arith, lined.rising i j d below within, ap (λ (who : ℕ). get_or since who 0) same))
        (λ k d below same. quiet condition (one_stage standings client
        (lined.only client (subst (λ (who : ℕ). Contains line who) same (Contains-get_or line k d below))).0 place (Waiting condition) stage
        (lined.only client (subst (λ (who : ℕ). Contains line who) same (Contains-get_or line k d below))).1 stood))

    into : (i : ℕ) → i < length line + 1 → number i < length standings
    into i below = elim (Contains-push_cases line client (number i) (Contains-get_or (line ++ client ∷ []) i 0 (omega (arith, below, length_push line client)))) [
      | inl old ↦ let waits = lined.only (number i) old in stands_within standings (number i) waits.0 (Waiting condition) waits.1
      | inr same ↦ omega (arith, same, stands_within standings client place stage stood)
    ]

    one_to_one : (i j : ℕ) → i < length line + 1 → j < length line + 1 → number i ≡ number j → i ≡ j
    one_to_one i j first second same = elim (cases_eq i j) [
      | inl is ↦ is
      | inr differs ↦ elim (apart i j differs) [
        | inl below ↦ absurd (whole i j 0 below (omega (arith, second, length_push line client)) same)
        | inr above ↦ absurd (whole j i 0 above (omega (arith, first, length_push line client)) (sym same))
      ]
    ]
      where
        apart : (a b : ℕ) → (a ≡ b → ⊥) → (a < b) ⊎ (b < a)
        apart zero zero differ = absurd (differ refl)
        apart zero (suc b) differ = inl (omega arith)
        apart (suc a) zero differ = inr (omega arith)
        apart (suc a) (suc b) differ = elim (apart a b (λ same. differ (ap suc same))) [
          | inl below ↦ inl (omega (arith, below))
          | inr above ↦ inr (omega (arith, above))
        ]
