-- The lines of a plan, one kind after the other. Bytes: 98 is `b`, 99 is `c`, 107 is `k`, 115 `s`.
use Rattle.std.proofs.Common.{◌≡◌, ℕ, zero, suc, ◌+◌, ◌<◌, ◌≤◌, List, [], ◌∷◌, ◌++◌, length, get_or, Option, Some, None, codes, decimal, refl, sym, ap, subst, ◌∙◌, append_assoc, append-nil, arith}
use Rattle.std.specs.List.{flat_map, zip, enumerate_from}
use Rattle.std.proofs.lemmas.List.{append_cancel_left}
use Rattle.std.proofs.lemmas.List.Elements.{All-nil, All-cons}
use Rattle.std.specs.Prelude.{All, MatchOption}
use Rattle.std.proofs.lemmas.Option.{get_or_from_slice_get}
use Rattle.lang_monitor.specs.declared.candidate.Candidate.{Candidate}
use Rattle.lang_monitor.specs.declared.monitor.Block.{Block}
use Rattle.lang_monitor.specs.declared.monitor.Condition.{Condition}
use Rattle.lang_monitor.specs.Candidates.{AreSomeOf, candidates_of}
use Rattle.lang_monitor.specs.MonitorParts.{MonitorParts}
use Rattle.machine_events.specs.declared.plan.CondKind.{CondKind}
use Rattle.machine_events.specs.declared.plan.CondKind.TheVariants as kinds
use Rattle.machine_events.specs.declared.plan.Note.{Note}
use Rattle.machine_events.specs.declared.plan.Plan.{Plan}
use Rattle.machine_events.specs.PlanText.{block_name, block_text, blocks_text, condition_text, conditions_text, kept_text, notes_text, plan_text}
use Rattle.lang_base.proofs.Cuts.{same_first}
use Rattle.report_verdict.specs.Reports.{AreNotesOf, IsPlanOf}
use Rattle.report_verdict.proofs.Pairs.{at_place}
use Rattle.report_proofs.proofs.Fronts.{AreGoing, going_end, going_more, going_none}
use Rattle.report_proofs.specs.Readings.{IsPlanRead, IsTextOfPlan}
use Rattle.report_proofs.specs.Fronts.{Anything, AreFor, IsAfterKept, IsFront, IsNoFront, lines_of}
use Rattle.report_proofs.specs.inner.Reading.{line_of_kind, parts_text}

-- ---- the line of a condition

after_number : (number : ℕ) (shown : List ℕ) (kind : CondKind) (more : List ℕ) (word : List ℕ)
    → codes "condition " ++ decimal number ++ codes " " ++ word ++ codes ": " ++ shown ++ codes "\n" ++ more
    ≡ (codes "condition " ++ decimal number ++ codes " ") ++
    (word ++ (codes ": " ++ (shown ++ (codes "\n" ++ more))))
after_number number shown kind more word =
    let head : List ℕ = codes "condition " ++ decimal number ++ codes " " in
    append_assoc (head ++ word ++ codes ": " ++ shown) (codes "\n") more ∙ append_assoc (head ++ word ++ codes ": ") shown (codes "\n" ++ more)
    ∙ append_assoc (head ++ word) (codes ": ") (shown ++ (codes "\n" ++ more)) ∙ append_assoc head word (codes ": " ++ (shown ++ (codes "\n" ++ more)))

differ : (number : ℕ) (shown more after : List ℕ)
    → line_of_kind number shown kinds.Signal ++ more
    ≡ line_of_kind number shown kinds.Broadcast ++ after → ⊥
differ number shown more after same =
    let head : List ℕ = codes "condition " ++ decimal number ++ codes " " in
    let one : List ℕ = codes ": " ++ (shown ++ (codes "\n" ++ more)) in
    let two : List ℕ = codes ": " ++ (shown ++ (codes "\n" ++ after)) in
    omega (
      arith,
      same_first 115 98 (codes "ignal" ++ one) (codes "roadcast" ++ two)
          (append_cancel_left head (codes "signal" ++ one) (codes "broadcast" ++ two)
          (sym (after_number number shown kinds.Signal more (codes "signal")) ∙ same ∙ after_number number shown kinds.Broadcast after (codes "broadcast"))),
    )

pub kind_front : (number : ℕ) (shown bytes rest : List ℕ) (kind : CondKind)
    → line_of_kind number shown kind ++ rest ≡ bytes
    → IsFront CondKind Anything Anything (line_of_kind number shown) bytes kind rest
kind_front number shown bytes rest kind here = record {
  holds = tt;
  begins = here;
  only = λ other more is ends same. by_kinds kind other more here same;
}
  where
    by_kinds : (kind other : CondKind) (more : List ℕ)
        → line_of_kind number shown kind ++ rest ≡ bytes
        → line_of_kind number shown other ++ more ≡ bytes → (other ≡ kind) × (more ≡ rest)
    by_kinds kinds.Signal kinds.Signal more here same = (refl, append_cancel_left (line_of_kind number shown kinds.Signal) more rest (same ∙ sym here))
    by_kinds kinds.Broadcast kinds.Broadcast more here same = (refl, append_cancel_left (line_of_kind number shown kinds.Broadcast) more rest (same ∙ sym here))
    by_kinds kinds.Signal kinds.Broadcast more here same = absurd (differ number shown rest more (here ∙ sym same))
    by_kinds kinds.Broadcast kinds.Signal more here same = absurd (differ number shown more rest (same ∙ sym here))

pub kind_none : (number : ℕ) (shown bytes : List ℕ)
    → ((rest : List ℕ) → line_of_kind number shown kinds.Signal ++ rest ≡ bytes → ⊥)
    → ((rest : List ℕ) → line_of_kind number shown kinds.Broadcast ++ rest ≡ bytes → ⊥)
    → IsNoFront CondKind Anything Anything (line_of_kind number shown) bytes
kind_none number shown bytes signal broadcast kinds.Signal more is ends same = signal more same
kind_none number shown bytes signal broadcast kinds.Broadcast more is ends same = broadcast more same

-- ---- the lines of conditions

abbrev pub numbered_line : ℕ × Condition → CondKind → List ℕ
numbered_line one kind = condition_text one.0 one.1 kind

numbered_lines : (number : ℕ) (conditions : List Condition) (all : List CondKind)
    → flat_map (λ one. condition_text one.0 one.1.0 one.1.1)
    (enumerate_from number (zip conditions all))
    ≡ lines_of numbered_line (enumerate_from number conditions) all
numbered_lines number [] all = refl
numbered_lines number (condition ∷ conditions) [] = refl
numbered_lines number (condition ∷ conditions) (kind ∷ all) = ap (λ text. condition_text number condition kind ++ text) (numbered_lines (number + 1) conditions all)

conditions_lines : (conditions : List Condition) (all : List CondKind)
    → conditions_text conditions all ≡ lines_of numbered_line (enumerate_from 1 conditions) all
conditions_lines conditions all = numbered_lines 1 conditions all

length_numbered : {X : Type 0} (number : ℕ) (xs : List X)
    → length (enumerate_from number xs) ≡ length xs
length_numbered number [] = refl
length_numbered number (x ∷ xs) = omega (arith, length_numbered (number + 1) xs)

-- the values of items are those of their numbered list
for_numbered : {I Y : Type 0} (number : ℕ) (Is : Y → Type 0) (items : List I) (values : List Y)
    → AreFor items Is values → AreFor (enumerate_from number items) Is values
for_numbered number Is items values are = record { count = are.count ∙ sym (length_numbered number items); each = are.each }

from_numbered : {I Y : Type 0} (number : ℕ) (Is : Y → Type 0) (items : List I) (values : List Y)
    → AreFor (enumerate_from number items) Is values → AreFor items Is values
from_numbered number Is items values are = record { count = are.count ∙ length_numbered number items; each = are.each }

kinds_front : (conditions : List Condition) (bytes : List ℕ) (all : List CondKind) (rest : List ℕ)
    → IsFront (List CondKind) (AreFor (enumerate_from 1 conditions) Anything) Anything
    (lines_of numbered_line (enumerate_from 1 conditions)) bytes all rest
    → IsFront (List CondKind) (AreFor conditions Anything) Anything
    (conditions_text conditions) bytes all rest
kinds_front conditions bytes all rest front = record {
  holds = from_numbered 1 Anything conditions all front.holds;
  begins = ap (λ text. text ++ rest) (conditions_lines conditions all) ∙ front.begins;
  only = λ other more are ends same.
      front.only other more (for_numbered 1 Anything conditions other are) ends (ap (λ text. text ++ more) (sym (conditions_lines conditions other)) ∙ same);
}

kinds_none : (conditions : List Condition) (bytes : List ℕ)
    →
    ((others : List CondKind) (more : List ℕ) → AreFor (enumerate_from 1 conditions) Anything others → lines_of numbered_line (enumerate_from 1 conditions) others ++ more ≡ bytes → ⊥)
    → IsNoFront (List CondKind) (AreFor conditions Anything) Anything
    (conditions_text conditions) bytes
kinds_none conditions bytes none other more are ends same =
    none other more (for_numbered 1 Anything conditions other are) (ap (λ text. text ++ more) (sym (conditions_lines conditions other)) ∙ same)

abbrev numbered : {X : Type 0} → ℕ → X → ℕ × X
numbered number x = (number, x)

numbered_at : {X : Type 0} (number : ℕ) (xs : List X) (i : ℕ) (x d : X) → i < length xs
    → x ≡ get_or xs i d
    → numbered (number + i) x ≡ get_or (enumerate_from number xs) i (numbered 0 d)
numbered_at number [] i x d low is = absurd (omega (arith, low))
numbered_at {X} number (first ∷ xs) zero x d low is = let at : number + zero ≡ number = omega arith in λ i. numbered (at i) (is i)
numbered_at {X} number (first ∷ xs) (suc i) x d low is =
    let at : number + suc i ≡ number + 1 + i = omega arith in
    ap (λ (n : ℕ). numbered n x) at ∙ numbered_at (number + 1) xs i x d (omega (arith, low)) is

item_at : (conditions : List Condition) (i : ℕ) (condition d : Condition) → i < length conditions
    → condition ≡ get_or conditions i d
    → numbered (i + 1) condition ≡ get_or (enumerate_from 1 conditions) i (numbered 0 d)
item_at conditions i condition d low is =
    let at : i + 1 ≡ 1 + i = omega arith in
    ap (λ (n : ℕ). numbered n condition) at ∙ numbered_at 1 conditions i condition d low is

pub kinds_more : (conditions : List Condition) (bytes : List ℕ) (i : ℕ) (done : List CondKind)
    (rest : List ℕ) (condition d : Condition) (kind : CondKind) (next : List ℕ)
    → i < length conditions
    → condition ≡ get_or conditions i d
    → AreGoing numbered_line Anything (enumerate_from 1 conditions) bytes i done rest
    → IsFront CondKind Anything Anything (condition_text (i + 1) condition) rest kind next
    → AreGoing numbered_line Anything (enumerate_from 1 conditions) bytes (i + 1)
    (done ++ kind ∷ []) next
kinds_more conditions bytes i done rest condition d kind next low is going front =
    going_more numbered_line Anything (enumerate_from 1 conditions) bytes i done rest (numbered (i + 1) condition) (numbered 0 d) kind next (omega (arith, low, length_numbered 1 conditions))
    (item_at conditions i condition d low is) going tt front.begins (λ other after holds same. front.only other after tt tt same)

pub kinds_stop : (conditions : List Condition) (bytes : List ℕ) (i : ℕ) (done : List CondKind)
    (rest : List ℕ) (condition d : Condition) → i < length conditions
    → condition ≡ get_or conditions i d
    → AreGoing numbered_line Anything (enumerate_from 1 conditions) bytes i done rest
    → IsNoFront CondKind Anything Anything (condition_text (i + 1) condition) rest
    → IsNoFront (List CondKind) (AreFor conditions Anything) Anything
    (conditions_text conditions) bytes
kinds_stop conditions bytes i done rest condition d low is going none =
    kinds_none conditions bytes
    (going_none numbered_line Anything (enumerate_from 1 conditions) bytes i done rest (numbered (i + 1) condition) (numbered 0 d) (omega (arith, low, length_numbered 1 conditions))
    (item_at conditions i condition d low is) going (λ other after holds same. none other after tt tt same))

pub kinds_end : (conditions : List Condition) (bytes : List ℕ) (i : ℕ) (done : List CondKind)
    (rest : List ℕ) → length conditions ≤ i
    → AreGoing numbered_line Anything (enumerate_from 1 conditions) bytes i done rest
    → IsFront (List CondKind) (AreFor conditions Anything) Anything
    (conditions_text conditions) bytes done rest
kinds_end conditions bytes i done rest end going =
    kinds_front conditions bytes done rest
    (going_end numbered_line Anything Anything (enumerate_from 1 conditions) bytes i done rest (omega (arith, end, length_numbered 1 conditions)) going)

-- ---- the lines of blocks

pub block_parts : (monitor : MonitorParts) (block : ℕ) (notes : List Note)
    → block_text monitor block notes
    ≡ (codes "block " ++ block_name monitor block ++ codes ": ") ++ (notes_text notes ++ codes "\n")
block_parts monitor block notes = append_assoc (codes "block " ++ block_name monitor block ++ codes ": ") (notes_text notes) (codes "\n")

abbrev pub block_line : MonitorParts → ℕ × Block → List Note → List ℕ
block_line monitor one notes = block_text monitor one.0 notes

block_lines : (monitor : MonitorParts) (number : ℕ) (blocks : List Block) (lists : List (List Note))
    → length lists ≡ length blocks
    → flat_map (λ one. block_text monitor one.0 one.1) (enumerate_from number lists)
    ≡ lines_of (block_line monitor) (enumerate_from number blocks) lists
block_lines monitor number [] [] many = refl
block_lines monitor number [] (notes ∷ lists) many = absurd (omega (arith, many))
block_lines monitor number (block ∷ blocks) [] many = absurd (omega (arith, many))
block_lines monitor number (block ∷ blocks) (notes ∷ lists) many = ap (λ text. block_text monitor number notes ++ text) (block_lines monitor (number + 1) blocks lists (omega (arith, many)))

lists_front : (monitor : MonitorParts) (bytes : List ℕ) (lists : List (List Note)) (rest : List ℕ)
    → IsFront (List (List Note))
    (AreFor (enumerate_from 0 monitor.blocks) (AreNotesOf monitor)) Anything
    (lines_of (block_line monitor) (enumerate_from 0 monitor.blocks)) bytes lists rest
    → IsFront (List (List Note)) (AreFor monitor.blocks (AreNotesOf monitor)) Anything
    (blocks_text monitor) bytes lists rest
lists_front monitor bytes lists rest front = record {
  holds = from_numbered 0 (AreNotesOf monitor) monitor.blocks lists front.holds;
  begins = ap (λ text. text ++ rest) (block_lines monitor 0 monitor.blocks lists (from_numbered 0 (AreNotesOf monitor) monitor.blocks lists front.holds).count) ∙ front.begins;
  only = λ other more are ends same.
      front.only other more (for_numbered 0 (AreNotesOf monitor) monitor.blocks other are) ends (ap (λ text. text ++ more) (sym (block_lines monitor 0 monitor.blocks other are.count)) ∙ same);
}

some_item : (blocks : List Block) (i : ℕ) → i < length blocks →
    (block : Block) × (numbered i block ≡ get_or (enumerate_from 0 blocks) i (numbered 0 block))
some_item blocks i low =
    let found = at_place blocks i low in
    let at : i ≡ 0 + i = omega arith in
    (found.0, ap (λ (n : ℕ). numbered n found.0) at ∙ numbered_at 0 blocks i found.0 found.0 low (sym (get_or_from_slice_get blocks i found.0 found.0 found.1)))

pub lists_more : (monitor : MonitorParts) (bytes : List ℕ) (i : ℕ) (done : List (List Note))
    (rest : List ℕ) (notes : List Note) (next : List ℕ) → i < length monitor.blocks
    → AreGoing (block_line monitor) (AreNotesOf monitor)
    (enumerate_from 0 monitor.blocks) bytes i done rest
    → IsFront (List Note) (AreNotesOf monitor) Anything (block_text monitor i) rest notes next
    → AreGoing (block_line monitor) (AreNotesOf monitor) (enumerate_from 0 monitor.blocks) bytes
    (i + 1) (done ++ notes ∷ []) next
lists_more monitor bytes i done rest notes next low going front =
    let item = some_item monitor.blocks i low in
    going_more (block_line monitor) (AreNotesOf monitor) (enumerate_from 0 monitor.blocks) bytes i done rest (numbered i item.0) (numbered 0 item.0) notes next (omega (arith, low, length_numbered 0 monitor.blocks))
    item.1 going front.holds front.begins (λ other after holds same. front.only other after holds tt same)

pub lists_stop : (monitor : MonitorParts) (bytes : List ℕ) (i : ℕ) (done : List (List Note))
    (rest : List ℕ) → i < length monitor.blocks
    → AreGoing (block_line monitor) (AreNotesOf monitor)
    (enumerate_from 0 monitor.blocks) bytes i done rest
    → IsNoFront (List Note) (AreNotesOf monitor) Anything (block_text monitor i) rest
    → IsNoFront (List (List Note)) (AreFor monitor.blocks (AreNotesOf monitor)) Anything
    (blocks_text monitor) bytes
lists_stop monitor bytes i done rest low going none others more are ends same =
    let item = some_item monitor.blocks i low in
    going_none (block_line monitor) (AreNotesOf monitor) (enumerate_from 0 monitor.blocks) bytes i done rest (numbered i item.0) (numbered 0 item.0) (omega (arith, low, length_numbered 0 monitor.blocks))
    item.1 going (λ other after holds begins. none other after holds tt begins) others more (for_numbered 0 (AreNotesOf monitor) monitor.blocks others are)
    (ap (λ text. text ++ more) (sym (block_lines monitor 0 monitor.blocks others are.count)) ∙ same)

pub lists_end : (monitor : MonitorParts) (bytes : List ℕ) (i : ℕ) (done : List (List Note))
    (rest : List ℕ) → length monitor.blocks ≤ i
    → AreGoing (block_line monitor) (AreNotesOf monitor)
    (enumerate_from 0 monitor.blocks) bytes i done rest
    → IsFront (List (List Note)) (AreFor monitor.blocks (AreNotesOf monitor)) Anything
    (blocks_text monitor) bytes done rest
lists_end monitor bytes i done rest end going =
    lists_front monitor bytes done rest
    (going_end (block_line monitor) (AreNotesOf monitor) Anything (enumerate_from 0 monitor.blocks) bytes i done rest (omega (arith, end, length_numbered 0 monitor.blocks)) going)

-- ---- no line of a condition or a block is a candidate's

other_after : (byte : ℕ) (text : List ℕ) → (byte ≡ 107 → ⊥) → IsAfterKept (byte ∷ text)
other_after byte text differs more same = differs (same_first byte 107 text (codes "eep " ++ more) same)

after_blocks : (monitor : MonitorParts) (number : ℕ) (lists : List (List Note)) (rest : List ℕ)
    → IsAfterKept rest
    → IsAfterKept
    (flat_map (λ one. block_text monitor one.0 one.1) (enumerate_from number lists) ++ rest)
after_blocks monitor number [] rest after = after
after_blocks monitor number (notes ∷ lists) rest after = other_after 98 _ (λ is. omega (arith, is))

after_conditions : (number : ℕ) (conditions : List Condition) (all : List CondKind) (rest : List ℕ)
    → IsAfterKept rest
    → IsAfterKept
    (flat_map (λ one. condition_text one.0 one.1.0 one.1.1) (enumerate_from number (zip conditions all)) ++ rest)
after_conditions number [] all rest after = after
after_conditions number (condition ∷ conditions) [] rest after = after
after_conditions number (condition ∷ conditions) (kind ∷ all) rest after = other_after 99 _ (λ is. omega (arith, is))

-- ---- the parts of a plan

parts_then : (monitor : MonitorParts) (plan : Plan) (more : List ℕ)
    → parts_text monitor plan ++ more
    ≡ flat_map (kept_text monitor.fields) plan.kept ++
    (conditions_text monitor.conditions plan.kinds ++ (blocks_text monitor plan.notes ++ more))
parts_then monitor plan more =
    let kept : List ℕ = flat_map (kept_text monitor.fields) plan.kept in
    let conditions : List ℕ = conditions_text monitor.conditions plan.kinds in
    let blocks : List ℕ = blocks_text monitor plan.notes in
    append_assoc kept (conditions ++ blocks) more ∙ ap (λ text. kept ++ text) (append_assoc conditions blocks more)

module _ (monitor : MonitorParts) where
  abbrev KeptFront : List ℕ → List Candidate → List ℕ → Type 0
  KeptFront = IsFront (List Candidate) (λ kept. AreSomeOf kept (candidates_of monitor)) IsAfterKept (λ kept. flat_map (kept_text monitor.fields) kept)

  abbrev KindsFront : List ℕ → List CondKind → List ℕ → Type 0
  KindsFront = IsFront (List CondKind) (AreFor monitor.conditions Anything) Anything (conditions_text monitor.conditions)

  abbrev ListsFront : List ℕ → List (List Note) → List ℕ → Type 0
  ListsFront = IsFront (List (List Note)) (AreFor monitor.blocks (AreNotesOf monitor)) Anything (blocks_text monitor)

  any_kinds : (all : List CondKind) → All Anything all
  any_kinds [] = All-nil Anything
  any_kinds (kind ∷ all) = All-cons Anything kind all tt (any_kinds all)

  -- after the kept candidates
  past_kept : (bytes two : List ℕ) (kept : List Candidate) → KeptFront bytes kept two →
      (other : Plan) (more : List ℕ) → IsPlanOf monitor other → IsAfterKept more
      → parts_text monitor other ++ more ≡ bytes
      → (other.kept ≡ kept)
      × (conditions_text monitor.conditions other.kinds ++ (blocks_text monitor other.notes ++ more) ≡ two)
  past_kept bytes two kept front other more is after same =
      front.only other.kept (conditions_text monitor.conditions other.kinds ++ (blocks_text monitor other.notes ++ more)) is.kept
      (after_conditions 1 monitor.conditions other.kinds (blocks_text monitor other.notes ++ more) (after_blocks monitor 0 other.notes more after))
      (sym (parts_then monitor other more) ∙ same)

  for_kinds : (other : Plan) → IsPlanOf monitor other
      → AreFor monitor.conditions Anything other.kinds
  for_kinds other is = record { count = is.kinds; each = any_kinds other.kinds }

  for_lists : (other : Plan) → IsPlanOf monitor other
      → AreFor monitor.blocks (AreNotesOf monitor) other.notes
  for_lists other is = record { count = is.notes; each = is.each }

  parts_found : (bytes two three rest : List ℕ) (plan : Plan) → KeptFront bytes plan.kept two
      → KindsFront two plan.kinds three → ListsFront three plan.notes rest
      → IsFront Plan (IsPlanOf monitor) IsAfterKept (parts_text monitor) bytes plan rest
  parts_found bytes two three rest plan kept kinds lists = record {
    holds = record { kept = kept.holds; kinds = kinds.holds.count; notes = lists.holds.count; each = lists.holds.each };
    begins =
        parts_then monitor plan rest
        ∙ ap (λ text. flat_map (kept_text monitor.fields) plan.kept ++ (conditions_text monitor.conditions plan.kinds ++ text)) lists.begins
        ∙ ap (λ text. flat_map (kept_text monitor.fields) plan.kept ++ text) kinds.begins
        ∙ kept.begins;
    only = λ other more is after same.
        let one = past_kept bytes two plan.kept kept other more is after same in
        let next = kinds.only other.kinds (blocks_text monitor other.notes ++ more) (for_kinds other is) tt one.1 in
        let last = lists.only other.notes more (for_lists other is) tt next.1 in
        (λ i. record { kept = one.0 i; kinds = next.0 i; notes = last.0 i }, last.1);
  }

  pub parts_made : (bytes two three rest : List ℕ) (kept : List Candidate) (all : List CondKind)
      (lists : List (List Note)) (plan : Plan) → plan.kept ≡ kept → plan.kinds ≡ all
      → plan.notes ≡ lists
      → KeptFront bytes kept two → KindsFront two all three → ListsFront three lists rest
      → IsFront Plan (IsPlanOf monitor) IsAfterKept (parts_text monitor) bytes plan rest
  parts_made bytes two three rest kept all lists plan one next last first second third =
      parts_found bytes two three rest plan (subst (λ (own : List Candidate). KeptFront bytes own two) (sym one) first) (subst (λ (own : List CondKind). KindsFront two own three) (sym next) second)
      (subst (λ (own : List (List Note)). ListsFront three own rest) (sym last) third)

  pub no_kinds : (bytes two : List ℕ) (kept : List Candidate) → KeptFront bytes kept two
      → IsNoFront (List CondKind) (AreFor monitor.conditions Anything) Anything
      (conditions_text monitor.conditions) two
      → IsNoFront Plan (IsPlanOf monitor) IsAfterKept (parts_text monitor) bytes
  no_kinds bytes two kept front none other more is after same =
      none other.kinds (blocks_text monitor other.notes ++ more) (for_kinds other is) tt (past_kept bytes two kept front other more is after same).1

  pub no_lists : (bytes two three : List ℕ) (kept : List Candidate) (all : List CondKind)
      → KeptFront bytes kept two → KindsFront two all three
      → IsNoFront (List (List Note)) (AreFor monitor.blocks (AreNotesOf monitor)) Anything
      (blocks_text monitor) three
      → IsNoFront Plan (IsPlanOf monitor) IsAfterKept (parts_text monitor) bytes
  no_lists bytes two three kept all front kinds none other more is after same =
      none other.notes more (for_lists other is) tt
      (kinds.only other.kinds (blocks_text monitor other.notes ++ more) (for_kinds other is) tt (past_kept bytes two kept front other more is after same).1).1

-- ---- with the first line

pub plan_parts : (monitor : MonitorParts) (plan : Plan)
    → plan_text monitor plan
    ≡ (codes "plan " ++ monitor.name ++ codes "\n") ++ parts_text monitor plan
plan_parts monitor plan =
    let head : List ℕ = codes "plan " ++ monitor.name ++ codes "\n" in
    let kept : List ℕ = flat_map (kept_text monitor.fields) plan.kept in
    let conditions : List ℕ = conditions_text monitor.conditions plan.kinds in
    let blocks : List ℕ = blocks_text monitor plan.notes in
    append_assoc (head ++ kept) conditions blocks ∙ append_assoc head kept (conditions ++ blocks)

-- nothing is left
after_nothing : IsAfterKept []
after_nothing more same = absurd (omega (arith, ap {B = ℕ} length same))

plan_whole : (monitor : MonitorParts) (bytes rest : List ℕ) (plan : Plan)
    → IsFront Plan (IsPlanOf monitor) IsAfterKept (plan_text monitor) bytes plan rest → rest ≡ []
    → IsTextOfPlan monitor bytes plan
plan_whole monitor bytes rest plan front end = record {
  is = front.holds;
  text = sym (append-nil (plan_text monitor plan)) ∙ ap (λ text. plan_text monitor plan ++ text) (sym end) ∙ front.begins;
  only = λ other is same. (front.only other [] is after_nothing (append-nil (plan_text monitor other) ∙ same)).0;
}

plan_left : (monitor : MonitorParts) (bytes rest : List ℕ) (plan : Plan)
    → IsFront Plan (IsPlanOf monitor) IsAfterKept (plan_text monitor) bytes plan rest
    → (rest ≡ [] → ⊥)
    → (other : Plan) → IsPlanOf monitor other → plan_text monitor other ≡ bytes → ⊥
plan_left monitor bytes rest plan front some other is same =
    some (sym (front.only other [] is after_nothing (append-nil (plan_text monitor other) ∙ same)).1)

pub plan_none : (monitor : MonitorParts) (bytes : List ℕ)
    → IsNoFront Plan (IsPlanOf monitor) IsAfterKept (plan_text monitor) bytes
    → (other : Plan) → IsPlanOf monitor other → plan_text monitor other ≡ bytes → ⊥
plan_none monitor bytes none other is same = none other [] is after_nothing (append-nil (plan_text monitor other) ∙ same)

pub plan_answer : (monitor : MonitorParts) (bytes rest : List ℕ) (plan : Plan)
    (answer : Option Plan)
    → IsFront Plan (IsPlanOf monitor) IsAfterKept (plan_text monitor) bytes plan rest
    → MatchOption answer (rest ≡ [] → ⊥) (λ read. (read ≡ plan) × (rest ≡ []))
    → IsPlanRead monitor bytes answer
plan_answer monitor bytes rest plan None front some = plan_left monitor bytes rest plan front some
plan_answer monitor bytes rest plan (Some read) front is =
    subst (IsTextOfPlan monitor bytes) (sym is.0) (plan_whole monitor bytes rest plan front is.1)
