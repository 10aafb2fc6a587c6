-- The parts of a body's paths, made from its end.
use Rattle.std.proofs.Common.{◌≡◌, inl, inr, ℕ, zero, suc, ◌+◌, ◌-◌, ◌<◌, ◌≤◌, Bool, true, false, ◌&&◌, List, [], ◌∷◌, ◌++◌, map, sum_by, length, get_or, drop, Option, Some, None, sym, subst, arith, ap, refl, ◌∙◌}
use Rattle.std.specs.List.{list_all, flat_map}
use Rattle.std.proofs.lemmas.Bool.{and_parts}
use Rattle.std.proofs.lemmas.List.{append-nil, append_assoc, map-append}
use Rattle.std.proofs.lemmas.List.Concat.{flat_map-append}
use Rattle.std.proofs.lemmas.List.Sums.{sum_by-cons}
use Rattle.logic_linear.specs.declared.formula.Formula.{Formula}
use Rattle.logic_linear.specs.Measures.{MOST_NODES}
use Rattle.logic_linear.specs.Negation.{negation}
use Rattle.logic_linear.specs.Substitution.{is_formula_within}
use Rattle.logic_linear.specs.declared.substitution.Put.{Put as Assignment}
use Rattle.lang_monitor.specs.declared.monitor.Stmt.{Stmt}
use Rattle.lang_monitor.specs.declared.monitor.Stmt.TheVariants as statements
use Rattle.logic_wp.specs.declared.step.Step.{Step}
use Rattle.logic_wp.specs.declared.step.Step.TheVariants.{Put, Assume}
use Rattle.logic_wp.specs.Paths.{assuming, body_paths, branch_paths, continued, statement_paths}
use Rattle.logic_wp.specs.NegatedQueries.{part_before, path_part}
use Rattle.logic_wp.specs.Limits.{is_path_within}
use Rattle.logic_wp.specs.inner.Backward.{AreBefore, AreBeyond, AreMade, ArePartsOf, IsStepped, is_within_after, nodes_after, nodes_of_part, nodes_of_parts}
use Rattle.logic_wp.proofs.Parts.{both_hold, first_false, second_false}
use Rattle.logic_wp.proofs.PathNumbers.{if_paths, put_paths, statement_has_paths}
use Rattle.logic_wp.proofs.PathsMade.{dropped_at}
use Rattle.logic_wp.proofs.StepNodes.{cons_le, step_no_fewer}

abbrev pub Paths : Type 0
Paths = List (List Step)

-- the paths, each after the step
abbrev pub after_step : Step → Paths → Paths
after_step step paths = map (λ path. step ∷ path) paths

-- ---- truth values

fails_later : (a b c : Bool) → (a && b) ≡ false → (b ≡ false → c ≡ false) → (a && c) ≡ false
fails_later true b c e more = more e
fails_later false b c e more = refl

fails_after : (x a b c : Bool) → (a && b) ≡ false → (b ≡ false → c ≡ false) → ((x && a) && c) ≡ false
fails_after x true b c e more = second_false (x && true) c (more e)
fails_after true false b c e more = refl
fails_after false false b c e more = refl

same_and : (x a l m : Bool) → a ≡ true → l ≡ m → ((x && a) && l) ≡ (x && m)
same_and true a l m e f = rw e f
same_and false a l m e f = refl

-- ---- one step

parts_after : (post : Formula) (step : Step) (rests : Paths) → map (part_before step) (map (path_part post) rests) ≡ map (path_part post) (after_step step rests)
parts_after post step [] = refl
parts_after post step (rest ∷ rests) = ap (λ parts. part_before step (path_part post rest) ∷ parts) (parts_after post step rests)

kept_after : (post : Formula) (step : Step) (rests : Paths) → list_all (is_path_within post) rests ≡ true
    → list_all (is_path_within post) (after_step step rests) ≡ list_all (is_within_after step) (map (path_part post) rests)
kept_after post step [] e = refl
kept_after post step (rest ∷ rests) e =
    let both = and_parts (is_path_within post rest) (list_all (is_path_within post) rests) e in
    same_and (is_within_after step (path_part post rest)) (is_path_within post rest) _ _ both.0 (kept_after post step rests both.1)

size_after : (post : Formula) (step : Step) (rests : Paths) → sum_by (nodes_after step) (map (path_part post) rests) ≡ nodes_of_parts post (after_step step rests)
size_after post step [] = refl
size_after post step (rest ∷ rests) =
    sum_by-cons (nodes_after step) (path_part post rest) (map (path_part post) rests)
    ∙ ap (λ (n : ℕ). nodes_after step (path_part post rest) + n) (size_after post step rests)
    ∙ sym (sum_by-cons (nodes_of_part post) (step ∷ rest) (after_step step rests))

pub stepping : (post : Formula) (step : Step) (rests : Paths) (parts : List Formula) (made : Option (List Formula))
    → ArePartsOf post rests parts → IsStepped step parts made → AreMade post (after_step step rests) made
stepping post step rests parts (Some made) are is = record {
  made = is.0 ∙ ap (map (part_before step)) are.made ∙ parts_after post step rests;
  kept = kept_after post step rests are.kept ∙ ap (list_all (is_within_after step)) (sym are.made) ∙ is.1;
}
stepping post step rests parts None are (inl e) = inl (kept_after post step rests are.kept ∙ ap (list_all (is_within_after step)) (sym are.made) ∙ e)
stepping post step rests parts None are (inr more) =
    inr (subst (λ (n : ℕ). MOST_NODES < n) (ap (λ (each : List Formula). sum_by (nodes_after step) each) are.made ∙ size_after post step rests) more)

fails_step : (post : Formula) (step : Step) (paths : Paths) → list_all (is_path_within post) paths ≡ false → list_all (is_path_within post) (after_step step paths) ≡ false
fails_step post step [] e = absurd cc
fails_step post step (path ∷ paths) e =
    fails_after (is_within_after step (path_part post path)) (is_path_within post path) (list_all (is_path_within post) paths) _ e (fails_step post step paths)

grows_step : (post : Formula) (step : Step) (paths : Paths) → nodes_of_parts post paths ≤ nodes_of_parts post (after_step step paths)
grows_step post step [] = omega arith
grows_step post step (path ∷ paths) = cons_le (nodes_of_part post) (nodes_of_part post) path paths (step ∷ path) (after_step step paths) (step_no_fewer step (path_part post path)) (grows_step post step paths)

more_beyond : (n a b : ℕ) → n < a → a ≤ b → n < b
more_beyond n a b e f = omega arith

pub beyond_step : (post : Formula) (step : Step) (paths : Paths) → AreBeyond post paths → AreBeyond post (after_step step paths)
beyond_step post step paths (inl e) = inl (fails_step post step paths e)
beyond_step post step paths (inr more) = inr (more_beyond _ _ _ more (grows_step post step paths))

pub assuming_side : (post : Formula) (step : Step) (paths : Paths) (side : Option (List Formula)) → side ≡ None → AreMade post paths side → AreMade post (after_step step paths) None
assuming_side post step paths side none are = beyond_step post step paths (subst (AreMade post paths) none are)

-- ---- paths beside others

fails_left : (test : List Step → Bool) (paths more : Paths) → list_all test paths ≡ false → list_all test (paths ++ more) ≡ false
fails_left test [] more e = absurd cc
fails_left test (path ∷ paths) more e = fails_later (test path) (list_all test paths) _ e (fails_left test paths more)

fails_right : (test : List Step → Bool) (paths more : Paths) → list_all test more ≡ false → list_all test (paths ++ more) ≡ false
fails_right test [] more e = e
fails_right test (path ∷ paths) more e = second_false (test path) _ (fails_right test paths more e)

hold_both : (test : List Step → Bool) (paths more : Paths) → list_all test paths ≡ true → list_all test more ≡ true → list_all test (paths ++ more) ≡ true
hold_both test [] more e f = f
hold_both test (path ∷ paths) more e f =
    let both = and_parts (test path) (list_all test paths) e in
    both_hold (test path) _ both.0 (hold_both test paths more both.1 f)

same_le : (n : ℕ) → n ≤ n
same_le n = omega arith

no_less : (n : ℕ) → 0 ≤ n
no_less n = omega arith

grows_left : (post : Formula) (paths more : Paths) → nodes_of_parts post paths ≤ nodes_of_parts post (paths ++ more)
grows_left post [] more = no_less _
grows_left post (path ∷ paths) more = cons_le (nodes_of_part post) (nodes_of_part post) path paths path (paths ++ more) (same_le (nodes_of_part post path)) (grows_left post paths more)

grows_right : (post : Formula) (paths more : Paths) → nodes_of_parts post more ≤ nodes_of_parts post (paths ++ more)
grows_right post [] more = same_le _
grows_right post (path ∷ paths) more = one_more _ _ _ (nodes_of_part post path) (sum_by-cons (nodes_of_part post) path (paths ++ more)) (grows_right post paths more)
  where
    one_more : (a m b c : ℕ) → m ≡ c + b → a ≤ b → a ≤ m
    one_more a m b c e h = omega arith

pub beyond_left : (post : Formula) (paths more : Paths) → AreBeyond post paths → AreBeyond post (paths ++ more)
beyond_left post paths more (inl e) = inl (fails_left (is_path_within post) paths more e)
beyond_left post paths more (inr large) = inr (more_beyond _ _ _ large (grows_left post paths more))

pub beyond_right : (post : Formula) (paths more : Paths) → AreBeyond post more → AreBeyond post (paths ++ more)
beyond_right post paths more (inl e) = inl (fails_right (is_path_within post) paths more e)
beyond_right post paths more (inr large) = inr (more_beyond _ _ _ large (grows_right post paths more))

pub left_missing : (post : Formula) (paths more : Paths) (firsts : Option (List Formula)) → firsts ≡ None → AreMade post paths firsts → AreMade post (paths ++ more) None
left_missing post paths more firsts none are = beyond_left post paths more (subst (AreMade post paths) none are)

pub right_missing : (post : Formula) (paths more : Paths) (seconds : Option (List Formula)) → seconds ≡ None → AreMade post more seconds → AreMade post (paths ++ more) None
right_missing post paths more seconds none are = beyond_right post paths more (subst (AreMade post more) none are)

pub both_made : (post : Formula) (paths more : Paths) (firsts seconds : Option (List Formula)) (first second all : List Formula)
    → firsts ≡ Some first → seconds ≡ Some second → all ≡ first ++ second → AreMade post paths firsts → AreMade post more seconds → AreMade post (paths ++ more) (Some all)
both_made post paths more firsts seconds first second all is other joined are those =
    let one : ArePartsOf post paths first = subst (AreMade post paths) is are in
    let two : ArePartsOf post more second = subst (AreMade post more) other those in
    record {
      made = joined ∙ ap (λ (parts : List Formula). parts ++ second) one.made ∙ ap (λ (parts : List Formula). map (path_part post) paths ++ parts) two.made ∙ sym (map-append (path_part post) paths more);
      kept = hold_both (is_path_within post) paths more one.kept two.kept;
    }

-- ---- continued paths

continued_step : (rests : Paths) (step : Step) (first : List Step) → continued rests (step ∷ first) ≡ after_step step (continued rests first)
continued_step [] step first = refl
continued_step (rest ∷ rests) step first = ap (λ (paths : Paths). (step ∷ (first ++ rest)) ∷ paths) (continued_step rests step first)

continued_steps : (rests : Paths) (step : Step) (firsts : Paths) → flat_map (continued rests) (after_step step firsts) ≡ after_step step (flat_map (continued rests) firsts)
continued_steps rests step [] = refl
continued_steps rests step (first ∷ firsts) =
    ap (λ (paths : Paths). paths ++ flat_map (continued rests) (after_step step firsts)) (continued_step rests step first)
    ∙ ap (λ (paths : Paths). after_step step (continued rests first) ++ paths) (continued_steps rests step firsts)
    ∙ sym (map-append (λ (path : List Step). step ∷ path) (continued rests first) (flat_map (continued rests) firsts))

one_continued : (rests : Paths) (step : Step) → flat_map (continued rests) ((step ∷ []) ∷ []) ≡ after_step step rests
one_continued rests step = append-nil (after_step step rests)

continued_path : (path second : List Step) (rests : Paths) → continued rests (path ++ second) ≡ continued (continued rests second) path
continued_path path second [] = refl
continued_path path second (rest ∷ rests) =
    ap (λ (first : List Step). first ∷ continued rests (path ++ second)) (append_assoc path second rest)
    ∙ ap (λ (paths : Paths). (path ++ (second ++ rest)) ∷ paths) (continued_path path second rests)

continued_again : (path : List Step) (seconds rests : Paths) → flat_map (continued rests) (continued seconds path) ≡ continued (flat_map (continued rests) seconds) path
continued_again path [] rests = refl
continued_again path (second ∷ seconds) rests =
    ap (λ (paths : Paths). paths ++ flat_map (continued rests) (continued seconds path)) (continued_path path second rests)
    ∙ ap (λ (paths : Paths). continued (continued rests second) path ++ paths) (continued_again path seconds rests)
    ∙ sym (map-append (λ (rest : List Step). path ++ rest) (continued rests second) (flat_map (continued rests) seconds))

all_again : (firsts seconds rests : Paths) → flat_map (continued rests) (flat_map (continued seconds) firsts) ≡ flat_map (continued (flat_map (continued rests) seconds)) firsts
all_again [] seconds rests = refl
all_again (first ∷ firsts) seconds rests =
    flat_map-append (continued rests) (continued seconds first) (flat_map (continued seconds) firsts)
    ∙ ap (λ (paths : Paths). paths ++ flat_map (continued rests) (flat_map (continued seconds) firsts)) (continued_again first seconds rests)
    ∙ ap (λ (paths : Paths). continued (flat_map (continued rests) seconds) first ++ paths) (all_again firsts seconds rests)

same_rests : (rests : Paths) → continued rests [] ≡ rests
same_rests [] = refl
same_rests (rest ∷ rests) = ap (λ (paths : Paths). rest ∷ paths) (same_rests rests)

no_body : (rests : Paths) → flat_map (continued rests) ([] ∷ []) ≡ rests
no_body rests = append-nil (continued rests []) ∙ same_rests rests

only_paths : (paths : Paths) → flat_map (continued ([] ∷ [])) paths ≡ paths
only_paths [] = refl
only_paths (path ∷ paths) =
    ap (λ (first : List Step). first ∷ flat_map (continued ([] ∷ [])) paths) (append-nil path)
    ∙ ap (λ (more : Paths). path ∷ more) (only_paths paths)

-- ---- statements

pub assignment_before : (step : Step) (parts : List Formula) (made : Option (List Formula)) → IsStepped step parts made → AreBefore ((step ∷ []) ∷ []) parts made
assignment_before step parts made is = λ post rests are.
    subst (λ (paths : Paths). AreMade post paths made) (sym (one_continued rests step)) (stepping post step rests parts made are is)

branches_continued : (when : Formula) (rests bodies others : Paths)
    → flat_map (continued rests) (branch_paths when bodies others) ≡ branch_paths when (flat_map (continued rests) bodies) (flat_map (continued rests) others)
branches_continued when rests bodies others =
    flat_map-append (continued rests) (assuming when bodies) (assuming (negation when) others)
    ∙ ap (λ (paths : Paths). paths ++ flat_map (continued rests) (assuming (negation when) others)) (continued_steps rests (Assume when) bodies)
    ∙ ap (λ (paths : Paths). assuming when (flat_map (continued rests) bodies) ++ paths) (continued_steps rests (Assume (negation when)) others)

pub branches_before : (when : Formula) (bodies others : Paths) (parts : List Formula) (body other made : Option (List Formula))
    → AreBefore bodies parts body → AreBefore others parts other
    → ((post : Formula) (paths more : Paths) → AreMade post paths body → AreMade post more other → AreMade post (branch_paths when paths more) made)
    → AreBefore (branch_paths when bodies others) parts made
branches_before when bodies others parts body other made one two joined = λ post rests are.
    subst (λ (paths : Paths). AreMade post paths made) (sym (branches_continued when rests bodies others)) (joined post _ _ (one post rests are) (two post rests are))

pub put_before : (statement : Stmt) (put copy : Assignment) (parts : List Formula) (made : Option (List Formula)) → statement ≡ statements.Put put → copy ≡ put
    → IsStepped (Put copy) parts made → AreBefore (statement_paths statement) parts made
put_before statement put copy parts made is same stepped =
    subst (λ (paths : Paths). AreBefore paths parts made) (sym (ap statement_paths is ∙ put_paths put))
    (assignment_before (Put put) parts made (subst (λ (one : Assignment). IsStepped (Put one) parts made) same stepped))

pub if_before : (statement : Stmt) (when : Formula) (body other bodies others : List Stmt) (parts : List Formula) (one two made : Option (List Formula)) → statement ≡ statements.If when body other
    → bodies ≡ body → others ≡ other → AreBefore (body_paths bodies) parts one → AreBefore (body_paths others) parts two
    → ((post : Formula) (paths more : Paths) → AreMade post paths one → AreMade post more two → AreMade post (branch_paths when paths more) made)
    → AreBefore (statement_paths statement) parts made
if_before statement when body other bodies others parts one two made is same alike before_one before_two joined =
    subst (λ (paths : Paths). AreBefore paths parts made) (sym (ap statement_paths is ∙ if_paths when body other))
    (branches_before when (body_paths body) (body_paths other) parts one two made
    (subst (λ (ss : List Stmt). AreBefore (body_paths ss) parts one) same before_one) (subst (λ (ss : List Stmt). AreBefore (body_paths ss) parts two) alike before_two) joined)

-- ---- bodies

beyond_path : (post : Formula) (path : List Step) (rests : Paths) → AreBeyond post rests → AreBeyond post (continued rests path)
beyond_path post [] rests h = subst (AreBeyond post) (sym (same_rests rests)) h
beyond_path post (step ∷ path) rests h = subst (AreBeyond post) (sym (continued_step rests step path)) (beyond_step post step (continued rests path) (beyond_path post path rests h))

beyond_firsts : (post : Formula) (firsts rests : Paths) → 0 < length firsts → AreBeyond post rests → AreBeyond post (flat_map (continued rests) firsts)
beyond_firsts post [] rests some h = absurd (omega arith)
beyond_firsts post (first ∷ firsts) rests some h = beyond_left post (continued rests first) (flat_map (continued rests) firsts) (beyond_path post first rests h)

beyond_body : (post : Formula) (body : List Stmt) (rests : Paths) (k : ℕ) → AreBeyond post (flat_map (continued rests) (body_paths (drop k body))) → AreBeyond post (flat_map (continued rests) (body_paths body))
beyond_body post body rests zero h = h
beyond_body post [] rests (suc k) h = h
beyond_body post (statement ∷ body) rests (suc k) h =
    subst (AreBeyond post) (sym (all_again (statement_paths statement) (body_paths body) rests))
    (beyond_firsts post (statement_paths statement) (flat_map (continued rests) (body_paths body)) (statement_has_paths statement) (beyond_body post body rests k h))

-- what was made from the end
pub record BodySoFar (body : List Stmt) (parts : List Formula) (left : ℕ) (made : List Formula) : Type 0 where
  pub within : left ≤ length body
  pub before : AreBefore (body_paths (drop left body)) parts (Some made)

drop_whole : {X : Type 0} (xs : List X) → drop (length xs) xs ≡ []
drop_whole [] = refl
drop_whole (x ∷ xs) = drop_whole xs

pub body_begins : (body : List Stmt) (parts copies : List Formula) → copies ≡ parts → BodySoFar body parts (length body) copies
body_begins body parts copies same = record {
  within = same_le (length body);
  before = λ post rests are.
      subst (λ (paths : Paths). AreMade post paths (Some copies)) (sym (ap (λ (more : List Stmt). flat_map (continued rests) (body_paths more)) (drop_whole body) ∙ no_body rests))
      (subst (ArePartsOf post rests) (sym same) are);
}

turned : (body : List Stmt) (next : ℕ) (statement : Stmt) (rests : Paths) → next < length body → statement ≡ get_or body next statement
    → flat_map (continued (flat_map (continued rests) (body_paths (drop (next + 1) body)))) (statement_paths statement) ≡ flat_map (continued rests) (body_paths (drop next body))
turned body next statement rests low is =
    sym (all_again (statement_paths statement) (body_paths (drop (next + 1) body)) rests)
    ∙ ap (λ (more : List Stmt). flat_map (continued rests) (body_paths more)) (sym (dropped_at body next statement low is))

made_before : (body : List Stmt) (parts : List Formula) (next : ℕ) (statement : Stmt) (made : List Formula) (answer : Option (List Formula))
    → next < length body → statement ≡ get_or body next statement → AreBefore (body_paths (drop (next + 1) body)) parts (Some made)
    → AreBefore (statement_paths statement) made answer → AreBefore (body_paths (drop next body)) parts answer
made_before body parts next statement made answer low is so_far turn = λ post rests are.
    subst (λ (paths : Paths). AreMade post paths answer) (turned body next statement rests low is)
    (turn post (flat_map (continued rests) (body_paths (drop (next + 1) body))) (so_far post rests are))

pub body_turns : (body : List Stmt) (parts : List Formula) (left next : ℕ) (statement : Stmt) (made slice after : List Formula) (answer : Option (List Formula))
    → BodySoFar body parts left made → 0 < left → next ≡ left - 1 → statement ≡ get_or body next statement → slice ≡ made
    → AreBefore (statement_paths statement) slice answer → answer ≡ Some after → BodySoFar body parts next after
body_turns body parts left next statement made slice after answer so_far some at is same turn found =
    let low : next < length body = omega (arith, so_far.within) in
    let place : left ≡ next + 1 = omega arith in
    record {
      within = omega (arith, so_far.within);
      before = made_before body parts next statement made (Some after) low is (subst (λ (n : ℕ). AreBefore (body_paths (drop n body)) parts (Some made)) place so_far.before)
          (subst (λ (parts : List Formula). AreBefore (statement_paths statement) parts (Some after)) same (subst (AreBefore (statement_paths statement) slice) found turn));
    }

pub body_stops : (body : List Stmt) (parts : List Formula) (left next : ℕ) (statement : Stmt) (made slice : List Formula) (answer : Option (List Formula))
    → BodySoFar body parts left made → 0 < left → next ≡ left - 1 → statement ≡ get_or body next statement → slice ≡ made
    → AreBefore (statement_paths statement) slice answer → answer ≡ None → AreBefore (body_paths body) parts None
body_stops body parts left next statement made slice answer so_far some at is same turn none =
    let low : next < length body = omega (arith, so_far.within) in
    let place : left ≡ next + 1 = omega arith in
    let beyond = made_before body parts next statement made None low is (subst (λ (n : ℕ). AreBefore (body_paths (drop n body)) parts (Some made)) place so_far.before)
    (subst (λ (parts : List Formula). AreBefore (statement_paths statement) parts None) same (subst (AreBefore (statement_paths statement) slice) none turn)) in
    λ post rests are. beyond_body post body rests next (beyond post rests are)

pub body_ends : (body : List Stmt) (parts : List Formula) (left : ℕ) (made : List Formula) → left ≡ 0 → BodySoFar body parts left made → AreBefore (body_paths body) parts (Some made)
body_ends body parts left made none so_far = subst (λ (n : ℕ). AreBefore (body_paths (drop n body)) parts (Some made)) none so_far.before

-- ---- the end

pub end_beyond : (post : Formula) (body : List Stmt) → is_formula_within (negation post) ≡ false → AreMade post (body_paths body) None
end_beyond post body e =
    subst (AreBeyond post) (only_paths (body_paths body))
    (beyond_body post body ([] ∷ []) (length body)
    (subst (AreBeyond post) (sym (ap (λ (more : List Stmt). flat_map (continued ([] ∷ [])) (body_paths more)) (drop_whole body) ∙ no_body ([] ∷ [])))
    (inl (first_false _ true (first_false (is_formula_within (negation post)) true e)))))

pub end_parts : (post end : Formula) → end ≡ negation post → is_formula_within (negation post) ≡ true → ArePartsOf post ([] ∷ []) (end ∷ [])
end_parts post end is e = record {
  made = ap (λ (one : Formula). one ∷ []) is;
  kept = both_hold _ true (both_hold (is_formula_within (negation post)) true e refl) refl;
}

pub whole_body : (post : Formula) (body : List Stmt) (ends : List Formula) (made : Option (List Formula)) → ArePartsOf post ([] ∷ []) ends
    → AreBefore (body_paths body) ends made → AreMade post (body_paths body) made
whole_body post body ends made are before = subst (λ (paths : Paths). AreMade post paths made) (only_paths (body_paths body)) (before post ([] ∷ []) are)
