-- The parts of paths are true exactly where the post formula is not after the body.
use Rattle.std.proofs.Common.{◌≡◌, ℕ, ◌<◌, Bool, true, false, not, cond, ◌&&◌, ◌||◌, List, [], ◌∷◌, ◌++◌, length, map, sym, subst, arith, ap, refl, ◌∙◌}
use Rattle.std.specs.List.{list_all, list_any, flat_map}
use Rattle.std.proofs.lemmas.List.Folds.{list_any-append}
use Rattle.logic_linear.specs.declared.formula.Formula.{Formula}
use Rattle.logic_linear.specs.declared.formula.Formula.TheOpen.{All as Every, Any as Some_of}
use Rattle.logic_linear.specs.declared.formula.Formula.TheFolds.{fold-roll-Formula}
use Rattle.logic_linear.specs.declared.substitution.Put.{Put as Assignment}
use Rattle.logic_linear.specs.Negation.{negation}
use Rattle.logic_linear.specs.Truth.{Valuation, layer_truth, truth_of}
use Rattle.logic_linear.specs.Substitution.{assigned}
use Rattle.logic_linear.proofs.NegationLemmas.{negation_flips}
use Rattle.logic_linear.proofs.SubstitutionLemmas.{substitution_keeps}
use Rattle.lang_monitor.specs.declared.monitor.Stmt.{Stmt}
use Rattle.lang_monitor.specs.declared.monitor.Stmt.TheVariants as statements
use Rattle.lang_monitor.specs.Changes.{body_change, on_valuations}
use Rattle.lang_monitor.specs.Statements.{Effect, Runner, run_body, run_of}
use Rattle.lang_monitor.proofs.Statements.{by_bodies, if_effect, put_effect}
use Rattle.logic_wp.specs.declared.step.Step.{Step}
use Rattle.logic_wp.specs.declared.step.Step.TheVariants.{Put, Assume}
use Rattle.logic_wp.specs.Paths.{assuming, body_paths, continued, statement_paths}
use Rattle.logic_wp.specs.NegatedQueries.{both_of, path_part, some_part, negated_triple}
use Rattle.logic_wp.proofs.PathNumbers.{if_paths, put_paths, statement_has_paths}

-- ---- ways along paths

-- Each assumption of a path holds on the way, and the test at its end; or, where overflow counts,
-- each holds up to an assignment that overflows.
abbrev pub way : {M : Type 0} → Bool → Runner M → (M → Bool) → M → List Step → Bool
way counts runner end memory [] = end memory
way counts runner end memory (Put put ∷ steps) = (counts && (runner.does put).overflows memory) || way counts runner end ((runner.does put).next memory) steps
way counts runner end memory (Assume formula ∷ steps) = runner.holds formula memory && way counts runner end memory steps

-- some path has a way
abbrev pub some_way : {M : Type 0} → Bool → Runner M → (M → Bool) → M → List (List Step) → Bool
some_way counts runner end memory paths = list_any (way counts runner end memory) paths

or_false : (a : Bool) → (a || false) ≡ a
or_false true = refl
or_false false = refl

pub or_same : (a b c d : Bool) → a ≡ b → c ≡ d → (a || c) ≡ (b || d)
or_same a b c d e f = rw (e, f) refl

and_or : (a b c : Bool) → ((a && b) || (a && c)) ≡ (a && (b || c))
and_or true b c = refl
and_or false b c = refl

or_or : (o a b : Bool) → ((o || a) || (o || b)) ≡ (o || (a || b))
or_or true a b = refl
or_or false a b = refl

both_same : (a b c d : Bool) → a ≡ c → b ≡ d → (a && b) ≡ (c && d)
both_same a b c d e f = rw (e, f) refl

-- none overflows
none_counts : (counts end : Bool) → (end || false) ≡ ((counts && false) || end)
none_counts true end = or_false end
none_counts false end = or_false end

-- the first overflows, or a later one
later_counts : (counts first later end : Bool) → ((counts && first) || ((counts && later) || end)) ≡ ((counts && (first || later)) || end)
later_counts true true later end = refl
later_counts true false later end = refl
later_counts false first later end = refl

-- there is a path
record AreThere (paths : List (List Step)) : Type 0 where
  first : List Step
  more : List (List Step)
  is : paths ≡ first ∷ more

some_there : (paths : List (List Step)) → 0 < length paths → AreThere paths
some_there [] some = absurd (omega arith)
some_there (first ∷ more) some = record { first = first; more = more; is = refl }

on_there : (paths rests : List (List Step)) → AreThere paths → AreThere rests → AreThere (flat_map (continued rests) paths)
on_there paths rests one two = record {
  first = one.first ++ two.first;
  more = map (λ rest. one.first ++ rest) two.more ++ flat_map (continued (two.first ∷ two.more)) one.more;
  is = ap (λ (some : List (List Step)). flat_map (continued some) paths) two.is ∙ ap (flat_map (continued (two.first ∷ two.more))) one.is;
}

body_there : (body : List Stmt) → AreThere (body_paths body)
body_there [] = record { first = []; more = []; is = refl }
body_there (statement ∷ body) = on_there (statement_paths statement) (body_paths body) (some_there (statement_paths statement) (statement_has_paths statement)) (body_there body)

module _ {M : Type 0} (counts : Bool) (runner : Runner M) (flips : (formula : Formula) (memory : M) → runner.holds (negation formula) memory ≡ not (runner.holds formula memory)) where
  way_append : (end : M → Bool) (memory : M) (path rest : List Step) → way counts runner end memory (path ++ rest) ≡ way counts runner (λ now. way counts runner end now rest) memory path
  way_append end memory [] rest = refl
  way_append end memory (Put put ∷ path) rest = ap (λ (held : Bool). (counts && (runner.does put).overflows memory) || held) (way_append end ((runner.does put).next memory) path rest)
  way_append end memory (Assume formula ∷ path) rest = ap (λ (held : Bool). runner.holds formula memory && held) (way_append end memory path rest)

  way_or : (one other : M → Bool) (memory : M) (path : List Step) → (way counts runner one memory path || way counts runner other memory path) ≡ way counts runner (λ now. one now || other now) memory path
  way_or one other memory [] = refl
  way_or one other memory (Put put ∷ path) =
      let over = counts && (runner.does put).overflows memory in
      let next = (runner.does put).next memory in
      or_or over (way counts runner one next path) (way counts runner other next path) ∙ ap (λ (held : Bool). over || held) (way_or one other next path)
  way_or one other memory (Assume formula ∷ path) =
      and_or (runner.holds formula memory) (way counts runner one memory path) (way counts runner other memory path) ∙ ap (λ (held : Bool). runner.holds formula memory && held) (way_or one other memory path)

  way_alike : (one other : M → Bool) (memory : M) (path : List Step) → ((now : M) → one now ≡ other now) → way counts runner one memory path ≡ way counts runner other memory path
  way_alike one other memory path same = ap (λ (end : M → Bool). way counts runner end memory path) (λ i. λ now. same now i)

  -- a path continued by one of some
  way_then : (end : M → Bool) (memory : M) (path rest : List Step) (rests : List (List Step))
      → some_way counts runner end memory (continued (rest ∷ rests) path) ≡ way counts runner (λ now. some_way counts runner end now (rest ∷ rests)) memory path
  way_then end memory path rest [] =
      or_false (way counts runner end memory (path ++ rest)) ∙ way_append end memory path rest
      ∙ way_alike (λ now. way counts runner end now rest) (λ now. way counts runner end now rest || false) memory path (λ now. sym (or_false (way counts runner end now rest)))
  way_then end memory path rest (next ∷ rests) =
      or_same _ _ _ _ (way_append end memory path rest) (way_then end memory path next rests)
      ∙ way_or (λ now. way counts runner end now rest) (λ now. some_way counts runner end now (next ∷ rests)) memory path

  ways_then : (end : M → Bool) (memory : M) (paths : List (List Step)) (rest : List Step) (rests : List (List Step))
      → some_way counts runner end memory (flat_map (continued (rest ∷ rests)) paths) ≡ some_way counts runner (λ now. some_way counts runner end now (rest ∷ rests)) memory paths
  ways_then end memory [] rest rests = refl
  ways_then end memory (path ∷ paths) rest rests =
      list_any-append (way counts runner end memory) (continued (rest ∷ rests) path) (flat_map (continued (rest ∷ rests)) paths)
      ∙ or_same _ _ _ _ (way_then end memory path rest rests) (ways_then end memory paths rest rests)

  ways_on : (end : M → Bool) (memory : M) (paths rests : List (List Step)) → AreThere rests
      → some_way counts runner end memory (flat_map (continued rests) paths) ≡ some_way counts runner (λ now. some_way counts runner end now rests) memory paths
  ways_on end memory paths rests there =
      subst (λ (some : List (List Step)). some_way counts runner end memory (flat_map (continued some) paths) ≡ some_way counts runner (λ now. some_way counts runner end now some) memory paths) (sym there.is)
      (ways_then end memory paths there.first there.more)

  -- Some path has a way exactly where these statements overflow, if that counts, or the test holds
  -- after them.
  abbrev Leads : List (List Step) → Effect M → Type 0
  Leads paths effect = (end : M → Bool) (memory : M) → some_way counts runner end memory paths ≡ ((counts && effect.overflows memory) || end (effect.next memory))

  one_more : (statement : Stmt) (rest : List Stmt) → Leads (statement_paths statement) (run_of runner statement) → Leads (body_paths rest) (run_body runner rest) → Leads (body_paths (statement ∷ rest)) (run_body runner (statement ∷ rest))
  one_more statement rest one more end memory =
      let first = run_of runner statement in
      let later = run_body runner rest in
      let next = first.next memory in
      ways_on end memory (statement_paths statement) (body_paths rest) (body_there rest)
      ∙ one (λ now. some_way counts runner end now (body_paths rest)) memory
      ∙ ap (λ (held : Bool). (counts && first.overflows memory) || held) (more end next)
      ∙ later_counts counts (first.overflows memory) (later.overflows next) (end (later.next next))

  put_leads : (put : Assignment) → Leads (statement_paths (statements.Put put)) (run_of runner (statements.Put put))
  put_leads put end memory =
      ap (some_way counts runner end memory) (put_paths put)
      ∙ or_false ((counts && (runner.does put).overflows memory) || end ((runner.does put).next memory))
      ∙ ap (λ (effect : Effect M). (counts && effect.overflows memory) || end (effect.next memory)) (sym (put_effect runner put))

  assumed : (end : M → Bool) (memory : M) (when : Formula) (paths : List (List Step)) → some_way counts runner end memory (assuming when paths) ≡ (runner.holds when memory && some_way counts runner end memory paths)
  assumed end memory when [] = and_none (runner.holds when memory)
    where
      and_none : (a : Bool) → false ≡ (a && false)
      and_none true = refl
      and_none false = refl
  assumed end memory when (path ∷ paths) =
      or_same _ _ _ _ refl (assumed end memory when paths) ∙ and_or (runner.holds when memory) (way counts runner end memory path) (some_way counts runner end memory paths)

  chosen : (end : M → Bool) (when body other : Bool) (one two : M) → ((when && ((counts && body) || end one)) || (not when && ((counts && other) || end two))) ≡ ((counts && cond when body other) || end (cond when one two))
  chosen end true body other one two = or_false ((counts && body) || end one)
  chosen end false body other one two = refl

  if_leads : (when : Formula) (body other : List Stmt) → Leads (body_paths body) (run_body runner body) → Leads (body_paths other) (run_body runner other) → Leads (statement_paths (statements.If when body other)) (run_of runner (statements.If when body other))
  if_leads when body other first second end memory =
      let one = run_body runner body in
      let two = run_body runner other in
      ap (some_way counts runner end memory) (if_paths when body other)
      ∙ list_any-append (way counts runner end memory) (assuming when (body_paths body)) (assuming (negation when) (body_paths other))
      ∙ or_same _ _ _ _ (assumed end memory when (body_paths body) ∙ both_same _ _ _ _ refl (first end memory))
      (assumed end memory (negation when) (body_paths other) ∙ both_same _ _ _ _ (flips when memory) (second end memory))
      ∙ chosen end (runner.holds when memory) (one.overflows memory) (two.overflows memory) (one.next memory) (two.next memory)
      ∙ ap (λ (effect : Effect M). (counts && effect.overflows memory) || end (effect.next memory)) (sym (if_effect runner when body other))

  pub body_leads : (body : List Stmt) (end : M → Bool) (memory : M) → some_way counts runner end memory (body_paths body) ≡ ((counts && (run_body runner body).overflows memory) || end ((run_body runner body).next memory))
  body_leads = by_bodies (λ body. Leads (body_paths body) (run_body runner body)) (λ end memory. none_counts counts (end memory))
      (λ put rest later. one_more (statements.Put put) rest (put_leads put) later)
      (λ when body other rest first second later. one_more (statements.If when body other) rest (if_leads when body other first second) later)

-- ---- the truth of a path's part

both_truth : (v : Valuation) (first second : Formula) → truth_of v (both_of first second) ≡ (truth_of v first && truth_of v second)
both_truth v first second = fold-roll-Formula Bool (layer_truth v) (Every (first ∷ second ∷ [])) ∙ and_nothing (truth_of v first) (truth_of v second)
  where
    and_nothing : (a b : Bool) → (a && (b && true)) ≡ (a && b)
    and_nothing true true = refl
    and_nothing true false = refl
    and_nothing false b = refl

part_truth : (post : Formula) (v : Valuation) (steps : List Step) → truth_of v (path_part post steps) ≡ way false on_valuations (λ u. not (truth_of u post)) v steps
part_truth post v [] = negation_flips v post
part_truth post v (Put put ∷ steps) = substitution_keeps put v (path_part post steps) ∙ part_truth post (assigned put v) steps
part_truth post v (Assume formula ∷ steps) = both_truth v formula (path_part post steps) ∙ ap (λ held. truth_of v formula && held) (part_truth post v steps)

pub some_path_truth : (body : List Stmt) (test : Valuation → Bool) (v : Valuation) → some_way false on_valuations test v (body_paths body) ≡ test (body_change body v)
some_path_truth body test v = body_leads false on_valuations (λ formula u. negation_flips u formula) body test v

-- ---- the negated query

any_parts : (post : Formula) (v : Valuation) (paths : List (List Step)) → list_any (λ part. part) (map (truth_of v) (map (path_part post) paths)) ≡ some_way false on_valuations (λ u. not (truth_of u post)) v paths
any_parts post v [] = refl
any_parts post v (path ∷ paths) = or_same _ _ _ _ (part_truth post v path) (any_parts post v paths)

all_hyps : (v : Valuation) (hyps : List Formula) (last : Formula) → list_all (λ part. part) (map (truth_of v) (hyps ++ last ∷ [])) ≡ (list_all (truth_of v) hyps && truth_of v last)
all_hyps v [] last = and_true (truth_of v last)
  where
    and_true : (a : Bool) → (a && true) ≡ a
    and_true true = refl
    and_true false = refl
all_hyps v (hyp ∷ hyps) last = ap (λ held. truth_of v hyp && held) (all_hyps v hyps last) ∙ sym (and_assoc (truth_of v hyp) (list_all (truth_of v) hyps) (truth_of v last))
  where
    and_assoc : (a b c : Bool) → ((a && b) && c) ≡ (a && (b && c))
    and_assoc true b c = refl
    and_assoc false b c = refl

-- A negated query is true exactly where each hypothesis is and the post formula is not after the
-- change of the body.
pub negated_triple_truth : (hyps : List Formula) (body : List Stmt) (post : Formula) (v : Valuation) → truth_of v (negated_triple hyps body post) ≡ (list_all (truth_of v) hyps && not (truth_of (body_change body v) post))
negated_triple_truth hyps body post v =
    fold-roll-Formula Bool (layer_truth v) (Every (hyps ++ some_part (map (path_part post) (body_paths body)) ∷ []))
    ∙ all_hyps v hyps (some_part (map (path_part post) (body_paths body)))
    ∙ ap (λ held. list_all (truth_of v) hyps && held)
    (fold-roll-Formula Bool (layer_truth v) (Some_of (map (path_part post) (body_paths body))) ∙ any_parts post v (body_paths body) ∙ some_path_truth body (λ v. not (truth_of v post)) v)
