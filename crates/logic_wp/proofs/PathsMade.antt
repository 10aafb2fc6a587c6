-- How the code makes paths.
use Rattle.std.proofs.Common.{◌≡◌, ℕ, ◌+◌, ◌<◌, List, [], ◌∷◌, ◌++◌, length, get_or, take, drop, sym, ap, refl, ◌∙◌}
use Rattle.std.specs.List.{flat_map}
use Rattle.std.proofs.lemmas.List.{at_drop_more, take_more, flat_map_more}
use Rattle.lang_monitor.specs.declared.monitor.Stmt.{Stmt}
use Rattle.logic_wp.specs.declared.step.Step.{Step}
use Rattle.logic_wp.specs.Paths.{continued, statement_paths, body_paths}

pub continued_more : (firsts rests before after : List (List Step)) (i : ℕ) (first : List Step)
    → i < length firsts → first ≡ get_or firsts i first
    → before ≡ flat_map (continued rests) (take i firsts)
    → after ≡ before ++ continued rests first
    → after ≡ flat_map (continued rests) (take (i + 1) firsts)
continued_more firsts rests before after i first h is e f =
    f ∙ ap (λ n. n ++ continued rests first) e ∙ flat_map_more (continued rests) [] (take i firsts) first
    ∙ ap (flat_map (continued rests)) (sym (take_more firsts i first h ∙ ap (λ n. take i firsts ++ n ∷ []) (sym is)))

pub dropped_at : {X : Type 0} (xs : List X) (i : ℕ) (x : X)
    → i < length xs → x ≡ get_or xs i x → drop i xs ≡ x ∷ drop (i + 1) xs
dropped_at {X} xs i x h is =
    at_drop_more (λ (n : List X). n) xs i x h ∙ ap (λ (y : X). y ∷ drop (i + 1) xs) (sym is)

-- the paths of one more statement, from the end
pub joined_more : (body : List Stmt) (i next : ℕ) (statement : Stmt) (firsts rests first_slice rest_slice made : List (List Step))
    → next + 1 ≡ i → next < length body → statement ≡ get_or body next statement
    → firsts ≡ statement_paths statement → rests ≡ body_paths (drop i body)
    → first_slice ≡ firsts → rest_slice ≡ rests
    → made ≡ flat_map (continued rest_slice) first_slice
    → made ≡ body_paths (drop next body)
joined_more body i next statement firsts rests first_slice rest_slice made at h is e f one other g =
    g ∙ rw (one, other, e, f, ← at) refl ∙ ap body_paths (sym (dropped_at body next statement h is))
