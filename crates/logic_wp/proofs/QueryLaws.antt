-- Where negated queries are true, and which queries are valid.
use Rattle.std.proofs.Common.{◌≡◌, ℕ, zero, suc, ◌<◌, Bool, true, false, not, ◌&&◌, List, [], ◌∷◌, length, Option, Some, None, sym, arith, ap, refl, ◌∙◌}
use Rattle.std.specs.Prelude.{slice_get}
use Rattle.std.specs.List.{list_all}
use Rattle.std.specs.Option.{IsSomeAnd}
use Rattle.std.proofs.lemmas.List.Folds.{list_all-map}
use Rattle.logic_linear.specs.declared.formula.Formula.{Formula}
use Rattle.logic_linear.specs.declared.formula.Formula.TheVariants as formulas
use Rattle.logic_linear.specs.declared.formula.Formula.TheOpen.{All as Every}
use Rattle.logic_linear.specs.declared.formula.Formula.TheViews.{rolls-All}
use Rattle.logic_linear.specs.declared.formula.Formula.TheFolds.{fold-roll-Formula}
use Rattle.logic_linear.specs.Truth.{Valuation, layer_truth, truth_of}
use Rattle.lang_monitor.specs.declared.monitor.Block.{Block}
use Rattle.lang_monitor.specs.declared.monitor.Stmt.{Stmt}
use Rattle.lang_monitor.specs.declared.query.Query.{Query}
use Rattle.lang_monitor.specs.MonitorParts.{MonitorParts, IsMonitor, Places, fits_statement}
use Rattle.lang_monitor.specs.Bodies.{IsValid}
use Rattle.lang_monitor.specs.Paths.{body_in}
use Rattle.lang_monitor.specs.Triples.{places_of, IsValidQuery}
use Rattle.logic_wp.specs.NegatedQueries.{negated_triple, negated_query, valuation_after, triple_fails, fails_in, query_fails}
use Rattle.logic_wp.proofs.BodyStates.{body_reaches_memory}
use Rattle.logic_wp.proofs.Fitting.{block_fits}
use Rattle.logic_wp.proofs.PathTruth.{negated_triple_truth}

exact_triple : (places : Places) (hyps : List Formula) (body : List Stmt) (post : Formula)
    (v : Valuation)
    → list_all (fits_statement places) body ≡ true
    → truth_of v (negated_triple hyps body post) ≡ triple_fails places hyps body post v
exact_triple places hyps body post v fits =
    negated_triple_truth hyps body post v
    ∙ ap (λ (u : Valuation). list_all (truth_of v) hyps && not (truth_of u post)) (sym (body_reaches_memory places v body fits))

none_missing : {X : Type 0} (xs : List X) (i : ℕ) → i < length xs → slice_get xs i ≡ None → ⊥
none_missing [] i h e = omega arith
none_missing (x ∷ xs) zero h e = cc
none_missing (x ∷ xs) (suc i) h e = none_missing xs i (omega arith) e

pub query_exact : (monitor : MonitorParts) (query : Query) (v : Valuation) → IsMonitor monitor
    → query.block < length monitor.blocks
    → truth_of v (negated_query monitor query) ≡ query_fails monitor query v
query_exact monitor query v rule within =
    by_block (slice_get monitor.blocks query.block) (none_missing monitor.blocks query.block within) (λ block is. (block_fits monitor query.block block rule is).body)
  where
    by_block : (held : Option Block) → (held ≡ None → ⊥)
        → ((block : Block) → held ≡ Some block
        → list_all (fits_statement (places_of monitor block)) block.body ≡ true)
        → truth_of v (negated_triple query.hyps (body_in held) query.post)
        ≡ fails_in monitor query v held
    by_block None there fits = absurd (there refl)
    by_block (Some block) there fits =
        exact_triple (places_of monitor block) query.hyps block.body query.post v (fits block refl)

pub all_truth : (v : Valuation) (parts : List Formula)
    → truth_of v (formulas.All parts) ≡ list_all (truth_of v) parts
all_truth v parts =
    ap (truth_of v) (sym (rolls-All parts)) ∙ fold-roll-Formula Bool (layer_truth v) (Every parts) ∙ list_all-map (λ part. part) (truth_of v) parts

holds_after : (a b : Bool) → (a && not b) ≡ false → a ≡ true → b ≡ true
holds_after true true e f = refl
holds_after true false e f = absurd cc
holds_after false b e f = absurd cc

fails_after : (a b : Bool) → (a && not b) ≡ true → (a ≡ true) × (b ≡ false)
fails_after true false e = (refl, refl)
fails_after true true e = absurd cc
fails_after false b e = absurd cc

valid_block : (monitor : MonitorParts) (query : Query) (held : Option Block) → (held ≡ None → ⊥)
    → ((v : Valuation) → fails_in monitor query v held ≡ false)
    → IsSomeAnd held (λ block. IsValid (places_of monitor block)
    (formulas.All query.hyps) block.body query.post)
valid_block monitor query None there never = absurd (there refl)
valid_block monitor query (Some block) there never = λ v before.
    holds_after (list_all (truth_of v) query.hyps) (truth_of (valuation_after (places_of monitor block) block.body v) query.post) (never v) (sym (all_truth v query.hyps) ∙ before)

pub refuted_is_valid : (monitor : MonitorParts) (query : Query) → IsMonitor monitor
    → query.block < length monitor.blocks
    → ((v : Valuation) → truth_of v (negated_query monitor query) ≡ false)
    → IsValidQuery monitor query
refuted_is_valid monitor query rule within never =
    valid_block monitor query (slice_get monitor.blocks query.block) (none_missing monitor.blocks query.block within)
    (λ v. sym (query_exact monitor query v rule within) ∙ never v)

invalid_block : (monitor : MonitorParts) (query : Query) (v : Valuation) (held : Option Block)
    → fails_in monitor query v held ≡ true
    → IsSomeAnd held (λ block. IsValid (places_of monitor block)
    (formulas.All query.hyps) block.body query.post) → ⊥
invalid_block monitor query v None fails valid = absurd valid
invalid_block monitor query v (Some block) fails valid =
    let both = fails_after (list_all (truth_of v) query.hyps) (truth_of (valuation_after (places_of monitor block) block.body v) query.post) fails in
    let after = valid v (all_truth v query.hyps ∙ both.0) in
    let no = both.1 in
    cc

pub satisfied_is_invalid : (monitor : MonitorParts) (query : Query) (v : Valuation)
    → IsMonitor monitor → query.block < length monitor.blocks
    → truth_of v (negated_query monitor query) ≡ true → IsValidQuery monitor query → ⊥
satisfied_is_invalid monitor query v rule within holds valid =
    invalid_block monitor query v (slice_get monitor.blocks query.block) (sym (query_exact monitor query v rule within) ∙ holds) valid
