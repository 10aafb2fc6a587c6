-- The functions of bodies, by what stands for their parts.
use Rattle.std.proofs.Common.{◌≡◌, ◌⊎◌, inl, inr, ℕ, ◌≤◌, Bool, true, false, Option, Some, None, List, [], ◌∷◌, ◌++◌, ◌∙◌, codes, length, ap, sym, refl, append_assoc, append-nil, arith}
use Rattle.std.proofs.Common.{Bor}
use Rattle.std.specs.Option.{option_copied, option_map_or}
use Rattle.std.proofs.lemmas.Bool.{false≢true}
use Rattle.lang_base.specs.declared.kind.Kind.{Kind}
use Rattle.lang_tree.specs.declared.tree.Expr.{Expr}
use Rattle.lang_tree.specs.declared.tree.MethodTree.{MethodTree}
use Rattle.lang_tree.specs.declared.tree.MonitorTree.{MonitorTree}
use Rattle.lang_tree.specs.declared.tree.StmtTree.{StmtTree, out-StmtTree}
use Rattle.lang_tree.specs.declared.tree.StmtTree.TheVariants.{Set, If, Return, rolls-Set, rolls-If, rolls-Return}
use Rattle.lang_tree.specs.declared.tree.StmtTree.TheOpen as layers
use Rattle.lang_tree.specs.declared.tree.StmtTree.TheViews.{out-roll-StmtTree}
use Rattle.emit_expressions.specs.Scopes.{ScopeParts}
use Rattle.emit_expressions.specs.Expressions.{written}
use Rattle.emit_expressions.specs.Values.{value_text}
use Rattle.emit_bodies.specs.declared.traces.Trace.{Trace}
use Rattle.emit_bodies.specs.Blocks.{kind_text}
use Rattle.emit_bodies.specs.Traces.{body_trace}
use Rattle.emit_bodies.specs.Bodies.{answer_line, answer_text, arrow_plain, arrow_text, body_scope, body_text, braced, copied_lines, done_text, end_by, end_text, kept_answer, kept_end_by, kept_end_text, lines_by, own_lines, own_trace, result_by, traced_text}

wrapped : (a b c : List ℕ) → a ++ (b ++ (c ++ [])) ≡ a ++ b ++ c
wrapped a b c = ap (λ l. a ++ (b ++ l)) (append-nil c) ∙ sym (append_assoc a b c)

pub arrow_failing : (answer : Option Kind) (fails : Bool) (bytes : List ℕ) → fails ≡ true → bytes ≡ answer_text answer
    → codes " -> Result<" ++ (bytes ++ (codes ", Overflow>" ++ [])) ≡ arrow_text answer fails
arrow_failing answer false bytes is says = absurd (false≢true is)
arrow_failing answer true bytes is says =
    wrapped (codes " -> Result<") bytes (codes ", Overflow>") ∙ ap (λ b. codes " -> Result<" ++ b ++ codes ", Overflow>") says

pub arrow_sure : (answer : Option Kind) (fails : Bool) → fails ≡ false → arrow_plain answer ≡ arrow_text answer fails
arrow_sure answer true is = absurd (false≢true (sym is))
arrow_sure answer false is = refl

pub arrow_some : (answer : Option Kind) (kind : Kind) (bytes : List ℕ) → answer ≡ Some kind → bytes ≡ kind_text kind → codes " -> " ++ (bytes ++ []) ≡ arrow_plain answer
arrow_some answer kind bytes is says =
    ap (λ b. codes " -> " ++ b) (append-nil bytes ∙ says) ∙ ap arrow_plain (sym is)

pub braced_none : (body : List StmtTree) (lines : List ℕ) → length body ≤ 0 → codes " {}\n" ≡ braced body lines
braced_none [] lines none = refl
braced_none (first ∷ rest) lines none = absurd (omega arith)

pub braced_some : (body : List StmtTree) (lines : List ℕ) → 1 ≤ length body → codes " {\n" ++ lines ++ codes "    }\n" ≡ braced body lines
braced_some [] lines some = absurd (omega arith)
braced_some (first ∷ rest) lines some = refl

pub lines_own : (tree : MonitorTree) (method : MethodTree) (trace : Trace) (body : List StmtTree) (whole : Bool) (scope : ScopeParts) → trace.copies ≡ false → scope ≡ body_scope tree method (codes "self") whole
    → own_lines scope trace.fails body ≡ lines_by tree method trace body whole
lines_own tree method trace body whole scope none is = ap (λ (s : ScopeParts). own_lines s trace.fails body) is ∙ (rw none refl)

pub lines_copied : (tree : MonitorTree) (method : MethodTree) (trace : Trace) (body : List StmtTree) (whole : Bool) (next kept : ScopeParts) → trace.copies ≡ true → next ≡ body_scope tree method (codes "next") whole → kept ≡ body_scope tree method (codes "self") whole
    → copied_lines next kept body ≡ lines_by tree method trace body whole
lines_copied tree method trace body whole next kept some is stays =
    ap (λ (s : ScopeParts). copied_lines s kept body) is ∙ ap (λ (s : ScopeParts). copied_lines (body_scope tree method (codes "next") whole) s body) stays ∙ (rw some refl)

pub result_narrow : (fails narrows : Bool) (value plain : List ℕ) → narrows ≡ true → value ≡ result_by fails narrows value plain
result_narrow fails false value plain is = absurd (false≢true is)
result_narrow fails true value plain is = refl

pub result_plain : (fails narrows : Bool) (value plain : List ℕ) → narrows ≡ false → fails ≡ false → plain ≡ result_by fails narrows value plain
result_plain fails true value plain is sure = absurd (false≢true (sym is))
result_plain true false value plain is sure = absurd (false≢true (sym sure))
result_plain false false value plain is sure = refl

pub result_wrapped : (fails narrows : Bool) (value plain : List ℕ) → narrows ≡ false → fails ≡ true → codes "Ok(" ++ plain ++ codes ")" ≡ result_by fails narrows value plain
result_wrapped fails true value plain is may = absurd (false≢true (sym is))
result_wrapped false false value plain is may = absurd (false≢true may)
result_wrapped true false value plain is may = refl

pub kept_tested : (narrows : Bool) (next kept : ScopeParts) (value : Expr) → narrows ≡ true
    → codes "        let answer = " ++ value_text next value (codes "?") ++ codes ";\n        *self = next;\n        Ok(answer)\n" ≡ kept_answer narrows next kept value
kept_tested false next kept value is = absurd (false≢true is)
kept_tested true next kept value is = refl

pub kept_plain : (narrows : Bool) (next kept : ScopeParts) (value : Expr) → narrows ≡ false → codes "        *self = next;\n" ++ answer_line kept true value ≡ kept_answer narrows next kept value
kept_plain true next kept value is = absurd (false≢true (sym is))
kept_plain false next kept value is = refl

pub body_says : (tree : MonitorTree) (method : MethodTree) (number : ℕ) (answer : Option Kind) (body : List StmtTree) (whole : Bool) (traced : Trace) → traced ≡ own_trace tree method body whole
    → traced_text tree method number answer traced body whole ≡ body_text tree method number answer body whole
body_says tree method number answer body whole traced says =
    ap (λ (t : Trace). traced_text tree method number answer t body whole) says

pub own_says : (tree : MonitorTree) (method : MethodTree) (body : List StmtTree) (whole : Bool) (scope : ScopeParts) (traced : Trace) → scope ≡ body_scope tree method (codes "self") whole → traced ≡ body_trace scope body
    → traced ≡ own_trace tree method body whole
own_says tree method body whole scope traced is says = says ∙ ap (λ (s : ScopeParts). body_trace s body) is

-- the last statement, where there is one
pub last_none : (f : StmtTree → List ℕ) (otherwise : List ℕ) (last : Option (Bor StmtTree)) (found : Option StmtTree) → option_copied last ≡ found → last ≡ None → otherwise ≡ option_map_or f found otherwise
last_none f otherwise last found says is = ap (λ o. option_map_or f o otherwise) (ap option_copied (sym is) ∙ says)

pub last_some : (f : StmtTree → List ℕ) (otherwise : List ℕ) (last : Option (Bor StmtTree)) (found : Option StmtTree) (statement : Bor StmtTree) → option_copied last ≡ found → last ≡ Some statement → f statement.now ≡ option_map_or f found otherwise
last_some f otherwise last found statement says is = ap (λ o. option_map_or f o otherwise) (ap option_copied (sym is) ∙ says)

-- ---- the end of a body, by its last statement

set_opened : (statement : StmtTree) (at : ℕ) (name : List ℕ) (value : Expr) → statement ≡ Set at name value → out-StmtTree statement ≡ layers.Set at name value
set_opened statement at name value is = ap out-StmtTree (is ∙ sym (rolls-Set at name value)) ∙ out-roll-StmtTree (layers.Set at name value)

if_opened : (statement : StmtTree) (at : ℕ) (when : Expr) (body other : List StmtTree) → statement ≡ If at when body other → out-StmtTree statement ≡ layers.If at when body other
if_opened statement at when body other is = ap out-StmtTree (is ∙ sym (rolls-If at when body other)) ∙ out-roll-StmtTree (layers.If at when body other)

return_opened : (statement : StmtTree) (at : ℕ) (value : Expr) → statement ≡ Return at value → out-StmtTree statement ≡ layers.Return at value
return_opened statement at value is = ap out-StmtTree (is ∙ sym (rolls-Return at value)) ∙ out-roll-StmtTree (layers.Return at value)

-- what an arm for both of the other forms knows
abbrev pub IsNoReturn : StmtTree → Type 0
IsNoReturn statement =
    ((at : ℕ) × (name : List ℕ) × (value : Expr) × (statement ≡ Set at name value))
    ⊎ ((at : ℕ) × (when : Expr) × (body : List StmtTree) × (other : List StmtTree) × (statement ≡ If at when body other))

module _ (scope : ScopeParts) (fails : Bool) where
  end-Set : (statement : StmtTree) (at : ℕ) (name : List ℕ) (value : Expr) → statement ≡ Set at name value → done_text fails ≡ end_text scope fails statement
  end-Set statement at name value is = sym (ap (end_by scope fails) (set_opened statement at name value is))

  end-If : (statement : StmtTree) (at : ℕ) (when : Expr) (body other : List StmtTree) → statement ≡ If at when body other → done_text fails ≡ end_text scope fails statement
  end-If statement at when body other is = sym (ap (end_by scope fails) (if_opened statement at when body other is))

  pub end-none : (statement : StmtTree) → IsNoReturn statement → done_text fails ≡ end_text scope fails statement
  end-none statement (inl (at, name, value, is)) = end-Set statement at name value is
  end-none statement (inr (at, when, body, other, is)) = end-If statement at when body other is

  pub end-Return : (statement : StmtTree) (at : ℕ) (value : Expr) → statement ≡ Return at value → answer_line scope fails value ≡ end_text scope fails statement
  end-Return statement at value is = sym (ap (end_by scope fails) (return_opened statement at value is))

module _ (next kept : ScopeParts) where
  kept-Set : (statement : StmtTree) (at : ℕ) (name : List ℕ) (value : Expr) → statement ≡ Set at name value → codes "        *self = next;\n        Ok(())\n" ≡ kept_end_text next kept statement
  kept-Set statement at name value is = sym (ap (kept_end_by next kept) (set_opened statement at name value is))

  kept-If : (statement : StmtTree) (at : ℕ) (when : Expr) (body other : List StmtTree) → statement ≡ If at when body other → codes "        *self = next;\n        Ok(())\n" ≡ kept_end_text next kept statement
  kept-If statement at when body other is = sym (ap (kept_end_by next kept) (if_opened statement at when body other is))

  pub kept-none : (statement : StmtTree) → IsNoReturn statement → codes "        *self = next;\n        Ok(())\n" ≡ kept_end_text next kept statement
  kept-none statement (inl (at, name, value, is)) = kept-Set statement at name value is
  kept-none statement (inr (at, when, body, other, is)) = kept-If statement at when body other is

  pub kept-Return : (statement : StmtTree) (at : ℕ) (value : Expr) (test : Bool) → statement ≡ Return at value → test ≡ (written next value).narrows → kept_answer test next kept value ≡ kept_end_text next kept statement
  kept-Return statement at value test is needs =
      ap (λ t. kept_answer t next kept value) needs ∙ sym (ap (kept_end_by next kept) (return_opened statement at value is))
