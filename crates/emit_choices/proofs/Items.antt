-- A row of parameters, from its first declaration on.
use Rattle.std.proofs.Common.{◌≡◌, ◌-◌, ◌≤◌, Bool, ◌||◌, List, [], ◌∷◌, ◌++◌, ◌∙◌, ap, length, take, drop, get_or, arith}
use Rattle.std.proofs.lemmas.List.{take_all}
use Rattle.lang_tree.specs.declared.tree.Decl.{Decl}
use Rattle.lang_tree.specs.declared.tree.MonitorTree.{MonitorTree}
use Rattle.emit_names.specs.Names.{is_parameter}
use Rattle.emit_choices.specs.declared.lists.Form.{Form}
use Rattle.emit_choices.specs.Lists.{item_text, items_text}

abbrev pub after_first : List Decl → List Decl
after_first declared = take (length declared - 1) (drop 1 declared)

first_kept : (one : Decl) (more : List Decl) → after_first (one ∷ more) ≡ more
first_kept one more = take_all (length (one ∷ more) - 1) more (omega arith)

pub items_cut : (form : Form) (tree : MonitorTree) (begun next is : Bool) (declared : List Decl) (one : Decl) → 1 ≤ length declared → one ≡ get_or declared 0 one → is ≡ is_parameter one → next ≡ (begun || is)
    → item_text form tree begun one ++ items_text form tree next (after_first declared) ≡ items_text form tree begun declared
items_cut form tree begun next is [] one some first says both = absurd (omega (arith, some))
items_cut form tree begun next is (other ∷ more) one some first says both =
    ap (λ (t : Bool). item_text form tree begun one ++ items_text form tree t (after_first (other ∷ more))) (both ∙ ap (λ (t : Bool). begun || t) says)
    ∙ ap (λ (x : Decl). item_text form tree begun x ++ items_text form tree (begun || is_parameter x) (after_first (other ∷ more))) first
    ∙ ap (λ (l : List Decl). item_text form tree begun other ++ items_text form tree (begun || is_parameter other) l) (first_kept other more)
