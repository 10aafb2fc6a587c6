-- The canonical texts of methods and monitors, by their parts.
use Rattle.std.proofs.Common.{◌≡◌, ℕ, ◌+◌, ◌-◌, ◌≤◌, List, [], ◌∷◌, ◌++◌, ◌∙◌, codes, length, get_or, refl, ap, append_assoc, append-nil, arith}
use Rattle.std.proofs.lemmas.List.{take_all}
use Rattle.std.specs.List.{flat_map}
use Rattle.lang_tree.specs.declared.tree.Decl.{Decl}
use Rattle.lang_tree.specs.declared.tree.InputTree.{InputTree}
use Rattle.lang_tree.specs.declared.tree.StmtTree.{StmtTree}
use Rattle.lang_tree.specs.declared.tree.BlockTree.{BlockTree}
use Rattle.lang_tree.specs.declared.tree.MethodTree.{MethodTree}
use Rattle.lang_tree.specs.declared.tree.MonitorTree.{MonitorTree}
use Rattle.lang_printer.specs.Canonical.{joined, kind_text, input_text, input_texts, declaration_text, guarded_text, lines_text, opening_text, blocks_text, method_text, tree_text, expression_text, indent}
use Rattle.lang_printer.specs.Printing.{statements_text, block_text}
use Rattle.lang_printer.proofs.Printing.{after_first}

inputs-rest : (inputs : List InputTree) → flat_map (λ input. codes ", " ++ input_text input) inputs ≡ flat_map (λ text. codes ", " ++ text) (input_texts inputs)
inputs-rest [] = refl
inputs-rest (input ∷ inputs) = ap (λ l. (codes ", " ++ input_text input) ++ l) (inputs-rest inputs)

-- the first input, then the others
pub inputs-cut : (inputs : List InputTree) (first : InputTree) (kind : List ℕ) → 1 ≤ length inputs → first ≡ get_or inputs 0 first → kind ≡ kind_text first.kind
    → (kind ++ first.name) ++ flat_map (λ input. codes ", " ++ input_text input) (after_first inputs) ≡ joined (codes ", ") (input_texts inputs)
inputs-cut [] first kind some is says = absurd (omega arith)
inputs-cut (input ∷ inputs) first kind some is says =
    ap (λ k. (k ++ first.name) ++ flat_map (λ i. codes ", " ++ input_text i) (after_first (input ∷ inputs))) says
    ∙ ap (λ i. input_text i ++ flat_map (λ j. codes ", " ++ input_text j) (after_first (input ∷ inputs))) is
    ∙ ap (λ l. input_text input ++ flat_map (λ j. codes ", " ++ input_text j) l) (take_all (length (input ∷ inputs) - 1) inputs (omega arith))
    ∙ ap (λ l. input_text input ++ l) (inputs-rest inputs)

-- a block after what stands before it, by what stands for its body
guarded_parts : (a w g b s i c l : List ℕ) → ((a ++ (w ++ [])) ++ g ++ b) ++ (s ++ i ++ c) ++ l ≡ a ++ (w ++ g ++ b ++ s ++ i ++ (c ++ l))
guarded_parts a w g b s i c l = simp (append_assoc, append-nil)

pub text-guarded : (lead opening : List ℕ) (block : BlockTree) (body : List StmtTree) (depth : ℕ) → body ≡ block.body
    → ((lead ++ (opening ++ [])) ++ expression_text block.guard ++ codes ") {\n") ++ block_text depth body ++ codes "\n" ≡ lead ++ guarded_text opening depth block
text-guarded lead opening block body depth does =
    ap (λ b. ((lead ++ (opening ++ [])) ++ expression_text block.guard ++ codes ") {\n") ++ block_text depth b ++ codes "\n") does
    ∙ guarded_parts lead opening (expression_text block.guard) (codes ") {\n") (statements_text (depth + 1) block.body) (indent depth) (codes "}") (codes "\n")

-- one block without locals
pub text-one : (opening : List ℕ) (locals : List Decl) (blocks : List BlockTree) (block : BlockTree) (depth : ℕ) → length locals ≡ 0 → length blocks ≡ 1 → block ≡ get_or blocks 0 block → depth ≡ 1
    → codes " " ++ guarded_text opening depth block ≡ blocks_text opening locals blocks
text-one opening (local ∷ locals) blocks block depth none one is stands = absurd (omega arith)
text-one opening [] [] block depth none one is stands = absurd (omega arith)
text-one opening [] (first ∷ []) block depth none one is stands = ap (λ d. codes " " ++ guarded_text opening d block) stands ∙ ap (λ b. codes " " ++ guarded_text opening 1 b) is
text-one opening [] (first ∷ (second ∷ more)) block depth none one is stands = absurd (omega arith)

-- any others
pub text-lines : (opening : List ℕ) (locals : List Decl) (blocks : List BlockTree) → (length locals ≡ 0 → length blocks ≡ 1 → ⊥) → lines_text opening locals blocks ≡ blocks_text opening locals blocks
text-lines opening (local ∷ locals) blocks other = refl
text-lines opening [] [] other = refl
text-lines opening [] (first ∷ []) other = absurd (other refl refl)
text-lines opening [] (first ∷ (second ∷ more)) other = refl

method_parts : (m n p j c b : List ℕ) → (m ++ (n ++ p)) ++ j ++ c ++ b ≡ m ++ n ++ p ++ j ++ c ++ b
method_parts m n p j c b = simp append_assoc

-- a method, by what stands for its name, its inputs, what opens its blocks, its locals and its blocks
pub text-method : (method : MethodTree) (name : List ℕ) (inputs : List InputTree) (opening : List ℕ) (locals : List Decl) (blocks : List BlockTree) → name ≡ method.name → inputs ≡ method.inputs → opening ≡ opening_text method.asserts → locals ≡ method.locals → blocks ≡ method.blocks
    → (codes "  method " ++ (name ++ codes "(")) ++ joined (codes ", ") (input_texts inputs) ++ codes ")" ++ blocks_text opening locals blocks ≡ method_text method
text-method method name inputs opening locals blocks named takes opens keeps has =
    ap (λ n. (codes "  method " ++ (n ++ codes "(")) ++ joined (codes ", ") (input_texts inputs) ++ codes ")" ++ blocks_text opening locals blocks) named
    ∙ ap (λ i. (codes "  method " ++ (method.name ++ codes "(")) ++ joined (codes ", ") (input_texts i) ++ codes ")" ++ blocks_text opening locals blocks) takes
    ∙ ap (λ o. (codes "  method " ++ (method.name ++ codes "(")) ++ joined (codes ", ") (input_texts method.inputs) ++ codes ")" ++ blocks_text o locals blocks) opens
    ∙ ap (λ l. (codes "  method " ++ (method.name ++ codes "(")) ++ joined (codes ", ") (input_texts method.inputs) ++ codes ")" ++ blocks_text (opening_text method.asserts) l blocks) keeps
    ∙ ap (λ b. (codes "  method " ++ (method.name ++ codes "(")) ++ joined (codes ", ") (input_texts method.inputs) ++ codes ")" ++ blocks_text (opening_text method.asserts) method.locals b) has
    ∙ method_parts (codes "  method ") method.name (codes "(") (joined (codes ", ") (input_texts method.inputs)) (codes ")") (blocks_text (opening_text method.asserts) method.locals method.blocks)

tree_parts : (m n b d t e : List ℕ) → (m ++ (n ++ b)) ++ d ++ t ++ e ≡ m ++ n ++ b ++ d ++ t ++ e
tree_parts m n b d t e = simp append_assoc

-- a monitor, by what stands for its name, its declarations and its methods
pub text-tree : (tree : MonitorTree) (name : List ℕ) (decls : List Decl) (methods : List MethodTree) → name ≡ tree.name → decls ≡ tree.decls → methods ≡ tree.methods
    → (codes "monitor " ++ (name ++ codes " {\n")) ++ flat_map declaration_text decls ++ flat_map method_text methods ++ codes "}\n" ≡ tree_text tree
text-tree tree name decls methods named declares has =
    ap (λ n. (codes "monitor " ++ (n ++ codes " {\n")) ++ flat_map declaration_text decls ++ flat_map method_text methods ++ codes "}\n") named
    ∙ ap (λ d. (codes "monitor " ++ (tree.name ++ codes " {\n")) ++ flat_map declaration_text d ++ flat_map method_text methods ++ codes "}\n") declares
    ∙ ap (λ m. (codes "monitor " ++ (tree.name ++ codes " {\n")) ++ flat_map declaration_text tree.decls ++ flat_map method_text m ++ codes "}\n") has
    ∙ tree_parts (codes "monitor ") tree.name (codes " {\n") (flat_map declaration_text tree.decls) (flat_map method_text tree.methods) (codes "}\n")
