-- What functions take, by what stands for its parts.
use Rattle.std.proofs.Common.{◌≡◌, ℕ, List, [], ◌++◌, ◌∙◌, codes, ap, append_assoc, append-nil}
use Rattle.std.specs.List.{flat_map}
use Rattle.lang_base.specs.declared.kind.Kind.{Kind}
use Rattle.lang_tree.specs.declared.tree.Decl.{Decl}
use Rattle.lang_tree.specs.declared.tree.InputTree.{InputTree}
use Rattle.lang_tree.specs.declared.tree.MethodTree.{MethodTree}
use Rattle.lang_tree.specs.Names.{declared_name}
use Rattle.emit_expressions.specs.declared.scope.Reach.{Reach}
use Rattle.emit_names.specs.Names.{input_name}
use Rattle.emit_bodies.specs.Blocks.{all_inputs_text, kind_declared, kind_text, lending_text, local_text, parameter_text, taken_text}

pub inputs_says : (method : MethodTree) (reach : Reach) (inputs : List InputTree) (locals : List Decl) → inputs ≡ method.inputs → locals ≡ method.locals
    → flat_map (parameter_text method) inputs ++ flat_map (local_text method reach) locals ≡ all_inputs_text method reach
inputs_says method reach inputs locals takes keeps =
    ap (λ l. flat_map (parameter_text method) l ++ flat_map (local_text method reach) locals) takes
    ∙ ap (λ l. flat_map (parameter_text method) method.inputs ++ flat_map (local_text method reach) l) keeps

taken_parts : (a n b l k : List ℕ) → a ++ (n ++ (b ++ (l ++ (k ++ [])))) ≡ a ++ n ++ b ++ l ++ k
taken_parts a n b l k = simp (append_assoc, append-nil)

taken_rest : (a n b l k : List ℕ) → a ++ n ++ (b ++ (l ++ k)) ≡ a ++ n ++ b ++ l ++ k
taken_rest a n b l k = simp append_assoc

pub taken_says : (method : MethodTree) (name : List ℕ) (kind : Kind) (lending bytes : List ℕ) → bytes ≡ kind_text kind → codes ", " ++ (input_name method name ++ (codes ": " ++ (lending ++ (bytes ++ [])))) ≡ taken_text method name kind lending
taken_says method name kind lending bytes is =
    ap (λ b. codes ", " ++ (input_name method name ++ (codes ": " ++ (lending ++ (b ++ []))))) is
    ∙ taken_parts (codes ", ") (input_name method name) (codes ": ") lending (kind_text kind)

pub taken_cut : (method : MethodTree) (name : List ℕ) (kind : Kind) (lending : List ℕ) → codes ", " ++ input_name method name ++ (codes ": " ++ (lending ++ kind_text kind)) ≡ taken_text method name kind lending
taken_cut method name kind lending = taken_rest (codes ", ") (input_name method name) (codes ": ") lending (kind_text kind)

pub local_says : (method : MethodTree) (reach : Reach) (local : Decl) (name : List ℕ) (kind : Kind) (lending : List ℕ) → name ≡ declared_name local → kind ≡ kind_declared local → lending ≡ lending_text reach
    → taken_text method name kind lending ≡ local_text method reach local
local_says method reach local name kind lending named is lends =
    ap (λ n. taken_text method n kind lending) named
    ∙ ap (λ k. taken_text method (declared_name local) k lending) is
    ∙ ap (taken_text method (declared_name local) (kind_declared local)) lends
