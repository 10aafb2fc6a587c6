-- Names and arguments, by what stands for their parts.
use Rattle.std.proofs.Common.{◌≡◌, ℕ, ◌+◌, List, [], ◌++◌, ◌∙◌, length, ap, append-nil}
use Rattle.std.specs.List.{flat_map, enumerate_from}
use Rattle.lang_tree.specs.declared.tree.Decl.{Decl}
use Rattle.lang_tree.specs.declared.tree.InputTree.{InputTree}
use Rattle.lang_tree.specs.declared.tree.MethodTree.{MethodTree}
use Rattle.lang_tree.specs.Names.{declared_name}
use Rattle.emit_expressions.specs.declared.scope.Reach.{Reach}
use Rattle.emit_names.specs.Names.{input_name}
use Rattle.emit_bodies.specs.Blocks.{lending_text}
use Rattle.emit_statements.specs.Conditions.{arguments_text, comma_text, handed_local, handed_parameter}
use Rattle.emit_comments.proofs.Numbered.{numbered}

-- what a call hands on, by lists that are the method's
pub arguments_say : (method : MethodTree) (reach : Reach) (inputs : List InputTree) (locals : List Decl) → inputs ≡ method.inputs → locals ≡ method.locals
    → flat_map (numbered (handed_parameter method)) (enumerate_from 0 inputs) ++ flat_map (numbered (handed_local method reach)) (enumerate_from 0 locals) ≡ arguments_text method reach
arguments_say method reach inputs locals is same =
    ap (λ (xs : List InputTree). flat_map (numbered (handed_parameter method)) (enumerate_from 0 xs) ++ flat_map (numbered (handed_local method reach)) (enumerate_from 0 locals)) is
    ∙ ap (λ (xs : List Decl). flat_map (numbered (handed_parameter method)) (enumerate_from 0 method.inputs) ++ flat_map (numbered (handed_local method reach)) (enumerate_from 0 xs)) same

-- an argument after a comma, or without
pub parameter_says : (method : MethodTree) (before : ℕ) (input : InputTree) (comma : List ℕ) → comma ≡ comma_text before → comma ++ input_name method input.name ≡ handed_parameter method before input
parameter_says method before input comma is = ap (λ text. text ++ input_name method input.name) is

local_says : (method : MethodTree) (reach : Reach) (local : Decl) (number count : ℕ) (comma lending name : List ℕ) → number ≡ count → comma ≡ comma_text number → lending ≡ lending_text reach → name ≡ declared_name local
    → (comma ++ (lending ++ [])) ++ input_name method name ≡ comma_text count ++ lending_text reach ++ input_name method (declared_name local)
local_says method reach local number count comma lending name same is lends names =
    ap (λ text. (comma ++ text) ++ input_name method name) (append-nil lending)
    ∙ ap (λ text. (text ++ lending) ++ input_name method name) (is ∙ ap comma_text same)
    ∙ ap (λ text. (comma_text count ++ text) ++ input_name method name) lends
    ∙ ap (λ text. (comma_text count ++ lending_text reach) ++ input_name method text) names

pub handed_says : (method : MethodTree) (reach : Reach) (before count : ℕ) (inputs : List InputTree) (local : Decl) (comma lending name : List ℕ)
    → inputs ≡ method.inputs → count ≡ length inputs → comma ≡ comma_text (count + before) → lending ≡ lending_text reach → name ≡ declared_name local
    → (comma ++ (lending ++ [])) ++ input_name method name ≡ handed_local method reach before local
handed_says method reach before count inputs local comma lending name same counts is lends names =
    local_says method reach local (count + before) (length method.inputs + before) comma lending name (ap (λ (n : ℕ). n + before) (counts ∙ ap length same)) is lends names
