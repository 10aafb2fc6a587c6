-- Whether another name is written so, by what stands for the monitor's parts.
use Rattle.std.proofs.Common.{◌≡◌, ℕ, Bool, not, ◌||◌, List, ◌++◌, ◌∙◌, map, sym, ap}
use Rattle.std.specs.List.{list_any}
use Rattle.std.specs.Str.{bytes_eq}
use Rattle.std.proofs.lemmas.List.Folds.{list_any-append}
use Rattle.lang_tree.specs.declared.tree.Decl.{Decl}
use Rattle.lang_tree.specs.declared.tree.MethodTree.{MethodTree}
use Rattle.lang_tree.specs.declared.tree.MonitorTree.{MonitorTree}
use Rattle.emit_names.specs.declared.endings.Ending.{Ending}
use Rattle.emit_names.specs.Names.{declared_text, ended_name, is_ended_free, member_names, method_name, try_name, try_names}
use Rattle.emit_names.proofs.OddNames.{any_of_two}
use Rattle.emit_names.proofs.Reading.{any_map}

pub member_is : (tree : MonitorTree) (text : List ℕ) (declared : List Decl) (methods : List MethodTree) (one other answer : Bool)
    → declared ≡ tree.decls → methods ≡ tree.methods → one ≡ list_any (λ it. bytes_eq text (declared_text tree it)) declared
    → other ≡ list_any (λ it. bytes_eq text (method_name tree it)) methods → answer ≡ (one || other) → answer ≡ list_any (bytes_eq text) (member_names tree)
member_is tree text declared methods one other answer has does is are either =
    either
    ∙ any_of_two (bytes_eq text) (declared_text tree) (method_name tree) declared methods one other is are
    ∙ ap (λ (l : List Decl). list_any (bytes_eq text) (map (declared_text tree) l ++ map (method_name tree) methods)) has
    ∙ ap (λ (l : List MethodTree). list_any (bytes_eq text) (map (declared_text tree) tree.decls ++ map (method_name tree) l)) does

pub ended_says : (tree : MonitorTree) (ending : Ending) (text name : List ℕ) (methods : List MethodTree) (one other answer : Bool)
    → text ≡ ended_name tree ending name → methods ≡ tree.methods → one ≡ list_any (bytes_eq text) (member_names tree)
    → other ≡ list_any (λ it. bytes_eq text (try_name tree it.name)) methods → answer ≡ not (one || other) → answer ≡ is_ended_free tree ending name
ended_says tree ending text name methods one other answer says does is are neither =
    neither
    ∙ ap (λ (t : Bool). not (t || other)) is
    ∙ ap (λ (t : Bool). not (list_any (bytes_eq text) (member_names tree) || t)) (are ∙ any_map (bytes_eq text) (λ (method : MethodTree). try_name tree method.name) methods)
    ∙ ap (λ (l : List MethodTree). not (list_any (bytes_eq text) (member_names tree) || list_any (bytes_eq text) (map (λ (method : MethodTree). try_name tree method.name) l))) does
    ∙ ap not (sym (list_any-append (bytes_eq text) (member_names tree) (try_names tree)))
    ∙ ap (λ (l : List ℕ). not (list_any (bytes_eq l) (member_names tree ++ try_names tree))) says
