-- The canonical texts of client files, by their parts.
use Rattle.std.proofs.Common.{◌≡◌, ℕ, zero, suc, ◌+◌, ◌-◌, ◌<◌, ◌≤◌, Bool, List, [], ◌∷◌, ◌++◌, ◌∙◌, codes, decimal, length, get_or, refl, sym, ap, append_assoc, arith}
use Rattle.std.proofs.lemmas.List.{take_all}
use Rattle.std.proofs.lemmas.List.Folds.{flat_map-map}
use Rattle.std.specs.List.{flat_map}
use Rattle.lang_tree.specs.declared.tree.Arg.{Arg}
use Rattle.lang_tree.specs.declared.tree.Item.{Item}
use Rattle.lang_tree.specs.declared.tree.Item.TheVariants.{Call, Repeat, rolls-Call, rolls-Repeat}
use Rattle.lang_tree.specs.declared.tree.Item.TheOpen as layers
use Rattle.lang_tree.specs.declared.tree.Item.TheFolds.{fold-roll-Item}
use Rattle.lang_tree.specs.declared.tree.ClientTree.{ClientTree}
use Rattle.lang_printer.specs.Canonical.{indent}
use Rattle.lang_printer.specs.CanonicalClients.{argument_text, arguments_text, try_text, item_text, item_step, client_text}
use Rattle.lang_printer.specs.Printing.{items_text, body_text}
use Rattle.lang_printer.proofs.Printing.{after_first}

-- the first argument, then the others
pub arguments-cut : (given : List Arg) (default : Arg) → 1 ≤ length given
    → argument_text (get_or given 0 default) ++ flat_map (λ argument. codes ", " ++ argument_text argument) (after_first given) ≡ arguments_text given
arguments-cut [] default some = absurd (omega arith)
arguments-cut (argument ∷ given) default some =
    ap (λ l. argument_text argument ++ flat_map (λ b. codes ", " ++ argument_text b) l) (take_all (length (argument ∷ given) - 1) given (omega arith))
    ∙ ap (λ l. argument_text argument ++ l) (sym (flat_map-map (λ (text : List ℕ). codes ", " ++ text) argument_text given))

-- an element that was read with a default is the one that is read with itself
pub read_again : (xs : List Arg) (i : ℕ) (default : Arg) → i < length xs → get_or xs i default ≡ get_or xs i (get_or xs i default)
read_again [] i default within = absurd (omega arith)
read_again (x ∷ xs) zero default within = refl
read_again (x ∷ xs) (suc i) default within = read_again xs i default (omega arith)

call_parts : (i t n p g s : List ℕ) → i ++ (t ++ (n ++ p)) ++ g ++ s ≡ i ++ t ++ n ++ p ++ g ++ s
call_parts i t n p g s = simp append_assoc

call_text : (at : ℕ) (tries : Bool) (place : ℕ) (name : List ℕ) (given : List Arg) (depth : ℕ)
    → indent depth ++ (try_text tries ++ (name ++ codes "(")) ++ arguments_text given ++ codes ");\n" ≡ item_text (Call at tries place name given) depth
call_text at tries place name given depth =
    call_parts (indent depth) (try_text tries) name (codes "(") (arguments_text given) (codes ");\n")
    ∙ sym (
    ap (λ s. item_text s depth) (sym (rolls-Call at tries place name given))
    ∙ ap (λ (f : ℕ → List ℕ). f depth) (fold-roll-Item (ℕ → List ℕ) item_step (layers.Call at tries place name given))
    )

-- a call, by what stands for its arguments
pub text-Call : (item : Item) (at : ℕ) (tries : Bool) (place : ℕ) (name : List ℕ) (given items : List Arg) (depth : ℕ) → item ≡ Call at tries place name given → items ≡ given
    → indent depth ++ (try_text tries ++ (name ++ codes "(")) ++ arguments_text items ++ codes ");\n" ≡ item_text item depth
text-Call item at tries place name given items depth is same =
    ap (λ l. indent depth ++ (try_text tries ++ (name ++ codes "(")) ++ arguments_text l ++ codes ");\n") same
    ∙ call_text at tries place name given depth
    ∙ sym (ap (λ s. item_text s depth) is)

-- the same, by what stands for what it begins with
pub text-called : (depth : ℕ) (tries : Bool) (word bytes name : List ℕ) (given : List Arg) → word ≡ try_text tries → bytes ≡ name
    → indent depth ++ (word ++ (bytes ++ codes "(")) ++ arguments_text given ++ codes ");\n" ≡ indent depth ++ (try_text tries ++ (name ++ codes "(")) ++ arguments_text given ++ codes ");\n"
text-called depth tries word bytes name given says named =
    ap (λ w. indent depth ++ (w ++ (bytes ++ codes "(")) ++ arguments_text given ++ codes ");\n") says
    ∙ ap (λ n. indent depth ++ (try_text tries ++ (n ++ codes "(")) ++ arguments_text given ++ codes ");\n") named

repeat_parts : (i r t b lines c : List ℕ) → (i ++ (r ++ t ++ b)) ++ (lines ++ i ++ c) ≡ i ++ r ++ t ++ b ++ lines ++ i ++ c
repeat_parts i r t b lines c = simp append_assoc

repeat_text : (at times : ℕ) (body : List Item) (depth : ℕ) → (indent depth ++ (codes "repeat " ++ decimal times ++ codes " {\n")) ++ body_text depth body ≡ item_text (Repeat at times body) depth
repeat_text at times body depth =
    repeat_parts (indent depth) (codes "repeat ") (decimal times) (codes " {\n") (items_text (depth + 1) body) (codes "}\n")
    ∙ sym (
    ap (λ s. item_text s depth) (sym (rolls-Repeat at times body))
    ∙ ap (λ (f : ℕ → List ℕ). f depth) (fold-roll-Item (ℕ → List ℕ) item_step (layers.Repeat at times body))
    ∙ ap (λ lines. indent depth ++ codes "repeat " ++ decimal times ++ codes " {\n" ++ lines ++ indent depth ++ codes "}\n") (flat_map-map (λ (lines : ℕ → List ℕ). lines (depth + 1)) item_text body)
    )

-- a repeat, by what stands for its items
pub text-Repeat : (item : Item) (at times : ℕ) (body items : List Item) (depth : ℕ) → item ≡ Repeat at times body → items ≡ body
    → (indent depth ++ (codes "repeat " ++ decimal times ++ codes " {\n")) ++ body_text depth items ≡ item_text item depth
text-Repeat item at times body items depth is same =
    ap (λ l. (indent depth ++ (codes "repeat " ++ decimal times ++ codes " {\n")) ++ body_text depth l) same
    ∙ repeat_text at times body depth
    ∙ sym (ap (λ s. item_text s depth) is)

client_parts : (c n b lines e : List ℕ) → (c ++ (n ++ b)) ++ (lines ++ [] ++ e) ≡ c ++ n ++ b ++ lines ++ e
client_parts c n b lines e = simp append_assoc

-- a client, by what stands for its name, its items and the depth
pub text-client : (client : ClientTree) (name : List ℕ) (items : List Item) (depth : ℕ) → name ≡ client.name → items ≡ client.items → depth ≡ 0
    → (codes "client " ++ (name ++ codes " {\n")) ++ body_text depth items ≡ client_text client
text-client client name items depth named does stands =
    ap (λ n. (codes "client " ++ (n ++ codes " {\n")) ++ body_text depth items) named
    ∙ ap (λ l. (codes "client " ++ (client.name ++ codes " {\n")) ++ body_text depth l) does
    ∙ ap (λ d. (codes "client " ++ (client.name ++ codes " {\n")) ++ body_text d client.items) stands
    ∙ client_parts (codes "client ") client.name (codes " {\n") (items_text 1 client.items) (codes "}\n")
