-- What is said of each form of an item, and induction over what stands in it.
use Rattle.std.proofs.Common.{◌≡◌, ℕ, zero, suc, ◌+◌, ◌*◌, Bool, List, [], ◌∷◌, ◌++◌, length, map, replicate, refl, sym, ap, subst, ◌∙◌, arith}
use native.Mathlib.Nat.{suc-mul}
use Rattle.std.specs.Prelude.{All, sum_by}
use Rattle.std.specs.List.{flat_map}
use Rattle.std.proofs.lemmas.Grind.{flat_map-append}
use Rattle.std.proofs.lemmas.List.{length-append}
use Rattle.std.proofs.lemmas.List.Elements.{All-nil, All-cons, All-head, All-tail}
use Rattle.std.proofs.lemmas.List.Folds.{flat_map-map}
use Rattle.std.proofs.lemmas.List.Sums.{sum-map, sum_by-cons}
use Rattle.lang_tree.specs.declared.tree.Arg.{Arg}
use Rattle.lang_tree.specs.declared.tree.Item.{Item, roll-Item}
use Rattle.lang_tree.specs.declared.tree.Item.TheVariants as items
use Rattle.lang_tree.specs.declared.tree.Item.TheOpen as layers
use Rattle.lang_tree.specs.declared.tree.Item.TheOpen.{Item-F}
use Rattle.lang_tree.specs.declared.tree.Item.TheFolds.{fold-roll-Item, map-Item, ind-Item}
use Rattle.lang_monitor.specs.MonitorParts.{MonitorParts}
use Rattle.machine_implicit.specs.declared.script.Call.{Call as ScriptCall}
use Rattle.lang_script.specs.Scripts.{call_count, call_of, calls_of_item, calls_step, count_step, joined}
use Rattle.lang_script.specs.Faults.{PlacedCall, call_faults, item_faults}
use Rattle.lang_script.specs.Faults.{placed_calls, placed_step}

-- ---- lists of lists

pub flat_map-flat_map : {X Y Z : Type 0} (f : Y → List Z) (g : X → List Y) (xs : List X) → flat_map f (flat_map g xs) ≡ flat_map (λ x. flat_map f (g x)) xs
flat_map-flat_map f g [] = refl
flat_map-flat_map f g (x ∷ xs) = flat_map-append f (g x) (flat_map g xs) ∙ ap (λ rest. flat_map f (g x) ++ rest) (flat_map-flat_map f g xs)

-- ---- each form

pub calls-Call : (monitor : MonitorParts) (at : ℕ) (tries : Bool) (place : ℕ) (name : List ℕ) (arguments : List Arg) → calls_of_item monitor (items.Call at tries place name arguments) ≡ call_of monitor tries name arguments ∷ []
calls-Call monitor at tries place name arguments = ap (calls_of_item monitor) (sym (items.rolls-Call at tries place name arguments)) ∙ fold-roll-Item (List ScriptCall) (calls_step monitor) (layers.Call at tries place name arguments)

pub calls-Repeat : (monitor : MonitorParts) (at times : ℕ) (inner : List Item) → calls_of_item monitor (items.Repeat at times inner) ≡ joined (replicate times (flat_map (calls_of_item monitor) inner))
calls-Repeat monitor at times inner =
    ap (calls_of_item monitor) (sym (items.rolls-Repeat at times inner))
    ∙ fold-roll-Item (List ScriptCall) (calls_step monitor) (layers.Repeat at times inner)
    ∙ ap (λ calls. joined (replicate times calls)) (flat_map-map (λ calls. calls) (calls_of_item monitor) inner)

pub placed-Call : (at : ℕ) (tries : Bool) (place : ℕ) (name : List ℕ) (arguments : List Arg) → placed_calls (items.Call at tries place name arguments) ≡ record { name_at = place; name = name; arguments = arguments } ∷ []
placed-Call at tries place name arguments = ap placed_calls (sym (items.rolls-Call at tries place name arguments)) ∙ fold-roll-Item (List PlacedCall) placed_step (layers.Call at tries place name arguments)

pub placed-Repeat : (at times : ℕ) (inner : List Item) → placed_calls (items.Repeat at times inner) ≡ flat_map placed_calls inner
placed-Repeat at times inner =
    ap placed_calls (sym (items.rolls-Repeat at times inner))
    ∙ fold-roll-Item (List PlacedCall) placed_step (layers.Repeat at times inner)
    ∙ flat_map-map (λ calls. calls) placed_calls inner

pub count-Call : (at : ℕ) (tries : Bool) (place : ℕ) (name : List ℕ) (arguments : List Arg) → call_count (items.Call at tries place name arguments) ≡ 1
count-Call at tries place name arguments = ap call_count (sym (items.rolls-Call at tries place name arguments)) ∙ fold-roll-Item ℕ count_step (layers.Call at tries place name arguments)

pub count-Repeat : (at times : ℕ) (inner : List Item) → call_count (items.Repeat at times inner) ≡ times * sum_by call_count inner
count-Repeat at times inner =
    ap call_count (sym (items.rolls-Repeat at times inner))
    ∙ fold-roll-Item ℕ count_step (layers.Repeat at times inner)
    ∙ ap (λ calls. times * calls) (sum-map call_count inner)

pub faults-Call : (monitor : MonitorParts) (at : ℕ) (tries : Bool) (place : ℕ) (name : List ℕ) (arguments : List Arg) → item_faults monitor (items.Call at tries place name arguments) ≡ call_faults monitor (record { name_at = place; name = name; arguments = arguments }) ++ []
faults-Call monitor at tries place name arguments = ap (flat_map (call_faults monitor)) (placed-Call at tries place name arguments)

pub faults-Repeat : (monitor : MonitorParts) (at times : ℕ) (inner : List Item) → item_faults monitor (items.Repeat at times inner) ≡ flat_map (item_faults monitor) inner
faults-Repeat monitor at times inner = ap (flat_map (call_faults monitor)) (placed-Repeat at times inner) ∙ flat_map-flat_map (call_faults monitor) placed_calls inner

-- ---- induction

module _ (P : Item → Type 0)
    (call : (at : ℕ) (tries : Bool) (place : ℕ) (name : List ℕ) (arguments : List Arg) → P (items.Call at tries place name arguments))
    (again : (at times : ℕ) (inner : List Item) → All P inner → P (items.Repeat at times inner)) where
  abbrev bare : Item-F ((item : Item) × P item) → Item-F Item
  bare = map-Item ((item : Item) × P item) Item (λ e. e.0)

  each : (inner : List ((item : Item) × P item)) → All P (map (λ e. e.0) inner)
  each [] = All-nil P
  each (e ∷ inner) = All-cons P e.0 (map (λ e. e.0) inner) e.1 (each inner)

  of_layer : (layer : Item-F ((item : Item) × P item)) → P (roll-Item (bare layer))
  of_layer (layers.Call at tries place name arguments) = subst P (sym (items.rolls-Call at tries place name arguments)) (call at tries place name arguments)
  of_layer (layers.Repeat at times inner) = subst P (sym (items.rolls-Repeat at times (map (λ e. e.0) inner))) (again at times (map (λ e. e.0) inner) (each inner))

  -- what holds of each call, and of a `repeat` where it holds of what stands in it, holds of each
  -- item
  pub by_items : (item : Item) → P item
  by_items = ind-Item P (λ x y is. subst (λ (z : Item-F Item). P (roll-Item z)) is (of_layer y))

-- ---- as many calls as are counted

pub length-flat_map : {X Y : Type 0} (f : X → List Y) (n : X → ℕ) (xs : List X) → All (λ x. length (f x) ≡ n x) xs → length (flat_map f xs) ≡ sum_by n xs
length-flat_map f n [] same = refl
length-flat_map f n (x ∷ xs) same =
    length-append (f x) (flat_map f xs)
    ∙ ap (λ k. k + length (flat_map f xs)) (All-head (λ x. length (f x) ≡ n x) x xs same)
    ∙ ap (λ k. n x + k) (length-flat_map f n xs (All-tail (λ x. length (f x) ≡ n x) x xs same))
    ∙ sym (sum_by-cons n x xs)

length-copies : {X : Type 0} (times : ℕ) (list : List X) → length (joined (replicate times list)) ≡ times * length list
length-copies zero list = omega arith
length-copies (suc times) list = length-append list (joined (replicate times list)) ∙ ap (λ k. length list + k) (length-copies times list) ∙ one_more times (length list)
  where
    one_more : (times n : ℕ) → n + times * n ≡ suc times * n
    one_more times n = omega (arith, suc-mul times n)

pub as_many_calls : (monitor : MonitorParts) (item : Item) → length (calls_of_item monitor item) ≡ call_count item
as_many_calls monitor = by_items (λ item. length (calls_of_item monitor item) ≡ call_count item)
    (λ at tries place name arguments. ap length (calls-Call monitor at tries place name arguments) ∙ sym (count-Call at tries place name arguments))
    (λ at times inner same. ap length (calls-Repeat monitor at times inner)
    ∙ length-copies times (flat_map (calls_of_item monitor) inner)
    ∙ ap (λ k. times * k) (length-flat_map (calls_of_item monitor) call_count inner same)
    ∙ sym (count-Repeat at times inner))
