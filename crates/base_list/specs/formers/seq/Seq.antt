-- How a `Seq` of a type may stand inside that type: it splits into the list of its elements and
-- nothing else.
use mathlib.Core.Path.{◌≡◌, refl, sym}
use mathlib.Core.List.{List, []}
use mathlib.Core.Former.{Former, this, list, via, children}
use base.Stored.{code_map}
use denote.RattleType.{RattleType}
use denote.HoleLaws.{Alike}
use denote.HolePlaces.{Recodes, struct_places, laid}
use denote.Hole.Carrier.{listed, list-listed}
use denote.Hole.Fix.{over}
use denote.Param.Weighed.{Weighed, w_list}
use denote.Model.Placed.{view_places}
use Rattle.std.specs.formers.vec.Vec as vec
use Rattle.std.specs.declared.alloc.Global.{Global}
use Rattle.std.specs.contracts.alloc.Global as heap
use Rattle.std.specs.contracts.impls.GlobalAllocator.TheImpl.{ghosts}
use Rattle.base_list.specs.declared.seq.Seq.TheInside.{Inside}
use Rattle.base_list.specs.declared.seq.Seq.TheView.{view, invariant}
use Rattle.base_list.specs.contracts.seq.Seq as seq
use Rattle.base_list.specs.contracts.seq.Seq.TheInside as inside

abbrev pub the_former : Former {0} → Former {0}
the_former element = list element

abbrev pub the_weighed : {element : Former {0}} → Weighed element → Weighed (the_former element)
the_weighed measure = w_list measure

pub the_empty : List ⊥
the_empty = []

abbrev pub the_items : (X : Type 0) → List X → List X
the_items X elements = elements

pub the_items_listed : (X : Type 0) (elements : List X) → listed _ (children (the_former this) X elements) ≡ the_items X elements
the_items_listed X elements = list-listed X elements

-- the fields are a `Vec` of the elements
abbrev fields : Former {0}
fields = via (vec.the_former this Global) Inside (λ X s. s.items) (λ X v. record { items = v }) (λ X s. refl) (λ X v. refl)

module _ (Old New : RattleType) (step : Old.Denot → New.Denot) where
  pub the_places : Alike Old New step → Alike (seq.the_row Old) (seq.the_row New) ((the_former this).map Old.Denot New.Denot step)
  the_places alike = view_places fields (list this) view (λ X Y k u. refl) (λ X u. refl) Old.Denot New.Denot step (seq.the_row Old).coded (seq.the_row New).coded
      (invariant Old.Denot) (invariant New.Denot) (λ u p q. refl) (λ u p q. refl) (λ u e. tt) (λ u e. tt)
      (over (inside.the_row Old)) (over (inside.the_row New))
      (struct_places (inside.the_type Old) (inside.the_type New) (vec.mapped step, tt) _ (λ d. refl) refl (laid _ _ _ (vec.the_places heap.the_row ghosts Old New step alike), tt))

  pub the_codes_placed : Recodes Old New step → Recodes (seq.the_row Old) (seq.the_row New) ((the_former this).map Old.Denot New.Denot step)
  the_codes_placed recoded elements = sym (code_map Old.coded.code New.coded.code step (λ x. sym (recoded x)) elements)
