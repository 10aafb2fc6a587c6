-- How a `Boxed` of a type may stand inside that type: it is one value of it and nothing else.
use mathlib.Core.Path.{refl}
use mathlib.Core.Former.{Former, this, const, pair, via}
use base.Stored.{gnil}
use base.Fml.{ftrue}
use denote.RattleType.{RattleType}
use denote.Memory.{part_of}
use denote.RawPtr.{Ptr}
use denote.Sharing.{nothing}
use denote.HoleLaws.{Alike}
use denote.HolePlaces.{Recodes, struct_places, laid, one_value}
use denote.Hole.Fix.{over}
use denote.Param.Weighed.{Weighed}
use denote.Model.Placed.{view_places}
use Rattle.std.specs.declared.boxed.Box.{Box}
use Rattle.std.specs.contracts.boxed.Box as box
use Rattle.std.specs.declared.alloc.Global.{Global}
use Rattle.std.specs.contracts.alloc.Global as heap
use Rattle.std.specs.contracts.impls.GlobalAllocator.TheImpl.{ghosts}
use Rattle.base_list.specs.declared.boxed.Boxed.TheInside.{Inside}
use Rattle.base_list.specs.declared.boxed.Boxed.TheView.{view, invariant}
use Rattle.base_list.specs.contracts.boxed.Boxed as boxed
use Rattle.base_list.specs.contracts.boxed.Boxed.TheInside as inside

abbrev pub the_former : Former {0} → Former {0}
the_former element = element

abbrev pub the_weighed : {element : Former {0}} → Weighed element → Weighed (the_former element)
the_weighed measure = measure

-- the fields are a pointer, an allocator and the value
abbrev fields : Former {0}
fields = via (pair (const (Ptr × Global)) this) Inside (λ X s. ((s.inner.ptr, s.inner.alloc), s.inner.value))
    (λ X v. record { inner = record { ptr = v.0.0; alloc = v.0.1; value = v.1 } }) (λ X s. refl) (λ X v. refl)

abbrev holding : {X Y : Type 0} → Box X Global → Y → Box Y Global
holding b y = record { ptr = b.ptr; alloc = b.alloc; value = y }

abbrev box_row : RattleType → RattleType
box_row R = box.the_row R heap.the_row ghosts

module _ (Old New : RattleType) (step : Old.Denot → New.Denot) where
  box_places : Alike Old New step → Alike (box_row Old) (box_row New) (λ b. holding b (step b.value))
  unfolding part_of
  box_places alike = record {
    mir_same = λ i. (box_row (one_value Old (alike.mir_same i) (λ _. ftrue) (λ _ _. nothing) gnil)).mir;
    own_same = λ b i. (box_row (one_value Old (alike.mir_same i) (alike.own_same b.value i) (alike.shr_same b.value i) gnil)).own_val (holding b tt);
    shr_same = λ b i. (box_row (one_value Old (alike.mir_same i) (alike.own_same b.value i) (alike.shr_same b.value i) gnil)).shr_at (holding b tt);
  }

  pub the_places : Alike Old New step → Alike (boxed.the_row Old) (boxed.the_row New) ((the_former this).map Old.Denot New.Denot step)
  the_places alike = view_places fields this view (λ X Y k u. refl) (λ X u. refl) Old.Denot New.Denot step (boxed.the_row Old).coded (boxed.the_row New).coded
      (invariant Old.Denot) (invariant New.Denot) (λ u p q. refl) (λ u p q. refl) (λ u e. tt) (λ u e. tt)
      (over (inside.the_row Old)) (over (inside.the_row New))
      (struct_places (inside.the_type Old) (inside.the_type New) ((λ b. holding b (step b.value)), tt) _ (λ d. refl) refl (laid _ _ _ (box_places alike), tt))

  pub the_codes_placed : Recodes Old New step → Recodes (boxed.the_row Old) (boxed.the_row New) ((the_former this).map Old.Denot New.Denot step)
  the_codes_placed recoded value = recoded value
