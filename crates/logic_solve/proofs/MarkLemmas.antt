-- The facts of literals while these grow, and are cut back.
use Rattle.std.proofs.Common.{◌≡◌, inl, inr, ℕ, ◌≤◌, List, [], ◌∷◌, length, take, sym, subst, arith, ap, refl, ◌∙◌}
use Rattle.logic_cert.specs.declared.cert.Literal.{Literal}
use Rattle.logic_solve.specs.declared.facts.Facts.{Facts}
use Rattle.logic_solve.specs.declared.facts.Mark.{Mark}
use Rattle.logic_solve.specs.inner.Different.{IsGrown}
use Rattle.logic_solve.specs.inner.Facts.{AreFacts, AreFactsOf, AreMore}
use Rattle.logic_solve.specs.inner.Facts.{IsCutBack, IsMarked, IsNoted}
use Rattle.logic_solve.proofs.GrownLemmas.{cut_back, get_grown, grown_more, grown_same, length_grown, not_grown, take_all, take_grown}

pub no_more : (facts : Facts) → AreMore facts facts
no_more facts = record { literals = not_grown facts.literals.items; numbers = not_grown facts.numbers.items }

pub more_of_more : (facts after last : Facts) → AreMore facts after → AreMore after last → AreMore facts last
more_of_more facts after last one more = record {
  literals = grown_more facts.literals.items after.literals.items last.literals.items one.literals more.literals;
  numbers = grown_more facts.numbers.items after.numbers.items last.numbers.items one.numbers more.numbers;
}

pub more_of_same : (start facts after : Facts) → facts ≡ start → AreMore facts after → AreMore start after
more_of_same start facts after same more = subst (λ (some : Facts). AreMore some after) same more

pub one_more_noted : (facts after last : Facts) (number : ℕ) (literal : Literal) → AreMore facts after → IsNoted number literal after.literals.items after.numbers.items last.literals.items last.numbers.items → AreMore facts last
one_more_noted facts after last number literal more noted = more_of_more facts after last more (by_cases noted)
  where
    by_cases : IsNoted number literal after.literals.items after.numbers.items last.literals.items last.numbers.items → AreMore after last
    by_cases (inl put) = record { literals = (literal ∷ [], put.facts_are); numbers = (number ∷ [], put.numbers_are) }
    by_cases (inr known) = record {
      literals = grown_same after.literals.items last.literals.items known.facts_same;
      numbers = grown_same after.numbers.items last.numbers.items known.numbers_same;
    }

pub no_facts : (literals : List Literal) (facts : Facts) → literals ≡ [] → facts.literals.items ≡ [] → facts.numbers.items ≡ [] → facts.looked ≡ 0 → AreFactsOf literals facts
no_facts literals facts empty none none_numbered is = subst (λ (some : List Literal). AreFactsOf some facts) (sym empty) (record {
  within = omega arith;
  are =
      subst (λ (n : ℕ). AreFacts [] (take n []) facts.literals.items facts.numbers.items) (sym is)
      (subst (λ (some : List Literal). AreFacts [] [] some facts.numbers.items) (sym none)
      (subst (AreFacts [] [] []) (sym none_numbered) (record { fewer = omega arith; count = refl; stand = λ k fact at. absurd cc; covers = tt; rows = refl })));
})

-- All literals were looked at.
pub all_facts : (literals : List Literal) (facts after : Facts) (i : ℕ) → length literals ≤ i → after.literals.items ≡ facts.literals.items → after.numbers.items ≡ facts.numbers.items
    → AreFacts literals (take i literals) facts.literals.items facts.numbers.items → AreFacts literals literals after.literals.items after.numbers.items
all_facts literals facts after i end same same_numbers are =
    subst (λ (some : List Literal). AreFacts literals some after.literals.items after.numbers.items) (take_all literals i end)
    (subst (λ (some : List Literal). AreFacts literals (take i literals) some after.numbers.items) (sym same)
    (subst (AreFacts literals (take i literals) facts.literals.items) (sym same_numbers) are))

pub looked_at_all : (literals : List Literal) (facts : Facts) → facts.looked ≡ length literals → AreFacts literals literals facts.literals.items facts.numbers.items → AreFactsOf literals facts
looked_at_all literals facts is are = record {
  within = omega arith;
  are = subst (λ (some : List Literal). AreFacts literals some facts.literals.items facts.numbers.items) (sym (take_all literals facts.looked (omega arith))) are;
}

-- The facts of literals are those of more literals.
pub facts_of_more : (literals after : List Literal) (start facts : Facts) → facts ≡ start → IsGrown literals after → AreFactsOf literals start → AreFactsOf after facts
facts_of_more literals after start facts same grown of =
    let longer = length_grown literals after grown in
    let within = of.within in
    subst (AreFactsOf after) (sym same) (record {
      within = omega arith;
      are = subst (λ (some : List Literal). AreFacts after some start.literals.items start.numbers.items) (sym (take_grown start.looked literals after of.within grown)) (record {
        fewer = of.are.fewer;
        count = of.are.count;
        stand = λ k fact at. let here = of.are.stand k fact at in (here.0, (here.1.0, get_grown literals after here.0 fact here.1.1 grown));
        covers = of.are.covers;
        rows = of.are.rows;
      });
    })

pub slice_facts : (literals slice : List Literal) (facts : Facts) → slice ≡ literals → AreFactsOf literals facts → AreFactsOf slice facts
slice_facts literals slice facts same of = subst (λ (some : List Literal). AreFactsOf some facts) (sym same) of

facts_same : (literals : List Literal) (facts other : Facts) → other.literals.items ≡ facts.literals.items → other.numbers.items ≡ facts.numbers.items → other.looked ≡ facts.looked → AreFactsOf literals facts → AreFactsOf literals other
facts_same literals facts other same same_numbers looked of =
    let within = of.within in
    record {
      within = omega arith;
      are =
          subst (λ (n : ℕ). AreFacts literals (take n literals) other.literals.items other.numbers.items) (sym looked)
          (subst (λ (some : List Literal). AreFacts literals (take facts.looked literals) some other.numbers.items) (sym same)
          (subst (AreFacts literals (take facts.looked literals) facts.literals.items) (sym same_numbers) of.are));
    }

-- ---- facts that are cut back

-- The facts of the literals, marked, after those that there were.
pub record AreMarked (literals : List Literal) (mark : Mark) (start facts : Facts) : Type 0 where
  pub of : AreFactsOf literals facts
  pub marked : IsMarked facts mark
  pub more : AreMore start facts

pub marked_first : (literals slice : List Literal) (mark : Mark) (start facts : Facts) → slice ≡ literals → AreFactsOf slice facts → IsMarked facts mark → AreMore start facts → AreMarked literals mark start facts
marked_first literals slice mark start facts same of marked more = record { of = subst (λ (some : List Literal). AreFactsOf some facts) same of; marked = marked; more = more }

pub marked_again : (literals : List Literal) (mark : Mark) (start facts after cut : Facts) → AreMarked literals mark start facts → AreMore facts after → IsCutBack mark after cut → AreMarked literals mark start cut
marked_again literals mark start facts after cut are more back =
    let literals_same = back.literals_are ∙ cut_back facts.literals.items after.literals.items mark.facts are.marked.facts_are more.literals in
    let numbers_same = back.numbers_are ∙ cut_back facts.numbers.items after.numbers.items mark.facts (are.marked.facts_are ∙ sym are.of.are.count) more.numbers in
    let looked_same = back.looked_is ∙ are.marked.looked_is in
    record {
      of = facts_same literals facts cut literals_same numbers_same looked_same are.of;
      marked = record { facts_are = are.marked.facts_are ∙ sym (ap length literals_same); looked_is = sym back.looked_is };
      more = more_of_more start facts cut are.more (record {
        literals = grown_same facts.literals.items cut.literals.items literals_same;
        numbers = grown_same facts.numbers.items cut.numbers.items numbers_same;
      });
    }
