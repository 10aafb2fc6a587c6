-- Bytes of a file that were read in several steps.
use Rattle.std.proofs.Common.{◌≡◌, ◌++◌, ◌∙◌, ℕ, ◌≤◌, List, [], Option, Some, None, length, take, refl, ap, sym, append_assoc, append-nil, arith}
use Rattle.std.proofs.lemmas.List.{take_all, take-append-le}
use Rattle.std.specs.Prelude.{IfSome}
use Rattle.std.specs.Io.KnownBytes.{Consumes, IsAtEnd}
use Rattle.base_io.specs.inner.Reading.{Gives}

pub consumes_none : (a : Option (List ℕ)) → Consumes a a []
consumes_none None = tt
consumes_none (Some u) = refl

consumes_more : (a b c : Option (List ℕ)) (xs ys : List ℕ) → Consumes a b xs → Consumes b c ys → Consumes a c (xs ++ ys)
consumes_more None b c xs ys p q = tt
consumes_more (Some u) None c xs ys p q = absurd p
consumes_more (Some u) (Some v) None xs ys p q = absurd q
consumes_more (Some u) (Some v) (Some w) xs ys p q = p ∙ ap (λ l. xs ++ l) q ∙ sym (append_assoc xs ys w)

-- one more read
pub consumes_on : (a b c : Option (List ℕ)) (xs zs : List ℕ) (count : ℕ) → Consumes a b xs → Gives b c xs zs count → Consumes a c zs
consumes_on a b c xs zs count p gives = rw gives.gathered (consumes_more a b c xs gives.given p gives.next)

-- all that was asked for came
pub first_whole : (a b : Option (List ℕ)) (xs : List ℕ) (most : ℕ) → Consumes a b xs → length xs ≡ most → IfSome a (λ all. xs ≡ take most all)
first_whole None b xs most p full = tt
first_whole (Some u) None xs most p full = absurd p
first_whole (Some u) (Some v) xs most p full =
    rw p (rw (take-append-le most xs v (omega arith)) (sym (take_all most xs (omega arith))))

-- the end came first
pub first_ended : (a b c : Option (List ℕ)) (xs zs : List ℕ) (count most : ℕ) → Consumes a b xs → Gives b c xs zs count → count ≡ 0 → length zs ≤ most → IfSome a (λ all. zs ≡ take most all)
first_ended a b c xs zs count most p gives none within = ended a c zs most (consumes_on a b c xs zs count p gives) (gives.ended none) within
  where
    ended : (a c : Option (List ℕ)) (zs : List ℕ) (most : ℕ) → Consumes a c zs → IsAtEnd c → length zs ≤ most → IfSome a (λ all. zs ≡ take most all)
    ended None c zs most p at within = tt
    ended (Some u) None zs most p at within = absurd p
    ended (Some u) (Some v) zs most p at within = rw p (rw at (rw (append-nil zs) (sym (take_all most zs within))))
