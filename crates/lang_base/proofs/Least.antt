-- The first of things that are ordered by place and rank: the least of several lists, part by part.
use Rattle.std.proofs.Common.{◌≡◌, ℕ, zero, suc, ◌+◌, ◌<◌, ◌≤◌, Bool, true, false, cond, List, [], ◌∷◌, ◌++◌, length, get_or, take, Option, Some, None, refl, sym, ap, ◌∙◌, arith, add-one}
use Rattle.std.specs.Prelude.{if◌then◌else◌, nat_lt, ◌==◌, ◌&&◌, ◌||◌}
use Rattle.std.specs.List.{flat_map}
use Rattle.std.specs.Option.{option_or}
use Rattle.std.proofs.lemmas.Bool.Decides.{nat_tests}
use Rattle.std.proofs.lemmas.List.{append-nil, take_all}
use Rattle.std.proofs.lemmas.List.Elements.{All-nil, All-cons, All-weaker}
use Rattle.lang_base.specs.Least.{Order, IsLeast, is_before, earlier, earlier_of, least}
use Rattle.lang_base.proofs.Members.{contains_head, contains_tail}

-- ---- two numbers

abbrev lower : ℕ → ℕ → ℕ → ℕ → Bool
lower p r q s = nat_lt p q || (p == q && nat_lt r s)

lower_is_transitive : (p r q s u v : ℕ) → lower p r q s ≡ true → lower q s u v ≡ true → lower p r u v ≡ true
lower_is_transitive p r q s u v one other = grind (arith, nat_tests)

not_lower_is_transitive : (p r q s u v : ℕ) → lower p r q s ≡ false → lower q s u v ≡ false → lower p r u v ≡ false
not_lower_is_transitive p r q s u v one other = grind (arith, nat_tests)

not_lower_itself : (p r : ℕ) → lower p r p r ≡ false
not_lower_itself p r = grind (arith, nat_tests)

not_both_lower : (p r q s : ℕ) → lower p r q s ≡ true → lower q s p r ≡ false
not_both_lower p r q s h = grind (arith, nat_tests)

module _ {X : Type 0} (order : Order X) where
  -- ---- the order

  both_before : (x y z : X) → is_before order z y ≡ true → is_before order y x ≡ true → is_before order z x ≡ true
  both_before x y z one other = lower_is_transitive (order.place z) (order.rank z) (order.place y) (order.rank y) (order.place x) (order.rank x) one other

  neither_before : (x y z : X) → is_before order z y ≡ false → is_before order y x ≡ false → is_before order z x ≡ false
  neither_before x y z one other = not_lower_is_transitive (order.place z) (order.rank z) (order.place y) (order.rank y) (order.place x) (order.rank x) one other

  before_itself : (x : X) → is_before order x x ≡ false
  before_itself x = not_lower_itself (order.place x) (order.rank x)

  before_both : (x y : X) → is_before order x y ≡ true → is_before order y x ≡ false
  before_both x y = not_both_lower (order.place x) (order.rank x) (order.place y) (order.rank y)

  -- ---- one more

  earlier_of_three : (x y z : X) (zy yx zx : Bool) → is_before order z y ≡ zy → is_before order y x ≡ yx → is_before order z x ≡ zx → earlier order x (earlier order y (Some z)) ≡ earlier_of order (earlier order x (Some y)) (Some z)
  earlier_of_three x y z true true true zy yx zx = rw (zy, yx, zx, zy) refl
  earlier_of_three x y z true true false zy yx zx = absurd (let both = both_before x y z zy yx in cc)
  earlier_of_three x y z true false true zy yx zx = rw (zy, yx, zx) refl
  earlier_of_three x y z true false false zy yx zx = rw (zy, yx, zx) refl
  earlier_of_three x y z false true zx_is zy yx zx = rw (zy, yx, zy) refl
  earlier_of_three x y z false false true zy yx zx = absurd (let both = neither_before x y z zy yx in cc)
  earlier_of_three x y z false false false zy yx zx = rw (zy, yx, zx) refl

  pub earlier_none : (one : Option X) → earlier_of order one None ≡ one
  earlier_none None = refl
  earlier_none (Some x) = refl

  earlier_assoc : (x : X) (one other : Option X) → earlier order x (earlier_of order one other) ≡ earlier_of order (earlier order x one) other
  earlier_assoc x None other = refl
  earlier_assoc x (Some y) None = sym (earlier_none (earlier order x (Some y)))
  earlier_assoc x (Some y) (Some z) = earlier_of_three x y z (is_before order z y) (is_before order y x) (is_before order z x) refl refl refl

  earlier_of_assoc : (one other last : Option X) → earlier_of order one (earlier_of order other last) ≡ earlier_of order (earlier_of order one other) last
  earlier_of_assoc None other last = refl
  earlier_of_assoc (Some x) other last = earlier_assoc x other last

  -- one before others is one
  or_one_of : (test : Bool) (one other : X) (later : Option X) → option_or (if test then Some one else Some other) later ≡ (if test then Some one else Some other)
  or_one_of true one other later = refl
  or_one_of false one other later = refl

  pub or_earlier : (x : X) (other later : Option X) → option_or (earlier order x other) later ≡ earlier order x other
  or_earlier x None later = refl
  or_earlier x (Some other) later = or_one_of (is_before order other x) other x later

  not_none_of : (test : Bool) (one other : X) → (if test then Some one else Some other) ≡ None → ⊥
  not_none_of true one other none = cc
  not_none_of false one other none = cc

  pub earlier_not_none : (x : X) (other : Option X) → earlier order x other ≡ None → ⊥
  earlier_not_none x None none = cc
  earlier_not_none x (Some other) none = not_none_of (is_before order other x) other x none

  -- ---- lists

  pub least_append : (these those : List X) → least order (these ++ those) ≡ earlier_of order (least order these) (least order those)
  least_append [] those = refl
  least_append (x ∷ these) those = ap (earlier order x) (least_append these those) ∙ earlier_assoc x (least order these) (least order those)

  least_step : {Y : Type 0} (of : Y → List X) (ys : List Y) (i : ℕ) (y : Y) → i < length ys → y ≡ get_or ys i y
      → least order (flat_map of (take (suc i) ys)) ≡ earlier_of order (least order (flat_map of (take i ys))) (least order (of y))
  least_step of [] i y lt is = absurd (omega arith)
  least_step of (z ∷ zs) zero y lt is = ap (least order) (append-nil (of z)) ∙ ap (λ w. least order (of w)) (sym is)
  least_step of (z ∷ zs) (suc i) y lt is =
      least_append (of z) (flat_map of (take (suc i) zs))
      ∙ ap (earlier_of order (least order (of z))) (least_step of zs i y (omega arith) is)
      ∙ earlier_of_assoc (least order (of z)) (least order (flat_map of (take i zs))) (least order (of y))
      ∙ ap (λ one. earlier_of order one (least order (of y))) (sym (least_append (of z) (flat_map of (take i zs))))

  -- a loop over parts has seen one more
  pub least_more : {Y : Type 0} (of : Y → List X) (ys : List Y) (i : ℕ) (y : Y) → i < length ys → y ≡ get_or ys i y
      → least order (flat_map of (take (i + 1) ys)) ≡ earlier_of order (least order (flat_map of (take i ys))) (least order (of y))
  least_more of ys i y lt is = rw (add-one i) (least_step of ys i y lt is)

  pub least_turn : {Y : Type 0} (of : Y → List X) (ys : List Y) (i : ℕ) (y : Y) (before here after : Option X) → i < length ys → y ≡ get_or ys i y
      → before ≡ least order (flat_map of (take i ys))
      → here ≡ least order (of y)
      → after ≡ earlier_of order before here
      → after ≡ least order (flat_map of (take (i + 1) ys))
  least_turn of ys i y before here after lt is before_is here_is after_is =
      after_is ∙ ap (λ one. earlier_of order one here) before_is ∙ ap (earlier_of order (least order (flat_map of (take i ys)))) here_is ∙ sym (least_more of ys i y lt is)

  -- the end of a loop over parts
  pub least_all : {Y : Type 0} (of : Y → List X) (ys : List Y) (i : ℕ) (one : Option X) → length ys ≤ i → one ≡ least order (flat_map of (take i ys)) → one ≡ least order (flat_map of ys)
  least_all of ys i one past is = is ∙ ap (λ zs. least order (flat_map of zs)) (take_all i ys past)

  -- the least of two parts
  pub least_both : (one other : Option X) (these those : List X) → one ≡ least order these → other ≡ least order those → earlier_of order one other ≡ least order (these ++ those)
  least_both one other these those left right = rw (left, right) (sym (least_append these those))

  -- ---- the least is one of them, and none of them comes before it

  pub none_is_least : (among : List X) → least order among ≡ None → among ≡ []
  none_is_least [] none = refl
  none_is_least (x ∷ more) none = absurd (earlier_not_none x (least order more) none)

  head_is_least : (x : X) (more : List X) (other : X) → IsLeast order more other → is_before order other x ≡ false → IsLeast order (x ∷ more) x
  head_is_least x more other l h = record {
    one = contains_head x more;
    least = All-cons (λ o. is_before order o x ≡ false) x more (before_itself x) (All-weaker (λ o. is_before order o other ≡ false) (λ o. is_before order o x ≡ false) (λ o k. neither_before x other o k h) more l.least);
  }

  tail_is_least : (x : X) (more : List X) (other : X) → IsLeast order more other → is_before order other x ≡ true → IsLeast order (x ∷ more) other
  tail_is_least x more other l h = record {
    one = contains_tail x other more l.one;
    least = All-cons (λ o. is_before order o other ≡ false) x more (before_both other x h) l.least;
  }

  alone_is_least : (x : X) → IsLeast order (x ∷ []) x
  alone_is_least x = record { one = contains_head x []; least = All-cons (λ o. is_before order o x ≡ false) x [] (before_itself x) (All-nil (λ o. is_before order o x ≡ false)) }

  same_some : (a b : X) (among : List X) → Some a ≡ Some b → IsLeast order among a → IsLeast order among b
  same_some a b among e l = let same : a ≡ b = cc in rw (← same) l

  pub some_is_least : (among : List X) (x : X) → least order among ≡ Some x → IsLeast order among x
  some_is_least [] x h = absurd cc
  some_is_least (first ∷ more) x h = by_rest (least order more) (some_is_least more) refl h
    where
      by_test : (other : X) (test : Bool) → IsLeast order more other → is_before order other first ≡ test → cond test (Some other) (Some first) ≡ Some x → IsLeast order (first ∷ more) x
      by_test other true l t e = same_some other x (first ∷ more) e (tail_is_least first more other l t)
      by_test other false l t e = same_some first x (first ∷ more) e (head_is_least first more other l t)

      by_rest : (rest : Option X) → ((other : X) → least order more ≡ Some other → IsLeast order more other) → least order more ≡ rest → earlier order first rest ≡ Some x → IsLeast order (first ∷ more) x
      by_rest None is r e = rw (none_is_least more r) (same_some first x (first ∷ []) e (alone_is_least first))
      by_rest (Some other) is r e = by_test other (is_before order other first) (is other r) refl e
