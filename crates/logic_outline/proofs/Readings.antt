-- Readings that are made of other readings.
use Rattle.std.proofs.Common.{◌≡◌, Bor, Option, None, Some, ℕ, suc, ◌+◌, ◌-◌, ◌<◌, ◌≤◌, List, [], ◌∷◌, ◌++◌, All, length, sym, ap, refl, ◌∙◌, subst, append_assoc, arith, IfSome}
use Rattle.std.specs.List.{flat_map}
use Rattle.std.proofs.lemmas.List.{append_cancel_left, append-nil, length-append}
use Rattle.std.proofs.lemmas.List.Concat.{flat_map-append, flat_map-cons}
use Rattle.std.proofs.lemmas.List.Elements.{All-head, All-nil, All-push, All-tail}
use Rattle.logic_outline.specs.Readings.{EndsNumber, IsRead}

-- ---- after a word

module _ {A : Type 0} (text : A → List ℕ) (Fits : A → Type 0) where
  pub word_none : (word bytes : List ℕ) → ((rest : List ℕ) → word ++ rest ≡ bytes → ⊥)
      → IsRead (λ a. word ++ text a) Fits bytes None
  word_none word bytes never = record { found = tt; again = λ value left fits ends is. never (text value ++ left) (sym (append_assoc word (text value) left) ∙ is) }

  word_found : (word rest bytes : List ℕ) (read : Option (A × Bor (List ℕ))) → word ++ rest ≡ bytes
      → IfSome read (λ one. Fits one.0 × (text one.0 ++ one.1.now ≡ rest))
      → IfSome read (λ one. Fits one.0 × ((word ++ text one.0) ++ one.1.now ≡ bytes))
  word_found word rest bytes None is f = tt
  word_found word rest bytes (Some one) is f = (f.0, append_assoc word (text one.0) one.1.now ∙ ap (λ (t : List ℕ). word ++ t) f.1 ∙ is)

  pub word_then : (word rest bytes : List ℕ) (read : Option (A × Bor (List ℕ)))
      → word ++ rest ≡ bytes → IsRead text Fits rest read
      → IsRead (λ a. word ++ text a) Fits bytes read
  word_then word rest bytes read is r = record {
    found = word_found word rest bytes read is r.found;
    again = λ value left fits ends same. r.again value left fits ends (append_cancel_left word (text value ++ left) rest (sym (append_assoc word (text value) left) ∙ same ∙ sym is));
  }

-- ---- one after the other

module _ {A B C : Type 0} (first : A → List ℕ) (IsFirst : A → Type 0) (second : B → List ℕ) (IsSecond : A → B → Type 0) (whole : C → List ℕ) (IsWhole : C → Type 0) where
  -- the whole is two parts
  pub record Joins : Type 0 where
    pub join : A → B → C
    pub head : C → A
    pub tail : C → B
    pub is : (c : C) → join (head c) (tail c) ≡ c
    pub spelled : (a : A) (b : B) → IsSecond a b → whole (join a b) ≡ first a ++ second b
    pub ends : (b : B) (rest : List ℕ) → EndsNumber rest → EndsNumber (second b ++ rest)
    pub parts : (c : C) → IsWhole c → IsFirst (head c) × IsSecond (head c) (tail c)
    pub good : (a : A) (b : B) → IsFirst a → IsSecond a b → IsWhole (join a b)

  cut : (j : Joins) (c : C) (left bytes : List ℕ) → IsWhole c → whole c ++ left ≡ bytes
      → first (j.head c) ++ (second (j.tail c) ++ left) ≡ bytes
  cut j c left bytes fits same =
      let spelled : first (j.head c) ++ second (j.tail c) ≡ whole c = sym (j.spelled (j.head c) (j.tail c) (j.parts c fits).1) ∙ ap whole (j.is c) in
      sym (append_assoc (first (j.head c)) (second (j.tail c)) left) ∙ ap (λ (t : List ℕ). t ++ left) spelled ∙ same

  pub first_fails : Joins → (bytes : List ℕ) → IsRead first IsFirst bytes None
      → IsRead whole IsWhole bytes None
  first_fails j bytes r = record {
    found = tt;
    again = λ c left fits ends same. r.again (j.head c) (second (j.tail c) ++ left) (j.parts c fits).0 (j.ends (j.tail c) left ends) (cut j c left bytes fits same);
  }

  -- where the first part ended is where the second begins
  at_second : (j : Joins) (bytes : List ℕ) (a : A × Bor (List ℕ))
      → IsRead first IsFirst bytes (Some a) → (c : C) (left : List ℕ) → IsWhole c → EndsNumber left
      → whole c ++ left ≡ bytes
      → (a.0 ≡ j.head c) × (a.1.now ≡ second (j.tail c) ++ left)
  at_second j bytes a r c left fits ends same = r.again (j.head c) (second (j.tail c) ++ left) (j.parts c fits).0 (j.ends (j.tail c) left ends) (cut j c left bytes fits same)

  pub second_fails : Joins → (bytes : List ℕ) (a : A × Bor (List ℕ))
      → IsRead first IsFirst bytes (Some a) → IsRead second (IsSecond a.0) a.1.now None
      → IsRead whole IsWhole bytes None
  second_fails j bytes a r s = record {
    found = tt;
    again = λ c left fits ends same.
        let at = at_second j bytes a r c left fits ends same in
        s.again (j.tail c) left (subst (λ (x : A). IsSecond x (j.tail c)) (sym at.0) (j.parts c fits).1) ends (sym at.1);
  }

  pub joined : (j : Joins) (bytes : List ℕ) (a : A × Bor (List ℕ)) (b : B × Bor (List ℕ))
      → IsRead first IsFirst bytes (Some a) → IsRead second (IsSecond a.0) a.1.now (Some b)
      → IsRead whole IsWhole bytes (Some (j.join a.0 b.0, b.1))
  joined j bytes a b r s = record {
    found = (j.good a.0 b.0 r.found.0 s.found.0, ap (λ (t : List ℕ). t ++ b.1.now) (j.spelled a.0 b.0 s.found.0) ∙ append_assoc (first a.0) (second b.0) b.1.now ∙ ap (λ (t : List ℕ). first a.0 ++ t) s.found.1 ∙ r.found.1);
    again = λ c left fits ends same.
        let at = at_second j bytes a r c left fits ends same in
        let then = s.again (j.tail c) left (subst (λ (x : A). IsSecond x (j.tail c)) (sym at.0) (j.parts c fits).1) ends (sym at.1) in
        (ap (λ (x : A). j.join x b.0) at.0 ∙ ap (λ (y : B). j.join (j.head c) y) then.0 ∙ j.is c, then.1);
  }

-- ---- under another name

module _ {A C : Type 0} (text : A → List ℕ) (Fits : A → Type 0) (whole : C → List ℕ) (IsWhole : C → Type 0) where
  -- the whole is what was read, turned
  pub record Turns : Type 0 where
    pub to : A → C
    pub from : C → A
    pub is : (c : C) → IsWhole c → to (from c) ≡ c
    pub fits : (c : C) → IsWhole c → Fits (from c)
    pub same : (c : C) → IsWhole c → whole c ≡ text (from c)

  pub turn_none : Turns → (bytes : List ℕ) → IsRead text Fits bytes None
      → IsRead whole IsWhole bytes None
  turn_none t bytes r = record {
    found = tt;
    again = λ c left fits ends is. r.again (t.from c) left (t.fits c fits) ends (ap (λ (w : List ℕ). w ++ left) (sym (t.same c fits)) ∙ is);
  }

  pub turn_refused : (t : Turns) (bytes : List ℕ) (a : A × Bor (List ℕ))
      → IsRead text Fits bytes (Some a) → ((c : C) → IsWhole c → a.0 ≡ t.from c → ⊥)
      → IsRead whole IsWhole bytes None
  turn_refused t bytes a r never = record {
    found = tt;
    again = λ c left fits ends is. never c fits (r.again (t.from c) left (t.fits c fits) ends (ap (λ (w : List ℕ). w ++ left) (sym (t.same c fits)) ∙ is)).0;
  }

  pub turned : (t : Turns) (bytes : List ℕ) (a : A × Bor (List ℕ)) (c : C)
      → IsRead text Fits bytes (Some a) → c ≡ t.to a.0 → IsWhole c → whole c ≡ text a.0
      → IsRead whole IsWhole bytes (Some (c, a.1))
  turned t bytes a c r made good same = record {
    found = (good, ap (λ (w : List ℕ). w ++ a.1.now) same ∙ r.found.1);
    again = λ d left fits ends is.
        let at = r.again (t.from d) left (t.fits d fits) ends (ap (λ (w : List ℕ). w ++ left) (sym (t.same d fits)) ∙ is) in
        (made ∙ ap t.to at.0 ∙ t.is d fits, at.1);
  }

-- ---- so many, one after the other

module _ {A : Type 0} (item : A → List ℕ) (IsItem : A → Type 0) where
  -- the items that come after those that were read
  pub record Later (read items : List A) (rest now : List ℕ) (left : ℕ) : Type 0 where
    pub more : List A
    pub whole : read ++ more ≡ items
    pub number : length more ≡ left
    pub all : All IsItem more
    pub text : flat_map item more ++ rest ≡ now

  -- some were read, and so many are left
  pub record Follows (start : List ℕ) (count : ℕ) (read : List A) (now : List ℕ) (left : ℕ) : Type 0 where
    pub here : flat_map item read ++ now ≡ start
    pub number : length read + left ≡ count
    pub all : All IsItem read
    pub onward : (items : List A) (rest : List ℕ) → length items ≡ count → All IsItem items
        → EndsNumber rest → flat_map item items ++ rest ≡ start → Later read items rest now left

  pub begin : (start : List ℕ) (count : ℕ) → Follows start count [] start (count - 0)
  begin start count = record {
    here = refl;
    number = omega arith;
    all = All-nil IsItem;
    onward = λ items rest many all ends is. record { more = items; whole = refl; number = omega (arith, many); all = all; text = is };
  }

  pub ends_items : ((x : A) (rest : List ℕ) → EndsNumber (item x ++ rest)) → (xs : List A)
      (rest : List ℕ) → EndsNumber rest → EndsNumber (flat_map item xs ++ rest)
  ends_items starts [] rest ends = ends
  ends_items starts (x ∷ xs) rest ends = subst EndsNumber (sym (ap (λ (t : List ℕ). t ++ rest) (flat_map-cons item x xs) ∙ append_assoc (item x) (flat_map item xs) rest)) (starts x (flat_map item xs ++ rest))

  next_text : (x : A) (xs : List A) (rest now : List ℕ) → flat_map item (x ∷ xs) ++ rest ≡ now
      → item x ++ (flat_map item xs ++ rest) ≡ now
  next_text x xs rest now is = sym (ap (λ (t : List ℕ). t ++ rest) (flat_map-cons item x xs) ∙ append_assoc (item x) (flat_map item xs) rest) ∙ is

  later_turn : ((x : A) (rest : List ℕ) → EndsNumber (item x ++ rest)) → (read items : List A)
      (rest now : List ℕ) (left : ℕ) (one : A × Bor (List ℕ)) → IsRead item IsItem now (Some one)
      → EndsNumber rest
      → (more : List A) → read ++ more ≡ items → length more ≡ suc left → All IsItem more
      → flat_map item more ++ rest ≡ now → Later (read ++ one.0 ∷ []) items rest one.1.now left
  later_turn starts read items rest now left one r ends [] whole number all text = absurd (omega (arith, number))
  later_turn starts read items rest now left one r ends (x ∷ xs) whole number all text =
      let at = r.again x (flat_map item xs ++ rest) (All-head IsItem x xs all) (ends_items starts xs rest ends) (next_text x xs rest now text) in
      record {
        more = xs;
        whole = append_assoc read (one.0 ∷ []) xs ∙ ap (λ (y : A). read ++ y ∷ xs) at.0 ∙ whole;
        number = omega (arith, number);
        all = All-tail IsItem x xs all;
        text = sym at.1;
      }

  pub follow : ((x : A) (rest : List ℕ) → EndsNumber (item x ++ rest)) → (start : List ℕ)
      (count : ℕ) (read : List A) (now : List ℕ) (left : ℕ) (one : A × Bor (List ℕ))
      → IsRead item IsItem now (Some one)
      → Follows start count read now (suc left)
      → Follows start count (read ++ one.0 ∷ []) one.1.now left
  follow starts start count read now left one r f = record {
    here = ap (λ (t : List ℕ). t ++ one.1.now) (flat_map-append item read (one.0 ∷ []) ∙ ap (λ (t : List ℕ). flat_map item read ++ t) (flat_map-cons item one.0 [] ∙ append-nil (item one.0)))
        ∙ append_assoc (flat_map item read) (item one.0) one.1.now ∙ ap (λ (t : List ℕ). flat_map item read ++ t) r.found.1 ∙ f.here;
    number = omega (arith, length-append read (one.0 ∷ []), f.number);
    all = All-push IsItem read one.0 f.all r.found.0;
    onward = λ items rest many all ends is.
        let l = f.onward items rest many all ends is in
        later_turn starts read items rest now left one r ends l.more l.whole l.number l.all l.text;
  }

  pub follow_turn : ((x : A) (rest : List ℕ) → EndsNumber (item x ++ rest)) → (start : List ℕ)
      (count turn : ℕ) (read : List A) (now : List ℕ) (one : A × Bor (List ℕ)) → turn < count
      → IsRead item IsItem now (Some one)
      → Follows start count read now (count - turn)
      → Follows start count (read ++ one.0 ∷ []) one.1.now (count - (turn + 1))
  follow_turn starts start count turn read now one more r f =
      let left : count - turn ≡ suc (count - (turn + 1)) = omega arith in
      follow starts start count read now (count - (turn + 1)) one r (subst (λ (n : ℕ). Follows start count read now n) left f)

  -- so many items
  abbrev pub Are : ℕ → List A → Type 0
  Are count items = (length items ≡ count) × All IsItem items

  stop_at : ((x : A) (rest : List ℕ) → EndsNumber (item x ++ rest)) → (rest now : List ℕ) (left : ℕ)
      → IsRead item IsItem now None → EndsNumber rest → (more : List A) → length more ≡ suc left
      → All IsItem more → flat_map item more ++ rest ≡ now → ⊥
  stop_at starts rest now left r ends [] number all text = absurd (omega (arith, number))
  stop_at starts rest now left r ends (x ∷ xs) number all text = r.again x (flat_map item xs ++ rest) (All-head IsItem x xs all) (ends_items starts xs rest ends) (next_text x xs rest now text)

  pub stop : ((x : A) (rest : List ℕ) → EndsNumber (item x ++ rest)) → (start : List ℕ) (count : ℕ)
      (read : List A) (now : List ℕ) (left : ℕ) → IsRead item IsItem now None
      → Follows start count read now (suc left)
      → IsRead (λ items. flat_map item items) (Are count) start None
  stop starts start count read now left r f = record {
    found = tt;
    again = λ items rest fits ends is.
        let l = f.onward items rest fits.0 fits.1 ends is in
        stop_at starts rest now left r ends l.more l.number l.all l.text;
  }

  last_of : (read items more : List A) (rest now : List ℕ) → read ++ more ≡ items → length more ≡ 0
      → flat_map item more ++ rest ≡ now → (read ≡ items) × (now ≡ rest)
  last_of read items [] rest now whole number text = (sym (append-nil read) ∙ whole, sym text)
  last_of read items (x ∷ xs) rest now whole number text = absurd (omega (arith, number))

  pub finish : (start : List ℕ) (count : ℕ) (read : List A) (now : Bor (List ℕ))
      → Follows start count read now.now 0
      → IsRead (λ items. flat_map item items) (Are count) start (Some (read, now))
  finish start count read now f = record {
    found = ((omega (arith, f.number), f.all), f.here);
    again = λ items rest fits ends is.
        let l = f.onward items rest fits.0 fits.1 ends is in
        last_of read items l.more rest now.now l.whole l.number l.text;
  }

  pub stop_turn : ((x : A) (rest : List ℕ) → EndsNumber (item x ++ rest)) → (start : List ℕ)
      (count turn : ℕ) (read : List A) (now : List ℕ) → turn < count → IsRead item IsItem now None
      → Follows start count read now (count - turn)
      → IsRead (λ items. flat_map item items) (Are count) start None
  stop_turn starts start count turn read now more r f =
      let left : count - turn ≡ suc (count - (turn + 1)) = omega arith in
      stop starts start count read now (count - (turn + 1)) r (subst (λ (n : ℕ). Follows start count read now n) left f)

  pub finish_turn : (start : List ℕ) (count turn : ℕ) (read : List A) (now : Bor (List ℕ))
      → count ≤ turn → Follows start count read now.now (count - turn)
      → IsRead (λ items. flat_map item items) (Are count) start (Some (read, now))
  finish_turn start count turn read now most f =
      let left : count - turn ≡ 0 = omega arith in
      finish start count read now (subst (λ (n : ℕ). Follows start count read now.now n) left f)
