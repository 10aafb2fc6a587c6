-- What a reader owes the rule of what it reads: what it finds follows the rule, what follows the
-- rule it finds again, and where it stops, the words before begin something that follows the rule,
-- and with the word there nothing is read.
use Rattle.std.proofs.Common.{◌≡◌, ℕ, zero, suc, ◌<◌, ◌≤◌, Bool, true, false, cond, eqb, List, [], ◌∷◌, ◌++◌, length, Result, Ok, Err, refl, sym, ap, subst, ◌∙◌, inl, inr, append_assoc, arith}
use Rattle.std.specs.Prelude.{◌⊎◌}
use Rattle.std.proofs.lemmas.Bool.{eqb-true}
use Rattle.std.proofs.lemmas.List.{append-nil, length-append, nil_from_length}
use Rattle.lang_tokens.specs.Words.{Word}
use Rattle.lang_syntax.specs.Grammar.{Rule, ◌⌢◌, Each}
use Rattle.lang_cursor.specs.Reading.{◌>>=◌, Read, ◌⊗◌, made_at, choice_at, pure_at, many_at, each_at, whole}

-- the words begin alike, or both are at the end: all that a reader sees past what it takes
abbrev pub SameHead : List Word → List Word → Type 0
SameHead [] [] = Unit {0}
SameHead (u ∷ us) (v ∷ vs) = u ≡ v
SameHead us vs = ⊥

pub record Found {A : Type 0} (IsTree : Rule A) (read : List Word → Read A) (ws : List Word) (x : A) (rest : List Word) : Type 0 where
  pub taken : List Word
  pub parts : ws ≡ taken ++ rest
  pub is : IsTree x taken
  pub stable : (others : List Word) → SameHead rest others → read (taken ++ others) ≡ Ok (x, others)

pub record Faulty {A : Type 0} (IsTree : Rule A) (read : List Word → Read A) (ws : List Word) (left : ℕ) : Type 0 where
  pub front : List Word
  pub rest : List Word
  pub parts : ws ≡ front ++ rest
  pub len : length rest ≡ left
  pub made : A
  pub more : List Word
  pub viable : IsTree made (front ++ more)
  pub fails : (w : Word) (tail : List Word) → rest ≡ w ∷ tail → (others : List Word) → (m : ℕ) × (read (front ++ w ∷ others) ≡ Err m)

pub record Example {A : Type 0} (IsTree : Rule A) : Type 0 where
  pub made : A
  pub words : List Word
  pub is : IsTree made words

-- `Follows` is what may come after what was read, for it to be read again
pub record Reads {A : Type 0} (IsTree : Rule A) (read : List Word → Read A) (Follows : List Word → Type 0) : Type 0 where
  pub found : (ws : List Word) (x : A) (rest : List Word) → read ws ≡ Ok (x, rest) → Found IsTree read ws x rest
  pub again : (x : A) (taken rest : List Word) → IsTree x taken → Follows rest → read (taken ++ rest) ≡ Ok (x, rest)
  pub blames : (ws : List Word) (left : ℕ) → read ws ≡ Err left → Faulty IsTree read ws left
  pub example : Example IsTree

abbrev pub Anything : List Word → Type 0
Anything ws = Unit {0}

-- a test of the first word alone
abbrev pub Heads : (List Word → Bool) → Type 0
Heads starts = (us vs : List Word) → SameHead us vs → starts us ≡ starts vs

-- the rule of two readers, one after the other
abbrev pub Both : {A B : Type 0} → Rule A → Rule B → Rule (A × B)
Both IsFirst IsSecond pair = IsFirst pair.0 ⌢ IsSecond pair.1

-- ---- steps

-- the value of a step that did not fail
pub bind_ok : {A B : Type 0} (r : Result A ℕ) (f : A → Result B ℕ) (y : B) → (r >>= f) ≡ Ok y → (x : A) × (r ≡ Ok x) × (f x ≡ Ok y)
bind_ok (Ok x) f y e = (x, refl, e)
bind_ok (Err left) f y e = absurd cc

-- the step that failed
pub bind_err : {A B : Type 0} (r : Result A ℕ) (f : A → Result B ℕ) (left : ℕ) → (r >>= f) ≡ Err left → (r ≡ Err left) ⊎ ((x : A) × (r ≡ Ok x) × (f x ≡ Err left))
bind_err (Ok x) f left e = inr (x, refl, e)
bind_err (Err n) f left e = inl cc

-- where something is made of what was read, the reading failed
made_err : {A B : Type 0} (r : Result A ℕ) (make : A → B) (left : ℕ) → (r >>= λ a. Ok (make a)) ≡ Err left → r ≡ Err left
made_err (Ok a) make left e = absurd cc
made_err (Err n) make left e = cc

abbrev done : {A : Type 0} → A → Result A ℕ
done x = Ok x

pub ok_is : {A : Type 0} (x y : A) → done x ≡ done y → x ≡ y
ok_is x y e = cc

pub not_both : {A : Type 0} (r : Result A ℕ) (x : A) (left : ℕ) → r ≡ Ok x → r ≡ Err left → ⊥
not_both r x left p q = let both : Ok x ≡ Err left = sym p ∙ q in cc

err_is : {A : Type 0} (r : Result A ℕ) (m n : ℕ) → r ≡ Err m → r ≡ Err n → m ≡ n
err_is r m n p q = let both : Err m ≡ Err n = sym p ∙ q in cc

pub not_bool : (b : Bool) → b ≡ true → b ≡ false → ⊥
not_bool b p q = let both : true ≡ false = sym p ∙ q in cc

pub nil_no : (w : Word) (tail : List Word) → [] ≡ w ∷ tail → ⊥
nil_no w tail e = cc

head_is : (v w : Word) (us vs : List Word) → v ∷ us ≡ w ∷ vs → v ≡ w
head_is v w us vs e = cc

-- what begins alike still does so behind other words
pub same_behind : (front us vs : List Word) → SameHead us vs → SameHead (front ++ us) (front ++ vs)
same_behind [] us vs same = same
same_behind (w ∷ front) us vs same = refl

-- words that have a word after a front begin as any that have the front and that word
pub same_at : (ws front rest : List Word) (w : Word) (tail others : List Word) → ws ≡ front ++ rest → rest ≡ w ∷ tail → SameHead ws (front ++ w ∷ others)
same_at ws front rest w tail others parts is =
    let all : ws ≡ front ++ w ∷ tail = parts ∙ ap (λ (r : List Word). front ++ r) is in
    subst (λ (us : List Word). SameHead us (front ++ w ∷ others)) (sym all) (same_behind front (w ∷ tail) (w ∷ others) refl)

joined : (ws front after more rest : List Word) → ws ≡ front ++ after → after ≡ more ++ rest → ws ≡ (front ++ more) ++ rest
joined ws front after more rest first others = first ∙ ap (λ (r : List Word). front ++ r) others ∙ sym (append_assoc front more rest)

-- what was read is the value that was answered
pub found_is : {A : Type 0} (IsTree : Rule A) (read : List Word → Read A) (ws : List Word) (made : A) (left : List Word) (x : A) (rest : List Word)
    → done {A = A × List Word} (made, left) ≡ done (x, rest) → Found IsTree read ws made left → Found IsTree read ws x rest
found_is {A} IsTree read ws made left x rest e found = subst (λ (p : A × List Word). Found IsTree read ws p.0 p.1) (ok_is (made, left) (x, rest) e) found

-- ---- single words

-- the reader takes each word or refuses it, whatever comes after
pub record One {A : Type 0} (IsTree : Rule A) (read : List Word → Read A) : Type 0 where
  pub nothing : read [] ≡ Err 0
  pub word : (w : Word) → ((rest : List Word) → read (w ∷ rest) ≡ Err (suc (length rest))) ⊎ ((x : A) × ((rest : List Word) → read (w ∷ rest) ≡ Ok (x, rest)) × IsTree x (w ∷ []))
  pub again : (x : A) (ws : List Word) → IsTree x ws → (w : Word) × (ws ≡ w ∷ []) × ((rest : List Word) → read (w ∷ rest) ≡ Ok (x, rest))
  pub example : Example IsTree

pub one_reads : {A : Type 0} (IsTree : Rule A) (read : List Word → Read A) → One IsTree read → Reads IsTree read Anything
one_reads {A} IsTree read one = record { found = find; again = reread; blames = blame; example = one.example }
  where
    find : (ws : List Word) (x : A) (rest : List Word) → read ws ≡ Ok (x, rest) → Found IsTree read ws x rest
    find [] x rest e = absurd (not_both (read []) (x, rest) 0 e one.nothing)
    find (w ∷ ws) x rest e = elim (one.word w) [
      | inl refused ↦ absurd (not_both (read (w ∷ ws)) (x, rest) (suc (length ws)) e (refused ws))
      | inr took ↦ found_is IsTree read (w ∷ ws) took.0 ws x rest (sym (took.1 ws) ∙ e) (record { taken = w ∷ []; parts = refl; is = took.2; stable = λ others same. took.1 others })
    ]

    reread : (x : A) (taken rest : List Word) → IsTree x taken → Anything rest → read (taken ++ rest) ≡ Ok (x, rest)
    reread x taken rest is any = let word = one.again x taken is in ap (λ (t : List Word). read (t ++ rest)) word.1 ∙ word.2 rest

    at_once : (ws : List Word) (left : ℕ) → length ws ≡ left → ((w : Word) (tail : List Word) → ws ≡ w ∷ tail → (others : List Word) → (m : ℕ) × (read (w ∷ others) ≡ Err m)) → Faulty IsTree read ws left
    at_once ws left len fails = record { front = []; rest = ws; parts = refl; len = len; made = one.example.made; more = one.example.words; viable = one.example.is; fails = fails }

    blame : (ws : List Word) (left : ℕ) → read ws ≡ Err left → Faulty IsTree read ws left
    blame [] left e = at_once [] left (err_is (read []) 0 left one.nothing e) (λ w tail is others. absurd (nil_no w tail is))
    blame (w ∷ ws) left e = elim (one.word w) [
      | inl refused ↦ at_once (w ∷ ws) left (err_is (read (w ∷ ws)) (suc (length ws)) left (refused ws) e)
          (λ v tail is others. (suc (length others), ap (λ (u : Word). read (u ∷ others)) (sym (head_is w v ws tail is)) ∙ refused others))
      | inr took ↦ absurd (not_both (read (w ∷ ws)) (took.0, ws) left (took.1 ws) e)
    ]

-- ---- readers put together

pub pair_reads : {A B : Type 0} (IsFirst : Rule A) (first : List Word → Read A) (F : List Word → Type 0) (IsSecond : Rule B) (second : List Word → Read B) (G : List Word → Type 0)
    → Reads IsFirst first F → Reads IsSecond second G
    → ((y : B) (taken rest : List Word) → IsSecond y taken → G rest → F (taken ++ rest))
    → Reads (Both IsFirst IsSecond) (first ⊗ second) G
pair_reads {A} {B} IsFirst first F IsSecond second G r s meets = record { found = find; again = reread; blames = blame; example = shown }
  where
    find : (ws : List Word) (p : A × B) (rest : List Word) → (first ⊗ second) ws ≡ Ok (p, rest) → Found (Both IsFirst IsSecond) (first ⊗ second) ws p rest
    find ws p rest e =
        let a = bind_ok (first ws) _ _ e in
        let b = bind_ok (second a.0.1) _ _ a.2 in
        let f = r.found ws a.0.0 a.0.1 a.1 in
        let g = s.found a.0.1 b.0.0 b.0.1 b.1 in
        found_is (Both IsFirst IsSecond) (first ⊗ second) ws (a.0.0, b.0.0) b.0.1 p rest b.2 (record {
          taken = f.taken ++ g.taken;
          parts = joined ws f.taken a.0.1 g.taken b.0.1 f.parts g.parts;
          is = (f.taken, g.taken, f.is, g.is, refl);
          stable = λ others same.
              let alike : SameHead a.0.1 (g.taken ++ others) = subst (λ (us : List Word). SameHead us (g.taken ++ others)) (sym g.parts) (same_behind g.taken b.0.1 others same) in
              rw (append_assoc f.taken g.taken others, f.stable (g.taken ++ others) alike, g.stable others same) refl;
        })

    reread : (p : A × B) (taken rest : List Word) → Both IsFirst IsSecond p taken → G rest → (first ⊗ second) (taken ++ rest) ≡ Ok (p, rest)
    reread p taken rest is follows =
        let grouped : taken ++ rest ≡ is.0 ++ (is.1 ++ rest) = ap (λ (t : List Word). t ++ rest) is.4 ∙ append_assoc is.0 is.1 rest in
        ap (first ⊗ second) grouped ∙ rw (r.again p.0 is.0 (is.1 ++ rest) is.2 (meets p.1 is.1 rest is.3 follows), s.again p.1 is.1 rest is.3 follows) refl

    in_first : (ws : List Word) (left : ℕ) → Faulty IsFirst first ws left → Faulty (Both IsFirst IsSecond) (first ⊗ second) ws left
    in_first ws left fault = record {
      front = fault.front;
      rest = fault.rest;
      parts = fault.parts;
      len = fault.len;
      made = (fault.made, s.example.made);
      more = fault.more ++ s.example.words;
      viable = (fault.front ++ fault.more, s.example.words, fault.viable, s.example.is, sym (append_assoc fault.front fault.more s.example.words));
      fails = λ w tail is others. let f = fault.fails w tail is others in (f.0, rw f.1 refl);
    }

    in_second : (ws : List Word) (left : ℕ) (x : A) (after : List Word) → Found IsFirst first ws x after → Faulty IsSecond second after left → Faulty (Both IsFirst IsSecond) (first ⊗ second) ws left
    in_second ws left x after f fault = record {
      front = f.taken ++ fault.front;
      rest = fault.rest;
      parts = joined ws f.taken after fault.front fault.rest f.parts fault.parts;
      len = fault.len;
      made = (x, fault.made);
      more = fault.more;
      viable = (f.taken, fault.front ++ fault.more, f.is, fault.viable, append_assoc f.taken fault.front fault.more);
      fails = λ w tail is others.
          let g = fault.fails w tail is others in
          let alike = same_at after fault.front fault.rest w tail others fault.parts is in
          (g.0, rw (append_assoc f.taken fault.front (w ∷ others), f.stable (fault.front ++ w ∷ others) alike, g.1) refl);
    }

    blame : (ws : List Word) (left : ℕ) → (first ⊗ second) ws ≡ Err left → Faulty (Both IsFirst IsSecond) (first ⊗ second) ws left
    blame ws left e = elim (bind_err (first ws) _ left e) [
      | inl failed ↦ in_first ws left (r.blames ws left failed)
      | inr took ↦ in_second ws left took.0.0 took.0.1 (r.found ws took.0.0 took.0.1 took.1) (s.blames took.0.1 left (made_err (second took.0.1) (λ b. ((took.0.0, b.0), b.1)) left took.2))
    ]

    shown : Example (Both IsFirst IsSecond)
    shown = record { made = (r.example.made, s.example.made); words = r.example.words ++ s.example.words; is = (r.example.words, s.example.words, r.example.is, s.example.is, refl) }

pub made_reads : {A B : Type 0} (IsPart : Rule A) (read : List Word → Read A) (F : List Word → Type 0) (make : A → B) (IsTree : Rule B)
    → Reads IsPart read F
    → ((x : A) (ws : List Word) → IsPart x ws → IsTree (make x) ws)
    → ((y : B) (ws : List Word) → IsTree y ws → (x : A) × (y ≡ make x) × IsPart x ws)
    → Reads IsTree (made_at make read) F
made_reads {A} {B} IsPart read F make IsTree r to from = record { found = find; again = reread; blames = blame; example = record { made = make r.example.made; words = r.example.words; is = to r.example.made r.example.words r.example.is } }
  where
    find : (ws : List Word) (y : B) (rest : List Word) → made_at make read ws ≡ Ok (y, rest) → Found IsTree (made_at make read) ws y rest
    find ws y rest e =
        let a = bind_ok (read ws) _ _ e in
        let f = r.found ws a.0.0 a.0.1 a.1 in
        found_is IsTree (made_at make read) ws (make a.0.0) a.0.1 y rest a.2 (record {
          taken = f.taken;
          parts = f.parts;
          is = to a.0.0 f.taken f.is;
          stable = λ others same. rw (f.stable others same) refl;
        })

    reread : (y : B) (taken rest : List Word) → IsTree y taken → F rest → made_at make read (taken ++ rest) ≡ Ok (y, rest)
    reread y taken rest is follows =
        let part = from y taken is in
        let again : made_at make read (taken ++ rest) ≡ Ok (make part.0, rest) = rw (r.again part.0 taken rest part.2 follows) refl in
        again ∙ ap (λ (z : B). Ok (z, rest)) (sym part.1)

    blame : (ws : List Word) (left : ℕ) → made_at make read ws ≡ Err left → Faulty IsTree (made_at make read) ws left
    blame ws left e =
        let fault = r.blames ws left (made_err (read ws) (λ a. (make a.0, a.1)) left e) in
        record {
          front = fault.front;
          rest = fault.rest;
          parts = fault.parts;
          len = fault.len;
          made = make fault.made;
          more = fault.more;
          viable = to fault.made (fault.front ++ fault.more) fault.viable;
          fails = λ w tail is others. let f = fault.fails w tail is others in (f.0, rw f.1 refl);
        }

pub pure_reads : {A : Type 0} (tree : A) → Reads (λ x ws. (x ≡ tree) × (ws ≡ [])) (pure_at tree) Anything
pure_reads {A} tree = record { found = find; again = reread; blames = λ ws left e. absurd (not_both (pure_at tree ws) (tree, ws) left refl e); example = record { made = tree; words = []; is = (refl, refl) } }
  where
    find : (ws : List Word) (x : A) (rest : List Word) → pure_at tree ws ≡ Ok (x, rest) → Found (λ x ws. (x ≡ tree) × (ws ≡ [])) (pure_at tree) ws x rest
    find ws x rest e = found_is (λ x ws. (x ≡ tree) × (ws ≡ [])) (pure_at tree) ws tree ws x rest e (record { taken = []; parts = refl; is = (refl, refl); stable = λ others same. refl })

    reread : (x : A) (taken rest : List Word) → (x ≡ tree) × (taken ≡ []) → Anything rest → pure_at tree (taken ++ rest) ≡ Ok (x, rest)
    reread x taken rest is any = ap (λ (t : List Word). pure_at tree (t ++ rest)) is.1 ∙ ap (λ (y : A). Ok (y, rest)) (sym is.0)

abbrev EitherRule : {A : Type 0} → Rule A → Rule A → Rule A
EitherRule IsFirst IsSecond x ws = IsFirst x ws ⊎ IsSecond x ws

pub choice_reads : {A : Type 0} (starts : List Word → Bool) (IsFirst : Rule A) (first : List Word → Read A) (F : List Word → Type 0) (IsSecond : Rule A) (second : List Word → Read A) (G H : List Word → Type 0)
    → Heads starts → Reads IsFirst first F → Reads IsSecond second G
    → ((x : A) (taken rest : List Word) → IsFirst x taken → H rest → (starts (taken ++ rest) ≡ true) × F rest)
    → ((x : A) (taken rest : List Word) → IsSecond x taken → H rest → (starts (taken ++ rest) ≡ false) × G rest)
    → Reads (λ x ws. IsFirst x ws ⊎ IsSecond x ws) (choice_at starts first second) H
choice_reads {A} starts IsFirst first F IsSecond second G H heads r s begin_first begin_second = record {
  found = λ ws x rest e. find ws x rest (starts ws) refl e;
  again = reread;
  blames = λ ws left e. blame ws left (starts ws) refl e;
  example = record { made = r.example.made; words = r.example.words; is = inl r.example.is };
}
  where
    at_first : (ws : List Word) → starts ws ≡ true → choice_at starts first second ws ≡ first ws
    at_first ws h = rw h refl

    at_second : (ws : List Word) → starts ws ≡ false → choice_at starts first second ws ≡ second ws
    at_second ws h = rw h refl

    heads_of : (ws taken rest others : List Word) → ws ≡ taken ++ rest → SameHead rest others → SameHead ws (taken ++ others)
    heads_of ws taken rest others parts same = subst (λ (us : List Word). SameHead us (taken ++ others)) (sym parts) (same_behind taken rest others same)

    found_in : (read : List Word → Read A) (IsTree : Rule A) (b : Bool) (ws : List Word) (x : A) (rest : List Word) → starts ws ≡ b
        → ((us : List Word) → starts us ≡ b → choice_at starts first second us ≡ read us) → ((us : List Word) → IsTree x us → IsFirst x us ⊎ IsSecond x us)
        → Found IsTree read ws x rest → Found (EitherRule IsFirst IsSecond) (choice_at starts first second) ws x rest
    found_in read IsTree b ws x rest h goes in_it f = record {
      taken = f.taken;
      parts = f.parts;
      is = in_it f.taken f.is;
      stable = λ others same. goes (f.taken ++ others) (sym (heads ws (f.taken ++ others) (heads_of ws f.taken rest others f.parts same)) ∙ h) ∙ f.stable others same;
    }

    find : (ws : List Word) (x : A) (rest : List Word) (b : Bool) → starts ws ≡ b → choice_at starts first second ws ≡ Ok (x, rest) → Found (EitherRule IsFirst IsSecond) (choice_at starts first second) ws x rest
    find ws x rest true h e = found_in first IsFirst true ws x rest h at_first (λ us is. inl is) (r.found ws x rest (sym (at_first ws h) ∙ e))
    find ws x rest false h e = found_in second IsSecond false ws x rest h at_second (λ us is. inr is) (s.found ws x rest (sym (at_second ws h) ∙ e))

    reread : (x : A) (taken rest : List Word) → IsFirst x taken ⊎ IsSecond x taken → H rest → choice_at starts first second (taken ++ rest) ≡ Ok (x, rest)
    reread x taken rest (inl is) follows = let begun = begin_first x taken rest is follows in at_first (taken ++ rest) begun.0 ∙ r.again x taken rest is begun.1
    reread x taken rest (inr is) follows = let begun = begin_second x taken rest is follows in at_second (taken ++ rest) begun.0 ∙ s.again x taken rest is begun.1

    blame_in : (read : List Word → Read A) (IsTree : Rule A) (b : Bool) (ws : List Word) (left : ℕ) → starts ws ≡ b
        → ((us : List Word) → starts us ≡ b → choice_at starts first second us ≡ read us) → ((x : A) (us : List Word) → IsTree x us → IsFirst x us ⊎ IsSecond x us)
        → Faulty IsTree read ws left → Faulty (EitherRule IsFirst IsSecond) (choice_at starts first second) ws left
    blame_in read IsTree b ws left h goes in_it fault = record {
      front = fault.front;
      rest = fault.rest;
      parts = fault.parts;
      len = fault.len;
      made = fault.made;
      more = fault.more;
      viable = in_it fault.made (fault.front ++ fault.more) fault.viable;
      fails = λ w tail is others.
          let f = fault.fails w tail is others in
          let begun : starts (fault.front ++ w ∷ others) ≡ b = sym (heads ws (fault.front ++ w ∷ others) (same_at ws fault.front fault.rest w tail others fault.parts is)) ∙ h in
          (f.0, goes (fault.front ++ w ∷ others) begun ∙ f.1);
    }

    blame : (ws : List Word) (left : ℕ) (b : Bool) → starts ws ≡ b → choice_at starts first second ws ≡ Err left → Faulty (EitherRule IsFirst IsSecond) (choice_at starts first second) ws left
    blame ws left true h e = blame_in first IsFirst true ws left h at_first (λ x us is. inl is) (r.blames ws left (sym (at_first ws h) ∙ e))
    blame ws left false h e = blame_in second IsSecond false ws left h at_second (λ x us is. inr is) (s.blames ws left (sym (at_second ws h) ∙ e))

-- an item takes a word at least
pub shorter : {A : Type 0} (starts : List Word → Bool) (IsTree : Rule A) (item : List Word → Read A) (F : List Word → Type 0)
    → starts [] ≡ false → ((x : A) (taken rest : List Word) → IsTree x taken → starts (taken ++ rest) ≡ true) → Reads IsTree item F
    → (ws : List Word) (x : A) (rest : List Word) → item ws ≡ Ok (x, rest) → length rest < length ws
shorter starts IsTree item F none begin r ws x rest e =
    let f = r.found ws x rest e in
    let some = some_words f.taken (subst (λ (t : List Word). starts t ≡ true) (append-nil f.taken) (begin x f.taken [] f.is)) in
    omega (arith, some, ap length f.parts, length-append f.taken rest)
  where
    some_words : (taken : List Word) → starts taken ≡ true → 0 < length taken
    some_words [] h = absurd (not_bool (starts []) h none)
    some_words (w ∷ taken) h = omega arith

-- With fuel enough the fuel does not matter.
same_fuel : {A : Type 0} (starts : List Word → Bool) (item : List Word → Read A) → starts [] ≡ false → ((ws : List Word) (x : A) (rest : List Word) → item ws ≡ Ok (x, rest) → length rest < length ws)
    → (m n : ℕ) (ws : List Word) → length ws ≤ m → length ws ≤ n → many_at starts item m ws ≡ many_at starts item n ws
unfolding many_at
same_fuel starts item none less zero zero ws p q = refl
same_fuel starts item none less zero (suc n) [] p q = rw none refl
same_fuel starts item none less zero (suc n) (w ∷ ws) p q = absurd (omega arith)
same_fuel starts item none less (suc m) zero [] p q = rw none refl
same_fuel starts item none less (suc m) zero (w ∷ ws) p q = absurd (omega arith)
same_fuel {A} starts item none less (suc m) (suc n) ws p q = by_item (same_fuel starts item none less m n) (item ws) refl
  where
    from : ℕ → A × List Word → Read (List A)
    from fuel first = many_at starts item fuel first.1 >>= λ others. Ok (first.0 ∷ others.0, others.1)

    by_item : ((us : List Word) → length us ≤ m → length us ≤ n → many_at starts item m us ≡ many_at starts item n us)
        → (o : Read A) → item ws ≡ o → cond {A = Read (List A)} (starts ws) (o >>= from m) (Ok ([], ws)) ≡ cond {A = Read (List A)} (starts ws) (o >>= from n) (Ok ([], ws))
    by_item later (Err left) h = refl
    by_item later (Ok a) h =
        let shortened = less ws a.0 a.1 h in
        ap (λ (r : Read (List A)). cond {A = Read (List A)} (starts ws) (r >>= λ others. Ok (a.0 ∷ others.0, others.1)) (Ok ([], ws))) (later a.1 (omega (arith, shortened)) (omega (arith, shortened)))

each_none : {A : Type 0} (starts : List Word → Bool) (item : List Word → Read A) (ws : List Word) → starts ws ≡ false → each_at starts item ws ≡ Ok ([], ws)
unfolding many_at
each_none starts item [] h = refl
each_none starts item (w ∷ ws) h = rw h refl

each_fails : {A : Type 0} (starts : List Word → Bool) (item : List Word → Read A) → starts [] ≡ false
    → (ws : List Word) (left : ℕ) → starts ws ≡ true → item ws ≡ Err left → each_at starts item ws ≡ Err left
unfolding many_at
each_fails starts item none [] left h e = absurd (not_bool (starts []) h none)
each_fails starts item none (w ∷ ws) left h e = rw (h, e) refl

-- the first item, and then the others
each_some : {A : Type 0} (starts : List Word → Bool) (item : List Word → Read A) → starts [] ≡ false → ((ws : List Word) (x : A) (rest : List Word) → item ws ≡ Ok (x, rest) → length rest < length ws)
    → (ws : List Word) (x : A) (after : List Word) → starts ws ≡ true → item ws ≡ Ok (x, after)
    → each_at starts item ws ≡ (each_at starts item after >>= λ others. Ok (x ∷ others.0, others.1))
unfolding many_at
each_some starts item none less [] x after h e = absurd (not_bool (starts []) h none)
each_some {A} starts item none less (w ∷ ws) x after h e =
    let shortened = less (w ∷ ws) x after e in
    rw (h, e) (ap (λ (r : Read (List A)). r >>= λ others. Ok (x ∷ others.0, others.1)) (same_fuel starts item none less (length ws) (length after) after (omega (arith, shortened)) (omega arith)))

pub each_reads : {A : Type 0} (starts : List Word → Bool) (IsTree : Rule A) (item : List Word → Read A) (F : List Word → Type 0)
    → Heads starts → starts [] ≡ false → Reads IsTree item F
    → ((x : A) (taken rest : List Word) → IsTree x taken → starts (taken ++ rest) ≡ true)
    → ((ws : List Word) → starts ws ≡ true → F ws)
    → Reads (Each IsTree) (each_at starts item) (λ ws. (starts ws ≡ false) × F ws)
each_reads {A} starts IsTree item F heads none r begin follow = record {
  found = λ ws xs rest e. find (length ws) ws (omega arith) xs rest e;
  again = reread;
  blames = λ ws left e. blame (length ws) ws (omega arith) left e;
  example = record { made = []; words = []; is = refl };
}
  where
    less : (ws : List Word) (x : A) (rest : List Word) → item ws ≡ Ok (x, rest) → length rest < length ws
    less = shorter starts IsTree item F none begin r

    more_of : A → List A × List Word → Read (List A)
    more_of x others = Ok (x ∷ others.0, others.1)

    some : (ws : List Word) (x : A) (after : List Word) → starts ws ≡ true → item ws ≡ Ok (x, after) → each_at starts item ws ≡ (each_at starts item after >>= more_of x)
    some ws x after h e = each_some starts item none less ws x after h e

    -- behind an item's words what follows is read as it is alone
    past : (ws : List Word) (x : A) (after : List Word) (f : Found IsTree item ws x after) (more : List Word) → SameHead after more → each_at starts item (f.taken ++ more) ≡ (each_at starts item more >>= more_of x)
    past ws x after f more same = some (f.taken ++ more) x more (begin x f.taken more f.is) (f.stable more same)

    Finds : List Word → Type 0
    Finds ws = (xs : List A) (rest : List Word) → each_at starts item ws ≡ Ok (xs, rest) → Found (Each IsTree) (each_at starts item) ws xs rest

    find_step : (ws : List Word) → ((us : List Word) → length us < length ws → Finds us) → Finds ws
    find_step ws later xs rest e = by_start (starts ws) refl
      where
        by_item : starts ws ≡ true → (o : Read A) → item ws ≡ o → Found (Each IsTree) (each_at starts item) ws xs rest
        by_item h (Err left) i = absurd (not_both (each_at starts item ws) (xs, rest) left e (each_fails starts item none ws left h i))
        by_item h (Ok a) i =
            let b = bind_ok (each_at starts item a.1) (more_of a.0) (xs, rest) (sym (some ws a.0 a.1 h i) ∙ e) in
            let f = r.found ws a.0 a.1 i in
            let g = later a.1 (less ws a.0 a.1 i) b.0.0 b.0.1 b.1 in
            found_is (Each IsTree) (each_at starts item) ws (a.0 ∷ b.0.0) b.0.1 xs rest b.2 (record {
              taken = f.taken ++ g.taken;
              parts = joined ws f.taken a.1 g.taken b.0.1 f.parts g.parts;
              is = (f.taken, g.taken, f.is, g.is, refl);
              stable = λ others same.
                  let alike : SameHead a.1 (g.taken ++ others) = subst (λ (us : List Word). SameHead us (g.taken ++ others)) (sym g.parts) (same_behind g.taken b.0.1 others same) in
                  ap (each_at starts item) (append_assoc f.taken g.taken others) ∙ past ws a.0 a.1 f (g.taken ++ others) alike ∙ ap (λ (read : Read (List A)). read >>= more_of a.0) (g.stable others same);
            })

        by_start : (b : Bool) → starts ws ≡ b → Found (Each IsTree) (each_at starts item) ws xs rest
        by_start true h = by_item h (item ws) refl
        by_start false h = found_is (Each IsTree) (each_at starts item) ws [] ws xs rest (sym (each_none starts item ws h) ∙ e)
            (record { taken = []; parts = refl; is = refl; stable = λ others same. each_none starts item others (sym (heads ws others same) ∙ h) })

    find : (size : ℕ) (ws : List Word) → length ws ≤ size → Finds ws
    find zero ws le = find_step ws (λ us lt. absurd (omega (arith, lt, le)))
    find (suc size) ws le = find_step ws (λ us lt. find size us (omega (arith, lt, le)))

    -- what follows an item that is read again: another item, or what follows them all
    next : (xs : List A) (taken rest : List Word) → Each IsTree xs taken → (starts rest ≡ false) × F rest → F (taken ++ rest)
    next [] taken rest is follows = subst (λ (t : List Word). F (t ++ rest)) (sym is) follows.1
    next (x ∷ xs) taken rest is follows =
        let grouped : taken ++ rest ≡ is.0 ++ (is.1 ++ rest) = ap (λ (t : List Word). t ++ rest) is.4 ∙ append_assoc is.0 is.1 rest in
        follow (taken ++ rest) (ap starts grouped ∙ begin x is.0 (is.1 ++ rest) is.2)

    reread : (xs : List A) (taken rest : List Word) → Each IsTree xs taken → (starts rest ≡ false) × F rest → each_at starts item (taken ++ rest) ≡ Ok (xs, rest)
    reread [] taken rest is follows = ap (λ (t : List Word). each_at starts item (t ++ rest)) is ∙ each_none starts item rest follows.0
    reread (x ∷ xs) taken rest is follows =
        let grouped : taken ++ rest ≡ is.0 ++ (is.1 ++ rest) = ap (λ (t : List Word). t ++ rest) is.4 ∙ append_assoc is.0 is.1 rest in
        let first = r.again x is.0 (is.1 ++ rest) is.2 (next xs is.1 rest is.3 follows) in
        ap (each_at starts item) grouped ∙ some (is.0 ++ (is.1 ++ rest)) x (is.1 ++ rest) (begin x is.0 (is.1 ++ rest) is.2) first
        ∙ ap (λ (read : Read (List A)). read >>= more_of x) (reread xs is.1 rest is.3 follows)

    Blames : List Word → Type 0
    Blames ws = (left : ℕ) → each_at starts item ws ≡ Err left → Faulty (Each IsTree) (each_at starts item) ws left

    blame_step : (ws : List Word) → ((us : List Word) → length us < length ws → Blames us) → Blames ws
    blame_step ws later left e = by_start (starts ws) refl
      where
        in_item : starts ws ≡ true → Faulty IsTree item ws left → Faulty (Each IsTree) (each_at starts item) ws left
        in_item h fault = record {
          front = fault.front;
          rest = fault.rest;
          parts = fault.parts;
          len = fault.len;
          made = fault.made ∷ [];
          more = fault.more;
          viable = (fault.front ++ fault.more, [], fault.viable, refl, sym (append-nil (fault.front ++ fault.more)));
          fails = λ w tail is others.
              let g = fault.fails w tail is others in
              let begun : starts (fault.front ++ w ∷ others) ≡ true = sym (heads ws (fault.front ++ w ∷ others) (same_at ws fault.front fault.rest w tail others fault.parts is)) ∙ h in
              (g.0, each_fails starts item none (fault.front ++ w ∷ others) g.0 begun g.1);
        }

        in_others : (x : A) (after : List Word) → Found IsTree item ws x after → Faulty (Each IsTree) (each_at starts item) after left → Faulty (Each IsTree) (each_at starts item) ws left
        in_others x after f fault = record {
          front = f.taken ++ fault.front;
          rest = fault.rest;
          parts = joined ws f.taken after fault.front fault.rest f.parts fault.parts;
          len = fault.len;
          made = x ∷ fault.made;
          more = fault.more;
          viable = (f.taken, fault.front ++ fault.more, f.is, fault.viable, append_assoc f.taken fault.front fault.more);
          fails = λ w tail is others.
              let g = fault.fails w tail is others in
              let alike = same_at after fault.front fault.rest w tail others fault.parts is in
              (g.0, ap (each_at starts item) (append_assoc f.taken fault.front (w ∷ others)) ∙ past ws x after f (fault.front ++ w ∷ others) alike ∙ ap (λ (read : Read (List A)). read >>= more_of x) g.1);
        }

        by_item : starts ws ≡ true → (o : Read A) → item ws ≡ o → Faulty (Each IsTree) (each_at starts item) ws left
        by_item h (Err n) i =
            let both = err_is (each_at starts item ws) n left (each_fails starts item none ws n h i) e in
            in_item h (r.blames ws left (i ∙ ap (λ (m : ℕ). Err m) both))
        by_item h (Ok a) i = in_others a.0 a.1 (r.found ws a.0 a.1 i) (later a.1 (less ws a.0 a.1 i) left (made_err (each_at starts item a.1) (λ others. (a.0 ∷ others.0, others.1)) left (sym (some ws a.0 a.1 h i) ∙ e)))

        by_start : (b : Bool) → starts ws ≡ b → Faulty (Each IsTree) (each_at starts item) ws left
        by_start true h = by_item h (item ws) refl
        by_start false h = absurd (not_both (each_at starts item ws) ([], ws) left (each_none starts item ws h) e)

    blame : (size : ℕ) (ws : List Word) → length ws ≤ size → Blames ws
    blame zero ws le = blame_step ws (λ us lt. absurd (omega (arith, lt, le)))
    blame (suc size) ws le = blame_step ws (λ us lt. blame size us (omega (arith, lt, le)))

-- less may follow
pub before : {A : Type 0} (IsTree : Rule A) (read : List Word → Read A) (F G : List Word → Type 0) → ((ws : List Word) → G ws → F ws) → Reads IsTree read F → Reads IsTree read G
before IsTree read F G less r = record { found = r.found; again = λ x taken rest is follows. r.again x taken rest is (less rest follows); blames = r.blames; example = r.example }

-- ---- the whole

test_ok : {A : Type 0} (b : Bool) (left : ℕ) (x y : A) → cond b (Ok x) (Err left) ≡ Ok y → (b ≡ true) × (x ≡ y)
test_ok true left x y e = (refl, cc)
test_ok false left x y e = absurd cc

test_err : {A : Type 0} (b : Bool) (left n : ℕ) (x : A) → cond b (Ok x) (Err left) ≡ Err n → (b ≡ false) × (left ≡ n)
test_err true left n x e = absurd cc
test_err false left n x e = (refl, cc)

pub whole_found : {A : Type 0} (IsTree : Rule A) (read : List Word → Read A) (F : List Word → Type 0) → Reads IsTree read F → (ws : List Word) (x : A) → whole (read ws) ≡ Ok x → IsTree x ws
whole_found IsTree read F r ws x e =
    let a = bind_ok (read ws) _ _ e in
    let t = test_ok (eqb (length a.0.1) 0) (length a.0.1) a.0.0 x a.2 in
    let nothing : a.0.1 ≡ [] = nil_from_length a.0.1 (eqb-true _ _ t.0) in
    let f = r.found ws a.0.0 a.0.1 a.1 in
    let all : f.taken ≡ ws = sym (append-nil f.taken) ∙ ap (λ (rest : List Word). f.taken ++ rest) (sym nothing) ∙ sym f.parts in
    subst (λ y. IsTree y ws) t.1 (subst (IsTree a.0.0) all f.is)

pub whole_again : {A : Type 0} (IsTree : Rule A) (read : List Word → Read A) (F : List Word → Type 0) → Reads IsTree read F → F [] → (ws : List Word) (x : A) → IsTree x ws → whole (read ws) ≡ Ok x
whole_again IsTree read F r ends ws x is =
    let read_all : read ws ≡ Ok (x, []) = ap read (sym (append-nil ws)) ∙ r.again x ws [] is ends in
    rw read_all refl

-- Where so many words are left: the words before begin a tree's, and with the next word they begin
-- none.
pub record IsFault {A : Type 0} (IsTree : Rule A) (ws : List Word) (left : ℕ) : Type 0 where
  pub front : List Word
  pub rest : List Word
  pub parts : ws ≡ front ++ rest
  pub len : length rest ≡ left
  pub begins : (tree : A) × (more : List Word) × IsTree tree (front ++ more)
  pub none : (w : Word) (tail : List Word) → rest ≡ w ∷ tail → (tree : A) (more : List Word) → IsTree tree ((front ++ w ∷ []) ++ more) → ⊥

pub whole_fault : {A : Type 0} (IsTree : Rule A) (read : List Word → Read A) (F : List Word → Type 0) → Reads IsTree read F → F [] → (ws : List Word) (left : ℕ) → whole (read ws) ≡ Err left → IsFault IsTree ws left
whole_fault {A} IsTree read F r ends ws left e = elim (bind_err (read ws) _ left e) [
  | inl failed ↦ stopped (r.blames ws left failed)
  | inr took ↦ let t = test_err (eqb (length took.0.1) 0) (length took.0.1) left took.0.0 took.2 in remains took.0.0 took.0.1 t.1 (r.found ws took.0.0 took.0.1 took.1)
]
  where
    -- a tree with the word there is read
    with_word : (front : List Word) (w : Word) (tree : A) (more : List Word) → IsTree tree ((front ++ w ∷ []) ++ more) → read (front ++ w ∷ more) ≡ Ok (tree, [])
    with_word front w tree more is =
        let grouped : ((front ++ w ∷ []) ++ more) ++ [] ≡ front ++ w ∷ more = append-nil ((front ++ w ∷ []) ++ more) ∙ append_assoc front (w ∷ []) more in
        ap read (sym grouped) ∙ r.again tree ((front ++ w ∷ []) ++ more) [] is ends

    stopped : Faulty IsTree read ws left → IsFault IsTree ws left
    stopped fault = record {
      front = fault.front;
      rest = fault.rest;
      parts = fault.parts;
      len = fault.len;
      begins = (fault.made, fault.more, fault.viable);
      none = λ w tail at tree more is. let f = fault.fails w tail at more in not_both (read (fault.front ++ w ∷ more)) (tree, []) f.0 (with_word fault.front w tree more is) f.1;
    }

    remains : (x : A) (rest : List Word) → length rest ≡ left → Found IsTree read ws x rest → IsFault IsTree ws left
    remains x rest len f = record {
      front = f.taken;
      rest = rest;
      parts = f.parts;
      len = len;
      begins = (x, [], subst (IsTree x) (sym (append-nil f.taken)) f.is);
      none = λ w tail at tree more is.
          let same : SameHead rest (w ∷ more) = same_at rest [] rest w tail more refl at in
          let both : (tree, []) ≡ (x, w ∷ more) = ok_is (tree, []) (x, w ∷ more) (sym (with_word f.taken w tree more is) ∙ f.stable (w ∷ more) same) in
          nil_no w more (ap (λ (p : A × List Word). p.1) both);
    }
