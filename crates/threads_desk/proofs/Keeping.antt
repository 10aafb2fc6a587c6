-- Each step on a cell keeps its rule.
use Rattle.std.proofs.Common.{◌≡◌, ◌⊎◌, ℕ, ◌+◌, List, [], ◌∷◌, ◌++◌, get_or, set, eqb, refl, sym, ap, ◌∙◌, subst, inl, inr, ⊎_elim, arith, Option, Some, None}
use mathlib.Core.Logic.{dite}
use mathlib.Core.Option.{none, some}
use native.Mathlib.Decide.{ℕ_discrete}
use prog.Atomic.{either}
use lib.ListN.{get_elem?}
use lib.Seq.{set-get_or}
use Rattle.atomic_table.specs.Table.{State, Act, step, keeps, takes, gives, rest, put_back, carried_after, stepped, Valid, Allows, Enters}
use Rattle.atomic_table.proofs.Lists.{at_snoc, exchanged}
use Rattle.threads_desk.specs.declared.letter.Sheet.{Sheet}
use Rattle.threads_desk.specs.declared.letter.Sheet.TheVariants.{Asked, Told}
use Rattle.threads_desk.specs.declared.letter.Part.{Part}
use Rattle.threads_desk.specs.declared.letter.Part.TheVariants.{Nothing, Writing, Posted, Reading, Serving, Answered, Gone}
use Rattle.threads_desk.specs.declared.letter.View.{View}
use Rattle.threads_desk.specs.inner.Cells.{view, newcomer, Standing, free, writing, asked, taken, told, reading, word_of, homes_of, posters_of, servers_of, posts, serves, parts, IsRight, Kept}
use Rattle.threads_desk.specs.inner.Steps.{parted, missed, At, missing, Came, Sought, Began, Wrote, HasAnswer, Looked, Withdrew, Took, Delivered, Left}
use Rattle.threads_desk.proofs.Parts.{none_has, not_both, parts_same, parts_enter, parts_turn, parts_push, about_set}

module _ {A T : Type 0} where
  abbrev posted : A → Part A T
  posted a = Posted a

  same_posted : (a b : A) → posted a ≡ posted b → a ≡ b
  same_posted a b e = cc

  abbrev serving : A → Part A T
  serving a = Serving a

  same_serving : (a b : A) → serving a ≡ serving b → a ≡ b
  same_serving a b e = cc

  abbrev noted : A → List (ℕ × Option (Sheet A T))
  noted a = (0, Some (Asked a)) ∷ []

  -- the letter that was noted first, or this one
  noted_or : A → List (ℕ × Option (Sheet A T)) → A
  noted_or b [] = b
  noted_or b ((n, None) ∷ xs) = b
  noted_or b ((n, Some (Asked a)) ∷ xs) = a
  noted_or b ((n, Some (Told t)) ∷ xs) = b

  same_asked : (a b : A) → noted a ≡ noted b → a ≡ b
  unfolding noted_or
  same_asked a b e = ap (noted_or b) e

  -- what is first in a list that has an element
  first_or : Option (Sheet A T) → List (ℕ × Option (Sheet A T)) → Option (Sheet A T)
  first_or d [] = d
  first_or d (x ∷ xs) = x.1

  -- two sheets that are first in one list
  pub one_sheet : (l m n : List (ℕ × Option (Sheet A T))) (x y : Option (Sheet A T)) → l ≡ (0, x) ∷ m → l ≡ (0, y) ∷ n → x ≡ y
  unfolding first_or
  one_sheet l m n x y e f = ap (first_or x) (sym e ∙ f)

  told_or : T → Option (Sheet A T) → T
  told_or d None = d
  told_or d (Some (Asked a)) = d
  told_or d (Some (Told t)) = t

  abbrev answer_of : T → Option (Sheet A T)
  answer_of t = Some (Told t)

  same_told : (t u : T) → answer_of t ≡ answer_of u → t ≡ u
  unfolding told_or
  same_told t u e = ap (told_or t) e

  -- what is first in a list, before the rest of it
  pub before_rest : (l m : List (ℕ × Option (Sheet A T))) (x : ℕ × Option (Sheet A T)) → l ≡ x ∷ m → l ≡ x ∷ rest l
  before_rest l m x e = e ∙ ap (λ k. x ∷ rest k) (sym e)

  -- ---- what is known of the standing

  is_free : (st : Standing A T) → word_of st ≡ 0 → st ≡ free
  is_free free e = refl
  is_free writing e = absurd (omega arith)
  is_free (asked a) e = absurd (omega arith)
  is_free (taken a) e = absurd (omega arith)
  is_free (told a t) e = absurd (omega arith)
  is_free reading e = absurd (omega arith)

  is_asked : (st : Standing A T) → word_of st ≡ 2 → (a : A) × (st ≡ asked a)
  is_asked free e = absurd (omega arith)
  is_asked writing e = absurd (omega arith)
  is_asked (asked a) e = (a, refl)
  is_asked (taken a) e = absurd (omega arith)
  is_asked (told a t) e = absurd (omega arith)
  is_asked reading e = absurd (omega arith)

  is_writing : (st : Standing A T) → posters_of st ≡ Writing ∷ [] → st ≡ writing
  is_writing free e = absurd cc
  is_writing writing e = refl
  is_writing (asked a) e = absurd cc
  is_writing (taken a) e = absurd cc
  is_writing (told a t) e = absurd cc
  is_writing reading e = absurd cc

  is_reading : (st : Standing A T) → posters_of st ≡ Reading ∷ [] → st ≡ reading
  is_reading free e = absurd cc
  is_reading writing e = absurd cc
  is_reading (asked a) e = absurd cc
  is_reading (taken a) e = absurd cc
  is_reading (told a t) e = absurd cc
  is_reading reading e = refl

  is_taken : (st : Standing A T) (a : A) → servers_of st ≡ Serving a ∷ [] → st ≡ taken a
  is_taken free b e = absurd cc
  is_taken writing b e = absurd cc
  is_taken (asked a) b e = absurd cc
  is_taken (taken a) b e = let same : a ≡ b = cc in ap taken same
  is_taken (told a t) b e = absurd cc
  is_taken reading b e = absurd cc

  -- where who posted is still there, and its letter is posted still, or answered
  still_asked : (st : Standing A T) (b : A) → posters_of st ≡ Posted b ∷ [] → word_of st ≡ 2 → st ≡ asked b
  still_asked free b e n = absurd cc
  still_asked writing b e n = absurd cc
  still_asked (asked a) b e n = let same : a ≡ b = cc in ap asked same
  still_asked (taken a) b e n = absurd (omega arith)
  still_asked (told a t) b e n = absurd (omega arith)
  still_asked reading b e n = absurd (omega arith)

  is_told : (st : Standing A T) (b : A) → posters_of st ≡ Posted b ∷ [] → word_of st ≡ 4 → (t : T) × (st ≡ told b t)
  is_told free b e n = absurd cc
  is_told writing b e n = absurd cc
  is_told (asked a) b e n = absurd (omega arith)
  is_told (taken a) b e n = absurd (omega arith)
  is_told (told a t) b e n = let same : a ≡ b = cc in (t, ap (λ x. told x t) same)
  is_told reading b e n = absurd cc

module _ {A T K : Type 0} (f : Part A T → List (Part A T)) where
  -- the one that has a part is this one
  only_one : (l : List (Part A T)) → ((p : Part A T) × (l ≡ p ∷ [])) ⊎ (l ≡ []) → (vs : List (View A T K)) (id : ℕ) (v w : View A T K) (q : Part A T) → parts f vs ≡ l → get_elem? vs id ≡ some v → f v.part ≡ q ∷ []
      → (l ≡ q ∷ []) × (parts f (set vs id w) ≡ f w.part)
  only_one l one vs id v w q e at has = ⊎_elim
      (λ (o : (p : Part A T) × (l ≡ p ∷ [])). let t = parts_turn f vs id v w o.0 q (e ∙ o.1) at has in (o.1 ∙ ap (λ p. p ∷ []) t.0, t.1))
      (λ (none_there : l ≡ []). absurd (not_both q [] (sym has ∙ none_has f vs id v (e ∙ none_there) at)))
      one

module _ {A T : Type 0} where
  one_poster : (st : Standing A T) → ((p : Part A T) × (posters_of st ≡ p ∷ [])) ⊎ (posters_of st ≡ [])
  one_poster free = inr refl
  one_poster writing = inl (Writing, refl)
  one_poster (asked a) = inl (Posted a, refl)
  one_poster (taken a) = inl (Posted a, refl)
  one_poster (told a t) = inl (Posted a, refl)
  one_poster reading = inl (Reading, refl)

  one_server : (st : Standing A T) → ((p : Part A T) × (servers_of st ≡ p ∷ [])) ⊎ (servers_of st ≡ [])
  one_server free = inr refl
  one_server writing = inr refl
  one_server (asked a) = inr refl
  one_server (taken a) = inl (Serving a, refl)
  one_server (told a t) = inr refl
  one_server reading = inr refl

module _ {A T K : Type 0} (asks : K → A → Type 0) (tells : K → A → T → Type 0) (about : K) where
  abbrev St : Type 0
  St = State (Option (Sheet A T)) (View A T K)

  abbrev Rule : St → Type 0
  Rule = Kept asks tells about

  -- the word that a step finds
  found_is : (s : St) (r : Rule s) → get_or s.words 0 0 ≡ word_of r.standing
  found_is s r = ap (λ ws. get_or ws 0 0) r.words

  -- a step that changes nothing but a count
  quiet : (s : St) (r : Rule s) (id : ℕ) (v w : View A T K) → get_elem? s.views id ≡ some v → w.about ≡ v.about → w.part ≡ v.part
      → Rule (record { words = set s.words 0 (get_or s.words 0 0); homes = s.homes; views = set s.views id w })
  quiet s r id v w at same_about same_part = record {
    standing = r.standing;
    words = set-get_or s.words 0 0 ∙ r.words;
    homes = r.homes;
    posters = parts_same posts s.views id v w at (ap posts same_part) ∙ r.posters;
    servers = parts_same serves s.views id v w at (ap serves same_part) ∙ r.servers;
    right = r.right;
    each = about_set about s.views id w (same_about ∙ r.each id v at) r.each;
  }

  -- ---- a seat comes

  came : (s : St) (r : Rule s) (w : View A T K) → w.about ≡ about → w.part ≡ Nothing → Rule (record { words = s.words; homes = s.homes; views = s.views ++ w ∷ [] })
  came s r w mine nothing = record {
    standing = r.standing;
    words = r.words;
    homes = r.homes;
    posters = parts_push posts s.views w (ap posts nothing) ∙ r.posters;
    servers = parts_push serves s.views w (ap serves nothing) ∙ r.servers;
    right = r.right;
    each = λ j v at. ⊎_elim (λ (old : get_elem? s.views j ≡ some v). r.each j v old) (λ (new : w ≡ v). ap (λ (u : View A T K). u.about) (sym new) ∙ mine) (at_snoc s.views w v j at);
  }

  pub comes : (slots : ℕ) → Enters Rule slots 0 (λ n w. Came (step {S = Option (Sheet A T)} slots 0 0 0 none) (newcomer about, []) n (w, []))
  comes slots s r _ _ = (newcomer about, came s r (newcomer about) refl refl, refl)

  pub seeks : (slots : ℕ) → Enters Rule slots 0 (λ n w. Sought (step {S = Option (Sheet A T)} slots 0 0 0 none) (newcomer about, []) n (w, []))
  seeks slots s r _ _ = dite (ℕ_discrete (get_or s.words 0 0) 2)
      (λ hit. (newcomer about, came s r (newcomer about) refl refl, ((λ _. refl), (λ other. absurd (other hit)))))
      (λ miss. (missed (get_or s.words 0 0) (newcomer about), came s r (missed (get_or s.words 0 0) (newcomer about)) refl refl, ((λ same. absurd (miss same)), (λ _. refl))))

  -- ---- steps that change how the letter stands

  moved : (s : St) (r : Rule s) (id : ℕ) (v w : View A T K) (st : Standing A T) (n : ℕ) (homes : _) → get_elem? s.views id ≡ some v → w.about ≡ v.about
      → n ≡ word_of st → homes ≡ homes_of st → parts posts (set s.views id w) ≡ posters_of st → parts serves (set s.views id w) ≡ servers_of st → IsRight asks tells about st
      → Rule (record { words = set s.words 0 n; homes = homes; views = set s.views id w })
  moved s r id v w st n homes at same_about number home posters servers right = record {
    standing = st;
    words = ap (λ ws. set ws 0 n) r.words ∙ ap (λ k. k ∷ []) number;
    homes = home;
    posters = posters;
    servers = servers;
    right = right;
    each = about_set about s.views id w (same_about ∙ r.each id v at) r.each;
  }

  -- what a step owes that finds this word and leaves that one
  abbrev Owes : ℕ → At A T K → (ℕ → At A T K → Type 0) → St → ℕ → Type 0
  Owes id me then s k = (w : View A T K) × (a : Act (Option (Sheet A T))) × Valid s.homes me.1 a × Rule (stepped s 0 k id me.1 w a) × then (get_or s.words 0 0) (w, carried_after me.1 a)

  begun : (id : ℕ) (me : At A T K) (s : St) (r : Rule s) → get_elem? s.views id ≡ some me.0 → me.0.part ≡ Nothing → get_or s.words 0 0 ≡ 0 → Owes id me (Began (step 1 0 0 1 none) me) s 1
  begun id me s r at nothing e =
      let is = is_free r.standing (sym (found_is s r) ∙ e) in
      let home = r.homes ∙ ap homes_of is in
      let w = parted Writing me.0 in (
        w,
        takes 0 None,
        ap (λ h. get_elem? h 0) home,
        moved s r id me.0 w writing 1 (set s.homes 0 none) at refl refl (ap (λ h. set h 0 none) home)
            (parts_enter posts s.views id me.0 w (r.posters ∙ ap posters_of is) at)
            (parts_same serves s.views id me.0 w at (sym (ap serves nothing)) ∙ (r.servers ∙ ap servers_of is))
            tt,
        ((λ _. refl), (λ other. absurd (other e))),
      )

  pub begins : (slots id : ℕ) (me : At A T K) → me.0.part ≡ Nothing → Allows Rule slots id me 0 (λ n. either (eqb n 0) 1 n) (Began (step slots 0 0 1 none) me)
  begins slots id me nothing s r _ at _ = exchanged (get_or s.words 0 0) 0 1 (Owes id me (Began (step slots 0 0 1 none) me) s)
      (begun id me s r at nothing)
      (λ miss. (missed (get_or s.words 0 0) me.0, keeps, tt, quiet s r id me.0 (missed (get_or s.words 0 0) me.0) at refl refl, ((λ same. absurd (miss same)), (λ _. refl))))

  wrote : (id : ℕ) (me : At A T K) (a : A) (s : St) (r : Rule s) → get_elem? s.views id ≡ some me.0 → asks me.0.about a → me.0.part ≡ Writing → me.1 ≡ (0, Some (Asked a)) ∷ []
      → Rule (stepped s 0 2 id me.1 (parted (Posted a) me.0) gives)
  wrote id me a s r at may part has =
      let w = parted (Posted a) me.0 in
      let one = only_one posts (posters_of r.standing) (one_poster r.standing) s.views id me.0 w Writing r.posters at (ap posts part) in
      let is = is_writing r.standing one.0 in
      moved s r id me.0 w (asked a) 2 (put_back s.homes me.1) at refl refl
      (ap (put_back s.homes) has ∙ ap (λ h. set h 0 (some (Some (Asked a)))) (r.homes ∙ ap homes_of is))
      one.1
      (parts_same serves s.views id me.0 w at (sym (ap serves part)) ∙ (r.servers ∙ ap servers_of is))
      (subst (λ k. asks k a) (r.each id me.0 at) may)

  pub writes : (slots id : ℕ) (me : At A T K) (a : A) → asks me.0.about a → me.0.part ≡ Writing → me.1 ≡ (0, Some (Asked a)) ∷ []
      → Allows Rule slots id me 0 (λ _. 2) (λ _. Wrote (step slots 0 2 0 none) me 2)
  writes slots id me a may part has s r _ at _ = (
    parted (Posted a) me.0,
    gives,
    tt,
    wrote id me a s r at may part has,
    λ b has'. λ i. (parted (Posted (same_asked a b (sym has ∙ has') i)) me.0, rest (has i)),
  )

  -- ---- an answer is had

  had : (id : ℕ) (me : At A T K) (a : A) (s : St) (r : Rule s) → get_elem? s.views id ≡ some me.0 → me.0.part ≡ Posted a → get_or s.words 0 0 ≡ 4
      → (t : T) × tells me.0.about a t × Valid s.homes me.1 (takes 0 (Some (Told t))) × Rule (stepped s 0 (get_or s.words 0 0) id me.1 (parted Reading me.0) (takes 0 (Some (Told t))))
  had id me a s r at part e =
      let w = parted Reading me.0 in
      let one = only_one posts (posters_of r.standing) (one_poster r.standing) s.views id me.0 w (Posted a) r.posters at (ap posts part) in
      let is = is_told r.standing a one.0 (sym (found_is s r) ∙ e) in
      let home = r.homes ∙ ap homes_of is.1 in (
        is.0,
        subst (λ k. tells k a is.0) (sym (r.each id me.0 at)) (subst (IsRight asks tells about) is.1 r.right),
        ap (λ h. get_elem? h 0) home,
        moved s r id me.0 w reading (get_or s.words 0 0) (set s.homes 0 none) at refl e (ap (λ h. set h 0 none) home)
            one.1
            (parts_same serves s.views id me.0 w at (sym (ap serves part)) ∙ (r.servers ∙ ap servers_of is.1))
            tt,
      )

  pub looks : (slots id : ℕ) (me : At A T K) (a : A) → me.0.part ≡ Posted a → Allows Rule slots id me 0 (λ n. n) (Looked tells (step slots 0 0 0 none) me)
  looks slots id me a part s r _ at _ = dite (ℕ_discrete (get_or s.words 0 0) 4)
      (λ hit. let h = had id me a s r at part hit in (
        parted Reading me.0,
        takes 0 (Some (Told h.0)),
        h.2,
        h.3,
        λ b part'. ((λ _. record { told = h.0; tells_it = subst (λ x. tells me.0.about x h.0) (same_posted a b (sym part ∙ part')) h.1; now = refl }), (λ other. absurd (other hit))),
      ))
      (λ miss. (missed (get_or s.words 0 0) me.0, keeps, tt, quiet s r id me.0 (missed (get_or s.words 0 0) me.0) at refl refl, λ b part'. ((λ same. absurd (miss same)), (λ _. refl))))

  -- ---- a letter is had back

  regained : (slots id : ℕ) (me : At A T K) (a : A) (s : St) (r : Rule s) → get_elem? s.views id ≡ some me.0 → me.0.part ≡ Posted a → get_or s.words 0 0 ≡ 2
      → Owes id me (Withdrew (step slots 0 2 1 none) me) s 1
  regained slots id me a s r at part e =
      let w = parted Writing me.0 in
      let one = only_one posts (posters_of r.standing) (one_poster r.standing) s.views id me.0 w (Posted a) r.posters at (ap posts part) in
      let is = still_asked r.standing a one.0 (sym (found_is s r) ∙ e) in
      let home = r.homes ∙ ap homes_of is in (
        w,
        takes 0 (Some (Asked a)),
        ap (λ h. get_elem? h 0) home,
        moved s r id me.0 w writing 1 (set s.homes 0 none) at refl refl (ap (λ h. set h 0 none) home)
            one.1
            (parts_same serves s.views id me.0 w at (sym (ap serves part)) ∙ (r.servers ∙ ap servers_of is))
            tt,
        λ b part'. ((λ _. ap (λ x. (w, (0, Some (Asked x)) ∷ me.1)) (same_posted a b (sym part ∙ part'))), (λ other. absurd (other e))),
      )

  pub withdraws : (slots id : ℕ) (me : At A T K) (a : A) → me.0.part ≡ Posted a → Allows Rule slots id me 0 (λ n. either (eqb n 2) 1 n) (Withdrew (step slots 0 2 1 none) me)
  withdraws slots id me a part s r _ at _ = exchanged (get_or s.words 0 0) 2 1 (Owes id me (Withdrew (step slots 0 2 1 none) me) s)
      (regained slots id me a s r at part)
      (λ miss. (missed (get_or s.words 0 0) me.0, keeps, tt, quiet s r id me.0 (missed (get_or s.words 0 0) me.0) at refl refl, λ b part'. ((λ same. absurd (miss same)), (λ _. refl))))

  -- ---- a letter is taken

  taken_by : (slots id : ℕ) (me : At A T K) (s : St) (r : Rule s) → get_elem? s.views id ≡ some me.0 → me.0.part ≡ Nothing → get_or s.words 0 0 ≡ 2
      → Owes id me (Took asks (step slots 0 2 3 none) me) s 3
  taken_by slots id me s r at nothing e =
      let is = is_asked r.standing (sym (found_is s r) ∙ e) in
      let a = is.0 in
      let w = parted (Serving a) me.0 in
      let home = r.homes ∙ ap homes_of is.1 in (
        w,
        takes 0 (Some (Asked a)),
        ap (λ h. get_elem? h 0) home,
        moved s r id me.0 w (taken a) 3 (set s.homes 0 none) at refl refl (ap (λ h. set h 0 none) home)
            (parts_same posts s.views id me.0 w at (sym (ap posts nothing)) ∙ (r.posters ∙ ap posters_of is.1))
            (parts_enter serves s.views id me.0 w (r.servers ∙ ap servers_of is.1) at)
            tt,
        ((λ _. record { letter = a; asks_it = subst (λ k. asks k a) (sym (r.each id me.0 at)) (subst (IsRight asks tells about) is.1 r.right); now = refl }), (λ other. absurd (other e))),
      )

  pub gets : (slots id : ℕ) (me : At A T K) → me.0.part ≡ Nothing → Allows Rule slots id me 0 (λ n. either (eqb n 2) 3 n) (Took asks (step slots 0 2 3 none) me)
  gets slots id me nothing s r _ at _ = exchanged (get_or s.words 0 0) 2 3 (Owes id me (Took asks (step slots 0 2 3 none) me) s)
      (taken_by slots id me s r at nothing)
      (λ miss. (missed (get_or s.words 0 0) me.0, keeps, tt, quiet s r id me.0 (missed (get_or s.words 0 0) me.0) at refl refl, ((λ same. absurd (miss same)), (λ _. refl))))

  -- ---- a part ends

  emptied : (id : ℕ) (me : At A T K) (q : Part A T) (st : Standing A T) (s : St) (r : Rule s) → get_elem? s.views id ≡ some me.0 → me.0.part ≡ q → posts q ≡ q ∷ [] → serves q ≡ [] → me.1 ≡ (0, None) ∷ []
      → (posters_of r.standing ≡ q ∷ [] → r.standing ≡ st) → homes_of st ≡ none ∷ [] → servers_of st ≡ [] → Rule (stepped s 0 0 id me.1 (parted Gone me.0) gives)
  emptied id me q st s r at part alone apart has which away none_serves =
      let w = parted Gone me.0 in
      let one = only_one posts (posters_of r.standing) (one_poster r.standing) s.views id me.0 w q r.posters at (ap posts part ∙ alone) in
      let is = which one.0 in
      moved s r id me.0 w free 0 (put_back s.homes me.1) at refl refl
      (ap (put_back s.homes) has ∙ ap (λ h. set h 0 (some None)) (r.homes ∙ (ap homes_of is ∙ away)))
      one.1
      (parts_same serves s.views id me.0 w at (sym (ap serves part ∙ apart)) ∙ (r.servers ∙ (ap servers_of is ∙ none_serves)))
      tt

  pub leaves : (slots id : ℕ) (me : At A T K) → (me.0.part ≡ Writing) ⊎ (me.0.part ≡ Reading) → me.1 ≡ (0, None) ∷ []
      → Allows Rule slots id me 0 (λ _. 0) (λ _. Left (step slots 0 0 0 none) me 0)
  leaves slots id me part has s r _ at _ = (
    parted Gone me.0,
    gives,
    tt,
    ⊎_elim
        (λ (p : me.0.part ≡ Writing). emptied id me Writing writing s r at p refl refl has (is_writing r.standing) refl refl)
        (λ (p : me.0.part ≡ Reading). emptied id me Reading reading s r at p refl refl has (is_reading r.standing) refl refl)
        part,
    λ _. ap (λ l. (parted Gone me.0, rest l)) has,
  )

  answered : (id : ℕ) (me : At A T K) (a : A) (t : T) (s : St) (r : Rule s) → get_elem? s.views id ≡ some me.0 → tells me.0.about a t → me.0.part ≡ Serving a → me.1 ≡ (0, Some (Told t)) ∷ []
      → Rule (stepped s 0 4 id me.1 (parted (Answered a t) me.0) gives)
  answered id me a t s r at may part has =
      let w = parted (Answered a t) me.0 in
      let one = only_one serves (servers_of r.standing) (one_server r.standing) s.views id me.0 w (Serving a) r.servers at (ap serves part) in
      let is = is_taken r.standing a one.0 in
      moved s r id me.0 w (told a t) 4 (put_back s.homes me.1) at refl refl
      (ap (put_back s.homes) has ∙ ap (λ h. set h 0 (some (Some (Told t)))) (r.homes ∙ ap homes_of is))
      (parts_same posts s.views id me.0 w at (sym (ap posts part)) ∙ (r.posters ∙ ap posters_of is))
      one.1
      (subst (λ k. tells k a t) (r.each id me.0 at) may)

  pub answers : (slots id : ℕ) (me : At A T K) (a : A) (t : T) → tells me.0.about a t → me.0.part ≡ Serving a → me.1 ≡ (0, Some (Told t)) ∷ []
      → Allows Rule slots id me 0 (λ _. 4) (λ _. Delivered (step slots 0 4 0 none) me 4)
  answers slots id me a t may part has s r _ at _ = (
    parted (Answered a t) me.0,
    gives,
    tt,
    answered id me a t s r at may part has,
    λ b u part' has'.
        let letter = same_serving a b (sym part ∙ part') in
        let told_is = same_told t u (one_sheet me.1 [] [] (Some (Told t)) (Some (Told u)) has has') in
        λ i. (parted (Answered (letter i) (told_is i)) me.0, rest (has i)),
  )

  -- ---- what a look tells

  -- the seat posted this letter
  pub posted_part : (me : At A T K) (a : A) → me ≡ (view about (Posted a) me.0.misses me.0.found, []) → me.0.part ≡ Posted a
  posted_part me a is = ap (λ (m : At A T K). m.0.part) is

  -- a letter whose answer isn't there is still posted
  pub still_posted : (found : ℕ) (me next : At A T K) (a : A) → me ≡ (view about (Posted a) me.0.misses me.0.found, []) → next ≡ missing found me
      → (next ≡ (view about (Posted a) next.0.misses next.0.found, [])) × (next.0.misses ≡ me.0.misses + 1) × (next.0.found ≡ found)
  still_posted found me next a is now =
      let more : next.0.misses ≡ me.0.misses + 1 = ap (λ (m : At A T K). m.0.misses) now in
      let saw : next.0.found ≡ found = ap (λ (m : At A T K). m.0.found) now in
      let next_is : next ≡ (view about (Posted a) (me.0.misses + 1) found, []) = now ∙ ap (λ (m : At A T K). (missed found m.0, m.1)) is in
      (next_is ∙ (ap (λ n. (view about (Posted a) n found, [])) (sym more) ∙ ap (λ n. (view about (Posted a) next.0.misses n, [])) (sym saw)), more, saw)

  -- the sheet that has the answer
  pub answer_had : (me next : At A T K) (a : A) → me ≡ (view about (Posted a) me.0.misses me.0.found, []) → (h : HasAnswer tells a me next) → next.1 ≡ (0, Some (Told h.told)) ∷ []
  answer_had me next a is h = ap (λ (m : At A T K). m.1) h.now ∙ ap (λ (m : At A T K). (0, Some (Told h.told)) ∷ m.1) is

  -- what is had tells it
  pub answer_tells : (me next : At A T K) (a : A) (t : T) (l : List (ℕ × Option (Sheet A T))) → me ≡ (view about (Posted a) me.0.misses me.0.found, []) → HasAnswer tells a me next → next.1 ≡ (0, Some (Told t)) ∷ l → tells about a t
  answer_tells me next a t l is h has =
      let same : h.told ≡ t = same_told h.told t (one_sheet next.1 [] l (Some (Told h.told)) (Some (Told t)) (answer_had me next a is h) has) in
      subst (λ x. tells about a x) same (subst (λ (k : K). tells k a h.told) (ap (λ (m : At A T K). m.0.about) is) h.tells_it)
