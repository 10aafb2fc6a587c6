-- A chain of parts: it is its first part where no other begins, and a node of them all otherwise.
use Rattle.std.proofs.Common.{◌≡◌, ℕ, zero, suc, ◌<◌, Bool, true, false, List, [], ◌∷◌, length, Ok, Err, refl, sym, ap, ◌∙◌, arith}
use Rattle.lang_tree.specs.declared.tree.Expr.{Expr}
use Rattle.lang_tokens.specs.Words.{Word}
use Rattle.lang_syntax.specs.Grammar.{chain}
use Rattle.lang_cursor.specs.Reading.{◌>>=◌, Read, ◌⊗◌, made_at, many_at, each_at}
use Rattle.lang_syntax.specs.inner.Reading.{chain_of}

abbrev done : {A : Type 0} → A → List Word → Read A
done x rest = Ok (x, rest)

same_read : {A : Type 0} (a b : A × List Word) → done a.0 a.1 ≡ done b.0 b.1 → a ≡ b
same_read a b e = cc

-- what was read, where something is made of it
made_of : {A B : Type 0} (make : A → B) (read : Read A) (y : B) (rest : List Word) → (read >>= λ a. Ok (make a.0, a.1)) ≡ done y rest
    → (x : A) × (read ≡ done x rest) × (y ≡ make x)
made_of make (Err left) y rest e = absurd cc
made_of {A} {B} make (Ok a) y rest e =
    let same = same_read (make a.0, a.1) (y, rest) e in
    (a.0, ap (λ (b : B × List Word). done a.0 b.1) same, sym (ap (λ (b : B × List Word). b.0) same))

first_of_two : {A : Type 0} (read : Read A) (later : List Word → Read (List A)) (xs : List A) (rest : List Word)
    → (read >>= λ first. later first.1 >>= λ others. Ok (first.0 ∷ others.0, others.1)) ≡ done xs rest → (x : A) × (more : List A) × (xs ≡ x ∷ more)
first_of_two (Err left) later xs rest e = absurd cc
first_of_two (Ok first) later xs rest e =
    let others = made_of (λ more. first.0 ∷ more) (later first.1) xs rest e in
    (first.0, others.0, others.2)

-- one item at least was read, where one begins
some_read : {A : Type 0} (starts : List Word → Bool) (item : List Word → Read A) (ws : List Word) (xs : List A) (rest : List Word)
    → starts ws ≡ true → 0 < length ws → each_at starts item ws ≡ Ok (xs, rest) → (x : A) × (more : List A) × (xs ≡ x ∷ more)
unfolding many_at
some_read {A} starts item ws xs rest more long e = with_fuel (length ws) long e
  where
    with_fuel : (fuel : ℕ) → 0 < fuel → many_at starts item fuel ws ≡ Ok (xs, rest) → (x : A) × (more : List A) × (xs ≡ x ∷ more)
    with_fuel zero some e = absurd (omega arith)
    with_fuel (suc n) some e = first_of_two (item ws) (many_at starts item n) xs rest (rw more at e)

none_read : {A : Type 0} (starts : List Word → Bool) (item : List Word → Read A) (ws : List Word) → starts ws ≡ false → each_at starts item ws ≡ Ok ([], ws)
unfolding many_at
none_read starts item ws none = with_fuel (length ws)
  where
    with_fuel : (fuel : ℕ) → many_at starts item fuel ws ≡ Ok ([], ws)
    with_fuel zero = refl
    with_fuel (suc n) = rw none refl

pub alone : {A : Type 0} (node : Expr → List A → Expr) (first : List Word → Read Expr) (starts : List Word → Bool) (item : List Word → Read A) (ws : List Word) (x : Expr) (rest : List Word) (test : Bool)
    → first ws ≡ Ok (x, rest) → test ≡ starts rest → test ≡ false → made_at (chain_of node) (first ⊗ each_at starts item) ws ≡ Ok (x, rest)
alone node first starts item ws x rest test read is none = rw (read, none_read starts item rest (sym is ∙ none)) refl

-- with the first part before the others
pub chained : (node : Expr → List Expr → Expr) (first : List Word → Read Expr) (starts : List Word → Bool) (item : List Word → Read Expr) (ws : List Word) (x y : Expr) (rest after : List Word) (parts : List Expr) (test : Bool)
    → ((ws : List Word) → starts ws ≡ true → 0 < length ws)
    → first ws ≡ Ok (x, rest) → test ≡ starts rest → test ≡ true → made_at (λ more. x ∷ more) (each_at starts item) rest ≡ Ok (parts, after)
    → ((more : List Expr) → parts ≡ x ∷ more → y ≡ node x more) → made_at (chain_of node) (first ⊗ each_at starts item) ws ≡ Ok (y, after)
chained node first starts item ws x y rest after parts test some read is holds others made =
    let begun : starts rest ≡ true = sym is ∙ holds in
    let more = made_of (λ more. x ∷ more) (each_at starts item rest) parts after others in
    let one = some_read starts item rest more.0 after begun (some rest begun) more.1 in
    let whole : chain node x more.0 ≡ y = ap (chain node x) one.2 ∙ ap (node x) (sym one.2) ∙ sym (made more.0 more.2) in
    rw (read, more.1) (ap (λ (made : Expr). done made after) whole)
