-- A text that hangs on a test, and pieces in a row.
use Rattle.std.proofs.Common.{◌≡◌, Bool, true, false, cond, List, [], ◌++◌, ◌∙◌, ℕ, ap, sym, refl, append_assoc, append-nil}
use Rattle.std.proofs.lemmas.Bool.{true≢false}

pub if_true : (test : Bool) (x y : List ℕ) → test ≡ true → x ≡ cond test x y
if_true true x y is = refl
if_true false x y is = absurd (true≢false (sym is))

pub if_false : (test : Bool) (x y : List ℕ) → test ≡ false → y ≡ cond test x y
if_false true x y is = absurd (true≢false is)
if_false false x y is = refl

-- by what answers the test
pub yes_text : (test answer : Bool) (x y : List ℕ) → answer ≡ test → answer ≡ true → x ≡ cond test x y
yes_text test answer x y is holds = if_true test x y (sym is ∙ holds)

pub no_text : (test answer : Bool) (x y : List ℕ) → answer ≡ test → answer ≡ false → y ≡ cond test x y
no_text test answer x y is lacks = if_false test x y (sym is ∙ lacks)

-- three pieces
pub three : (a b c x y z : List ℕ) → a ≡ x → b ≡ y → c ≡ z → a ++ (b ++ (c ++ [])) ≡ x ++ y ++ z
three a b c x y z one two last =
    ap (λ t. a ++ (b ++ t)) (append-nil c ∙ last) ∙ sym (append_assoc a b z)
    ∙ ap (λ t. t ++ b ++ z) one ∙ ap (λ t. x ++ t ++ z) two
