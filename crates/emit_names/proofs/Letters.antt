-- The letters of names, and that a name has the snake form of what it is written as.
use Rattle.std.proofs.Common.{◌≡◌, ℕ, Bool, true, false, ◌&&◌, List, [], ◌∷◌, ◌∙◌, refl, ap, arith}
use Rattle.emit_names.specs.declared.style.Style.{Style}
use Rattle.emit_names.specs.declared.style.Style.TheVariants as styles
use Rattle.emit_names.specs.Letters.{is_lower, is_upper, lower, upper, begins_word, marked, spelled, snake}

pub lower_is_low : (b : ℕ) → is_upper (lower b) ≡ false
lower_is_low b = grind arith

pub lower_again : (b : ℕ) → lower (lower b) ≡ lower b
lower_again b = grind arith

pub upper_is_high : (b : ℕ) → is_lower (upper b) ≡ false
upper_is_high b = grind arith

pub lower_upper : (b : ℕ) → lower (upper b) ≡ lower b
lower_upper b = grind arith

-- ---- as it stands

pub spelled_kept : (before : ℕ) (text : List ℕ) → spelled styles.Kept before text ≡ text
spelled_kept before [] = refl
spelled_kept before (b ∷ more) = ap (λ l. b ∷ l) (spelled_kept b more)

-- ---- in snake case

and_false : (a : Bool) → (a && false) ≡ false
and_false true = refl
and_false false = refl

-- a byte that is no upper-case letter begins no word
no_word : (before b : ℕ) → is_upper b ≡ false → begins_word styles.Snake before b ≡ false
no_word before b low = ap (λ t. is_lower before && t) low ∙ and_false (is_lower before)

no_word_after : (before b : ℕ) → is_lower before ≡ false → begins_word styles.Snake before b ≡ false
no_word_after before b high = ap (λ t. t && is_upper b) high

-- a text whose first byte begins no word
first_of : (before b : ℕ) (more : List ℕ) → begins_word styles.Snake before b ≡ false → spelled styles.Snake before (b ∷ more) ≡ lower b ∷ spelled styles.Snake b more
first_of before b more none = ap (λ t. marked t (lower b ∷ spelled styles.Snake b more)) none

snake_step : (m : Bool) (q b : ℕ) (more rest : List ℕ) → spelled styles.Snake (lower b) more ≡ rest → spelled styles.Snake q (marked m (lower b ∷ more)) ≡ marked m (lower b ∷ rest)
snake_step false q b more rest is =
    first_of q (lower b) more (no_word q (lower b) (lower_is_low b)) ∙ ap (λ c. c ∷ spelled styles.Snake (lower b) more) (lower_again b) ∙ ap (λ l. lower b ∷ l) is
snake_step true q b more rest is =
    first_of q 95 (lower b ∷ more) (no_word q 95 refl)
    ∙ ap (λ l. 95 ∷ l) (first_of 95 (lower b) more (no_word 95 (lower b) (lower_is_low b)) ∙ ap (λ c. c ∷ spelled styles.Snake (lower b) more) (lower_again b) ∙ ap (λ l. lower b ∷ l) is)

snake_snake : (q before : ℕ) (text : List ℕ) → spelled styles.Snake q (spelled styles.Snake before text) ≡ spelled styles.Snake before text
snake_snake q before [] = refl
snake_snake q before (b ∷ more) = snake_step (begins_word styles.Snake before b) q b (spelled styles.Snake b more) (spelled styles.Snake b more) (snake_snake (lower b) b more)

-- ---- in upper-case letters

upper_step : (m : Bool) (q b : ℕ) (more rest : List ℕ) → is_lower q ≡ false → spelled styles.Snake (upper b) more ≡ rest → spelled styles.Snake q (marked m (upper b ∷ more)) ≡ marked m (lower b ∷ rest)
upper_step false q b more rest high is =
    first_of q (upper b) more (no_word_after q (upper b) high) ∙ ap (λ c. c ∷ spelled styles.Snake (upper b) more) (lower_upper b) ∙ ap (λ l. lower b ∷ l) is
upper_step true q b more rest high is =
    first_of q 95 (upper b ∷ more) (no_word_after q 95 high)
    ∙ ap (λ l. 95 ∷ l) (first_of 95 (upper b) more (no_word_after 95 (upper b) refl) ∙ ap (λ c. c ∷ spelled styles.Snake (upper b) more) (lower_upper b) ∙ ap (λ l. lower b ∷ l) is)

snake_upper : (q before : ℕ) (text : List ℕ) → is_lower q ≡ false → spelled styles.Snake q (spelled styles.Upper before text) ≡ spelled styles.Snake before text
snake_upper q before [] high = refl
snake_upper q before (b ∷ more) high = upper_step (begins_word styles.Snake before b) q b (spelled styles.Upper b more) (spelled styles.Snake b more) high (snake_upper (upper b) b more (upper_is_high b))

-- a name has the snake form of what it is written as, in each style
pub snake_of : (style : Style) (name : List ℕ) → snake (spelled style 0 name) ≡ snake name
snake_of styles.Kept name = ap snake (spelled_kept 0 name)
snake_of styles.Snake name = snake_snake 0 0 name
snake_of styles.Upper name = snake_upper 0 0 name refl
