-- Forms added up and multiplied, number by number.
use Rattle.std.proofs.Common.{◌≡◌, ℕ, zero, suc, ◌+◌, ◌<◌, ◌*◌, ◌^◌, ℤ, pos, neg_ℤ, ◌+ℤ◌, ◌*ℤ◌, Bool, true, false, List, [], ◌∷◌, length, get_or, set, map, FitsSigned, to_z, of_z, cond, refl, ap, sym, ◌∙◌, subst, add-one, arith}
use Rattle.std.specs.List.{list_all}
use Rattle.std.proofs.Math.IntN.{*ℤ_comm}
use Rattle.std.proofs.lemmas.List.{length-map, get_or-map}
use Rattle.std.proofs.lemmas.Int.{ints}
use mir.Syntax.{w128}
use Rattle.logic_linear.proofs.LinearLemmas.{at_each}
use Rattle.lang_forms.specs.Scope.{signed}
use Rattle.lang_forms.specs.Forms.{Form, added, is_limited, plus, scaled}
use Rattle.lang_forms.specs.inner.FormBounds.{AreTimesWithin, HasRoom}
use Rattle.lang_base.specs.Numbers.{is_within}
use Rattle.lang_forms.proofs.Partly.{partly, partly_at, partly_ends, partly_step}
use Rattle.lang_forms.proofs.Numbers.{bounds_fit, within_fits, read_fits, product_fits, signed_within, sum_bounds}

-- ---- one number times another

-- what a one_more_part reads, and that the product fits
scale_reads : (old times : List ℤ) (by : ℤ) (i : ℕ) → list_all (is_within (2 ^ 31)) old ≡ true → times ≡ partly (map (λ number. by *ℤ number) old) old i → i < length old → (is_within (2 ^ 31) (get_or old i (pos 0)) ≡ true) × (to_z w128 (of_z w128 (get_or times i (pos 0))) ≡ get_or old i (pos 0))
scale_reads old times by i limited so_far lt =
    let within = at_each (is_within (2 ^ 31)) old i (pos 0) lt limited in
    let at : get_or times i (pos 0) ≡ get_or old i (pos 0) = ap (λ list. get_or list i (pos 0)) so_far ∙ partly_at _ old i (pos 0) (length-map old _) lt in
    (within, ap (λ z. to_z w128 (of_z w128 z)) at ∙ read_fits _ (within_fits (2 ^ 31) _ within (omega arith)))

pub scale_fits : (old times : List ℤ) (by : ℤ) (i : ℕ) → list_all (is_within (2 ^ 31)) old ≡ true → is_within (2 ^ 63) by ≡ true → times ≡ partly (map (λ number. by *ℤ number) old) old i → i < length old → FitsSigned w128 (to_z w128 (of_z w128 (get_or times i (pos 0))) *ℤ by)
scale_fits old times by i limited small so_far lt =
    let reads = scale_reads old times by i limited so_far lt in
    subst (λ z. FitsSigned w128 (z *ℤ by)) (sym reads.1) (product_fits (get_or old i (pos 0)) by reads.0 small)

pub scale_step : (old times : List ℤ) (by : ℤ) (i : ℕ) → list_all (is_within (2 ^ 31)) old ≡ true → is_within (2 ^ 63) by ≡ true → times ≡ partly (map (λ number. by *ℤ number) old) old i → i < length old → set times i (to_z w128 (of_z w128 (to_z w128 (of_z w128 (get_or times i (pos 0))) *ℤ by))) ≡ partly (map (λ number. by *ℤ number) old) old (i + 1)
scale_step old times by i limited small so_far lt =
    let reads = scale_reads old times by i limited so_far lt in
    let product = read_fits _ (scale_fits old times by i limited small so_far lt) ∙ ap (λ z. z *ℤ by) reads.1 ∙ *ℤ_comm (get_or old i (pos 0)) by in
    let new = product ∙ sym (get_or-map (λ number. by *ℤ number) old i (pos 0) (by *ℤ pos 0) lt) in
    ap (λ list. set list i (to_z w128 (of_z w128 (to_z w128 (of_z w128 (get_or times i (pos 0))) *ℤ by)))) so_far ∙ rw add-one (partly_step (map (λ number. by *ℤ number) old) old i (by *ℤ pos 0) _ (length-map old _) lt new)

-- ---- one number and another

pub length_added : (a b : List ℤ) → length a ≡ length b → length (added a b) ≡ length a
length_added [] [] same = refl
length_added [] (y ∷ b) same = refl
length_added (x ∷ a) [] same = absurd (omega arith)
length_added (x ∷ a) (y ∷ b) same = let rest = length_added a b (omega arith) in omega arith

pub added_at : (a b : List ℤ) (i : ℕ) (d e f : ℤ) → length a ≡ length b → i < length a → get_or (added a b) i d ≡ get_or a i e +ℤ get_or b i f
added_at [] b i d e f same lt = absurd (omega arith)
added_at (x ∷ a) [] i d e f same lt = absurd (omega arith)
added_at (x ∷ a) (y ∷ b) zero d e f same lt = refl
added_at (x ∷ a) (y ∷ b) (suc i) d e f same lt = added_at a b i d e f (omega arith) (omega arith)

-- what a one_more_part reads and computes
record Turn (old times others : List ℤ) (minus : Bool) (i : ℕ) (part : ℤ) : Type 0 where
  reads : to_z w128 (of_z w128 (get_or times i (pos 0))) ≡ get_or old i (pos 0)
  part_reads : to_z w128 (of_z w128 part) ≡ signed minus (get_or others i (pos 0))
  sum_fits : FitsSigned w128 (get_or old i (pos 0) +ℤ signed minus (get_or others i (pos 0)))

abbrev pub Begun : List ℤ → List ℤ → List ℤ → Bool → ℕ → Type 0
Begun old times others minus i = times ≡ partly (added old (map (signed minus) others)) old i

one_more_part : (parts : ℕ) (old times others : List ℤ) (minus : Bool) (i : ℕ) (part : ℤ) → length old ≡ length others → parts < 2 ^ 62 → AreTimesWithin parts old → list_all (is_within (2 ^ 31)) others ≡ true → Begun old times others minus i → i < length others → part ≡ signed minus (to_z w128 (of_z w128 (get_or others i (pos 0)))) → Turn old times others minus i part
one_more_part parts old times others minus i part same few within limited so_far lt is =
    let lt_old : i < length old = omega arith in
    let here = within i (pos 0) lt_old in
    let above = here.0 in
    let below = here.1 in
    let other = at_each (is_within (2 ^ 31)) others i (pos 0) lt limited in
    let part_within : is_within (2 ^ 31) (signed minus (get_or others i (pos 0))) ≡ true = signed_within minus (2 ^ 31) _ other in
    let part_is : part ≡ signed minus (get_or others i (pos 0)) = is ∙ ap (signed minus) (read_fits _ (within_fits (2 ^ 31) _ other (omega arith))) in
    let same_length : length (added old (map (signed minus) others)) ≡ length old = length_added old _ (same ∙ sym (length-map others (signed minus))) in
    let at : get_or times i (pos 0) ≡ get_or old i (pos 0) = ap (λ list. get_or list i (pos 0)) so_far ∙ partly_at _ old i (pos 0) same_length lt_old in
    let sums = sum_bounds parts (2 ^ 31) _ _ above below part_within in
    record {
      reads = ap (λ z. to_z w128 (of_z w128 z)) at ∙ read_fits _ (bounds_fit (parts * 2 ^ 31) _ above below (omega arith));
      part_reads = ap (λ z. to_z w128 (of_z w128 z)) part_is ∙ read_fits _ (within_fits (2 ^ 31) _ part_within (omega arith));
      sum_fits = bounds_fit ((parts + 1) * 2 ^ 31) _ sums.0 sums.1 (omega arith);
    }

pub add_fits : (parts : ℕ) (old times others : List ℤ) (minus : Bool) (i : ℕ) (part : ℤ) → length old ≡ length others → parts < 2 ^ 62 → AreTimesWithin parts old → list_all (is_within (2 ^ 31)) others ≡ true → Begun old times others minus i → i < length others → part ≡ signed minus (to_z w128 (of_z w128 (get_or others i (pos 0)))) → FitsSigned w128 (to_z w128 (of_z w128 (get_or times i (pos 0))) +ℤ to_z w128 (of_z w128 part))
add_fits parts old times others minus i part same few within limited so_far lt is =
    let t = one_more_part parts old times others minus i part same few within limited so_far lt is in
    rw (t.reads, t.part_reads) t.sum_fits

pub add_step : (parts : ℕ) (old times others : List ℤ) (minus : Bool) (i : ℕ) (part : ℤ) → length old ≡ length others → parts < 2 ^ 62 → AreTimesWithin parts old → list_all (is_within (2 ^ 31)) others ≡ true → Begun old times others minus i → i < length others → part ≡ signed minus (to_z w128 (of_z w128 (get_or others i (pos 0)))) → Begun old (set times i (to_z w128 (of_z w128 (to_z w128 (of_z w128 (get_or times i (pos 0))) +ℤ to_z w128 (of_z w128 part))))) others minus (i + 1)
add_step parts old times others minus i part same few within limited so_far lt is =
    let t = one_more_part parts old times others minus i part same few within limited so_far lt is in
    let lt_old : i < length old = omega arith in
    let same_mapped : length old ≡ length (map (signed minus) others) = same ∙ sym (length-map others (signed minus)) in
    let same_length : length (added old (map (signed minus) others)) ≡ length old = length_added old _ same_mapped in
    let sum = ap (λ z. to_z w128 (of_z w128 (z +ℤ to_z w128 (of_z w128 part)))) t.reads ∙ ap (λ z. to_z w128 (of_z w128 (get_or old i (pos 0) +ℤ z))) t.part_reads ∙ read_fits _ t.sum_fits in
    let there = added_at old (map (signed minus) others) i (pos 0) (pos 0) (signed minus (pos 0)) same_mapped lt_old ∙ ap (λ z. get_or old i (pos 0) +ℤ z) (get_or-map (signed minus) others i (pos 0) (signed minus (pos 0)) lt) in
    ap (λ list. set list i (to_z w128 (of_z w128 (to_z w128 (of_z w128 (get_or times i (pos 0))) +ℤ to_z w128 (of_z w128 part))))) so_far ∙ rw add-one (partly_step _ old i (pos 0) _ same_length lt_old (sum ∙ sym there))

pub add_ends : (old times others : List ℤ) (minus : Bool) (i : ℕ) → length old ≡ length others → Begun old times others minus i → i ≡ length others → times ≡ added old (map (signed minus) others)
add_ends old times others minus i same so_far end =
    so_far ∙ partly_ends _ old i (length_added old _ (same ∙ sym (length-map others (signed minus)))) (omega arith)

-- ---- one form and another

minus_one : (z : ℤ) → neg_ℤ z ≡ neg_ℤ (pos 1) *ℤ z
minus_one z = grind (arith, ints)

pub minus_each : (numbers : List ℤ) → map (signed true) numbers ≡ map (λ number. neg_ℤ (pos 1) *ℤ number) numbers
minus_each [] = refl
minus_each (z ∷ numbers) = rw (← minus_one z) (ap (λ more. neg_ℤ z ∷ more) (minus_each numbers))

plain_each : (numbers : List ℤ) → map (signed false) numbers ≡ numbers
plain_each [] = refl
plain_each (z ∷ numbers) = ap (λ more. z ∷ more) (plain_each numbers)

signed_plus : (minus : Bool) (form other : Form) → record { times = added form.times (map (signed minus) other.times); constant = form.constant +ℤ signed minus other.constant } ≡ plus form (cond minus (scaled (neg_ℤ (pos 1)) other) other)
signed_plus true form other = rw (minus_each other.times, minus_one other.constant) refl
signed_plus false form other = rw (plain_each other.times) refl

-- the constants, as the code adds them
constants_are : (minus : Bool) (form other : Form) (part : ℤ) → HasRoom form → is_limited other ≡ true → part ≡ signed minus (to_z w128 (of_z w128 other.constant)) → to_z w128 (of_z w128 (to_z w128 (of_z w128 form.constant) +ℤ to_z w128 (of_z w128 part))) ≡ form.constant +ℤ signed minus other.constant
constants_are minus form other part room limited is =
    let parts = room.0 in
    let few = room.1 in
    let within = room.2 in
    let whole : is_within (2 ^ 63) other.constant ≡ true = grind arith in
    let part_within : is_within (2 ^ 63) (signed minus other.constant) ≡ true = signed_within minus (2 ^ 63) _ whole in
    let part_is : part ≡ signed minus other.constant = is ∙ ap (signed minus) (read_fits _ (within_fits (2 ^ 63) _ whole (omega arith))) in
    let sums = sum_bounds parts (2 ^ 63) form.constant (signed minus other.constant) within.above within.below part_within in
    let part_reads : to_z w128 (of_z w128 part) ≡ signed minus other.constant = ap (λ z. to_z w128 (of_z w128 z)) part_is ∙ read_fits _ (within_fits (2 ^ 63) _ part_within (omega arith)) in
    let form_reads : to_z w128 (of_z w128 form.constant) ≡ form.constant = read_fits _ (bounds_fit (parts * 2 ^ 63) _ within.above within.below (omega arith)) in
    rw (form_reads, part_reads) (read_fits _ (bounds_fit ((parts + 1) * 2 ^ 63) _ sums.0 sums.1 (omega arith)))

-- what `add` makes of the fields of two forms
pub add_view : (minus : Bool) (form other : Form) (times others made : List ℤ) (constant other_constant part : ℤ) → record { times = times; constant = constant } ≡ form → record { times = others; constant = other_constant } ≡ other → HasRoom form → is_limited other ≡ true → made ≡ added times (map (signed minus) others) → part ≡ signed minus (to_z w128 (of_z w128 other_constant)) → record { times = made; constant = to_z w128 (of_z w128 (to_z w128 (of_z w128 constant) +ℤ to_z w128 (of_z w128 part))) } ≡ plus form (cond minus (scaled (neg_ℤ (pos 1)) other) other)
add_view minus form other times others made constant other_constant part view other_view room limited made_is part_is =
    let before : Form = record { times = times; constant = constant } in
    let added_one : Form = record { times = others; constant = other_constant } in
    let here : HasRoom before = subst HasRoom (sym view) room in
    let few : is_limited added_one ≡ true = subst (λ f. is_limited f ≡ true) (sym other_view) limited in
    rw (← view, ← other_view, made_is, constants_are minus before added_one part here few part_is) (signed_plus minus before added_one)
