-- What is read of texts letter by letter.
use Rattle.std.proofs.Common.{◌≡◌, ℕ, ◌-◌, ◌≤◌, Bool, true, false, not, ◌&&◌, ◌||◌, ◌==◌, List, [], ◌∷◌, ◌++◌, ◌∙◌, Bor, map, refl, sym, ap, length, take, drop, get_or, arith}
use Rattle.std.specs.Prelude.{if◌then◌else◌}
use Rattle.std.specs.List.{list_any}
use Rattle.std.specs.Str.{bytes_eq}
use Rattle.std.proofs.lemmas.Bool.{false≢true}
use Rattle.std.proofs.lemmas.List.{take_all}
use Rattle.std.proofs.lemmas.List.Folds.{list_any-append}
use Rattle.lang_tree.specs.declared.tree.Decl.{Decl}
use Rattle.lang_tree.specs.declared.tree.InputTree.{InputTree}
use Rattle.lang_tree.specs.declared.tree.MethodTree.{MethodTree}
use Rattle.lang_tree.specs.declared.tree.MonitorTree.{MonitorTree}
use Rattle.lang_tree.specs.Names.{declared_name}
use Rattle.emit_names.specs.declared.style.Style.{Style}
use Rattle.emit_names.specs.declared.style.Style.TheVariants as styles
use Rattle.emit_names.specs.Letters.{cased, begins_word, marked, spelled, camel_from, raised, starts}
use Rattle.emit_names.specs.Words.{INPUT_WORDS}
use Rattle.emit_names.specs.Names.{escape_text, is_escaped, is_shifted, meets, style_in, rust_name, escaped, input_name, member_name, member_words}
use Rattle.emit_names.specs.inner.Reading.{takes, rest_of, after_mark}

pub any_map : {X Y : Type 0} (p : Y → Bool) (f : X → Y) (xs : List X) → list_any (λ x. p (f x)) xs ≡ list_any p (map f xs)
any_map p f [] = refl
any_map p f (x ∷ xs) = ap (λ t. p (f x) || t) (any_map p f xs)

-- a text that is the word, and then `_` alone, byte by byte
pub shifted_step : (word : List ℕ) (b : ℕ) (text : List ℕ) → (takes word b && is_shifted (rest_of word) text) ≡ is_shifted word (b ∷ text)
shifted_step [] b text = refl
shifted_step (first ∷ word) b text = refl

pub shifted_marked : (m : Bool) (word : List ℕ) (b : ℕ) (text : List ℕ)
    → ((not m || takes word 95) && (takes (after_mark m word) b && is_shifted (rest_of (after_mark m word)) text)) ≡ is_shifted word (marked m (b ∷ text))
shifted_marked false word b text = shifted_step word b text
shifted_marked true word b text = ap (λ t. takes word 95 && t) (shifted_step (rest_of word) b text) ∙ shifted_step word 95 (b ∷ text)

-- ---- two texts in snake case, letter by letter

pub same_marks : (m : Bool) (x y : ℕ) (xs ys : List ℕ) → (x == y && bytes_eq xs ys) ≡ bytes_eq (marked m (x ∷ xs)) (marked m (y ∷ ys))
same_marks false x y xs ys = refl
same_marks true x y xs ys = refl

same_nothing : (m : Bool) (x : ℕ) (xs : List ℕ) → false ≡ bytes_eq [] (marked m (x ∷ xs))
same_nothing false x xs = refl
same_nothing true x xs = refl

pub same_end : (before other_before : ℕ) (text other : List ℕ) → length text ≡ 0 → bytes_eq [] other ≡ bytes_eq (spelled styles.Snake before text) (spelled styles.Snake other_before other)
same_end before other_before [] [] none = refl
same_end before other_before [] (c ∷ rest) none = same_nothing (begins_word styles.Snake other_before c) (cased styles.Snake c) (spelled styles.Snake c rest)
same_end before other_before (b ∷ more) other none = absurd (omega (arith, none))

-- what is known of no bytes is known of a text that has none
pub at_end : {X : Type 0} (f : List ℕ → X) (text : List ℕ) → length text ≡ 0 → f [] ≡ f text
at_end f [] none = refl
at_end f (b ∷ more) none = absurd (omega (arith, none))

-- ---- what is written of a text, from its first byte on

abbrev pub after_first : List ℕ → List ℕ
after_first text = take (length text - 1) (drop 1 text)

pub first_kept : (b : ℕ) (more : List ℕ) → after_first (b ∷ more) ≡ more
first_kept b more = take_all (length (b ∷ more) - 1) more (omega arith)

marked_parts : (m : Bool) (x : ℕ) (xs : List ℕ) → (marked m [] ++ (x ∷ [])) ++ xs ≡ marked m (x ∷ xs)
marked_parts false x xs = refl
marked_parts true x xs = refl

pub spelled_cut : (style : Style) (before : ℕ) (name : List ℕ) (d : ℕ) (mark : List ℕ) (m : Bool) (letter : ℕ) → 1 ≤ length name → m ≡ begins_word style before (get_or name 0 d) → mark ≡ marked m [] → letter ≡ cased style (get_or name 0 d)
    → (mark ++ (letter ∷ [])) ++ spelled style (get_or name 0 d) (after_first name) ≡ spelled style before name
spelled_cut style before [] d mark m letter some begins is says = absurd (omega (arith, some))
spelled_cut style before (b ∷ more) d mark m letter some begins is says =
    ap (λ l. (l ++ (letter ∷ [])) ++ spelled style b (after_first (b ∷ more))) (is ∙ ap (λ t. marked t []) begins)
    ∙ ap (λ c. (marked (begins_word style before b) [] ++ (c ∷ [])) ++ spelled style b (after_first (b ∷ more))) says
    ∙ ap (λ l. (marked (begins_word style before b) [] ++ (cased style b ∷ [])) ++ spelled style b l) (first_kept b more)
    ∙ marked_parts (begins_word style before b) (cased style b) (spelled style b more)

camel_step : (t : Bool) (a b : List ℕ) → t ≡ false → (if t then a else b) ≡ b
camel_step true a b is = absurd (false≢true (sym is))
camel_step false a b is = refl

camel_out : (t : Bool) (a b : List ℕ) → t ≡ true → (if t then a else b) ≡ a
camel_out true a b is = refl
camel_out false a b is = absurd (false≢true is)

pub camel_cut : (raise : Bool) (name : List ℕ) (d letter : ℕ) (out : Bool) → 1 ≤ length name → out ≡ (get_or name 0 d == 95 && starts (after_first name)) → out ≡ false → letter ≡ raised raise (get_or name 0 d)
    → (letter ∷ []) ++ camel_from false (after_first name) ≡ camel_from raise name
camel_cut raise [] d letter out some is none says = absurd (omega (arith, some))
camel_cut raise (b ∷ more) d letter out some is none says =
    ap (λ c. c ∷ camel_from false (after_first (b ∷ more))) says
    ∙ ap (λ l. raised raise b ∷ camel_from false l) (first_kept b more)
    ∙ sym (camel_step (b == 95 && starts more) (camel_from true more) (raised raise b ∷ camel_from false more) (ap (λ l. b == 95 && starts l) (sym (first_kept b more)) ∙ sym is ∙ none))

pub camel_left_out : (raise : Bool) (name : List ℕ) (d : ℕ) (out : Bool) → 1 ≤ length name → out ≡ (get_or name 0 d == 95 && starts (after_first name)) → out ≡ true
    → camel_from true (after_first name) ≡ camel_from raise name
camel_left_out raise [] d out some is left = absurd (omega (arith, some))
camel_left_out raise (b ∷ more) d out some is left =
    ap (camel_from true) (first_kept b more)
    ∙ sym (camel_out (b == 95 && starts more) (camel_from true more) (raised raise b ∷ camel_from false more) (ap (λ l. b == 95 && starts l) (sym (first_kept b more)) ∙ sym is ∙ left))

-- ---- names, by what stands for their parts

pub input_says : (method : MethodTree) (inputs : List InputTree) (locals : List Decl) (given : Style) (name bytes : List ℕ) (ends : Bool) → inputs ≡ method.inputs → locals ≡ method.locals → bytes ≡ name
    → given ≡ style_in (map (λ input. input.name) inputs ++ map declared_name locals) styles.Snake bytes → ends ≡ is_escaped INPUT_WORDS (spelled given 0 bytes)
    → spelled given 0 bytes ++ escape_text ends ≡ input_name method name
input_says method inputs locals given name bytes ends takes keeps named is has =
    ap (λ (t : Bool). spelled given 0 bytes ++ escape_text t) has
    ∙ ap (λ (s : Style). escaped INPUT_WORDS (spelled s 0 bytes)) is
    ∙ ap (λ (l : List InputTree). rust_name INPUT_WORDS (map (λ input. input.name) l ++ map declared_name locals) styles.Snake bytes) takes
    ∙ ap (λ (l : List Decl). rust_name INPUT_WORDS (map (λ input. input.name) method.inputs ++ map declared_name l) styles.Snake bytes) keeps
    ∙ ap (input_name method) named

pub member_says : (tree : MonitorTree) (declared : List Decl) (methods : List MethodTree) (style given : Style) (name bytes : List ℕ) (ends : Bool) → declared ≡ tree.decls → methods ≡ tree.methods → bytes ≡ name
    → given ≡ style_in (map declared_name declared ++ map (λ method. method.name) methods) style bytes → ends ≡ is_escaped (member_words tree) (spelled given 0 bytes)
    → spelled given 0 bytes ++ escape_text ends ≡ member_name tree style name
member_says tree declared methods style given name bytes ends has does named is ended =
    ap (λ (t : Bool). spelled given 0 bytes ++ escape_text t) ended
    ∙ ap (λ (s : Style). escaped (member_words tree) (spelled s 0 bytes)) is
    ∙ ap (λ (l : List Decl). rust_name (member_words tree) (map declared_name l ++ map (λ method. method.name) methods) style bytes) has
    ∙ ap (λ (l : List MethodTree). rust_name (member_words tree) (map declared_name tree.decls ++ map (λ method. method.name) l) style bytes) does
    ∙ ap (member_name tree style) named

-- a name of a scope of two lists
pub style_says : {X Y : Type 0} (f : X → List ℕ) (g : Y → List ℕ) (xs : List X) (ys : List Y) (style given : Style) (name : List ℕ) (met later : Bool)
    → given ≡ (if not (met || later) then style else styles.Kept) → met ≡ list_any (λ x. meets name (f x)) xs → later ≡ list_any (λ y. meets name (g y)) ys
    → given ≡ style_in (map f xs ++ map g ys) style name
style_says f g xs ys style given name met later is one other =
    is
    ∙ ap (λ t. if not (t || later) then style else styles.Kept) (one ∙ any_map (meets name) f xs)
    ∙ ap (λ t. if not (list_any (meets name) (map f xs) || t) then style else styles.Kept) (other ∙ any_map (meets name) g ys)
    ∙ ap (λ t. if not t then style else styles.Kept) (sym (list_any-append (meets name) (map f xs) (map g ys)))

pub any_says : (test : List ℕ → Bool) (keywords : List (List ℕ)) (words : List (Bor (List ℕ))) (answer alone keyword word : Bool)
    → answer ≡ (alone || (keyword || word)) → alone ≡ test [] → keyword ≡ list_any test keywords → word ≡ list_any (λ one. test one.now) words
    → answer ≡ (test [] || (list_any test keywords || list_any test (map (λ one. one.now) words)))
any_says test keywords words answer alone keyword word is first second third =
    is
    ∙ ap (λ t. t || (keyword || word)) first
    ∙ ap (λ t. test [] || (t || word)) second
    ∙ ap (λ t. test [] || (list_any test keywords || t)) (third ∙ any_map test (λ (one : Bor (List ℕ)). one.now) words)

-- a word that has bytes does not end
pub no_end : (word : List ℕ) → 1 ≤ length word → false ≡ is_shifted word []
no_end [] some = absurd (omega (arith, some))
no_end (b ∷ word) some = refl
