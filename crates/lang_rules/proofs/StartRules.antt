-- The rules of parameters and of copied starts: the faults that are listed are the rules that are
-- broken.
use Rattle.std.proofs.Common.{◌≡◌, ◌≢◌, ℕ, ◌+◌, ◌<◌, ◌≤◌, Bool, true, false, ◌||◌, ◌&&◌, not, List, [], ◌∷◌, ◌++◌, get_or, length, take, refl, sym, ap, subst, ◌∙◌, inl, inr, Option, arith}
use Rattle.std.specs.Prelude.{nat_le, if◌then◌else◌}
use Rattle.std.specs.List.{All, Contains, flat_map, list_any}
use Rattle.std.specs.Str.{bytes_eq}
use Rattle.std.proofs.lemmas.Bool.{false≢true, true≢false}
use Rattle.std.proofs.lemmas.Bool.Decides.{nat_tests}
use Rattle.std.proofs.lemmas.List.{append-nil, append_assoc, take_all, take_more}
use Rattle.std.proofs.lemmas.List.Elements.{All-cons, All-nil, Contains-append_cases, Contains-append_left, Contains-append_right}
use Rattle.std.proofs.lemmas.List.Folds.{list_any_none}
use Rattle.std.proofs.lemmas.Slice.Eq.{bytes_eq-Decides}
use Rattle.lang_tree.specs.declared.tree.Lit.{Lit}
use Rattle.lang_tree.specs.declared.tree.LimitTree.{LimitTree}
use Rattle.lang_tree.specs.declared.tree.Decl.{Decl}
use Rattle.lang_tree.specs.declared.tree.Decl.TheVariants as decls
use Rattle.lang_base.specs.Limits.{GREATEST_NUMBER}
use Rattle.lang_base.specs.SourceFaults.{earlier_of, fault_at, least, order}
use Rattle.lang_base.specs.declared.source_fault.SourceFault.{SourceFault}
use Rattle.lang_base.specs.declared.source_fault.Refusal.{Refusal}
use Rattle.lang_base.specs.declared.source_fault.Refusal.TheVariants as refusals
use Rattle.lang_forms.specs.Scope.{literal_value}
use Rattle.lang_rules.specs.Rules.{faults_in_sources, is_source, is_wrong_start, meets, source_faults, start_faults, subject_faults}
use Rattle.lang_rules.specs.Judgements.{HasOtherSubject, HasUnknownSource, HasWrongStart, IsOtherSubject, IsUnknownSource, IsWrongStart}
use Rattle.lang_base.proofs.Least.{least_both}
use Rattle.lang_base.proofs.Members.{contains_head, from_flat_map, in_flat_map, none_in, only_in}

-- the rule of a fault, and the place where it is broken
pub record Broken (what : Refusal) (Rule : ℕ → Type 0) (fault : SourceFault) : Type 0 where
  pub at : ℕ
  pub is : fault ≡ fault_at what at
  pub breaks : Rule at

-- ---- what a test gives

-- a fault that there is unless the test passes
unless_in : (what : Refusal) (at : ℕ) (fault : SourceFault) (test : Bool) → Contains (if test then [] else fault_at what at ∷ []) fault → (test ≡ false) × (fault ≡ fault_at what at)
unless_in what at fault true within = none_in fault within
unless_in what at fault false within = (refl, sym (only_in (fault_at what at) fault within))

in_unless : (what : Refusal) (at place : ℕ) (test : Bool) → at ≡ place → test ≡ false → Contains (if test then [] else fault_at what at ∷ []) (fault_at what place)
in_unless what at place true is fails = absurd cc
in_unless what at place false is fails = subst (λ (n : ℕ). Contains (fault_at what at ∷ []) (fault_at what n)) is (contains_head (fault_at what at) [])

-- a fault that there is where the test passes
where_in : (what : Refusal) (at : ℕ) (fault : SourceFault) (test : Bool) → Contains (if test then fault_at what at ∷ [] else []) fault → (test ≡ true) × (fault ≡ fault_at what at)
where_in what at fault true within = (refl, sym (only_in (fault_at what at) fault within))
where_in what at fault false within = none_in fault within

in_where : (what : Refusal) (at place : ℕ) (test : Bool) → at ≡ place → test ≡ true → Contains (if test then fault_at what at ∷ [] else []) (fault_at what place)
in_where what at place true is passes = subst (λ (n : ℕ). Contains (fault_at what at ∷ []) (fault_at what n)) is (contains_head (fault_at what at) [])
in_where what at place false is passes = absurd cc

-- ---- conditions on other names

other_name : (one other : List ℕ) → bytes_eq one other ≡ false → one ≢ other
other_name one other fails same = false≢true (sym fails ∙ (bytes_eq-Decides one other).1 same)

other_test : (one other : List ℕ) (test : Bool) → bytes_eq one other ≡ test → one ≢ other → test ≡ false
other_test one other true is differ = absurd (differ ((bytes_eq-Decides one other).0 is))
other_test one other false is differ = refl

from_subject : (decl : Decl) (fault : SourceFault) → Contains (subject_faults decl) fault → Broken refusals.Unknown (λ at. IsOtherSubject at decl) fault
from_subject (decls.Param at name value limit) fault within =
    let found = unless_in refusals.Unknown limit.subject.at fault (bytes_eq limit.subject.name name) within in
    record { at = limit.subject.at; is = found.1; breaks = (refl, other_name limit.subject.name name found.0) }
from_subject decl fault within = none_in fault within

in_subject : (place : ℕ) (decl : Decl) → IsOtherSubject place decl → Contains (subject_faults decl) (fault_at refusals.Unknown place)
in_subject place (decls.Param at name value limit) (is, differ) =
    in_unless refusals.Unknown limit.subject.at place (bytes_eq limit.subject.name name) is (other_test limit.subject.name name (bytes_eq limit.subject.name name) refl differ)
in_subject place decl breaks = absurd breaks

pub from_subjects : (declared : List Decl) (fault : SourceFault) → Contains (flat_map subject_faults declared) fault → Broken refusals.Unknown (λ at. HasOtherSubject at declared) fault
from_subjects declared fault within =
    let source = from_flat_map subject_faults declared fault within in
    let one = from_subject source.from fault source.within in
    record { at = one.at; is = one.is; breaks = (source.from, source.one, one.breaks) }

pub in_subjects : (declared : List Decl) (place : ℕ) → HasOtherSubject place declared → Contains (flat_map subject_faults declared) (fault_at refusals.Unknown place)
in_subjects declared place (decl, one, breaks) = in_flat_map subject_faults declared decl (fault_at refusals.Unknown place) one (in_subject place decl breaks)

-- ---- sources that are not known

none_head : {X : Type 0} (test : X → Bool) (x : X) (xs : List X) (first : Bool) → test x ≡ first → (first || list_any test xs) ≡ false → (list_any test xs ≡ false → All (λ y. test y ≡ false) xs) → All (λ y. test y ≡ false) (x ∷ xs)
none_head test x xs true is none rest = absurd (true≢false none)
none_head test x xs false is none rest = All-cons (λ y. test y ≡ false) x xs is (rest none)

none_of : {X : Type 0} (test : X → Bool) (xs : List X) → list_any test xs ≡ false → All (λ x. test x ≡ false) xs
none_of test [] none = All-nil (λ x. test x ≡ false)
none_of test (x ∷ xs) none = none_head test x xs (test x) refl none (none_of test xs)

from_source : (earlier : List Decl) (decl : Decl) (fault : SourceFault) → Contains (source_faults earlier decl) fault → Broken refusals.Unknown (λ at. IsUnknownSource earlier at decl) fault
from_source earlier (decls.Copied at name source) fault within =
    let found = unless_in refusals.Unknown source.at fault (list_any (is_source source.name) earlier) within in
    record { at = source.at; is = found.1; breaks = (refl, none_of (is_source source.name) earlier found.0) }
from_source earlier decl fault within = none_in fault within

in_source : (earlier : List Decl) (place : ℕ) (decl : Decl) → IsUnknownSource earlier place decl → Contains (source_faults earlier decl) (fault_at refusals.Unknown place)
in_source earlier place (decls.Copied at name source) (is, none) =
    in_unless refusals.Unknown source.at place (list_any (is_source source.name) earlier) is (list_any_none (is_source source.name) earlier none)
in_source earlier place decl breaks = absurd breaks

-- a start that copies what is not declared before it, where these come before the list
abbrev UnknownAfter : List Decl → List Decl → ℕ → Type 0
UnknownAfter earlier declared place =
    (before : List Decl) × (decl : Decl) × (after : List Decl)
    × (declared ≡ before ++ decl ∷ after)
    × IsUnknownSource (earlier ++ before) place decl

unknown_here : (earlier : List Decl) (decl : Decl) (more : List Decl) (fault : SourceFault) → Broken refusals.Unknown (λ at. IsUnknownSource earlier at decl) fault → Broken refusals.Unknown (UnknownAfter earlier (decl ∷ more)) fault
unknown_here earlier decl more fault found = record {
  at = found.at;
  is = found.is;
  breaks = ([], decl, more, refl, subst (λ (list : List Decl). IsUnknownSource list found.at decl) (sym (append-nil earlier)) found.breaks);
}

unknown_later : (earlier : List Decl) (decl : Decl) (more : List Decl) (fault : SourceFault) → Broken refusals.Unknown (UnknownAfter (earlier ++ decl ∷ []) more) fault → Broken refusals.Unknown (UnknownAfter earlier (decl ∷ more)) fault
unknown_later earlier decl more fault found =
    let before = found.breaks.0 in
    record {
      at = found.at;
      is = found.is;
      breaks = (decl ∷ before, found.breaks.1, found.breaks.2, ap (λ list. decl ∷ list) found.breaks.3, subst (λ (list : List Decl). IsUnknownSource list found.at found.breaks.1) (append_assoc earlier (decl ∷ []) before) found.breaks.4);
    }

from_sources_after : (earlier declared : List Decl) (fault : SourceFault) → Contains (faults_in_sources earlier declared) fault → Broken refusals.Unknown (UnknownAfter earlier declared) fault
from_sources_after earlier [] fault within = none_in fault within
from_sources_after earlier (decl ∷ more) fault within =
    elim (Contains-append_cases (source_faults earlier decl) (faults_in_sources (earlier ++ decl ∷ []) more) fault within) [
      | inl here ↦ unknown_here earlier decl more fault (from_source earlier decl fault here)
      | inr later ↦ unknown_later earlier decl more fault (from_sources_after (earlier ++ decl ∷ []) more fault later)
    ]

pub from_sources : (declared : List Decl) (fault : SourceFault) → Contains (faults_in_sources [] declared) fault → Broken refusals.Unknown (λ at. HasUnknownSource at declared) fault
from_sources declared fault within =
    let found = from_sources_after [] declared fault within in
    record { at = found.at; is = found.is; breaks = found.breaks }

sources-append : (earlier xs ys : List Decl) → faults_in_sources earlier (xs ++ ys) ≡ faults_in_sources earlier xs ++ faults_in_sources (earlier ++ xs) ys
sources-append earlier [] ys = rw append-nil refl
sources-append earlier (x ∷ xs) ys =
    let more = sources-append (earlier ++ x ∷ []) xs ys in
    let same : (earlier ++ x ∷ []) ++ xs ≡ earlier ++ x ∷ xs = append_assoc earlier (x ∷ []) xs in
    let rest = more ∙ ap (λ list. faults_in_sources (earlier ++ x ∷ []) xs ++ faults_in_sources list ys) same in
    ap (λ faults. source_faults earlier x ++ faults) rest ∙ sym (append_assoc (source_faults earlier x) (faults_in_sources (earlier ++ x ∷ []) xs) (faults_in_sources (earlier ++ x ∷ xs) ys))

pub in_sources : (declared : List Decl) (place : ℕ) → HasUnknownSource place declared → Contains (faults_in_sources [] declared) (fault_at refusals.Unknown place)
in_sources declared place (before, decl, after, split, breaks) =
    let fault = fault_at refusals.Unknown place in
    let here = Contains-append_left (source_faults before decl) (faults_in_sources (before ++ decl ∷ []) after) fault (in_source before place decl breaks) in
    let all = Contains-append_right (faults_in_sources [] before) (faults_in_sources before (decl ∷ after)) fault here in
    subst (λ (list : List SourceFault). Contains list fault) (sym (ap (faults_in_sources []) split ∙ sources-append [] before (decl ∷ after))) all

-- ---- own numbers that don't meet their conditions

-- what the three tests of a wrong start say
record WrongStart (value : Lit) (limit : LimitTree) : Type 0 where
  own : value.digits ≤ GREATEST_NUMBER
  bound : limit.bound.digits ≤ GREATEST_NUMBER
  fails : meets limit (literal_value value) ≡ false

three_tests : (one two three : Bool) → (one && (two && not three)) ≡ true → (one ≡ true) × (two ≡ true) × (three ≡ false)
three_tests true true false is = (refl, refl, refl)
three_tests true true true is = absurd (false≢true is)
three_tests true false three is = absurd (false≢true is)
three_tests false two three is = absurd (false≢true is)

at_most : (value bound : ℕ) → nat_le value bound ≡ true → value ≤ bound
at_most value bound test = grind (arith, nat_tests)

is_at_most : (value bound : ℕ) → value ≤ bound → nat_le value bound ≡ true
is_at_most value bound small = grind (arith, nat_tests)

wrong_from : (value : Lit) (limit : LimitTree) → is_wrong_start value limit ≡ true → WrongStart value limit
wrong_from value limit test =
    let tests = three_tests (nat_le value.digits GREATEST_NUMBER) (nat_le limit.bound.digits GREATEST_NUMBER) (meets limit (literal_value value)) test in
    record { own = at_most value.digits GREATEST_NUMBER tests.0; bound = at_most limit.bound.digits GREATEST_NUMBER tests.1; fails = tests.2 }

wrong_to : (value : Lit) (limit : LimitTree) → value.digits ≤ GREATEST_NUMBER → limit.bound.digits ≤ GREATEST_NUMBER → meets limit (literal_value value) ≡ false → is_wrong_start value limit ≡ true
wrong_to value limit own bound fails = rw (is_at_most value.digits GREATEST_NUMBER own, is_at_most limit.bound.digits GREATEST_NUMBER bound, fails) refl

from_start : (decl : Decl) (fault : SourceFault) → Contains (start_faults decl) fault → Broken refusals.WrongStart (λ at. IsWrongStart at decl) fault
from_start (decls.Param at name value limit) fault within =
    let found = where_in refusals.WrongStart value.at fault (is_wrong_start value limit) within in
    let wrong = wrong_from value limit found.0 in
    record { at = value.at; is = found.1; breaks = (refl, wrong.own, wrong.bound, wrong.fails) }
from_start decl fault within = none_in fault within

in_start : (place : ℕ) (decl : Decl) → IsWrongStart place decl → Contains (start_faults decl) (fault_at refusals.WrongStart place)
in_start place (decls.Param at name value limit) (is, own, bound, fails) =
    in_where refusals.WrongStart value.at place (is_wrong_start value limit) is (wrong_to value limit own bound fails)
in_start place decl breaks = absurd breaks

pub from_wrong_starts : (declared : List Decl) (fault : SourceFault) → Contains (flat_map start_faults declared) fault → Broken refusals.WrongStart (λ at. HasWrongStart at declared) fault
from_wrong_starts declared fault within =
    let source = from_flat_map start_faults declared fault within in
    let one = from_start source.from fault source.within in
    record { at = one.at; is = one.is; breaks = (source.from, source.one, one.breaks) }

pub in_wrong_starts : (declared : List Decl) (place : ℕ) → HasWrongStart place declared → Contains (flat_map start_faults declared) (fault_at refusals.WrongStart place)
in_wrong_starts declared place (decl, one, breaks) = in_flat_map start_faults declared decl (fault_at refusals.WrongStart place) one (in_start place decl breaks)

-- ---- the code

-- one more declaration of those whose sources are looked up
pub sources_more : (xs : List Decl) (i : ℕ) (x : Decl) (before this : Option SourceFault) → i < length xs → x ≡ get_or xs i x → before ≡ least (faults_in_sources [] (take i xs)) → this ≡ least (source_faults (take i xs) x) → earlier_of before this ≡ least (faults_in_sources [] (take (i + 1) xs))
sources_more xs i x before this lt is past here =
    let one : this ≡ least (faults_in_sources (take i xs) (x ∷ [])) = here ∙ ap least (sym (append-nil (source_faults (take i xs) x))) in
    rw (take_more xs i x lt, ← is, sources-append) (least_both order before this (faults_in_sources [] (take i xs)) (faults_in_sources (take i xs) (x ∷ [])) past one)

pub sources_all : (xs : List Decl) (i : ℕ) (found : Option SourceFault) → length xs ≤ i → found ≡ least (faults_in_sources [] (take i xs)) → found ≡ least (faults_in_sources [] xs)
sources_all xs i found past is = is ∙ ap (λ list. least (faults_in_sources [] list)) (take_all i xs past)
