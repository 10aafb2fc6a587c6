-- One line after the other is cut off a text.
use Rattle.std.proofs.Common.{◌≡◌, ℕ, ◌+◌, ◌<◌, ◌≤◌, ◌==◌, nat_le, Bool, true, false, cond, List, [], ◌∷◌, ◌++◌, ◌∙◌, take, drop, length, get_or, refl, ap, sym, subst, arith}
use Rattle.std.specs.List.{All, prefix_len}
use Rattle.std.proofs.Math.Seq.{drop-drop}
use Rattle.std.proofs.lemmas.Bool.{le-leb, leb-false, leb-true, lt-leb, not-false, not-true}
use Rattle.std.proofs.lemmas.List.{drop_more, get_or-drop, get_or-take, length-drop, length-take, take-append-drop, take_all}
use Rattle.std.proofs.lemmas.List.Splits.{slice_split_at, slice_split_none}
use Rattle.std.proofs.lemmas.List.Sums.{prefix_len_passes, prefix_len_stops}
use Rattle.emit_comments.specs.Comments.{lines_of}
use Rattle.emit_comments.specs.inner.Cuts.{cut_line, is_in_line, line_at, lines_at}

in_front : (rest : List ℕ) → All (λ b. (b == 10) ≡ false) (cut_line rest)
in_front rest = λ k d less.
    let first : k < prefix_len is_in_line rest = omega (arith, less, length-take (prefix_len is_in_line rest) rest) in
    subst (λ b. (b == 10) ≡ false) (sym (get_or-take (prefix_len is_in_line rest) rest k d first))
    (not-true (get_or rest k d == 10) (prefix_len_passes is_in_line rest k d first))

cut_on : (rest : List ℕ) → prefix_len is_in_line rest < length rest → lines_of rest ≡ cut_line rest ∷ lines_of (drop (prefix_len is_in_line rest + 1) rest)
cut_on rest more =
    let n = prefix_len is_in_line rest in
    let parts : rest ≡ take n rest ++ get_or rest n 0 ∷ drop (n + 1) rest = sym (take-append-drop n rest) ∙ ap (λ tail. take n rest ++ tail) (drop_more rest n 0 more) in
    let hit : (get_or rest n 0 == 10) ≡ true = not-false (get_or rest n 0 == 10) (prefix_len_stops is_in_line rest 0 more) in
    ap lines_of parts ∙ slice_split_at (λ b. b == 10) (take n rest) (get_or rest n 0) (drop (n + 1) rest) (in_front rest) hit

cut_off : (rest : List ℕ) → length rest ≤ prefix_len is_in_line rest → lines_of rest ≡ cut_line rest ∷ []
cut_off rest all =
    let same : cut_line rest ≡ rest = take_all (prefix_len is_in_line rest) rest all in
    slice_split_none (λ b. b == 10) rest (subst (All (λ b. (b == 10) ≡ false)) same (in_front rest)) ∙ ap (λ line. line ∷ []) (sym same)

within : (text : List ℕ) (at : ℕ) → at ≤ length text → lines_at text at ≡ lines_of (drop at text)
within text at less = ap (λ (b : Bool). cond b (lines_of (drop at text)) []) (le-leb at (length text) less)

pub past : (text : List ℕ) (at : ℕ) → length text < at → lines_at text at ≡ []
past text at over = ap (λ (b : Bool). cond b (lines_of (drop at text)) []) (lt-leb at (length text) over)

long : (text : List ℕ) (at : ℕ) → at ≤ length text → at + (length (line_at text at) + 1) ≤ length text + 1
long text at less =
    omega (arith, less, length-take (prefix_len is_in_line (drop at text)) (drop at text), length-drop at text)

next_by : (text : List ℕ) (at : ℕ) (ends : Bool) → ends ≡ nat_le (length (drop at text)) (prefix_len is_in_line (drop at text)) → at ≤ length text
    → lines_at text at ≡ line_at text at ∷ lines_at text (at + (length (line_at text at) + 1))
next_by text at true is less =
    let n = prefix_len is_in_line (drop at text) in
    let all : length (drop at text) ≤ n = leb-true (length (drop at text)) n (sym is) in
    let over : length text < at + (length (line_at text at) + 1) = omega (arith, less, all, length-take n (drop at text), length-drop at text) in
    within text at less ∙ cut_off (drop at text) all ∙ ap (λ rest. line_at text at ∷ rest) (sym (past text (at + (length (line_at text at) + 1)) over))
next_by text at false is less =
    let n = prefix_len is_in_line (drop at text) in
    let more : n < length (drop at text) = leb-false (length (drop at text)) n (sym is) in
    let next : at + (n + 1) ≡ at + (length (line_at text at) + 1) = omega (arith, more, length-take n (drop at text)) in
    let still : at + (length (line_at text at) + 1) ≤ length text = omega (arith, less, more, length-take n (drop at text), length-drop at text) in
    within text at less ∙ cut_on (drop at text) more
    ∙ ap (λ rest. line_at text at ∷ rest) (ap lines_of (drop-drop (n + 1) at text ∙ ap (λ k. drop k text) next) ∙ sym (within text (at + (length (line_at text at) + 1)) still))

next_line : (text : List ℕ) (at : ℕ) → at ≤ length text → lines_at text at ≡ line_at text at ∷ lines_at text (at + (length (line_at text at) + 1))
next_line text at less = next_by text at _ refl less

-- ---- the line of a number begins at this offset

pub begins : (text : List ℕ) → lines_at text 0 ≡ lines_of text
begins text = within text 0 (omega arith) ∙ ap lines_of (drop_none text) where
  drop_none : {X : Type 0} (xs : List X) → drop 0 xs ≡ xs
  drop_none [] = refl
  drop_none (x ∷ xs) = refl

module _ (text : List ℕ) (at number : ℕ) (line : List ℕ) (less : at ≤ length text) (same : line ≡ line_at text at) (is : lines_at text at ≡ drop number (lines_of text)) where
  shown : line ∷ lines_at text (at + (length line + 1)) ≡ drop number (lines_of text)
  shown = ap (λ one. one ∷ lines_at text (at + (length one + 1))) same ∙ sym (next_line text at less) ∙ is

  pub is_near : at + (length line + 1) ≤ length text + 1
  is_near = omega (arith, ap length same, long text at less)

  pub is_line : number < length (lines_of text)
  is_line = omega (arith, ap length shown, length-drop number (lines_of text))

  pub that_line : line ≡ get_or (lines_of text) number line
  that_line = ap (λ xs. get_or xs 0 line) shown ∙ get_or-drop number (lines_of text) 0 line ∙ ap (λ n. get_or (lines_of text) n line) (plain number) where
    plain : (n : ℕ) → n + 0 ≡ n
    plain n = omega arith

  pub next_begins : lines_at text (at + (length line + 1)) ≡ drop (number + 1) (lines_of text)
  next_begins = ap (drop 1) (shown ∙ drop_more (lines_of text) number line is_line)

pub are_over : (text : List ℕ) (at number : ℕ) → length text < at → lines_at text at ≡ drop number (lines_of text) → length (lines_of text) ≤ number
are_over text at number over is = omega (arith, ap length (sym (past text at over) ∙ is), length-drop number (lines_of text))
