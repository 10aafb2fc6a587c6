-- Where so many words are left, so many tokens are: the fault's place among the tokens.
use Rattle.std.proofs.Common.{◌≡◌, ℕ, ◌-◌, List, [], ◌∷◌, ◌++◌, length, drop, refl, sym, ap, subst, ◌∙◌, arith, length-append}
use Rattle.std.proofs.lemmas.List.{length-map, map-append}
use Rattle.std.proofs.Math.Seq.{drop-append_seam}
use Rattle.lang_tokens.specs.declared.token.Token.{Token}
use Rattle.lang_tokens.specs.Words.{Word, word, words}
use Rattle.lang_syntax.specs.Grammar.{Rule}
use Rattle.lang_syntax.specs.Fault.{IsUnfit, IsFaultAt}
use Rattle.lang_cursor.specs.Reading.{first_offset}
use Rattle.lang_syntax.proofs.Readers.{IsFault}

-- the tokens whose words are the ones before a place, and those after it
record Cut (bytes : List ℕ) (tokens : List Token) (front rest : List Word) : Type 0 where
  before : List Token
  after : List Token
  parts : tokens ≡ before ++ after
  is_front : words bytes before ≡ front
  is_rest : words bytes after ≡ rest

head_is : (v w : Word) (vs ws : List Word) → v ∷ vs ≡ w ∷ ws → v ≡ w
head_is v w vs ws e = cc

tail_is : (v w : Word) (vs ws : List Word) → v ∷ vs ≡ w ∷ ws → vs ≡ ws
tail_is v w vs ws e = cc

cut : (bytes : List ℕ) (tokens : List Token) (front rest : List Word) → words bytes tokens ≡ front ++ rest → Cut bytes tokens front rest
cut bytes tokens [] rest e = record { before = []; after = tokens; parts = refl; is_front = refl; is_rest = e }
cut bytes [] (w ∷ front) rest e = absurd cc
cut bytes (t ∷ tokens) (w ∷ front) rest e =
    let c = cut bytes tokens front rest (tail_is (word bytes t) w (words bytes tokens) (front ++ rest) e) in
    let first = head_is (word bytes t) w (words bytes tokens) (front ++ rest) e in
    record {
      before = t ∷ c.before;
      after = c.after;
      parts = ap (λ (ts : List Token). t ∷ ts) c.parts;
      is_front = ap (λ (v : Word). v ∷ words bytes c.before) first ∙ ap (λ (vs : List Word). w ∷ vs) c.is_front;
      is_rest = c.is_rest;
    }

left_after : (tokens before after : List Token) (left : ℕ) → tokens ≡ before ++ after → length after ≡ left → drop (length tokens - left) tokens ≡ after
left_after tokens before after left parts len =
    let count : length tokens - left ≡ length before = omega (arith, ap length parts, length-append before after) in
    ap (λ (n : ℕ). drop n tokens) count ∙ ap (drop (length before)) parts ∙ drop-append_seam before after

pub file_fault : {Tree : Type 0} (IsTree : Rule Tree) (bytes : List ℕ) (tokens : List Token) (left : ℕ) → IsFault IsTree (words bytes tokens) left
    → IsFaultAt IsTree bytes tokens (first_offset bytes (drop (length tokens - left) tokens))
file_fault {Tree} IsTree bytes tokens left fault = record {
  front = c.before;
  rest = c.after;
  parts = c.parts;
  begins = (fault.begins.0, fault.begins.1, subst (λ (front : List Word). IsTree fault.begins.0 (front ++ fault.begins.1)) (sym c.is_front) fault.begins.2);
  unfit = subst (λ (ts : List Token). IsUnfit IsTree bytes c.before c.after (first_offset bytes ts)) (sym (left_after tokens c.before c.after left c.parts len)) (unfit c.after refl);
}
  where
    c : Cut bytes tokens fault.front fault.rest
    c = cut bytes tokens fault.front fault.rest fault.parts

    len : length c.after ≡ left
    len = sym (length-map c.after (word bytes)) ∙ ap length c.is_rest ∙ fault.len

    unfit : (after : List Token) → c.after ≡ after → IsUnfit IsTree bytes c.before after (first_offset bytes after)
    unfit [] is = refl
    unfit (token ∷ more) is = (
      refl,
      λ begins.
          let rest : fault.rest ≡ word bytes token ∷ words bytes more = sym c.is_rest ∙ ap (words bytes) is in
          let with_token : words bytes (c.before ++ token ∷ []) ≡ fault.front ++ word bytes token ∷ [] = map-append (word bytes) c.before (token ∷ []) ∙ ap (λ (front : List Word). front ++ word bytes token ∷ []) c.is_front in
          fault.none (word bytes token) (words bytes more) rest begins.0 begins.1 (subst (λ (front : List Word). IsTree begins.0 (front ++ begins.1)) with_token begins.2),
    )
