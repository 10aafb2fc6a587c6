-- What a parser answers, from what the words give.
use Rattle.std.proofs.Common.{◌≡◌, ℕ, ◌-◌, List, length, drop, Result, Ok, Err, refl, sym, subst, ◌∙◌}
use Rattle.lang_tokens.specs.declared.token.Token.{Token}
use Rattle.lang_cursor.specs.declared.fault.Stop.{Stop}
use Rattle.lang_cursor.specs.declared.fault.Stop.TheVariants as stops
use Rattle.lang_base.specs.declared.source_fault.SourceError.{SourceError}
use Rattle.lang_tokens.specs.Spelling.{Spells}
use Rattle.lang_syntax.specs.Grammar.{Rule}
use Rattle.lang_syntax.specs.Fault.{IsFault, IsFaultAt, Parses}
use Rattle.lang_cursor.specs.Reading.{Fails, IsFaultOf, AreTokens, first_offset}
use Rattle.lang_syntax.proofs.Readers.{ok_is}
use Rattle.lang_tokens.proofs.Numerals.{tokens_are}

pub are_tokens : (bytes : List ℕ) (tokens : List Token) → Spells bytes tokens → AreTokens bytes tokens
unfolding AreTokens
are_tokens bytes tokens spelled = tokens_are bytes tokens spelled

-- the tree that was read is any that is derived
pub ok_parses : {Tree : Type 0} (read : Result Tree ℕ) (t tree : Tree) → read ≡ Ok t → read ≡ Ok tree → t ≡ tree
ok_parses read t tree given again = ok_is t tree (sym given ∙ again)

-- where a tree is derived only memory can fail
pub err_parses : {Tree : Type 0} (bytes : List ℕ) (tokens : List Token) (read : Result Tree ℕ) (stop : Stop) (error : SourceError) (tree : Tree)
    → Fails stop read → IsFaultOf bytes tokens stop error → read ≡ Ok tree → Parses (Err error) tree
err_parses bytes tokens read (stops.Before left) error tree given is again = absurd cc
err_parses bytes tokens read stops.OutOfMemory error tree given is again = subst (λ (e : SourceError). Parses (Err e) tree) (sym is) tt

-- a fault stands where reading stopped
pub err_place : {Tree : Type 0} (IsTree : Rule Tree) (bytes : List ℕ) (tokens : List Token) (read : Result Tree ℕ) (stop : Stop) (error : SourceError)
    → Fails stop read → IsFaultOf bytes tokens stop error
    → ((left : ℕ) → read ≡ Err left → IsFaultAt IsTree bytes tokens (first_offset bytes (drop (length tokens - left) tokens)))
    → IsFault IsTree bytes tokens error
err_place IsTree bytes tokens read (stops.Before left) error given is at = subst (λ (e : SourceError). IsFault IsTree bytes tokens e) (sym is) (refl, at left given)
err_place IsTree bytes tokens read stops.OutOfMemory error given is at = subst (λ (e : SourceError). IsFault IsTree bytes tokens e) (sym is) tt
