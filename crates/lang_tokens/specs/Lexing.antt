-- What the lexer answers.
use Rattle.std.specs.Prelude.{◌≡◌, ℕ, List, Result, Ok, Err}
use Rattle.std.specs.Global.{Vec}
use Rattle.lang_base.specs.declared.source_fault.Refusal.{Refusal}
use Rattle.lang_base.specs.declared.source_fault.SourceError.{SourceError}
use Rattle.lang_base.specs.declared.source_fault.SourceError.TheVariants.{Fault, OutOfMemory}
use Rattle.lang_tokens.specs.declared.token.Token.{Token}

-- a fault of this rule at an offset of which the fact holds, unless memory ran out
abbrev pub IsAt : Refusal → (ℕ → Type 0) → SourceError → Type 0
IsAt rule IsPlace (Fault fault) = (fault.what ≡ rule) × IsPlace fault.at
IsAt rule IsPlace OutOfMemory = Unit {0}

-- a read of these very tokens, unless memory ran out
abbrev pub Reads : Result (Vec Token) SourceError → List Token → Type 0
Reads (Ok v) ts = v.items ≡ ts
Reads (Err (Fault fault)) ts = ⊥
Reads (Err OutOfMemory) ts = Unit {0}
