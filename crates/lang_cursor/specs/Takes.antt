-- What a reader that moves a cursor took off the front of the words, and what it left.
use Rattle.std.specs.Prelude.{◌≡◌, List, Result, Ok, Err}
use Rattle.lang_cursor.specs.declared.fault.Stop.{Stop}
use Rattle.lang_tokens.specs.Words.{Word}
use Rattle.lang_cursor.specs.Reading.{Read, Fails}

-- It answers what is read here, and leaves these words, unless memory ran out.
abbrev pub Takes : {A : Type 0} → Result A Stop → List Word → Read A → Type 0
Takes (Ok x) left read = read ≡ Ok (x, left)
Takes (Err stop) left read = Fails stop read
