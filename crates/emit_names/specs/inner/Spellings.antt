-- What is still to be written of a name.
use Rattle.std.specs.Prelude.{ℕ, List, ◌++◌, if◌then◌else◌}
use Rattle.emit_names.specs.declared.spelling.Spelling.{Spelling}
use Rattle.emit_names.specs.Letters.{begins_word, spelled}

-- its bytes after one, and its ending
abbrev pub name_text : Spelling → List ℕ
name_text it = spelled it.style it.before it.name.now ++ it.ending.now

-- the word before it, and the name
abbrev pub spelling_text : Spelling → List ℕ
spelling_text it = it.word.now ++ name_text it

-- what comes after the first byte of a name, where it is this one and more
abbrev pub after_byte : Spelling → ℕ → List ℕ → List ℕ
after_byte it b more =
    if begins_word it.style it.before b then spelled it.style 0 it.name.now
    else spelled it.style b more
