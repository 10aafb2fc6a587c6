-- The ways of writing bytes one by one.
use Rattle.std.specs.Prelude.{ℕ, List, map}
use Rattle.std.specs.List.{flat_map}
use Rattle.front_hint.specs.declared.parts.Part.{Part}
use Rattle.front_hint.specs.declared.parts.Way.{Way}
use Rattle.front_hint.specs.declared.parts.Way.TheVariants.{Plain, Shown, Blank, Said}
use Rattle.front_hint.specs.Shown.{shown_byte, said_byte}

-- what stands for a byte
abbrev pub written_byte : Way → ℕ → ℕ
written_byte Plain byte = byte
written_byte Shown byte = shown_byte byte
written_byte Blank byte = 32
written_byte Said byte = said_byte byte

-- what is written of a part
abbrev pub part_text : Part → List ℕ
part_text part = map (written_byte part.way) part.bytes.now

-- what is written of parts, one after the other
abbrev pub parts_text : List Part → List ℕ
parts_text parts = flat_map part_text parts
