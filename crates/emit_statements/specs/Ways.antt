-- How the calls of a method wait for its first guard.
use Rattle.std.specs.Prelude.{Bool, true, false}
use Rattle.emit_statements.specs.declared.ways.Way.{Way}
use Rattle.emit_statements.specs.declared.ways.Way.TheVariants as ways

-- they do not, and are refused where it is false
abbrev pub tries : Way → Bool
tries ways.Waits = false
tries ways.Asserts = true
tries ways.Tries = true
tries ways.Until = false
tries ways.For = false

-- in a loop that ends where their time is over
abbrev pub ends : Way → Bool
ends ways.Waits = false
ends ways.Asserts = false
ends ways.Tries = false
ends ways.Until = true
ends ways.For = false

-- they may be refused, at once or when their time is over
abbrev pub may_refuse : Way → Bool
may_refuse ways.Waits = false
may_refuse ways.Asserts = true
may_refuse ways.Tries = true
may_refuse ways.Until = true
may_refuse ways.For = true

-- no other calls of the method wait: it asserts that guard
abbrev pub asserts : Way → Bool
asserts ways.Waits = false
asserts ways.Asserts = true
asserts ways.Tries = false
asserts ways.Until = false
asserts ways.For = false
