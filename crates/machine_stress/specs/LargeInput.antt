-- The large input that a number names: a buffer, with clients that put and clients that get.
use Rattle.std.specs.Prelude.{ℕ, ◌+◌, ◌*◌, ◌%◌, ℤ, pos, neg_ℤ, ◌-ℤ◌, false, List, [], ◌∷◌, ◌++◌}
use Rattle.std.specs.Prelude.{map, replicate, codes, decimal}
use Rattle.std.specs.List.{range_with_len}
use Rattle.lang_base.specs.declared.kind.Kind.TheVariants as kinds
use Rattle.lang_base.specs.declared.value.Value.TheVariants as values
use Rattle.logic_linear.specs.Linear.{Linear}
use Rattle.logic_linear.specs.declared.formula.Formula.{Formula}
use Rattle.logic_linear.specs.declared.formula.Formula.TheVariants as formulas
use Rattle.logic_linear.specs.declared.substitution.Put.TheVariants as puts
use Rattle.lang_monitor.specs.declared.monitor.Field.{Field}
use Rattle.lang_monitor.specs.declared.monitor.Method.{Method}
use Rattle.lang_monitor.specs.declared.start.Origin.TheVariants as origins
use Rattle.lang_monitor.specs.declared.monitor.Stmt.TheVariants as statements
use Rattle.lang_monitor.specs.declared.monitor.Ret.TheVariants as results
use Rattle.lang_monitor.specs.declared.monitor.Block.{Block}
use Rattle.lang_monitor.specs.declared.monitor.Condition.{Condition}
use Rattle.lang_monitor.specs.Candidates.{once, opposite}
use Rattle.lang_monitor.specs.MonitorParts.{MonitorParts}
use Rattle.machine_implicit.specs.declared.script.Call.{Call}
use Rattle.machine_implicit.specs.declared.script.Client.{Client}

-- ---- how large it is

-- clients that put
abbrev pub PRODUCERS : ℕ
PRODUCERS = 16

-- clients that get
abbrev pub CONSUMERS : ℕ
CONSUMERS = 16

-- calls of each client
abbrev pub CALLS_EACH : ℕ
CALLS_EACH = 512

-- calls of all clients
abbrev pub ALL_CALLS : ℕ
ALL_CALLS = (PRODUCERS + CONSUMERS) * CALLS_EACH

-- a buffer has room for 1 to so many
abbrev pub MOST_ROOM : ℕ
MOST_ROOM = 7

-- ---- the buffer
--
--   monitor Buffer {
--     const CAP = 4;
--     int count = 0;
--     method put() waituntil (count < CAP) {
--       count = count + 1;
--     }
--     method get() waituntil (count > 0) {
--       count = count - 1;
--     }
--   }

-- the room of the buffer
abbrev pub capacity_of : ℕ → ℕ
capacity_of number = 1 + number % MOST_ROOM

-- the one field, `count`, has place 0: these are `count` and a constant, and the constant less
-- `count`
abbrev pub count_and : ℤ → Linear
count_and constant = record { terms = once 0 ∷ []; constant = constant }

abbrev pub less_count : ℤ → Linear
less_count constant = record { terms = opposite 0 ∷ []; constant = constant }

-- `count < CAP`, as the row `count + 1 - CAP <= 0`, and as it is shown
abbrev pub has_room : ℕ → Formula
has_room capacity = formulas.Row (count_and (pos 1 -ℤ pos capacity))

abbrev pub room_shown : List ℕ
room_shown = codes "count < CAP"

-- `count > 0`, as the row `1 - count <= 0`, and as it is shown
abbrev pub has_some : Formula
has_some = formulas.Row (less_count (pos 1))

abbrev pub some_shown : List ℕ
some_shown = codes "count > 0"

abbrev pub count_field : Field
count_field = record {
  name = codes "count";
  kind = kinds.Int;
  start = values.Int (pos 0);
  origin = origins.Own;
}

-- a method of no inputs and no locals, and its block, which waits on the condition of its guard
abbrev pub plain_method : List ℕ → ℕ → Method
plain_method name number = record {
  name = name;
  inputs = [];
  locals = [];
  asserts = false;
  first = number;
  count = 1;
}

abbrev pub counting_block : ℕ → Formula → Linear → Block
counting_block number guard form = record {
  method = number;
  guard = guard;
  body = statements.Put (puts.Number 0 form) ∷ [];
  result = results.Nothing;
  condition = number + 1;
}

abbrev pub shown_condition : Formula → List ℕ → Condition
shown_condition guard shown = record { guard = guard; reads_inputs = false; shown = shown }

-- what is checked of the text above, with this number for CAP
abbrev pub buffer_of : ℕ → MonitorParts
buffer_of capacity = record {
  name = codes "Buffer";
  fields = count_field ∷ [];
  methods = plain_method (codes "put") 0 ∷ plain_method (codes "get") 1 ∷ [];
  blocks =
      counting_block 0 (has_room capacity) (count_and (pos 1)) ∷ counting_block 1 has_some
      (count_and (neg_ℤ (pos 1))) ∷ [];
  conditions =
      shown_condition (has_room capacity) room_shown ∷ shown_condition has_some some_shown ∷ [];
}

-- ---- the clients: those that put, each `client P.. { repeat 512 { put(); } }` with its number
-- from 1 on, and then those that get, `client G.. { repeat 512 { get(); } }`

-- a call of a method of no inputs, which does not try
abbrev pub plain_call : ℕ → Call
plain_call method = record { method = method; inputs = []; tries = false }

-- a letter and a number for its name, and so many calls of the method
abbrev pub caller : List ℕ → ℕ → ℕ → ℕ → Client
caller letter method calls number =
    record { name = letter ++ decimal number; calls = replicate calls (plain_call method) }

-- so many of them, numbered from 1
abbrev pub callers : List ℕ → ℕ → ℕ → ℕ → List Client
callers letter method calls count = map (caller letter method calls) (range_with_len 1 count)

-- those that put, and then those that get
unfoldable pub clients_of : ℕ → ℕ → ℕ → List Client
clients_of producers consumers calls =
    callers (codes "P") 0 calls producers ++ callers (codes "G") 1 calls consumers

abbrev pub producers_and_consumers : List Client
producers_and_consumers = clients_of PRODUCERS CONSUMERS CALLS_EACH
