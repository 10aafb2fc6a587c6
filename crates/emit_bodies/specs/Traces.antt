-- What may happen on the paths of a body: where it may fail, where it works on a copy, and where it
-- shortens a number.
use Rattle.std.specs.Prelude.{Bool, false, ◌&&◌, ◌||◌, List, [], ◌∷◌, map}
use Rattle.std.specs.List.{list_any}
use Rattle.lang_tree.specs.declared.tree.StmtTree.{StmtTree}
use Rattle.lang_tree.specs.declared.tree.StmtTree.TheOpen.{StmtTree-F, Set, If, Return}
use Rattle.lang_tree.specs.declared.tree.StmtTree.TheFolds.{fold-StmtTree}
use Rattle.emit_expressions.specs.Scopes.{ScopeParts, declares}
use Rattle.lang_tree.specs.declared.tree.Expr.{Expr}
use Rattle.emit_expressions.specs.Values.{is_shortened, is_tested}
use Rattle.emit_bodies.specs.declared.traces.Trace.{Trace}

abbrev pub nothing : Trace
nothing = record { writes = false; fails = false; copies = false; shortens = false }

-- the one, and then the other
abbrev pub and_then : Trace → Trace → Trace
and_then one next = record {
  writes = one.writes || next.writes;
  fails = one.fails || next.fails;
  copies = one.copies || (next.copies || (one.writes && next.fails));
  shortens = one.shortens || next.shortens;
}

-- the one or the other
abbrev pub or_else : Trace → Trace → Trace
or_else one other = record {
  writes = one.writes || other.writes;
  fails = one.fails || other.fails;
  copies = one.copies || other.copies;
  shortens = one.shortens || other.shortens;
}

-- one after the other, after what happened before
abbrev pub in_turn : Trace → List Trace → Trace
in_turn before [] = before
in_turn before (next ∷ rest) = in_turn (and_then before next) rest

-- of a statement with a value
abbrev pub value_trace : ScopeParts → Bool → Expr → Trace
value_trace scope writes value = record {
  writes = writes;
  fails = is_tested scope value;
  copies = false;
  shortens = is_shortened scope value;
}

-- A field is assigned where the monitor declares the name. Any other name is that of a local, which
-- is the call's own.
abbrev pub trace_step : ScopeParts → StmtTree-F Trace → Trace
trace_step scope (Set at name value) =
    value_trace scope (list_any (declares name) scope.tree.decls) value
trace_step scope (If at when body other) = or_else (in_turn nothing body) (in_turn nothing other)
trace_step scope (Return at value) = value_trace scope false value

abbrev pub statement_trace : ScopeParts → StmtTree → Trace
statement_trace scope = fold-StmtTree Trace (trace_step scope)

abbrev pub body_trace : ScopeParts → List StmtTree → Trace
body_trace scope statements = in_turn nothing (map (statement_trace scope) statements)
