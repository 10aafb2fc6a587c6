-- The kinds at a block's places, of its parts.
use Rattle.std.specs.Prelude.{List, map}
use Rattle.lang_monitor.specs.declared.monitor.Field.{Field}
use Rattle.lang_monitor.specs.declared.monitor.Method.{Method}
use Rattle.lang_monitor.specs.MonitorParts.{Places, kind_of, kinds_of}

-- the kinds of the fields, and of the inputs and locals of the method
abbrev pub places_in : List Field → Method → Places
places_in fields method = record {
  fields = kinds_of fields;
  inputs = method.inputs;
  locals = map kind_of method.locals;
}
