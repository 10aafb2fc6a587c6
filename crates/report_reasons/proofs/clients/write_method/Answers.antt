use Rattle.std.proofs.Common.{[], Option, ap, slice_get, sym}
use Rattle.std.specs.Option.{option_map_or}
use Rattle.lang_monitor.specs.declared.monitor.Method.{Method}
use Rattle.base_io.proofs.Writing.{wrote_same}
use Rattle.logic_solve.specs.Solutions.{valuation_of}
use Rattle.report_reasons.specs.ReasonText.{call_text}
use Rattle.report_reasons.proofs.clients.write_method.Goals as goal

pub write_call-requires-clause-inputs : goal.write_call-requires-clause-inputs
write_call-requires-clause-inputs g c = (c.blocks-blocks.ensures.rule.methods c.args.number c.in-Some.method.now (sym c.in-Some.ensures)).few_inputs

pub write_call-requires-clause-locals : goal.write_call-requires-clause-locals
write_call-requires-clause-locals g c = (c.blocks-blocks.ensures.rule.methods c.args.number c.in-Some.method.now (sym c.in-Some.ensures)).few_locals

pub returns-in-Some : goal.returns-in-Some
returns-in-Some g c = wrote_same _ (ap (λ (held : Option Method). option_map_or (call_text (valuation_of c.args.at.now) c.args.further (slice_get c.args.tree.now.methods c.args.number)) held []) c.in-Some.ensures) c.write_call.ensures

pub returns-in-None : goal.returns-in-None
returns-in-None g c = wrote_same _ (ap (λ (held : Option Method). option_map_or (call_text (valuation_of c.args.at.now) c.args.further (slice_get c.args.tree.now.methods c.args.number)) held []) c.in-None.ensures) c.write_piece.ensures
