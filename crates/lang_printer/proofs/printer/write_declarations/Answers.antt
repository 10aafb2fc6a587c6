use Rattle.std.proofs.Common.{◌++◌, refl}
use Rattle.lang_printer.specs.Canonical.{declared_text}
use Rattle.base_io.proofs.Rows.{row_went, row_stopped}
use Rattle.lang_printer.proofs.printer.write_declarations.Goals as goal

pub loop-declaration-preserved : goal.loop-declaration-preserved
loop-declaration-preserved g c =
    row_went (λ declaration. c.args.lead.now ++ declared_text declaration) c.args.declarations.now c.loop-declaration.declaration-index c.declaration-item.result _ c.loop-declaration-test.true c.declaration-item.is refl c.loop-declaration.invariant c.in_ok-write_declaration.ensures

pub returns-in_err-write_declaration : goal.returns-in_err-write_declaration
returns-in_err-write_declaration g c =
    row_stopped (λ declaration. c.args.lead.now ++ declared_text declaration) c.args.declarations.now c.loop-declaration.declaration-index c.declaration-item.result _ _ c.loop-declaration-test.true c.declaration-item.is refl c.from_residual.ensures.0 c.loop-declaration.invariant c.in_err-write_declaration.ensures
