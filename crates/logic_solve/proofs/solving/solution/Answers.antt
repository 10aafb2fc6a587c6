use Rattle.std.proofs.Common.{refl}
use Rattle.logic_solve.proofs.MarkLemmas.{no_facts}
use Rattle.logic_solve.proofs.SolutionLemmas.{cube_clear, cube_few, cube_general, cube_solved, refuted_unsolved}
use Rattle.logic_solve.proofs.solving.solution.Goals as goal

pub search-requires-clause-facts : goal.search-requires-clause-facts
search-requires-clause-facts c = no_facts c.new-literals.result.items c.new-facts.result c.new-literals.ensures.items c.new-facts.ensures.literals c.new-facts.ensures.numbers c.new-facts.ensures.looked

pub returns-in-Some : goal.returns-in-Some
returns-in-Some c =
    refuted_unsolved c.args.formula.now _ c.new-literals.result.items c.search.new.literals.items c.in-Some._cert refl c.new-literals.ensures.items (rw c.in-Some.is at c.in_ok-_cert.ensures.found)

pub solved-requires-clause-size : goal.solved-requires-clause-size
solved-requires-clause-size c =
    cube_few c.args.formula.now _ c.new-literals.result.items c.search.new.literals.items c.as_slice-cube.result.now refl c.new-literals.ensures.items c.as_slice-cube.ensures.value (rw c.in_default.is at c.in_ok-_cert.ensures.found) c.requires

pub solved-requires-clause-clear : goal.solved-requires-clause-clear
solved-requires-clause-clear c =
    cube_clear c.args.formula.now _ c.new-literals.result.items c.search.new.literals.items c.as_slice-cube.result.now refl c.as_slice-cube.ensures.value (rw c.in_default.is at c.in_ok-_cert.ensures.found)

pub returns : goal.returns
returns c =
    cube_solved c.args.formula.now _ c.new-literals.result.items c.search.new.literals.items c.as_slice-cube.result.now c.in_ok-solved.field-0 refl c.new-literals.ensures.items c.as_slice-cube.ensures.value (rw c.in_default.is at c.in_ok-_cert.ensures.found) c.in_ok-solved.ensures

pub general_solution-requires : goal.general_solution-requires
general_solution-requires c =
    cube_few c.args.formula.now _ c.new-literals.result.items c.search.new.literals.items c.as_slice-cube.result.now refl c.new-literals.ensures.items c.as_slice-cube.ensures.value (rw c.in_default.is at c.in_ok-_cert.ensures.found) c.requires

pub returns-then-has_general_row : goal.returns-then-has_general_row
returns-then-has_general_row c =
    cube_general c.args.formula.now _ c.new-literals.result.items c.search.new.literals.items c.as_slice-cube.result.now c.has_general_row.result c.in_ok-general_solution.field-0 refl c.new-literals.ensures.items c.as_slice-cube.ensures.value (rw c.in_default.is at c.in_ok-_cert.ensures.found)
    c.has_general_row.ensures c.if-has_general_row.true c.in_ok-general_solution.ensures
