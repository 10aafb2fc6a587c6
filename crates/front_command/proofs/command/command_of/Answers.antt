use Rattle.std.proofs.Common.{◌≡◌, Err, ap, map, refl, string_bytes}
use Rattle.std.proofs.lemmas.Result.{IfErr-at_err, err_from_is_err_and}
use Rattle.front_command.specs.Commands.{command_meant}
use Rattle.front_command.specs.inner.Given.{given_meant}
use Rattle.front_command.proofs.Words.{found_taken, none_taken, nothing_taken}
use Rattle.front_command.proofs.command.command_of.Goals as goal

pub returns-clause-taken : goal.returns-clause-taken
returns-clause-taken c =
    found_taken command_meant (map string_bytes c.args.words.now) (given_meant c.in_ok-given.given) c.command_asked.result _ c.ok_or.result
    c.in_ok-given.ensures.given c.command_asked.ensures c.ok_or.ensures.value

pub returns-clause-usage : goal.returns-clause-usage
returns-clause-usage c =
    none_taken command_meant (map string_bytes c.args.words.now) (given_meant c.in_ok-given.given) c.command_asked.result _ _ c.ok_or.result
    c.in_ok-given.ensures.given c.command_asked.ensures c.ok_or.ensures.value

pub returns-in_err-given-clause-usage : goal.returns-in_err-given-clause-usage
returns-in_err-given-clause-usage c =
    let returned = err_from_is_err_and c.from_residual.result c.from_residual.ensures.1 in
    rw (returned.1, returned.2)
    (λ usage. nothing_taken (map string_bytes c.args.words.now) (c.in_err-given.ensures.usage (ap Err (IfErr-at_err (λ fault. c.in_err-given.field-0.0 ≡ fault) usage refl))))
