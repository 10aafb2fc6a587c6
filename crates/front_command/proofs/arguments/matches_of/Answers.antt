use Rattle.std.proofs.Common.{ap, subst, map, ◌≡◌}
use Rattle.std.proofs.lemmas.Result.{IfOk-weaker}
use Rattle.std.specs.String.{string_bytes}
use Rattle.clap.specs.Words.{App, app_of, fault_of, found_of, is_simple, matches_of, rows_of, FailsBy, is_simple_and_free}
use Rattle.clap.specs.declared.parser.matches.ArgMatches.{ArgMatches}
use Rattle.front_command.specs.CommandLine.{program}
use Rattle.front_command.proofs.arguments.matches_of.Goals as goal

pub returns-clause-matches : goal.returns-clause-matches
returns-clause-matches c =
    let is : app_of c.in_ok-command.command ≡ program = c.in_ok-command.ensures in
    IfOk-weaker c.try_get_matches_from.result _ _
    (λ (m : ArgMatches) has. subst (λ (a : App). rows_of (found_of m) ≡ matches_of a (map string_bytes c.args.words.now)) is (has (ap is_simple is)).0)
    c.try_get_matches_from.ensures.matches

pub returns-clause-kinds : goal.returns-clause-kinds
returns-clause-kinds c =
    let is : app_of c.in_ok-command.command ≡ program = c.in_ok-command.ensures in
    subst (λ (a : App). FailsBy (fault_of a (map string_bytes c.args.words.now)) c.try_get_matches_from.result) is (c.try_get_matches_from.ensures.kinds (ap is_simple_and_free is))
