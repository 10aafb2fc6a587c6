use Rattle.std.proofs.Common.{ap, sym, option_map, unwrap_or, [], codes, List, Option, Bor, ◌≡◌, ◌∙◌}
use Rattle.clap.specs.Words.{Text, Row, found_of, first_of, first_value, all_of, rows_of}
use Rattle.clap.specs.declared.parser.matches.ArgMatches.{ArgMatches}
use Rattle.clap.proofs.WalkLemmas.{first_value-rows}
use Rattle.front_command.specs.CommandLine.{is_used}
use Rattle.front_command.proofs.arguments.given_of.Goals as goal

abbrev text : Option (Bor Text) → Option Text
text o = option_map (λ (s : Bor Text). s.now) o

-- what `get_str` gives, by the rows
read : (m : ArgMatches) (rows : List Row) (id : Text) (o : Option (Bor Text)) → rows_of (found_of m) ≡ rows → text o ≡ first_value (found_of m) id → first_of id rows ≡ text o
read m rows id o are e = sym (e ∙ first_value-rows (found_of m) id ∙ ap (first_of id) are)

pub returns-clause-given : goal.returns-clause-given
returns-clause-given c =
    let m = c.in-Ok.matches in
    let rows = c.in-Ok.ensures.matches in
    record {
      taken = c.in-Ok.ensures.kinds;
      command_is = read m _ (codes "command") c.get_str.result rows c.get_str.ensures;
      values_are = sym (c.in-Ok-values_of.ensures ∙ ap (λ (r : List Row). unwrap_or (all_of (codes "values") r) []) rows);
      seed_is = read m _ (codes "seed") c.get_str-2.result rows c.get_str-2.ensures;
      spurious_is = read m _ (codes "spurious") c.get_str-3.result rows c.get_str-3.ensures;
      workers_is = read m _ (codes "workers") c.get_str-4.result rows c.get_str-4.ensures;
      relay_is = ap is_used (read m _ (codes "relay") c.get_str-5.result rows c.get_str-5.ensures) ∙ sym c.is_used.ensures;
      count_is = ap is_used (read m _ (codes "count") c.get_str-6.result rows c.get_str-6.ensures) ∙ sym c.is_used-2.ensures;
      fits_is = ap is_used (read m _ (codes "fits") c.get_str-7.result rows c.get_str-7.ensures) ∙ sym c.is_used-3.ensures;
      version_is = ap is_used (read m _ (codes "version") c.get_str-8.result rows c.get_str-8.ensures) ∙ sym c.is_used-4.ensures;
    }
