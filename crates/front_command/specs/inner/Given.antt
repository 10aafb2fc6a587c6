-- The arguments of the code and of the definitions.
use Rattle.std.specs.Prelude.{map, option_map}
use Rattle.front_command.specs.declared.arguments.Given.{Given as Read}
use Rattle.front_command.specs.CommandLine.{Given}

-- the arguments that those of the code stand for
abbrev pub given_meant : Read → Given
given_meant read = record {
  command = option_map (λ word. word.now) read.command;
  values = map (λ value. value.now) read.values.items;
  seed = option_map (λ word. word.now) read.seed;
  spurious = option_map (λ word. word.now) read.spurious;
  workers = option_map (λ word. word.now) read.workers;
  relay = read.relay;
  count = read.count;
  fits = read.fits;
  version = read.version;
}
