-- The commands of the code and of the definitions.
use Rattle.front_command.specs.declared.command.Command.{Command as Words}
use Rattle.front_command.specs.declared.command.Command.TheVariants as read
use Rattle.front_command.specs.CommandLine.{Command, check, turns, compile, simulate, run, stress}
use Rattle.front_command.specs.CommandLine.{report, recheck, block, audit, explain, emit, version}

-- the command that one of the code stands for
abbrev pub command_meant : Words → Command
command_meant (read.Check monitor) = check monitor.now
command_meant (read.Turns monitor clients) = turns monitor.now clients.now
command_meant (read.Compile monitor choice) = compile monitor.now choice
command_meant (read.Simulate monitor clients schedule choice) =
    simulate monitor.now clients.now schedule choice
command_meant (read.Run monitor clients workers choice) =
    run monitor.now clients.now workers choice
command_meant (read.Stress number workers) = stress number workers
command_meant (read.Report monitor count fits) = report monitor.now count fits
command_meant (read.Recheck monitor report_file) = recheck monitor.now report_file.now
command_meant (read.Block monitor clients choice) = block monitor.now clients.now choice
command_meant (read.Audit monitor plan_file count) = audit monitor.now plan_file.now count
command_meant (read.Explain monitor count fits) = explain monitor.now count fits
command_meant (read.Emit monitor) = emit monitor.now
command_meant read.Version = version
