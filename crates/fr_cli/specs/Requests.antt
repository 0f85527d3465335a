-- Values of the code, as contracts see them.
use Rattle.fr_cli.specs.declared.command.Request.{Request}
use Rattle.fr_cli.specs.declared.command.Request.TheVariants as request
use Rattle.fr_cli.specs.Command.{Command, run, afresh, check}

-- the command that a request is
abbrev pub command_in : Request → Command
command_in (request.Run program script) = run program.now script.now
command_in (request.Afresh program script) = afresh program.now script.now
command_in (request.Check program) = check program.now
