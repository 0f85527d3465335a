-- The names that forms give, as the code keeps them.
use Rattle.fr_syntax.specs.Outlines.{Global}
use Rattle.fr_scope.specs.declared.globals.Given.{Given}

-- the global name that is kept
abbrev pub global_of : Given → Global
global_of g = (g.name, g.sort)
