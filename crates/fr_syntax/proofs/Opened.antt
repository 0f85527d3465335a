-- The value of the datum that a value is.
use Rattle.fr_value.specs.Data.{value_of-datum_of}

pub ruleset opened = (value_of-datum_of)
