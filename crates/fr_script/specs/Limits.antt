-- What a script may have.
use Rattle.std.specs.Prelude.{ℕ, ◌-◌, ◌^◌}

-- the most bytes of a line, without its newline
abbrev pub line_limit : ℕ
line_limit = 65536

-- the most bytes of a script
abbrev pub script_limit : ℕ
script_limit = 1099511627776

-- the most instants of a script
abbrev pub instant_limit : ℕ
instant_limit = 4294967295

-- the greatest number of 64 bits, which stands for a time that is greater
abbrev pub greatest_number : ℕ
greatest_number = 2 ^ 64 - 1
