-- What values may have.
use Rattle.std.specs.Prelude.{ℕ, ◌+◌, ◌^◌}

-- no integer is as great as this, or less than minus this
abbrev pub integer_bound : ℕ
integer_bound = 2 ^ 63

-- every text that is read as data has fewer bytes
abbrev pub text_bound : ℕ
text_bound = 2 ^ 31

-- the most bytes of a symbol or a string
abbrev pub most_bytes : ℕ
most_bytes = 1048575

-- the greatest size of a list
abbrev pub most_size : ℕ
most_size = 1048576

-- the greatest depth of a list
abbrev pub most_depth : ℕ
most_depth = 64

-- the most nested levels of a datum: a leaf in as many lists as the greatest depth allows
abbrev pub data_levels : ℕ
data_levels = most_depth + 1
