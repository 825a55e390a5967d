-- The limits of the language, each as the constant of its name has it.
use Rattle.std.specs.Prelude.{ℕ, ◌^◌}

-- how many bytes an input may have
abbrev pub most_bytes : ℕ
most_bytes = 1048576

-- how many bytes a name may have
abbrev pub longest_name : ℕ
longest_name = 255

-- the greatest number that a literal may stand for
abbrev pub greatest_number : ℕ
greatest_number = 9223372036854775807

-- how deep a token may be nested
abbrev pub most_nested : ℕ
most_nested = 200

-- how many nodes a type may have
abbrev pub most_nodes : ℕ
most_nodes = 4096

-- how many letters may stand on the right sides of a grammar's rules
abbrev pub most_letters : ℕ
most_letters = 1048576

-- what a norm that is greater is given as
abbrev pub greatest_norm : ℕ
greatest_norm = 2 ^ 63

-- how many channels a made module may have
abbrev pub most_made : ℕ
most_made = 5000

-- how many events a run may be asked to have at most
abbrev pub most_steps : ℕ
most_steps = 4294967295

-- how many rewrites the decision of two normed words may make
abbrev pub most_rewrites : ℕ
most_rewrites = 1000000

-- how many pairs of words the search for the least difference of two normed words may list
abbrev pub most_listed : ℕ
most_listed = 1000000
