-- What is written.
use Rattle.std.specs.Prelude.{ℕ, ◌+◌, ◌==◌, Bool, not, List, ◌++◌, codes, decimal, take, count_by}
use Rattle.std.specs.List.{list_any, suffix_len}
use Rattle.fst_types.specs.declared.label.Label.{Label}
use Rattle.fst_types.specs.declared.side.Side.{Side}
use Rattle.fst_type_print.specs.declared.refusals.Phrase.{Phrase}
use Rattle.fst_type_print.specs.declared.refusals.Phrase.TheVariants.{Certificate, NoBasis}
use Rattle.fst_type_print.specs.Texts.{word_text, side_text, refusal_text}

-- the two types agree
abbrev pub yes_text : List ℕ
yes_text = codes "yes\n"

-- this word is performed by this side alone
abbrev pub no_text : List Label → Side → List ℕ
no_text w side = codes "no " ++ word_text w ++ codes " " ++ side_text side ++ codes "\n"

-- this many pairs show no difference, there are more, and there is no basis within so many
abbrev pub undecided_text : ℕ → List ℕ
undecided_text n = codes "undecided " ++ decimal n ++ codes "\n"

-- a line ends with this byte
abbrev pub is_line_feed : ℕ → Bool
is_line_feed c = list_any (λ d. d == c) (codes "\n")

-- the line of a byte of a text, counted from 1
abbrev pub line_of : List ℕ → ℕ → ℕ
line_of text at = count_by is_line_feed (take at text) + 1

-- its column, counted in bytes from 1
abbrev pub column_of : List ℕ → ℕ → ℕ
column_of text at = suffix_len (λ c. not (is_line_feed c)) (take at text) + 1

-- where a byte of a text stands
abbrev pub place_text : List ℕ → ℕ → List ℕ
place_text text at = decimal (line_of text at) ++ codes ":" ++ decimal (column_of text at)

-- the text is refused at this byte, for this
abbrev pub refused_text : List ℕ → ℕ → Phrase → List ℕ
refused_text text at phrase = refusal_text
    (record { line = line_of text at; column = column_of text at; phrase = phrase }) ++ codes "\n"

-- the token at this byte is nested too deep
abbrev pub too_deep_text : List ℕ → ℕ → List ℕ
too_deep_text text at = codes "limit " ++ place_text text at ++ codes " depth\n"

-- the type at this byte, or the grammar of the types of which the left one is there, is too large
abbrev pub too_large_text : List ℕ → ℕ → List ℕ
too_large_text text at = codes "limit " ++ place_text text at ++ codes " type size\n"

-- the input is too long
abbrev pub too_long_text : List ℕ
too_long_text = codes "limit length\n"

-- the certificate shows that its two types are equivalent
abbrev pub valid_text : List ℕ
valid_text = codes "valid\n"

-- line k of the certificate, which stands behind the line of its question, is no certificate's
abbrev pub bad_line_text : ℕ → List ℕ
bad_line_text k = refusal_text (record { line = k + 1; column = 1; phrase = Certificate })
    ++ codes "\n"

-- the certificate doesn't show that its two types are equivalent
abbrev pub no_basis_text : List ℕ
no_basis_text = refusal_text (record { line = 1; column = 1; phrase = NoBasis }) ++ codes "\n"

-- the run has more events than its steps
abbrev pub out_of_steps_text : List ℕ
out_of_steps_text = codes "out of steps\n"

-- the words aren't those of a command
abbrev pub usage_text : List ℕ
usage_text = codes "usage: freest equiv|show|check|run|make|audit\n"
