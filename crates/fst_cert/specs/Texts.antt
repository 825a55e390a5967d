-- The text of a certificate: the pairs of a basis and its chains, a line each.
use Rattle.std.specs.Prelude.{◌≡◌, ℕ, List, [], ◌∷◌, ◌++◌, codes, decimal, length, map, ⊤}
use Rattle.fst_basis.specs.declared.proof.Pair.{Pair}
use Rattle.fst_basis.specs.declared.proof.Chain.{Chain}
use Rattle.fst_basis.specs.declared.proof.Rewrite.{Rewrite}
use Rattle.fst_basis.specs.declared.proof.Rewrite.TheVariants.{Forth, Back, Cut, Grow}

-- numbers, with this character in front of each
abbrev pub listed : ℕ → List ℕ → List ℕ
listed c [] = []
listed c (k ∷ ks) = c ∷ (decimal k ++ listed c ks)

-- the codes of a space, a point, a colon and a line feed
abbrev pub space : ℕ
space = 32

abbrev pub point : ℕ
point = 46

abbrev pub colon : ℕ
colon = 58

abbrev pub line_feed : ℕ
line_feed = 10

-- the text is at its end, or begins with this character
abbrev pub IsEnd : ℕ → List ℕ → Type 0
IsEnd c [] = ⊤
IsEnd c (b ∷ bs) = b ≡ c

-- the text of a rewrite
abbrev pub rewrite_text : Rewrite → List ℕ
rewrite_text (Forth at pair) = codes "f" ++ decimal at ++ colon ∷ decimal pair
rewrite_text (Back at pair) = codes "b" ++ decimal at ++ colon ∷ decimal pair
rewrite_text (Cut at tail) = codes "c" ++ decimal at ++ listed point tail
rewrite_text (Grow at tail) = codes "g" ++ decimal at ++ listed point tail

-- the line of a pair
abbrev pub pair_line : Pair → List ℕ
pair_line b = codes "pair" ++ listed space b.left ++ codes " ~" ++ listed space b.right

-- rewrites, with a space in front of each
abbrev pub rewrites_text : List Rewrite → List ℕ
rewrites_text [] = []
rewrites_text (r ∷ rs) = space ∷ (rewrite_text r ++ rewrites_text rs)

-- the line of a chain of these rewrites
abbrev pub chain_line : List Rewrite → List ℕ
chain_line steps = codes "chain" ++ rewrites_text steps

-- the rewrites of each chain
abbrev pub steps_of : List Chain → List (List Rewrite)
steps_of chains = map (λ c. c.steps.items) chains

-- the lines of a certificate: its pairs, and the rewrites of its chains
abbrev pub cert_lines : List Pair → List (List Rewrite) → List (List ℕ)
cert_lines basis chains = (codes "pairs " ++ decimal (length basis)) ∷ (map pair_line basis
    ++ (codes "chains " ++ decimal (length chains)) ∷ map chain_line chains)

-- lines, each ended by a line feed
abbrev pub lines_text : List (List ℕ) → List ℕ
lines_text [] = []
lines_text (l ∷ ls) = l ++ line_feed ∷ lines_text ls

-- the text of a certificate
abbrev pub cert_text : List Pair → List (List Rewrite) → List ℕ
cert_text basis chains = lines_text (cert_lines basis chains)
