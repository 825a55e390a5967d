-- The text of a certificate, put together from its lines.
use Rattle.std.proofs.Common.{◌≡◌, ◌∙◌, ◌++◌, ◌∷◌, [], ℕ, List, ap, append_assoc, length, map, refl, sym}
use Rattle.std.specs.Prelude.{codes, decimal}
use Rattle.fst_basis.specs.declared.proof.Pair.{Pair}
use Rattle.fst_basis.specs.declared.proof.Rewrite.{Rewrite}
use Rattle.fst_cert.specs.Texts.{cert_text, chain_line, line_feed, lines_text, pair_line}

-- the text of lines is that of the first ones, and behind it that of the others
pub lines-append : (a b : List (List ℕ)) → lines_text (a ++ b) ≡ lines_text a ++ lines_text b
lines-append [] b = refl
lines-append (l ∷ ls) b = ap (λ t. l ++ line_feed ∷ t) (lines-append ls b)
    ∙ sym (append_assoc l (line_feed ∷ lines_text ls) (lines_text b))

-- a line is ended behind what stands in front of it
ended : (before line rest : List ℕ) → (before ++ (line ++ line_feed ∷ [])) ++ rest ≡ before ++ (line ++ line_feed ∷ rest)
ended before line rest = append_assoc before (line ++ line_feed ∷ []) rest ∙ ap (λ t. before ++ t)
    (append_assoc line (line_feed ∷ []) rest)

-- what is added piece by piece is the text of the certificate
pub cert_told : (basis : List Pair) (chains : List (List Rewrite)) (none counted pairs again all : List ℕ) → none ≡ [] →
    counted ≡ none ++ (codes "pairs " ++ decimal (length basis) ++ line_feed ∷ []) →
    pairs ≡ counted ++ lines_text (map pair_line basis) →
    again ≡ pairs ++ (codes "chains " ++ decimal (length chains) ++ line_feed ∷ []) →
    all ≡ again ++ lines_text (map chain_line chains) → all ≡ cert_text basis chains
cert_told basis chains none counted pairs again all e f g h i =
    let first = codes "pairs " ++ decimal (length basis) in
    let second = codes "chains " ++ decimal (length chains) in
    let others = lines_text (map chain_line chains) in
    let front = lines_text (map pair_line basis) in
    let behind : again ++ others ≡ pairs ++ (second ++ line_feed ∷ others) = ap (λ t. t ++ others) h
    ∙ ended pairs second others in
    let between : pairs ++ (second ++ line_feed ∷ others) ≡ counted ++ (front ++ (second ++ line_feed ∷ others)) =
    ap (λ t. t ++ (second ++ line_feed ∷ others)) g ∙ append_assoc counted front (second ++ line_feed ∷ others) in
    let rest = front ++ (second ++ line_feed ∷ others) in
    let start : counted ++ rest ≡ first ++ line_feed ∷ rest =
    ap (λ t. t ++ rest) (f ∙ ap (λ t. t ++ (first ++ line_feed ∷ [])) e) ∙ ended [] first rest in
    i ∙ behind ∙ between ∙ start ∙ ap (λ t. first ++ line_feed ∷ t)
    (sym (lines-append (map pair_line basis) (second ∷ map chain_line chains)))

-- one line more is read
pub line_added : (text : List ℕ) (ls : List (List ℕ)) (rest l more : List ℕ) → text ≡ lines_text ls ++ rest →
    rest ≡ l ++ line_feed ∷ more → text ≡ lines_text (ls ++ l ∷ []) ++ more
line_added text ls rest l more e f =
    e ∙ ap (λ t. lines_text ls ++ t) (f ∙ sym (append_assoc l (line_feed ∷ []) more))
    ∙ sym (append_assoc (lines_text ls) (l ++ line_feed ∷ []) more) ∙ ap (λ t. t ++ more) (sym (lines-append ls (l ∷ [])))

-- a line, and others behind it
pub line_first : (text : List ℕ) (l : List ℕ) (ls : List (List ℕ)) (rest more : List ℕ) → text ≡ l ++ line_feed ∷ rest →
    rest ≡ lines_text ls ++ more → text ≡ lines_text (l ∷ ls) ++ more
line_first text l ls rest more e f = e ∙ ap (λ t. l ++ line_feed ∷ t) f ∙ sym (append_assoc l (line_feed ∷ lines_text ls) more)

-- lines, and others behind them
pub lines_behind : (text : List ℕ) (a b : List (List ℕ)) (rest more : List ℕ) → text ≡ lines_text a ++ rest →
    rest ≡ lines_text b ++ more → text ≡ lines_text (a ++ b) ++ more
lines_behind text a b rest more e f =
    e ∙ ap (λ t. lines_text a ++ t) f ∙ sym (append_assoc (lines_text a) (lines_text b) more)
    ∙ ap (λ t. t ++ more) (sym (lines-append a b))
