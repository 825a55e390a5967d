-- From equation to equation.
use Rattle.std.proofs.Common.{◌≡◌, ◌∙◌, ◌+◌, ◌-◌, ◌<◌, ◌≤◌, refl, sym, ap, arith, ℕ, zero, suc, List, [], ◌∷◌, ◌++◌, length, map, get_or, take, drop, Some}
use Rattle.std.specs.Prelude.{slice_get, reverse, option_map}
use Rattle.std.proofs.Math.Seq.{take-length}
use Rattle.std.proofs.lemmas.Option.{slice_get-get_or, slice_get-map}
use Rattle.fst_words.specs.declared.rules.Rule.{Rule}
use Rattle.fst_words.specs.Words.{Productions, row_of}
use Rattle.fst_grammar.specs.Rules.{rules_before, word_rules}
use Rattle.fst_grammar.specs.Equations.{Equation, own, like, Solves, HasRanks, AreLast, Leads, most_rank}
use Rattle.fst_grammar.specs.Views.{equation_of}
use Rattle.fst_grammar.specs.declared.equations.Equation.{Equation as Kept}
use Rattle.fst_grammar.proofs.RowLaws.{carried_nothing, carried_twice}
use Rattle.std.proofs.lemmas.List.{length-map, length-append, length-reverse, get_or-reverse, get_or-take, get_or_default}
use Rattle.std.proofs.lemmas.List.Sorted.{IsPermutation-reverse, sum_by-IsPermutation}
use Rattle.std.proofs.lemmas.List.Sums.{sum_by_push, sum_by-take-le}
use Rattle.fst_grammar.specs.Translation.{right_side, right_sides}

kept_at : (es : List Kept) (z : ℕ) (e : Kept) → z < length es → e ≡ get_or es z e →
    slice_get (map equation_of es) z ≡ Some (equation_of e)
kept_at es z e h is = slice_get-map equation_of es z ∙ ap (option_map equation_of) (slice_get-get_or es z e h ∙ ap Some (sym is))

-- the next non-terminal
pub record IsLed (es : List Kept) (w : List ℕ) (left : ℕ) : Type 0 where
  pub some : 0 < length w
  pub more : 1 ≤ left
  pub within : get_or w 0 0 < length es
  pub leads : Leads (map equation_of es) (get_or w 0 0) (left - 1)

pub led : (es : List Kept) (z left : ℕ) (e : Kept) (w : List ℕ) → Leads (map equation_of es) z left → z < length es →
    e ≡ get_or es z e → equation_of e ≡ like w → IsLed es w left
led es z left e w h lt is same =
    let g = h.grounded.begins z w (kept_at es z e lt is ∙ ap Some same) in
    let long : length w ≡ suc (length g.rest) = ap length g.is in
    let first : get_or w 0 0 ≡ g.first = ap (λ (v : List ℕ). get_or v 0 0) g.is in
    let count : length (map equation_of es) ≡ length es = length-map es equation_of in
    let near : h.rank z ≤ left = h.near in
    let ranks : h.rank (get_or w 0 0) ≡ h.rank g.first = ap h.rank first in
    record {
      some = omega arith;
      more = omega (arith, g.lower);
      within = omega (arith, g.within);
      leads = record { rank = h.rank; grounded = h.grounded; near = omega (arith, g.lower) };
    }

-- rules of its own
pub own_row : (es : List Kept) (z : ℕ) (e : Kept) (rules : List Rule) (rows : Productions) → Solves rows (map equation_of es) →
    z < length es → e ≡ get_or es z e → equation_of e ≡ own rules → row_of rows z ≡ rules_before [] rules
own_row es z e rules rows s lt is same = s.each z (own rules) (kept_at es z e lt is ∙ ap Some same) ∙ sym (carried_nothing rules)

-- rules with the rest of a word behind them
pub like_row : (es : List Kept) (z : ℕ) (e : Kept) (w rest : List ℕ) (rules : List Rule) (rows : Productions) →
    Solves rows (map equation_of es) → z < length es → e ≡ get_or es z e → equation_of e ≡ like w → 0 < length w →
    row_of rows (get_or w 0 0) ≡ rules_before rest rules →
    row_of rows z ≡ rules_before (rest ++ take (length w - 1) (drop 1 w)) rules
like_row es z e w rest rules rows s lt is same long next =
    s.each z (like w) (kept_at es z e lt is ∙ ap Some same) ∙ split w long next
  where
    split : (w : List ℕ) → 0 < length w → row_of rows (get_or w 0 0) ≡ rules_before rest rules →
        word_rules rows w ≡ rules_before (rest ++ take (length w - 1) (drop 1 w)) rules
    split [] long next = absurd (omega arith)
    split (x ∷ d) long next =
        let one : suc (length d) - 1 ≡ length d = omega arith in
        let all : take (suc (length d) - 1) d ≡ d = ap (λ k. take k d) one ∙ take-length d in
        ap (rules_before d) next ∙ carried_twice rest d rules ∙ ap (λ v. rules_before (rest ++ v) rules) (sym all)

-- every non-terminal leads to rules
pub leads_all : (equations : List Equation) (z : ℕ) → HasRanks equations → Leads equations z most_rank
leads_all equations z h = record { rank = h.rank; grounded = h.grounded; near = h.grounded.most z }

take_next : (rows : Productions) (z : ℕ) → z < length rows → take z rows ++ row_of rows z ∷ [] ≡ take (suc z) rows
take_next [] z lt = absurd (omega arith)
take_next (r ∷ rows) zero lt = refl
take_next (r ∷ rows) (suc z) lt = ap (λ (rs : Productions). r ∷ rs) (take_next rows z (omega arith))

-- a row that is known
pub known_row : (rows known : Productions) (es : List Kept) (z behind : ℕ) (rules : List Rule) →
    Solves rows (map equation_of es) → AreLast rows known → z < length es → behind ≡ length es - 1 - z → behind < length known →
    rules ≡ get_or known behind rules →
    row_of rows z ≡ rules_before [] rules
known_row rows known es z behind rules s last lt is there read =
    let long : length rows ≡ length es = s.count ∙ length-map es equation_of in
    let at : length rows - 1 - behind ≡ z = omega arith in
    let found : get_or known behind rules ≡ get_or rows (length rows - 1 - behind) rules =
    ap (λ (k : Productions). get_or k behind rules) last ∙ get_or-take (length known) (reverse rows) behind rules there
    ∙ get_or-reverse rows behind rules (omega arith) in
    get_or_default rows z [] rules (omega arith) ∙ sym (ap (λ k. get_or rows k rules) at) ∙ sym found ∙ sym read
    ∙ sym (carried_nothing rules)

-- one row more
pub one_row_more : (rows : Productions) (es : List Kept) (i : ℕ) (items : Productions) (rules : List Rule) →
    Solves rows (map equation_of es) → i < length es → length items ≡ i → AreLast rows items →
    rules ≡ row_of rows (length es - 1 - i) → AreLast rows (items ++ rules ∷ [])
one_row_more rows es i items rules s lt count front last =
    let long : length rows ≡ length es = s.count ∙ length-map es equation_of in
    let back : length (reverse rows) ≡ length rows = length-reverse rows in
    let at : length es - 1 - i ≡ length rows - 1 - i = omega arith in
    let here : rules ≡ row_of (reverse rows) i = last ∙ ap (row_of rows) at ∙ sym (get_or-reverse rows i [] (omega arith)) in
    let more : length (items ++ rules ∷ []) ≡ suc i = length-append items (rules ∷ []) ∙ omega (arith, count) in
    (λ j. (front ∙ ap (λ k. take k (reverse rows)) count) j ++ here j ∷ []) ∙ take_next (reverse rows) i (omega arith) ∙ ap
    (λ k. take k (reverse rows)) (sym more)

-- the rows that are known and one more have no more letters than all
pub last_small : (rows : Productions) (es : List Kept) (i : ℕ) (items : Productions) → Solves rows (map equation_of es) →
    i < length es → length items ≡ i → AreLast rows items →
    right_sides items + right_side (row_of rows (length es - 1 - i)) ≤ right_sides rows
last_small rows es i items s lt count last =
    let more = one_row_more rows es i items (row_of rows (length es - 1 - i)) s lt count last refl in
    let all = items ++ row_of rows (length es - 1 - i) ∷ [] in
    let sum : right_sides all ≡ right_sides items + right_side (row_of rows (length es - 1 - i)) =
    sum_by_push right_side items (row_of rows (length es - 1 - i)) in
    let most : right_sides (take (length all) (reverse rows)) ≤ right_sides (reverse rows) =
    sum_by-take-le right_side (reverse rows) (length all) in
    let same : right_sides all ≡ right_sides (take (length all) (reverse rows)) = ap right_sides more in
    let back : right_sides (reverse rows) ≡ right_sides rows =
    sum_by-IsPermutation right_side rows (reverse rows) (IsPermutation-reverse rows) in
    omega arith
