-- The lines of events, one after the other.
use Rattle.std.proofs.Common.{◌≡◌, ◌∙◌, ℕ, ◌+◌, ◌<◌, List, [], ◌∷◌, ◌++◌, length, take, drop, reverse, get_or, sym, ap, subst, arith}
use Rattle.std.proofs.lemmas.List.{take_more, drop_more, reverse-append, length-reverse, length-take-le, append_assoc}
use Rattle.fst_runs.specs.declared.event.Stamped.{Stamped}
use Rattle.fst_merge.specs.EventTexts.{makes, forks, event_line, lines_behind}
use Rattle.fst_merge.specs.Counts.{GainsLine, IsCountOf, MayCount}
use Rattle.fst_merge.specs.declared.texts.Made.{Made}
use Rattle.fst_merge.proofs.Counting.{few_once}

-- the first i events, the last of them first
abbrev pub passed : List Stamped → ℕ → List Stamped
passed es i = reverse (take i es)

passed_more : (es : List Stamped) (i : ℕ) (d : Stamped) → i < length es → passed es (i + 1) ≡ get_or es i d ∷ passed es i
passed_more es i d h = ap reverse (take_more es i d h) ∙ reverse-append (take i es) (get_or es i d ∷ [])

-- where the counts are those of the first i events, which aren't all, each may rise
pub may_count : (es : List Stamped) (i : ℕ) (k : Made) → i < length es → length es < 18446744073709551616 →
    IsCountOf (passed es i) k → MayCount k
may_count es i k h few is = record {
  channels = λ p.
      let made = few_once (λ (e : Stamped). makes p e.event) (passed es i) in
      omega (arith, made, is.channels p, passed_length);
  tasks = λ p.
      let forked = few_once (λ (e : Stamped). forks p e.event) (passed es i) in
      omega (arith, forked, is.tasks p, passed_length);
}
  where
    passed_length : length (passed es i) ≡ i
    passed_length = length-reverse (take i es) ∙ length-take-le i es (omega (arith, h))

-- a text with the lines of the first i events, and what is counted of these, go on to the next
pub line_more : (es : List Stamped) (i : ℕ) (e : Stamped) (old new : Made) (text more all : List ℕ) → i < length es →
    e ≡ get_or es i e → GainsLine e old new text more → IsCountOf (passed es i) old →
    text ++ lines_behind (passed es i) (drop i es) ≡ all →
    (more ++ lines_behind (passed es (i + 1)) (drop (i + 1) es) ≡ all) × IsCountOf (passed es (i + 1)) new
line_more es i e old new text more all h is gains count so =
    let g = gains (passed es i) count in
    let one : passed es (i + 1) ≡ e ∷ passed es i = passed_more es i e h ∙ ap (λ d. d ∷ passed es i) (sym is) in
    let left : drop i es ≡ e ∷ drop (i + 1) es = drop_more es i e h ∙ ap (λ d. d ∷ drop (i + 1) es) (sym is) in (
      ap (λ b. more ++ lines_behind b (drop (i + 1) es)) one
          ∙ ap (λ t. t ++ lines_behind (e ∷ passed es i) (drop (i + 1) es)) g.0
          ∙ append_assoc text (event_line (passed es i) e) (lines_behind (e ∷ passed es i) (drop (i + 1) es))
          ∙ ap (λ r. text ++ lines_behind (passed es i) r) (sym left) ∙ so,
      subst (λ b. IsCountOf b new) (sym one) g.1,
    )
