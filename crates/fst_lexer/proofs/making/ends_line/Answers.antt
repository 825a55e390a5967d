use Rattle.std.proofs.Common.{◌≡◌, ℕ, suc, ◌-◌, ◌≤◌, List, [], ◌∷◌, length, get_or, arith, refl, sym, ap, ◌∙◌}
use Rattle.fst_lexer.specs.declared.pieces.Placed.{Placed}
use Rattle.fst_lexer.specs.Classes.{is_feed}
use Rattle.fst_lexer.specs.Tokens.{ends_line}
use Rattle.fst_lexer.proofs.making.ends_line.Goals as goal

-- the last character by its index
ends_line-last : (word : List Placed) (d : Placed) → 1 ≤ length word →
    ends_line word ≡ is_feed (get_or word (length word - 1) d).ch
ends_line-last [] d h = absurd (omega arith)
ends_line-last (c ∷ []) d h = refl
ends_line-last (c ∷ e ∷ cs) d h =
    let at : length (c ∷ e ∷ cs) - 1 ≡ suc (length (e ∷ cs) - 1) = omega arith in
    ends_line-last (e ∷ cs) d (omega arith) ∙ sym (ap (λ (i : ℕ). is_feed (get_or (c ∷ e ∷ cs) i d).ch) at)

pub returns-in-len1-up : goal.returns-in-len1-up
returns-in-len1-up c = c.is_feed.ensures ∙ sym
    (ends_line-last c.args.word.now (record { at = 0; ch = 0 }) c.in-len1-up.len_at_least)
