-- What the steps of the translation come to.
use Rattle.std.proofs.Common.{◌≡◌, ◌∙◌, ◌+◌, ◌<◌, ◌≤◌, inr, refl, sym, subst, arith, ℕ, List, [], ◌++◌, length, get_or}
use Rattle.std.specs.Prelude.{All, Result, Ok, Err, IfErr}
use Rattle.std.specs.Result.{IsErrAnd}
use Rattle.fst_types.specs.Tree.{Tree}
use Rattle.fst_types.specs.Size.{nodes}
use Rattle.fst_types.specs.declared.kind.Kind.{Kind}
use Rattle.fst_types.specs.declared.label.Label.{Label}
use Rattle.fst_kinds.specs.WellFormed.{IsSession}
use Rattle.fst_words.specs.declared.rules.Rule.{Rule}
use Rattle.fst_words.specs.Words.{Productions, WordBelow, EachHasRule}
use Rattle.fst_parts.specs.Place.{top_of}
use Rattle.fst_grammar.specs.Word.{word}
use Rattle.fst_parts.specs.Labels.{labels_in, names}
use Rattle.fst_parts.specs.Letters.{with_labels}
use Rattle.fst_parts.specs.Once.{Part}
use Rattle.fst_grammar.specs.Parts.{parts_of, numbers_by, dead_count}
use Rattle.fst_grammar.specs.Equations.{Equation, Solves, equations_by, IsGrounded, HasRanks, HasOrderedRows, AreFine, most_rank}
use Rattle.fst_grammar.specs.Translation.{IsGrammar, IsTooLarge, right_sides}
use Rattle.fst_grammar.specs.Done.{IsDone}
use Rattle.fst_grammar.specs.declared.fault.TranslateFault.{TranslateFault}
use Rattle.fst_grammar.specs.declared.fault.TranslateFault.TheVariants.{TooLarge}
use Rattle.fst_parts.proofs.Laws.{letters_are}
use Rattle.fst_grammar.proofs.SolveLaws.{solution, solves, solution_fine}
use Rattle.fst_grammar.proofs.SizeLaws.{equations_length}
use Rattle.fst_grammar.proofs.RankLaws.{rank}
use Rattle.fst_grammar.proofs.SoundLaws.{word_below}
use Rattle.fst_grammar.proofs.TranslationLaws.{seated, known_left, known_right, fit_left, fit_right, equations_fine, equations_grounded, solved_ruled, grammar_is, stands}
use Rattle.fst_base.specs.Limits.{most_nodes, most_letters}

-- a fault that is passed on is still the same
pub fault_stays : {T : Type 0} (result : Result T TranslateFault) (f : TranslateFault) (Q : Type 0) → IsErrAnd result
    (λ e. e ≡ f) → (f ≡ TooLarge → Q) → IfErr result (λ e. e ≡ TooLarge → Q)
fault_stays (Ok x) f Q h k = tt
fault_stays (Err e) f Q h k = λ is. k (sym h ∙ is)

module _ (s r : Tree) (ws : (vars : List Kind) × IsSession vars s) (wr : (vars : List Kind) × IsSession vars r)
    (few_s : nodes s ≤ most_nodes) (few_r : nodes r ≤ most_nodes) where
  abbrev all_letters : List Label
  all_letters = with_labels [] (labels_in s ++ labels_in r)

  abbrev all_equations : List Equation
  all_equations = equations_by all_letters (parts_of s r)

  abbrev live : ℕ
  live = length (names all_letters) + length (parts_of s r)

  abbrev total : ℕ
  total = live + dead_count all_letters

  abbrev rows : Productions
  rows = solution most_rank all_equations

  rows_solve : Solves rows all_equations
  rows_solve = solves all_equations (rank all_letters (parts_of s r)
      (seated ws.0 s r ws.1 wr few_s few_r all_letters (letters_are s r))) most_rank
      (equations_grounded ws.0 s r ws.1 wr few_s few_r all_letters (letters_are s r))

  rows_fine : All (AreFine total (length all_letters)) rows
  rows_fine = solution_fine total (length all_letters) all_equations
      (equations_fine ws.0 s r ws.1 wr few_s few_r all_letters (letters_are s r)) most_rank

  rows_grammar : IsGrammar s r all_letters rows
  rows_grammar = grammar_is ws.0 s r ws.1 wr few_s few_r all_letters (letters_are s r) rows rows_solve

  rows_length : length rows ≡ total
  rows_length = rows_solve.count ∙ equations_length all_letters (parts_of s r)

  rows_ruled : EachHasRule live rows
  rows_ruled = solved_ruled ws.0 s r ws.1 wr few_s few_r all_letters (letters_are s r) rows rows_solve

  -- the words and rules of this grammar
  rows_done : IsDone s r all_letters rows (word (numbers_by all_letters (parts_of s r)) (top_of s) s)
      (word (numbers_by all_letters (parts_of s r)) (top_of r) r)
  rows_done = record {
    translation = record { grammar = rows_grammar; left = refl; right = refl };
    left = stands ws.0 (numbers_by all_letters (parts_of s r)) all_letters rows s ws.1
        (known_left ws.0 s r ws.1 wr few_s few_r all_letters (letters_are s r)) rows_grammar.dead rows_grammar.left;
    right = stands wr.0 (numbers_by all_letters (parts_of s r)) all_letters rows r wr.1
        (known_right ws.0 s r ws.1 wr few_s few_r all_letters (letters_are s r)) rows_grammar.dead rows_grammar.right;
    range = record {
      rules = λ i d lt. subst (λ n. All (λ (q : Rule). WordBelow n q.word) (get_or rows i d)) (sym rows_length)
          (rows_fine i d lt).words;
      left = subst (λ n. WordBelow n (word (numbers_by all_letters (parts_of s r)) (top_of s) s)) (sym rows_length)
          (word_below all_letters (parts_of s r) total (omega arith) (top_of s) s
          (fit_left ws.0 s r ws.1 wr few_s few_r all_letters (letters_are s r)));
      right = subst (λ n. WordBelow n (word (numbers_by all_letters (parts_of s r)) (top_of r) r)) (sym rows_length)
          (word_below all_letters (parts_of s r) total (omega arith) (top_of r) r
          (fit_right ws.0 s r ws.1 wr few_s few_r all_letters (letters_are s r)));
      below = λ i d lt. (rows_fine i d lt).below;
      rising = (letters_are s r).0;
    };
    ruled = rows_ruled;
  }

  module _ (letters : List Label) (found : List Part) (equations : List Equation) (letters_is : letters ≡ all_letters)
      (found_is : found ≡ parts_of s r) (equations_is : equations ≡ equations_by letters found) where
    same_equations : equations ≡ all_equations
    same_equations = equations_is ∙ λ i. equations_by (letters_is i) (found_is i)

    pub is_grounded : HasRanks equations
    is_grounded = record {
      rank = rank all_letters (parts_of s r) (seated ws.0 s r ws.1 wr few_s few_r all_letters (letters_are s r));
      grounded = subst (IsGrounded (rank all_letters (parts_of s r)
          (seated ws.0 s r ws.1 wr few_s few_r all_letters (letters_are s r))) most_rank) (sym same_equations)
          (equations_grounded ws.0 s r ws.1 wr few_s few_r all_letters (letters_are s r));
    }

    is_solved : Solves rows equations
    is_solved = subst (Solves rows) (sym same_equations) rows_solve

    pub is_ordered : HasOrderedRows equations
    is_ordered = record { rows = rows; solves = is_solved; ordered = λ i d lt. (rows_fine i d lt).ordered }

    pub is_too_large : ((others : Productions) → Solves others equations → most_letters < right_sides others) → IsTooLarge s r
    is_too_large h = inr (record { letters = all_letters; rows = rows; grammar = rows_grammar; over = h rows is_solved })

    pub is_done : (rules : Productions) (u v : List ℕ) →
        ((others : Productions) → Solves others equations → rules ≡ others) → u ≡ word (numbers_by letters found) (top_of s) s →
        v ≡ word (numbers_by letters found) (top_of r) r → IsDone s r letters rules u v
    is_done rules u v h left right =
        let ls : letters ≡ all_letters = letters_is in
        let rs : rules ≡ rows = h rows is_solved in
        let us : u ≡ word (numbers_by all_letters (parts_of s r)) (top_of s) s = left
        ∙ λ i. word (numbers_by (letters_is i) (found_is i)) (top_of s) s in
        let vs : v ≡ word (numbers_by all_letters (parts_of s r)) (top_of r) r = right
        ∙ λ i. word (numbers_by (letters_is i) (found_is i)) (top_of r) r in
        let path : ◌≡◌ {A = Type 0} (IsDone s r letters rules u v)
        (IsDone s r all_letters rows (word (numbers_by all_letters (parts_of s r)) (top_of s) s)
        (word (numbers_by all_letters (parts_of s r)) (top_of r) r)) =
        λ i. IsDone s r (ls i) (rs i) (us i) (vs i) in
        subst (λ T. T) (sym path) rows_done
