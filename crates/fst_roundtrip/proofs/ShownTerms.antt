-- The text of a term is read as the same term at other places.
use Rattle.std.proofs.Common.{◌≡◌, ◌≤◌, ℕ, true, List, [], ◌∷◌, refl, arith}
use Rattle.std.specs.Prelude.{codes, ⊤}
use Rattle.fst_terms.specs.declared.term.Op.{Op}
use Rattle.fst_terms.specs.declared.term.Op.TheVariants.{Add, Subtract, Multiply, Equal, Unequal, Less, AtMost, Greater, AtLeast, And, Or}
use Rattle.fst_terms.specs.TermTree as term
use Rattle.fst_terms.specs.TermTree.{TermTree, TermList, no_terms, TermArms, no_arms, arm}
use Rattle.fst_module_grammar.specs.Grammar as grammar
use Rattle.fst_module_grammar.specs.Grammar.{IsExpr, IsAtom, IsHead}
use Rattle.fst_type_print.specs.Texts.{in_parens_if, joined_text}
use Rattle.fst_type_print.specs.WrittenTexts.{seq_text, atom_text}
use Rattle.fst_print.specs.ModuleTexts.{term_text, arguments_text, arm_texts}
use Rattle.fst_roundtrip.proofs.Showable.{IsShowable, AreShowable, AreShowableCases, AreShowableMatches}
use Rattle.fst_roundtrip.proofs.Spelled.{Reads, EndsName}
use Rattle.fst_roundtrip.proofs.ShownWords.{reshown}
use Rattle.fst_roundtrip.proofs.ShownTypes.{seq_type_shown, atom_type_shown}
use Rattle.fst_roundtrip.proofs.ShownRanks.{ShownTerm, IsRank, RankedTerm, no_head, plain_head, whole, ranked, applied}
use Rattle.fst_roundtrip.proofs.ShownAtoms.{number_shown, character_shown, truth_shown, unit_shown, named_shown, pair_shown}
use Rattle.fst_roundtrip.proofs.ShownForms.{let_shown, split_shown, if_shown, lambda_shown, negate_shown, new_shown, receive_shown, close_shown, wait_shown, fork_shown, send_shown, select_shown}
use Rattle.fst_roundtrip.proofs.ShownChains.{operate_shown, seq_shown, apply_shown, ShownTerms, last_argument, further_argument, constructor_shown, make_shown}
use Rattle.fst_roundtrip.proofs.ShownArms.{ShownCases, ShownMatches, last_case_shown, further_case_shown, last_match_shown, further_match_shown, case_shown, match_shown}
use Rattle.fst_print.specs.Ranks.{or_rank, negation_rank, atom_rank, left_rank, right_rank, is_below, is_no_head}

-- an operator takes no atoms alone, and isn't applied
left_small : (o : Op) → left_rank o ≤ atom_rank
left_small Add = omega arith
left_small Subtract = omega arith
left_small Multiply = omega arith
left_small Equal = omega arith
left_small Unequal = omega arith
left_small Less = omega arith
left_small AtMost = omega arith
left_small Greater = omega arith
left_small AtLeast = omega arith
left_small And = omega arith
left_small Or = omega arith

right_small : (o : Op) → right_rank o ≤ atom_rank
right_small Add = omega arith
right_small Subtract = omega arith
right_small Multiply = omega arith
right_small Equal = omega arith
right_small Unequal = omega arith
right_small Less = omega arith
right_small AtMost = omega arith
right_small Greater = omega arith
right_small AtLeast = omega arith
right_small And = omega arith
right_small Or = omega arith

operator_no_head : (at : ℕ) (o : Op) (s t : TermTree) → is_no_head (term.operate at o s t) ≡ true
operator_no_head at Add s t = refl
operator_no_head at Subtract s t = refl
operator_no_head at Multiply s t = refl
operator_no_head at Equal s t = refl
operator_no_head at Unequal s t = refl
operator_no_head at Less s t = refl
operator_no_head at AtMost s t = refl
operator_no_head at Greater s t = refl
operator_no_head at AtLeast s t = refl
operator_no_head at And s t = refl
operator_no_head at Or s t = refl

-- the text of a term that stands where the grammar takes only forms of a rank
abbrev text_at : ℕ → TermTree → List ℕ
text_at n t = in_parens_if (is_below n t) (term_text t)

at_rank : (n : ℕ) (t : TermTree) → n ≤ atom_rank → Reads EndsName (term_text t) (RankedTerm t) →
    Reads EndsName (text_at n t) (ShownTerm (IsRank n) t)
at_rank n t h r = ranked n (term_text t) t h r

atom : (t : TermTree) → Reads EndsName (term_text t) (RankedTerm t) → Reads EndsName (text_at atom_rank t) (ShownTerm IsAtom t)
atom t r = ranked atom_rank (term_text t) t (omega arith) r

expr : (t : TermTree) → Reads EndsName (term_text t) (RankedTerm t) → Reads EndsName (term_text t) (ShownTerm IsExpr t)
expr t r = whole (term_text t) t r

-- there is an argument
abbrev HasOne : TermList → Type 0
HasOne no_terms = ⊥
HasOne (term.term t args) = ⊤

mutual
  shown : (t : TermTree) → IsShowable t → Reads EndsName (term_text t) (RankedTerm t)
  shown (term.named at x types) h = plain_head _ (term.named at x types) refl (named_shown at x types h.0 h.1)
  shown (term.int at n) h = plain_head _ (term.int at n) refl (number_shown at n h.0 h.1)
  shown (term.bool at b) h = plain_head _ (term.bool at b) refl (truth_shown at b)
  shown (term.char at c) h = plain_head _ (term.char at c) refl (character_shown at c h.0 h.1)
  shown (term.unit at) h = plain_head _ (term.unit at) refl (unit_shown at)
  shown (term.pair at s t) h = plain_head _ (term.pair at s t) refl
      (pair_shown at (term_text s) (term_text t) s t (expr s (shown s h.0)) (expr t (shown t h.1)))
  shown (term.make at x no_terms) h = no_head _ (term.make at x no_terms) refl (constructor_shown at x h.0)
  shown (term.make at x (term.term t args)) h =
      no_head _ (term.make at x (term.term t args)) refl
      (make_shown at x (arguments_text (term.term t args)) (term.term t args) h.0
      (λ rest. refl) (all_shown (term.term t args) tt h.1))
  shown (term.lambda at u a x t) h =
      no_head _ (term.lambda at u a x t) refl (lambda_shown at u (seq_text a) (term_text t) x a t h.1 (seq_type_shown a h.0)
      (expr t (shown t h.2)))
  shown (term.apply at s t) h =
      reshown (term_text (term.apply at s t)) (term.apply at s t) (λ ts u x. (grammar.head ts u x, λ e. x))
      (apply_shown at (in_parens_if (is_no_head s) (term_text s)) (text_at atom_rank t) s t
      (applied (term_text s) s (shown s h.0)) (atom t (shown t h.1)))
  shown (term.let_in at x s t) h = no_head _ (term.let_in at x s t) refl
      (let_shown at x (term_text s) (term_text t) s t h.0 (expr s (shown s h.1)) (expr t (shown t h.2)))
  shown (term.split at x y s t) h =
      no_head _ (term.split at x y s t) refl (split_shown at x y (term_text s) (term_text t) s t h.0 h.1 (expr s (shown s h.2))
      (expr t (shown t h.3)))
  shown (term.if_else at s t u) h =
      no_head _ (term.if_else at s t u) refl (if_shown at (term_text s) (term_text t) (term_text u) s t u (expr s (shown s h.0))
      (expr t (shown t h.1)) (expr u (shown u h.2)))
  shown (term.case_of at t bs) h =
      no_head _ (term.case_of at t bs) refl (case_shown at (term_text t) (joined_text (codes ", ") (arm_texts bs)) t bs
      (expr t (shown t h.0)) (cases_shown bs h.1))
  shown (term.operate at o s t) h =
      no_head _ (term.operate at o s t) (operator_no_head at o s t)
      (operate_shown at o (text_at (left_rank o) s) (text_at (right_rank o) t) s t
      (at_rank (left_rank o) s (left_small o) (shown s h.0)) (at_rank (right_rank o) t (right_small o) (shown t h.1)))
  shown (term.negate at t) h = no_head _ (term.negate at t) refl
      (negate_shown at (text_at negation_rank t) t (at_rank negation_rank t (omega arith) (shown t h)))
  shown (term.new at a) h = no_head _ (term.new at a) refl (new_shown at (atom_text a) a (atom_type_shown a h))
  shown (term.send at s t) h = no_head _ (term.send at s t) refl
      (send_shown at (text_at atom_rank s) (text_at atom_rank t) s t (atom s (shown s h.0)) (atom t (shown t h.1)))
  shown (term.receive at t) h = no_head _ (term.receive at t) refl (receive_shown at (text_at atom_rank t) t (atom t (shown t h)))
  shown (term.close at t) h = no_head _ (term.close at t) refl (close_shown at (text_at atom_rank t) t (atom t (shown t h)))
  shown (term.wait at t) h = no_head _ (term.wait at t) refl (wait_shown at (text_at atom_rank t) t (atom t (shown t h)))
  shown (term.select at l t) h = no_head _ (term.select at l t) refl
      (select_shown at l (text_at atom_rank t) t h.0 (atom t (shown t h.1)))
  shown (term.match_with at t bs) h =
      no_head _ (term.match_with at t bs) refl (match_shown at (term_text t) (joined_text (codes ", ") (arm_texts bs)) t bs
      (expr t (shown t h.0)) (matches_shown bs h.1))
  shown (term.fork at t) h = no_head _ (term.fork at t) refl (fork_shown at (text_at atom_rank t) t (atom t (shown t h)))
  shown (term.seq at s t) h = no_head _ (term.seq at s t) refl
      (seq_shown at (text_at or_rank s) (term_text t) s t (at_rank or_rank s (omega arith) (shown s h.0)) (expr t (shown t h.1)))

  -- the arguments of a constructor
  all_shown : (args : TermList) → HasOne args → AreShowable args → Reads EndsName (arguments_text args) (ShownTerms args)
  all_shown no_terms some h = absurd some
  all_shown (term.term t no_terms) some h = last_argument (text_at atom_rank t) t (atom t (shown t h.0))
  all_shown (term.term t (term.term u args)) some h =
      further_argument (text_at atom_rank t) (arguments_text (term.term u args)) t (term.term u args) (atom t (shown t h.0))
      (λ rest. refl) (all_shown (term.term u args) tt h.1)

  -- the arms of a case, and of a match
  cases_shown : (bs : TermArms) → AreShowableCases bs → Reads EndsName (joined_text (codes ", ") (arm_texts bs)) (ShownCases bs)
  cases_shown no_arms h = absurd h
  cases_shown (arm l xs t no_arms) h = last_case_shown l xs (term_text t) t h.0 h.1 (expr t (shown t h.2))
  cases_shown (arm l xs t (arm m ys u bs)) h =
      further_case_shown l xs (term_text t) (joined_text (codes ", ") (arm_texts (arm m ys u bs))) t (arm m ys u bs) h.0 h.1
      (expr t (shown t h.2)) (cases_shown (arm m ys u bs) h.3)

  matches_shown : (bs : TermArms) → AreShowableMatches bs →
      Reads EndsName (joined_text (codes ", ") (arm_texts bs)) (ShownMatches bs)
  matches_shown no_arms h = absurd h
  matches_shown (arm l [] t bs) h = absurd h
  matches_shown (arm l (x ∷ y ∷ xs) t bs) h = absurd h
  matches_shown (arm l (x ∷ []) t no_arms) h = last_match_shown l x (term_text t) t h.0 h.1 (expr t (shown t h.2))
  matches_shown (arm l (x ∷ []) t (arm m ys u bs)) h =
      further_match_shown l x (term_text t) (joined_text (codes ", ") (arm_texts (arm m ys u bs))) t (arm m ys u bs) h.0 h.1
      (expr t (shown t h.2)) (matches_shown (arm m ys u bs) h.3)

-- the text of a term is read as this term
pub term_shown : (t : TermTree) → IsShowable t → Reads EndsName (term_text t) (ShownTerm IsExpr t)
term_shown t h = expr t (shown t h)
