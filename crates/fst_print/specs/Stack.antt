-- What is still to be written of a term.
use Rattle.std.specs.Prelude.{ℕ, ◌+◌, List, [], ◌∷◌, ◌++◌, codes}
use Rattle.fst_terms.specs.TermTree.{TermTree, named, int, bool, char, unit, pair, make, lambda, apply, let_in, split, if_else, case_of, operate, negate, new, send, receive, close, wait, select, match_with, fork, seq, TermList, no_terms, term, TermArms, no_arms, arm}
use Rattle.fst_terms.specs.ModelView.{terms_of, arms_of}
use Rattle.fst_print.specs.declared.stack.Piece.{Piece}
use Rattle.fst_print.specs.declared.stack.Piece.TheVariants.{Text, Term, Arguments, Arms, LaterArms}
use Rattle.fst_print.specs.ModuleTexts.{term_text, arguments_text, arm_texts}
use Rattle.fst_type_print.specs.Texts.{joined_text, separated_text}

-- the text of a piece
abbrev pub piece_text : Piece → List ℕ
piece_text (Text s) = s.now
piece_text (Term t) = term_text t.now
piece_text (Arguments ts) = arguments_text (terms_of ts.now)
piece_text (Arms bs) = joined_text (codes ", ") (arm_texts (arms_of bs.now))
piece_text (LaterArms bs) = separated_text (codes ", ") (arm_texts (arms_of bs.now))

-- the text of a stack of pieces, of which the last is written first
abbrev pub pieces_text : List Piece → List ℕ
pieces_text [] = []
pieces_text (p ∷ ps) = pieces_text ps ++ piece_text p

-- more than how many pieces any form of a term is written in beside its parts
abbrev pub form_weight : ℕ
form_weight = 16

-- the same of one argument or arm
abbrev pub item_weight : ℕ
item_weight = 8

abbrev mutual
  -- more than how many pieces a term is written in
  pub term_weight : TermTree → ℕ
  term_weight (named at x types) = form_weight
  term_weight (int at n) = form_weight
  term_weight (bool at b) = form_weight
  term_weight (char at c) = form_weight
  term_weight (unit at) = form_weight
  term_weight (pair at s t) = form_weight + (term_weight s + term_weight t)
  term_weight (make at x ts) = form_weight + terms_weight ts
  term_weight (lambda at u a x t) = form_weight + term_weight t
  term_weight (apply at s t) = form_weight + (term_weight s + term_weight t)
  term_weight (let_in at x s t) = form_weight + (term_weight s + term_weight t)
  term_weight (split at x y s t) = form_weight + (term_weight s + term_weight t)
  term_weight (if_else at s t u) = form_weight + (term_weight s + (term_weight t + term_weight u))
  term_weight (case_of at t bs) = form_weight + (term_weight t + arms_weight bs)
  term_weight (operate at o s t) = form_weight + (term_weight s + term_weight t)
  term_weight (negate at t) = form_weight + term_weight t
  term_weight (new at a) = form_weight
  term_weight (send at s t) = form_weight + (term_weight s + term_weight t)
  term_weight (receive at t) = form_weight + term_weight t
  term_weight (close at t) = form_weight + term_weight t
  term_weight (wait at t) = form_weight + term_weight t
  term_weight (select at l t) = form_weight + term_weight t
  term_weight (match_with at t bs) = form_weight + (term_weight t + arms_weight bs)
  term_weight (fork at t) = form_weight + term_weight t
  term_weight (seq at s t) = form_weight + (term_weight s + term_weight t)

  -- the same of arguments
  pub terms_weight : TermList → ℕ
  terms_weight no_terms = 1
  terms_weight (term t ts) = item_weight + (term_weight t + terms_weight ts)

  -- the same of arms
  pub arms_weight : TermArms → ℕ
  arms_weight no_arms = 1
  arms_weight (arm l xs t bs) = item_weight + (term_weight t + arms_weight bs)

-- the same of a piece
abbrev pub piece_weight : Piece → ℕ
piece_weight (Text s) = 1
piece_weight (Term t) = term_weight t.now
piece_weight (Arguments ts) = terms_weight (terms_of ts.now)
piece_weight (Arms bs) = arms_weight (arms_of bs.now)
piece_weight (LaterArms bs) = arms_weight (arms_of bs.now)

-- the same of a stack of pieces
abbrev pub pieces_weight : List Piece → ℕ
pieces_weight [] = 0
pieces_weight (p ∷ ps) = piece_weight p + pieces_weight ps
