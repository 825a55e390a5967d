-- Which forms of terms stand in parentheses where: each form has a rank, and each place takes the forms from a rank on.
use Rattle.std.specs.Prelude.{ℕ, nat_lt, Bool, true, false}
use Rattle.fst_terms.specs.declared.term.Op.{Op}
use Rattle.fst_terms.specs.declared.term.Op.TheVariants.{Add, Subtract, Multiply, Equal, Unequal, Less, AtMost, Greater, AtLeast, And, Or}
use Rattle.fst_terms.specs.TermTree.{TermTree, named, int, bool, char, unit, pair, make, lambda, apply, let_in, split, if_else, case_of, operate, negate, new, send, receive, close, wait, select, match_with, fork, seq, TermList, no_terms, term}

-- a form that stands only where a whole term does: a function, `let`, `if`, `case`, `match` and `;`
abbrev pub whole_rank : ℕ
whole_rank = 0

-- a chain of `||`
abbrev pub or_rank : ℕ
or_rank = 1

-- a chain of `&&`
abbrev pub and_rank : ℕ
and_rank = 2

-- a comparison
abbrev pub comparison_rank : ℕ
comparison_rank = 3

-- a chain of `+` and `-`
abbrev pub sum_rank : ℕ
sum_rank = 4

-- a chain of `*`
abbrev pub product_rank : ℕ
product_rank = 5

-- `not` and what is behind it
abbrev pub negation_rank : ℕ
negation_rank = 6

-- an application
abbrev pub application_rank : ℕ
application_rank = 7

-- an atom
abbrev pub atom_rank : ℕ
atom_rank = 8

-- two terms with a sign between
abbrev pub op_rank : Op → ℕ
op_rank Or = or_rank
op_rank And = and_rank
op_rank Equal = comparison_rank
op_rank Unequal = comparison_rank
op_rank Less = comparison_rank
op_rank AtMost = comparison_rank
op_rank Greater = comparison_rank
op_rank AtLeast = comparison_rank
op_rank Add = sum_rank
op_rank Subtract = sum_rank
op_rank Multiply = product_rank

-- a constructor with arguments is an application, and one without is an atom
abbrev pub make_rank : TermList → ℕ
make_rank no_terms = atom_rank
make_rank (term t ts) = application_rank

-- a term by its form
abbrev pub rank : TermTree → ℕ
rank (named at x types) = atom_rank
rank (int at n) = atom_rank
rank (bool at b) = atom_rank
rank (char at c) = atom_rank
rank (unit at) = atom_rank
rank (pair at s t) = atom_rank
rank (make at x ts) = make_rank ts
rank (lambda at u a x t) = whole_rank
rank (apply at s t) = application_rank
rank (let_in at x s t) = whole_rank
rank (split at x y s t) = whole_rank
rank (if_else at s t u) = whole_rank
rank (case_of at t bs) = whole_rank
rank (operate at o s t) = op_rank o
rank (negate at t) = negation_rank
rank (new at a) = application_rank
rank (send at s t) = application_rank
rank (receive at t) = application_rank
rank (close at t) = application_rank
rank (wait at t) = application_rank
rank (select at l t) = application_rank
rank (match_with at t bs) = whole_rank
rank (fork at t) = application_rank
rank (seq at s t) = whole_rank

-- from which rank on the grammar takes forms on the left of a sign: a chain goes on with itself, a comparison doesn't
abbrev pub left_rank : Op → ℕ
left_rank Or = or_rank
left_rank And = and_rank
left_rank Equal = sum_rank
left_rank Unequal = sum_rank
left_rank Less = sum_rank
left_rank AtMost = sum_rank
left_rank Greater = sum_rank
left_rank AtLeast = sum_rank
left_rank Add = sum_rank
left_rank Subtract = sum_rank
left_rank Multiply = product_rank

-- and on its right
abbrev pub right_rank : Op → ℕ
right_rank Or = and_rank
right_rank And = comparison_rank
right_rank Equal = sum_rank
right_rank Unequal = sum_rank
right_rank Less = sum_rank
right_rank AtMost = sum_rank
right_rank Greater = sum_rank
right_rank AtLeast = sum_rank
right_rank Add = product_rank
right_rank Subtract = product_rank
right_rank Multiply = negation_rank

-- a term stands in parentheses where the grammar takes only forms from this rank on
abbrev pub is_below : ℕ → TermTree → Bool
is_below n t = nat_lt (rank t) n

-- the term stands in parentheses where it is applied: it is no application and no atom, or a constructor
abbrev pub is_no_head : TermTree → Bool
is_no_head (apply at s t) = false
is_no_head (make at x ts) = true
is_no_head t = is_below atom_rank t
