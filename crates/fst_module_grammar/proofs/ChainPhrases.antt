-- The chains of terms, put together in the way in which they are read.
use Rattle.std.proofs.Common.{◌≡◌, ℕ, suc, ◌+◌, Bool, true, false, List, ◌∷◌, ◌++◌, Option, Some, None, refl, sym, ap, subst}
use Rattle.std.specs.Prelude.{codes}
use Rattle.fst_terms.specs.declared.term.Op.{Op}
use Rattle.fst_terms.specs.declared.term.Op.TheVariants as op
use Rattle.fst_terms.specs.TermTree as term
use Rattle.fst_terms.specs.TermTree.{TermTree}
use Rattle.fst_reading.specs.Lexeme.{Lexeme, spells, Is, start}
use Rattle.fst_reading.specs.Faults.{Phrase}
use Rattle.fst_reading.proofs.Tokens.{no_other}
use Rattle.fst_base.specs.Choice.{choose}
use Rattle.fst_reading.proofs.Phrases.{Mapped, made, Switch, first}
use Rattle.fst_module_grammar.specs.Grammar.{IsAddition, add, subtract, IsOr, one_and, more_or, IsAnd, one_cmp, more_and, IsCmp, IsSum, one_prod, more_sum, IsProd, one_unary, more_prod, IsUnary, IsHead, one_plain, apply, IsAtom, IsPlain}
use Rattle.fst_module_grammar.specs.Nesting.{or_nests, or_operands, and_nests, and_operands, cmp_nests, sum_nests, sum_operands, prod_nests, prod_operands, unary_nests, head_nests, head_operands, atom_nests, plain_nests}
use Rattle.fst_module_grammar.specs.TermReading.{operator, addition}
use Rattle.fst_module_grammar.proofs.Lefts.{Left, head, more}

-- an operator and an operand behind it, where this much nests both
abbrev pub Step : (Lexeme → Option Op) → (ℕ → Phrase TermTree) → ℕ → ℕ → TermTree → Phrase TermTree
Step p P at e t = Switch e p (λ o k. Mapped (term.operate at o t) (P e))

abbrev some_op : Op → Option Op
some_op o = Some o

-- which token is the one operator
pub operator_is : (w : List ℕ) (o : Op) (k : Lexeme) (x : Op) → operator w o k ≡ Some x → Is w k × (o ≡ x)
unfolding operator choose
operator_is w o k x e = by_test (spells w k) refl e
  where
    by_test : (b : Bool) → spells w k ≡ b → choose b (some_op o) None ≡ Some x → Is w k × (o ≡ x)
    by_test true is g = (is, (let same : o ≡ x = cc in same))
    by_test false is g = absurd cc

pub is_operator : (w : List ℕ) (o : Op) (k : Lexeme) → Is w k → operator w o k ≡ Some o
unfolding operator choose
is_operator w o k is = rw is refl

abbrev pub UnaryP : ℕ → Phrase TermTree
UnaryP d ts t ns = (s : IsUnary ts t) × (unary_nests d s ≡ ns)

abbrev pub ProdP : ℕ → Phrase TermTree
ProdP d ts t ns = (s : IsProd ts t) × (prod_nests d s ≡ ns)

abbrev pub SumP : ℕ → Phrase TermTree
SumP d ts t ns = (s : IsSum ts t) × (sum_nests d s ≡ ns)

abbrev pub CmpP : ℕ → Phrase TermTree
CmpP d ts t ns = (s : IsCmp ts t) × (cmp_nests d s ≡ ns)

abbrev pub AndP : ℕ → Phrase TermTree
AndP d ts t ns = (s : IsAnd ts t) × (and_nests d s ≡ ns)

abbrev pub OrP : ℕ → Phrase TermTree
OrP d ts t ns = (s : IsOr ts t) × (or_nests d s ≡ ns)

abbrev pub AtomP : ℕ → Phrase TermTree
AtomP d ts t ns = (s : IsAtom ts t) × (atom_nests d s ≡ ns)

abbrev pub PlainP : ℕ → Phrase TermTree
PlainP d ts t ns = (s : IsPlain ts t) × (plain_nests d s ≡ ns)

-- the chain of `*`
abbrev pub ProdLeft : ℕ → ℕ → Phrase TermTree
ProdLeft d = Left (UnaryP d) (Step (operator (codes "*") op.Multiply) UnaryP) d

pub prod_to : (d c : ℕ) (ts : List Lexeme) (t : TermTree) (ns : List ℕ) → ProdLeft d c ts t ns → (s : IsProd ts t) ×
    (prod_nests d s ≡ ns) × (prod_operands s ≡ c)
prod_to d _ _ _ _ (head ts t ns p) = (one_unary ts t p.0, p.1, refl)
prod_to d _ _ _ _ (more c ts us all t y ns ms all_nests l (first k o vs _ ks e (made _ u _ q)) parts nests) =
    let s = prod_to d c ts t ns l in
    let is = operator_is (codes "*") op.Multiply k o e in
    subst (λ z. (s : IsProd all (term.operate (start ts) z t u)) × (prod_nests d s ≡ all_nests) ×
    (prod_operands s ≡ suc c)) is.1 (
      more_prod ts vs all k t u s.0 is.0 q.0 parts,
      (let e2 : prod_nests d s.0 ++ (d + prod_operands s.0) ∷ unary_nests (d + prod_operands s.0) q.0 ≡ all_nests =
          rw (s.2, s.1, q.1) (sym nests) in e2),
      ap suc s.2,
    )

pub prod_from : (d : ℕ) (ts : List Lexeme) (t : TermTree) (s : IsProd ts t) → ProdLeft d (prod_operands s) ts t (prod_nests d s)
prod_from d _ _ (one_unary ts t a) = head ts t (unary_nests d a) (a, refl)
prod_from d _ _ (more_prod ts us all k t u s is a parts) =
    let e = d + prod_operands s in
    more (prod_operands s) ts (k ∷ us) all t _ (prod_nests d s) (e ∷ unary_nests e a) _ (prod_from d ts t s)
    (first k op.Multiply us _ (unary_nests e a) (is_operator (codes "*") op.Multiply k is) (made us u _ (a, refl))) parts refl

-- the chain of `&&`
abbrev pub AndLeft : ℕ → ℕ → Phrase TermTree
AndLeft d = Left (CmpP d) (Step (operator (codes "&&") op.And) CmpP) d

pub and_to : (d c : ℕ) (ts : List Lexeme) (t : TermTree) (ns : List ℕ) → AndLeft d c ts t ns → (s : IsAnd ts t) ×
    (and_nests d s ≡ ns) × (and_operands s ≡ c)
and_to d _ _ _ _ (head ts t ns p) = (one_cmp ts t p.0, p.1, refl)
and_to d _ _ _ _ (more c ts us all t y ns ms all_nests l (first k o vs _ ks e (made _ u _ q)) parts nests) =
    let s = and_to d c ts t ns l in
    let is = operator_is (codes "&&") op.And k o e in
    subst (λ z. (s : IsAnd all (term.operate (start ts) z t u)) × (and_nests d s ≡ all_nests) × (and_operands s ≡ suc c)) is.1 (
      more_and ts vs all k t u s.0 is.0 q.0 parts,
      (let e2 : and_nests d s.0 ++ (d + and_operands s.0) ∷ cmp_nests (d + and_operands s.0) q.0 ≡ all_nests =
          rw (s.2, s.1, q.1) (sym nests) in e2),
      ap suc s.2,
    )

pub and_from : (d : ℕ) (ts : List Lexeme) (t : TermTree) (s : IsAnd ts t) → AndLeft d (and_operands s) ts t (and_nests d s)
and_from d _ _ (one_cmp ts t a) = head ts t (cmp_nests d a) (a, refl)
and_from d _ _ (more_and ts us all k t u s is a parts) =
    let e = d + and_operands s in
    more (and_operands s) ts (k ∷ us) all t _ (and_nests d s) (e ∷ cmp_nests e a) _ (and_from d ts t s)
    (first k op.And us _ (cmp_nests e a) (is_operator (codes "&&") op.And k is) (made us u _ (a, refl))) parts refl

-- the chain of `||`
abbrev pub OrLeft : ℕ → ℕ → Phrase TermTree
OrLeft d = Left (AndP d) (Step (operator (codes "||") op.Or) AndP) d

pub or_to : (d c : ℕ) (ts : List Lexeme) (t : TermTree) (ns : List ℕ) → OrLeft d c ts t ns → (s : IsOr ts t) ×
    (or_nests d s ≡ ns) × (or_operands s ≡ c)
or_to d _ _ _ _ (head ts t ns p) = (one_and ts t p.0, p.1, refl)
or_to d _ _ _ _ (more c ts us all t y ns ms all_nests l (first k o vs _ ks e (made _ u _ q)) parts nests) =
    let s = or_to d c ts t ns l in
    let is = operator_is (codes "||") op.Or k o e in
    subst (λ z. (s : IsOr all (term.operate (start ts) z t u)) × (or_nests d s ≡ all_nests) × (or_operands s ≡ suc c)) is.1 (
      more_or ts vs all k t u s.0 is.0 q.0 parts,
      (let e2 : or_nests d s.0 ++ (d + or_operands s.0) ∷ and_nests
          (d + or_operands s.0) q.0 ≡ all_nests = rw (s.2, s.1, q.1) (sym nests) in e2),
      ap suc s.2,
    )

pub or_from : (d : ℕ) (ts : List Lexeme) (t : TermTree) (s : IsOr ts t) → OrLeft d (or_operands s) ts t (or_nests d s)
or_from d _ _ (one_and ts t a) = head ts t (and_nests d a) (a, refl)
or_from d _ _ (more_or ts us all k t u s is a parts) =
    let e = d + or_operands s in
    more (or_operands s) ts (k ∷ us) all t _ (or_nests d s) (e ∷ and_nests e a) _ (or_from d ts t s)
    (first k op.Or us _ (and_nests e a) (is_operator (codes "||") op.Or k is) (made us u _ (a, refl))) parts refl

pub addition_is : (k : Lexeme) (o : Op) → addition k ≡ Some o → IsAddition k o
unfolding addition choose
addition_is k o e = by_plus (spells (codes "+") k) refl e
  where
    by_minus : (b : Bool) → spells (codes "-") k ≡ b → choose b (some_op op.Subtract) None ≡ Some o → IsAddition k o
    by_minus true is g = let same : op.Subtract ≡ o = cc in subst (λ z. IsAddition k z) same (subtract k is)
    by_minus false is g = absurd cc

    by_plus : (b : Bool) → spells (codes "+") k ≡ b →
        choose b (some_op op.Add) (choose (spells (codes "-") k) (some_op op.Subtract) None) ≡ Some o → IsAddition k o
    by_plus true is g = let same : op.Add ≡ o = cc in subst (λ z. IsAddition k z) same (add k is)
    by_plus false is g = by_minus (spells (codes "-") k) refl g

pub is_addition : (k : Lexeme) (o : Op) → IsAddition k o → addition k ≡ Some o
unfolding addition choose
is_addition _ _ (add k is) = rw is refl
is_addition _ _ (subtract k is) = rw (no_other (codes "-") (codes "+") k refl is, is) refl

-- the chain of `+` and `-`
abbrev pub SumLeft : ℕ → ℕ → Phrase TermTree
SumLeft d = Left (ProdP d) (Step addition ProdP) d

pub sum_to : (d c : ℕ) (ts : List Lexeme) (t : TermTree) (ns : List ℕ) → SumLeft d c ts t ns → (s : IsSum ts t) ×
    (sum_nests d s ≡ ns) × (sum_operands s ≡ c)
sum_to d _ _ _ _ (head ts t ns p) = (one_prod ts t p.0, p.1, refl)
sum_to d _ _ _ _ (more c ts us all t y ns ms all_nests l (first k o vs _ ks e (made _ u _ q)) parts nests) =
    let s = sum_to d c ts t ns l in (
      more_sum ts vs all k o t u s.0 (addition_is k o e) q.0 parts,
      (let e2 : sum_nests d s.0 ++ (d + sum_operands s.0) ∷ prod_nests (d + sum_operands s.0) q.0 ≡ all_nests =
          rw (s.2, s.1, q.1) (sym nests) in e2),
      ap suc s.2,
    )

pub sum_from : (d : ℕ) (ts : List Lexeme) (t : TermTree) (s : IsSum ts t) → SumLeft d (sum_operands s) ts t (sum_nests d s)
sum_from d _ _ (one_prod ts t a) = head ts t (prod_nests d a) (a, refl)
sum_from d _ _ (more_sum ts us all k o t u s is a parts) =
    let e = d + sum_operands s in
    more (sum_operands s) ts (k ∷ us) all t _ (sum_nests d s) (e ∷ prod_nests e a) _ (sum_from d ts t s)
    (first k o us _ (prod_nests e a) (is_addition k o is) (made us u _ (a, refl))) parts refl

-- an argument of a function
abbrev pub Argument : ℕ → ℕ → TermTree → Phrase TermTree
Argument at e t = Mapped (term.apply at t) (AtomP e)

-- a function with its arguments
abbrev pub HeadLeft : ℕ → ℕ → Phrase TermTree
HeadLeft d = Left (PlainP d) Argument d

pub head_to : (d c : ℕ) (ts : List Lexeme) (t : TermTree) (ns : List ℕ) → HeadLeft d c ts t ns → (s : IsHead ts t) ×
    (head_nests d s ≡ ns) × (head_operands s ≡ c)
head_to d _ _ _ _ (head ts t ns p) = (one_plain ts t p.0, p.1, refl)
head_to d _ _ _ _ (more c ts us all t y ns ms all_nests l (made _ u _ q) parts nests) =
    let s = head_to d c ts t ns l in (
      apply ts us all t u s.0 q.0 parts,
      (let e2 : head_nests d s.0 ++ atom_nests (d + head_operands s.0) q.0 ≡ all_nests =
          rw (s.2, s.1, q.1) (sym nests) in e2),
      ap suc s.2,
    )

pub head_from : (d : ℕ) (ts : List Lexeme) (t : TermTree) (s : IsHead ts t) → HeadLeft d (head_operands s) ts t (head_nests d s)
head_from d _ _ (one_plain ts t a) = head ts t (plain_nests d a) (a, refl)
head_from d _ _ (apply ts us all t u s a parts) =
    let e = d + head_operands s in
    more (head_operands s) ts us all t _ (head_nests d s) (atom_nests e a) _ (head_from d ts t s)
    (made us u _ (a, refl)) parts refl
