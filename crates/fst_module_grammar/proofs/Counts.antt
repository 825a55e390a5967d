-- Each token of a term has a nesting.
use Rattle.std.proofs.Common.{◌≡◌, ℕ, suc, ◌+◌, List, [], ◌∷◌, ◌++◌, length, refl, ap, arith, length-append}
use Rattle.fst_types.specs.WrittenTree.{WrittenTree}
use Rattle.fst_terms.specs.TermTree.{TermTree, TermList, TermArms}
use Rattle.fst_reading.specs.Lexeme.{Lexeme}
use Rattle.fst_type_syntax.specs.Nesting.{seq_nests, atom_nests as type_atom_nests}
use Rattle.fst_type_syntax.proofs.Laws.{seq_count, atom_count as type_atom_count}
use Rattle.fst_module_grammar.specs.Grammar.{AreApplied, none, applied, IsExpr, let_in, split, if_else, lambda, case_of, match_with, one_or, seq, AreCases, last_case, further_case, AreMatches, last_match, further_match, IsOr, one_and, more_or, IsAnd, one_cmp, more_and, IsCmp, one_sum, compare, IsSum, one_prod, more_sum, IsProd, one_unary, more_prod, IsUnary, one_app, negate, IsApp, send, receive, close, wait, select, new, fork, make, head, IsHead, one_plain, apply, AreAtoms, no_atoms, atom, IsAtom, constructor, plain, IsPlain, named, number, character, yes, no, unit, group, pair}
use Rattle.fst_module_grammar.specs.Nesting.{applied_nests, or_operands, and_operands, sum_operands, prod_operands, head_operands, expr_nests, cases_nests, matches_nests, or_nests, and_nests, cmp_nests, sum_nests, prod_nests, unary_nests, app_nests, head_nests, atoms_nests, atom_nests, plain_nests}
use Rattle.fst_reading.specs.Faults.{level}
use Rattle.fst_reading.proofs.Words.{level_count}

pub applied_count : (n : ℕ) {ts : List Lexeme} {types : List WrittenTree} (s : AreApplied ts types) →
    length (applied_nests n s) ≡ length ts
applied_count n none = refl
applied_count n (applied k ts us all t types is a d parts) =
    omega (
      arith,
      type_atom_count n a,
      applied_count n d,
      ap length parts,
      length-append ts us,
      length-append (type_atom_nests n a) (applied_nests n d),
    )

mutual
  pub expr_count : (n : ℕ) {ts : List Lexeme} {t : TermTree} (s : IsExpr ts t) → length (expr_nests n s) ≡ length ts
  expr_count n (let_in k x e i ts us all t u is name equals d of_in f parts) =
      omega (
        arith,
        expr_count (suc n) d,
        expr_count (suc n) f,
        ap length parts,
        length-append ts (i ∷ us),
        length-append (expr_nests (suc n) d) (n ∷ expr_nests (suc n) f),
      )
  expr_count n (split k o x m y c e i ts us all t u is opens left comma right closes equals d of_in f parts) =
      omega (
        arith,
        expr_count (suc n) d,
        expr_count (suc n) f,
        ap length parts,
        length-append ts (i ∷ us),
        length-append (expr_nests (suc n) d) (n ∷ expr_nests (suc n) f),
      )
  expr_count n (if_else k h e ts us vs all t u v is d then_is f else_is g parts) =
      omega (
        arith,
        expr_count (suc n) d,
        expr_count (suc n) f,
        expr_count (suc n) g,
        ap length parts,
        length-append ts (h ∷ (us ++ e ∷ vs)),
        length-append us (e ∷ vs),
        length-append (expr_nests (suc n) d) (n ∷ (expr_nests (suc n) f ++ n ∷ expr_nests (suc n) g)),
        length-append (expr_nests (suc n) f) (n ∷ expr_nests (suc n) g),
      )
  expr_count n (lambda k x c ts ks us all t uses u is name colon s a d parts) =
      omega (
        arith,
        seq_count (suc n) s,
        level_count n ks,
        expr_count (suc n) d,
        ap length parts,
        length-append ts (ks ++ us),
        length-append ks us,
        length-append (seq_nests (suc n) s) (level n ks ++ expr_nests (suc n) d),
        length-append (level n ks) (expr_nests (suc n) d),
      )
  expr_count n (case_of k f o c ts us all t arms is d of_is opens a closes parts) =
      omega (
        arith,
        expr_count (suc n) d,
        cases_count n a,
        ap length parts,
        length-append ts (f ∷ o ∷ us ++ c ∷ []),
        length-append us (c ∷ []),
        length-append (expr_nests (suc n) d) (n ∷ n ∷ cases_nests n a ++ n ∷ []),
        length-append (cases_nests n a) (n ∷ []),
      )
  expr_count n (match_with k w o c ts us all t arms is d with_is opens a closes parts) =
      omega (
        arith,
        expr_count (suc n) d,
        matches_count n a,
        ap length parts,
        length-append ts (w ∷ o ∷ us ++ c ∷ []),
        length-append us (c ∷ []),
        length-append (expr_nests (suc n) d) (n ∷ n ∷ matches_nests n a ++ n ∷ []),
        length-append (matches_nests n a) (n ∷ []),
      )
  expr_count n (one_or ts t d) = or_count n d
  expr_count n (seq ts us all k t u d is f parts) =
      omega (
        arith,
        or_count n d,
        expr_count (suc n) f,
        ap length parts,
        length-append ts (k ∷ us),
        length-append (or_nests n d) (n ∷ expr_nests (suc n) f),
      )

  pub cases_count : (n : ℕ) {ts : List Lexeme} {arms : TermArms} (s : AreCases ts arms) → length (cases_nests n s) ≡ length ts
  cases_count n (last_case l a xs ts all binders t is names arrow d parts) =
      omega (
        arith,
        level_count n xs,
        expr_count (suc n) d,
        ap length parts,
        length-append xs (a ∷ ts),
        length-append (level n xs) (n ∷ expr_nests (suc n) d),
      )
  cases_count n (further_case l a m xs ts us all binders t arms is names arrow d comma f parts) =
      omega (
        arith,
        level_count n xs,
        expr_count (suc n) d,
        cases_count n f,
        ap length parts,
        length-append xs (a ∷ (ts ++ m ∷ us)),
        length-append ts (m ∷ us),
        length-append (level n xs) (n ∷ (expr_nests (suc n) d ++ n ∷ cases_nests n f)),
        length-append (expr_nests (suc n) d) (n ∷ cases_nests n f),
      )

  pub matches_count : (n : ℕ) {ts : List Lexeme} {arms : TermArms} (s : AreMatches ts arms) →
      length (matches_nests n s) ≡ length ts
  matches_count n (last_match l x a ts t is name arrow d) = omega (arith, expr_count (suc n) d)
  matches_count n (further_match l x a m ts us all t arms is name arrow d comma f parts) =
      omega (
        arith,
        expr_count (suc n) d,
        matches_count n f,
        ap length parts,
        length-append ts (m ∷ us),
        length-append (expr_nests (suc n) d) (n ∷ matches_nests n f),
      )

  pub or_count : (n : ℕ) {ts : List Lexeme} {t : TermTree} (s : IsOr ts t) → length (or_nests n s) ≡ length ts
  or_count n (one_and ts t a) = and_count n a
  or_count n (more_or ts us all k t u d is a parts) =
      let e = n + or_operands d in
      omega (
        arith,
        or_count n d,
        and_count e a,
        ap length parts,
        length-append ts (k ∷ us),
        length-append (or_nests n d) (e ∷ and_nests e a),
      )

  pub and_count : (n : ℕ) {ts : List Lexeme} {t : TermTree} (s : IsAnd ts t) → length (and_nests n s) ≡ length ts
  and_count n (one_cmp ts t a) = cmp_count n a
  and_count n (more_and ts us all k t u d is a parts) =
      let e = n + and_operands d in
      omega (
        arith,
        and_count n d,
        cmp_count e a,
        ap length parts,
        length-append ts (k ∷ us),
        length-append (and_nests n d) (e ∷ cmp_nests e a),
      )

  pub cmp_count : (n : ℕ) {ts : List Lexeme} {t : TermTree} (s : IsCmp ts t) → length (cmp_nests n s) ≡ length ts
  cmp_count n (one_sum ts t a) = sum_count n a
  cmp_count n (compare ts us all k o t u d is a parts) =
      omega (
        arith,
        sum_count n d,
        sum_count n a,
        ap length parts,
        length-append ts (k ∷ us),
        length-append (sum_nests n d) (n ∷ sum_nests n a),
      )

  pub sum_count : (n : ℕ) {ts : List Lexeme} {t : TermTree} (s : IsSum ts t) → length (sum_nests n s) ≡ length ts
  sum_count n (one_prod ts t a) = prod_count n a
  sum_count n (more_sum ts us all k o t u d is a parts) =
      let e = n + sum_operands d in
      omega (
        arith,
        sum_count n d,
        prod_count e a,
        ap length parts,
        length-append ts (k ∷ us),
        length-append (sum_nests n d) (e ∷ prod_nests e a),
      )

  pub prod_count : (n : ℕ) {ts : List Lexeme} {t : TermTree} (s : IsProd ts t) → length (prod_nests n s) ≡ length ts
  prod_count n (one_unary ts t a) = unary_count n a
  prod_count n (more_prod ts us all k t u d is a parts) =
      let e = n + prod_operands d in
      omega (
        arith,
        prod_count n d,
        unary_count e a,
        ap length parts,
        length-append ts (k ∷ us),
        length-append (prod_nests n d) (e ∷ unary_nests e a),
      )

  pub unary_count : (n : ℕ) {ts : List Lexeme} {t : TermTree} (s : IsUnary ts t) → length (unary_nests n s) ≡ length ts
  unary_count n (one_app ts t a) = app_count n a
  unary_count n (negate k ts t is d) = ap suc (unary_count (suc n) d)

  pub app_count : (n : ℕ) {ts : List Lexeme} {t : TermTree} (s : IsApp ts t) → length (app_nests n s) ≡ length ts
  app_count n (send k ts us all t u is a b parts) =
      omega (
        arith,
        atom_count (suc n) a,
        atom_count (suc (suc n)) b,
        ap length parts,
        length-append ts us,
        length-append (atom_nests (suc n) a) (atom_nests (suc (suc n)) b),
      )
  app_count n (receive k ts t is a) = ap suc (atom_count (suc n) a)
  app_count n (close k ts t is a) = ap suc (atom_count (suc n) a)
  app_count n (wait k ts t is a) = ap suc (atom_count (suc n) a)
  app_count n (select k l ts t is label a) = omega (arith, atom_count (suc (suc n)) a)
  app_count n (new k ts t is a) = ap suc (type_atom_count (suc n) a)
  app_count n (fork k ts t is a) = ap suc (atom_count (suc n) a)
  app_count n (make k ts args is d) = ap suc (atoms_count (suc n) d)
  app_count n (head ts t d) = head_count n d

  pub head_count : (n : ℕ) {ts : List Lexeme} {t : TermTree} (s : IsHead ts t) → length (head_nests n s) ≡ length ts
  head_count n (one_plain ts t a) = plain_count n a
  head_count n (apply ts us all t u d a parts) =
      let e = n + head_operands d in
      omega (
        arith,
        head_count n d,
        atom_count e a,
        ap length parts,
        length-append ts us,
        length-append (head_nests n d) (atom_nests e a),
      )

  pub atoms_count : (n : ℕ) {ts : List Lexeme} {args : TermList} (s : AreAtoms ts args) → length (atoms_nests n s) ≡ length ts
  atoms_count n no_atoms = refl
  atoms_count n (atom ts us all t args a d parts) =
      omega (
        arith,
        atom_count n a,
        atoms_count (suc n) d,
        ap length parts,
        length-append ts us,
        length-append (atom_nests n a) (atoms_nests (suc n) d),
      )

  pub atom_count : (n : ℕ) {ts : List Lexeme} {t : TermTree} (s : IsAtom ts t) → length (atom_nests n s) ≡ length ts
  atom_count n (constructor k is) = refl
  atom_count n (plain ts t a) = plain_count n a

  pub plain_count : (n : ℕ) {ts : List Lexeme} {t : TermTree} (s : IsPlain ts t) → length (plain_nests n s) ≡ length ts
  plain_count n (named k ts types is d) = ap suc (applied_count n d)
  plain_count n (number k m is) = refl
  plain_count n (character k c is) = refl
  plain_count n (yes k is) = refl
  plain_count n (no k is) = refl
  plain_count n (unit o c opens closes) = refl
  plain_count n (group o c ts all t opens d closes parts) =
      omega (
        arith,
        expr_count (suc n) d,
        ap length parts,
        length-append ts (c ∷ []),
        length-append (expr_nests (suc n) d) (n ∷ []),
      )
  plain_count n (pair o m c ts us all t u opens d comma f closes parts) =
      omega (
        arith,
        expr_count (suc n) d,
        expr_count (suc n) f,
        ap length parts,
        length-append ts (m ∷ (us ++ c ∷ [])),
        length-append us (c ∷ []),
        length-append (expr_nests (suc n) d) (n ∷ (expr_nests (suc n) f ++ n ∷ [])),
        length-append (expr_nests (suc n) f) (n ∷ []),
      )
