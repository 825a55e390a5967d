-- How deep a token of a module is nested: how many `expr`s and `seqtype`s enclose it, and for each chain that encloses it how
-- many operands stand before it there.
use Rattle.std.specs.Prelude.{ℕ, suc, ◌+◌, List, [], ◌∷◌, ◌++◌}
use Rattle.fst_types.specs.WrittenTree.{WrittenTree}
use Rattle.fst_terms.specs.TermTree.{TermTree, TermList, TermArms}
use Rattle.fst_terms.specs.ModuleTree.{Maker, Declared}
use Rattle.fst_reading.specs.Lexeme.{Lexeme}
use Rattle.fst_type_syntax.specs.Nesting.{type_nests, seq_nests, atom_nests as type_atom_nests}
use Rattle.fst_module_grammar.specs.Grammar.{AreApplied, none, applied, IsExpr, let_in, split, if_else, lambda, case_of, match_with, one_or, seq, AreCases, last_case, further_case, AreMatches, last_match, further_match, IsOr, one_and, more_or, IsAnd, one_cmp, more_and, IsCmp, one_sum, compare, IsSum, one_prod, more_sum, IsProd, one_unary, more_prod, IsUnary, one_app, negate, IsApp, send, receive, close, wait, select, new, fork, make, head, IsHead, one_plain, apply, AreAtoms, no_atoms, atom, IsAtom, constructor, plain, IsPlain, named, number, character, yes, no, unit, group, pair, AreTypes, type, AreMakers, last, further, IsDecl, family, alias, signature, over, equation, Lined, IsModule, decl}
use Rattle.fst_reading.specs.Faults.{level}

-- the same number for the type arguments of a name
abbrev pub applied_nests : ℕ → {ts : List Lexeme} {types : List WrittenTree} → AreApplied ts types →
    List ℕ
applied_nests n none = []
applied_nests n (applied k ts us all t types is a d parts) =
    n ∷ type_atom_nests n a ++ applied_nests n d

-- how many operands a chain has
abbrev pub or_operands : {ts : List Lexeme} {t : TermTree} → IsOr ts t → ℕ
or_operands (one_and ts t a) = 1
or_operands (more_or ts us all k t u d is a parts) = suc (or_operands d)

-- how many operands a chain of `&&` has
abbrev pub and_operands : {ts : List Lexeme} {t : TermTree} → IsAnd ts t → ℕ
and_operands (one_cmp ts t a) = 1
and_operands (more_and ts us all k t u d is a parts) = suc (and_operands d)

-- how many operands a chain of `+` and `-` has
abbrev pub sum_operands : {ts : List Lexeme} {t : TermTree} → IsSum ts t → ℕ
sum_operands (one_prod ts t a) = 1
sum_operands (more_sum ts us all k o t u d is a parts) = suc (sum_operands d)

-- how many operands a chain of `*` has
abbrev pub prod_operands : {ts : List Lexeme} {t : TermTree} → IsProd ts t → ℕ
prod_operands (one_unary ts t a) = 1
prod_operands (more_prod ts us all k t u d is a parts) = suc (prod_operands d)

-- how many operands the front of an application has
abbrev pub head_operands : {ts : List Lexeme} {t : TermTree} → IsHead ts t → ℕ
head_operands (one_plain ts t a) = 1
head_operands (apply ts us all t u d a parts) = suc (head_operands d)

abbrev mutual
  -- for each token of an `expr` its nesting, where the own tokens of the `expr` have this one
  pub expr_nests : ℕ → {ts : List Lexeme} {t : TermTree} → IsExpr ts t → List ℕ
  expr_nests n (let_in k x e i ts us all t u is name equals d of_in f parts) =
      n ∷ n ∷ n ∷ expr_nests (suc n) d ++ n ∷ expr_nests (suc n) f
  expr_nests n (split k o x m y c e i ts us all t u is opens left comma right closes equals d of_in
      f parts) =
      n ∷ n ∷ n ∷ n ∷ n ∷ n ∷ n ∷ expr_nests (suc n) d ++ n ∷ expr_nests (suc n) f
  expr_nests n (if_else k h e ts us vs all t u v is d then_is f else_is g parts) =
      n ∷ (expr_nests (suc n) d ++ (n ∷ (expr_nests (suc n) f ++ n ∷ expr_nests (suc n) g)))
  expr_nests n (lambda k x c ts ks us all t uses u is name colon s a d parts) =
      n ∷ n ∷ n ∷ seq_nests (suc n) s ++ (level n ks ++ expr_nests (suc n) d)
  expr_nests n (case_of k f o c ts us all t arms is d of_is opens a closes parts) =
      n ∷ (expr_nests (suc n) d ++ (n ∷ n ∷ cases_nests n a ++ n ∷ []))
  expr_nests n (match_with k w o c ts us all t arms is d with_is opens a closes parts) =
      n ∷ (expr_nests (suc n) d ++ (n ∷ n ∷ matches_nests n a ++ n ∷ []))
  expr_nests n (one_or ts t d) = or_nests n d
  expr_nests n (seq ts us all k t u d is f parts) = or_nests n d ++ n ∷ expr_nests (suc n) f

  -- the arms of a `case`
  pub cases_nests : ℕ → {ts : List Lexeme} {arms : TermArms} → AreCases ts arms → List ℕ
  cases_nests n (last_case l a xs ts all binders t is names arrow d parts) =
      n ∷ level n xs ++ n ∷ expr_nests (suc n) d
  cases_nests n (further_case l a m xs ts us all binders t arms is names arrow d comma f parts) =
      n ∷ (level n xs ++ (n ∷ (expr_nests (suc n) d ++ n ∷ cases_nests n f)))

  -- the arms of a `match`
  pub matches_nests : ℕ → {ts : List Lexeme} {arms : TermArms} → AreMatches ts arms → List ℕ
  matches_nests n (last_match l x a ts t is name arrow d) = n ∷ n ∷ n ∷ expr_nests (suc n) d
  matches_nests n (further_match l x a m ts us all t arms is name arrow d comma f parts) =
      n ∷ n ∷ n ∷ expr_nests (suc n) d ++ n ∷ matches_nests n f

  -- the same of a chain of `||`
  pub or_nests : ℕ → {ts : List Lexeme} {t : TermTree} → IsOr ts t → List ℕ
  or_nests n (one_and ts t a) = and_nests n a
  or_nests n (more_or ts us all k t u d is a parts) =
      or_nests n d ++ (n + or_operands d) ∷ and_nests (n + or_operands d) a

  -- the same of a chain of `&&`
  pub and_nests : ℕ → {ts : List Lexeme} {t : TermTree} → IsAnd ts t → List ℕ
  and_nests n (one_cmp ts t a) = cmp_nests n a
  and_nests n (more_and ts us all k t u d is a parts) =
      and_nests n d ++ (n + and_operands d) ∷ cmp_nests (n + and_operands d) a

  -- the same of a comparison
  pub cmp_nests : ℕ → {ts : List Lexeme} {t : TermTree} → IsCmp ts t → List ℕ
  cmp_nests n (one_sum ts t a) = sum_nests n a
  cmp_nests n (compare ts us all k o t u d is a parts) = sum_nests n d ++ n ∷ sum_nests n a

  -- the same of a chain of `+` and `-`
  pub sum_nests : ℕ → {ts : List Lexeme} {t : TermTree} → IsSum ts t → List ℕ
  sum_nests n (one_prod ts t a) = prod_nests n a
  sum_nests n (more_sum ts us all k o t u d is a parts) =
      sum_nests n d ++ (n + sum_operands d) ∷ prod_nests (n + sum_operands d) a

  -- the same of a chain of `*`
  pub prod_nests : ℕ → {ts : List Lexeme} {t : TermTree} → IsProd ts t → List ℕ
  prod_nests n (one_unary ts t a) = unary_nests n a
  prod_nests n (more_prod ts us all k t u d is a parts) =
      prod_nests n d ++ (n + prod_operands d) ∷ unary_nests (n + prod_operands d) a

  -- each `not` before a token counts
  pub unary_nests : ℕ → {ts : List Lexeme} {t : TermTree} → IsUnary ts t → List ℕ
  unary_nests n (one_app ts t a) = app_nests n a
  unary_nests n (negate k ts t is d) = n ∷ unary_nests (suc n) d

  -- the same of an application
  pub app_nests : ℕ → {ts : List Lexeme} {t : TermTree} → IsApp ts t → List ℕ
  app_nests n (send k ts us all t u is a b parts) =
      n ∷ atom_nests (suc n) a ++ atom_nests (suc (suc n)) b
  app_nests n (receive k ts t is a) = n ∷ atom_nests (suc n) a
  app_nests n (close k ts t is a) = n ∷ atom_nests (suc n) a
  app_nests n (wait k ts t is a) = n ∷ atom_nests (suc n) a
  app_nests n (select k l ts t is label a) = n ∷ (suc n) ∷ atom_nests (suc (suc n)) a
  app_nests n (new k ts t is a) = n ∷ type_atom_nests (suc n) a
  app_nests n (fork k ts t is a) = n ∷ atom_nests (suc n) a
  app_nests n (make k ts args is d) = n ∷ atoms_nests (suc n) d
  app_nests n (head ts t d) = head_nests n d

  -- the same of the front of an application
  pub head_nests : ℕ → {ts : List Lexeme} {t : TermTree} → IsHead ts t → List ℕ
  head_nests n (one_plain ts t a) = plain_nests n a
  head_nests n (apply ts us all t u d a parts) =
      head_nests n d ++ atom_nests (n + head_operands d) a

  -- arguments, of which the first one has this nesting
  pub atoms_nests : ℕ → {ts : List Lexeme} {args : TermList} → AreAtoms ts args → List ℕ
  atoms_nests n no_atoms = []
  atoms_nests n (atom ts us all t args a d parts) = atom_nests n a ++ atoms_nests (suc n) d

  -- the same of an atom
  pub atom_nests : ℕ → {ts : List Lexeme} {t : TermTree} → IsAtom ts t → List ℕ
  atom_nests n (constructor k is) = n ∷ []
  atom_nests n (plain ts t a) = plain_nests n a

  -- the same of an atom that is no constructor
  pub plain_nests : ℕ → {ts : List Lexeme} {t : TermTree} → IsPlain ts t → List ℕ
  plain_nests n (named k ts types is d) = n ∷ applied_nests n d
  plain_nests n (number k m is) = n ∷ []
  plain_nests n (character k c is) = n ∷ []
  plain_nests n (yes k is) = n ∷ []
  plain_nests n (no k is) = n ∷ []
  plain_nests n (unit o c opens closes) = n ∷ n ∷ []
  plain_nests n (group o c ts all t opens d closes parts) = n ∷ expr_nests (suc n) d ++ n ∷ []
  plain_nests n (pair o m c ts us all t u opens d comma f closes parts) =
      n ∷ (expr_nests (suc n) d ++ (n ∷ (expr_nests (suc n) f ++ n ∷ [])))

-- the fields of a constructor
abbrev pub fields_nests : {ts : List Lexeme} {types : List WrittenTree} → AreTypes ts types → List ℕ
fields_nests none = []
fields_nests (type ts us all t types a d parts) = type_atom_nests 0 a ++ fields_nests d

-- the constructors of a data type
abbrev pub makers_nests : {ts : List Lexeme} {makers : List Maker} → AreMakers ts makers → List ℕ
makers_nests (last l ts types is d) = 0 ∷ fields_nests d
makers_nests (further l b ts us all types makers is d bar f parts) =
    0 ∷ fields_nests d ++ 0 ∷ makers_nests f

-- for each token of a declaration its nesting
abbrev pub decl_nests : {ts : List Lexeme} {d : Declared} → IsDecl ts d → List ℕ
decl_nests (family k x e ts makers is name equals d) = 0 ∷ 0 ∷ 0 ∷ makers_nests d
decl_nests (alias k x e ts t is name equals d) = 0 ∷ 0 ∷ 0 ∷ type_nests 0 d
decl_nests (signature x c ts t name colon d) = 0 ∷ 0 ∷ type_nests 0 d
decl_nests (over x c f d vs ts all binders t name colon is bs dot s parts) =
    0 ∷ 0 ∷ 0 ∷ level 0 vs ++ 0 ∷ type_nests 0 s
decl_nests (equation x e xs ts all binders t name names equals d parts) =
    0 ∷ level 0 xs ++ 0 ∷ expr_nests 1 d

-- for each token of a module its nesting
abbrev pub module_nests : {ts : List Lined} {ds : List Declared} → IsModule ts ds → List ℕ
module_nests none = []
module_nests (decl k ts us all d ds first inside is m parts) = decl_nests is ++ module_nests m
