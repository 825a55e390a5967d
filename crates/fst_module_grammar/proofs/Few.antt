-- A module has at most twice as many terms, bound names and types as tokens.
use Rattle.std.proofs.Common.{◌≡◌, suc, ◌*◌, ◌≤◌, List, [], ◌∷◌, ◌++◌, length, ap, arith, length-append}
use Rattle.std.proofs.lemmas.List.{length-map}
use Rattle.fst_types.specs.WrittenTree.{WrittenTree}
use Rattle.fst_terms.specs.declared.binder.Binder.{Binder}
use Rattle.fst_terms.specs.TermTree.{TermTree, TermList, TermArms}
use Rattle.fst_terms.specs.ModuleTree.{Maker, Declared}
use Rattle.fst_terms.specs.Count.{types_count, term_count, terms_count, arms_count, makers_count, decl_count, module_count}
use Rattle.fst_reading.specs.Lexeme.{Lexeme}
use Rattle.fst_type_syntax.proofs.Laws.{type_few, seq_few, atom_few as type_atom_few, arrow_some, binders_few}
use Rattle.fst_module_grammar.specs.Grammar.{AreNames, name, AreApplied, none, applied, IsExpr, let_in, split, if_else, lambda, case_of, match_with, one_or, seq, AreCases, last_case, further_case, AreMatches, last_match, further_match, IsOr, one_and, more_or, IsAnd, one_cmp, more_and, IsCmp, one_sum, compare, IsSum, one_prod, more_sum, IsProd, one_unary, more_prod, IsUnary, one_app, negate, IsApp, send, receive, close, wait, select, new, fork, make, head, IsHead, one_plain, apply, AreAtoms, no_atoms, atom, IsAtom, constructor, plain, IsPlain, named, number, character, yes, no, unit, group, pair, AreTypes, type, AreMakers, last, further, IsDecl, family, alias, signature, over, equation, Lined, lexemes_of, IsModule, decl}

names_few : {ts : List Lexeme} {xs : List Binder} → AreNames ts xs → length xs ≤ length ts
names_few none = omega arith
names_few (name k ts xs is d) = omega (arith, names_few d)

applied_few : {ts : List Lexeme} {types : List WrittenTree} → AreApplied ts types → types_count types ≤ length ts
applied_few none = omega arith
applied_few (applied k ts us all t types is a d parts) =
    omega (arith, type_atom_few a, applied_few d, ap length parts, length-append ts us)

mutual
  expr_few : {ts : List Lexeme} {t : TermTree} → IsExpr ts t → suc (term_count t) ≤ 2 * length ts
  expr_few (let_in k x e i ts us all t u is name_is equals d of_in f parts) =
      omega (arith, expr_few d, expr_few f, ap length parts, length-append ts (i ∷ us))
  expr_few (split k o x m y c e i ts us all t u is opens left comma right closes equals d of_in f parts) =
      omega (arith, expr_few d, expr_few f, ap length parts, length-append ts (i ∷ us))
  expr_few (if_else k h e ts us vs all t u v is d then_is f else_is g parts) =
      omega (
        arith,
        expr_few d,
        expr_few f,
        expr_few g,
        ap length parts,
        length-append ts (h ∷ (us ++ e ∷ vs)),
        length-append us (e ∷ vs),
      )
  expr_few (lambda k x c ts ks us all t uses u is name_is colon s a d parts) =
      omega (arith, seq_few s, arrow_some a, expr_few d, ap length parts, length-append ts (ks ++ us), length-append ks us)
  expr_few (case_of k f o c ts us all t arms is d of_is opens a closes parts) =
      omega (arith, expr_few d, cases_few a, ap length parts, length-append ts (f ∷ o ∷ us ++ c ∷ []), length-append us (c ∷ []))
  expr_few (match_with k w o c ts us all t arms is d with_is opens a closes parts) =
      omega (
        arith,
        expr_few d,
        matches_few a,
        ap length parts,
        length-append ts (w ∷ o ∷ us ++ c ∷ []),
        length-append us (c ∷ []),
      )
  expr_few (one_or ts t d) = or_few d
  expr_few (seq ts us all k t u d is f parts) = omega (arith, or_few d, expr_few f, ap length parts, length-append ts (k ∷ us))

  cases_few : {ts : List Lexeme} {arms : TermArms} → AreCases ts arms → arms_count arms ≤ 2 * length ts
  cases_few (last_case l a xs ts all binders t is names arrow d parts) =
      omega (arith, names_few names, expr_few d, ap length parts, length-append xs (a ∷ ts))
  cases_few (further_case l a m xs ts us all binders t arms is names arrow d comma f parts) =
      omega (
        arith,
        names_few names,
        expr_few d,
        cases_few f,
        ap length parts,
        length-append xs (a ∷ (ts ++ m ∷ us)),
        length-append ts (m ∷ us),
      )

  matches_few : {ts : List Lexeme} {arms : TermArms} → AreMatches ts arms → arms_count arms ≤ 2 * length ts
  matches_few (last_match l x a ts t is name_is arrow d) = omega (arith, expr_few d)
  matches_few (further_match l x a m ts us all t arms is name_is arrow d comma f parts) =
      omega (arith, expr_few d, matches_few f, ap length parts, length-append ts (m ∷ us))

  or_few : {ts : List Lexeme} {t : TermTree} → IsOr ts t → suc (term_count t) ≤ 2 * length ts
  or_few (one_and ts t a) = and_few a
  or_few (more_or ts us all k t u d is a parts) = omega (arith, or_few d, and_few a, ap length parts, length-append ts (k ∷ us))

  and_few : {ts : List Lexeme} {t : TermTree} → IsAnd ts t → suc (term_count t) ≤ 2 * length ts
  and_few (one_cmp ts t a) = cmp_few a
  and_few (more_and ts us all k t u d is a parts) =
      omega (arith, and_few d, cmp_few a, ap length parts, length-append ts (k ∷ us))

  cmp_few : {ts : List Lexeme} {t : TermTree} → IsCmp ts t → suc (term_count t) ≤ 2 * length ts
  cmp_few (one_sum ts t a) = sum_few a
  cmp_few (compare ts us all k o t u d is a parts) =
      omega (arith, sum_few d, sum_few a, ap length parts, length-append ts (k ∷ us))

  sum_few : {ts : List Lexeme} {t : TermTree} → IsSum ts t → suc (term_count t) ≤ 2 * length ts
  sum_few (one_prod ts t a) = prod_few a
  sum_few (more_sum ts us all k o t u d is a parts) =
      omega (arith, sum_few d, prod_few a, ap length parts, length-append ts (k ∷ us))

  prod_few : {ts : List Lexeme} {t : TermTree} → IsProd ts t → suc (term_count t) ≤ 2 * length ts
  prod_few (one_unary ts t a) = unary_few a
  prod_few (more_prod ts us all k t u d is a parts) =
      omega (arith, prod_few d, unary_few a, ap length parts, length-append ts (k ∷ us))

  unary_few : {ts : List Lexeme} {t : TermTree} → IsUnary ts t → suc (term_count t) ≤ 2 * length ts
  unary_few (one_app ts t a) = app_few a
  unary_few (negate k ts t is d) = omega (arith, unary_few d)

  app_few : {ts : List Lexeme} {t : TermTree} → IsApp ts t → suc (term_count t) ≤ 2 * length ts
  app_few (send k ts us all t u is d f parts) = omega (arith, atom_few d, atom_few f, ap length parts, length-append ts us)
  app_few (receive k ts t is d) = omega (arith, atom_few d)
  app_few (close k ts t is d) = omega (arith, atom_few d)
  app_few (wait k ts t is d) = omega (arith, atom_few d)
  app_few (select k l ts t is label d) = omega (arith, atom_few d)
  app_few (new k ts t is a) = omega (arith, type_atom_few a)
  app_few (fork k ts t is d) = omega (arith, atom_few d)
  app_few (make k ts args is d) = omega (arith, atoms_few d)
  app_few (head ts t d) = head_few d

  head_few : {ts : List Lexeme} {t : TermTree} → IsHead ts t → suc (term_count t) ≤ 2 * length ts
  head_few (one_plain ts t d) = plain_few d
  head_few (apply ts us all t u d f parts) = omega (arith, head_few d, atom_few f, ap length parts, length-append ts us)

  atoms_few : {ts : List Lexeme} {args : TermList} → AreAtoms ts args → terms_count args ≤ 2 * length ts
  atoms_few no_atoms = omega arith
  atoms_few (atom ts us all t args d f parts) = omega (arith, atom_few d, atoms_few f, ap length parts, length-append ts us)

  atom_few : {ts : List Lexeme} {t : TermTree} → IsAtom ts t → suc (term_count t) ≤ 2 * length ts
  atom_few (constructor k is) = omega arith
  atom_few (plain ts t d) = plain_few d

  plain_few : {ts : List Lexeme} {t : TermTree} → IsPlain ts t → suc (term_count t) ≤ 2 * length ts
  plain_few (named k ts types is d) = omega (arith, applied_few d)
  plain_few (number k n is) = omega arith
  plain_few (character k c is) = omega arith
  plain_few (yes k is) = omega arith
  plain_few (no k is) = omega arith
  plain_few (unit o c opens closes) = omega arith
  plain_few (group o c ts all t opens d closes parts) = omega (arith, expr_few d, ap length parts, length-append ts (c ∷ []))
  plain_few (pair o m c ts us all t u opens d comma f closes parts) =
      omega (arith, expr_few d, expr_few f, ap length parts, length-append ts (m ∷ (us ++ c ∷ [])), length-append us (c ∷ []))

fields_few : {ts : List Lexeme} {types : List WrittenTree} → AreTypes ts types → types_count types ≤ length ts
fields_few none = omega arith
fields_few (type ts us all t types a d parts) = omega (arith, type_atom_few a, fields_few d, ap length parts, length-append ts us)

makers_few : {ts : List Lexeme} {makers : List Maker} → AreMakers ts makers → makers_count makers ≤ length ts
makers_few (last l ts types is d) = omega (arith, fields_few d)
makers_few (further l b ts us all types makers is d bar f parts) =
    omega (arith, fields_few d, makers_few f, ap length parts, length-append ts (b ∷ us))

decl_few : {ts : List Lexeme} {d : Declared} → IsDecl ts d → decl_count d ≤ 2 * length ts
decl_few (family k x e ts makers is name_is equals d) = omega (arith, makers_few d)
decl_few (alias k x e ts t is name_is equals d) = omega (arith, type_few d)
decl_few (signature x c ts t name_is colon d) = omega (arith, type_few d)
decl_few (over x c f p vs ts all binders t name_is colon is b dot d parts) =
    omega (arith, binders_few b, type_few d, ap length parts, length-append vs (p ∷ ts))
decl_few (equation x e xs ts all binders t name_is names equals d parts) =
    omega (arith, names_few names, expr_few d, ap length parts, length-append xs (e ∷ ts))

unlined_count : (ts : List Lined) → length (lexemes_of ts) ≡ length ts
unlined_count ts = length-map ts (λ k. k.lexeme)

-- a module has at most twice as many parts as tokens
pub module_few : {ts : List Lined} {ds : List Declared} → IsModule ts ds → module_count ds ≤ 2 * length ts
module_few none = omega arith
module_few (decl k ts us all d ds first inside is more parts) =
    omega (arith, decl_few is, unlined_count ts, module_few more, ap length parts, length-append ts us)
