-- Whatever in a module has parts of a kind has at least one of them.
use Rattle.std.proofs.Common.{List, refl}
use Rattle.fst_types.specs.WrittenTree.{WrittenTree}
use Rattle.fst_terms.specs.TermTree.{TermTree, TermList, TermArms}
use Rattle.fst_terms.specs.ModuleTree.{Maker, Declared}
use Rattle.fst_terms.specs.Filled.{HaveTypesFilled, HasArm, BindOne, IsFilled, AreFilled, HaveArmsFilled, HasMaker, HaveFieldsFilled, IsDeclFilled, IsModuleFilled}
use Rattle.fst_reading.specs.Lexeme.{Lexeme}
use Rattle.fst_type_syntax.proofs.Laws.{type_filled, seq_filled, atom_filled as type_atom_filled}
use Rattle.fst_module_grammar.specs.Grammar.{AreApplied, none, applied, IsExpr, let_in, split, if_else, lambda, case_of, match_with, one_or, seq, AreCases, last_case, further_case, AreMatches, last_match, further_match, IsOr, one_and, more_or, IsAnd, one_cmp, more_and, IsCmp, one_sum, compare, IsSum, one_prod, more_sum, IsProd, one_unary, more_prod, IsUnary, one_app, negate, IsApp, send, receive, close, wait, select, new, fork, make, head, IsHead, one_plain, apply, AreAtoms, no_atoms, atom, IsAtom, constructor, plain, IsPlain, named, number, character, yes, no, unit, group, pair, AreTypes, type, AreMakers, last, further, IsDecl, family, alias, signature, over, equation, Lined, IsModule, decl}

applied_filled : {ts : List Lexeme} {types : List WrittenTree} → AreApplied ts types → HaveTypesFilled types
applied_filled none = tt
applied_filled (applied k ts us all t types is a d parts) = (type_atom_filled a, applied_filled d)

-- there is an arm
some_case : {ts : List Lexeme} {arms : TermArms} → AreCases ts arms → HasArm arms
some_case (last_case l a xs ts all binders t is names arrow d parts) = tt
some_case (further_case l a m xs ts us all binders t arms is names arrow d comma f parts) = tt

some_match : {ts : List Lexeme} {arms : TermArms} → AreMatches ts arms → HasArm arms
some_match (last_match l x a ts t is name arrow d) = tt
some_match (further_match l x a m ts us all t arms is name arrow d comma f parts) = tt

-- each arm of a `match` binds one variable
bind_one : {ts : List Lexeme} {arms : TermArms} → AreMatches ts arms → BindOne arms
bind_one (last_match l x a ts t is name arrow d) = (refl, tt)
bind_one (further_match l x a m ts us all t arms is name arrow d comma f parts) = (refl, bind_one f)

mutual
  pub expr_filled : {ts : List Lexeme} {t : TermTree} → IsExpr ts t → IsFilled t
  expr_filled (let_in k x e i ts us all t u is name equals d of_in f parts) = (expr_filled d, expr_filled f)
  expr_filled (split k o x m y c e i ts us all t u is opens left comma right closes equals d of_in f parts) =
      (expr_filled d, expr_filled f)
  expr_filled (if_else k h e ts us vs all t u v is d then_is f else_is g parts) = (expr_filled d, expr_filled f, expr_filled g)
  expr_filled (lambda k x c ts ks us all t uses u is name colon s a d parts) = (seq_filled s, expr_filled d)
  expr_filled (case_of k f o c ts us all t arms is d of_is opens a closes parts) = (some_case a, expr_filled d, cases_filled a)
  expr_filled (match_with k w o c ts us all t arms is d with_is opens a closes parts) =
      (some_match a, bind_one a, expr_filled d, matches_filled a)
  expr_filled (one_or ts t d) = or_filled d
  expr_filled (seq ts us all k t u d is f parts) = (or_filled d, expr_filled f)

  cases_filled : {ts : List Lexeme} {arms : TermArms} → AreCases ts arms → HaveArmsFilled arms
  cases_filled (last_case l a xs ts all binders t is names arrow d parts) = (expr_filled d, tt)
  cases_filled (further_case l a m xs ts us all binders t arms is names arrow d comma f parts) = (expr_filled d, cases_filled f)

  matches_filled : {ts : List Lexeme} {arms : TermArms} → AreMatches ts arms → HaveArmsFilled arms
  matches_filled (last_match l x a ts t is name arrow d) = (expr_filled d, tt)
  matches_filled (further_match l x a m ts us all t arms is name arrow d comma f parts) = (expr_filled d, matches_filled f)

  or_filled : {ts : List Lexeme} {t : TermTree} → IsOr ts t → IsFilled t
  or_filled (one_and ts t a) = and_filled a
  or_filled (more_or ts us all k t u d is a parts) = (or_filled d, and_filled a)

  and_filled : {ts : List Lexeme} {t : TermTree} → IsAnd ts t → IsFilled t
  and_filled (one_cmp ts t a) = cmp_filled a
  and_filled (more_and ts us all k t u d is a parts) = (and_filled d, cmp_filled a)

  cmp_filled : {ts : List Lexeme} {t : TermTree} → IsCmp ts t → IsFilled t
  cmp_filled (one_sum ts t a) = sum_filled a
  cmp_filled (compare ts us all k o t u d is a parts) = (sum_filled d, sum_filled a)

  sum_filled : {ts : List Lexeme} {t : TermTree} → IsSum ts t → IsFilled t
  sum_filled (one_prod ts t a) = prod_filled a
  sum_filled (more_sum ts us all k o t u d is a parts) = (sum_filled d, prod_filled a)

  prod_filled : {ts : List Lexeme} {t : TermTree} → IsProd ts t → IsFilled t
  prod_filled (one_unary ts t a) = unary_filled a
  prod_filled (more_prod ts us all k t u d is a parts) = (prod_filled d, unary_filled a)

  unary_filled : {ts : List Lexeme} {t : TermTree} → IsUnary ts t → IsFilled t
  unary_filled (one_app ts t a) = app_filled a
  unary_filled (negate k ts t is d) = unary_filled d

  app_filled : {ts : List Lexeme} {t : TermTree} → IsApp ts t → IsFilled t
  app_filled (send k ts us all t u is d f parts) = (atom_filled d, atom_filled f)
  app_filled (receive k ts t is d) = atom_filled d
  app_filled (close k ts t is d) = atom_filled d
  app_filled (wait k ts t is d) = atom_filled d
  app_filled (select k l ts t is label d) = atom_filled d
  app_filled (new k ts t is a) = type_atom_filled a
  app_filled (fork k ts t is d) = atom_filled d
  app_filled (make k ts args is d) = atoms_filled d
  app_filled (head ts t d) = head_filled d

  head_filled : {ts : List Lexeme} {t : TermTree} → IsHead ts t → IsFilled t
  head_filled (one_plain ts t d) = plain_filled d
  head_filled (apply ts us all t u d f parts) = (head_filled d, atom_filled f)

  atoms_filled : {ts : List Lexeme} {args : TermList} → AreAtoms ts args → AreFilled args
  atoms_filled no_atoms = tt
  atoms_filled (atom ts us all t args d f parts) = (atom_filled d, atoms_filled f)

  atom_filled : {ts : List Lexeme} {t : TermTree} → IsAtom ts t → IsFilled t
  atom_filled (constructor k is) = tt
  atom_filled (plain ts t d) = plain_filled d

  plain_filled : {ts : List Lexeme} {t : TermTree} → IsPlain ts t → IsFilled t
  plain_filled (named k ts types is d) = applied_filled d
  plain_filled (number k n is) = tt
  plain_filled (character k c is) = tt
  plain_filled (yes k is) = tt
  plain_filled (no k is) = tt
  plain_filled (unit o c opens closes) = tt
  plain_filled (group o c ts all t opens d closes parts) = expr_filled d
  plain_filled (pair o m c ts us all t u opens d comma f closes parts) = (expr_filled d, expr_filled f)

fields_filled : {ts : List Lexeme} {types : List WrittenTree} → AreTypes ts types → HaveTypesFilled types
fields_filled none = tt
fields_filled (type ts us all t types a d parts) = (type_atom_filled a, fields_filled d)

some_maker : {ts : List Lexeme} {makers : List Maker} → AreMakers ts makers → HasMaker makers
some_maker (last l ts types is d) = tt
some_maker (further l b ts us all types makers is d bar f parts) = tt

makers_filled : {ts : List Lexeme} {makers : List Maker} → AreMakers ts makers → HaveFieldsFilled makers
makers_filled (last l ts types is d) = (fields_filled d, tt)
makers_filled (further l b ts us all types makers is d bar f parts) = (fields_filled d, makers_filled f)

decl_filled : {ts : List Lexeme} {d : Declared} → IsDecl ts d → IsDeclFilled d
decl_filled (family k x e ts makers is name equals d) = (some_maker d, makers_filled d)
decl_filled (alias k x e ts t is name equals d) = type_filled d
decl_filled (signature x c ts t name colon d) = type_filled d
decl_filled (over x c f p vs ts all binders t name colon is b dot d parts) = type_filled d
decl_filled (equation x e xs ts all binders t name names equals d parts) = expr_filled d

-- a module is filled
pub module_filled : {ts : List Lined} {ds : List Declared} → IsModule ts ds → IsModuleFilled ds
module_filled none = tt
module_filled (decl k ts us all d ds first inside is more parts) = (decl_filled is, module_filled more)
