-- What is derived from the tokens of a text can be shown.
use Rattle.std.proofs.Common.{ℕ, ℤ, inl, inr, List, [], ◌∷◌, ◌++◌, refl, subst}
use Rattle.std.proofs.lemmas.List.{map-append}
use Rattle.std.proofs.lemmas.List.Elements.{All-nil, All-cons, recursion_from_All, All-map}
use Rattle.std.specs.Prelude.{All, pos, negsuc}
use Rattle.std.specs.List.{AllByRecursion}
use Rattle.std.specs.Fmt.{decimal}
use Rattle.fst_types.specs.declared.kind.Kind.{Kind}
use Rattle.fst_types.specs.WrittenTree as written
use Rattle.fst_types.specs.WrittenTree.{WrittenTree, WrittenBranches, none, branch}
use Rattle.fst_lexer.specs.declared.token.TokenKind.TheVariants as kind
use Rattle.fst_lexer.specs.Spelling.{IsWordOf, IsTokenOf}
use Rattle.fst_terms.specs.declared.binder.Binder.{Binder}
use Rattle.fst_terms.specs.TermTree.{TermTree, TermList, TermArms, no_arms, arm}
use Rattle.fst_terms.specs.ModuleTree.{Maker, Declared}
use Rattle.fst_reading.specs.Lexeme.{Lexeme, IsLower, IsUpper}
use Rattle.fst_type_syntax.specs.Grammar as types
use Rattle.fst_type_syntax.specs.Grammar.{IsType, IsSeq, IsAlts, IsAlt, IsBinder, IsBinders, Asked, IsQuestion}
use Rattle.fst_module_grammar.specs.Grammar as terms
use Rattle.fst_module_grammar.specs.Grammar.{AreNames, AreApplied, IsExpr, AreCases, AreMatches, IsOr, IsAnd, IsCmp, IsSum, IsProd, IsUnary, IsApp, IsHead, AreAtoms, IsAtom, IsPlain, AreTypes, AreMakers, IsDecl, Lined, lexemes_of, IsModule}
use Rattle.fst_roundtrip.proofs.Showable.{IsLowerName, IsUpperName, IsShowableType, AreShowableBranches, AreLowerNames, IsShowable, AreShowable, AreShowableCases, AreShowableMatches, IsShowableMaker, AreShowableMakers, IsShowableDecl}

-- a token with its text
abbrev pub IsMade : Lexeme → Type 0
IsMade k = IsTokenOf k.kind k.text

-- tokens with their texts
abbrev pub AreMade : List Lexeme → Type 0
AreMade ts = AllByRecursion IsMade ts

-- both of two lists
parted : (ts us : List Lexeme) → AreMade (ts ++ us) → AreMade ts × AreMade us
parted [] us m = (tt, m)
parted (k ∷ ts) us m =
    let h = parted ts us m.1 in
    ((m.0, h.0), h.1)

-- a list with one token between its parts
around : (ts us : List Lexeme) (k : Lexeme) → AreMade (ts ++ k ∷ us) → AreMade ts × AreMade us
around ts us k m =
    let h = parted ts (k ∷ us) m in
    (h.0, h.1.1)

pub lower_name : (k : Lexeme) → IsMade k → IsLower k → IsLowerName k.text
lower_name k m is = subst (λ x. IsTokenOf x k.text) is m

upper_name : (k : Lexeme) → IsMade k → IsUpper k → IsUpperName k.text
upper_name k m is = subst (λ x. IsTokenOf x k.text) is m

-- a number has a text, its decimal one
number_text : (n : ℤ) (text : List ℕ) → IsTokenOf (kind.Number n) text → (word : List ℕ) × IsWordOf (kind.Number n) word
number_text (pos n) text m = (decimal n, (m, refl))
number_text (negsuc n) text m = absurd m

-- the branches of a choice, of which there is one
abbrev HaveBranches : WrittenBranches → Type 0
HaveBranches none = ⊥
HaveBranches (branch l t bs) = IsUpperName l × IsShowableType t × AreShowableBranches bs

select_shown : (at : ℕ) (bs : WrittenBranches) → HaveBranches bs → IsShowableType (written.select at bs)
select_shown at none h = h
select_shown at (branch l t bs) h = h

offer_shown : (at : ℕ) (bs : WrittenBranches) → HaveBranches bs → IsShowableType (written.offer at bs)
offer_shown at none h = h
offer_shown at (branch l t bs) h = h

all_branches : (bs : WrittenBranches) → HaveBranches bs → AreShowableBranches bs
all_branches none h = tt
all_branches (branch l t bs) h = h

mutual
  type_shown : (ts : List Lexeme) (t : WrittenTree) → IsType ts t → AreMade ts → IsShowableType t
  type_shown _ _ (types.single ts t d) m = seq_shown ts t d m
  type_shown all _ (types.arrow ts ks us _ t u uses d a e is) m =
      let h = parted ts (ks ++ us) (subst AreMade is m) in
      (seq_shown ts t d h.0, type_shown us u e (parted ks us h.1).1)

  seq_shown : (ts : List Lexeme) (t : WrittenTree) → IsSeq ts t → AreMade ts → IsShowableType t
  seq_shown _ _ (types.rec k x p ts t is low dot d) m = (lower_name x m.1.0 low, seq_shown ts t d m.1.1.1)
  seq_shown _ _ (types.atom ts t d) m = type_atom_shown ts t d m
  seq_shown all _ (types.chain ts us _ k t u d sign e is) m =
      let h = around ts us k (subst AreMade is m) in
      (type_atom_shown ts t d h.0, seq_shown us u e h.1)

  type_atom_shown : (ts : List Lexeme) (t : WrittenTree) → types.IsAtom ts t → AreMade ts → IsShowableType t
  type_atom_shown _ _ (types.skip k is) m = tt
  type_atom_shown _ _ (types.send k ts b is d) m = tt
  type_atom_shown _ _ (types.receive k ts b is d) m = tt
  type_atom_shown _ _ (types.close k is) m = tt
  type_atom_shown _ _ (types.wait k is) m = tt
  type_atom_shown all _ (types.select k o c ts _ bs plus opens d closes is) m =
      let h = subst AreMade is m in
      select_shown k.at bs (alts_shown ts bs d (around ts [] c h.1.1).0)
  type_atom_shown all _ (types.offer k o c ts _ bs plus opens d closes is) m =
      let h = subst AreMade is m in
      offer_shown k.at bs (alts_shown ts bs d (around ts [] c h.1.1).0)
  type_atom_shown _ _ (types.plain ts b d) m = tt
  type_atom_shown _ _ (types.lower k is) m = inl (lower_name k m.0 is)
  type_atom_shown _ _ (types.upper k is) m = inr (upper_name k m.0 is)
  type_atom_shown all _ (types.group k c ts _ t opens d closes is) m =
      let h = subst AreMade is m in
      type_shown ts t d (around ts [] c h.1).0
  type_atom_shown all _ (types.pair k x c ts us _ t u opens d comma e closes is) m =
      let h = subst AreMade is m in
      let g = around ts (us ++ c ∷ []) x h.1 in
      (type_shown ts t d g.0, type_shown us u e (around us [] c g.1).0)

  alts_shown : (ts : List Lexeme) (bs : WrittenBranches) → IsAlts ts bs → AreMade ts → HaveBranches bs
  alts_shown _ _ (types.last ts l t d) m =
      let h = alt_shown ts l t d m in
      (h.0, h.1, tt)
  alts_shown all _ (types.further ts us _ k l t bs d comma e is) m =
      let g = around ts us k (subst AreMade is m) in
      let h = alt_shown ts l t d g.0 in
      (h.0, h.1, all_branches bs (alts_shown us bs e g.1))

  alt_shown : (ts : List Lexeme) (l : List ℕ) (t : WrittenTree) → IsAlt ts l t → AreMade ts → IsUpperName l × IsShowableType t
  alt_shown _ _ _ (types.alt l c ts t is colon d) m = (upper_name l m.0 is, seq_shown ts t d m.1.1)

-- the types of a question
pub question_shown : (ts rest : List Lexeme) (q : Asked) → IsQuestion ts q → AreMade (ts ++ rest) → IsShowableType q.left ×
    IsShowableType q.right
question_shown all rest _ (types.closed ts us _ k t u d sign e is) m =
    let h = around ts us k (subst AreMade is (parted all rest m).0) in
    (seq_shown ts t d h.0, seq_shown us u e h.1)
question_shown all rest _ (types.over f p k vs ts us _ bs t u word b dot d sign e is) m =
    let g = around vs (ts ++ k ∷ us) p (subst AreMade is (parted all rest m).0).1 in
    let h = around ts us k g.1 in
    (seq_shown ts t d h.0, seq_shown us u e h.1)

names_shown : (ts : List Lexeme) (xs : List Binder) → AreNames ts xs → AreMade ts → AreLowerNames xs
names_shown _ _ terms.none m = All-nil _
names_shown _ _ (terms.name k ts xs is d) m = All-cons
    (λ (x : Binder). IsLowerName x.name) (terms.bound k) xs (lower_name k m.0 is) (names_shown ts xs d m.1)

applied_shown : (ts : List Lexeme) (types : List WrittenTree) → AreApplied ts types → AreMade ts → All IsShowableType types
applied_shown _ _ terms.none m = All-nil _
applied_shown all _ (terms.applied k ts us _ t types at_sign d e is) m =
    let h = parted ts us (subst AreMade is m).1 in
    All-cons IsShowableType t types (type_atom_shown ts t d h.0) (applied_shown us types e h.1)

types_shown : (ts : List Lexeme) (types : List WrittenTree) → AreTypes ts types → AreMade ts → All IsShowableType types
types_shown _ _ terms.none m = All-nil _
types_shown all _ (terms.type ts us _ t types d e is) m =
    let h = parted ts us (subst AreMade is m) in
    All-cons IsShowableType t types (type_atom_shown ts t d h.0) (types_shown us types e h.1)

-- one arm more
more_cases : (l : Binder) (xs : List Binder) (t : TermTree) (arms : TermArms) → IsUpperName l.name → AreLowerNames xs →
    IsShowable t → AreShowableCases arms → AreShowableCases (arm l xs t arms)
more_cases l xs t no_arms upper lower s h = absurd h
more_cases l xs t (arm m ys u arms) upper lower s h = (upper, lower, s, h)

more_matches : (l x : Binder) (t : TermTree) (arms : TermArms) → IsUpperName l.name → IsLowerName x.name → IsShowable t →
    AreShowableMatches arms → AreShowableMatches (arm l (x ∷ []) t arms)
more_matches l x t no_arms upper lower s h = absurd h
more_matches l x t (arm m ys u arms) upper lower s h = (upper, lower, s, h)

mutual
  expr_shown : (ts : List Lexeme) (t : TermTree) → IsExpr ts t → AreMade ts → IsShowable t
  expr_shown all _ (terms.let_in k x e i ts us _ t u let_word low eq d in_word f is) m =
      let h = subst AreMade is m in
      let g = around ts us i h.1.1.1 in
      (lower_name x h.1.0 low, expr_shown ts t d g.0, expr_shown us u f g.1)
  expr_shown all _ (terms.split k o x c y p e i ts us _ t u let_word opens low comma low' closes eq d in_word f is) m =
      let h = subst AreMade is m in
      let g = around ts us i h.1.1.1.1.1.1.1 in
      (lower_name x h.1.1.0 low, lower_name y h.1.1.1.1.0 low', expr_shown ts t d g.0, expr_shown us u f g.1)
  expr_shown all _ (terms.if_else k h e ts us vs _ t u v if_word d then_word f else_word j is) m =
      let made = subst AreMade is m in
      let g = around ts (us ++ e ∷ vs) h made.1 in
      let r = around us vs e g.1 in
      (expr_shown ts t d g.0, expr_shown us u f r.0, expr_shown vs v j r.1)
  expr_shown all _ (terms.lambda k x c ts ks us _ t uses u sign low colon d a f is) m =
      let h = subst AreMade is m in
      let g = parted ts (ks ++ us) h.1.1.1 in
      (seq_shown ts t d g.0, lower_name x h.1.0 low, expr_shown us u f (parted ks us g.1).1)
  expr_shown all _ (terms.case_of k f o c ts us _ t arms case_word d of_word opens e closes is) m =
      let h = subst AreMade is m in
      let g = around ts (o ∷ us ++ c ∷ []) f h.1 in
      (expr_shown ts t d g.0, cases_shown us arms e (around us [] c g.1.1).0)
  expr_shown all _ (terms.match_with k f o c ts us _ t arms match_word d with_word opens e closes is) m =
      let h = subst AreMade is m in
      let g = around ts (o ∷ us ++ c ∷ []) f h.1 in
      (expr_shown ts t d g.0, matches_shown us arms e (around us [] c g.1.1).0)
  expr_shown _ _ (terms.one_or ts t d) m = or_shown ts t d m
  expr_shown all _ (terms.seq ts us _ k t u d sign e is) m =
      let h = around ts us k (subst AreMade is m) in
      (or_shown ts t d h.0, expr_shown us u e h.1)

  cases_shown : (ts : List Lexeme) (arms : TermArms) → AreCases ts arms → AreMade ts → AreShowableCases arms
  cases_shown all _ (terms.last_case l a xs ts _ binders t upper names sign d is) m =
      let h = subst AreMade is m in
      let g = around xs ts a h.1 in
      (upper_name l h.0 upper, names_shown xs binders names g.0, expr_shown ts t d g.1)
  cases_shown all _ (terms.further_case l a c xs ts us _ binders t arms upper names sign d comma e is) m =
      let h = subst AreMade is m in
      let g = around xs (ts ++ c ∷ us) a h.1 in
      let r = around ts us c g.1 in
      more_cases (terms.bound l) binders t arms (upper_name l h.0 upper) (names_shown xs binders names g.0)
      (expr_shown ts t d r.0) (cases_shown us arms e r.1)

  matches_shown : (ts : List Lexeme) (arms : TermArms) → AreMatches ts arms → AreMade ts → AreShowableMatches arms
  matches_shown _ _ (terms.last_match l x a ts t upper low sign d) m =
      (upper_name l m.0 upper, lower_name x m.1.0 low, expr_shown ts t d m.1.1.1)
  matches_shown all _ (terms.further_match l x a c ts us _ t arms upper low sign d comma e is) m =
      let h = subst AreMade is m in
      let r = around ts us c h.1.1.1 in
      more_matches (terms.bound l) (terms.bound x) t arms (upper_name l h.0 upper) (lower_name x h.1.0 low)
      (expr_shown ts t d r.0) (matches_shown us arms e r.1)

  or_shown : (ts : List Lexeme) (t : TermTree) → IsOr ts t → AreMade ts → IsShowable t
  or_shown _ _ (terms.one_and ts t d) m = and_shown ts t d m
  or_shown all _ (terms.more_or ts us _ k t u d sign e is) m =
      let h = around ts us k (subst AreMade is m) in
      (or_shown ts t d h.0, and_shown us u e h.1)

  and_shown : (ts : List Lexeme) (t : TermTree) → IsAnd ts t → AreMade ts → IsShowable t
  and_shown _ _ (terms.one_cmp ts t d) m = cmp_shown ts t d m
  and_shown all _ (terms.more_and ts us _ k t u d sign e is) m =
      let h = around ts us k (subst AreMade is m) in
      (and_shown ts t d h.0, cmp_shown us u e h.1)

  cmp_shown : (ts : List Lexeme) (t : TermTree) → IsCmp ts t → AreMade ts → IsShowable t
  cmp_shown _ _ (terms.one_sum ts t d) m = sum_shown ts t d m
  cmp_shown all _ (terms.compare ts us _ k o t u d sign e is) m =
      let h = around ts us k (subst AreMade is m) in
      (sum_shown ts t d h.0, sum_shown us u e h.1)

  sum_shown : (ts : List Lexeme) (t : TermTree) → IsSum ts t → AreMade ts → IsShowable t
  sum_shown _ _ (terms.one_prod ts t d) m = prod_shown ts t d m
  sum_shown all _ (terms.more_sum ts us _ k o t u d sign e is) m =
      let h = around ts us k (subst AreMade is m) in
      (sum_shown ts t d h.0, prod_shown us u e h.1)

  prod_shown : (ts : List Lexeme) (t : TermTree) → IsProd ts t → AreMade ts → IsShowable t
  prod_shown _ _ (terms.one_unary ts t d) m = unary_shown ts t d m
  prod_shown all _ (terms.more_prod ts us _ k t u d sign e is) m =
      let h = around ts us k (subst AreMade is m) in
      (prod_shown ts t d h.0, unary_shown us u e h.1)

  unary_shown : (ts : List Lexeme) (t : TermTree) → IsUnary ts t → AreMade ts → IsShowable t
  unary_shown _ _ (terms.one_app ts t d) m = app_shown ts t d m
  unary_shown _ _ (terms.negate k ts t is d) m = unary_shown ts t d m.1

  app_shown : (ts : List Lexeme) (t : TermTree) → IsApp ts t → AreMade ts → IsShowable t
  app_shown all _ (terms.send k ts us _ t u word d e is) m =
      let h = parted ts us (subst AreMade is m).1 in
      (atom_shown ts t d h.0, atom_shown us u e h.1)
  app_shown _ _ (terms.receive k ts t is d) m = atom_shown ts t d m.1
  app_shown _ _ (terms.close k ts t is d) m = atom_shown ts t d m.1
  app_shown _ _ (terms.wait k ts t is d) m = atom_shown ts t d m.1
  app_shown _ _ (terms.select k l ts t is upper d) m = (upper_name l m.1.0 upper, atom_shown ts t d m.1.1)
  app_shown _ _ (terms.new k ts t is d) m = type_atom_shown ts t d m.1
  app_shown _ _ (terms.fork k ts t is d) m = atom_shown ts t d m.1
  app_shown _ _ (terms.make k ts args upper d) m = (upper_name k m.0 upper, atoms_shown ts args d m.1)
  app_shown _ _ (terms.head ts t d) m = head_shown ts t d m

  head_shown : (ts : List Lexeme) (t : TermTree) → IsHead ts t → AreMade ts → IsShowable t
  head_shown _ _ (terms.one_plain ts t d) m = plain_shown ts t d m
  head_shown all _ (terms.apply ts us _ t u d e is) m =
      let h = parted ts us (subst AreMade is m) in
      (head_shown ts t d h.0, atom_shown us u e h.1)

  atoms_shown : (ts : List Lexeme) (args : TermList) → AreAtoms ts args → AreMade ts → AreShowable args
  atoms_shown _ _ terms.no_atoms m = tt
  atoms_shown all _ (terms.atom ts us _ t args d e is) m =
      let h = parted ts us (subst AreMade is m) in
      (atom_shown ts t d h.0, atoms_shown us args e h.1)

  atom_shown : (ts : List Lexeme) (t : TermTree) → IsAtom ts t → AreMade ts → IsShowable t
  atom_shown _ _ (terms.constructor k upper) m = (upper_name k m.0 upper, tt)
  atom_shown _ _ (terms.plain ts t d) m = plain_shown ts t d m

  plain_shown : (ts : List Lexeme) (t : TermTree) → IsPlain ts t → AreMade ts → IsShowable t
  plain_shown _ _ (terms.named k ts types low d) m = (lower_name k m.0 low, applied_shown ts types d m.1)
  plain_shown _ _ (terms.number k n is) m = number_text n k.text (subst (λ x. IsTokenOf x k.text) is m.0)
  plain_shown _ _ (terms.character k c is) m = (k.text, subst (λ x. IsTokenOf x k.text) is m.0)
  plain_shown _ _ (terms.yes k is) m = tt
  plain_shown _ _ (terms.no k is) m = tt
  plain_shown _ _ (terms.unit o c opens closes) m = tt
  plain_shown all _ (terms.group o c ts _ t opens d closes is) m =
      let h = subst AreMade is m in
      expr_shown ts t d (around ts [] c h.1).0
  plain_shown all _ (terms.pair o x c ts us _ t u opens d comma e closes is) m =
      let h = subst AreMade is m in
      let g = around ts (us ++ c ∷ []) x h.1 in
      (expr_shown ts t d g.0, expr_shown us u e (around us [] c g.1).0)

binder_shown : (ts : List Lexeme) (b : Binder) (k : Kind) → IsBinder ts b k → AreMade ts → IsLowerName b.name
binder_shown _ _ _ (types.binder x c u p uses prekind low colon once pre) m = lower_name x m.0 low

binders_shown : (ts : List Lexeme) (bs : List (Binder × Kind)) → IsBinders ts bs → AreMade ts → All
    (λ (b : Binder × Kind). IsLowerName b.0.name) bs
binders_shown ts _ (types.last _ b k d) m = All-cons
    (λ (c : Binder × Kind). IsLowerName c.0.name) (b, k) [] (binder_shown ts b k d m) (All-nil _)
binders_shown all _ (types.further ts us _ c b k bs d comma e is) m =
    let h = around ts us c (subst AreMade is m) in
    All-cons (λ (x : Binder × Kind). IsLowerName x.0.name) (b, k) bs (binder_shown ts b k d h.0) (binders_shown us bs e h.1)

all_makers : (ms : List Maker) → AreShowableMakers ms → All IsShowableMaker ms
all_makers [] h = absurd h
all_makers (m ∷ ms) h = All-cons IsShowableMaker m ms h.0 h.1

makers_shown : (ts : List Lexeme) (ms : List Maker) → AreMakers ts ms → AreMade ts → AreShowableMakers ms
makers_shown _ _ (terms.last l ts fields upper d) m = ((upper_name l m.0 upper, types_shown ts fields d m.1), All-nil _)
makers_shown all _ (terms.further l b ts us _ fields makers upper d bar e is) m =
    let h = subst AreMade is m in
    let g = around ts us b h.1 in
    ((upper_name l h.0 upper, types_shown ts fields d g.0), all_makers makers (makers_shown us makers e g.1))

decl_shown : (ts : List Lexeme) (d : Declared) → IsDecl ts d → AreMade ts → IsShowableDecl d
decl_shown _ _ (terms.family k x e ts makers word upper eq d) m = (upper_name x m.1.0 upper, makers_shown ts makers d m.1.1.1)
decl_shown _ _ (terms.alias k x e ts t word upper eq d) m = (upper_name x m.1.0 upper, type_shown ts t d m.1.1.1)
decl_shown _ _ (terms.signature x c ts t low colon d) m = (lower_name x m.0 low, All-nil _, type_shown ts t d m.1.1)
decl_shown all _ (terms.over x c f p vs ts _ binders t low colon word d dot e is) m =
    let h = subst AreMade is m in
    let g = around vs ts p h.1.1.1 in
    (lower_name x h.0 low, binders_shown vs binders d g.0, type_shown ts t e g.1)
decl_shown all _ (terms.equation x q xs ts _ binders t low names eq d is) m =
    let h = subst AreMade is m in
    let g = around xs ts q h.1 in
    (lower_name x h.0 low, names_shown xs binders names g.0, expr_shown ts t d g.1)

module_shown : (ts : List Lined) (ds : List Declared) → IsModule ts ds → AreMade (lexemes_of ts) → All IsShowableDecl ds
module_shown _ _ terms.none m = All-nil _
module_shown all _ (terms.decl k ts us _ d ds begins inside e others is) m =
    let h = subst (λ x. AreMade (lexemes_of x)) is m in
    let g = parted (lexemes_of ts) (lexemes_of us) (subst AreMade (map-append (λ (x : Lined). x.lexeme) ts us) h.1) in
    All-cons IsShowableDecl d ds (decl_shown (k.lexeme ∷ lexemes_of ts) d e (h.0, g.0)) (module_shown us ds others g.1)

-- a term
pub showable : (ts : List Lexeme) (t : TermTree) → All IsMade ts → IsExpr ts t → IsShowable t
showable ts t all d = expr_shown ts t d (recursion_from_All IsMade ts all)

-- a module
pub showable_module : (ts : List Lined) (ds : List Declared) → All (λ k. IsMade k.lexeme) ts → IsModule ts ds →
    All IsShowableDecl ds
showable_module ts ds all d = module_shown ts ds d
    (recursion_from_All IsMade (lexemes_of ts) (All-map IsMade (λ (k : Lined). k.lexeme) ts all))
