-- The phrases of atoms, put together in the way in which they are read.
use Rattle.std.proofs.Common.{◌≡◌, ℕ, suc, true, false, List, [], ◌∷◌, ◌++◌, refl, sym, ap, subst, ◌∙◌}
use Rattle.std.specs.Prelude.{codes}
use Rattle.fst_types.specs.WrittenTree.{WrittenTree}
use Rattle.fst_terms.specs.TermTree as term
use Rattle.fst_terms.specs.TermTree.{TermTree, no_terms}
use Rattle.fst_reading.specs.Lexeme.{Lexeme, spells, Is}
use Rattle.fst_reading.specs.Faults.{Phrase}
use Rattle.fst_type_syntax.specs.Nesting.{atom_nests as type_atom_nests}
use Rattle.fst_reading.proofs.Phrases as phrase
use Rattle.fst_reading.proofs.Phrases.{Give, nothing, Then, Mapped, made, Switch, first, On, taken, other, Many}
use Rattle.fst_type_syntax.specs.Derives.{AtomPhrase as TypeAtomP}
use Rattle.fst_reading.proofs.Words.{Word, word_at, moved}
use Rattle.fst_module_grammar.specs.Grammar.{AreApplied, none, applied, IsExpr, IsAtom, constructor, plain, IsPlain, named, number, character, yes, no, unit, group, pair}
use Rattle.fst_module_grammar.specs.Nesting.{applied_nests, expr_nests, atom_nests, plain_nests}
use Rattle.fst_module_grammar.specs.declared.starts.AtomStart.{AtomStart}
use Rattle.fst_module_grammar.specs.declared.starts.AtomStart.TheVariants.{Name, Constructor, Number, Character, Truth, Paren}
use Rattle.fst_module_grammar.specs.TermReading.{atom_start, plain_start}
use Rattle.fst_module_grammar.proofs.ChainPhrases.{AtomP, PlainP}
use Rattle.fst_module_grammar.proofs.TermTokens.{MeansAtom, atom_means, means_atom, MeansPlain, plain_means, plain_atom, means_plain}
use Rattle.fst_reading.proofs.Tokens.{only_is}

abbrev pub ExprP : ℕ → Phrase TermTree
ExprP d ts t ns = (s : IsExpr ts t) × (expr_nests d s ≡ ns)

abbrev pub AppliedP : ℕ → Phrase (List WrittenTree)
AppliedP d ts types ns = (s : AreApplied ts types) × (applied_nests d s ≡ ns)

-- one type argument as it is read
abbrev pub ArgumentR : ℕ → Phrase WrittenTree
ArgumentR d = Then (Word d (codes "@")) (λ (u : Unit {0}). TypeAtomP d)

pub applied_to : (d : ℕ) (ts : List Lexeme) (types : List WrittenTree) (ns : List ℕ) → Many (ArgumentR d) ts types ns →
    AppliedP d ts types ns
applied_to d _ _ _ phrase.none = (none, refl)
applied_to d _ _ _ (phrase.some ts us vs t types ns ms ks
    (phrase.pair _ _ ws _ _ _ _ ls (first k x _ _ _ e nothing) a parts nests) q parts' nests') =
    let o = applied_to d vs types ks q in
    let tokens : ts ≡ k ∷ ws ++ vs = parts' ∙ ap (λ (w : List Lexeme). w ++ vs) parts in
    let numbers : ns ≡ d ∷ ls ++ ks = nests' ∙ ap (λ (w : List ℕ). w ++ ks) nests in (
      applied k ws vs ts t types (only_is (spells (codes "@")) k x e) a.0 o.0 tokens,
      (let e2 : d ∷ type_atom_nests d a.0 ++ applied_nests d o.0 ≡ ns = rw (a.1, o.1) (sym numbers) in e2),
    )

of_applied : (d : ℕ) (ts : List Lexeme) (types : List WrittenTree) (s : AreApplied ts types) →
    Many (ArgumentR d) ts types (applied_nests d s)
of_applied d _ _ none = phrase.none
of_applied d _ _ (applied k ts us all t types is a s parts) =
    phrase.some all (k ∷ ts) us t types _ (d ∷ type_atom_nests d a) (applied_nests d s)
    (phrase.pair _ (k ∷ []) ts tt t _ (d ∷ []) (type_atom_nests d a) (word_at d (codes "@") k is) (a, refl) refl refl)
    (of_applied d us types s) parts refl

pub applied_from : (d : ℕ) (ts : List Lexeme) (types : List WrittenTree) (ns : List ℕ) → AppliedP d ts types ns →
    Many (ArgumentR d) ts types ns
applied_from d ts types ns p = subst (Many (ArgumentR d) ts types) p.1 (of_applied d ts types p.0)

-- the second term of a pair
abbrev pub PairR : ℕ → Lexeme → TermTree → Phrase TermTree
PairR d k t = Then (ExprP (suc d)) (λ (u : TermTree). Mapped (λ (c : Unit {0}). term.pair k.at t u) (Word d (codes ")")))

-- behind a term in parentheses
abbrev pub ClosedR : ℕ → Lexeme → TermTree → Phrase TermTree
ClosedR d k t = On d (spells (codes ",")) (PairR d k t) (Mapped (λ (c : Unit {0}). t) (Word d (codes ")")))

-- behind a parenthesis
abbrev pub ParenR : ℕ → Lexeme → Phrase TermTree
ParenR d k = On d (spells (codes ")")) (Give (term.unit k.at)) (Then (ExprP (suc d)) (ClosedR d k))

-- behind what an atom begins with
abbrev pub BegunR : ℕ → AtomStart → Lexeme → Phrase TermTree
BegunR d Name k = Mapped (term.named k.at k.text) (AppliedP d)
BegunR d Constructor k = Give (term.make k.at k.text no_terms)
BegunR d (Number n) k = Give (term.int k.at n)
BegunR d (Character c) k = Give (term.char k.at c)
BegunR d (Truth b) k = Give (term.bool k.at b)
BegunR d Paren k = ParenR d k

abbrev pub AtomR : ℕ → Phrase TermTree
AtomR d = Switch d atom_start (BegunR d)

paren_to : (d : ℕ) (k : Lexeme) (ts : List Lexeme) (t : TermTree) (ns : List ℕ) → Is (codes "(") k → ParenR d k ts t ns →
    PlainP d (k ∷ ts) t (d ∷ ns)
paren_to d k _ _ _ is (taken c _ _ _ close nothing) = (unit k c is close, refl)
paren_to d k _ _ _ is (other _ _ _ (phrase.pair ts us _ t _ ns ms _ s
    (taken m _ _ _ comma (phrase.pair vs ws _ u _ ks ls _ r (made _ _ _ (first c y _ _ _ e nothing)) parts nests)) parts'
    nests')) =
    moved (PlainP d) (k ∷ ts) (k ∷ (us ++ (m ∷ (ws ++ c ∷ [])))) _ (term.pair k.at t u) (d ∷ ns)
    (d ∷ (ms ++ (d ∷ (ls ++ d ∷ []))))
    (ap (λ (w : List Lexeme). k ∷ w) (parts' ∙ ap (λ (w : List Lexeme). us ++ m ∷ w) parts)) refl
    (ap (λ (w : List ℕ). d ∷ w) (nests' ∙ ap (λ (w : List ℕ). ms ++ d ∷ w) nests)) (
      pair k m c us ws (k ∷ (us ++ (m ∷ (ws ++ c ∷ [])))) t u is s.0 comma r.0 (only_is (spells (codes ")")) c y e) refl,
      (let e2 : d ∷ (expr_nests (suc d) s.0 ++ (d ∷ (expr_nests (suc d) r.0 ++ d ∷ []))) ≡ d ∷ (ms ++ (d ∷ (ls ++ d ∷ []))) =
          rw (s.1, r.1) refl in e2),
    )
paren_to d k _ _ _ is (other _ _ _ (phrase.pair ts us _ t _ ns ms _ s
    (other _ _ _ (made _ _ _ (first c y _ _ _ e nothing))) parts' nests')) =
    moved (PlainP d) (k ∷ ts) (k ∷ us ++ c ∷ []) _ t (d ∷ ns) (d ∷ ms ++ d ∷ []) (ap (λ (w : List Lexeme). k ∷ w) parts') refl
    (ap (λ (w : List ℕ). d ∷ w) nests') (
      group k c us (k ∷ us ++ c ∷ []) t is s.0 (only_is (spells (codes ")")) c y e) refl,
      (let e2 : d ∷ expr_nests (suc d) s.0 ++ d ∷ [] ≡ d ∷ ms ++ d ∷ [] = rw s.1 refl in e2),
    )

-- what begins with no constructor is a plain atom
pub plain_to : (d : ℕ) (s : AtomStart) (k : Lexeme) (ts : List Lexeme) (t : TermTree) (ns : List ℕ) → MeansPlain s k →
    BegunR d s k ts t ns → PlainP d (k ∷ ts) t (d ∷ ns)
plain_to d Name k _ _ _ is (made ts types ns s) = (named k ts types is s.0, ap (λ (w : List ℕ). d ∷ w) s.1)
plain_to d Constructor k ts t ns is p = absurd is
plain_to d (Number n) k _ _ _ is nothing = (number k n is, refl)
plain_to d (Character c) k _ _ _ is nothing = (character k c is, refl)
plain_to d (Truth true) k _ _ _ is nothing = (yes k is, refl)
plain_to d (Truth false) k _ _ _ is nothing = (no k is, refl)
plain_to d Paren k ts t ns is p = paren_to d k ts t ns is p

as_atom : (d : ℕ) (ts : List Lexeme) (t : TermTree) (ns : List ℕ) → PlainP d ts t ns → AtomP d ts t ns
as_atom d ts t ns p = (plain ts t p.0, p.1)

begun_to : (d : ℕ) (s : AtomStart) (k : Lexeme) (ts : List Lexeme) (t : TermTree) (ns : List ℕ) → MeansAtom s k →
    BegunR d s k ts t ns → AtomP d (k ∷ ts) t (d ∷ ns)
begun_to d Name k ts t ns is p = as_atom d _ t _ (plain_to d Name k ts t ns is p)
begun_to d Constructor k _ _ _ is nothing = (constructor k is, refl)
begun_to d (Number n) k ts t ns is p = as_atom d _ t _ (plain_to d (Number n) k ts t ns is p)
begun_to d (Character c) k ts t ns is p = as_atom d _ t _ (plain_to d (Character c) k ts t ns is p)
begun_to d (Truth b) k ts t ns is p = as_atom d _ t _ (plain_to d (Truth b) k ts t ns is p)
begun_to d Paren k ts t ns is p = as_atom d _ t _ (plain_to d Paren k ts t ns is p)

pub atom_to : (d : ℕ) (ts : List Lexeme) (t : TermTree) (ns : List ℕ) → AtomR d ts t ns → AtomP d ts t ns
atom_to d _ _ _ (first k s ts t ns e p) = begun_to d s k ts t ns (atom_means k s e) p

-- a plain atom as it is read: what it begins with, and what stands behind
pub record PlainRead (d : ℕ) (ts : List Lexeme) (t : TermTree) (ns : List ℕ) : Type 0 where
  pub begin : AtomStart
  pub token : Lexeme
  pub others : List Lexeme
  pub nests : List ℕ
  pub means : MeansPlain begin token
  pub parts : ts ≡ token ∷ others
  pub numbers : ns ≡ d ∷ nests
  pub phrase : BegunR d begin token others t nests

pub of_plain : (d : ℕ) (ts : List Lexeme) (t : TermTree) (s : IsPlain ts t) → PlainRead d ts t (plain_nests d s)
of_plain d _ _ (named k ts types is s) =
    record {
      begin = Name;
      token = k;
      others = ts;
      nests = applied_nests d s;
      means = is;
      parts = refl;
      numbers = refl;
      phrase =
          made ts types (applied_nests d s) (s, refl);
    }
of_plain d _ _ (number k n is) =
    record { begin = Number n; token = k; others = []; nests = []; means = is; parts = refl; numbers = refl; phrase = nothing }
of_plain d _ _ (character k c is) =
    record { begin = Character c; token = k; others = []; nests = []; means = is; parts = refl; numbers = refl; phrase = nothing }
of_plain d _ _ (yes k is) =
    record { begin = Truth true; token = k; others = []; nests = []; means = is; parts = refl; numbers = refl; phrase = nothing }
of_plain d _ _ (no k is) =
    record { begin = Truth false; token = k; others = []; nests = []; means = is; parts = refl; numbers = refl; phrase = nothing }
of_plain d _ _ (unit o c opens closes) =
    record {
      begin = Paren;
      token = o;
      others = c ∷ [];
      nests = d ∷ [];
      means = opens;
      parts = refl;
      numbers = refl;
      phrase =
          taken c [] _ [] closes nothing;
    }
of_plain d _ _ (group o c ts all t opens s closes parts) =
    record {
      begin = Paren;
      token = o;
      others = ts ++ c ∷ [];
      nests = expr_nests (suc d) s ++ d ∷ [];
      means = opens;
      parts = parts;
      numbers = refl;
      phrase = other _ _ _ (phrase.pair _ ts (c ∷ []) t t _ (expr_nests (suc d) s) (d ∷ []) (s, refl)
          (other _ _ _ (made _ tt _ (word_at d (codes ")") c closes))) refl refl);
    }
of_plain d _ _ (pair o m c ts us all t u opens s comma r closes parts) =
    record {
      begin = Paren;
      token = o;
      others = ts ++ (m ∷ (us ++ c ∷ []));
      nests = expr_nests (suc d) s ++ (d ∷ (expr_nests (suc d) r ++ d ∷ []));
      means = opens;
      parts = parts;
      numbers = refl;
      phrase = other _ _ _ (phrase.pair _ ts (m ∷ (us ++ c ∷ [])) t _ _ (expr_nests (suc d) s)
          (d ∷ (expr_nests (suc d) r ++ d ∷ [])) (s, refl)
          (taken m _ _ _ comma (phrase.pair _ us (c ∷ []) u _ _ (expr_nests (suc d) r) (d ∷ []) (r, refl)
          (made _ tt _ (word_at d (codes ")") c closes)) refl refl)) refl refl);
    }

pub plain_from : (d : ℕ) (ts : List Lexeme) (t : TermTree) (ns : List ℕ) → PlainP d ts t ns → PlainRead d ts t ns
plain_from d ts t ns p = subst (PlainRead d ts t) p.1 (of_plain d ts t p.0)

-- a plain atom as it is read
abbrev pub PlainR : ℕ → Phrase TermTree
PlainR d = Switch d plain_start (BegunR d)

pub plain_read : (d : ℕ) (ts : List Lexeme) (t : TermTree) (ns : List ℕ) → PlainR d ts t ns → PlainP d ts t ns
plain_read d _ _ _ (first k s ts t ns e p) = plain_to d s k ts t ns (plain_means k s e) p

pub read_plain : (d : ℕ) (ts : List Lexeme) (t : TermTree) (ns : List ℕ) → PlainP d ts t ns → PlainR d ts t ns
read_plain d ts t ns p =
    let q = plain_from d ts t ns p in
    moved (PlainR d) ts (q.token ∷ q.others) t t ns (d ∷ q.nests) q.parts refl q.numbers
    (first q.token q.begin q.others t q.nests (means_plain q.begin q.token q.means) q.phrase)

of_atom : (d : ℕ) (ts : List Lexeme) (t : TermTree) (s : IsAtom ts t) → AtomR d ts t (atom_nests d s)
of_atom d _ _ (constructor k is) = first k Constructor [] _ [] (means_atom Constructor k is) nothing
of_atom d _ _ (plain ts t a) =
    let q = of_plain d ts t a in
    moved (AtomR d) ts (q.token ∷ q.others) t t (plain_nests d a) (d ∷ q.nests) q.parts refl q.numbers
    (first q.token q.begin q.others t q.nests (plain_atom q.begin q.token q.means) q.phrase)

pub atom_from : (d : ℕ) (ts : List Lexeme) (t : TermTree) (ns : List ℕ) → AtomP d ts t ns → AtomR d ts t ns
atom_from d ts t ns p = subst (AtomR d ts t) p.1 (of_atom d ts t p.0)
