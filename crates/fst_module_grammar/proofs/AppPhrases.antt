-- The phrases of applications, put together in the way in which they are read.
use Rattle.std.proofs.Common.{◌≡◌, ℕ, suc, ◌<◌, List, [], ◌∷◌, ◌++◌, length, refl, sym, ap, subst, ◌∙◌, arith}
use Rattle.fst_terms.specs.TermTree as term
use Rattle.fst_terms.specs.TermTree.{TermTree, TermList, no_terms}
use Rattle.fst_reading.specs.Lexeme.{Lexeme, start, upper_of}
use Rattle.fst_reading.specs.Faults.{Phrase}
use Rattle.fst_reading.proofs.Words.{moved}
use Rattle.fst_reading.proofs.Tokens.{upper_is, is_upper}
use Rattle.fst_reading.proofs.Phrases as phrase
use Rattle.fst_reading.proofs.Phrases.{nothing, Then, Mapped, made, Switch, first, Located, at, Either, one, other, Repeat, enough, again}
use Rattle.fst_reading.proofs.Parts.{One}
use Rattle.fst_type_syntax.specs.Derives.{AtomPhrase as TypeAtomP}
use Rattle.fst_module_grammar.specs.Grammar.{IsApp, send, receive, close, wait, select, new, fork, make, head, AreAtoms, no_atoms, atom}
use Rattle.fst_module_grammar.specs.Nesting.{app_nests, head_nests, head_operands, atoms_nests, atom_nests}
use Rattle.fst_module_grammar.specs.declared.starts.AppStart.{AppStart}
use Rattle.fst_module_grammar.specs.declared.starts.AppStart.TheVariants.{Send, Receive, Close, Wait, Select, New, Fork, Make}
use Rattle.fst_module_grammar.specs.TermReading.{app_start, append_term}
use Rattle.fst_module_grammar.proofs.Lefts.{Right, left_filled, to_left, of_left}
use Rattle.fst_module_grammar.proofs.ChainPhrases.{AtomP, PlainP, Argument, head_to, head_from}
use Rattle.fst_module_grammar.proofs.Begins.{plain_begins}
use Rattle.fst_module_grammar.proofs.TermTokens.{MeansApp, app_means, means_app}
use Rattle.fst_reading.proofs.Located.{locate}

abbrev pub AppP : ℕ → Phrase TermTree
AppP d ts t ns = (s : IsApp ts t) × (app_nests d s ≡ ns)

-- one argument more
abbrev pub ArgumentS : ℕ → TermList → Phrase TermList
ArgumentS e args = Mapped (append_term args) (AtomP e)

abbrev pub append_terms : TermList → TermList → TermList
append_terms no_terms us = us
append_terms (term.term t ts) us = term.term t (append_terms ts us)

append_terms_none : (ts : TermList) → append_terms ts no_terms ≡ ts
append_terms_none no_terms = refl
append_terms_none (term.term t ts) = ap (term.term t) (append_terms_none ts)

append_terms_behind : (ts : TermList) (t : TermTree) (us : TermList) →
    append_terms (append_term ts t) us ≡ append_terms ts (term.term t us)
append_terms_behind no_terms t us = refl
append_terms_behind (term.term s ts) t us = ap (term.term s) (append_terms_behind ts t us)

-- arguments behind others
abbrev pub ArgumentsP : ℕ → TermList → Phrase TermList
ArgumentsP e args ts all ns = (more : TermList) × (s : AreAtoms ts more) × (all ≡ append_terms args more) × (atoms_nests e s ≡ ns)

pub arguments_to : (e : ℕ) (args : TermList) (ts : List Lexeme) (all : TermList) (ns : List ℕ) →
    Repeat ArgumentS e args ts all ns → ArgumentsP e args ts all ns
arguments_to _ _ _ _ _ (enough e args) = (no_terms, no_atoms, sym (append_terms_none args), refl)
arguments_to _ _ _ _ _ (again ts us vs e args y all ns ms ks (made _ t _ a) r parts nests) =
    let o = arguments_to (suc e) (append_term args t) vs all ks r in (
      term.term t o.0,
      atom us vs ts t o.0 a.0 o.1 parts,
      o.2 ∙ append_terms_behind args t o.0,
      (let e2 : atom_nests e a.0 ++ atoms_nests (suc e) o.1 ≡ ns = rw (a.1, o.3) (sym nests) in e2),
    )

of_arguments : (e : ℕ) (args : TermList) (ts : List Lexeme) (more : TermList) (s : AreAtoms ts more) →
    Repeat ArgumentS e args ts (append_terms args more) (atoms_nests e s)
of_arguments e args _ _ no_atoms = subst (λ z. Repeat ArgumentS e args [] z []) (sym (append_terms_none args)) (enough e args)
of_arguments e args _ _ (atom ts us all t more a s parts) =
    again all ts us e args (append_term args t) _ _ (atom_nests e a) (atoms_nests (suc e) s) (made ts t _ (a, refl))
    (subst (λ z. Repeat ArgumentS (suc e) (append_term args t) us z (atoms_nests (suc e) s)) (append_terms_behind args t more)
    (of_arguments (suc e) (append_term args t) us more s)) parts refl

pub plain_filled : (d : ℕ) (us : List Lexeme) (t : TermTree) (ns : List ℕ) → PlainP d us t ns → 0 < length us
plain_filled d us t ns p = let b = plain_begins d p.0 in omega (arith, ap length b.3)

-- a label, one operand further
abbrev pub LabelP : ℕ → Phrase Lexeme
LabelP e = One e upper_of

-- behind what an application begins with
abbrev pub AppBegunR : ℕ → AppStart → Lexeme → Phrase TermTree
AppBegunR d Send k = Then (AtomP (suc d)) (λ (t : TermTree). Mapped (term.send k.at t) (AtomP (suc (suc d))))
AppBegunR d Receive k = Mapped (term.receive k.at) (AtomP (suc d))
AppBegunR d Close k = Mapped (term.close k.at) (AtomP (suc d))
AppBegunR d Wait k = Mapped (term.wait k.at) (AtomP (suc d))
AppBegunR d Select k = Then (LabelP (suc d)) (λ (l : Lexeme). Mapped (term.select k.at l.text) (AtomP (suc (suc d))))
AppBegunR d New k = Mapped (term.new k.at) (TypeAtomP (suc d))
AppBegunR d Fork k = Mapped (term.fork k.at) (AtomP (suc d))
AppBegunR d Make k = Mapped (term.make k.at k.text) (Repeat ArgumentS (suc d) no_terms)

-- an atom and what it is applied to
abbrev pub HeadR : ℕ → Phrase TermTree
HeadR d = Located (λ at. Right (PlainP d) Argument d (plain_filled d) at)

abbrev pub AppR : ℕ → Phrase TermTree
AppR d = Either (Switch d app_start (AppBegunR d)) (HeadR d)

head_read : (d : ℕ) (ts : List Lexeme) (t : TermTree) (ns : List ℕ) → HeadR d ts t ns → AppP d ts t ns
head_read d _ _ _ (at k ts t ns q) =
    let l = to_left (PlainP d) Argument d (plain_filled d) k.at (k ∷ ts) t ns refl q in
    let h = head_to d l.0 (k ∷ ts) t ns l.1 in
    (head (k ∷ ts) t h.0, h.1)

pub app_to : (d : ℕ) (ts : List Lexeme) (t : TermTree) (ns : List ℕ) → AppR d ts t ns → AppP d ts t ns
app_to d _ _ _ (other ts t ns q) = head_read d ts t ns q
app_to d _ _ _ (one _ _ _ (first k s ts t ns e p)) = by_start s (app_means k s e) ts t ns p
  where
    by_start : (s : AppStart) → MeansApp s k → (ts : List Lexeme) (t : TermTree) (ns : List ℕ) → AppBegunR d s k ts t ns →
        AppP d (k ∷ ts) t (d ∷ ns)
    by_start Send is _ _ _ (phrase.pair ts us vs t _ ns ms _ a (made _ u ks b) parts nests) = (
      send k us vs (k ∷ ts) t u is a.0 b.0 (ap (λ (w : List Lexeme). k ∷ w) parts),
      (let e2 : d ∷ atom_nests (suc d) a.0 ++ atom_nests (suc (suc d)) b.0 ≡ d ∷ ns =
          rw (a.1, b.1) (ap (λ (w : List ℕ). d ∷ w) (sym nests)) in e2),
    )
    by_start Receive is _ _ _ (made ts t ns a) = (receive k ts t is a.0, ap (λ (w : List ℕ). d ∷ w) a.1)
    by_start Close is _ _ _ (made ts t ns a) = (close k ts t is a.0, ap (λ (w : List ℕ). d ∷ w) a.1)
    by_start Wait is _ _ _ (made ts t ns a) = (wait k ts t is a.0, ap (λ (w : List ℕ). d ∷ w) a.1)
    by_start Select is _ _ _ (phrase.pair ts _ vs _ _ ns _ _ (first l m _ _ _ g nothing) (made _ u ks b) parts nests) =
        let name = upper_is l m g in
        moved (AppP d) (k ∷ ts) (k ∷ l ∷ vs) _ (term.select k.at l.text u) (d ∷ ns) (d ∷ suc d ∷ ks)
        (ap (λ (w : List Lexeme). k ∷ w) parts) (ap (λ (z : Lexeme). term.select k.at z.text u) (sym name.1))
        (ap (λ (w : List ℕ). d ∷ w) nests)
        (select k l vs u is name.0 b.0, ap (λ (w : List ℕ). d ∷ suc d ∷ w) b.1)
    by_start New is _ _ _ (made ts t ns a) = (new k ts t is a.0, ap (λ (w : List ℕ). d ∷ w) a.1)
    by_start Fork is _ _ _ (made ts t ns a) = (fork k ts t is a.0, ap (λ (w : List ℕ). d ∷ w) a.1)
    by_start Make is _ _ _ (made ts args ns r) =
        let o = arguments_to (suc d) no_terms ts args ns r in
        subst (λ z. AppP d (k ∷ ts) (term.make k.at k.text z) (d ∷ ns)) (sym o.2)
        (make k ts o.0 is o.1, ap (λ (w : List ℕ). d ∷ w) o.3)

pub of_app : (d : ℕ) (ts : List Lexeme) (t : TermTree) (s : IsApp ts t) → AppR d ts t (app_nests d s)
of_app d _ _ (send k ts us all t u is a b parts) =
    moved (AppR d) all (k ∷ ts ++ us) _ _ _ _ parts refl refl (one _ _ _ (first k Send (ts ++ us) _ _ (means_app Send k is)
    (phrase.pair _ ts us t _ _ (atom_nests (suc d) a) (atom_nests (suc (suc d)) b) (a, refl) (made us u _ (b, refl)) refl refl)))
of_app d _ _ (receive k ts t is a) = one _ _ _ (first k Receive ts _ _ (means_app Receive k is) (made ts t _ (a, refl)))
of_app d _ _ (close k ts t is a) = one _ _ _ (first k Close ts _ _ (means_app Close k is) (made ts t _ (a, refl)))
of_app d _ _ (wait k ts t is a) = one _ _ _ (first k Wait ts _ _ (means_app Wait k is) (made ts t _ (a, refl)))
of_app d _ _ (select k l ts t is label a) =
    one _ _ _ (first k Select (l ∷ ts) _ _ (means_app Select k is)
    (phrase.pair _ (l ∷ []) ts l _ _ (suc d ∷ []) (atom_nests (suc (suc d)) a) (first l l [] l [] (is_upper l label) nothing)
    (made ts t _ (a, refl)) refl refl))
of_app d _ _ (new k ts t is a) = one _ _ _ (first k New ts _ _ (means_app New k is) (made ts t _ (a, refl)))
of_app d _ _ (fork k ts t is a) = one _ _ _ (first k Fork ts _ _ (means_app Fork k is) (made ts t _ (a, refl)))
of_app d _ _ (make k ts args is s) = one _ _ _
    (first k Make ts _ _ (means_app Make k is) (made ts args _ (of_arguments (suc d) no_terms ts args s)))
of_app d _ _ (head ts t s) =
    let l = head_from d ts t s in
    other ts t _ (locate (λ at. Right (PlainP d) Argument d (plain_filled d) at) (start ts) ts t (head_nests d s)
    (left_filled (PlainP d) Argument d (plain_filled d) (head_operands s) ts t (head_nests d s) l) refl
    (of_left (PlainP d) Argument d (plain_filled d) (head_operands s) ts t (head_nests d s) l))

pub app_from : (d : ℕ) (ts : List Lexeme) (t : TermTree) (ns : List ℕ) → AppP d ts t ns → AppR d ts t ns
app_from d ts t ns p = subst (AppR d ts t) p.1 (of_app d ts t p.0)
