-- The phrases of types, put together in the way in which they are read.
use Rattle.std.proofs.Common.{◌≡◌, ℕ, suc, ◌⊎◌, inl, inr, Bool, true, false, List, [], ◌∷◌, ◌++◌, length, Some, refl, sym, ap, subst, ◌∙◌, arith, ◌||◌, length-append}
use Rattle.std.specs.Prelude.{codes}
use Rattle.std.proofs.lemmas.List.{append-nil}
use Rattle.fst_types.specs.declared.base.Base.{Base}
use Rattle.fst_types.specs.declared.base.Base.TheVariants as base
use Rattle.fst_types.specs.declared.kind.Use.TheVariants.{Many, Once}
use Rattle.fst_types.specs.WrittenTree as written
use Rattle.fst_types.specs.WrittenTree.{WrittenTree, WrittenBranches, branch}
use Rattle.fst_type_syntax.specs.declared.starts.Start.{Start}
use Rattle.fst_type_syntax.specs.declared.starts.Start.TheVariants as begin
use Rattle.fst_reading.specs.Lexeme.{Lexeme, spells, Is, IsLower, IsUpper, start, lower_of, upper_of, is_one}
use Rattle.fst_type_syntax.specs.Grammar.{IsBase, int, bool, char, unit, IsArrow, many, once, IsType, single, arrow, IsSeq, rec, atom, chain, IsAtom, skip, send, receive, close, wait, select, offer, plain, lower, upper, group, pair, IsAlts, last, further, IsAlt, alt}
use Rattle.fst_type_syntax.specs.Nesting.{type_nests, seq_nests, atom_nests, alts_nests, alt_nests}
use Rattle.fst_reading.specs.Faults.{level, Phrase}
use Rattle.fst_type_syntax.specs.TypeReading.{base_word, start_of, branches, is_begun, starts_type}
use Rattle.fst_reading.proofs.Phrases as phrase
use Rattle.fst_reading.proofs.Phrases.{Give, nothing, Then, Mapped, made, Switch, first, On, taken, other, Located, at, Separated}
use Rattle.fst_reading.proofs.Steps.{start_more}
use Rattle.fst_reading.proofs.Parts.{One}
use Rattle.fst_reading.proofs.Tokens.{only_is, is_only, lower_is, is_lower, upper_is, is_upper, one_is, is_one_so}
use Rattle.fst_type_syntax.proofs.TypeTokens.{IsBaseWord, is_base_word, base_word_is, Means, start_means, means_start}
use Rattle.fst_reading.proofs.Words.{Word, moved, word_at, BeginsWith, filled_by, front_start}
use Rattle.fst_type_syntax.specs.Derives.{SeqPhrase, TypePhrase, AtomPhrase}
use Rattle.fst_reading.proofs.Located.{locate}

-- a base type, each of whose tokens has this nesting; and in the same way a branch
abbrev pub BaseP : ℕ → Phrase Base
BaseP d ts b ns = (s : IsBase ts b) × (level d ts ≡ ns)

abbrev pub AltP : ℕ → Phrase (List ℕ × WrittenTree)
AltP d ts x ns = (s : IsAlt ts x.0 x.1) × (alt_nests d s ≡ ns)

-- a base type as it is read
abbrev pub BaseR : ℕ → Phrase Base
BaseR d = On d (spells (codes "(")) (Mapped (λ (u : Unit {0}). base.Unit) (Word d (codes ")"))) (One d base_word)

one_word : (k : Lexeme) (b : Base) → IsBaseWord b k → IsBase (k ∷ []) b
one_word k base.Int is = int k is
one_word k base.Bool is = bool k is
one_word k base.Char is = char k is
one_word k base.Unit is = absurd is

pub base_to : (d : ℕ) (ts : List Lexeme) (b : Base) (ns : List ℕ) → BaseR d ts b ns → BaseP d ts b ns
base_to d _ _ _ (taken k _ _ _ is (made _ _ _ (first c x _ _ _ e nothing))) =
    (unit k c is (only_is (spells (codes ")")) c x e), refl)
base_to d _ _ _ (other _ _ _ (first k b _ _ _ e nothing)) = (one_word k b (base_word_is k b e), refl)

pub base_from : (d : ℕ) (ts : List Lexeme) (b : Base) (ns : List ℕ) → BaseP d ts b ns → BaseR d ts b ns
base_from d ts b ns p = subst (BaseR d ts b) p.1 (of_base ts b p.0)
  where
    of_base : (us : List Lexeme) (c : Base) → IsBase us c → BaseR d us c (level d us)
    of_base _ _ (int k is) = other _ _ _ (first k base.Int [] base.Int [] (is_base_word base.Int k is) nothing)
    of_base _ _ (bool k is) = other _ _ _ (first k base.Bool [] base.Bool [] (is_base_word base.Bool k is) nothing)
    of_base _ _ (char k is) = other _ _ _ (first k base.Char [] base.Char [] (is_base_word base.Char k is) nothing)
    of_base _ _ (unit k c is closes) = taken k (c ∷ []) base.Unit (d ∷ []) is
        (made (c ∷ []) tt (d ∷ []) (first c tt [] tt [] (is_only (spells (codes ")")) c closes) nothing))

-- a branch as it is read
abbrev pub AltR : ℕ → Phrase (List ℕ × WrittenTree)
AltR d = Then (One d upper_of) (λ (l : Lexeme). Then (Word d (codes ":"))
    (λ (c : Unit {0}). Mapped (λ (t : WrittenTree). (l.text, t)) (SeqPhrase (suc d))))

pub alt_to : (d : ℕ) (ts : List Lexeme) (x : List ℕ × WrittenTree) (ns : List ℕ) → AltR d ts x ns → AltP d ts x ns
alt_to d _ _ _ (phrase.pair ts _ us _ _ ns _ ks (first l x _ _ _ e nothing)
    (phrase.pair _ _ vs _ _ _ _ ms (first c y _ _ _ g nothing) (made _ t _ s) parts nests) parts' nests') =
    let name = upper_is l x e in
    moved (AltP d) ts (l ∷ c ∷ vs) (x.text, t) (l.text, t) ns (d ∷ d ∷ ms) (parts' ∙ ap (λ (w : List Lexeme). l ∷ w) parts)
    (ap (λ (z : Lexeme). (z.text, t)) (sym name.1))
    (nests' ∙ ap (λ (w : List ℕ). d ∷ w) nests) (
      alt l c vs t name.0 (only_is (spells (codes ":")) c y g) s.0,
      ap
          (λ (w : List ℕ). d ∷ d ∷ w) s.1,
    )

of_alt : (d : ℕ) (ts : List Lexeme) (l : List ℕ) (t : WrittenTree) (s : IsAlt ts l t) → AltR d ts (l, t) (alt_nests d s)
of_alt d _ _ _ (alt l c ts t is colon s) =
    phrase.pair _ (l ∷ []) (c ∷ ts) l _ _ (d ∷ []) (d ∷ seq_nests (suc d) s) (first l l [] l [] (is_upper l is) nothing)
    (phrase.pair _ (c ∷ []) ts tt _ _ (d ∷ []) (seq_nests (suc d) s)
    (first c tt [] tt [] (is_only (spells (codes ":")) c colon) nothing)
    (made ts t (seq_nests (suc d) s) (s, refl)) refl refl) refl refl

pub alt_from : (d : ℕ) (ts : List Lexeme) (x : List ℕ × WrittenTree) (ns : List ℕ) → AltP d ts x ns → AltR d ts x ns
alt_from d ts x ns p = subst (AltR d ts x) p.1 (of_alt d ts x.0 x.1 p.0)

-- the branches of a choice as they are read
abbrev pub AltsR : ℕ → Phrase (List (List ℕ × WrittenTree))
AltsR d = Separated d (spells (codes ",")) (AltP d)

alts_to : (d : ℕ) (ts : List Lexeme) (xs : List (List ℕ × WrittenTree)) (ns : List ℕ) → AltsR d ts xs ns →
    (s : IsAlts ts (branches xs)) × (alts_nests d s ≡ ns)
alts_to d _ _ _ (phrase.last ts x ns p) = (last ts x.0 x.1 p.0, p.1)
alts_to d _ _ _ (phrase.further ts us vs k x xs ns ms ks p is q parts nests) =
    let o = alts_to d vs xs ks q in (
      further us vs ts k x.0 x.1 (branches xs) p.0 is o.0 parts,
      (let e : alt_nests d p.0 ++ d ∷ alts_nests d o.0 ≡ ns = rw (p.1, o.1) (sym nests) in e),
    )

alts_from : (d : ℕ) (ts : List Lexeme) (bs : WrittenBranches) (s : IsAlts ts bs) → (xs : List (List ℕ × WrittenTree)) ×
    (branches xs ≡ bs) × AltsR d ts xs (alts_nests d s)
alts_from d _ _ (last ts l t a) = ((l, t) ∷ [], refl, phrase.last ts (l, t) (alt_nests d a) (a, refl))
alts_from d _ _ (further ts us all k l t bs a is s parts) =
    let o = alts_from d us bs s in (
      (l, t) ∷ o.0,
      ap (branch l t) o.1,
      phrase.further all ts us k (l, t) o.0 _ (alt_nests d a) (alts_nests d s)
          (a, refl) is o.2 parts refl,
    )

-- behind the sign of a choice
abbrev pub ChoiceR : ℕ → (WrittenBranches → WrittenTree) → Phrase WrittenTree
ChoiceR d make = Then (Word d (codes "{")) (λ (o : Unit {0}). Then (AltsR d)
    (λ (bs : List (List ℕ × WrittenTree)). Mapped (λ (c : Unit {0}). make (branches bs)) (Word d (codes "}"))))

-- the second type of a pair
abbrev pub PairR : ℕ → Lexeme → WrittenTree → Phrase WrittenTree
PairR d k t = Then (TypePhrase d) (λ (u : WrittenTree). Mapped (λ (c : Unit {0}). written.pair k.at t u) (Word d (codes ")")))

-- behind a type in parentheses
abbrev pub ClosedR : ℕ → Lexeme → WrittenTree → Phrase WrittenTree
ClosedR d k t = On d (spells (codes ",")) (PairR d k t) (Mapped (λ (c : Unit {0}). t) (Word d (codes ")")))

-- behind a parenthesis
abbrev pub ParenR : ℕ → Lexeme → Phrase WrittenTree
ParenR d k = On d (spells (codes ")")) (Give (written.plain k.at base.Unit)) (Then (TypePhrase d) (ClosedR d k))

-- behind what a `tatom` begins with
abbrev pub BegunR : ℕ → Start → Lexeme → Phrase WrittenTree
BegunR d begin.Skip k = Give (written.skip k.at)
BegunR d begin.Send k = Mapped (written.send k.at) (BaseP d)
BegunR d begin.Receive k = Mapped (written.receive k.at) (BaseP d)
BegunR d begin.Close k = Give (written.close k.at)
BegunR d begin.Wait k = Give (written.wait k.at)
BegunR d begin.Select k = ChoiceR d (written.select k.at)
BegunR d begin.Offer k = ChoiceR d (written.offer k.at)
BegunR d begin.Paren k = ParenR d k
BegunR d begin.Name k = Give (written.named k.at k.text)
BegunR d (begin.Word b) k = Give (written.plain k.at b)

abbrev pub AtomR : ℕ → Phrase WrittenTree
AtomR d = Switch d start_of (BegunR d)

-- a choice in full
record IsChoice (d : ℕ) (make : WrittenBranches → WrittenTree) (ts : List Lexeme) (t : WrittenTree) (ns : List ℕ) : Type 0 where
  opens : Lexeme
  closes : Lexeme
  tokens : List Lexeme
  branches_are : WrittenBranches
  is_open : Is (codes "{") opens
  derived : IsAlts tokens branches_are
  is_closed : Is (codes "}") closes
  parts : ts ≡ opens ∷ tokens ++ closes ∷ []
  value : t ≡ make branches_are
  nests_are : ns ≡ d ∷ alts_nests d derived ++ d ∷ []

choice_to : (d : ℕ) (make : WrittenBranches → WrittenTree) (ts : List Lexeme) (t : WrittenTree) (ns : List ℕ) →
    ChoiceR d make ts t ns → IsChoice d make ts t ns
choice_to d make _ _ _ (phrase.pair ts _ us _ _ ns _ ks (first o x _ _ _ e nothing)
    (phrase.pair _ vs _ xs _ _ ms _ q (made _ _ _ (first c y _ _ _ g nothing)) parts nests) parts' nests') =
    let s = alts_to d vs xs ms q in
    record {
      opens = o;
      closes = c;
      tokens = vs;
      branches_are = branches xs;
      is_open = only_is (spells (codes "{")) o x e;
      derived = s.0;
      is_closed = only_is (spells (codes "}")) c y g;
      parts = parts' ∙ ap (λ (w : List Lexeme). o ∷ w) parts;
      value = refl;
      nests_are = nests' ∙ ap (λ (w : List ℕ). d ∷ w) (nests ∙ ap (λ (w : List ℕ). w ++ d ∷ []) (sym s.1));
    }

choice_from : (d : ℕ) (make : WrittenBranches → WrittenTree) (ts : List Lexeme) (t : WrittenTree) (ns : List ℕ) →
    IsChoice d make ts t ns → ChoiceR d make ts t ns
choice_from d make ts t ns i =
    let s = alts_from d i.tokens i.branches_are i.derived in
    moved (ChoiceR d make) ts (i.opens ∷ i.tokens ++ i.closes ∷ []) t (make (branches s.0)) ns
    (d ∷ alts_nests d i.derived ++ d ∷ []) i.parts (i.value ∙ ap make (sym s.1)) i.nests_are
    (phrase.pair _ (i.opens ∷ []) (i.tokens ++ i.closes ∷ []) tt _ _ (d ∷ []) (alts_nests d i.derived ++ d ∷ [])
    (first i.opens tt [] tt [] (is_only (spells (codes "{")) i.opens i.is_open) nothing)
    (phrase.pair _ i.tokens (i.closes ∷ []) s.0 _ _ (alts_nests d i.derived) (d ∷ []) s.2
    (made _ tt _ (first i.closes tt [] tt [] (is_only (spells (codes "}")) i.closes i.is_closed) nothing)) refl refl) refl
    refl)

paren_to : (d : ℕ) (k : Lexeme) (ts : List Lexeme) (t : WrittenTree) (ns : List ℕ) → Is (codes "(") k → ParenR d k ts t ns →
    AtomPhrase d (k ∷ ts) t (d ∷ ns)
paren_to d k _ _ _ is (taken c _ _ _ closes nothing) = (plain (k ∷ c ∷ []) base.Unit (unit k c is closes), refl)
paren_to d k _ _ _ is (other _ _ _ (phrase.pair ts us _ t _ ns ms _ s
    (taken m _ _ _ comma (phrase.pair vs ws _ u _ ks ls _ r (made _ _ _ (first c y _ _ _ e nothing)) parts nests)) parts'
    nests')) =
    moved (AtomPhrase d) (k ∷ ts) (k ∷ (us ++ (m ∷ (ws ++ c ∷ [])))) _ (written.pair k.at t u) (d ∷ ns)
    (d ∷ (ms ++ (d ∷ (ls ++ d ∷ []))))
    (ap (λ (w : List Lexeme). k ∷ w) (parts' ∙ ap (λ (w : List Lexeme). us ++ m ∷ w) parts)) refl
    (ap (λ (w : List ℕ). d ∷ w) (nests' ∙ ap (λ (w : List ℕ). ms ++ d ∷ w) nests)) (
      pair k m c us ws (k ∷ (us ++ (m ∷ (ws ++ c ∷ [])))) t u is s.0 comma r.0 (only_is (spells (codes ")")) c y e) refl,
      (let e2 : d ∷ (type_nests d s.0 ++ (d ∷ (type_nests d r.0 ++ d ∷ []))) ≡ d ∷ (ms ++ (d ∷ (ls ++ d ∷ []))) =
          rw (s.1, r.1) refl in e2),
    )
paren_to d k _ _ _ is (other _ _ _ (phrase.pair ts us _ t _ ns ms _ s
    (other _ _ _ (made _ _ _ (first c y _ _ _ e nothing))) parts' nests')) =
    moved (AtomPhrase d) (k ∷ ts) (k ∷ us ++ c ∷ []) _ t (d ∷ ns) (d ∷ ms ++ d ∷ []) (ap (λ (w : List Lexeme). k ∷ w) parts') refl
    (ap (λ (w : List ℕ). d ∷ w) nests') (
      group k c us (k ∷ us ++ c ∷ []) t is s.0 (only_is (spells (codes ")")) c y e) refl,
      (let e2 : d ∷ type_nests d s.0 ++ d ∷ [] ≡ d ∷ ms ++ d ∷ [] = rw s.1 refl in e2),
    )

select_to : (d : ℕ) (k : Lexeme) (ts : List Lexeme) (t : WrittenTree) (ns : List ℕ) → Is (codes "+") k →
    IsChoice d (written.select k.at) ts t ns → AtomPhrase d (k ∷ ts) t (d ∷ ns)
select_to d k ts t ns is i =
    moved (AtomPhrase d) (k ∷ ts) (k ∷ i.opens ∷ i.tokens ++ i.closes ∷ []) t (written.select k.at i.branches_are) (d ∷ ns) _
    (ap (λ (w : List Lexeme). k ∷ w) i.parts) i.value (ap (λ (w : List ℕ). d ∷ w) i.nests_are)
    (select k i.opens i.closes i.tokens _ i.branches_are is i.is_open i.derived i.is_closed refl, refl)

offer_to : (d : ℕ) (k : Lexeme) (ts : List Lexeme) (t : WrittenTree) (ns : List ℕ) → Is (codes "&") k →
    IsChoice d (written.offer k.at) ts t ns → AtomPhrase d (k ∷ ts) t (d ∷ ns)
offer_to d k ts t ns is i =
    moved (AtomPhrase d) (k ∷ ts) (k ∷ i.opens ∷ i.tokens ++ i.closes ∷ []) t (written.offer k.at i.branches_are) (d ∷ ns) _
    (ap (λ (w : List Lexeme). k ∷ w) i.parts) i.value (ap (λ (w : List ℕ). d ∷ w) i.nests_are)
    (offer k i.opens i.closes i.tokens _ i.branches_are is i.is_open i.derived i.is_closed refl, refl)

name_to : (d : ℕ) (k : Lexeme) → IsLower k ⊎ IsUpper k → AtomPhrase d (k ∷ []) (written.named k.at k.text) (d ∷ [])
name_to d k (inl is) = (lower k is, refl)
name_to d k (inr is) = (upper k is, refl)

begun_to : (d : ℕ) (s : Start) (k : Lexeme) (ts : List Lexeme) (t : WrittenTree) (ns : List ℕ) → Means s k →
    BegunR d s k ts t ns → AtomPhrase d (k ∷ ts) t (d ∷ ns)
begun_to d begin.Skip k _ _ _ is nothing = (skip k is, refl)
begun_to d begin.Send k _ _ _ is (made ts b ns s) = (send k ts b is s.0, ap (λ (w : List ℕ). d ∷ w) s.1)
begun_to d begin.Receive k _ _ _ is (made ts b ns s) = (receive k ts b is s.0, ap (λ (w : List ℕ). d ∷ w) s.1)
begun_to d begin.Close k _ _ _ is nothing = (close k is, refl)
begun_to d begin.Wait k _ _ _ is nothing = (wait k is, refl)
begun_to d begin.Select k ts t ns is p = select_to d k ts t ns is (choice_to d (written.select k.at) ts t ns p)
begun_to d begin.Offer k ts t ns is p = offer_to d k ts t ns is (choice_to d (written.offer k.at) ts t ns p)
begun_to d begin.Paren k ts t ns is p = paren_to d k ts t ns is p
begun_to d begin.Name k _ _ _ is nothing = name_to d k is
begun_to d (begin.Word b) k _ _ _ is nothing = word_to b is
  where
    word_to : (c : Base) → IsBaseWord c k → AtomPhrase d (k ∷ []) (written.plain k.at c) (d ∷ [])
    word_to base.Int e = (plain (k ∷ []) base.Int (int k e), refl)
    word_to base.Bool e = (plain (k ∷ []) base.Bool (bool k e), refl)
    word_to base.Char e = (plain (k ∷ []) base.Char (char k e), refl)
    word_to base.Unit e = absurd e

pub atom_to : (d : ℕ) (ts : List Lexeme) (t : WrittenTree) (ns : List ℕ) → AtomR d ts t ns → AtomPhrase d ts t ns
atom_to d _ _ _ (first k s ts t ns e p) = begun_to d s k ts t ns (start_means k s e) p

begun : (d : ℕ) (s : Start) (k : Lexeme) (ts : List Lexeme) (t : WrittenTree) (ns : List ℕ) → Means s k → BegunR d s k ts t ns →
    AtomR d (k ∷ ts) t (d ∷ ns)
begun d s k ts t ns is p = first k s ts t ns (means_start s k is) p

of_plain : (d : ℕ) (ts : List Lexeme) (b : Base) → IsBase ts b → AtomR d ts (written.plain (start ts) b) (level d ts)
of_plain d _ _ (int k is) = begun d (begin.Word base.Int) k [] _ [] is nothing
of_plain d _ _ (bool k is) = begun d (begin.Word base.Bool) k [] _ [] is nothing
of_plain d _ _ (char k is) = begun d (begin.Word base.Char) k [] _ [] is nothing
of_plain d _ _ (unit k c is closes) = begun d begin.Paren k (c ∷ []) _ (d ∷ []) is (taken c [] _ [] closes nothing)

of_atom : (d : ℕ) (ts : List Lexeme) (t : WrittenTree) (s : IsAtom ts t) → AtomR d ts t (atom_nests d s)
of_atom d _ _ (skip k is) = begun d begin.Skip k [] _ [] is nothing
of_atom d _ _ (send k ts b is s) = begun d begin.Send k ts _ (level d ts) is (made ts b (level d ts) (s, refl))
of_atom d _ _ (receive k ts b is s) = begun d begin.Receive k ts _ (level d ts) is (made ts b (level d ts) (s, refl))
of_atom d _ _ (close k is) = begun d begin.Close k [] _ [] is nothing
of_atom d _ _ (wait k is) = begun d begin.Wait k [] _ [] is nothing
of_atom d _ _ (select k o c ts all bs is opens s closes parts) =
    moved (AtomR d) all (k ∷ o ∷ ts ++ c ∷ []) _ _ _ _ parts refl refl
    (begun d begin.Select k (o ∷ ts ++ c ∷ []) _ _ is (choice_from d (written.select k.at) _ _ _ (record {
      opens = o;
      closes = c;
      tokens = ts;
      branches_are = bs;
      is_open = opens;
      derived = s;
      is_closed = closes;
      parts = refl;
      value = refl;
      nests_are = refl;
    })))
of_atom d _ _ (offer k o c ts all bs is opens s closes parts) =
    moved (AtomR d) all (k ∷ o ∷ ts ++ c ∷ []) _ _ _ _ parts refl refl
    (begun d begin.Offer k (o ∷ ts ++ c ∷ []) _ _ is (choice_from d (written.offer k.at) _ _ _ (record {
      opens = o;
      closes = c;
      tokens = ts;
      branches_are = bs;
      is_open = opens;
      derived = s;
      is_closed = closes;
      parts = refl;
      value = refl;
      nests_are = refl;
    })))
of_atom d _ _ (plain ts b s) = of_plain d ts b s
of_atom d _ _ (lower k is) = begun d begin.Name k [] _ [] (inl is) nothing
of_atom d _ _ (upper k is) = begun d begin.Name k [] _ [] (inr is) nothing
of_atom d _ _ (group k c ts all t is s closes parts) =
    moved (AtomR d) all (k ∷ ts ++ c ∷ []) t t _ _ parts refl refl
    (begun d begin.Paren k (ts ++ c ∷ []) t (type_nests d s ++ d ∷ []) is
    (other _ _ _ (phrase.pair _ ts (c ∷ []) t t _ (type_nests d s) (d ∷ []) (s, refl)
    (other _ _ _ (made _ tt _ (word_at d (codes ")") c closes))) refl refl)))
of_atom d _ _ (pair k m c ts us all t u is s comma r closes parts) =
    moved (AtomR d) all (k ∷ (ts ++ (m ∷ (us ++ c ∷ [])))) _ _ _ _ parts refl refl
    (begun d begin.Paren k (ts ++ (m ∷ (us ++ c ∷ []))) _ (type_nests d s ++ (d ∷ (type_nests d r ++ d ∷ []))) is
    (other _ _ _ (phrase.pair _ ts (m ∷ (us ++ c ∷ [])) t _ _ (type_nests d s) (d ∷ (type_nests d r ++ d ∷ [])) (s, refl)
    (taken m _ _ _ comma (phrase.pair _ us (c ∷ []) u _ _ (type_nests d r) (d ∷ []) (r, refl)
    (made _ tt _ (word_at d (codes ")") c closes)) refl refl)) refl refl)))

pub atom_from : (d : ℕ) (ts : List Lexeme) (t : WrittenTree) (ns : List ℕ) → AtomPhrase d ts t ns → AtomR d ts t ns
atom_from d ts t ns p = subst (AtomR d ts t) p.1 (of_atom d ts t p.0)

-- behind `rec`
abbrev pub RecR : ℕ → ℕ → Phrase WrittenTree
RecR d n = Then (One d lower_of) (λ (x : Lexeme). Then (Word d (codes "."))
    (λ (c : Unit {0}). Mapped (written.rec n x.text) (SeqPhrase (suc d))))

abbrev pub ChainR : ℕ → ℕ → Phrase WrittenTree
ChainR d n = Then (AtomPhrase d) (λ (t : WrittenTree). On d (spells (codes ";")) (Mapped (written.seq n t) (SeqPhrase (suc d)))
    (Give t))

abbrev pub SeqR : ℕ → Phrase WrittenTree
SeqR d = Located (λ n. On d (spells (codes "rec")) (RecR d n) (ChainR d n))

abbrev pub IsBegun : Lexeme → Type 0
IsBegun k = (s : Start) × (start_of k ≡ Some s)

read_begins : (d : ℕ) (ts : List Lexeme) (t : WrittenTree) (ns : List ℕ) → AtomR d ts t ns → BeginsWith IsBegun d ts ns
read_begins d _ _ _ (first k s us _ ms e q) = (k, us, ms, refl, refl, (s, e))

pub atom_begins : (d : ℕ) (ts : List Lexeme) (t : WrittenTree) (ns : List ℕ) → AtomPhrase d ts t ns → BeginsWith IsBegun d ts ns
atom_begins d ts t ns p = read_begins d ts t ns (atom_from d ts t ns p)

pub seq_to : (d : ℕ) (ts : List Lexeme) (t : WrittenTree) (ns : List ℕ) → SeqR d ts t ns → SeqPhrase d ts t ns
seq_to d _ _ _ (at k _ _ _ (taken _ ts _ ns is
    (phrase.pair _ _ us _ _ _ _ ks (first x l _ _ _ e nothing)
    (phrase.pair _ _ vs _ _ _ _ ms (first c y _ _ _ g nothing) (made _ t _ s) parts nests) parts' nests'))) =
    let name = lower_is x l e in
    moved (SeqPhrase d) (k ∷ ts) (k ∷ x ∷ c ∷ vs) (written.rec k.at l.text t) (written.rec k.at x.text t) (d ∷ ns)
    (d ∷ d ∷ d ∷ ms)
    (ap (λ (w : List Lexeme). k ∷ w) (parts' ∙ ap (λ (w : List Lexeme). x ∷ w) parts))
    (ap (λ (z : Lexeme). written.rec k.at z.text t) (sym name.1))
    (ap (λ (w : List ℕ). d ∷ w) (nests' ∙ ap (λ (w : List ℕ). d ∷ w) nests))
    (rec k x c vs t is name.0 (only_is (spells (codes ".")) c y g) s.0, ap (λ (w : List ℕ). d ∷ d ∷ d ∷ w) s.1)
seq_to d _ _ _ (at k ts _ ns (other _ _ _ (phrase.pair _ us _ t _ _ ms _ a (taken c vs _ ks is (made _ u _ s)) parts nests))) =
    let place = front_start IsBegun d us (c ∷ vs) ts ms k (atom_begins d us t ms a) parts in
    moved (SeqPhrase d) (k ∷ ts) (us ++ c ∷ vs) (written.seq k.at t u) (written.seq (start us) t u) ns (ms ++ d ∷ ks) parts
    (ap (λ z. written.seq z t u) (sym place)) nests (
      chain us vs (us ++ c ∷ vs) c t u a.0 is s.0 refl,
      (let e : atom_nests d a.0 ++ d ∷ seq_nests (suc d) s.0 ≡ ms ++ d ∷ ks = rw (a.1, s.1) refl in e),
    )
seq_to d _ _ _ (at k ts _ ns (other _ _ _ (phrase.pair _ us _ t _ _ ms _ a (other _ _ _ nothing) parts nests))) =
    moved (SeqPhrase d) (k ∷ ts) us t t ns ms (parts ∙ append-nil us) refl (nests ∙ append-nil ms) (atom us t a.0, a.1)

of_seq : (d : ℕ) (ts : List Lexeme) (t : WrittenTree) (s : IsSeq ts t) → SeqR d ts t (seq_nests d s)
of_seq d _ _ (rec k x c ts t is name dot s) =
    at k _ _ _ (taken k (x ∷ c ∷ ts) _ (d ∷ d ∷ seq_nests (suc d) s) is
    (phrase.pair _ (x ∷ []) (c ∷ ts) x _ _ (d ∷ []) (d ∷ seq_nests (suc d) s) (first x x [] x [] (is_lower x name) nothing)
    (phrase.pair _ (c ∷ []) ts tt _ _ (d ∷ []) (seq_nests (suc d) s) (word_at d (codes ".") c dot)
    (made ts t _ (s, refl)) refl refl) refl refl))
of_seq d _ _ (atom ts t a) =
    locate (λ n. On d (spells (codes "rec")) (RecR d n) (ChainR d n)) (start ts) ts t (atom_nests d a)
    (filled_by IsBegun d ts (atom_nests d a) (atom_begins d ts t _ (a, refl))) refl
    (other _ _ _ (phrase.pair ts ts [] t t (atom_nests d a) (atom_nests d a) [] (a, refl) (other _ _ _ nothing)
    (sym (append-nil ts)) (sym (append-nil (atom_nests d a)))))
of_seq d _ _ (chain ts us all k t u a is s parts) =
    let b = atom_begins d ts t _ (a, refl) in
    let lt = filled_by IsBegun d ts (atom_nests d a) b in
    locate (λ n. On d (spells (codes "rec")) (RecR d n) (ChainR d n)) (start ts) all (written.seq (start ts) t u)
    (atom_nests d a ++ d ∷ seq_nests (suc d) s)
    (omega (arith, lt, ap length parts, length-append ts (k ∷ us))) (ap start parts ∙ start_more ts (k ∷ us) (start ts) lt refl)
    (other _ _ _ (phrase.pair all ts (k ∷ us) t _ _ (atom_nests d a) (d ∷ seq_nests (suc d) s) (a, refl)
    (taken k us _ _ is (made us u _ (s, refl))) parts refl))

pub seq_from : (d : ℕ) (ts : List Lexeme) (t : WrittenTree) (ns : List ℕ) → SeqPhrase d ts t ns → SeqR d ts t ns
seq_from d ts t ns p = subst (SeqR d ts t) p.1 (of_seq d ts t p.0)

-- `rec`, or what a `tatom` begins with
abbrev pub StartsType : Lexeme → Type 0
StartsType k = starts_type k ≡ true

begun_starts : (k : Lexeme) → IsBegun k → StartsType k
begun_starts k b = of_test (spells (codes "rec") k)
  where
    of_test : (c : Bool) → c || is_begun (start_of k) ≡ true
    of_test true = refl
    of_test false = ap is_begun b.1

read_seq_begins : (d : ℕ) (ts : List Lexeme) (t : WrittenTree) (ns : List ℕ) → SeqR d ts t ns → BeginsWith StartsType d ts ns
read_seq_begins d _ _ _ (at k _ _ _ (taken _ ts _ ns is p)) = (k, ts, ns, refl, refl, ap (λ c. c || is_begun (start_of k)) is)
read_seq_begins d _ _ _ (at k ts _ ns (other _ _ _ (phrase.pair _ us vs t _ _ ms ks a q parts nests))) =
    let b = atom_begins d us t ms a in (
      b.0,
      b.1 ++ vs,
      b.2 ++ ks,
      parts ∙ ap (λ (w : List Lexeme). w ++ vs) b.3,
      nests ∙ ap (λ (w : List ℕ). w ++ ks) b.4,
      begun_starts b.0 b.5,
    )

pub seq_begins : (d : ℕ) (ts : List Lexeme) (t : WrittenTree) (ns : List ℕ) → SeqPhrase d ts t ns → BeginsWith StartsType d ts ns
seq_begins d ts t ns p = read_seq_begins d ts t ns (seq_from d ts t ns p)

-- behind the first type of an arrow
abbrev pub ArrowR : ℕ → ℕ → WrittenTree → Phrase WrittenTree
ArrowR d n t =
    On (suc d) (spells (codes "->")) (Mapped (written.arrow n Many t) (TypePhrase (suc d)))
    (On (suc d) is_one (Then (Word (suc d) (codes "->")) (λ (c : Unit {0}). Mapped (written.arrow n Once t) (TypePhrase (suc d))))
    (Give t))

abbrev pub TypeR : ℕ → Phrase WrittenTree
TypeR d = Located (λ n. Then (SeqPhrase (suc d)) (ArrowR d n))

pub type_to : (d : ℕ) (ts : List Lexeme) (t : WrittenTree) (ns : List ℕ) → TypeR d ts t ns → TypePhrase d ts t ns
type_to d _ _ _ (at k ts _ ns (phrase.pair _ us _ t _ _ ms _ s (taken c vs _ ks is (made _ u _ r)) parts nests)) =
    let place = front_start StartsType (suc d) us (c ∷ vs) ts ms k (seq_begins (suc d) us t ms s) parts in
    moved (TypePhrase d) (k ∷ ts) (us ++ c ∷ vs) (written.arrow k.at Many t u) (written.arrow (start us) Many t u) ns
    (ms ++ suc d ∷ ks) parts (ap (λ z. written.arrow z Many t u) (sym place)) nests (
      arrow us (c ∷ []) vs (us ++ c ∷ vs) t u Many s.0 (many c is) r.0 refl,
      (let e : seq_nests (suc d) s.0 ++ (suc d ∷ type_nests (suc d) r.0) ≡ ms ++ suc d ∷ ks = rw (s.1, r.1) refl in e),
    )
type_to d _ _ _ (at k ts _ ns (phrase.pair _ us _ t _ _ ms _ s
    (other _ _ _ (taken n vs _ ks is (phrase.pair _ _ ws _ _ _ _ ls (first c y _ _ _ e nothing) (made _ u _ r) parts nests)))
    parts' nests')) =
    let place = front_start StartsType (suc d) us (n ∷ vs) ts ms k (seq_begins (suc d) us t ms s) parts' in
    moved (TypePhrase d) (k ∷ ts) (us ++ n ∷ c ∷ ws) (written.arrow k.at Once t u) (written.arrow (start us) Once t u) ns
    (ms ++ suc d ∷ suc d ∷ ls)
    (parts' ∙ ap (λ (w : List Lexeme). us ++ n ∷ w) parts) (ap (λ z. written.arrow z Once t u) (sym place))
    (nests' ∙ ap (λ (w : List ℕ). ms ++ suc d ∷ w) nests) (
      arrow us (n ∷ c ∷ []) ws (us ++ n ∷ c ∷ ws) t u Once s.0
          (once n c (one_is n is) (only_is (spells (codes "->")) c y e)) r.0 refl,
      (let e2 : seq_nests (suc d) s.0 ++ (suc d ∷ suc d ∷ type_nests (suc d) r.0) ≡ ms ++ suc d ∷ suc d ∷ ls =
          rw (s.1, r.1) refl in e2),
    )
type_to d _ _ _ (at k ts _ ns (phrase.pair _ us _ t _ _ ms _ s (other _ _ _ (other _ _ _ nothing)) parts nests)) =
    moved (TypePhrase d) (k ∷ ts) us t t ns ms (parts ∙ append-nil us) refl (nests ∙ append-nil ms) (single us t s.0, s.1)

of_type : (d : ℕ) (ts : List Lexeme) (t : WrittenTree) (s : IsType ts t) → TypeR d ts t (type_nests d s)
of_type d _ _ (single ts t s) =
    let ns = seq_nests (suc d) s in
    locate (λ n. Then (SeqPhrase (suc d)) (ArrowR d n)) (start ts) ts t ns
    (filled_by StartsType (suc d) ts ns (seq_begins (suc d) ts t ns (s, refl))) refl
    (phrase.pair ts ts [] t t ns ns [] (s, refl) (other _ _ _ (other _ _ _ nothing)) (sym (append-nil ts)) (sym (append-nil ns)))
of_type d _ _ (arrow ts ks us all t u uses s a r parts) =
    let ns = seq_nests (suc d) s in
    let lt = filled_by StartsType (suc d) ts ns (seq_begins (suc d) ts t ns (s, refl)) in
    locate (λ n. Then (SeqPhrase (suc d)) (ArrowR d n)) (start ts) all (written.arrow (start ts) uses t u)
    (ns ++ (level (suc d) ks ++ type_nests (suc d) r))
    (omega (arith, lt, ap length parts, length-append ts (ks ++ us)))
    (ap start parts ∙ start_more ts (ks ++ us) (start ts) lt refl)
    (phrase.pair all ts (ks ++ us) t _ _ ns (level (suc d) ks ++ type_nests (suc d) r) (s, refl) (of_arrow ks uses a) parts refl)
  where
    of_arrow : (ls : List Lexeme) (v : _) → IsArrow ls v →
        ArrowR d (start ts) t (ls ++ us) (written.arrow (start ts) v t u) (level (suc d) ls ++ type_nests (suc d) r)
    of_arrow _ _ (many k is) = taken k us _ _ is (made us u _ (r, refl))
    of_arrow _ _ (once n k is dash) =
        other _ _ _ (taken n (k ∷ us) _ (suc d ∷ type_nests (suc d) r) (is_one_so n is)
        (phrase.pair _ (k ∷ []) us tt _ _ (suc d ∷ []) (type_nests (suc d) r) (word_at (suc d) (codes "->") k dash)
        (made us u _ (r, refl)) refl refl))

pub type_from : (d : ℕ) (ts : List Lexeme) (t : WrittenTree) (ns : List ℕ) → TypePhrase d ts t ns → TypeR d ts t ns
type_from d ts t ns p = subst (TypeR d ts t) p.1 (of_type d ts t p.0)

read_type_begins : (d : ℕ) (ts : List Lexeme) (t : WrittenTree) (ns : List ℕ) → TypeR d ts t ns →
    BeginsWith StartsType (suc d) ts ns
read_type_begins d _ _ _ (at k ts _ ns (phrase.pair _ us vs t _ _ ms ks s q parts nests)) =
    let b = seq_begins (suc d) us t ms s in
    (b.0, b.1 ++ vs, b.2 ++ ks, parts ∙ ap (λ (w : List Lexeme). w ++ vs) b.3, nests ∙ ap (λ (w : List ℕ). w ++ ks) b.4, b.5)

pub type_begins : (d : ℕ) (ts : List Lexeme) (t : WrittenTree) (ns : List ℕ) → TypePhrase d ts t ns →
    BeginsWith StartsType (suc d) ts ns
type_begins d ts t ns p = read_type_begins d ts t ns (type_from d ts t ns p)
