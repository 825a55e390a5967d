-- The phrases of declarations, put together in the way in which they are read.
use Rattle.std.proofs.Common.{◌≡◌, ℕ, List, [], ◌∷◌, ◌++◌, refl, sym, ap, subst, ◌∙◌}
use Rattle.std.specs.Prelude.{codes}
use Rattle.fst_types.specs.declared.kind.Kind.{Kind}
use Rattle.fst_types.specs.WrittenTree.{WrittenTree}
use Rattle.fst_terms.specs.declared.binder.Binder.{Binder}
use Rattle.fst_terms.specs.ModuleTree as declared
use Rattle.fst_terms.specs.ModuleTree.{Maker, Declared}
use Rattle.fst_reading.specs.Lexeme.{Lexeme, spells, Is, IsLower, IsUpper, lower_of, upper_of}
use Rattle.fst_type_syntax.specs.Nesting.{type_nests, atom_nests}
use Rattle.fst_reading.specs.Faults.{level, Phrase}
use Rattle.fst_reading.proofs.Words.{Word, moved}
use Rattle.fst_reading.proofs.Phrases as phrase
use Rattle.fst_reading.proofs.Phrases.{Then, Mapped, made, On, taken, other, Separated, Many}
use Rattle.fst_reading.proofs.Parts.{One}
use Rattle.fst_type_syntax.specs.Derives.{TypePhrase, AtomPhrase as TypeAtomP, BindersPhrase}
use Rattle.fst_module_grammar.specs.Grammar.{bound, AreTypes, none, type, AreMakers, last, further, IsDecl, family, alias, signature, over, equation}
use Rattle.fst_module_grammar.specs.Nesting.{expr_nests, fields_nests, makers_nests, decl_nests}
use Rattle.fst_module_grammar.proofs.AtomPhrases.{ExprP}
use Rattle.fst_module_grammar.proofs.ArmPhrases.{NamesP}
use Rattle.fst_module_grammar.proofs.Fronts.{by_then, by_mapped, by_word, then_word, by_lower, then_lower, by_upper, then_upper}

-- the fields of a constructor
abbrev pub FieldsP : Phrase (List WrittenTree)
FieldsP ts types ns = (s : AreTypes ts types) × (fields_nests s ≡ ns)

pub fields_to : (ts : List Lexeme) (types : List WrittenTree) (ns : List ℕ) → Many (TypeAtomP 0) ts types ns → FieldsP ts types ns
fields_to _ _ _ phrase.none = (none, refl)
fields_to _ _ _ (phrase.some ts us vs t types ns ms ks a q parts nests) =
    let o = fields_to vs types ks q in
    (type us vs ts t types a.0 o.0 parts, (let e : atom_nests 0 a.0 ++ fields_nests o.0 ≡ ns = rw (a.1, o.1) (sym nests) in e))

of_fields : (ts : List Lexeme) (types : List WrittenTree) (s : AreTypes ts types) → Many (TypeAtomP 0) ts types (fields_nests s)
of_fields _ _ none = phrase.none
of_fields _ _ (type ts us all t types a s parts) =
    phrase.some all ts us t types _ (atom_nests 0 a) (fields_nests s) (a, refl) (of_fields us types s) parts refl

pub fields_from : (ts : List Lexeme) (types : List WrittenTree) (ns : List ℕ) → FieldsP ts types ns →
    Many (TypeAtomP 0) ts types ns
fields_from ts types ns p = subst (Many (TypeAtomP 0) ts types) p.1 (of_fields ts types p.0)

-- a constructor
abbrev pub maker_of : Lexeme → List WrittenTree → Maker
maker_of l types = record { name = bound l; fields = types }

abbrev pub MakerR : Phrase Maker
MakerR = Then (One 0 upper_of) (λ (l : Lexeme). Mapped (maker_of l) FieldsP)

-- one constructor with its parts
pub record MakerParts (ts : List Lexeme) (m : Maker) (ns : List ℕ) : Type 0 where
  pub label : Lexeme
  pub others : List Lexeme
  pub types : List WrittenTree
  pub nests : List ℕ
  pub is : IsUpper label
  pub fields : FieldsP others types nests
  pub value : m ≡ maker_of label types
  pub parts : ts ≡ label ∷ others
  pub numbers : ns ≡ 0 ∷ nests

pub maker_to : (ts : List Lexeme) (m : Maker) (ns : List ℕ) → MakerR ts m ns → MakerParts ts m ns
maker_to =
    by_upper 0 (λ l. Mapped (maker_of l) FieldsP) MakerParts
    (λ l vs m ks is q. by_mapped (maker_of l) FieldsP (λ us m ns. MakerParts (l ∷ us) m (0 ∷ ns))
    (λ us types ns s. record {
      label = l;
      others = us;
      types = types;
      nests = ns;
      is = is;
      fields = s;
      value = refl;
      parts = refl;
      numbers = refl;
    }) vs m ks q)

pub maker_from : (l : Lexeme) (ts : List Lexeme) (types : List WrittenTree) (ns : List ℕ) → IsUpper l → FieldsP ts types ns →
    MakerR (l ∷ ts) (maker_of l types) (0 ∷ ns)
maker_from l ts types ns is s = then_upper 0 (λ l. Mapped (maker_of l) FieldsP) l ts (maker_of l types) ns is (made ts types ns s)

-- constructors
abbrev pub MakersP : Phrase (List Maker)
MakersP ts makers ns = (s : AreMakers ts makers) × (makers_nests s ≡ ns)

abbrev pub MakersR : Phrase (List Maker)
MakersR = Separated 0 (spells (codes "|")) MakerR

pub makers_to : (ts : List Lexeme) (makers : List Maker) (ns : List ℕ) → MakersR ts makers ns → MakersP ts makers ns
makers_to _ _ _ (phrase.last ts m ns p) =
    let q = maker_to ts m ns p in
    moved MakersP ts (q.label ∷ q.others) (m ∷ []) (maker_of q.label q.types ∷ []) ns (0 ∷ q.nests) q.parts
    (ap (λ (z : Maker). z ∷ []) q.value) q.numbers
    (last q.label q.others q.types q.is q.fields.0, ap (λ (w : List ℕ). 0 ∷ w) q.fields.1)
makers_to _ _ _ (phrase.further ts us vs k m makers ns ms ks p is r parts nests) =
    let q = maker_to us m ms p in
    let o = makers_to vs makers ks r in
    moved MakersP ts (q.label ∷ q.others ++ k ∷ vs) (m ∷ makers) (maker_of q.label q.types ∷ makers) ns (0 ∷ q.nests ++ 0 ∷ ks)
    (parts ∙ ap (λ (w : List Lexeme). w ++ k ∷ vs) q.parts) (ap (λ (z : Maker). z ∷ makers) q.value)
    (nests ∙ ap (λ (w : List ℕ). w ++ 0 ∷ ks) q.numbers) (
      further q.label k q.others vs _ q.types makers q.is q.fields.0 is o.0 refl,
      (let e : 0 ∷ fields_nests q.fields.0 ++ 0 ∷ makers_nests o.0 ≡ 0 ∷ q.nests ++ 0 ∷ ks = rw (q.fields.1, o.1) refl in e),
    )

of_makers : (ts : List Lexeme) (makers : List Maker) (s : AreMakers ts makers) → MakersR ts makers (makers_nests s)
of_makers _ _ (last l ts types is s) = phrase.last (l ∷ ts) (maker_of l types) _
    (maker_from l ts types (fields_nests s) is (s, refl))
of_makers _ _ (further l b ts us all types makers is s bar r parts) =
    phrase.further all (l ∷ ts) us b (maker_of l types) makers _ (0 ∷ fields_nests s) (makers_nests r)
    (maker_from l ts types (fields_nests s) is (s, refl)) bar (of_makers us makers r) parts refl

pub makers_from : (ts : List Lexeme) (makers : List Maker) (ns : List ℕ) → MakersP ts makers ns → MakersR ts makers ns
makers_from ts makers ns p = subst (MakersR ts makers) p.1 (of_makers ts makers p.0)

-- a declaration, with the nesting of each of its tokens
abbrev pub DeclP : Phrase Declared
DeclP ts d ns = (s : IsDecl ts d) × (decl_nests s ≡ ns)

-- behind `data`
abbrev pub MakersBehindR : Lexeme → Phrase Declared
MakersBehindR x = Then (Word 0 (codes "=")) (λ (u : Unit {0}). Mapped (declared.family (bound x)) MakersP)

abbrev pub FamilyR : Phrase Declared
FamilyR = Then (One 0 upper_of) (λ (x : Lexeme). MakersBehindR x)

-- behind `type`
abbrev pub TypeBehindR : Lexeme → Phrase Declared
TypeBehindR x = Then (Word 0 (codes "=")) (λ (u : Unit {0}). Mapped (declared.alias (bound x)) (TypePhrase 0))

abbrev pub AliasR : Phrase Declared
AliasR = Then (One 0 upper_of) (λ (x : Lexeme). TypeBehindR x)

-- behind the colon of a signature
abbrev pub DotR : Lexeme → List (Binder × Kind) → Phrase Declared
DotR x bs = Then (Word 0 (codes ".")) (λ (u : Unit {0}). Mapped (declared.signature (bound x) bs) (TypePhrase 0))

abbrev pub SignatureR : Lexeme → Phrase Declared
SignatureR x = On 0 (spells (codes "forall")) (Then BindersPhrase (λ (bs : List (Binder × Kind)). DotR x bs))
    (Mapped (declared.signature (bound x) []) (TypePhrase 0))

-- behind the name of an equation
abbrev pub BodyR : Lexeme → List Binder → Phrase Declared
BodyR x xs = Then (Word 0 (codes "=")) (λ (u : Unit {0}). Mapped (declared.equation (bound x) xs) (ExprP 1))

abbrev pub EquationR : Lexeme → Phrase Declared
EquationR x = Then (NamesP 0) (λ (xs : List Binder). BodyR x xs)

abbrev pub NamedR : Phrase Declared
NamedR = Then (One 0 lower_of) (λ (x : Lexeme). On 0 (spells (codes ":")) (SignatureR x) (EquationR x))

abbrev pub DeclR : Phrase Declared
DeclR = On 0 (spells (codes "data")) FamilyR (On 0 (spells (codes "type")) AliasR NamedR)

family_to : (k : Lexeme) → Is (codes "data") k →
    (ts : List Lexeme) (d : Declared) (ns : List ℕ) → FamilyR ts d ns → DeclP (k ∷ ts) d (0 ∷ ns)
family_to k is =
    by_upper 0 (λ x. MakersBehindR x) (λ ts d ns. DeclP (k ∷ ts) d (0 ∷ ns))
    (λ x us d ms name q. by_word 0 (codes "=") (Mapped (declared.family (bound x)) MakersP)
    (λ ts d ns. DeclP (k ∷ x ∷ ts) d (0 ∷ 0 ∷ ns))
    (λ e vs d ks equals q. by_mapped (declared.family (bound x)) MakersP (λ ts d ns. DeclP (k ∷ x ∷ e ∷ ts) d (0 ∷ 0 ∷ 0 ∷ ns))
    (λ vs makers ks s. (family k x e vs makers is name equals s.0, ap (λ (w : List ℕ). 0 ∷ 0 ∷ 0 ∷ w) s.1)) vs d ks q) us d ms q)

alias_to : (k : Lexeme) → Is (codes "type") k →
    (ts : List Lexeme) (d : Declared) (ns : List ℕ) → AliasR ts d ns → DeclP (k ∷ ts) d (0 ∷ ns)
alias_to k is =
    by_upper 0 (λ x. TypeBehindR x) (λ ts d ns. DeclP (k ∷ ts) d (0 ∷ ns))
    (λ x us d ms name q. by_word 0 (codes "=") (Mapped (declared.alias (bound x)) (TypePhrase 0))
    (λ ts d ns. DeclP (k ∷ x ∷ ts) d (0 ∷ 0 ∷ ns))
    (λ e vs d ks equals q. by_mapped (declared.alias (bound x)) (TypePhrase 0)
    (λ ts d ns. DeclP (k ∷ x ∷ e ∷ ts) d (0 ∷ 0 ∷ 0 ∷ ns))
    (λ vs t ks s. (alias k x e vs t is name equals s.0, ap (λ (w : List ℕ). 0 ∷ 0 ∷ 0 ∷ w) s.1)) vs d ks q) us d ms q)

signature_to : (x c : Lexeme) → IsLower x → Is (codes ":") c →
    (ts : List Lexeme) (d : Declared) (ns : List ℕ) → SignatureR x ts d ns → DeclP (x ∷ c ∷ ts) d (0 ∷ 0 ∷ ns)
signature_to x c name colon _ _ _ (taken f ts d ns is p) =
    by_then BindersPhrase (λ (bs : List (Binder × Kind)). DotR x bs) (λ ts d ns. DeclP (x ∷ c ∷ f ∷ ts) d (0 ∷ 0 ∷ 0 ∷ ns))
    (λ us vs bs d ms ks b q. by_word 0 (codes ".") (Mapped (declared.signature (bound x) bs) (TypePhrase 0))
    (λ ts d ns. DeclP (x ∷ c ∷ f ∷ us ++ ts) d (0 ∷ 0 ∷ 0 ∷ ms ++ ns))
    (λ p vs d ks dot q. by_mapped (declared.signature (bound x) bs) (TypePhrase 0)
    (λ ts d ns. DeclP (x ∷ c ∷ f ∷ us ++ p ∷ ts) d (0 ∷ 0 ∷ 0 ∷ ms ++ 0 ∷ ns))
    (λ vs t ks s. (
      over x c f p us vs _ bs t name colon is b.0 dot s.0 refl,
      (let e : 0 ∷ 0 ∷ 0 ∷ level 0 us ++ 0 ∷ type_nests 0 s.0 ≡ 0 ∷ 0 ∷ 0 ∷ ms ++ 0 ∷ ks = rw (b.1, s.1) refl in e),
    )) vs d ks q)
    vs d ks q) ts d ns p
signature_to x c name colon _ _ _ (other _ _ _ (made ts t ns s)) =
    (signature x c ts t name colon s.0, ap (λ (w : List ℕ). 0 ∷ 0 ∷ w) s.1)

equation_to : (x : Lexeme) → IsLower x → (ts : List Lexeme) (d : Declared) (ns : List ℕ) → EquationR x ts d ns →
    DeclP (x ∷ ts) d (0 ∷ ns)
equation_to x name =
    by_then (NamesP 0) (λ (xs : List Binder). BodyR x xs) (λ ts d ns. DeclP (x ∷ ts) d (0 ∷ ns))
    (λ us vs xs d ms ks b q. by_word 0 (codes "=") (Mapped (declared.equation (bound x) xs) (ExprP 1))
    (λ ts d ns. DeclP (x ∷ us ++ ts) d (0 ∷ ms ++ ns))
    (λ e vs d ks equals q. by_mapped (declared.equation (bound x) xs) (ExprP 1)
    (λ ts d ns. DeclP (x ∷ us ++ e ∷ ts) d (0 ∷ ms ++ 0 ∷ ns))
    (λ vs t ks s. (
      equation x e us vs _ xs t name b.0 equals s.0 refl,
      (let g : 0 ∷ level 0 us ++ 0 ∷ expr_nests 1 s.0 ≡ 0 ∷ ms ++ 0 ∷ ks = rw (b.1, s.1) refl in g),
    )) vs d ks q) vs d ks q)

named_to : (ts : List Lexeme) (d : Declared) (ns : List ℕ) → NamedR ts d ns → DeclP ts d ns
named_to = by_lower 0 (λ x. On 0 (spells (codes ":")) (SignatureR x) (EquationR x)) DeclP behind
  where
    behind : (x : Lexeme) (us : List Lexeme) (d : Declared) (ms : List ℕ) → IsLower x →
        On 0 (spells (codes ":")) (SignatureR x) (EquationR x) us d ms → DeclP (x ∷ us) d (0 ∷ ms)
    behind x _ _ _ name (taken c us d ms is q) = signature_to x c name is us d ms q
    behind x _ _ _ name (other us d ms q) = equation_to x name us d ms q

pub decl_to : (ts : List Lexeme) (d : Declared) (ns : List ℕ) → DeclR ts d ns → DeclP ts d ns
decl_to _ _ _ (taken k ts d ns is q) = family_to k is ts d ns q
decl_to _ _ _ (other _ _ _ (taken k ts d ns is q)) = alias_to k is ts d ns q
decl_to _ _ _ (other _ _ _ (other ts d ns q)) = named_to ts d ns q

of_decl : (ts : List Lexeme) (d : Declared) (s : IsDecl ts d) → DeclR ts d (decl_nests s)
of_decl _ _ (family k x e ts makers is name equals s) =
    taken k (x ∷ e ∷ ts) _ _ is (then_upper 0 (λ x. MakersBehindR x) x (e ∷ ts) _ _ name
    (then_word 0 (codes "=") (Mapped (declared.family (bound x)) MakersP) e ts _ _ equals (made ts makers _ (s, refl))))
of_decl _ _ (alias k x e ts t is name equals s) =
    other _ _ _ (taken k (x ∷ e ∷ ts) _ _ is (then_upper 0 (λ x. TypeBehindR x) x (e ∷ ts) _ _ name
    (then_word 0 (codes "=") (Mapped (declared.alias (bound x)) (TypePhrase 0)) e ts _ _ equals (made ts t _ (s, refl)))))
of_decl _ _ (signature x c ts t name colon s) =
    other _ _ _ (other _ _ _ (then_lower 0 (λ x. On 0 (spells (codes ":")) (SignatureR x) (EquationR x)) x (c ∷ ts) _ _ name
    (taken c ts _ _ colon (other _ _ _ (made ts t _ (s, refl))))))
of_decl _ _ (over x c f p vs ts all bs t name colon is b dot s parts) =
    moved DeclR all (x ∷ c ∷ f ∷ vs ++ p ∷ ts) _ _ _ _ parts refl refl
    (other _ _ _ (other _ _ _ (then_lower 0 (λ x. On 0 (spells (codes ":")) (SignatureR x) (EquationR x)) x
    (c ∷ f ∷ vs ++ p ∷ ts) _ _ name (taken c (f ∷ vs ++ p ∷ ts) _ _ colon
    (taken f (vs ++ p ∷ ts) _ _ is (phrase.pair _ vs (p ∷ ts) bs _ _ (level 0 vs) (0 ∷ type_nests 0 s) (b, refl)
    (then_word 0 (codes ".") (Mapped (declared.signature (bound x) bs) (TypePhrase 0)) p ts _ _ dot (made ts t _ (s, refl))) refl
    refl))))))
of_decl _ _ (equation x e xs ts all binders t name names equals s parts) =
    moved DeclR all (x ∷ xs ++ e ∷ ts) _ _ _ _ parts refl refl
    (other _ _ _ (other _ _ _ (then_lower 0 (λ x. On 0 (spells (codes ":")) (SignatureR x) (EquationR x)) x
    (xs ++ e ∷ ts) _ _ name
    (other _ _ _ (phrase.pair _ xs (e ∷ ts) binders _ _ (level 0 xs) (0 ∷ expr_nests 1 s) (names, refl)
    (then_word 0 (codes "=") (Mapped (declared.equation (bound x) binders) (ExprP 1)) e ts _ _ equals (made ts t _ (s, refl)))
    refl refl)))))

pub decl_from : (ts : List Lexeme) (d : Declared) (ns : List ℕ) → DeclP ts d ns → DeclR ts d ns
decl_from ts d ns p = subst (DeclR ts d) p.1 (of_decl ts d p.0)
