-- The reader of questions has the laws of readers.
use Rattle.std.proofs.Common.{◌≡◌, ℕ, ◌<◌, false, List, [], ◌∷◌, ◌++◌, length, Some, refl, sym, ap, subst, ◌∙◌, arith, length-append, pos}
use Rattle.std.specs.Prelude.{codes}
use Rattle.std.proofs.lemmas.List.{append-nil}
use Rattle.fst_types.specs.declared.kind.Kind.{Kind}
use Rattle.fst_types.specs.declared.kind.Use.{Use}
use Rattle.fst_types.specs.declared.kind.Use.TheVariants.{Once}
use Rattle.fst_types.specs.declared.kind.Prekind.{Prekind}
use Rattle.fst_types.specs.declared.kind.Prekind.TheVariants.{Session}
use Rattle.fst_types.specs.WrittenTree.{WrittenTree}
use Rattle.fst_terms.specs.declared.binder.Binder.{Binder}
use Rattle.fst_lexer.specs.declared.token.TokenKind.TheVariants as kind
use Rattle.fst_reading.specs.Lexeme.{Lexeme, spells, Is, start, lower_of}
use Rattle.fst_type_syntax.specs.Grammar.{IsBinder, binder, IsBinders, last, further, Asked, IsQuestion, closed, over}
use Rattle.fst_type_syntax.specs.Nesting.{seq_nests, question_nests}
use Rattle.fst_reading.specs.Faults.{level, Phrase, is_left}
use Rattle.fst_type_syntax.specs.Derives.{QuestionPhrase, SeqPhrase, BindersPhrase, lengthens_seq}
use Rattle.fst_reading.specs.Reading.{one, only, finish, begins, sep_by}
use Rattle.fst_type_syntax.specs.TypeReading.{base_named, start_named, use_of, prekind_named, prekind_of, binder_at, types_at, question_at}
use Rattle.fst_reading.proofs.Phrases as phrase
use Rattle.fst_reading.proofs.Phrases.{Reads, never, nothing, Then, Mapped, made, first, On, taken, other, Separated}
use Rattle.fst_reading.proofs.Steps.{SomePhrase}
use Rattle.fst_reading.proofs.Parts.{One, End, ended, any, reads_one, reads_mapped, reads_on, reads_as, reads_until, reads_finish}
use Rattle.fst_reading.proofs.Sequences.{reads_then, reads_separated}
use Rattle.fst_reading.proofs.Tokens.{fixed, fixed_is, a_lower, no_other, only_is, lower_is, is_lower}
use Rattle.fst_type_syntax.proofs.TypePhrases.{StartsType, seq_begins}
use Rattle.fst_type_syntax.proofs.TypeReads.{reads_seq, sample_seq}
use Rattle.fst_base.specs.Choice.{choose}
use Rattle.fst_type_syntax.proofs.TypeTokens.{use_is, is_use, prekind_is, is_prekind, no_type}
use Rattle.fst_reading.proofs.Words.{Word, word_at, filled_by, moved, words, lowers, reads_first, sample_word, sample_mapped, sample_then, sample_one, level_append, comma}

abbrev pub BinderP : Phrase (Binder × Kind)
BinderP ts x ns = (s : IsBinder ts x.0 x.1) × (level 0 ts ≡ ns)

abbrev binder_of : Lexeme → Use → Prekind → Binder × Kind
binder_of x u p = (record { name = x.text; at = x.at }, record { prekind = p; uses = u })

abbrev pub BinderR : Phrase (Binder × Kind)
BinderR =
    Then (One 0 lower_of) (λ (x : Lexeme). Then (Word 0 (codes ":"))
    (λ (c : Unit {0}). Then (One 0 use_of) (λ (u : Use). Mapped (binder_of x u) (One 0 prekind_of))))

binder_to : (ts : List Lexeme) (x : Binder × Kind) (ns : List ℕ) → BinderR ts x ns → BinderP ts x ns
binder_to _ _ _ (phrase.pair ts _ us _ _ ns _ ks (first x l _ _ _ e nothing)
    (phrase.pair _ _ vs _ _ _ _ ms (first c y _ _ _ g nothing)
    (phrase.pair _ _ ws _ _ _ _ ls (first k u _ _ _ h nothing) (made _ _ _ (first q p _ _ _ i nothing)) parts nests) parts'
    nests') parts'' nests'') =
    let name = lower_is x l e in
    moved BinderP ts (x ∷ c ∷ k ∷ q ∷ []) (binder_of l u p) (binder_of x u p) ns (0 ∷ 0 ∷ 0 ∷ 0 ∷ [])
    (parts'' ∙ ap (λ (w : List Lexeme). x ∷ w) (parts' ∙ ap (λ (w : List Lexeme). c ∷ w) parts))
    (ap (λ z. binder_of z u p) (sym name.1))
    (nests'' ∙ ap (λ (w : List ℕ). 0 ∷ w) (nests' ∙ ap (λ (w : List ℕ). 0 ∷ w) nests))
    (binder x c k q u p name.0 (only_is (spells (codes ":")) c y g) (use_is k u h) (prekind_is q p i), refl)

of_binder : (ts : List Lexeme) (b : Binder) (k : Kind) → IsBinder ts b k → BinderR ts (b, k) (level 0 ts)
of_binder _ _ _ (binder x c k q u p name colon used prekind) =
    phrase.pair _ (x ∷ []) (c ∷ k ∷ q ∷ []) x _ _ (0 ∷ []) (0 ∷ 0 ∷ 0 ∷ []) (first x x [] x [] (is_lower x name) nothing)
    (phrase.pair _ (c ∷ []) (k ∷ q ∷ []) tt _ _ (0 ∷ []) (0 ∷ 0 ∷ []) (word_at 0 (codes ":") c colon)
    (phrase.pair _ (k ∷ []) (q ∷ []) u _ _ (0 ∷ []) (0 ∷ []) (first k u [] u [] (is_use k u used) nothing)
    (made (q ∷ []) p (0 ∷ []) (first q p [] p [] (is_prekind q p prekind) nothing)) refl refl) refl refl) refl refl

binder_from : (ts : List Lexeme) (x : Binder × Kind) (ns : List ℕ) → BinderP ts x ns → BinderR ts x ns
binder_from ts x ns p = subst (BinderR ts x) p.1 (of_binder ts x.0 x.1 p.0)

uses : (n : ℕ) → (k : Lexeme) × (x : Use) × (k.at ≡ n) × (use_of k ≡ Some x)
uses n = (record { kind = kind.Number (pos 1); at = n; text = [] }, Once, refl, refl)

abbrev a_prekind : ℕ → Lexeme
a_prekind n = record { kind = kind.Upper; at = n; text = codes "S" }

prekinds : (n : ℕ) → (k : Lexeme) × (x : Prekind) × (k.at ≡ n) × (prekind_of k ≡ Some x)
unfolding prekind_named choose
prekinds n = (a_prekind n, Session, refl, refl)

reads_binder : (limit : ℕ) → Reads limit binder_at BinderP never
unfolding binder_at
reads_binder limit =
    reads_as limit _ BinderR BinderP never
    (reads_first limit 0 (omega arith) lower_of lowers _ _ never
    (λ x. reads_first limit 0 (omega arith) (only (spells (codes ":"))) (words (codes ":")) _ _ never
    (λ c. reads_first limit 0 (omega arith) use_of uses _ _ never
    (λ u. reads_mapped limit _ (one prekind_of) (One 0 prekind_of) never
    (reads_one limit 0 (omega arith) prekind_of prekinds))
    (λ u. sample_mapped _ (One 0 prekind_of) (sample_one 0 prekind_of prekinds)))
    (λ c. sample_then (One 0 use_of) _ (sample_one 0 use_of uses)
    (λ u. sample_mapped _ (One 0 prekind_of) (sample_one 0 prekind_of prekinds))))
    (λ x. sample_then (Word 0 (codes ":")) _ (sample_word 0 (codes ":"))
    (λ c. sample_then (One 0 use_of) _ (sample_one 0 use_of uses)
    (λ u. sample_mapped _ (One 0 prekind_of) (sample_one 0 prekind_of prekinds)))))
    binder_to binder_from

binder_filled : (us : List Lexeme) (x : Binder × Kind) (ns : List ℕ) → BinderP us x ns → 0 < length us
binder_filled us x ns p = of_binder_ us x.0 x.1 p.0
  where
    of_binder_ : (vs : List Lexeme) (b : Binder) (k : Kind) → IsBinder vs b k → 0 < length vs
    of_binder_ _ _ _ (binder x c k q u p name colon used prekind) = omega arith

sample_binder : (n : ℕ) → (s : SomePhrase BinderP) × (0 < length s.tokens) × (start s.tokens ≡ n)
unfolding prekind_named choose
sample_binder n =
    let k = uses 0 in
    let q = prekinds 0 in (
      record {
        tokens = a_lower n ∷ fixed (codes ":") 0 ∷ k.0 ∷ q.0 ∷ [];
        value = binder_of (a_lower n) k.1 q.1;
        nests = 0 ∷ 0 ∷ 0 ∷ 0 ∷ [];
        phrase = (
          binder (a_lower n) (fixed (codes ":") 0) k.0 q.0 k.1 q.1 refl (fixed_is (codes ":") 0) (use_is k.0 k.1 k.3)
              (prekind_is q.0 q.1 q.3),
          refl,
        );
      },
      omega arith,
      refl,
    )

-- variables with their kinds as they are read
abbrev BindersR : Phrase (List (Binder × Kind))
BindersR = Separated 0 (spells (codes ",")) BinderP

binders_to : (ts : List Lexeme) (bs : List (Binder × Kind)) (ns : List ℕ) → BindersR ts bs ns → IsBinders ts bs ×
    (level 0 ts ≡ ns)
binders_to _ _ _ (phrase.last ts x ns p) = (last ts x.0 x.1 p.0, p.1)
binders_to _ _ _ (phrase.further ts us vs k x xs ns ms ks p is q parts nests) =
    let o = binders_to vs xs ks q in (
      further us vs ts k x.0 x.1 xs p.0 is o.0 parts,
      ap (level 0) parts ∙ level_append 0 us (k ∷ vs)
          ∙ (let e : level 0 us ++ 0 ∷ level 0 vs ≡ ns = rw (p.1, o.1) (sym nests) in e),
    )

of_binders : (ts : List Lexeme) (bs : List (Binder × Kind)) → IsBinders ts bs → BindersR ts bs (level 0 ts)
of_binders _ _ (last ts b k s) = phrase.last ts (b, k) (level 0 ts) (s, refl)
of_binders _ _ (further ts us all c b k bs s is r parts) =
    phrase.further all ts us c (b, k) bs (level 0 all) (level 0 ts) (level 0 us) (s, refl) is (of_binders us bs r) parts
    (ap (level 0) parts ∙ level_append 0 ts (c ∷ us))

binders_from : (ts : List Lexeme) (bs : List (Binder × Kind)) (ns : List ℕ) → BindersPhrase ts bs ns → BindersR ts bs ns
binders_from ts bs ns p = subst (BindersR ts bs) p.1 (of_binders ts bs p.0)

-- variables with their kinds are read, and what stands behind them is no comma
pub reads_binders : (limit : ℕ) → Reads limit (sep_by (spells (codes ",")) binder_at) BindersPhrase comma
reads_binders limit =
    reads_as limit _ BindersR BindersPhrase comma
    (reads_separated limit 0 (omega arith) (spells (codes ",")) binder_at BinderP never comma
    (reads_binder limit) sample_binder binder_filled (λ k ts is. refl) (λ rest stop. (refl, stop)))
    binders_to binders_from

-- the two types of a question
abbrev TypesR : List (Binder × Kind) → Phrase Asked
TypesR bs = Then (SeqPhrase 1) (λ (t : WrittenTree). Then (Word 0 (codes "~"))
    (λ (k : Unit {0}). Then (SeqPhrase 1) (λ (u : WrittenTree). Mapped
    (λ (e : Unit {0}). record { binders = bs; left = t; right = u }) End)))

abbrev QuestionR : Phrase Asked
QuestionR = On 0 (spells (codes "forall")) (Then BindersPhrase (λ bs. Then (Word 0 (codes ".")) (λ (d : Unit {0}). TypesR bs)))
    (TypesR [])

-- the two types of a question in full
record AreTypes (bs : List (Binder × Kind)) (ts : List Lexeme) (q : Asked) (ns : List ℕ) : Type 0 where
  first_ : List Lexeme
  second : List Lexeme
  tilde : Lexeme
  left : WrittenTree
  right : WrittenTree
  nests : List ℕ
  others : List ℕ
  left_is : SeqPhrase 1 first_ left nests
  is : Is (codes "~") tilde
  right_is : SeqPhrase 1 second right others
  parts : ts ≡ first_ ++ tilde ∷ second
  value : q ≡ record { binders = bs; left = left; right = right }
  nests_are : ns ≡ nests ++ 0 ∷ others

types_to : (bs : List (Binder × Kind)) (ts : List Lexeme) (q : Asked) (ns : List ℕ) → TypesR bs ts q ns → AreTypes bs ts q ns
types_to bs _ _ _ (phrase.pair ts us _ t _ ns ms _ s
    (phrase.pair _ _ _ _ _ _ _ _ (first k x _ _ _ e nothing)
    (phrase.pair _ vs _ u _ _ ks _ r (made _ _ _ ended) parts nests) parts' nests') parts'' nests'') = record {
      first_ = us;
      second = vs;
      tilde = k;
      left = t;
      right = u;
      nests = ms;
      others = ks;
      left_is = s;
      is = only_is (spells (codes "~")) k x e;
      right_is = r;
      parts = parts'' ∙ ap (λ (w : List Lexeme). us ++ w) (parts' ∙ ap (λ (w : List Lexeme). k ∷ w) (parts ∙ append-nil vs));
      value = refl;
      nests_are = nests'' ∙ ap (λ (w : List ℕ). ms ++ w) (nests' ∙ ap (λ (w : List ℕ). 0 ∷ w) (nests ∙ append-nil ks));
    }

types_from : (bs : List (Binder × Kind)) (ts : List Lexeme) (q : Asked) (ns : List ℕ) → AreTypes bs ts q ns → TypesR bs ts q ns
types_from bs ts q ns a =
    moved (TypesR bs) ts (a.first_ ++ a.tilde ∷ a.second) q (record { binders = bs; left = a.left; right = a.right }) ns
    (a.nests ++ 0 ∷ a.others) a.parts a.value a.nests_are
    (phrase.pair _ a.first_ (a.tilde ∷ a.second) a.left _ _ a.nests (0 ∷ a.others) a.left_is
    (phrase.pair _ (a.tilde ∷ []) a.second tt _ _ (0 ∷ []) a.others (word_at 0 (codes "~") a.tilde a.is)
    (phrase.pair _ a.second [] a.right _ _ a.others [] a.right_is (made [] tt [] ended) (sym (append-nil a.second))
    (sym (append-nil a.others))) refl refl) refl refl)

question_to : (ts : List Lexeme) (q : Asked) (ns : List ℕ) → QuestionR ts q ns → QuestionPhrase ts q ns
question_to _ _ _ (taken f _ _ _ is (phrase.pair us vs _ bs q ns ms _ b
    (phrase.pair _ _ ws _ _ _ _ ks (first d x _ _ _ e nothing) p parts nests) parts' nests')) =
    let a = types_to bs ws q ks p in
    moved QuestionPhrase (f ∷ us) (f ∷ (vs ++ (d ∷ (a.first_ ++ a.tilde ∷ a.second)))) q
    (record { binders = bs; left = a.left; right = a.right }) (0 ∷ ns) (0 ∷ (ms ++ (0 ∷ (a.nests ++ 0 ∷ a.others))))
    (ap (λ (w : List Lexeme). f ∷ w) (parts' ∙ ap
    (λ (w : List Lexeme). vs ++ w) (parts ∙ ap (λ (w : List Lexeme). d ∷ w) a.parts))) a.value
    (ap (λ (w : List ℕ). 0 ∷ w) (nests' ∙ ap (λ (w : List ℕ). ms ++ w) (nests ∙ ap (λ (w : List ℕ). 0 ∷ w) a.nests_are))) (
      over f d a.tilde vs a.first_ a.second _ bs a.left a.right is b.0
          (only_is (spells (codes ".")) d x e) a.left_is.0 a.is a.right_is.0 refl,
      (let g : 0 ∷ (level 0 vs ++ (0 ∷ (seq_nests 1 a.left_is.0 ++ 0 ∷ seq_nests 1 a.right_is.0))) ≡ 0
          ∷ (ms ++ (0 ∷ (a.nests ++ 0 ∷ a.others))) = rw (b.1, a.left_is.1, a.right_is.1) refl in g),
    )
question_to _ _ _ (other ts q ns p) =
    let a = types_to [] ts q ns p in
    moved QuestionPhrase ts (a.first_ ++ a.tilde ∷ a.second) q (record { binders = []; left = a.left; right = a.right }) ns
    (a.nests ++ 0 ∷ a.others) a.parts a.value a.nests_are (
      closed a.first_ a.second _ a.tilde a.left a.right a.left_is.0 a.is a.right_is.0 refl,
      (let g : seq_nests 1 a.left_is.0 ++ 0 ∷ seq_nests 1 a.right_is.0 ≡ a.nests ++ 0 ∷ a.others =
          rw (a.left_is.1, a.right_is.1) refl in g),
    )

of_question : (ts : List Lexeme) (q : Asked) (s : IsQuestion ts q) → QuestionR ts q (question_nests s)
of_question _ _ (closed ts us all k t u s is r parts) =
    other all _ _ (types_from [] all _ _ (record {
      first_ = ts;
      second = us;
      tilde = k;
      left = t;
      right = u;
      nests = seq_nests 1 s;
      others = seq_nests 1 r;
      left_is = (s, refl);
      is = is;
      right_is = (r, refl);
      parts = parts;
      value = refl;
      nests_are = refl;
    }))
of_question _ _ (over f d k vs ts us all bs t u is b dot s tilde r parts) =
    moved QuestionR all (f ∷ (vs ++ (d ∷ (ts ++ k ∷ us)))) _ _ _ _ parts refl refl
    (taken f (vs ++ (d ∷ (ts ++ k ∷ us))) _ (level 0 vs ++ (0 ∷ (seq_nests 1 s ++ 0 ∷ seq_nests 1 r))) is
    (phrase.pair _ vs (d ∷ (ts ++ k ∷ us)) bs _ _ (level 0 vs) (0 ∷ (seq_nests 1 s ++ 0 ∷ seq_nests 1 r)) (b, refl)
    (phrase.pair _ (d ∷ []) (ts ++ k ∷ us) tt _ _ (0 ∷ []) (seq_nests 1 s ++ 0 ∷ seq_nests 1 r) (word_at 0 (codes ".") d dot)
    (types_from bs _ _ _ (record {
      first_ = ts;
      second = us;
      tilde = k;
      left = t;
      right = u;
      nests = seq_nests 1 s;
      others = seq_nests 1 r;
      left_is = (s, refl);
      is = tilde;
      right_is = (r, refl);
      parts = refl;
      value = refl;
      nests_are = refl;
    })) refl refl) refl refl))

question_from : (ts : List Lexeme) (q : Asked) (ns : List ℕ) → QuestionPhrase ts q ns → QuestionR ts q ns
question_from ts q ns p = subst (QuestionR ts q) p.1 (of_question ts q p.0)

sample_types : (bs : List (Binder × Kind)) → SomePhrase (TypesR bs)
sample_types bs =
    sample_then (SeqPhrase 1) _ (sample_seq 1 0) (λ t. sample_then (Word 0 (codes "~")) _ (sample_word 0 (codes "~"))
    (λ k. sample_then (SeqPhrase 1) _ (sample_seq 1 0)
    (λ u. sample_mapped _ End (record { tokens = []; value = tt; nests = []; phrase = ended }))))

seq_filled : (us : List Lexeme) (t : WrittenTree) (ns : List ℕ) → SeqPhrase 1 us t ns → 0 < length us
seq_filled us t ns p = filled_by StartsType 1 us ns (seq_begins 1 us t ns p)

no_semi : {A : Type 0} (Q : Unit {0} → Phrase A) (us : List Lexeme) (y : A) (ns : List ℕ) (rest : List Lexeme) →
    Then (Word 0 (codes "~")) Q us y ns → lengthens_seq (us ++ rest) ≡ false
no_semi Q _ _ _ rest (phrase.pair ts _ vs _ y ns _ ms (first k x _ _ _ e nothing) q parts nests) =
    ap (λ (w : List Lexeme). lengthens_seq (w ++ rest)) parts
    ∙ no_other (codes "~") (codes ";") k refl (only_is (spells (codes "~")) k x e)

no_semi_at_end : {A : Type 0} (h : Unit {0} → A) (us : List Lexeme) (y : A) (ns : List ℕ) (rest : List Lexeme) →
    Mapped h End us y ns → any rest ≡ false → lengthens_seq (us ++ rest) ≡ false
no_semi_at_end h _ _ _ [] (made _ _ _ ended) stop = refl
no_semi_at_end h _ _ _ (k ∷ rest) (made _ _ _ ended) stop = absurd cc

reads_types : (limit : ℕ) (bs : List (Binder × Kind)) → Reads limit (types_at limit bs) (TypesR bs) any
unfolding types_at
reads_types limit bs =
    reads_then limit _ _ (SeqPhrase 1) _ lengthens_seq any (reads_seq limit limit 1 (omega arith))
    (λ t. reads_first limit 0 (omega arith) (only (spells (codes "~"))) (words (codes "~")) _ _ any
    (λ k. reads_then limit _ _ (SeqPhrase 1) _ lengthens_seq any (reads_seq limit limit 1 (omega arith))
    (λ u. reads_mapped limit _ finish End any (reads_finish limit))
    (λ u. sample_mapped _ End (record { tokens = []; value = tt; nests = []; phrase = ended })) seq_filled
    (λ us x ns vs y ms rest q stop. no_semi_at_end _ vs y ms rest q stop))
    (λ k. sample_then (SeqPhrase 1) _ (sample_seq 1 0)
    (λ u. sample_mapped _ End (record { tokens = []; value = tt; nests = []; phrase = ended }))))
    (λ t. sample_then (Word 0 (codes "~")) _ (sample_word 0 (codes "~"))
    (λ k. sample_then (SeqPhrase 1) _ (sample_seq 1 0)
    (λ u. sample_mapped _ End (record { tokens = []; value = tt; nests = []; phrase = ended }))))
    seq_filled (λ us x ns vs y ms rest q stop. no_semi _ vs y ms rest q)

pub binders_filled : (us : List Lexeme) (bs : List (Binder × Kind)) (ns : List ℕ) → BindersPhrase us bs ns → 0 < length us
binders_filled us bs ns p = of_binders_ us bs p.0
  where
    of_binders_ : (vs : List Lexeme) (cs : List (Binder × Kind)) → IsBinders vs cs → 0 < length vs
    of_binders_ _ _ (last ts b k s) = binder_filled ts (b, k) (level 0 ts) (s, refl)
    of_binders_ _ _ (further ts us all c b k bs s is r parts) = omega (arith, ap length parts, length-append ts (c ∷ us))

no_comma : {A : Type 0} (Q : Unit {0} → Phrase A) (us : List Lexeme) (y : A) (ns : List ℕ) (rest : List Lexeme) →
    Then (Word 0 (codes ".")) Q us y ns → comma (us ++ rest) ≡ false
no_comma Q _ _ _ rest (phrase.pair ts _ vs _ y ns _ ms (first k x _ _ _ e nothing) q parts nests) =
    ap (λ (w : List Lexeme). comma (w ++ rest)) parts
    ∙ no_other (codes ".") (codes ",") k refl (only_is (spells (codes ".")) k x e)

no_forall : (us : List Lexeme) (q : Asked) (ns : List ℕ) (rest : List Lexeme) → TypesR [] us q ns → any rest ≡ false →
    begins (spells (codes "forall")) (us ++ rest) ≡ false
unfolding start_named base_named choose
no_forall us q ns rest p stop =
    let a = types_to [] us q ns p in
    let b = seq_begins 1 a.first_ a.left a.nests a.left_is in
    let is : us ++ rest ≡ b.0 ∷ ((b.1 ++ a.tilde ∷ a.second) ++ rest) = ap
    (λ (w : List Lexeme). w ++ rest) (a.parts ∙ ap (λ (w : List Lexeme). w ++ a.tilde ∷ a.second) b.3) in
    ap (begins (spells (codes "forall"))) is ∙ no_type (codes "forall") b.0 refl refl b.5

any_left : (ts : List Lexeme) → is_left ts ≡ false → any ts ≡ false
any_left [] e = refl
any_left (k ∷ ts) e = absurd cc

-- each question is read where none of its tokens is too deep
pub reads_question : (limit : ℕ) → Reads limit (question_at limit) QuestionPhrase is_left
unfolding question_at
reads_question limit =
    reads_as limit _ QuestionR QuestionPhrase is_left
    (reads_until limit _ _ any is_left
    (reads_on limit 0 (omega arith) (spells (codes "forall")) _ _ _ _ any
    (reads_then limit _ _ BindersPhrase _ comma any (reads_binders limit)
    (λ bs. reads_first limit 0 (omega arith) (only (spells (codes "."))) (words (codes ".")) _ _ any (λ d. reads_types limit bs)
    (λ d. sample_types bs))
    (λ bs. sample_then (Word 0 (codes ".")) _ (sample_word 0 (codes ".")) (λ d. sample_types bs)) binders_filled
    (λ us x ns vs y ms rest q stop. no_comma _ vs y ms rest q))
    (reads_types limit []) no_forall)
    any_left)
    question_to question_from
