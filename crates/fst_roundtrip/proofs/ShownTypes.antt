-- The text of a type as written is read as the same type at other places.
use Rattle.std.proofs.Common.{◌≡◌, Bool, true, false, ℕ, List, [], ◌∷◌, ◌++◌, refl, ap, subst, ◌∙◌, append_assoc, inl, inr}
use Rattle.std.specs.Prelude.{codes, ◌⊎◌, ⊤}
use Rattle.std.specs.Str.{byte}
use Rattle.std.proofs.lemmas.List.{append-nil}
use Rattle.fst_types.specs.declared.base.Base.{Base}
use Rattle.fst_types.specs.declared.kind.Use.{Use}
use Rattle.fst_types.specs.declared.kind.Use.TheVariants.{Many, Once}
use Rattle.fst_types.specs.WrittenTree as written
use Rattle.fst_types.specs.WrittenTree.{WrittenTree, WrittenBranches, none, branch}
use Rattle.fst_lexer.specs.Classes.{is_reserved}
use Rattle.fst_lexer.specs.Spelling.{is_sign, ends_sign}
use Rattle.fst_reading.specs.Lexeme.{Lexeme, Is, IsLower, IsUpper, start}
use Rattle.fst_type_syntax.specs.Grammar.{IsBase, IsArrow, IsType, IsSeq, IsAtom}
use Rattle.fst_type_print.specs.Texts.{base_text, send_text, receive_text, arrow_text, in_braces, in_parens, in_parens_if, joined_text}
use Rattle.fst_type_print.specs.WrittenTexts.{is_compound, is_arrow, written_text, written_branch_texts, seq_text, atom_text}
use Rattle.fst_roundtrip.proofs.Showable.{IsLowerName, IsUpperName, IsShowableType, AreShowableBranches}
use Rattle.fst_roundtrip.proofs.Spelled.{Reads, Any, EndsName, One, one, Two, two, so, both, reserved, sign_before, sign, lower_name, upper_name, spaced, rec_word, arrow_reads, base_reads, parts_of_pair}
use Rattle.fst_roundtrip.proofs.ShownWords.{Shown, reshown, reshown_same}
use Rattle.fst_roundtrip.proofs.Depths.{seq_depth, atom_level, atom_depth, same_arrow, same_compound}
use Rattle.fst_roundtrip.proofs.Shallow as shallow
use Rattle.fst_roundtrip.proofs.Shallow.{ShallowSeq, ShallowType, ShallowAtom, ShallowAlts, ShallowAlt}
use Rattle.fst_roundtrip.specs.Unplaced.{unplaced_type, unplaced_branches}

-- lexemes that are this type in such a form
abbrev pub ShownType : (List Lexeme → WrittenTree → Type 0) → WrittenTree → List Lexeme → Type 0
ShownType Form t = Shown Form unplaced_type t

-- lexemes that are these branches
abbrev ShownBranches : WrittenBranches → List Lexeme → Type 0
ShownBranches bs = Shown ShallowAlts unplaced_branches bs

-- a type that is a word alone
word_shown : (word : List ℕ) → is_reserved word ≡ true → (make : ℕ → WrittenTree) →
    ((k : Lexeme) → Is word k → ShallowAtom (k ∷ []) (make k.at)) →
    ((m n : ℕ) → unplaced_type (make m) ≡ unplaced_type (make n)) → (at : ℕ) →
    Reads EndsName word (ShownType ShallowAtom (make at))
word_shown word known make rule alike at = so word stands (reserved word known)
  where
    stands : (ts : List Lexeme) → One (Is word) ts → ShownType ShallowAtom (make at) ts
    stands _ (one k is) = record { wrote = make k.at; form = rule k is; same = alike k.at at }

send_shown : (at : ℕ) (b : Base) → Reads EndsName (send_text b) (ShownType ShallowAtom (written.send at b))
send_shown at b = so (send_text b) stands (both (codes "!") (base_text b)
    (λ rest q. tt) (sign {Q = Any} (byte "!") refl (λ c. refl)) (base_reads b))
  where
    stands : (ts : List Lexeme) → Two (One (Is (codes "!"))) (λ us. IsBase us b) ts → ShownType ShallowAtom (written.send at b) ts
    stands _ (two _ us (one k is) d) = record { wrote = written.send k.at b; form = shallow.send k us b is d; same = refl }

receive_shown : (at : ℕ) (b : Base) → Reads EndsName (receive_text b) (ShownType ShallowAtom (written.receive at b))
receive_shown at b = so (receive_text b) stands
    (both (codes "?") (base_text b) (λ rest q. tt) (sign {Q = Any} (byte "?") refl (λ c. refl)) (base_reads b))
  where
    stands : (ts : List Lexeme) → Two (One (Is (codes "?"))) (λ us. IsBase us b) ts →
        ShownType ShallowAtom (written.receive at b) ts
    stands _ (two _ us (one k is) d) = record { wrote = written.receive k.at b; form = shallow.receive k us b is d; same = refl }

plain_shown : (at : ℕ) (b : Base) → Reads EndsName (base_text b) (ShownType ShallowAtom (written.plain at b))
plain_shown at b = so (base_text b) (λ ts d. record {
  wrote = written.plain (start ts) b;
  form = shallow.plain ts b d;
  same =
      refl;
}) (base_reads b)

-- a name, lower or upper
named_shown : (at : ℕ) (x : List ℕ) → IsLowerName x ⊎ IsUpperName x →
    Reads EndsName x (ShownType ShallowAtom (written.named at x))
named_shown at x (inl lower) = so x stands (lower_name x lower)
  where
    stands : (ts : List Lexeme) → One (λ k. IsLower k × (k.text ≡ x)) ts → ShownType ShallowAtom (written.named at x) ts
    stands _ (one k name) = record {
      wrote = written.named k.at k.text;
      form = shallow.lower k name.0;
      same =
          ap (written.named 0) name.1;
    }
named_shown at x (inr upper) = so x stands (upper_name x upper)
  where
    stands : (ts : List Lexeme) → One (λ k. IsUpper k × (k.text ≡ x)) ts → ShownType ShallowAtom (written.named at x) ts
    stands _ (one k name) = record {
      wrote = written.named k.at k.text;
      form = shallow.upper k name.0;
      same =
          ap (written.named 0) name.1;
    }

-- the text between braces
abbrev Braced : List ℕ → (List Lexeme → Type 0) → List Lexeme → Type 0
Braced before P = Two (One (Is before)) (Two (Two (One (Is (codes "{"))) P) (One (Is (codes "}"))))

braces : {P : List Lexeme → Type 0} (c : ℕ) (text : List ℕ) → is_sign (c ∷ []) ≡ true →
    ((rest : List ℕ) → ends_sign (c ∷ []) (byte "{" ∷ rest) ≡ true) → Reads EndsName text P →
    Reads EndsName ((c ∷ []) ++ in_braces text) (Braced (c ∷ []) P)
braces c text is apart inner =
    both (c ∷ []) (in_braces text) (λ rest q. apart (text ++ codes "}" ++ rest)) (sign_before (c ∷ []) is)
    (both (codes "{" ++ text) (codes "}") (λ rest q. refl)
    (both (codes "{") text (λ rest q. tt) (sign {Q = Any} (byte "{") refl (λ b. refl)) inner)
    (sign (byte "}") refl (λ b. refl)))

select_shown : (at : ℕ) (text : List ℕ) (bs : WrittenBranches) → Reads EndsName text (ShownBranches bs) →
    Reads EndsName (codes "+" ++ in_braces text) (ShownType ShallowAtom (written.select at bs))
select_shown at text bs r = so (codes "+" ++ in_braces text) stands (braces (byte "+") text refl (λ rest. refl) r)
  where
    stands : (ts : List Lexeme) → Braced (codes "+") (ShownBranches bs) ts → ShownType ShallowAtom (written.select at bs) ts
    stands _ (two _ _ (one k is) (two _ _ (two _ us (one o opens) inner) (one c closes))) = record {
      wrote = written.select k.at inner.wrote;
      form = shallow.select k o c us (k ∷ o ∷ us ++ c ∷ []) inner.wrote is opens inner.form closes refl;
      same = ap (written.select 0) inner.same;
    }

offer_shown : (at : ℕ) (text : List ℕ) (bs : WrittenBranches) → Reads EndsName text (ShownBranches bs) →
    Reads EndsName (codes "&" ++ in_braces text) (ShownType ShallowAtom (written.offer at bs))
offer_shown at text bs r = so (codes "&" ++ in_braces text) stands (braces (byte "&") text refl (λ rest. refl) r)
  where
    stands : (ts : List Lexeme) → Braced (codes "&") (ShownBranches bs) ts → ShownType ShallowAtom (written.offer at bs) ts
    stands _ (two _ _ (one k is) (two _ _ (two _ us (one o opens) inner) (one c closes))) = record {
      wrote = written.offer k.at inner.wrote;
      form = shallow.offer k o c us (k ∷ o ∷ us ++ c ∷ []) inner.wrote is opens inner.form closes refl;
      same = ap (written.offer 0) inner.same;
    }

-- a type in the parentheses that it wants
group_shown : (text : List ℕ) (t : WrittenTree) → is_compound t ≡ true → Reads EndsName text (ShownType ShallowType t) →
    Reads EndsName (in_parens text) (ShownType ShallowAtom t)
group_shown text t wants r =
    so (in_parens text) stands
    (both (codes "(" ++ text) (codes ")") (λ rest q. refl)
    (both (codes "(") text (λ rest q. tt) (sign {Q = Any} (byte "(") refl (λ b. refl)) r) (sign (byte ")") refl (λ b. refl)))
  where
    stands : (ts : List Lexeme) → Two (Two (One (Is (codes "("))) (ShownType ShallowType t)) (One (Is (codes ")"))) ts →
        ShownType ShallowAtom t ts
    stands _ (two _ _ (two _ us (one k opens) inner) (one c closes)) = record {
      wrote = inner.wrote;
      form = shallow.group k c us (k ∷ us ++ c ∷ []) inner.wrote (same_compound inner.wrote t inner.same ∙ wants) opens
          inner.form closes refl;
      same = inner.same;
    }

seq_shown : (at : ℕ) (left right : List ℕ) (t u : WrittenTree) → Reads EndsName left (ShownType ShallowAtom t) →
    Reads EndsName right (ShownType ShallowSeq u) →
    Reads EndsName (left ++ codes ";" ++ right) (ShownType ShallowSeq (written.seq at t u))
seq_shown at left right t u l r =
    so (left ++ codes ";" ++ right) stands (both (left ++ codes ";") right
    (λ rest q. tt) (both left (codes ";") (λ rest q. refl) l (sign {Q = Any} (byte ";") refl (λ b. refl))) r)
  where
    stands : (ts : List Lexeme) → Two (Two (ShownType ShallowAtom t) (One (Is (codes ";")))) (ShownType ShallowSeq u) ts →
        ShownType ShallowSeq (written.seq at t u) ts
    stands _ (two _ vs (two us _ x (one k is)) y) = record {
      wrote = written.seq (start us) x.wrote y.wrote;
      form = shallow.chain us vs ((us ++ k ∷ []) ++ vs) k x.wrote y.wrote x.form is y.form (append_assoc us (k ∷ []) vs);
      same = λ i. written.seq 0 (x.same i) (y.same i);
    }

arrow_shown : (at : ℕ) (left right : List ℕ) (uses : Use) (t u : WrittenTree) → Reads EndsName left (ShownType ShallowSeq t) →
    Reads EndsName right (ShownType ShallowType u) →
    Reads EndsName (left ++ arrow_text uses ++ right) (ShownType ShallowType (written.arrow at uses t u))
arrow_shown at left right uses t u l r =
    so (left ++ arrow_text uses ++ right) stands (both (left ++ arrow_text uses) right
    (λ rest q. tt) (both left (arrow_text uses) (ends uses) l (arrow_reads {Q = Any} uses)) r)
  where
    ends : (u : Use) (rest : List ℕ) → Any rest → EndsName (arrow_text u ++ rest)
    ends Many rest q = refl
    ends Once rest q = refl

    stands : (ts : List Lexeme) → Two (Two (ShownType ShallowSeq t) (λ ks. IsArrow ks uses)) (ShownType ShallowType u) ts →
        ShownType ShallowType (written.arrow at uses t u) ts
    stands _ (two _ vs (two us ks x is) y) = record {
      wrote = written.arrow (start us) uses x.wrote y.wrote;
      form = shallow.arrow us ks vs ((us ++ ks) ++ vs) x.wrote y.wrote uses x.form is y.form (append_assoc us ks vs);
      same = λ i. written.arrow 0 uses (x.same i) (y.same i);
    }

pair_shown : (at : ℕ) (left right : List ℕ) (t u : WrittenTree) → Reads EndsName left (ShownType ShallowType t) →
    Reads EndsName right (ShownType ShallowType u) →
    Reads EndsName (in_parens (left ++ codes ", " ++ right)) (ShownType ShallowAtom (written.pair at t u))
pair_shown at left right t u l r =
    so (in_parens (left ++ codes ", " ++ right)) stands (parts_of_pair left right l r)
  where
    stands : (ts : List Lexeme) → Two (Two (One (Is (codes "(")))
        (Two (Two (ShownType ShallowType t) (One (Is (codes ",")))) (ShownType ShallowType u))) (One (Is (codes ")"))) ts →
        ShownType ShallowAtom (written.pair at t u) ts
    stands _ (two _ _ (two _ _ (one k opens) (two _ vs (two us _ x (one m comma)) y)) (one c closes)) = record {
      wrote = written.pair k.at x.wrote y.wrote;
      form = shallow.pair k m c us vs (k ∷ ((us ++ m ∷ []) ++ vs) ++ c ∷ []) x.wrote y.wrote opens x.form comma y.form closes
          (simp append_assoc);
      same = λ i. written.pair 0 (x.same i) (y.same i);
    }

rec_shown : (at : ℕ) (x text : List ℕ) (t : WrittenTree) → IsLowerName x → Reads EndsName text (ShownType ShallowSeq t) →
    Reads EndsName (codes "rec " ++ x ++ codes ". " ++ text) (ShownType ShallowSeq (written.rec at x t))
rec_shown at x text t lower r =
    so (codes "rec " ++ x ++ codes ". " ++ text) stands
    (both (codes "rec " ++ x ++ codes ". ") text (λ rest q. tt)
    (both (codes "rec " ++ x) (codes ". ") (λ rest q. refl)
    (both (codes "rec ") x (λ rest q. tt) (rec_word {Q = Any}) (lower_name x lower))
    (spaced {Q = Any} (byte ".") refl (λ b. refl)))
    r)
  where
    stands : (ts : List Lexeme) → Two (Two (Two (One (Is (codes "rec"))) (One (λ k. IsLower k × (k.text ≡ x))))
        (One (Is (codes ".")))) (ShownType ShallowSeq t) ts → ShownType ShallowSeq (written.rec at x t) ts
    stands _ (two _ us (two _ _ (two _ _ (one k is) (one y name)) (one d dot)) inner) = record {
      wrote = written.rec k.at y.text inner.wrote;
      form = shallow.rec k y d us inner.wrote is name.0 dot inner.form;
      same = λ i. written.rec 0 (name.1 i) (inner.same i);
    }

-- lexemes that are a branch
record ShownBranch (l : List ℕ) (t : WrittenTree) (ts : List Lexeme) : Type 0 where
  wrote : WrittenTree
  form : ShallowAlt ts l wrote
  same : unplaced_type wrote ≡ unplaced_type t

branch_shown : (l text : List ℕ) (t : WrittenTree) → IsUpperName l → Reads EndsName text (ShownType ShallowSeq t) →
    Reads EndsName (l ++ codes ": " ++ text) (ShownBranch l t)
branch_shown l text t upper r =
    so (l ++ codes ": " ++ text) stands (both (l ++ codes ": ") text
    (λ rest q. tt) (both l (codes ": ") (λ rest q. refl) (upper_name l upper) (spaced {Q = Any} (byte ":") refl (λ b. refl)))
    r)
  where
    stands : (ts : List Lexeme) → Two (Two (One (λ k. IsUpper k × (k.text ≡ l))) (One (Is (codes ":"))))
        (ShownType ShallowSeq t) ts →
        ShownBranch l t ts
    stands _ (two _ us (two _ _ (one k name) (one c colon)) inner) = record {
      wrote = inner.wrote;
      form = subst (λ (x : List ℕ). ShallowAlt (k ∷ c ∷ us) x inner.wrote) name.1
          (shallow.alt k c us inner.wrote name.0 colon inner.form);
      same = inner.same;
    }

last_shown : (l text : List ℕ) (t : WrittenTree) → IsUpperName l → Reads EndsName text (ShownType ShallowSeq t) →
    Reads EndsName ((l ++ codes ": " ++ text) ++ []) (ShownBranches (branch l t none))
last_shown l text t upper r = rw (append-nil (l ++ codes ": " ++ text))
    (so (l ++ codes ": " ++ text) stands (branch_shown l text t upper r))
  where
    stands : (ts : List Lexeme) → ShownBranch l t ts → ShownBranches (branch l t none) ts
    stands ts b = record {
      wrote = branch l b.wrote none;
      form = shallow.last ts l b.wrote b.form;
      same =
          λ i. branch l (b.same i) none;
    }

further_shown : (l text more : List ℕ) (t : WrittenTree) (bs : WrittenBranches) → IsUpperName l →
    Reads EndsName text (ShownType ShallowSeq t) → Reads EndsName more (ShownBranches bs) →
    Reads EndsName ((l ++ codes ": " ++ text) ++ (codes ", " ++ more)) (ShownBranches (branch l t bs))
further_shown l text more t bs upper r others =
    so ((l ++ codes ": " ++ text) ++ (codes ", " ++ more)) stands
    (both (l ++ codes ": " ++ text) (codes ", " ++ more)
    (λ rest q. refl) (branch_shown l text t upper r)
    (both (codes ", ") more (λ rest q. tt) (spaced {Q = Any} (byte ",") refl (λ b. refl)) others))
  where
    stands : (ts : List Lexeme) → Two (ShownBranch l t) (Two (One (Is (codes ","))) (ShownBranches bs)) ts →
        ShownBranches (branch l t bs) ts
    stands _ (two us _ b (two _ vs (one k comma) c)) = record {
      wrote = branch l b.wrote c.wrote;
      form = shallow.further us vs (us ++ k ∷ vs) k l b.wrote c.wrote b.form comma c.form refl;
      same = λ i. branch l (b.same i) (c.same i);
    }

-- what a text is in the grammar, by whether it is a function's, and whether it is one of a sequence or a rec
abbrev FormBy : Bool → Bool → List Lexeme → WrittenTree → Type 0
FormBy true b = ShallowType
FormBy false true = ShallowSeq
FormBy false false = ShallowAtom

-- an atomic type is as deep where a `seqtype` stands as where an atomic one does, and so is a function, in parentheses in both
bare_depth : (w : WrittenTree) → is_compound w ≡ false → atom_depth w ≡ seq_depth w
bare_depth w e = rw e refl

arrow_depth : (w : WrittenTree) → is_arrow w ≡ true → atom_depth w ≡ seq_depth w
arrow_depth w e = rw e (either (is_compound w) (seq_depth w))
  where
    either : (compound : Bool) (n : ℕ) → atom_level true compound n ≡ n
    either true n = refl
    either false n = refl

as_seq : (a b : Bool) → a ≡ false → (ts : List Lexeme) (w : WrittenTree) → is_compound w ≡ b → FormBy a b ts w → ShallowSeq ts w
as_seq true b e ts w g f = absurd (cc e)
as_seq false true e ts w g f = f
as_seq false false e ts w g f = shallow.atom ts w (bare_depth w g) f

as_type : (a b : Bool) (ts : List Lexeme) (w : WrittenTree) → is_arrow w ≡ a → is_compound w ≡ b → FormBy a b ts w →
    ShallowType ts w
as_type true b ts w e g f = f
as_type false b ts w e g f = shallow.single ts w e (as_seq false b refl ts w g f)

-- the form of a type
abbrev FormOf : WrittenTree → List Lexeme → WrittenTree → Type 0
FormOf t = FormBy (is_arrow t) (is_compound t)

-- a function is no atomic type
simple : (t : WrittenTree) → is_compound t ≡ false → is_arrow t ≡ false
simple (written.arrow at u s t) e = absurd (cc e)
simple _ e = refl

compound : (t : WrittenTree) → is_arrow t ≡ true → is_compound t ≡ true
compound (written.arrow at u s t) e = refl
compound _ e = absurd (cc e)

as_atom : (a b : Bool) → a ≡ false → b ≡ false → (ts : List Lexeme) (w : WrittenTree) → FormBy a b ts w → ShallowAtom ts w
as_atom true b e g ts w f = absurd (cc e)
as_atom false true e g ts w f = absurd (cc g)
as_atom false false e g ts w f = f

typed : (text : List ℕ) (t : WrittenTree) → Reads EndsName text (ShownType (FormOf t) t) →
    Reads EndsName text (ShownType ShallowType t)
typed text t r = reshown_same text t
    (λ ts w same. as_type (is_arrow t) (is_compound t) ts w (same_arrow w t same) (same_compound w t same)) r

-- a type where no function stands without parentheses, and one where an atomic one does
seq_by : (parens : Bool) (text : List ℕ) (t : WrittenTree) → is_arrow t ≡ parens → Reads EndsName text (ShownType (FormOf t) t) →
    Reads EndsName (in_parens_if parens text) (ShownType ShallowSeq t)
seq_by true text t e r = reshown_same (in_parens text) t
    (λ ts w same. shallow.atom ts w (arrow_depth w (same_arrow w t same ∙ e)))
    (group_shown text t (compound t e) (typed text t r))
seq_by false text t e r = reshown_same text t
    (λ ts w same. as_seq (is_arrow t) (is_compound t) e ts w (same_compound w t same)) r

atom_by : (parens : Bool) (text : List ℕ) (t : WrittenTree) → is_compound t ≡ parens →
    Reads EndsName text (ShownType (FormOf t) t) → Reads EndsName (in_parens_if parens text) (ShownType ShallowAtom t)
atom_by true text t e r = group_shown text t e (typed text t r)
atom_by false text t e r = reshown text t (as_atom (is_arrow t) (is_compound t) (simple t e) e) r

-- there is a branch
abbrev HasOne : WrittenBranches → Type 0
HasOne none = ⊥
HasOne (branch l t bs) = ⊤

mutual
  -- a type in the form that it has
  formed : (t : WrittenTree) → IsShowableType t → Reads EndsName (written_text t) (ShownType (FormOf t) t)
  formed (written.skip at) h = word_shown (codes "Skip") refl written.skip shallow.skip (λ m n. refl) at
  formed (written.send at b) h = send_shown at b
  formed (written.receive at b) h = receive_shown at b
  formed (written.close at) h = word_shown (codes "Close") refl written.close shallow.close (λ m n. refl) at
  formed (written.wait at) h = word_shown (codes "Wait") refl written.wait shallow.wait (λ m n. refl) at
  formed (written.select at none) h = absurd h
  formed (written.select at (branch l t bs)) h =
      select_shown at (joined_text (codes ", ") (written_branch_texts (branch l t bs))) (branch l t bs)
      (all_formed (branch l t bs) tt h)
  formed (written.offer at none) h = absurd h
  formed (written.offer at (branch l t bs)) h =
      offer_shown at (joined_text (codes ", ") (written_branch_texts (branch l t bs))) (branch l t bs)
      (all_formed (branch l t bs) tt h)
  formed (written.seq at s t) h =
      seq_shown at (atom_text s) (seq_text t) s t (atom_by (is_compound s) (written_text s) s refl (formed s h.0))
      (seq_by (is_arrow t) (written_text t) t refl (formed t h.1))
  formed (written.rec at x t) h = rec_shown at x (seq_text t) t h.0 (seq_by (is_arrow t) (written_text t) t refl (formed t h.1))
  formed (written.named at x) h = named_shown at x h
  formed (written.plain at b) h = plain_shown at b
  formed (written.arrow at u s t) h =
      arrow_shown at (seq_text s) (written_text t) u s t (seq_by (is_arrow s) (written_text s) s refl (formed s h.0))
      (typed (written_text t) t (formed t h.1))
  formed (written.pair at s t) h = pair_shown at (written_text s) (written_text t) s t (typed (written_text s) s (formed s h.0))
      (typed (written_text t) t (formed t h.1))

  -- the branches of a choice
  all_formed : (bs : WrittenBranches) → HasOne bs → AreShowableBranches bs →
      Reads EndsName (joined_text (codes ", ") (written_branch_texts bs)) (ShownBranches bs)
  all_formed none some h = absurd some
  all_formed (branch l t none) some h = last_shown l (seq_text t) t h.0
      (seq_by (is_arrow t) (written_text t) t refl (formed t h.1))
  all_formed (branch l t (branch m u bs)) some h =
      further_shown l (seq_text t) (joined_text (codes ", ") (written_branch_texts (branch m u bs))) t (branch m u bs) h.0
      (seq_by (is_arrow t) (written_text t) t refl (formed t h.1)) (all_formed (branch m u bs) tt h.2)

-- the text of a type is read as this type, no token nested deeper than it is printed
pub type_shallow : (t : WrittenTree) → IsShowableType t → Reads EndsName (written_text t) (ShownType ShallowType t)
type_shallow t h = typed (written_text t) t (formed t h)

-- where no function stands without parentheses
pub seq_shallow : (t : WrittenTree) → IsShowableType t → Reads EndsName (seq_text t) (ShownType ShallowSeq t)
seq_shallow t h = seq_by (is_arrow t) (written_text t) t refl (formed t h)

-- and where an atomic one does
pub atom_shallow : (t : WrittenTree) → IsShowableType t → Reads EndsName (atom_text t) (ShownType ShallowAtom t)
atom_shallow t h = atom_by (is_compound t) (written_text t) t refl (formed t h)

-- the text of a type is read as this type
pub type_shown : (t : WrittenTree) → IsShowableType t → Reads EndsName (written_text t) (ShownType IsType t)
type_shown t h = reshown (written_text t) t (λ ts w s. s.0) (type_shallow t h)

-- where no function stands without parentheses
pub seq_type_shown : (t : WrittenTree) → IsShowableType t → Reads EndsName (seq_text t) (ShownType IsSeq t)
seq_type_shown t h = reshown (seq_text t) t (λ ts w s. s.0) (seq_shallow t h)

-- and where an atomic one does
pub atom_type_shown : (t : WrittenTree) → IsShowableType t → Reads EndsName (atom_text t) (ShownType IsAtom t)
atom_type_shown t h = reshown (atom_text t) t (λ ts w a. a.0) (atom_shallow t h)
