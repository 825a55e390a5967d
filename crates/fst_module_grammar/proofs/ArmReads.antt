-- The readers of names, arrows and arms have the laws of readers.
use Rattle.std.proofs.Common.{◌≡◌, ℕ, zero, suc, ◌≤◌, ◌<◌, inl, inr, Bool, true, false, ◌||◌, List, [], ◌∷◌, ◌++◌, length, Ok, Err, refl, sym, ap, ◌∙◌, arith, length-append}
use Rattle.std.specs.Prelude.{codes}
use Rattle.fst_types.specs.declared.kind.Use.{Use}
use Rattle.fst_types.specs.declared.kind.Use.TheVariants as how
use Rattle.fst_terms.specs.declared.binder.Binder.{Binder}
use Rattle.fst_terms.specs.TermTree.{TermTree, TermArms}
use Rattle.fst_lexer.specs.declared.token.TokenKind.{TokenKind}
use Rattle.fst_lexer.specs.declared.token.TokenKind.TheVariants as kind
use Rattle.fst_reading.specs.Lexeme.{Lexeme, spells_by, spells, Is, start, lower_of, upper_of, is_one}
use Rattle.fst_reading.specs.Faults.{Phrase}
use Rattle.fst_reading.proofs.Steps.{mapped_err, SomePhrase}
use Rattle.fst_reading.specs.Reading.{Halt, Reader, bind, give, andthen, map_reader, switch, one, only, word, begins, when, many_within, sep_by}
use Rattle.fst_reading.proofs.Words.{Word, reads_first, reads_word, words, lowers, uppers, sample_then}
use Rattle.fst_reading.proofs.Phrases as phrase
use Rattle.fst_reading.proofs.Phrases.{Reads, never, nothing, Mapped, made, first}
use Rattle.fst_reading.proofs.Tokens.{no_other, only_is, lower_is, word_not_one, is_lower as means_lower}
use Rattle.fst_reading.proofs.Parts.{One, reads_one, reads_mapped, reads_on, reads_as}
use Rattle.fst_reading.proofs.Sequences.{reads_then, reads_behind, reads_separated}
use Rattle.fst_reading.proofs.Manys.{reads_many}
use Rattle.fst_module_grammar.specs.Grammar.{bound, none}
use Rattle.fst_module_grammar.specs.TermReading.{is_lower, lower_kind, Arm, arms, names, arrow_at, case_arm_with, match_arm_with, arms_with}
use Rattle.fst_module_grammar.proofs.AtomPhrases.{ExprP}
use Rattle.fst_module_grammar.proofs.ArmPhrases.{NamesP, NamesR, names_to, names_from, ArrowP, ArrowR, arrow_to, arrow_from, BodyR, CaseArmR, MatchArmR, ListR, case_arm_to, match_arm_to}
use Rattle.fst_module_grammar.proofs.Samples.{sample_lower, sample_term, sample_body, sample_closing, sample_list}
use Rattle.fst_module_grammar.proofs.Fronts.{by_word}
use Rattle.fst_module_grammar.proofs.ExprPhrases.{ClosedR, ArmsR}
use Rattle.fst_module_grammar.proofs.Follows.{after_expr, brace, comma, ends_expr}
use Rattle.fst_base.proofs.Choices.{chosen}
use Rattle.std.proofs.lemmas.Bool.{or_parts}

-- a name behind others makes them more
abbrev pub lower_next : List Lexeme → Bool
lower_next ts = begins is_lower ts

begins_name : (d : ℕ) (us : List Lexeme) (x : Binder) (ns : List ℕ) → Mapped bound (One d lower_of) us x ns → (k : Lexeme) ×
    (v : List Lexeme) × (us ≡ k ∷ v) × (is_lower k ≡ true)
begins_name d _ _ _ (made _ x _ (first k _ _ _ _ e nothing)) = let n = (lower_is k x e).0 in (k, [], refl, ap lower_kind n)

pub reads_names : (limit d : ℕ) → d ≤ limit → Reads limit names (NamesP d) lower_next
unfolding names
reads_names limit d low =
    reads_as limit _ (NamesR d) (NamesP d) lower_next
    (reads_many limit is_lower (map_reader bound (one lower_of)) (Mapped bound (One d lower_of)) never lower_next
    (reads_mapped limit bound (one lower_of) (One d lower_of) never (reads_one limit d low lower_of lowers))
    (begins_name d) (λ k ts is. refl) (λ rest stop. (refl, stop)))
    (names_to d) (names_from d)

lower_kind_is : (t : TokenKind) → lower_kind t ≡ true → t ≡ kind.Lower
lower_kind_is kind.Lower e = refl
lower_kind_is _ e = absurd cc

one_name : (k : Lexeme) (ts : List Lexeme) → is_lower k ≡ true → map_reader bound (one lower_of) (k ∷ ts) ≡ Ok (bound k, ts)
unfolding map_reader switch give bind
one_name k ts is = rw (means_lower k (lower_kind_is k.kind is)) refl

andthen_with : {A B : Type 0} (f : Reader A) (g : A → Reader B) (ts : List Lexeme) (x : A) (us : List Lexeme) →
    f ts ≡ Ok (x, us) → andthen f g ts ≡ g x us
unfolding andthen bind
andthen_with f g ts x us e = rw e refl

-- names are never refused
abbrev NeverRefused : ℕ → Type 0
NeverRefused n = (ts : List Lexeme) (h : Halt) → many_within is_lower (map_reader bound (one lower_of)) n ts ≡ Err h → ⊥

more_given : (n : ℕ) → NeverRefused n → (ts : List Lexeme) (h : Halt) → begins is_lower ts ≡ true →
    andthen (map_reader bound (one lower_of)) (λ x. map_reader
    (λ bs. x ∷ bs) (many_within is_lower (map_reader bound (one lower_of)) n)) ts ≡ Err h → ⊥
more_given n given [] h b e = absurd cc
more_given n given (k ∷ ts) h b e = given ts h
    (mapped_err _ _ ts h (sym (andthen_with (map_reader bound (one lower_of)) _ (k ∷ ts) (bound k) ts (one_name k ts b)) ∙ e))

names_given : (n : ℕ) → NeverRefused n
unfolding many_within when give
names_given zero ts h e = absurd cc
names_given (suc n) ts h e = elim (chosen _ _ _ _ e) [
  | inl b ↦ more_given n (names_given n) ts h b.0 b.1
  | inr b ↦ absurd (let g = b.1 in cc)
]

pub no_names_refused : (ts : List Lexeme) (h : Halt) → names ts ≡ Err h → ⊥
unfolding names
no_names_refused ts h e = names_given (length ts) ts h e

pub reads_arrow : (limit d : ℕ) → d ≤ limit → Reads limit arrow_at (ArrowP d) never
unfolding arrow_at
reads_arrow limit d low =
    reads_as limit _ (ArrowR d) (ArrowP d) never
    (reads_on limit d low is_one _ _ _ _ never
    (reads_mapped limit (λ (k : Unit {0}). how.Once) (word (codes "->")) (Word d (codes "->")) never
    (reads_word limit d low (codes "->")))
    (reads_mapped limit (λ (k : Unit {0}). how.Many) (word (codes "->")) (Word d (codes "->")) never
    (reads_word limit d low (codes "->"))) free)
    (arrow_to d) (arrow_from d)
  where
    free : (us : List Lexeme) (x : Use) (ns : List ℕ) (rest : List Lexeme) → Mapped
        (λ (k : Unit {0}). how.Many) (Word d (codes "->")) us x ns → never rest ≡ false → begins is_one (us ++ rest) ≡ false
    free _ _ _ rest (made _ _ _ (first k x _ _ _ e nothing)) st =
        word_not_one (codes "->") k (only_is (spells (codes "->")) k x e)

-- a reserved word or a sign is no lower name
pub word_no_name : (w : List ℕ) (k : Lexeme) → Is w k → is_lower k ≡ false
word_no_name w k is = by_kind k.kind is
  where
    by_kind : (t : TokenKind) → spells_by t w k.text ≡ true → lower_kind t ≡ false
    by_kind kind.Reserved e = refl
    by_kind kind.Sign e = refl
    by_kind _ e = absurd cc

pub case_arm_filled : (d : ℕ) (us : List Lexeme) (x : Arm) (ns : List ℕ) → CaseArmR d us x ns → 0 < length us
case_arm_filled d us x ns p = let a = case_arm_to d us x ns p in omega (arith, ap length a.parts)

pub match_arm_filled : (d : ℕ) (us : List Lexeme) (x : Arm) (ns : List ℕ) → MatchArmR d us x ns → 0 < length us
match_arm_filled d us x ns p = let a = match_arm_to d us x ns p in omega (arith, ap length a.parts)

-- the reader of the terms inside, and what is known of it
module _ (limit d : ℕ) (low : d ≤ limit) (e : Reader TermTree) (r : Reads limit e (ExprP (suc d)) after_expr) where
  reads_body : (make : TermTree → Arm) → Reads limit (andthen (word (codes "->")) (λ a. map_reader make e))
      (BodyR d make) after_expr
  reads_body make =
      reads_first limit d low (only (spells (codes "->"))) (words (codes "->")) (λ a. map_reader make e)
      (λ a. Mapped make (ExprP (suc d))) after_expr
      (λ a. reads_mapped limit make e (ExprP (suc d)) after_expr r) (λ a. sample_term d make)

  no_name : (make : TermTree → Arm) (us : List Lexeme) (y : Arm) (ns : List ℕ) (rest : List Lexeme) → BodyR d make us y ns →
      lower_next (us ++ rest) ≡ false
  no_name make us y ns rest = by_word d (codes "->") (Mapped make (ExprP (suc d))) (λ us y ns. lower_next (us ++ rest) ≡ false)
      (λ k us y ns is q. word_no_name (codes "->") k is) us y ns

  pub reads_case_arm : Reads limit (case_arm_with e) (CaseArmR d) after_expr
  unfolding case_arm_with
  reads_case_arm =
      reads_first limit d low upper_of uppers _ _ after_expr
      (λ l. reads_behind limit names _ (NamesP d) _ lower_next after_expr (reads_names limit d low)
      (λ xs. reads_body (λ t. (bound l, (xs, t)))) (λ xs. sample_body d (λ t. (bound l, (xs, t))))
      (λ ts h g. absurd (no_names_refused ts h g))
      (λ us xs ns vs y ms rest q st. no_name (λ t. (bound l, (xs, t))) vs y ms rest q))
      (λ l. sample_then (NamesP d) _ (record { tokens = []; value = []; nests = []; phrase = (none, refl) })
      (λ xs. sample_body d (λ t. (bound l, (xs, t)))))

  pub reads_match_arm : Reads limit (match_arm_with e) (MatchArmR d) after_expr
  unfolding match_arm_with
  reads_match_arm =
      reads_first limit d low upper_of uppers _ _ after_expr
      (λ l. reads_first limit d low lower_of lowers _ _ after_expr (λ x. reads_body (λ t. (bound l, (bound x ∷ [], t))))
      (λ x. sample_body d (λ t. (bound l, (bound x ∷ [], t)))))
      (λ l. sample_then (One d lower_of) _ (sample_lower d) (λ x. sample_body d (λ t. (bound l, (bound x ∷ [], t)))))

  -- what may stand behind arms to make them more
  abbrev arm_next : List Lexeme → Bool
  arm_next ts = after_expr ts || begins (spells (codes ",")) ts

  -- arms in braces, of one sort
  module _ (f : Reader Arm) (F : Phrase Arm) (rf : Reads limit f F after_expr)
      (some : (n : ℕ) → (s : SomePhrase F) × (0 < length s.tokens) × (start s.tokens ≡ n))
      (filled : (us : List Lexeme) (x : Arm) (ns : List ℕ) → F us x ns → 0 < length us) where
    reads_list : Reads limit (sep_by (spells (codes ",")) f) (ListR d F) arm_next
    reads_list = reads_separated limit d low (spells (codes ",")) f F after_expr arm_next rf some filled
        (λ k ts is. ends_expr (codes ",") comma k ts is) (λ rest st. or_parts _ _ st)

    list_filled : (us : List Lexeme) (xs : List Arm) (ns : List ℕ) → ListR d F us xs ns → 0 < length us
    list_filled _ _ _ (phrase.last ts x ns p) = filled ts x ns p
    list_filled _ _ _ (phrase.further ts us vs k x xs ns ms ks p is q parts nests) =
        omega (arith, ap length parts, length-append us (k ∷ vs))

    closing : (bs : List Arm) → Reads limit (map_reader (λ c. arms bs) (word (codes "}"))) (ClosedR d bs) never
    closing bs = reads_mapped limit (λ (c : Unit {0}). arms bs) (word (codes "}")) (Word d (codes "}")) never
        (reads_word limit d low (codes "}"))

    no_more : (bs : List Arm) (us : List Lexeme) (y : TermArms) (ns : List ℕ) (rest : List Lexeme) → ClosedR d bs us y ns →
        arm_next (us ++ rest) ≡ false
    no_more bs _ _ _ rest (made _ _ _ (first c x _ _ _ g nothing)) =
        let is = only_is (spells (codes "}")) c x g in
        rw (ends_expr (codes "}") brace c rest is, no_other (codes "}") (codes ",") c refl is) refl

    pub reads_arms : Reads limit (arms_with e f) (ArmsR d F) never
    unfolding arms_with
    reads_arms =
        reads_first limit d low (only (spells (codes "{"))) (words (codes "{")) _ _ never
        (λ o. reads_then limit _ _ (ListR d F) _ arm_next never reads_list (λ bs. closing bs)
        (λ bs. sample_closing d bs) list_filled (λ us x ns vs y ms rest q st. no_more x vs y ms rest q))
        (λ o. sample_then (ListR d F) _ (sample_list d F some) (λ bs. sample_closing d bs))
