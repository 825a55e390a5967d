-- The readers of declarations have the laws of readers.
use Rattle.std.proofs.Common.{◌≡◌, ℕ, ◌≤◌, ◌<◌, Bool, false, List, [], ◌∷◌, ◌++◌, length, refl, sym, ap, ◌∙◌, arith, append_assoc}
use Rattle.std.specs.Prelude.{codes}
use Rattle.std.specs.Str.{bytes_eq}
use Rattle.std.proofs.lemmas.List.{append-nil}
use Rattle.fst_types.specs.declared.kind.Kind.{Kind}
use Rattle.fst_types.specs.WrittenTree.{WrittenTree}
use Rattle.fst_terms.specs.declared.binder.Binder.{Binder}
use Rattle.fst_terms.specs.ModuleTree as declared
use Rattle.fst_terms.specs.ModuleTree.{Maker, Declared}
use Rattle.fst_reading.specs.Lexeme.{Lexeme, spells, Is, start, lower_of, upper_of}
use Rattle.fst_reading.specs.Faults.{Phrase}
use Rattle.fst_reading.proofs.Steps.{SomePhrase}
use Rattle.fst_reading.specs.Reading.{andthen, map_reader, one, only, finish, begins, on, sep_by}
use Rattle.fst_type_syntax.specs.TypeReading.{start_named, base_named, starts_type_atom, seq_at, type_at, atom_with as written_atom_with, binder_at}
use Rattle.fst_reading.proofs.Phrases as phrase
use Rattle.fst_reading.proofs.Phrases.{Reads, never, Then, Mapped, made, On, taken, other, Many}
use Rattle.fst_reading.proofs.Words.{Word, moved, reads_first, words, lowers, uppers, sample_word, sample_mapped, sample_then, comma}
use Rattle.fst_reading.proofs.Parts.{End, ended, any, reads_mapped, reads_on, reads_as, reads_until, reads_finish}
use Rattle.fst_reading.proofs.Sequences.{reads_then, reads_behind, reads_separated}
use Rattle.fst_reading.proofs.Manys.{reads_many}
use Rattle.fst_type_syntax.specs.Derives.{TypePhrase, AtomPhrase as TypeAtomP, lengthens, BindersPhrase}
use Rattle.fst_type_syntax.proofs.Laws.{atom_begins as type_atom_begins, no_atom_word, type_begins, reads_atom as reads_type_atom_with, reads_seq, reads_type, sample_type, reads_binders, binders_filled, no_type_word}
use Rattle.fst_reading.proofs.Tokens.{no_other, an_upper}
use Rattle.fst_module_grammar.specs.Grammar.{bound, AreNames, none, name, IsDecl, family, alias, signature, over, equation}
use Rattle.fst_module_grammar.specs.TermReading.{names, expr_at}
use Rattle.fst_module_grammar.proofs.AtomPhrases.{ExprP}
use Rattle.fst_module_grammar.proofs.AtomReads.{sample_expr}
use Rattle.fst_module_grammar.proofs.ArmPhrases.{NamesP}
use Rattle.fst_module_grammar.proofs.ArmReads.{lower_next, reads_names, no_names_refused, word_no_name}
use Rattle.fst_module_grammar.proofs.NestedReads.{reads_expr_at}
use Rattle.fst_module_grammar.proofs.DeclPhrases.{FieldsP, fields_to, fields_from, maker_of, MakerR, maker_to, maker_from, MakersP, MakersR, makers_to, makers_from, DeclP, MakersBehindR, FamilyR, AliasR, DotR, SignatureR, BodyR, EquationR, NamedR, DeclR, decl_to, decl_from}
use Rattle.fst_module_grammar.proofs.ExprReads.{name_spells}
use Rattle.fst_module_grammar.proofs.Follows.{after_expr}
use Rattle.fst_module_grammar.proofs.Fronts.{by_word, by_lower}
use Rattle.fst_base.specs.Choice.{choose}
use Rattle.fst_module_grammar.specs.DeclReading.{fields_at, maker_at, family_at, alias_at, signature_at, equation_at, decl_at, decl_whole}

-- what may stand behind the fields of a constructor to make them more
abbrev field_next : List Lexeme → Bool
field_next ts = begins starts_type_atom ts

-- a reserved word or a sign with which no atomic type begins
bar_no_field : (k : Lexeme) → Is (codes "|") k → starts_type_atom k ≡ false
unfolding start_named base_named choose
bar_no_field k is = no_atom_word (codes "|") k refl is

nothing_left : (f : List Lexeme → Bool) → f [] ≡ false → (rest : List Lexeme) → any rest ≡ false → f rest ≡ false
nothing_left f free [] st = free
nothing_left f free (k ∷ rest) st = absurd cc

pub decl_filled : (us : List Lexeme) (d : Declared) (ns : List ℕ) → DeclP us d ns → 0 < length us
decl_filled us d ns p = of_decl us d p.0
  where
    of_decl : (vs : List Lexeme) (c : Declared) → IsDecl vs c → 0 < length vs
    of_decl _ _ (family k x e ts makers is upper equals s) = omega arith
    of_decl _ _ (alias k x e ts t is upper equals s) = omega arith
    of_decl _ _ (signature x c ts t lower colon s) = omega arith
    of_decl _ _ (over x c f d vs ts all binders t lower colon is bs dot s parts) = omega (arith, ap length parts)
    of_decl _ _ (equation x e xs ts all binders t lower are equals s parts) = omega (arith, ap length parts)

-- a lower name at the front is no word
no_named : (w : List ℕ) (us : List Lexeme) (y : Declared) (ns : List ℕ) (rest : List Lexeme) → NamedR us y ns → any rest ≡ false →
    begins (spells w) (us ++ rest) ≡ false
no_named w us y ns rest p st =
    by_lower 0 (λ x. On 0 (spells (codes ":")) (SignatureR x) (EquationR x)) (λ us y ns. begins (spells w) (us ++ rest) ≡ false)
    (λ k us y ns is q. name_spells w k is) us y ns p

module _ (limit : ℕ) where
  low : 0 ≤ limit
  low = omega arith

  reads_fields : Reads limit (fields_at limit) FieldsP field_next
  unfolding fields_at
  reads_fields =
      reads_as limit _ (Many (TypeAtomP 0)) FieldsP field_next
      (reads_many limit starts_type_atom (written_atom_with (seq_at limit) (type_at limit)) (TypeAtomP 0) never field_next
      (reads_type_atom_with limit 0 low (seq_at limit) (type_at limit) (reads_seq limit limit 1 (omega arith))
      (reads_type limit limit 0 (omega arith)))
      (λ us x ns p. let b = type_atom_begins 0 us x ns p in (b.0, b.1, b.3, b.5)) (λ k ts is. refl) (λ rest st. (refl, st)))
      fields_to fields_from

  reads_maker : Reads limit (maker_at limit) MakerR field_next
  unfolding maker_at
  reads_maker =
      reads_first limit 0 low upper_of uppers _ _ field_next
      (λ l. reads_mapped limit (maker_of l) (fields_at limit) FieldsP field_next reads_fields)
      (λ l. record { tokens = []; value = maker_of l []; nests = []; phrase = made [] [] [] (none, refl) })

  sample_maker : (n : ℕ) → (s : SomePhrase MakerR) × (0 < length s.tokens) × (start s.tokens ≡ n)
  sample_maker n = (
    record {
      tokens = an_upper n ∷ [];
      value = maker_of (an_upper n) [];
      nests = 0 ∷ [];
      phrase =
          maker_from (an_upper n) [] [] [] refl (none, refl);
    },
    omega arith,
    refl,
  )

  maker_filled : (us : List Lexeme) (m : Maker) (ns : List ℕ) → MakerR us m ns → 0 < length us
  maker_filled us m ns p = let q = maker_to us m ns p in omega (arith, ap length q.parts)

  reads_makers : Reads limit (sep_by (spells (codes "|")) (maker_at limit)) MakersP any
  reads_makers =
      reads_as limit _ MakersR MakersP any
      (reads_separated limit 0 low (spells (codes "|"))
      (maker_at limit) MakerR field_next any reads_maker sample_maker maker_filled (λ k ts is. bar_no_field k is)
      (λ rest st. (nothing_left field_next refl rest st, nothing_left (begins (spells (codes "|"))) refl rest st)))
      makers_to makers_from

  some_makers : (x : Lexeme) → SomePhrase (MakersBehindR x)
  some_makers x =
      let m = (sample_maker 0).0 in
      let s = makers_to m.tokens (m.value ∷ []) m.nests (phrase.last m.tokens m.value m.nests m.phrase) in
      sample_then (Word 0 (codes "=")) _ (sample_word 0 (codes "="))
      (λ u. record {
        tokens = m.tokens;
        value = declared.family (bound x) (m.value ∷ []);
        nests = m.nests;
        phrase =
            made m.tokens (m.value ∷ []) m.nests s;
      })

  reads_family : Reads limit (family_at limit) FamilyR any
  unfolding family_at
  reads_family =
      reads_first limit 0 low upper_of uppers _ _ any
      (λ x. reads_first limit 0 low (only (spells (codes "="))) (words (codes "=")) _ _ any
      (λ u. reads_mapped limit (declared.family (bound x)) _ MakersP any reads_makers)
      (λ u. let m = (sample_maker 0).0 in
      record {
        tokens = m.tokens;
        value = declared.family (bound x) (m.value ∷ []);
        nests = m.nests;
        phrase =
            made m.tokens (m.value ∷ []) m.nests (makers_to m.tokens (m.value ∷ []) m.nests
            (phrase.last m.tokens m.value m.nests m.phrase));
      }))
      (λ x. some_makers x)

  -- what a function makes of a type
  reads_whole_type : (h : WrittenTree → Declared) → Reads limit (map_reader h (type_at limit)) (Mapped h (TypePhrase 0)) any
  reads_whole_type h = reads_mapped limit h (type_at limit) (TypePhrase 0) any
      (reads_until limit (type_at limit) (TypePhrase 0) lengthens any (reads_type limit limit 0 (omega arith))
      (λ rest st. nothing_left lengthens refl rest st))

  some_type : (h : WrittenTree → Declared) → SomePhrase (Mapped h (TypePhrase 0))
  some_type h = sample_mapped h (TypePhrase 0) (sample_type 0 0)

  reads_alias : Reads limit (alias_at limit) AliasR any
  unfolding alias_at
  reads_alias =
      reads_first limit 0 low upper_of uppers _ _ any
      (λ x. reads_first limit 0 low (only (spells (codes "="))) (words (codes "=")) _ _ any
      (λ u. reads_whole_type (declared.alias (bound x))) (λ u. some_type (declared.alias (bound x))))
      (λ x. sample_then (Word 0 (codes "=")) _ (sample_word 0 (codes "=")) (λ u. some_type (declared.alias (bound x))))

  some_dot : (x : Lexeme) (bs : List (Binder × Kind)) → SomePhrase (DotR x bs)
  some_dot x bs = sample_then (Word 0 (codes ".")) _ (sample_word 0 (codes "."))
      (λ u. some_type (declared.signature (bound x) bs))

  no_comma : (x : Lexeme) (bs : List (Binder × Kind)) (us : List Lexeme) (y : Declared) (ns : List ℕ) (rest : List Lexeme) →
      DotR x bs us y ns → comma (us ++ rest) ≡ false
  no_comma x bs us y ns rest = by_word 0 (codes ".") (Mapped (declared.signature (bound x) bs) (TypePhrase 0))
      (λ us y ns. comma (us ++ rest) ≡ false) (λ k us y ns is q. no_other (codes ".") (codes ",") k refl is) us y ns

  no_forall : (x : Lexeme) (us : List Lexeme) (y : Declared) (ns : List ℕ) (rest : List Lexeme) →
      Mapped (declared.signature (bound x) []) (TypePhrase 0) us y ns → any rest ≡ false →
      begins (spells (codes "forall")) (us ++ rest) ≡ false
  unfolding start_named base_named choose
  no_forall x _ _ _ rest (made us t ns p) st =
      let b = type_begins 0 us t ns p in
      ap (λ (w : List Lexeme). begins (spells (codes "forall")) (w ++ rest)) b.3 ∙ no_type_word (codes "forall") b.0 refl refl b.5

  reads_signature : (x : Lexeme) → Reads limit (signature_at limit (bound x)) (SignatureR x) any
  unfolding signature_at
  reads_signature x =
      reads_on limit 0 low (spells (codes "forall")) _ _ _ _ any
      (reads_then limit (sep_by (spells (codes ",")) binder_at) _ BindersPhrase _ comma any (reads_binders limit)
      (λ bs. reads_first limit 0 low (only (spells (codes "."))) (words (codes ".")) _ _ any
      (λ u. reads_whole_type (declared.signature (bound x) bs)) (λ u. some_type (declared.signature (bound x) bs)))
      (λ bs. some_dot x bs) binders_filled (λ us bs ns vs y ms rest q st. no_comma x bs vs y ms rest q))
      (reads_whole_type (declared.signature (bound x) [])) (no_forall x)

  -- what a function makes of a term
  reads_whole_term : (x : Lexeme) (xs : List Binder) →
      Reads limit (map_reader (declared.equation (bound x) xs) (expr_at limit))
      (Mapped (declared.equation (bound x) xs) (ExprP 1)) any
  reads_whole_term x xs =
      reads_mapped limit (declared.equation (bound x) xs) (expr_at limit) (ExprP 1) any
      (reads_until limit (expr_at limit) (ExprP 1) after_expr any (reads_expr_at limit limit 1 (omega arith))
      (λ rest st. nothing_left after_expr refl rest st))

  some_term : (x : Lexeme) (xs : List Binder) → SomePhrase (Mapped (declared.equation (bound x) xs) (ExprP 1))
  some_term x xs = let s = (sample_expr 1 0).0 in
      record {
        tokens = s.tokens;
        value = declared.equation (bound x) xs s.value;
        nests = s.nests;
        phrase =
            made s.tokens s.value s.nests s.phrase;
      }

  some_body : (x : Lexeme) (xs : List Binder) → SomePhrase (BodyR x xs)
  some_body x xs = sample_then (Word 0 (codes "=")) _ (sample_word 0 (codes "=")) (λ u. some_term x xs)

  no_name : (x : Lexeme) (xs : List Binder) (us : List Lexeme) (y : Declared) (ns : List ℕ) (rest : List Lexeme) →
      BodyR x xs us y ns → lower_next (us ++ rest) ≡ false
  no_name x xs us y ns rest = by_word 0 (codes "=") (Mapped (declared.equation (bound x) xs) (ExprP 1))
      (λ us y ns. lower_next (us ++ rest) ≡ false) (λ k us y ns is q. word_no_name (codes "=") k is) us y ns

  reads_equation : (x : Lexeme) → Reads limit (equation_at limit (bound x)) (EquationR x) any
  unfolding equation_at
  reads_equation x =
      reads_behind limit names _ (NamesP 0) _ lower_next any (reads_names limit 0 low)
      (λ xs. reads_first limit 0 low (only (spells (codes "="))) (words (codes "=")) _ _ any (λ u. reads_whole_term x xs)
      (λ u. some_term x xs))
      (λ xs. some_body x xs) (λ ts h e. absurd (no_names_refused ts h e))
      (λ us xs ns vs y ms rest q st. no_name x xs vs y ms rest q)

  -- the first token of an equation behind its name is a name or `=`
  no_colon : (x : Lexeme) (us : List Lexeme) (y : Declared) (ns : List ℕ) (rest : List Lexeme) → EquationR x us y ns →
      any rest ≡ false → begins (spells (codes ":")) (us ++ rest) ≡ false
  no_colon x _ _ _ rest (phrase.pair _ us vs xs y ns ms ks p q parts nests) st =
      ap (λ (w : List Lexeme). begins (spells (codes ":")) (w ++ rest)) parts
      ∙ ap (begins (spells (codes ":"))) (append_assoc us vs rest) ∙ of_names p.0
    where
      equals : begins (spells (codes ":")) (vs ++ rest) ≡ false
      equals = by_word 0 (codes "=") (Mapped (declared.equation (bound x) xs) (ExprP 1))
          (λ us y ns. begins (spells (codes ":")) (us ++ rest) ≡ false)
          (λ k us y ns is q. no_other (codes "=") (codes ":") k refl is) vs y ks q

      of_names : {us : List Lexeme} {xs : List Binder} → AreNames us xs → begins (spells (codes ":")) (us ++ (vs ++ rest)) ≡ false
      of_names none = equals
      of_names (name k ts xs is s) = name_spells (codes ":") k is

  reads_named : Reads limit (andthen (one lower_of)
      (λ x. on (spells (codes ":")) (signature_at limit (bound x)) (equation_at limit (bound x)))) NamedR any
  reads_named =
      reads_first limit 0 low lower_of lowers _ _ any
      (λ x. reads_on limit 0 low (spells (codes ":")) _ _ _ _ any (reads_signature x) (reads_equation x) (no_colon x))
      (λ x. let s = sample_then (NamesP 0) _ (record { tokens = []; value = []; nests = []; phrase = (none, refl) })
      (λ xs. some_body x xs) in record { tokens = s.tokens; value = s.value; nests = s.nests; phrase = other _ _ _ s.phrase })

  not_type : (w : List ℕ) → bytes_eq (codes "type") w ≡ false →
      (us : List Lexeme) (y : Declared) (ns : List ℕ) (rest : List Lexeme) → On 0 (spells (codes "type")) AliasR NamedR us y ns →
      any rest ≡ false → begins (spells w) (us ++ rest) ≡ false
  not_type w not us _ _ rest (taken k ts y ns is q) st = no_other (codes "type") w k not is
  not_type w not _ _ _ rest (other us y ns q) st = no_named w us y ns rest q st

  pub reads_decl : Reads limit (decl_at limit) DeclP any
  unfolding decl_at
  reads_decl =
      reads_as limit _ DeclR DeclP any
      (reads_on limit 0 low (spells (codes "data")) _ _ _ _ any reads_family
      (reads_on limit 0 low (spells (codes "type")) _ _ _ _ any reads_alias reads_named (no_named (codes "type")))
      (not_type (codes "data") refl))
      decl_to decl_from

  -- a declaration with nothing behind it
  abbrev WholeR : Phrase Declared
  WholeR = Then DeclP (λ (d : Declared). Mapped (λ (e : Unit {0}). d) End)

  whole_to : (ts : List Lexeme) (d : Declared) (ns : List ℕ) → WholeR ts d ns → DeclP ts d ns
  whole_to _ _ _ (phrase.pair ts us _ d _ ns ms _ p (made _ _ _ ended) parts nests) =
      moved DeclP ts us d d ns ms (parts ∙ append-nil us) refl (nests ∙ append-nil ms) p

  whole_from : (ts : List Lexeme) (d : Declared) (ns : List ℕ) → DeclP ts d ns → WholeR ts d ns
  whole_from ts d ns p = phrase.pair ts ts [] d d ns ns [] p (made [] tt [] ended) (sym (append-nil ts)) (sym (append-nil ns))

  ended_free : (d : Declared) (us : List Lexeme) (y : Declared) (ns : List ℕ) (rest : List Lexeme) → Mapped
      (λ (e : Unit {0}). d) End us y ns → any rest ≡ false → any (us ++ rest) ≡ false
  ended_free d _ _ _ rest (made _ _ _ ended) st = st

  pub reads_decl_whole : Reads limit (decl_whole limit) DeclP any
  unfolding decl_whole
  reads_decl_whole =
      reads_as limit _ WholeR DeclP any
      (reads_then limit (decl_at limit) _ DeclP _ any any reads_decl
      (λ d. reads_mapped limit (λ (e : Unit {0}). d) finish End any (reads_finish limit))
      (λ d. record { tokens = []; value = d; nests = []; phrase = made [] tt [] ended }) decl_filled
      (λ us d ns vs y ms rest q st. ended_free d vs y ms rest q st))
      whole_to whole_from
