-- Where a reader ended, nothing stands with which it would have gone on.
use Rattle.std.proofs.Common.{◌≡◌, ℕ, zero, suc, inl, inr, Bool, false, ◌||◌, List, [], refl, sym, ap, ◌∙◌}
use Rattle.std.specs.Prelude.{codes}
use Rattle.fst_types.specs.WrittenTree as written
use Rattle.fst_types.specs.WrittenTree.{WrittenTree}
use Rattle.fst_types.specs.declared.kind.Use.TheVariants.{Once}
use Rattle.fst_reading.specs.Lexeme.{Lexeme, spells, start}
use Rattle.fst_reading.specs.Faults.{is_left}
use Rattle.fst_type_syntax.specs.Derives.{lengthens, lengthens_seq}
use Rattle.fst_reading.specs.Reading.{Reader, andthen, map_reader, finish, behind, on, word, shut}
use Rattle.fst_type_syntax.specs.TypeReading.{rec_with, chain_with, seq_with, arrow_with, type_with, starts_type, seq_at, type_at, types_at, question_at}
use Rattle.fst_reading.proofs.Steps.{bind_ok, give_is}
use Rattle.fst_base.proofs.Choices.{chosen}
use Rattle.fst_reading.proofs.Ends.{Ends, ends_mapped, ends_then, ends_on, ends_finish}

ends_shut : (more : List Lexeme → Bool) → Ends (shut {A = WrittenTree} starts_type) more
unfolding shut
ends_shut more ts x rest e = elim (chosen _ _ _ _ e) [ inl h ↦ absurd (let is = h.1 in cc) | inr h ↦ absurd (let is = h.1 in cc) ]

ends_seq_with : (seq type : Reader WrittenTree) → Ends seq lengthens_seq → Ends (seq_with seq type) lengthens_seq
unfolding seq_with rec_with chain_with
ends_seq_with seq type p ts =
    ends_on lengthens_seq (spells (codes "rec")) _ _
    (ends_then lengthens_seq _ _ (λ x. ends_then lengthens_seq _ _ (λ d. ends_mapped lengthens_seq _ seq p)))
    (λ us x rest no e. ends_then lengthens_seq _ _
    (λ t. ends_on lengthens_seq (spells (codes ";")) _ _ (ends_mapped lengthens_seq _ seq p)
    (λ vs y end stop g. ap lengthens_seq (sym (give_is t vs y end g).1) ∙ stop)) us x rest e) ts

-- a `seqtype` ends where no `;` stands
pub ends_seq : (n : ℕ) → Ends (seq_at n) lengthens_seq
unfolding seq_at
ends_seq zero = ends_shut lengthens_seq
ends_seq (suc n) = ends_seq_with (seq_at n) (type_at n) (ends_seq n)

none_of : (a b c : Bool) → a ≡ false → b ≡ false → c ≡ false → a || (b || c) ≡ false
none_of a b c p q r = rw (p, q, r) refl

ends_type_with : (seq type : Reader WrittenTree) → Ends seq lengthens_seq → Ends type lengthens →
    Ends (type_with seq type) lengthens
unfolding type_with arrow_with andthen on
ends_type_with seq type p q ts y rest e =
    let a = bind_ok _ _ (y, rest) e in
    elim (chosen _ _ _ _ a.2) [
      | inl h ↦ ends_mapped lengthens _ type q (behind a.0.1) y rest h.1
      | inr h ↦ elim (chosen _ _ _ _ h.1) [
        | inl i ↦ ends_then lengthens (word (codes "->")) (λ k. map_reader (written.arrow (start ts) Once a.0.0) type)
            (λ k. ends_mapped lengthens _ type q) (behind a.0.1) y rest i.1
        | inr i ↦ ap lengthens (sym (give_is a.0.0 a.0.1 y rest i.1).1)
            ∙ none_of _ _ _ (ends_seq_with seq type p ts a.0.0 a.0.1 a.1) h.0 i.0
      ]
    ]

-- a type ends where nothing stands that lengthens it
pub ends_type : (n : ℕ) → Ends (type_at n) lengthens
unfolding type_at
ends_type zero = ends_shut lengthens
ends_type (suc n) = ends_type_with (seq_at n) (type_at n) (ends_seq n) (ends_type n)

ends_types : (n : ℕ) (bs : List _) → Ends (types_at n bs) is_left
unfolding types_at
ends_types n bs = ends_then is_left _ _ (λ t. ends_then is_left _ _
    (λ k. ends_then is_left _ _ (λ u. ends_mapped is_left _ finish ends_finish)))

-- a question ends with the tokens
pub ends_question : (n : ℕ) → Ends (question_at n) is_left
unfolding question_at
ends_question n = ends_on is_left (spells (codes "forall")) _ _
    (ends_then is_left _ _ (λ bs. ends_then is_left _ _ (λ d. ends_types n bs))) (λ ts x rest no e. ends_types n [] ts x rest e)
