-- The text of the constructors of a data type is read as the same constructors at other places.
use Rattle.std.proofs.Common.{◌≡◌, List, [], ◌∷◌, ◌++◌, ℕ, All, map, refl}
use Rattle.std.specs.Prelude.{codes}
use Rattle.std.proofs.lemmas.List.{append-nil}
use Rattle.std.proofs.lemmas.List.Elements.{All-head, All-tail}
use Rattle.fst_terms.specs.ModuleTree.{Maker}
use Rattle.fst_reading.specs.Lexeme.{Lexeme, Is, IsUpper}
use Rattle.fst_module_grammar.specs.Grammar as grammar
use Rattle.fst_module_grammar.specs.Grammar.{bound, AreMakers}
use Rattle.fst_type_print.specs.Texts.{joined_text}
use Rattle.fst_print.specs.ModuleTexts.{maker_text}
use Rattle.fst_roundtrip.proofs.Showable.{IsShowableMaker}
use Rattle.fst_roundtrip.proofs.Spelled.{Reads, Any, EndsName, One, one, Two, two, so, both, upper_name}
use Rattle.fst_roundtrip.proofs.ShownWords.{Shown, blank_before, sign_blank}
use Rattle.fst_roundtrip.proofs.ShownRows.{ShownFields, fields_behind}
use Rattle.fst_roundtrip.specs.Unplaced.{unplaced_maker}

-- lexemes that are these constructors
abbrev pub ShownMakers : List Maker → List Lexeme → Type 0
ShownMakers ms = Shown AreMakers (map unplaced_maker) ms

abbrev ShownMaker : Maker → List Lexeme → Type 0
ShownMaker m = Two (One (λ k. IsUpper k × (k.text ≡ m.name.name))) (ShownFields m.fields)

maker_shown : (m : Maker) → IsShowableMaker m → Reads EndsName (maker_text m) (ShownMaker m)
maker_shown m h = fields_behind m.name.name m.fields h.1 (upper_name m.name.name h.0)

bar : {Q : List ℕ → Type 0} → Reads Q (codes " | ") (One (Is (codes "|")))
bar = blank_before (codes "| ") (sign_blank (codes "|") refl (λ rest. refl))

last_shown : (m : Maker) → IsShowableMaker m → Reads EndsName (maker_text m ++ []) (ShownMakers (m ∷ []))
last_shown m h = rw (append-nil (maker_text m)) (so (maker_text m) stands (maker_shown m h))
  where
    stands : (ts : List Lexeme) → ShownMaker m ts → ShownMakers (m ∷ []) ts
    stands _ (two _ ts (one k name) x) = record {
      wrote = record { name = bound k; fields = x.wrote } ∷ [];
      form = grammar.last k ts x.wrote name.0 x.form;
      same = λ i. record { name = record { name = name.1 i; at = 0 }; fields = x.same i } ∷ [];
    }

further_shown : (m : Maker) (more : List ℕ) (ms : List Maker) → IsShowableMaker m → Reads EndsName more (ShownMakers ms) →
    Reads EndsName (maker_text m ++ (codes " | " ++ more)) (ShownMakers (m ∷ ms))
further_shown m more ms h others =
    so (maker_text m ++ (codes " | " ++ more)) stands
    (both (maker_text m) (codes " | " ++ more) (λ rest q. refl) (maker_shown m h)
    (both (codes " | ") more (λ rest q. tt) (bar {Q = Any}) others))
  where
    stands : (ts : List Lexeme) → Two (ShownMaker m) (Two (One (Is (codes "|"))) (ShownMakers ms)) ts → ShownMakers (m ∷ ms) ts
    stands _ (two _ _ (two _ ts (one k name) x) (two _ us (one b is) y)) = record {
      wrote = record { name = bound k; fields = x.wrote } ∷ y.wrote;
      form = grammar.further k b ts us (k ∷ ts ++ b ∷ us) x.wrote y.wrote name.0 x.form is y.form refl;
      same = λ i. record { name = record { name = name.1 i; at = 0 }; fields = x.same i } ∷ y.same i;
    }

pub makers_shown : (m : Maker) (ms : List Maker) → IsShowableMaker m → All IsShowableMaker ms →
    Reads EndsName (joined_text (codes " | ") (map maker_text (m ∷ ms))) (ShownMakers (m ∷ ms))
makers_shown m [] h hs = last_shown m h
makers_shown m (n ∷ ms) h hs =
    further_shown m (joined_text (codes " | ") (map maker_text (n ∷ ms))) (n ∷ ms) h
    (makers_shown n ms (All-head IsShowableMaker n ms hs) (All-tail IsShowableMaker n ms hs))
