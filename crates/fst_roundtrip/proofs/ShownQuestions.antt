-- The text of a question is read as a question of the same types, nested no deeper.
use Rattle.std.proofs.Common.{◌≡◌, ℕ, ◌+◌, ◌<◌, ◌≤◌, ◌^◌, List, [], ◌∷◌, ◌++◌, length, map, refl, subst, arith, append_assoc}
use Rattle.std.specs.Prelude.{codes}
use Rattle.std.specs.Str.{byte}
use Rattle.fst_types.specs.WrittenTree.{WrittenTree}
use Rattle.fst_types.specs.declared.kind.Kind.{Kind}
use Rattle.fst_terms.specs.declared.binder.Binder.{Binder}
use Rattle.fst_reading.specs.Lexeme.{Lexeme, Is}
use Rattle.fst_reading.specs.Faults.{IsWithinLimit, level}
use Rattle.fst_reading.proofs.Steps.{IsWithinLimit-append}
use Rattle.fst_type_syntax.specs.Grammar as grammar
use Rattle.fst_type_syntax.specs.Grammar.{Asked, IsQuestion}
use Rattle.fst_type_syntax.specs.Nesting.{seq_nests, question_nests}
use Rattle.fst_scopes.specs.Twice.{names, variables}
use Rattle.fst_type_print.specs.Texts.{variable_text, joined_text, variables_text, forall_text}
use Rattle.fst_type_print.specs.WrittenTexts.{seq_text}
use Rattle.fst_roundtrip.specs.ReadBack.{variable_names}
use Rattle.fst_roundtrip.specs.Unplaced.{unplaced_type}
use Rattle.fst_roundtrip.proofs.Spelled.{Reads, Any, EndsName, One, one, Two, two, so, both, spaced}
use Rattle.fst_roundtrip.proofs.Depths.{seq_depth, same_depth, no_deeper}
use Rattle.fst_roundtrip.proofs.Nestings.{raised, level_within, front, behind}
use Rattle.fst_roundtrip.proofs.Shallow.{ShallowSeq}
use Rattle.fst_roundtrip.proofs.ShownWords.{blank_before, word_blank}
use Rattle.fst_roundtrip.proofs.ShownTypes.{ShownType}
use Rattle.fst_roundtrip.proofs.ShownBinders.{ShownBinders, binders_shown}
use Rattle.fst_roundtrip.proofs.QuestionNames.{numbered_variables, numbered_texts, numbered_lower, same_names, same_kinds}

-- ` ~ `
tilde : {Q : List ℕ → Type 0} → Reads Q (codes " ~ ") (One (Is (codes "~")))
tilde = blank_before (codes "~ ") (spaced (byte "~") refl (λ b. refl))

-- lexemes that are a question of these types over these variables
pub record ShownQuestion (kinds : List Kind) (v w : WrittenTree) (ts : List Lexeme) : Type 0 where
  pub asked : Asked
  pub form : IsQuestion ts asked
  pub within : (limit : ℕ) → 1 + seq_depth v ≤ limit → 1 + seq_depth w ≤ limit → IsWithinLimit limit (question_nests form)
  pub names_are : names (variables asked.binders) ≡ variable_names 0 (length kinds)
  pub kinds_are : kinds ≡ map (λ (b : Binder × Kind). b.1) asked.binders
  pub left_same : unplaced_type asked.left ≡ unplaced_type v
  pub right_same : unplaced_type asked.right ≡ unplaced_type w

side_within : (ts : List Lexeme) (v : WrittenTree) (x : ShownType ShallowSeq v ts) (limit : ℕ) → 1 + seq_depth v ≤ limit →
    IsWithinLimit limit (seq_nests 1 (x.form.0))
side_within ts v x limit at = raised (1 + seq_depth x.wrote) limit (seq_nests 1 (x.form.0))
    (omega (arith, at, same_depth x.wrote v x.same)) (x.form.1 1)

closed_shown : (v w : WrittenTree) → Reads EndsName (seq_text v) (ShownType ShallowSeq v) →
    Reads EndsName (seq_text w) (ShownType ShallowSeq w) →
    Reads EndsName (seq_text v ++ codes " ~ " ++ seq_text w) (ShownQuestion [] v w)
closed_shown v w left right =
    so (seq_text v ++ codes " ~ " ++ seq_text w) stands (both (seq_text v ++ codes " ~ ") (seq_text w)
    (λ rest q. tt) (both (seq_text v) (codes " ~ ") (λ rest q. refl) left (tilde {Q = Any})) right)
  where
    stands : (ts : List Lexeme) → Two (Two (ShownType ShallowSeq v) (One (Is (codes "~")))) (ShownType ShallowSeq w) ts →
        ShownQuestion [] v w ts
    stands _ (two _ us (two ts _ x (one k is)) y) = record {
      asked = record { binders = []; left = x.wrote; right = y.wrote };
      form = grammar.closed ts us ((ts ++ k ∷ []) ++ us) k x.wrote y.wrote x.form.0 is y.form.0 (append_assoc ts (k ∷ []) us);
      within = λ limit a b. IsWithinLimit-append limit (seq_nests 1 x.form.0) (0 ∷ seq_nests 1 y.form.0)
          (side_within ts v x limit a) (omega arith, side_within us w y limit b);
      names_are = refl;
      kinds_are = refl;
      left_same = x.same;
      right_same = y.same;
    }

-- `forall`, the variables and a point
abbrev Front : List Kind → List Lexeme → Type 0
Front kinds = Two (Two (One (Is (codes "forall"))) (ShownBinders (numbered_variables 0 kinds))) (One (Is (codes ".")))

front_shown : (kind : Kind) (kinds : List Kind) → length (kind ∷ kinds) < 2 ^ 64 →
    Reads Any (forall_text (kind ∷ kinds)) (Front (kind ∷ kinds))
front_shown kind kinds few =
    let bs = numbered_variables 0 (kind ∷ kinds) in
    let text = joined_text (codes ", ") (variables_text 0 (kind ∷ kinds)) in
    let names : Reads EndsName text (ShownBinders bs) = subst
    (λ (texts : List (List ℕ)). Reads EndsName (joined_text (codes ", ") texts) (ShownBinders bs))
    (numbered_texts 0 (kind ∷ kinds))
    (binders_shown (record { name = variable_text 0; at = 0 }, kind) (numbered_variables 1 kinds)
    (numbered_lower 0 (kind ∷ kinds) (omega arith))) in
    both (codes "forall " ++ text) (codes ". ") (λ rest q. refl)
    (both (codes "forall ") text (λ rest q. tt) (word_blank {Q = Any} (codes "forall") refl) names)
    (spaced (byte ".") refl (λ b. refl))

over_shown : (kind : Kind) (kinds : List Kind) (v w : WrittenTree) → length (kind ∷ kinds) < 2 ^ 64 →
    Reads EndsName (seq_text v) (ShownType ShallowSeq v) → Reads EndsName (seq_text w) (ShownType ShallowSeq w) →
    Reads EndsName (forall_text (kind ∷ kinds) ++ seq_text v ++ codes " ~ " ++ seq_text w) (ShownQuestion (kind ∷ kinds) v w)
over_shown kind kinds v w few left right =
    let front = forall_text (kind ∷ kinds) in
    so (front ++ seq_text v ++ codes " ~ " ++ seq_text w) stands (both (front ++ seq_text v ++ codes " ~ ") (seq_text w)
    (λ rest q. tt) (both (front ++ seq_text v) (codes " ~ ") (λ rest q. refl)
    (both front (seq_text v) (λ rest q. tt) (front_shown kind kinds few) left) (tilde {Q = Any})) right)
  where
    all : List Kind
    all = kind ∷ kinds

    stands : (ts : List Lexeme) → Two (Two (Two (Front all) (ShownType ShallowSeq v)) (One (Is (codes "~"))))
        (ShownType ShallowSeq w) ts → ShownQuestion all v w ts
    stands _ (two _ us (two _ _ (two _ ts (two _ _ (two _ vs (one f word) b) (one d dot)) x) (one k is)) y) = record {
      asked = record { binders = b.wrote; left = x.wrote; right = y.wrote };
      form = grammar.over f d k vs ts us ((((f ∷ vs) ++ d ∷ []) ++ ts) ++ k ∷ [] ++ us) b.wrote x.wrote y.wrote word b.form dot
          x.form.0 is y.form.0 (simp append_assoc);
      within = λ limit m n. (
        omega arith,
        IsWithinLimit-append limit (level 0 vs) (0 ∷ (seq_nests 1 x.form.0 ++ 0 ∷ seq_nests 1 y.form.0))
            (level_within limit 0 vs (omega arith)) (
              omega arith,
              IsWithinLimit-append limit (seq_nests 1 x.form.0) (0 ∷ seq_nests 1 y.form.0)
                  (side_within ts v x limit m) (omega arith, side_within us w y limit n),
            ),
      );
      names_are = same_names b.wrote all b.same;
      kinds_are = same_kinds b.wrote all b.same;
      left_same = x.same;
      right_same = y.same;
    }

-- a question's text by those of its types
pub asked_shown : (kinds : List Kind) (v w : WrittenTree) → length kinds < 2 ^ 64 →
    Reads EndsName (seq_text v) (ShownType ShallowSeq v) → Reads EndsName (seq_text w) (ShownType ShallowSeq w) →
    Reads EndsName (forall_text kinds ++ seq_text v ++ codes " ~ " ++ seq_text w) (ShownQuestion kinds v w)
asked_shown [] v w few left right = closed_shown v w left right
asked_shown (kind ∷ kinds) v w few left right = over_shown kind kinds v w few left right

-- a question that was read within a limit is no deeper
pub sides_within : (ts : List Lexeme) (q : Asked) (d : IsQuestion ts q) (limit : ℕ) → IsWithinLimit limit (question_nests d) →
    (1 + seq_depth q.left ≤ limit) × (1 + seq_depth q.right ≤ limit)
sides_within all _ (grammar.closed ts us _ k t u s is r parts) limit h = (
  no_deeper ts t s 1 limit (front limit (seq_nests 1 s) (0 ∷ seq_nests 1 r) h),
  no_deeper us u r 1 limit (behind limit (seq_nests 1 s) (0 ∷ seq_nests 1 r) h).1,
)
sides_within all _ (grammar.over f d k vs ts us _ bs t u word b dot s is r parts) limit h =
    let types = (behind limit (level 0 vs) (0 ∷ (seq_nests 1 s ++ 0 ∷ seq_nests 1 r)) h.1).1 in (
      no_deeper ts t s 1 limit (front limit (seq_nests 1 s) (0 ∷ seq_nests 1 r) types),
      no_deeper us u r 1 limit (behind limit (seq_nests 1 s) (0 ∷ seq_nests 1 r) types).1,
    )
