-- The sign stands once in the line of a pair, between its words: so these are what was cut off there.
use Rattle.std.proofs.Common.{inl, inr, Vec, Global, Some, None, vec_len, ◌≡◌, ◌≢◌, ◌++◌, ◌∷◌, [], ◌==◌, ℕ, List, true, false, length, drop, refl, sym, ap, ◌∙◌}
use Rattle.std.specs.Prelude.{codes}
use Rattle.std.proofs.lemmas.List.{append_cancel_right, nil_from_length}
use Rattle.std.proofs.lemmas.Slice.Eq.{strip_prefix_is, strip_suffix_is}
use Rattle.std.proofs.lemmas.Bool.Decides.{Decides-eqb, eqb_tells}
use Rattle.std.proofs.lemmas.Bool.{eq-eqb}
use Rattle.fst_basis.specs.declared.proof.Pair.{Pair}
use Rattle.fst_cert.specs.Certificates.{IsPairFit}
use Rattle.fst_cert.specs.Texts.{listed, pair_line, space}
use Rattle.fst_cert.proofs.CutLaws.{cut_around, no_cut}
use Rattle.fst_cert.proofs.TextLaws.{joined, left_free, tilde}
use Rattle.fst_cert.proofs.pairs.read_pair.Goals as goal
use Rattle.fst_cert.proofs.pairs.read_pair.Goals.{In-Some, In-Some-cut_at, In-Some-strip_suffix, then-is_empty-via-then-is_empty, then-is_empty-via-else-is_empty+then-is_empty-2}

-- the line is the pair's, by what its parts are
whole : (line words before left right : List ℕ) (b : Pair) → line ≡ codes "pair" ++ words → words ≡ before ++ tilde ∷ right →
    before ≡ left ++ space ∷ [] → left ≡ listed space b.left → right ≡ listed space b.right → line ≡ pair_line b
whole line words before left right b is cut front one other =
    is ∙ ap (λ t. codes "pair" ++ t) (cut ∙ (rw (front, one, other) (sym (joined (listed space b.left) (listed space b.right)))))

no_numbers : (ks : List ℕ) → listed space ks ≡ [] → ks ≡ []
no_numbers [] e = refl
no_numbers (k ∷ ks) e = absurd (cc e)

-- a vector that isn't empty has numbers, and an empty one has none
filled : (v : Vec ℕ Global) → false ≡ (vec_len v == 0) → v.items ≢ []
filled v some e =
    let none : vec_len v ≡ 0 = v.ok.0 ∙ ap length e in
    let h : false ≡ true = some ∙ eq-eqb (vec_len v) 0 none in
    cc

emptied : (v : Vec ℕ Global) → true ≡ (vec_len v == 0) → v.items ≡ []
emptied v none =
    let zero : vec_len v ≡ 0 = elim (eqb_tells (vec_len v) 0) [
      | inl h ↦ h.1
      | inr h ↦ absurd (cc (none, h.0))
    ] in
    nil_from_length v.items (sym v.ok.0 ∙ zero)

-- the text of no numbers is that of no others
none_read : (v : Vec ℕ Global) (bs ks : List ℕ) → true ≡ (vec_len v == 0) → bs ≡ listed space v.items → bs ≡ listed space ks →
    ks ≡ []
none_read v bs ks none is other = no_numbers ks (sym other ∙ (is ∙ ap (listed space) (emptied v none)))

-- what stands behind the first word of the line of a pair
words : (c : In-Some) (b : Pair) → c.args.line.now ≡ pair_line b →
    c.in-Some.words.now ≡ (listed space b.left ++ space ∷ []) ++ tilde ∷ listed space b.right
words c b is = c.in-Some.ensures.cases.1 ∙ (ap (drop 4) is ∙ joined (listed space b.left) (listed space b.right))

-- where the line is that of a pair, its words are what stands around the sign
parts : (c : In-Some-cut_at) (b : Pair) → IsPairFit b → c.args.line.now ≡ pair_line b →
    (c.in-Some-cut_at.before.now ≡ listed space b.left ++ space ∷ []) × (c.in-Some-cut_at.right.now ≡ listed space b.right)
parts c b fit is =
    cut_around tilde c.in-Some-cut_at.before.now c.in-Some-cut_at.right.now (listed space b.left ++ space ∷ [])
    (listed space b.right) c.in-Some-cut_at.ensures.some.1 (left_free b.left fit.left_word)
    (sym c.in-Some-cut_at.ensures.some.0 ∙ words (goal.at.In-Some-cut_at c).In-Some b is)

-- the space in front of the sign is cut off
cut_off : (c : In-Some-strip_suffix) → c.in-Some-cut_at.before.now ≡ c.in-Some-strip_suffix.left.now ++ space ∷ []
cut_off c = strip_suffix_is Decides-eqb c.in-Some-cut_at.before.now (codes " ") (Some c.in-Some-strip_suffix.left)
    c.in-Some-strip_suffix.ensures.cases

left_part : (c : In-Some-strip_suffix) (b : Pair) → IsPairFit b → c.args.line.now ≡ pair_line b →
    c.in-Some-strip_suffix.left.now ≡ listed space b.left
left_part c b fit is =
    append_cancel_right c.in-Some-strip_suffix.left.now (listed space b.left) (space ∷ [])
    (sym (cut_off c) ∙ (parts (goal.at.In-Some-strip_suffix c).In-Some-cut_at b fit is).0)

pub returns-in_default-cut_at-clause-none : goal.returns-in_default-cut_at-clause-none
returns-in_default-cut_at-clause-none c b fit is =
    no_cut tilde c.in-Some.words.now (listed space b.left ++ space ∷ []) (listed space b.right) c.in_default-cut_at.ensures.none
    (words (goal.at.returns-in_default-cut_at-clause-none c).In-Some b is)

pub returns-in_default-strip_suffix-clause-none : goal.returns-in_default-strip_suffix-clause-none
returns-in_default-strip_suffix-clause-none c b fit is =
    strip_suffix_is Decides-eqb c.in-Some-cut_at.before.now (codes " ") None c.in_default-strip_suffix.ensures.cases
    (listed space b.left) (parts (goal.at.returns-in_default-strip_suffix-clause-none c).In-Some-cut_at b fit is).0

pub returns-in_default-2-clause-none : goal.returns-in_default-2-clause-none
returns-in_default-2-clause-none c b fit is =
    rw c.in_default-2.is at c.in_ok-left.ensures.none b.left fit.left_word
    (left_part (goal.at.returns-in_default-2-clause-none c).In-Some-strip_suffix b fit is)

pub returns-in_default-3-clause-none : goal.returns-in_default-3-clause-none
returns-in_default-3-clause-none c b fit is =
    rw c.in_default-3.is at c.in_ok-right.ensures.none b.right fit.right_word
    (parts (goal.at.returns-in_default-3-clause-none c).In-Some-cut_at b fit is).1

pub returns-then-is_empty-clause-none : goal.returns-then-is_empty-clause-none
returns-then-is_empty-clause-none c b fit is =
    let left = rw c.in-Some-2.is at c.in_ok-left.ensures.some in
    let right = rw c.in-Some-3.is at c.in_ok-right.ensures.some in
    let one = left_part (goal.at.returns-then-is_empty-clause-none c).In-Some-strip_suffix b fit is in
    let other = (parts (goal.at.returns-then-is_empty-clause-none c).In-Some-cut_at b fit is).1 in
    elim c.then-is_empty.branch [
      | then-is_empty-via-then-is_empty w ↦ fit.words.left (none_read c.in-Some-2.left _ b.left w.if-is_empty.ensures left.0 one)
      | then-is_empty-via-else-is_empty+then-is_empty-2 w ↦
          fit.words.right (none_read c.in-Some-3.right _ b.right w.if-is_empty-2.ensures right.0 other)
    ]

pub returns-clause-some : goal.returns-clause-some
returns-clause-some c =
    let left = rw c.in-Some-2.is at c.in_ok-left.ensures.some in
    let right = rw c.in-Some-3.is at c.in_ok-right.ensures.some in
    let line = strip_prefix_is Decides-eqb c.args.line.now (codes "pair") (Some c.in-Some.words) c.in-Some.ensures.cases in
    rw (c.from_vec.ensures, c.from_vec-2.ensures) (
      whole c.args.line.now c.in-Some.words.now c.in-Some-cut_at.before.now c.in-Some-strip_suffix.left.now
          c.in-Some-cut_at.right.now (record { left = c.in-Some-2.left.items; right = c.in-Some-3.right.items }) line
          c.in-Some-cut_at.ensures.some.0 (cut_off (goal.at.returns-clause-some c).In-Some-strip_suffix) left.0 right.0,
      record {
        words = record {
          left = filled c.in-Some-2.left c.if-is_empty.ensures;
          right = filled c.in-Some-3.right c.if-is_empty-2.ensures;
        };
        left_word = left.1;
        right_word = right.1;
      },
    )
