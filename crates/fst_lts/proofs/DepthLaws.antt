-- Agreement one deeper is told by the labels of the two types.
use Rattle.std.proofs.Common.{◌≡◌, ◌↔◌, ℕ, suc, List, Bool, Option, Some, None, Result, Ok, Err, refl, subst, get_or}
use Rattle.std.specs.Prelude.{All, Contains, IsSome, IsTrue, IfOk}
use Rattle.std.specs.declared.alloc.AllocError.{AllocError}
use Rattle.fst_types.specs.Tree.{Tree}
use Rattle.fst_types.specs.declared.label.Label.{Label}
use Rattle.fst_lts.specs.Step.{step, labels}
use Rattle.fst_base.specs.Agreement.{AgreeTo, BothOrNeither}
use Rattle.fst_lts.proofs.LabelLaws.{labels_are_moves}

at_label : (P : Label → Type 0) (ls : List Label) (a : Label) → All P ls → Contains ls a → P a
at_label P ls a all (k, lt, is) = subst P is (all k a lt)

either_side : {T U : Type 0} (R : T → U → Type 0) (o : Option T) (p : Option U) → (IsSome o → BothOrNeither R o p) →
    (IsSome p → BothOrNeither R o p) → BothOrNeither R o p
either_side R None None left right = tt
either_side R None (Some y) left right = right refl
either_side R (Some x) p left right = left refl

-- after this label both go on and agree to the depth, or neither goes on
abbrev pub AgreeAfter : ℕ → Tree → Tree → Label → Type 0
AgreeAfter n s r a = BothOrNeither (AgreeTo step step n) (step s a) (step r a)

-- what agrees after the labels of both types agrees one deeper
pub one_deeper : (n : ℕ) (s r : Tree) → All (AgreeAfter n s r) (labels s) → All (AgreeAfter n s r) (labels r) →
    AgreeTo step step (suc n) s r
one_deeper n s r left right = λ a.
    either_side (AgreeTo step step n) (step s a) (step r a)
    (λ m. at_label (AgreeAfter n s r) (labels s) a left ((labels_are_moves s a).1 m))
    (λ m. at_label (AgreeAfter n s r) (labels r) a right ((labels_are_moves r a).1 m))

-- what agrees one deeper agrees after all labels
pub after_all : (n : ℕ) (s r : Tree) (ls : List Label) → AgreeTo step step (suc n) s r → All (AgreeAfter n s r) ls
after_all n s r ls h = λ k d lt. h (get_or ls k d)

-- the answer for the labels of both types is the answer one deeper
pub deeper_from_labels : (r : Result Bool AllocError) (n : ℕ) (s t : Tree) (left right : List Label) → left ≡ labels s →
    right ≡ labels t →
    All (AgreeAfter n s t) left → IfOk r (λ b. IsTrue b ↔ All (AgreeAfter n s t) right) → IfOk r
    (λ b. IsTrue b ↔ AgreeTo step step (suc n) s t)
deeper_from_labels (Err e) n s t left right p q first second = second
deeper_from_labels (Ok b) n s t left right p q first second = (
  λ yes. one_deeper n s t (subst (All (AgreeAfter n s t)) p first) (subst (All (AgreeAfter n s t)) q (second.0 yes)),
  λ agree. second.1 (after_all n s t right agree),
)
