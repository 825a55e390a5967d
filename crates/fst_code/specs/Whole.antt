-- Terms whose cases are whole: the arms of each `case` are the constructors of one data type, each once.
use Rattle.std.specs.Prelude.{◌≡◌, ℕ, ⊤, List, [], ◌∷◌, map, slice_get, Some}
use Rattle.fst_types.specs.declared.family.Family.{Family}
use Rattle.fst_terms.specs.CoreTree.{CoreTree, local, global, int, bool, char, unit, pair, make, lambda, apply, let_in, split, if_else, case_of, operate, negate, new, send, receive, close, wait, select, match_with, fork, seq, CoreList, no_terms, term, CoreArms, no_arms, arm}
use Rattle.fst_terms.specs.InRange.{Bounds, IsInRange, AreInRange}
use Rattle.fst_arms.specs.Arms.{AreEachOnce, arm_labels}

-- the labels of arms are the names of the constructors of one data type, each once
pub record AreOfFamily (fs : List Family) (bs : CoreArms) : Type 0 where
  pub number : ℕ
  pub family : Family
  pub there : slice_get fs number ≡ Some family
  pub each_once : AreEachOnce (map (λ o. o.name) family.makers.items) (arm_labels bs)

abbrev mutual
  -- in the term the arms of each `case` are those of one data type
  pub AreCasesWhole : List Family → CoreTree → Type 0
  AreCasesWhole fs (local at k) = ⊤
  AreCasesWhole fs (global at g ts) = ⊤
  AreCasesWhole fs (int at n) = ⊤
  AreCasesWhole fs (bool at b) = ⊤
  AreCasesWhole fs (char at n) = ⊤
  AreCasesWhole fs (unit at) = ⊤
  AreCasesWhole fs (pair at e f) = AreCasesWhole fs e × AreCasesWhole fs f
  AreCasesWhole fs (make at n o es) = AreAllWhole fs es
  AreCasesWhole fs (lambda at u t x e) = AreCasesWhole fs e
  AreCasesWhole fs (apply at e f) = AreCasesWhole fs e × AreCasesWhole fs f
  AreCasesWhole fs (let_in at x e f) = AreCasesWhole fs e × AreCasesWhole fs f
  AreCasesWhole fs (split at x y e f) = AreCasesWhole fs e × AreCasesWhole fs f
  AreCasesWhole fs (if_else at e f g) = AreCasesWhole fs e × AreCasesWhole fs f × AreCasesWhole fs g
  AreCasesWhole fs (case_of at e bs) = AreCasesWhole fs e × AreArmsWhole fs bs × AreOfFamily fs bs
  AreCasesWhole fs (operate at o e f) = AreCasesWhole fs e × AreCasesWhole fs f
  AreCasesWhole fs (negate at e) = AreCasesWhole fs e
  AreCasesWhole fs (new at t) = ⊤
  AreCasesWhole fs (send at e f) = AreCasesWhole fs e × AreCasesWhole fs f
  AreCasesWhole fs (receive at e) = AreCasesWhole fs e
  AreCasesWhole fs (close at e) = AreCasesWhole fs e
  AreCasesWhole fs (wait at e) = AreCasesWhole fs e
  AreCasesWhole fs (select at l e) = AreCasesWhole fs e
  AreCasesWhole fs (match_with at e bs) = AreCasesWhole fs e × AreArmsWhole fs bs
  AreCasesWhole fs (fork at e) = AreCasesWhole fs e
  AreCasesWhole fs (seq at e f) = AreCasesWhole fs e × AreCasesWhole fs f

  -- so it is in each of these terms
  pub AreAllWhole : List Family → CoreList → Type 0
  AreAllWhole fs no_terms = ⊤
  AreAllWhole fs (term e es) = AreCasesWhole fs e × AreAllWhole fs es

  -- so it is in the term of each of these arms
  pub AreArmsWhole : List Family → CoreArms → Type 0
  AreArmsWhole fs no_arms = ⊤
  AreArmsWhole fs (arm l xs e bs) = AreCasesWhole fs e × AreArmsWhole fs bs

-- so it is in each of these bodies
abbrev pub AreBodiesWhole : List Family → List CoreTree → Type 0
AreBodiesWhole fs [] = ⊤
AreBodiesWhole fs (e ∷ es) = AreCasesWhole fs e × AreBodiesWhole fs es

-- under so many binders the numbers in a term stand for parts, and its arms are whole
pub record IsReady (b : Bounds) (n : ℕ) (e : CoreTree) : Type 0 where
  pub range : IsInRange b n e
  pub whole : AreCasesWhole b.families e

-- so it is in each of these terms
pub record AreReady (b : Bounds) (n : ℕ) (es : CoreList) : Type 0 where
  pub range : AreInRange b n es
  pub whole : AreAllWhole b.families es
