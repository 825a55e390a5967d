-- What ordered branches give: labels that rise, and successors that are ordered too.
use Rattle.std.proofs.Common.{◌≡◌, ℕ, List, [], ◌∷◌, Bool, true, false, Option, Some, None}
use Rattle.std.specs.Prelude.{option_map, option_and_then, if◌then◌else◌, IfSome}
use Rattle.std.specs.declared.cmp.Ordering.TheVariants.{Less}
use Rattle.std.specs.Ordering.{nat_cmp}
use Rattle.std.specs.Cmp.Lexicographic.{slice_cmp}
use Rattle.fst_types.specs.Tree.{Tree, skip, send, receive, close, wait, select, offer, seq, rec, back, var, plain, arrow, pair, named, Branches, none, branch}
use Rattle.fst_types.specs.Order.{same_label, IsOrdered, AllOrdered, AreRising, label_cmp}
use Rattle.fst_types.specs.declared.label.Label.{Label}
use Rattle.fst_types.specs.declared.label.Label.TheVariants.{Send, Receive, Select, Offer, Close, Wait, Var}
use Rattle.fst_types.specs.Substitution.{substitute, EnvHas}
use Rattle.fst_types.proofs.Laws.{substitute_ordered}
use Rattle.fst_lts.specs.Step.{terminated, branch_at, step_in, step, labels, choice_labels, is_end, followed}
use Rattle.fst_base.specs.Agreement.{residual}
use Rattle.fst_base.specs.Order.{IsRising}

choice_rises : (make : List ℕ → Label) → ((l m : List ℕ) → slice_cmp nat_cmp l m ≡ Less → label_cmp (make l) (make m) ≡ Less) →
    (bs : Branches) → AreRising bs → IsRising label_cmp (choice_labels make bs)
choice_rises make h none r = absurd r
choice_rises make h (branch l s none) r = tt
choice_rises make h (branch l s (branch m t bs)) r = (h l m r.0, choice_rises make h (branch m t bs) r.1)

-- the labels of an ordered type rise
pub labels_rise : (s : Tree) → IsOrdered s → IsRising label_cmp (labels s)
labels_rise skip o = tt
labels_rise (send b) o = tt
labels_rise (receive b) o = tt
labels_rise close o = tt
labels_rise wait o = tt
labels_rise (select bs) o = choice_rises Select (λ l m e. e) bs o.0
labels_rise (offer bs) o = choice_rises Offer (λ l m e. e) bs o.0
labels_rise (seq s r) o = pick (labels_rise s o.0) (labels_rise r o.1) (terminated s)
  where
    pick : IsRising label_cmp (labels s) → IsRising label_cmp (labels r) →
        (c : Bool) → IsRising label_cmp (if c then labels r else labels s)
    pick first second true = second
    pick first second false = first
labels_rise (rec s) o = labels_rise s o
labels_rise (back k) o = tt
labels_rise (var k) o = tt
labels_rise (plain b) o = tt
labels_rise (arrow u s r) o = tt
labels_rise (pair s r) o = tt
labels_rise (named k) o = tt

branch_ordered : (make : List ℕ → Label) (env : List (Option Tree)) (bs : Branches) (a : Label) → EnvHas IsOrdered env →
    AllOrdered bs → IfSome (option_map (substitute env) (branch_at make bs a)) IsOrdered
branch_ordered make env none a e o = tt
branch_ordered make env (branch l s bs) a e o = pick (same_label a (make l)) (branch_ordered make env bs a e o.1)
  where
    pick : (c : Bool) → IfSome (option_map (substitute env) (branch_at make bs a)) IsOrdered →
        IfSome (option_map (substitute env) (if c then Some s else branch_at make bs a)) IsOrdered
    pick true next = substitute_ordered env s e o.0
    pick false next = next

skip_ordered : (c : Bool) → IfSome (if c then Some skip else None) IsOrdered
skip_ordered true = tt
skip_ordered false = tt

followed_ordered : (a : Label) (r t : Tree) → IsOrdered t → IsOrdered r → IsOrdered (followed a r t)
followed_ordered a r t h g = pick (is_end a)
  where
    pick : (c : Bool) → IsOrdered (if c then skip else seq t r)
    pick true = tt
    pick false = (h, g)

step_in_ordered : (env : List (Option Tree)) (s : Tree) (a : Label) → EnvHas IsOrdered env → IsOrdered s →
    IfSome (step_in env s a) IsOrdered
step_in_ordered env skip a e o = tt
step_in_ordered env (send b) a e o = skip_ordered (same_label a (Send b))
step_in_ordered env (receive b) a e o = skip_ordered (same_label a (Receive b))
step_in_ordered env close a e o = skip_ordered (same_label a Close)
step_in_ordered env wait a e o = skip_ordered (same_label a Wait)
step_in_ordered env (select bs) a e o = branch_ordered Select env bs a e o.1
step_in_ordered env (offer bs) a e o = branch_ordered Offer env bs a e o.1
step_in_ordered env (seq s r) a e o = pick (step_in_ordered env r a e o.1) (step_in env s a) (step_in_ordered env s a e o.0)
    (terminated s)
  where
    pick : IfSome (step_in env r a) IsOrdered → (p : Option Tree) → IfSome p IsOrdered →
        (c : Bool) → IfSome (if c then step_in env r a else option_map (followed a (substitute env r)) p) IsOrdered
    pick second p first true = second
    pick second None first false = tt
    pick second (Some t) first false = followed_ordered a (substitute env r) t first (substitute_ordered env r e o.1)
step_in_ordered env (rec s) a e o = step_in_ordered (Some (substitute env (rec s)) ∷ env) s a
    (substitute_ordered env (rec s) e o, e) o
step_in_ordered env (back k) a e o = tt
step_in_ordered env (var k) a e o = skip_ordered (same_label a (Var k))
step_in_ordered env (plain b) a e o = tt
step_in_ordered env (arrow u s r) a e o = tt
step_in_ordered env (pair s r) a e o = tt
step_in_ordered env (named k) a e o = tt

-- a successor of an ordered type is ordered
pub step_ordered : (s : Tree) (a : Label) → IsOrdered s → IfSome (step s a) IsOrdered
step_ordered s a o = step_in_ordered [] s a tt o

-- what a trace leaves of an ordered type is ordered
pub residual_ordered : (w : List Label) (s : Tree) → IsOrdered s → IfSome (residual step s w) IsOrdered
residual_ordered [] s o = o
residual_ordered (a ∷ w) s o = pick (residual_ordered w) (step s a) (step_ordered s a o)
  where
    pick : ((t : Tree) → IsOrdered t → IfSome (residual step t w) IsOrdered) →
        (p : Option Tree) → IfSome p IsOrdered → IfSome (option_and_then (λ t. residual step t w) p) IsOrdered
    pick rest None h = tt
    pick rest (Some t) h = rest t h
