-- The labels of a type are those by which it moves.
use Rattle.std.proofs.Common.{◌≡◌, ◌∙◌, ◌⊎◌, inl, inr, ⊎_elim, ℕ, List, [], ◌∷◌, Bool, true, false, Option, Some, None, refl, sym}
use Rattle.std.specs.Prelude.{Contains, IsSome, option_map, if◌then◌else◌}
use Rattle.fst_types.specs.Tree.{Tree, skip, send, receive, close, wait, select, offer, seq, rec, back, var, plain, arrow, pair, named, Branches, none, branch}
use Rattle.fst_types.specs.Order.{same_label}
use Rattle.fst_types.proofs.Laws.{same_label-same, same_label_is}
use Rattle.fst_types.specs.declared.label.Label.{Label}
use Rattle.fst_types.specs.declared.label.Label.TheVariants.{Send, Receive, Select, Offer, Close, Wait, Var}
use Rattle.fst_types.specs.Substitution.{substitute}
use Rattle.fst_lts.specs.Step.{terminated, branch_at, step_in, step, labels, choice_labels, followed}
use Rattle.fst_base.proofs.Lists.{contains_head, contains_tail, from_contains, contains_none}
use Rattle.fst_base.proofs.Options.{there_if, if_there, mapped_there, unmapped_there}

-- one label
one_moves : (a b : Label) → Contains (b ∷ []) a → IsSome (if same_label a b then Some skip else None)
one_moves a b h = ⊎_elim (λ e. there_if skip (same_label a b) ((same_label_is a b).1 (sym e)))
    (λ n. absurd (contains_none a n)) (from_contains [] a b h)

moves_one : (a b : Label) → IsSome (if same_label a b then Some skip else None) → Contains (b ∷ []) a
moves_one a b h = contains_head [] a b (sym (same_label-same a b (if_there skip (same_label a b) h)))

choice_moves : (make : List ℕ → Label) (bs : Branches) (a : Label) → Contains (choice_labels make bs) a →
    IsSome (branch_at make bs a)
choice_moves make none a h = absurd (contains_none a h)
choice_moves make (branch l s bs) a h =
    pick (choice_moves make bs a) (same_label a (make l)) refl (from_contains (choice_labels make bs) a (make l) h)
  where
    pick : (Contains (choice_labels make bs) a → IsSome (branch_at make bs a)) → (c : Bool) → same_label a (make l) ≡ c →
        (make l ≡ a) ⊎ Contains (choice_labels make bs) a → IsSome (if c then Some s else branch_at make bs a)
    pick next true e h = refl
    pick next false e (inl m) = absurd (cc (sym e ∙ (same_label_is a (make l)).1 (sym m)))
    pick next false e (inr n) = next n

moves_choice : (make : List ℕ → Label) (bs : Branches) (a : Label) → IsSome (branch_at make bs a) →
    Contains (choice_labels make bs) a
moves_choice make none a h = absurd (cc h)
moves_choice make (branch l s bs) a h = pick (moves_choice make bs a) (same_label a (make l)) refl h
  where
    pick : (IsSome (branch_at make bs a) → Contains (choice_labels make bs) a) →
        (c : Bool) → same_label a (make l) ≡ c → IsSome (if c then Some s else branch_at make bs a) →
        Contains (make l ∷ choice_labels make bs) a
    pick next true e h = contains_head (choice_labels make bs) a (make l) (sym (same_label-same a (make l) e))
    pick next false e h = contains_tail (choice_labels make bs) a (make l) (next h)

labels_move : (env : List (Option Tree)) (s : Tree) (a : Label) → Contains (labels s) a → IsSome (step_in env s a)
labels_move env skip a h = absurd (contains_none a h)
labels_move env (send b) a h = one_moves a (Send b) h
labels_move env (receive b) a h = one_moves a (Receive b) h
labels_move env close a h = one_moves a Close h
labels_move env wait a h = one_moves a Wait h
labels_move env (select bs) a h = mapped_there (substitute env) (branch_at Select bs a) (choice_moves Select bs a h)
labels_move env (offer bs) a h = mapped_there (substitute env) (branch_at Offer bs a) (choice_moves Offer bs a h)
labels_move env (seq s r) a h = pick (labels_move env r a) (labels_move env s a) (terminated s) h
  where
    pick : (Contains (labels r) a → IsSome (step_in env r a)) → (Contains (labels s) a → IsSome (step_in env s a)) →
        (c : Bool) → Contains (if c then labels r else labels s) a →
        IsSome (if c then step_in env r a else option_map (followed a (substitute env r)) (step_in env s a))
    pick second first true h = second h
    pick second first false h = mapped_there (followed a (substitute env r)) (step_in env s a) (first h)
labels_move env (rec s) a h = labels_move (Some (substitute env (rec s)) ∷ env) s a h
labels_move env (back k) a h = absurd (contains_none a h)
labels_move env (var k) a h = one_moves a (Var k) h
labels_move env (plain b) a h = absurd (contains_none a h)
labels_move env (arrow u s r) a h = absurd (contains_none a h)
labels_move env (pair s r) a h = absurd (contains_none a h)
labels_move env (named k) a h = absurd (contains_none a h)

moves_labelled : (env : List (Option Tree)) (s : Tree) (a : Label) → IsSome (step_in env s a) → Contains (labels s) a
moves_labelled env skip a h = absurd (cc h)
moves_labelled env (send b) a h = moves_one a (Send b) h
moves_labelled env (receive b) a h = moves_one a (Receive b) h
moves_labelled env close a h = moves_one a Close h
moves_labelled env wait a h = moves_one a Wait h
moves_labelled env (select bs) a h = moves_choice Select bs a (unmapped_there (substitute env) (branch_at Select bs a) h)
moves_labelled env (offer bs) a h = moves_choice Offer bs a (unmapped_there (substitute env) (branch_at Offer bs a) h)
moves_labelled env (seq s r) a h = pick (moves_labelled env r a) (moves_labelled env s a) (terminated s) h
  where
    pick : (IsSome (step_in env r a) → Contains (labels r) a) → (IsSome (step_in env s a) → Contains (labels s) a) →
        (c : Bool) → IsSome (if c then step_in env r a else option_map (followed a (substitute env r)) (step_in env s a)) →
        Contains (if c then labels r else labels s) a
    pick second first true h = second h
    pick second first false h = first (unmapped_there (followed a (substitute env r)) (step_in env s a) h)
moves_labelled env (rec s) a h = moves_labelled (Some (substitute env (rec s)) ∷ env) s a h
moves_labelled env (back k) a h = absurd (cc h)
moves_labelled env (var k) a h = moves_one a (Var k) h
moves_labelled env (plain b) a h = absurd (cc h)
moves_labelled env (arrow u s r) a h = absurd (cc h)
moves_labelled env (pair s r) a h = absurd (cc h)
moves_labelled env (named k) a h = absurd (cc h)

-- a label is among the labels of a type exactly where the type moves by it
pub labels_are_moves : (s : Tree) (a : Label) → (Contains (labels s) a → IsSome (step s a)) ×
    (IsSome (step s a) → Contains (labels s) a)
labels_are_moves s a = (labels_move [] s a, moves_labelled [] s a)
