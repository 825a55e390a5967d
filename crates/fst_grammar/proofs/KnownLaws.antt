-- Which labels are known: those of session types whose labels are all in a list.
use Rattle.std.proofs.Common.{◌≡◌, ◌∙◌, ◌<◌, ◌⊎◌, inl, inr, refl, sym, arith, ℕ, suc, List, [], ◌∷◌, ◌++◌, length, Bool, true, false}
use Rattle.std.specs.Prelude.{Contains, if◌then◌else◌}
use Rattle.std.proofs.lemmas.List.Elements.{Contains-append_left, Contains-append_right}
use Rattle.fst_types.specs.Tree.{Tree, skip, send, receive, close, wait, select, offer, seq, rec, back, var, plain, arrow, pair, named, Branches, none, branch}
use Rattle.fst_types.specs.Order.{same_label}
use Rattle.fst_types.specs.declared.kind.Kind.{Kind}
use Rattle.fst_types.specs.declared.kind.Use.{Use}
use Rattle.fst_types.specs.declared.label.Label.{Label}
use Rattle.fst_types.specs.declared.label.Label.TheVariants.{Send, Receive, Select, Offer, Close, Wait, Var}
use Rattle.fst_types.proofs.Laws.{same_label_is}
use Rattle.fst_kinds.specs.Kinds.{session, HasKind, AllSessions}
use Rattle.fst_kinds.proofs.Laws.{not_top}
use Rattle.fst_parts.specs.Labels.{labels_in, branch_labels, label_position}
use Rattle.fst_grammar.proofs.LetterLaws.{Known}
use Rattle.fst_grammar.proofs.FitLaws.{AreKnown, AllKnown}
use Rattle.fst_base.proofs.Lists.{contains_head, contains_tail, from_contains}

-- a label in the list has its place there
pub contains_known : (letters : List Label) (a : Label) → Contains letters a → Known letters a
contains_known [] a h = absurd (omega (arith, h.1))
contains_known (l ∷ letters) a h = pick (contains_known letters a) (same_label a l) refl (from_contains letters a l h)
  where
    pick : (Contains letters a → Known letters a) → (c : Bool) → same_label a l ≡ c → (l ≡ a) ⊎ Contains letters a →
        (if c then 0 else suc (label_position letters a)) < suc (length letters)
    pick next true is h = omega arith
    pick next false is (inl e) = absurd (cc (sym is ∙ (same_label_is a l).1 (sym e)))
    pick next false is (inr k) = let lt = next k in omega arith

mutual
  -- a session type's labels are known where all labels in it are
  pub session_known : (vars : List Kind) (letters : List Label) (t : Tree) (u : Use) → HasKind vars t (session u) →
      ((a : Label) → Contains (labels_in t) a → Known letters a) → AreKnown letters t
  session_known vars letters skip u h k = tt
  session_known vars letters (send b) u h k = k (Send b) (contains_head [] (Send b) (Send b) refl)
  session_known vars letters (receive b) u h k = k (Receive b) (contains_head [] (Receive b) (Receive b) refl)
  session_known vars letters close u h k = k Close (contains_head [] Close Close refl)
  session_known vars letters wait u h k = k Wait (contains_head [] Wait Wait refl)
  session_known vars letters (select cs) u h k = sessions_known vars letters Select cs h.0 k
  session_known vars letters (offer cs) u h k = sessions_known vars letters Offer cs h.0 k
  session_known vars letters (seq s r) u h k = (
    session_known vars letters s h.0 h.2 (λ a m. k a (Contains-append_left (labels_in s) (labels_in r) a m)),
    session_known vars letters r h.1 h.3 (λ a m. k a (Contains-append_right (labels_in s) (labels_in r) a m)),
  )
  session_known vars letters (rec s) u h k = session_known vars letters s u h.0 k
  session_known vars letters (back j) u h k = tt
  session_known vars letters (var j) u h k = k (Var j) (contains_head [] (Var j) (Var j) refl)
  session_known vars letters (plain b) u h k = not_top u _ h
  session_known vars letters (arrow v s r) u h k = not_top u v h.2
  session_known vars letters (pair s r) u h k = not_top u _ h.4
  session_known vars letters (named j) u h k = not_top u _ h

  sessions_known : (vars : List Kind) (letters : List Label) (make : List ℕ → Label) (cs : Branches) → AllSessions vars cs →
      ((a : Label) → Contains (branch_labels make cs) a → Known letters a) → AllKnown letters make cs
  sessions_known vars letters make none h k = tt
  sessions_known vars letters make (branch l s cs) h k = (
    k (make l) (contains_head (labels_in s ++ branch_labels make cs) (make l) (make l) refl),
    session_known vars letters s h.0.0 h.0.1 (λ a m. k a
        (contains_tail (labels_in s ++ branch_labels make cs) a (make l)
        (Contains-append_left (labels_in s) (branch_labels make cs) a m))),
    sessions_known vars letters make cs h.1 (λ a m. k a
        (contains_tail (labels_in s ++ branch_labels make cs) a (make l)
        (Contains-append_right (labels_in s) (branch_labels make cs) a m))),
  )
