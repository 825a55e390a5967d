-- Where each variable of a type is one of the signature's, none is found that isn't.
use Rattle.std.proofs.Common.{◌≡◌, ◌∙◌, inl, inr, sym, ℕ, List, [], ◌∷◌, ◌++◌, length}
use Rattle.std.specs.Prelude.{◌≢◌, ⊤}
use Rattle.std.proofs.lemmas.Option.{slice_get-get_or}
use Rattle.fst_types.specs.Tree.{Tree, skip, send, receive, close, wait, select, offer, seq, rec, back, var, plain, arrow, pair, named, Branches, none, branch}
use Rattle.fst_types.specs.Variables.{HasVariablesBelow, HaveVariablesBelow}
use Rattle.fst_types.specs.declared.kind.Kind.{Kind}
use Rattle.fst_types.specs.declared.kind.Use.TheVariants.{Once}
use Rattle.fst_kinds.specs.declared.fault.KindFault.{KindFault}
use Rattle.fst_kinds.specs.declared.fault.KindFault.TheVariants.{UnboundType}
use Rattle.fst_kinds.specs.Kinds.{session}
use Rattle.fst_kinds.specs.Faults.{Need, single, node, needs, needs_all, Fails, double, wrong, unguarded, unbound, IsFirstFailure, IsFirstFault}

-- what is asked of a node doesn't fail by a variable that is there
node_bound : {vars : List Kind} {t : Tree} {f : KindFault} → Fails vars (node t) f →
    (k : ℕ) → HasVariablesBelow (length vars) t → f ≡ UnboundType k → ⊥
node_bound (wrong w) k h is = absurd (cc is)
node_bound (unguarded g r) k h is = absurd (cc is)
node_bound {vars} (unbound {n} e) k h is = absurd (cc (sym (slice_get-get_or vars n (session Once) h) ∙ e))

-- what is asked of labels doesn't fail by a variable
single_bound : {vars : List Kind} {bs : Branches} {f : KindFault} → Fails vars (single bs) f → (k : ℕ) → f ≡ UnboundType k → ⊥
single_bound (double e) k is = absurd (cc is)

-- nothing that is asked fails by the k-th variable
abbrev NoneUnbound : List Kind → ℕ → List Need → Type 0
NoneUnbound vars k [] = ⊤
NoneUnbound vars k (n ∷ ns) = ((f : KindFault) → Fails vars n f → f ≢ UnboundType k) × NoneUnbound vars k ns

bound_together : (vars : List Kind) (k : ℕ) (ns ms : List Need) → NoneUnbound vars k ns → NoneUnbound vars k ms →
    NoneUnbound vars k (ns ++ ms)
bound_together vars k [] ms a b = b
bound_together vars k (n ∷ ns) ms a b = (a.0, bound_together vars k ns ms a.1 b)

first_bound : (vars : List Kind) (k : ℕ) (ns : List Need) (f : KindFault) → NoneUnbound vars k ns → IsFirstFailure vars ns f →
    f ≢ UnboundType k
first_bound vars k [] f a h = absurd h
first_bound vars k (n ∷ ns) f a (inl h) = a.0 f h
first_bound vars k (n ∷ ns) f a (inr h) = first_bound vars k ns f a.1 h.1

module _ (vars : List Kind) (k : ℕ) where
  own : (t : Tree) → HasVariablesBelow (length vars) t → NoneUnbound vars k (node t ∷ [])
  own t h = (λ f x. node_bound x k h, tt)

  choice : (bs : Branches) (t : Tree) → HasVariablesBelow (length vars) t → NoneUnbound vars k (needs_all bs) →
      NoneUnbound vars k (single bs ∷ (needs_all bs ++ node t ∷ []))
  choice bs t h all = (λ f x. single_bound x k, bound_together vars k (needs_all bs) (node t ∷ []) all (own t h))

  two : (s r t : Tree) → HasVariablesBelow (length vars) t → NoneUnbound vars k (needs s) → NoneUnbound vars k (needs r) →
      NoneUnbound vars k (needs s ++ (needs r ++ node t ∷ []))
  two s r t h a b = bound_together vars k (needs s) (needs r ++ node t ∷ []) a
      (bound_together vars k (needs r) (node t ∷ []) b (own t h))

  mutual
    -- nothing that is asked of a type whose variables are there fails by one
    type_bound : (t : Tree) → HasVariablesBelow (length vars) t → NoneUnbound vars k (needs t)
    type_bound skip h = own skip h
    type_bound (send b) h = own (send b) h
    type_bound (receive b) h = own (receive b) h
    type_bound close h = own close h
    type_bound wait h = own wait h
    type_bound (select bs) h = choice bs (select bs) h (all_bound bs h)
    type_bound (offer bs) h = choice bs (offer bs) h (all_bound bs h)
    type_bound (seq s r) h = two s r (seq s r) h (type_bound s h.0) (type_bound r h.1)
    type_bound (rec s) h = bound_together vars k (needs s) (node (rec s) ∷ []) (type_bound s h) (own (rec s) h)
    type_bound (back n) h = own (back n) h
    type_bound (var n) h = own (var n) h
    type_bound (plain b) h = own (plain b) h
    type_bound (arrow u s r) h = two s r (arrow u s r) h (type_bound s h.0) (type_bound r h.1)
    type_bound (pair s r) h = two s r (pair s r) h (type_bound s h.0) (type_bound r h.1)
    type_bound (named n) h = own (named n) h

    all_bound : (bs : Branches) → HaveVariablesBelow (length vars) bs → NoneUnbound vars k (needs_all bs)
    all_bound none h = tt
    all_bound (branch l s bs) h = bound_together vars k (needs s) (needs_all bs) (type_bound s h.0) (all_bound bs h.1)

-- the first fault of a type whose variables are there is no unbound variable
pub never_unbound : (vars : List Kind) (t : Tree) (f : KindFault) (k : ℕ) → HasVariablesBelow (length vars) t →
    IsFirstFault vars t f → f ≢ UnboundType k
never_unbound vars t f k h first = first_bound vars k (needs t) f (type_bound vars k t h) first
