-- Closed instances of types keep what the rules ask of types.
use Rattle.std.proofs.Common.{◌≡◌, ◌∙◌, ℕ, zero, suc, Bool, true, false, Option, Some, None, List, [], ◌∷◌, inl, inr, map, refl, sym, ap, subst, arith}
use Rattle.std.specs.Prelude.{Contains, IsSome, if◌then◌else◌}
use Rattle.std.specs.List.{AllByRecursion}
use Rattle.fst_types.specs.Tree.{Tree, skip, send, receive, close, wait, select, offer, seq, rec, back, var, plain, arrow, pair, named, Branches, none, branch}
use Rattle.fst_types.specs.Instance.{instantiated, instantiated_all}
use Rattle.fst_types.specs.declared.kind.Kind.{Kind}
use Rattle.fst_types.specs.declared.label.Label.{Label}
use Rattle.fst_types.specs.declared.label.Label.TheVariants as label
use Rattle.fst_kinds.specs.Kinds.{session}
use Rattle.fst_kinds.specs.WellFormed.{IsSession, IsInstantiation}
use Rattle.fst_kinds.proofs.Laws.{instantiated_well_formed, instantiated_closed}
use Rattle.fst_lts.specs.Step.{step, labels, choice_labels, terminated}
use Rattle.fst_lts.specs.Dual.{dual}
use Rattle.fst_lts.proofs.Laws.{labels_are_moves, dual-dual}
use Rattle.fst_instances.proofs.Laws.{leading, leading_moves, instantiated_terminated, terminated_kept, instantiated-dual, instances_equal}
use Rattle.fst_terms.specs.declared.term.Op.{Op}
use Rattle.fst_terms.specs.declared.term.Op.TheVariants.{Add, Subtract, Multiply, Equal, Unequal, Less, AtMost, Greater, AtLeast, And, Or}
use Rattle.fst_derivations.specs.Deriv.{Deriv, type_of}
use Rattle.fst_derivations.specs.Parts.{IsFormed, IsConversion, IsOffering, IsComparable}
use Rattle.fst_derivations.specs.Rules.{Converted, itself, turned, Operates}
use Rattle.fst_safety.specs.Running.{Equals}
use Rattle.fst_safety.proofs.Equals.{equals_itself, equals_through}

-- ---- well-formed types and conversions

module _ (vars : List Kind) (args : List Tree) (i : IsInstantiation [] vars args) where
  -- a closed instance of a well-formed type is well formed
  pub formed_in : (t : Tree) → IsFormed vars t → IsFormed [] (instantiated args t)
  formed_in t f = let r = instantiated_well_formed [] vars args t f.0 i f.1 in (r.kind, r.well_formed)

  -- a conversion stays one
  pub converts_in : (s t : Tree) → IsConversion vars s t → Equals (instantiated args s) (instantiated args t)
  converts_in s t e = record {
    left = formed_in s e.left;
    right = formed_in t e.right;
    equal =
        instances_equal [] vars args i e.equal;
  }

  -- below conversions stands a term of an equal type
  pub converted_in : (d c : Deriv) → IsFormed vars (type_of c) → Converted (IsConversion vars) d c →
      Equals (instantiated args (type_of c)) (instantiated args (type_of d))
  converted_in d c f (itself h) = subst (λ z. Equals (instantiated args (type_of c)) (instantiated args (type_of z))) (sym h)
      (equals_itself (instantiated args (type_of c)) (formed_in (type_of c) f))
  converted_in _ c f (turned {s} {t} {d} x h y) =
      equals_through (converted_in d c f y) (subst
      (λ z. Equals (instantiated args z) (instantiated args t)) (sym h) (converts_in s t x))

-- ---- closed types

-- a well-formed closed type is its own instance
pub closed_in : (args : List Tree) (t : Tree) → IsFormed [] t → instantiated args t ≡ t
closed_in args t f = instantiated_closed args t f.0 f.1.kinded

-- so are such types
pub all_closed_in : (args ts : List Tree) → AllByRecursion (IsFormed []) ts → map (instantiated args) ts ≡ ts
all_closed_in args [] h = refl
all_closed_in args (t ∷ ts) h = λ i. closed_in args t h.0 i ∷ all_closed_in args ts h.1 i

twice_dual : (args : List Tree) → map dual (map dual args) ≡ args
twice_dual [] = refl
twice_dual (t ∷ args) = λ i. dual-dual t i ∷ twice_dual args i

-- and the dual of a closed session type
pub dual_in : (args : List Tree) (s : Tree) → IsSession [] s → instantiated args (dual s) ≡ dual s
dual_in args s w =
    ap (λ z. instantiated z (dual s)) (sym (twice_dual args)) ∙ instantiated-dual (map dual args) s
    ∙ ap dual (instantiated_closed (map dual args) s (session w.0) w.1.kinded)

-- ---- operands

comparable_in : (args : List Tree) (t : Tree) → IsComparable t → IsComparable (instantiated args t)
comparable_in args t (inl e) = inl (ap (instantiated args) e)
comparable_in args t (inr e) = inr (ap (instantiated args) e)

-- the types of operands and of a sign's result are their own instances
pub operates_in : (args : List Tree) (o : Op) (s t : Tree) → Operates o s t →
    Operates o (instantiated args s) (instantiated args t)
operates_in args Add s t h = (ap (instantiated args) h.0, ap (instantiated args) h.1)
operates_in args Subtract s t h = (ap (instantiated args) h.0, ap (instantiated args) h.1)
operates_in args Multiply s t h = (ap (instantiated args) h.0, ap (instantiated args) h.1)
operates_in args Equal s t h = (comparable_in args s h.0, ap (instantiated args) h.1)
operates_in args Unequal s t h = (comparable_in args s h.0, ap (instantiated args) h.1)
operates_in args Less s t h = (comparable_in args s h.0, ap (instantiated args) h.1)
operates_in args AtMost s t h = (comparable_in args s h.0, ap (instantiated args) h.1)
operates_in args Greater s t h = (comparable_in args s h.0, ap (instantiated args) h.1)
operates_in args AtLeast s t h = (comparable_in args s h.0, ap (instantiated args) h.1)
operates_in args And s t h = (ap (instantiated args) h.0, ap (instantiated args) h.1)
operates_in args Or s t h = (ap (instantiated args) h.0, ap (instantiated args) h.1)

-- ---- offers

choices_in : (make : List ℕ → Label) (args : List Tree) (bs : Branches) →
    choice_labels make (instantiated_all args bs) ≡ choice_labels make bs
choices_in make args none = refl
choices_in make args (branch l s bs) = ap (λ z. make l ∷ z) (choices_in make args bs)

-- where no variable leads a type, its instance moves by the same labels
pub labels_in : (args : List Tree) (s : Tree) → leading s ≡ None → labels (instantiated args s) ≡ labels s
labels_in args skip e = refl
labels_in args (send b) e = refl
labels_in args (receive b) e = refl
labels_in args close e = refl
labels_in args wait e = refl
labels_in args (select bs) e = choices_in label.Select args bs
labels_in args (offer bs) e = choices_in label.Offer args bs
labels_in args (seq s r) e = pick (labels_in args s) (labels_in args r) (terminated s) refl e
  where
    pick : (leading s ≡ None → labels (instantiated args s) ≡ labels s) →
        (leading r ≡ None → labels (instantiated args r) ≡ labels r) → (c : Bool) → terminated s ≡ c →
        (if c then leading r else leading s) ≡ None →
        (if terminated (instantiated args s) then labels (instantiated args r) else labels (instantiated args s))
        ≡ (if terminated s then labels r else labels s)
    pick front behind true is e =
        ap (λ c. if c then labels (instantiated args r) else labels (instantiated args s)) (instantiated_terminated args s is)
        ∙ behind e ∙ sym (ap (λ c. if c then labels r else labels s) is)
    pick front behind false is e =
        ap (λ c. if c then labels (instantiated args r) else labels (instantiated args s)) (terminated_kept args s e ∙ is)
        ∙ front e ∙ sym (ap (λ c. if c then labels r else labels s) is)
labels_in args (rec s) e = labels_in args s e
labels_in args (back k) e = refl
labels_in args (var k) e = absurd (cc e)
labels_in args (plain b) e = refl
labels_in args (arrow u s r) e = refl
labels_in args (pair s r) e = refl
labels_in args (named k) e = refl

no_variable_offered : (names : List (List ℕ)) (k : ℕ) → Contains (map label.Offer names) (label.Var k) → ⊥
no_variable_offered [] k (j, lt, e) = absurd (omega (arith, lt))
no_variable_offered (l ∷ names) k (zero, lt, e) = cc e
no_variable_offered (l ∷ names) k (suc j, lt, e) = no_variable_offered names k (j, omega (arith, lt), e)

unled_offering : (s : Tree) (names : List (List ℕ)) → labels s ≡ map label.Offer names → leading s ≡ None
unled_offering s names h = pick (leading s) refl
  where
    there : (t : Tree) (k : ℕ) → step s (label.Var k) ≡ Some t → IsSome (step s (label.Var k))
    there t k e = subst (λ o. IsSome o) (sym e) refl

    pick : (o : Option ℕ) → leading s ≡ o → leading s ≡ None
    pick None is = is
    pick (Some k) is =
        let m = leading_moves [] s k is in
        absurd (no_variable_offered names k (subst (λ z. Contains z (label.Var k)) h
        ((labels_are_moves s (label.Var k)).1 (there m.0 k m.1))))

-- an instance of an offered choice offers the same labels
pub offering_in : (args : List Tree) (s : Tree) (names : List (List ℕ)) → IsOffering s names →
    IsOffering (instantiated args s) names
offering_in args s names o = record { labels = labels_in args s (unled_offering s names o.labels) ∙ o.labels; some = o.some }
