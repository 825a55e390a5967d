-- An instance of a well-formed type is well formed; instantiations compose.
use Rattle.std.proofs.Common.{◌≡◌, ℕ, zero, suc, List, [], ◌∷◌, Some, true, map, refl, sym, ap, subst}
use Rattle.std.specs.Prelude.{◌&&◌, slice_get, unwrap_or}
use Rattle.std.proofs.lemmas.Bool.{and_parts}
use Rattle.fst_types.specs.Tree.{Tree, skip, send, receive, close, wait, select, offer, seq, rec, back, var, plain, arrow, pair, named, Branches, none, branch}
use Rattle.fst_types.specs.declared.kind.Kind.{Kind}
use Rattle.fst_types.specs.declared.kind.Prekind.{Prekind}
use Rattle.fst_types.specs.declared.kind.Prekind.TheVariants.{Session, Top}
use Rattle.fst_types.specs.declared.kind.Use.{Use}
use Rattle.fst_types.specs.declared.kind.Use.TheVariants.{Many, Once}
use Rattle.fst_types.specs.Order.{IsOrdered}
use Rattle.fst_types.specs.Scoped.{IsScoped}
use Rattle.fst_types.specs.Instance.{argument, instantiated, instantiated_all, ArgumentsHave}
use Rattle.fst_types.proofs.Laws.{instantiated_scoped, instantiated_ordered}
use Rattle.fst_kinds.specs.Kinds.{session, subkind, prekind_below, use_below, HasKind, AllSessions}
use Rattle.fst_kinds.specs.Contractive.{IsContractive}
use Rattle.fst_kinds.specs.WellFormed.{IsWellFormed, IsSession, IsInstance, IsInstantiation}
use Rattle.fst_kinds.proofs.InstanceKinds.{put_at, put_have, session_within, instantiated_kind}
use Rattle.fst_kinds.proofs.InstanceGuards.{instantiated_contractive}

-- what an instantiation puts for variables has no free recursion variables
pub put_scoped : (outer vars : List Kind) (args : List Tree) → IsInstantiation outer vars args → ArgumentsHave (IsScoped 0) args
put_scoped outer vars args c = put_have (IsScoped 0) outer vars args (λ k. tt) (λ t i w. w.scoped) c

-- an instance of a well-formed type is well formed, of a kind below that of the type
pub instantiated_well_formed : (outer vars : List Kind) (args : List Tree) (t : Tree) (k : Kind) →
    IsInstantiation outer vars args → IsWellFormed vars t k → IsInstance outer k (instantiated args t)
instantiated_well_formed outer vars args t k c w =
    let found = instantiated_kind outer vars args t k c w.kinded in
    let ok = put_scoped outer vars args c in
    record {
      kind = found.0;
      well_formed = record {
        kinded = found.1;
        contractive = instantiated_contractive args t ok
            (put_have IsContractive outer vars args (λ n. tt) (λ x i v. v.contractive) c) w.contractive;
        scoped = instantiated_scoped 0 args t ok w.scoped;
        ordered = instantiated_ordered args t (put_have IsOrdered outer vars args (λ n. tt) (λ x i v. v.ordered) c) w.ordered;
      };
      below = found.2;
    }

-- an instance of a session type is a session type
pub instantiated_session : (outer vars : List Kind) (args : List Tree) (s : Tree) → IsInstantiation outer vars args →
    IsSession vars s → IsSession outer (instantiated args s)
instantiated_session outer vars args s c h =
    let found = instantiated_well_formed outer vars args s (session h.0) c h.1 in (
      found.kind.uses,
      subst (λ k. IsWellFormed outer (instantiated args s) k)
          (session_within found.kind h.0 found.below).0 found.well_formed,
    )

mutual
  -- an instance of a type without variables is the type
  pub instantiated_closed : (args : List Tree) (t : Tree) (k : Kind) → HasKind [] t k → instantiated args t ≡ t
  instantiated_closed args skip k h = refl
  instantiated_closed args (send b) k h = refl
  instantiated_closed args (receive b) k h = refl
  instantiated_closed args close k h = refl
  instantiated_closed args wait k h = refl
  instantiated_closed args (select bs) k h = ap select (instantiated_all_closed args bs h.0)
  instantiated_closed args (offer bs) k h = ap offer (instantiated_all_closed args bs h.0)
  instantiated_closed args (seq s r) k h = λ i. seq (instantiated_closed args s (session h.0) h.2 i)
      (instantiated_closed args r (session h.1) h.3 i)
  instantiated_closed args (rec s) k h = ap rec (instantiated_closed args s k h.0)
  instantiated_closed args (back n) k h = refl
  instantiated_closed args (var n) k h = absurd (cc h)
  instantiated_closed args (plain b) k h = refl
  instantiated_closed args (arrow u s r) k h = λ i. arrow u (instantiated_closed args s h.0.0 h.0.1 i)
      (instantiated_closed args r h.1.0 h.1.1 i)
  instantiated_closed args (pair s r) k h = λ i. pair (instantiated_closed args s h.0 h.2 i)
      (instantiated_closed args r h.1 h.3 i)
  instantiated_closed args (named n) k h = refl

  instantiated_all_closed : (args : List Tree) (bs : Branches) → AllSessions [] bs → instantiated_all args bs ≡ bs
  instantiated_all_closed args none h = refl
  instantiated_all_closed args (branch l s bs) h =
      λ i. branch l (instantiated_closed args s (session h.0.0) h.0.1 i) (instantiated_all_closed args bs h.1 i)

get_map : (f : Tree → Tree) (args : List Tree) (n : ℕ) (t : Tree) → slice_get args n ≡ Some t →
    slice_get (map f args) n ≡ Some (f t)
get_map f [] n t e = absurd (cc e)
get_map f (x ∷ args) zero t e =
    let is : x ≡ t = cc in
    ap (λ y. Some (f y)) is
get_map f (x ∷ args) (suc n) t e = get_map f args n t e

module _ (more : List Tree) (outer vars : List Kind) (args : List Tree) (c : IsInstantiation outer vars args) where
  mutual
    -- instantiating an instance is instantiating by the instances of what was put
    pub instantiated_again : (t : Tree) (k : Kind) → HasKind vars t k →
        instantiated more (instantiated args t) ≡ instantiated (map (instantiated more) args) t
    instantiated_again skip k h = refl
    instantiated_again (send b) k h = refl
    instantiated_again (receive b) k h = refl
    instantiated_again close k h = refl
    instantiated_again wait k h = refl
    instantiated_again (select bs) k h = ap select (instantiated_all_again bs h.0)
    instantiated_again (offer bs) k h = ap offer (instantiated_all_again bs h.0)
    instantiated_again (seq s r) k h = λ i. seq (instantiated_again s (session h.0) h.2 i)
        (instantiated_again r (session h.1) h.3 i)
    instantiated_again (rec s) k h = ap rec (instantiated_again s k h.0)
    instantiated_again (back n) k h = refl
    instantiated_again (var n) k h =
        let found = put_at outer vars args n k c h in
        let once : argument args n ≡ found.0 = ap (λ o. unwrap_or o (var n)) found.1 in
        let both : argument (map (instantiated more) args) n ≡ instantiated more found.0 = ap
        (λ o. unwrap_or o (var n)) (get_map (instantiated more) args n found.0 found.1) in
        subst (λ y. instantiated more (argument args n) ≡ y) (sym both) (ap (instantiated more) once)
    instantiated_again (plain b) k h = refl
    instantiated_again (arrow u s r) k h = λ i. arrow u (instantiated_again s h.0.0 h.0.1 i) (instantiated_again r h.1.0 h.1.1 i)
    instantiated_again (pair s r) k h = λ i. pair (instantiated_again s h.0 h.2 i) (instantiated_again r h.1 h.3 i)
    instantiated_again (named n) k h = refl

    instantiated_all_again : (bs : Branches) → AllSessions vars bs →
        instantiated_all more (instantiated_all args bs) ≡ instantiated_all (map (instantiated more) args) bs
    instantiated_all_again none h = refl
    instantiated_all_again (branch l s bs) h = λ i. branch l (instantiated_again s (session h.0.0) h.0.1 i)
        (instantiated_all_again bs h.1 i)

prekind_through : (p q o : Prekind) → prekind_below p q ≡ true → prekind_below q o ≡ true → prekind_below p o ≡ true
prekind_through Session q o e f = refl
prekind_through Top Session o e f = absurd (cc e)
prekind_through Top Top o e f = f

use_through : (u v w : Use) → use_below u v ≡ true → use_below v w ≡ true → use_below u w ≡ true
use_through Many v w e f = refl
use_through Once Many w e f = absurd (cc e)
use_through Once Once w e f = f

-- a kind below one that is below a third is below the third
pub subkind_through : (i j k : Kind) → subkind i j ≡ true → subkind j k ≡ true → subkind i k ≡ true
subkind_through i j k e f =
    let first = and_parts (prekind_below i.prekind j.prekind) (use_below i.uses j.uses) e in
    let second = and_parts (prekind_below j.prekind k.prekind) (use_below j.uses k.uses) f in
    λ x. prekind_through i.prekind j.prekind k.prekind first.0 second.0 x && use_through i.uses j.uses k.uses first.1 second.1 x

-- instantiating what an instantiation puts gives an instantiation
pub instantiation_again : (last outer : List Kind) (more : List Tree) → IsInstantiation last outer more →
    (vars : List Kind) (args : List Tree) → IsInstantiation outer vars args →
    IsInstantiation last vars (map (instantiated more) args)
instantiation_again last outer more d [] [] c = tt
instantiation_again last outer more d [] (t ∷ args) c = absurd c
instantiation_again last outer more d (k ∷ vars) [] c = absurd c
instantiation_again last outer more d (k ∷ vars) (t ∷ args) c =
    let found = instantiated_well_formed last outer more t c.0.kind d c.0.well_formed in
    let below = subkind_through found.kind c.0.kind k found.below c.0.below in (
      record { kind = found.kind; well_formed = found.well_formed; below = below },
      instantiation_again last outer more d vars args c.1,
    )
