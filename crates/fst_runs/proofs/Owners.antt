-- Which task holds an end: one that asks at it holds it, and one alone.
use Rattle.std.proofs.Common.{◌≡◌, ◌∙◌, Bool, true, false, Option, Some, refl, sym, ap, subst, arith}
use Rattle.std.proofs.lemmas.Option.{none-some, same_Some}
use Rattle.fst_types.specs.Tree.{Tree}
use Rattle.fst_types.specs.declared.ends.EndName.{EndName}
use Rattle.fst_machine.specs.declared.request.Request.{Request}
use Rattle.fst_machine.specs.declared.request.Request.TheVariants as request
use Rattle.fst_machine.specs.Values as value
use Rattle.fst_machine.specs.Machine.{Pause, asked}
use Rattle.fst_lts.specs.Histories.{sending}
use Rattle.fst_lts.proofs.Laws.{moving}
use Rattle.fst_runs.specs.Configs.{Path, Task, Config, same_path}
use Rattle.fst_runs.specs.Wrong.{once, held, held_state, held_pause, amount, IsUnspent, IsOwned, IsAllowed, end_of}
use Rattle.fst_runs.proofs.Asked.{put_pause, get_pause}
use Rattle.fst_runs.proofs.NameLaws.{same_path-same, same_end-itself}

-- an end stands once in itself
pub own_once : (y : EndName) → held y (value.end y) ≡ 1
own_once y = ap once (same_end-itself y)

-- the task that holds an end which one task alone holds holds it once, and no other does
pub owner : (c : Config) (x : EndName) (p : Path) (t : Task) → IsOwned c x → c.tasks p ≡ Some t → (held_state x t.state ≡ 0 → ⊥) →
    (held_state x t.state ≡ 1) × ((q : Path) → same_path p q ≡ false → amount x (c.tasks q) ≡ 0)
owner c x p t o e n = pick (same_path o.0 p) refl
  where
    pick : (b : Bool) → same_path o.0 p ≡ b → (held_state x t.state ≡ 1) ×
        ((q : Path) → same_path p q ≡ false → amount x (c.tasks q) ≡ 0)
    pick true s =
        let q : o.0 ≡ p = same_path-same o.0 p s in
        (sym (ap (λ z. amount x z) (ap c.tasks q ∙ e)) ∙ o.1, λ z f. o.2 z (ap (λ y. same_path y z) q ∙ f))
    pick false s = absurd (n (sym (ap (λ z. amount x z) e) ∙ o.2 p s))

-- an end at which a request is allowed isn't spent
pub allowed_unspent : (r : EndName → Option Tree) (q : Request) (x : EndName) → end_of q ≡ Some x → IsAllowed r q → IsUnspent r x
allowed_unspent r request.Step x n f = absurd (none-some x n)
allowed_unspent r (request.New k) x n f = absurd (none-some x n)
allowed_unspent r request.Fork x n f = absurd (none-some x n)
allowed_unspent r (request.Put y ev) x n f = subst (IsUnspent r) (same_Some y x n) (f.0, f.2, moving f.0 f.1 (sending ev) f.3)
allowed_unspent r (request.Get y) x n f = subst (IsUnspent r) (same_Some y x n) (f.0, f.3, moving f.0 f.2 f.1 f.5)
allowed_unspent r request.Ended x n f = absurd (none-some x n)

-- who asks at an end holds it
pub asks_held : (p : Pause) (q : Request) (x : EndName) → end_of q ≡ Some x → asked p ≡ Some q → held_pause x p ≡ 0 → ⊥
asks_held p request.Step x n e z = absurd (none-some x n)
asks_held p (request.New k) x n e z = absurd (none-some x n)
asks_held p request.Fork x n e z = absurd (none-some x n)
asks_held p (request.Put y ev) x n e z =
    (put_pause (λ w. held_pause y w ≡ 0 → ⊥) p y ev e
    (λ fs f. let o = own_once y in omega (arith, f, o))
    (λ fs c f. let o = own_once y in omega (arith, f, o))) (ap (λ o. held_pause o p) (same_Some y x n) ∙ z)
asks_held p (request.Get y) x n e z =
    (get_pause (λ w. held_pause y w ≡ 0 → ⊥) p y e
    (λ fs f. let o = own_once y in omega (arith, f, o))
    (λ fs f. let o = own_once y in omega (arith, f, o))
    (λ bs env fs f. let o = own_once y in omega (arith, f, o))) (ap (λ o. held_pause o p) (same_Some y x n) ∙ z)
asks_held p request.Ended x n e z = absurd (none-some x n)
