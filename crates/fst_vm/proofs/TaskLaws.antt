-- What tasks promise, by the states that their code stands for.
use Rattle.std.proofs.Common.{◌≡◌, ◌∙◌, ◌<◌, ℕ, zero, suc, Bool, true, false, Option, Some, None, List, [], ◌∷◌, ◌++◌, length, refl, sym, ap, subst}
use Rattle.std.specs.Prelude.{IsSome, MatchOption, is_some}
use Rattle.std.specs.declared.result.Result.TheVariants.{Ok}
use Rattle.std.proofs.lemmas.Option.{none-some, same_Some}
use Rattle.std.proofs.Math.Logic.{∥∥₁_elim, ∥∥₁_map}
use Rattle.std.proofs.Math.Bridge.{le_prop}
use mathlib.Core.HLevel.{⊥_prop}
use Rattle.std.proofs.Math.Bool.{Bool-set}
use Rattle.fst_types.specs.declared.family.Family.{Family}
use Rattle.fst_terms.specs.declared.core_module.Module.{Module}
use Rattle.fst_value.specs.ValueTree.{ValueTree}
use Rattle.fst_value.specs.Stacks.{Makes}
use Rattle.fst_machine.specs.declared.code.Code.{Code}
use Rattle.fst_machine.specs.declared.request.Request.{Request}
use Rattle.fst_machine.specs.declared.request.Answer.{Answer}
use Rattle.fst_machine.specs.declared.request.Answer.TheVariants.{Forked}
use Rattle.fst_machine.specs.Machine.{State, Pause, begins, pause, stuck, asked, request, child}
use Rattle.fst_machine.specs.Code.{Compiled}
use Rattle.fst_machine.specs.Programs.{bodies}
use Rattle.fst_machine.specs.Spots.{Spot, begins_at, inner, asked_at, told_at, child_at}
use Rattle.fst_machine.specs.Standing.{AreAlike, Means, Stands, GoesDown}
use Rattle.fst_machine.proofs.Laws.{inner_stands, asks_alike, child_stands, ended_means, main_stands, makers_apart, told_on, forks_child}
use Rattle.fst_vm.specs.TaskView.{TaskView}
use Rattle.fst_vm.specs.Running.{ComesTo, code_of}
use Rattle.fst_vm.specs.Running as running
use Rattle.fst_vm.specs.Tasks.{Forks, GoesOn, HasNext, IsAtRest, IsChild, IsFrom, IsIn, IsResult, IsStart, Stays, Takes, forked_after}
use Rattle.fst_vm.specs.Tasks as tasks

-- on the way the code stands for the same
on_the_way : (c : Compiled) (s t : Spot) (q : Pause) → ComesTo c s t → Stands c s q → Stands c t q
on_the_way c s t q running.here h = h
on_the_way c s t q (running.next e w) h = on_the_way c _ t q w (inner_stands c s _ q h e)

-- what is none is none where only that much is known
none_is : {X : Type 0} (o : Option X) → ∥ o ≡ None ∥₁ → o ≡ None
none_is None h = refl
none_is (Some x) h = absurd (∥∥₁_elim h ⊥_prop (λ e. none-some x (sym e)))

-- so it is of rest
pub rests_where : (k : Code) (t : TaskView) → ∥ IsAtRest k t ∥₁ → IsAtRest k t
rests_where k t h fs = none_is (inner (code_of fs k) t.spot) (∥∥₁_map h (λ r. r fs))

-- so it is of how many tasks there are
pub few_forked : (k : Code) (t : TaskView) (n : ℕ) → n ≡ t.forked → ∥ Forks k t ∥₁ → n < 4294967295
few_forked k t n e h = ∥∥₁_elim h le_prop (λ f. subst (λ (m : ℕ). m < 4294967295) (sym e) f.few)

pub few_answered : (k : Code) (t : TaskView) (a : Answer) (n : ℕ) → n ≡ t.forked → ∥ Takes k t a ∥₁ → a ≡ Forked → n < 4294967295
few_answered k t a n e h w = ∥∥₁_elim h le_prop (λ f. subst (λ (m : ℕ). m < 4294967295) (sym e) (f.few w))

-- code that goes down does so whatever the data types
all_down : (m : Module) (k : Code) → IsFrom m k → (fs : List Family) → GoesDown (code_of fs k)
all_down m k from fs i j a at = from.down i j a (record { place = at.place; there = at.there })

pub down_where : (k : Code) (t : TaskView) → ∥ HasNext k t ∥₁ → ∥ ((fs : List Family) → GoesDown (code_of fs k)) ∥₁
down_where k t h = ∥∥₁_map h (λ n. all_down n.source k n.from)

-- the main task begins
pub main_begins : (k : Code) (t : TaskView) → t.path ≡ zero ∷ [] → t.forked ≡ zero → t.ready ≡ false →
    t.spot ≡ begins_at (length k.code.items) [] →
    IsStart k t
main_begins k t p f b s =
    record {
      path = p;
      forked = f;
      ready = b;
      begun = λ m e from main.
          subst (λ z. Stands (code_of m.families.items k) z (pause m.families.items (begins e []))) (sym s)
          (main_stands m k.code.items k.lambdas.items k.globals.items k.types.items from e main);
    }

-- on its way a task stays in the state in which it is
pub stays : (k : Code) (path : List ℕ) (forked : ℕ) (s r : Spot) (b d : Bool) (t : TaskView) →
    record { path = path; forked = forked; spot = s; ready = b } ≡ t →
    ((fs : List Family) → ComesTo (code_of fs k) s r) → Stays k t (record { path = path; forked = forked; spot = r; ready = d })
stays k path forked s r b d t v w =
    subst (λ z. Stays k z (record { path = path; forked = forked; spot = r; ready = d })) v
    (record {
      path = refl;
      forked = refl;
      states =
          λ m q h. on_the_way (code_of m.families.items k) s r (pause m.families.items q) (w m.families.items) h;
    })

-- where no step is left it asks for what its state asks for
pub asks_for : (k : Code) (t u : TaskView) (o : Option Request) → Stays k t u → IsAtRest k u →
    ((fs : List Family) → o ≡ asked_at (code_of fs k) u.spot) →
    (m : Module) (s : State) → IsIn m k t s → (pause m.families.items s ≡ stuck → ⊥) → request m.families.items s ≡ o
asks_for k t u o st r a m s h g =
    sym (a m.families.items ∙ asks_alike (code_of m.families.items k) u.spot (pause m.families.items s) (st.states m s h)
    (r m.families.items) g)

-- a state that has a next request isn't stuck
asked_on : (q : Pause) (r : Request) → asked q ≡ Some r → q ≡ stuck → ⊥
asked_on q r h e = none-some r (sym (ap asked e) ∙ h)

next_asked : (k : Code) (t u : TaskView) (o : Option Request) → Stays k t u → IsAtRest k u →
    ((fs : List Family) → o ≡ asked_at (code_of fs k) u.spot) → HasNext k t → IsSome o
next_asked k t u o st r a h =
    let g = asked_on (pause h.source.families.items h.state) h.next.0 h.next.1 in
    ap is_some (sym (asks_for k t u o st r a h.source h.state h.is_in g) ∙ h.next.1)

-- so there is a request
pub request_there : (k : Code) (t u : TaskView) (o : Option Request) → Stays k t u → IsAtRest k u →
    ((fs : List Family) → o ≡ asked_at (code_of fs k) u.spot) → ∥ HasNext k t ∥₁ → IsSome o
request_there k t u o st r a h = ∥∥₁_elim h (Bool-set (is_some o) true) (next_asked k t u o st r a)

-- what a step comes to that was made
pub made_on : {X : Type 0} (f : X → Option X) (old new x : X) (done : Bool) → Makes f old (Ok done) new → f old ≡ Some x → x ≡ new
made_on f old new x true m e = same_Some x new (sym e ∙ m)
made_on f old new x false m e = absurd (none-some x (sym m.0 ∙ e))

-- a task goes on after an answer
pub goes_on : (k : Code) (path : List ℕ) (forked after : ℕ) (s r : Spot) (ready : Bool) (t : TaskView) (a : Answer)
    (done : Bool) → record { path = path; forked = forked; spot = s; ready = ready } ≡ t →
    after ≡ forked_after a forked → IsAtRest k t → ((fs : List Family) → Makes (λ z. told_at (code_of fs k) z a) s (Ok done) r) →
    GoesOn k t a (record { path = path; forked = after; spot = r; ready = false })
goes_on k path forked after s r ready t a done v f rest w =
    record {
      path = ap (λ z. z.path) v;
      forked = f ∙ ap (λ z. forked_after a z.forked) v;
      ready = refl;
      states = λ m b next from h told g.
          let c = code_of m.families.items k in
          let on = told_on m k.code.items k.lambdas.items k.globals.items k.types.items from t.spot
          (pause m.families.items b) a next h (rest m.families.items) told g in
          subst (λ z. Stands c z (pause m.families.items next))
          (made_on (λ z. told_at c z a) s r on.0 done (w m.families.items) (ap (λ z. told_at c z.spot a) v ∙ on.1)) on.2;
    }

-- the code of the task that a fork makes
child_for : (k : Code) (t : TaskView) (m : Module) (s b : State) → IsFrom m k → IsIn m k t s → IsAtRest k t →
    child (pause m.families.items s) ≡ Some b →
    (v : Spot) × (child_at (code_of m.families.items k) t.spot ≡ Some v) ×
    AreAlike (code_of m.families.items k) v.slots b.environment ×
    Stands (code_of m.families.items k) v (pause m.families.items b)
child_for k t m s b from h r e =
    child_stands (code_of m.families.items k) (bodies m.globals.items) from.stands (makers_apart m) t.spot
    (pause m.families.items s) b h (r m.families.items) e

-- where a fork is asked for there is such code
pub child_there : (k : Code) (t : TaskView) (o : Option Spot) →
    ((fs : List Family) → o ≡ child_at (code_of fs k) t.spot) → ∥ Forks k t ∥₁ → IsSome o
child_there k t o w h =
    ∥∥₁_elim h (Bool-set (is_some o) true)
    (λ f.
    let b = forks_child (pause f.source.families.items f.state) f.asks in
    ap is_some (w f.source.families.items ∙ (child_for k t f.source f.state b.0 f.from f.is_in f.rests b.1).1))

-- a task whose code that is
pub child_made : (k : Code) (t u : TaskView) → u.path ≡ t.path ++ suc t.forked ∷ [] → u.forked ≡ zero → u.ready ≡ false →
    ((fs : List Family) → Some u.spot ≡ child_at (code_of fs k) t.spot) → IsAtRest k t →
    IsChild k t u
child_made k t u p f b w r =
    record {
      path = p;
      forked = f;
      ready = b;
      states = λ m s b from h e. subst (λ z. Stands (code_of m.families.items k) z (pause m.families.items b))
          (same m s b from h e) (child_for k t m s b from h r e).3;
      alike = λ m s b from h e. subst (λ z. AreAlike (code_of m.families.items k) z.slots b.environment) (same m s b from h e)
          (child_for k t m s b from h r e).2;
    }
  where
    same : (m : Module) (s b : State) (from : IsFrom m k) (h : IsIn m k t s) (e : child (pause m.families.items s) ≡ Some b) →
        (child_for k t m s b from h r e).0 ≡ u.spot
    same m s b from h e = let v = child_for k t m s b from h r e in same_Some v.0 u.spot (sym v.1 ∙ sym (w m.families.items))

-- a task that has ended has a value
pub value_there : (t : TaskView) (o : Option ValueTree) (ops new : List ValueTree) → t.spot.operands ≡ ops →
    ∥ tasks.HasEnded t ∥₁ → MatchOption o ((ops ≡ []) × (new ≡ [])) (λ x. ops ≡ x ∷ new) →
    IsSome o
value_there t (Some x) ops new e h m = refl
value_there t None ops new e h m =
    absurd
    (∥∥₁_elim h ⊥_prop
    (λ d.
    let c = code_of d.source.families.items d.code in
    let v = ended_means c t.spot d.value (subst (λ q. Stands c t.spot q) d.ends d.is_in) (d.rests d.source.families.items) in
    cc (sym v.1 ∙ e ∙ m.0)))

-- and it is the one that is taken off
pub value_is : (t : TaskView) (x : ValueTree) (ops new : List ValueTree) → t.spot.operands ≡ ops → ops ≡ x ∷ new → IsResult t x
value_is t x ops new e m k c s v r h w =
    let code = code_of k.families.items c in
    let u = ended_means code t.spot v (subst (λ q. Stands code t.spot q) w h) (r k.families.items) in
    let same : u.0 ≡ x = cc (sym u.1 ∙ e ∙ m) in
    subst (λ z. Means code z v) same u.2
