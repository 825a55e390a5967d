-- What keeps that a type has a text: instances, the other side, moves, and what arms bind.
use Rattle.std.specs.Prelude.{option_map, unwrap_or, if◌then◌else◌}
use Rattle.std.proofs.Common.{◌≡◌, ℕ, zero, suc, Bool, true, false, List, [], ◌∷◌, Option, Some, None, length, slice_get, sym, subst}
use Rattle.std.proofs.lemmas.Option.{slice_get_within}
use Rattle.std.specs.List.{AllByRecursion}
use Rattle.fst_base.proofs.Options.{mapped_some}
use Rattle.fst_types.specs.Tree.{Tree, skip, send, receive, close, wait, select, offer, seq, rec, back, var, plain, arrow, pair, named, Branches, none, branch}
use Rattle.fst_types.specs.Instance.{instantiated, instantiated_all, ArgumentsHave}
use Rattle.fst_types.specs.Named.{IsNamedWithin, AllNamedWithin}
use Rattle.fst_types.specs.Order.{same_label}
use Rattle.fst_types.specs.Scoped.{IsScoped, AllScoped}
use Rattle.fst_types.specs.Substitution.{substitute, substitute_all, EnvHas, AllClosed}
use Rattle.fst_types.specs.declared.base.Base.{Base}
use Rattle.fst_types.specs.declared.family.Family.{Family}
use Rattle.fst_types.specs.declared.kind.Kind.{Kind}
use Rattle.fst_types.specs.declared.kind.Use.{Use}
use Rattle.fst_types.specs.declared.label.Label.{Label}
use Rattle.fst_types.specs.declared.label.Label.TheVariants.{Send, Receive, Select, Offer, Close, Wait, Var}
use Rattle.fst_types.proofs.Laws.{variable_has, substitute_scoped, instantiated_scoped}
use Rattle.fst_lts.specs.Dual.{dual, dual_all}
use Rattle.fst_lts.proofs.Laws.{dual_scoped}
use Rattle.fst_lts.specs.Step.{terminated, branch_at, is_end, followed, step_in, step}
use Rattle.fst_context.specs.Scope.{Variable}
use Rattle.fst_derivations.specs.Parts.{AreAt, AreVariables, enter_all}
use Rattle.fst_derivations.specs.Rules.{Surroundings, Binding, fields, rest, Binds}
use Rattle.fst_derivations.specs.Texts.{HasText, AllHaveText, VariablesHaveText, BindingHasText}

-- what holds of each element holds of the one at a place
pub all_at : {X : Type 0} (P : X → Type 0) (xs : List X) (k : ℕ) (x : X) → AllByRecursion P xs → slice_get xs k ≡ Some x → P x
all_at P [] zero x h e = absurd (cc e)
all_at P [] (suc k) x h e = absurd (cc e)
all_at P (y ∷ xs) zero x h e = let same : y ≡ x = cc in subst P same h.0
all_at P (y ∷ xs) (suc k) x h e = all_at P xs k x h.1 e

-- the types with some numbers have texts
pub at_texts : (n : ℕ) (types : List Tree) (ks : List ℕ) (ts : List Tree) → AllHaveText n types → AreAt types ks ts →
    AllHaveText n ts
at_texts n types [] [] h a = tt
at_texts n types [] (t ∷ ts) h a = absurd a
at_texts n types (k ∷ ks) [] h a = absurd a
at_texts n types (k ∷ ks) (t ∷ ts) h a = (all_at (HasText n) types k t h a.0, at_texts n types ks ts h a.1)

-- ---- instances

mutual
  instantiated_named : (n : ℕ) (args : List Tree) (s : Tree) → ArgumentsHave (IsNamedWithin n) args → IsNamedWithin n s →
      IsNamedWithin n (instantiated args s)
  instantiated_named n args skip p h = tt
  instantiated_named n args (send b) p h = tt
  instantiated_named n args (receive b) p h = tt
  instantiated_named n args close p h = tt
  instantiated_named n args wait p h = tt
  instantiated_named n args (select bs) p h = instantiated_all_named n args bs p h
  instantiated_named n args (offer bs) p h = instantiated_all_named n args bs p h
  instantiated_named n args (seq s r) p h = (instantiated_named n args s p h.0, instantiated_named n args r p h.1)
  instantiated_named n args (rec s) p h = instantiated_named n args s p h
  instantiated_named n args (back k) p h = tt
  instantiated_named n args (var k) p h = p k
  instantiated_named n args (plain b) p h = tt
  instantiated_named n args (arrow u s r) p h = (instantiated_named n args s p h.0, instantiated_named n args r p h.1)
  instantiated_named n args (pair s r) p h = (instantiated_named n args s p h.0, instantiated_named n args r p h.1)
  instantiated_named n args (named k) p h = h

  instantiated_all_named : (n : ℕ) (args : List Tree) (bs : Branches) → ArgumentsHave (IsNamedWithin n) args →
      AllNamedWithin n bs → AllNamedWithin n (instantiated_all args bs)
  instantiated_all_named n args none p h = tt
  instantiated_all_named n args (branch l s bs) p h = (instantiated_named n args s p h.0, instantiated_all_named n args bs p h.1)

-- a type that is given for a variable has a text
given_text : (n : ℕ) (args : List Tree) (t : Tree) (k : ℕ) → HasText n t → AllHaveText n args →
    HasText n (unwrap_or (slice_get args k) t)
given_text n [] t zero h a = h
given_text n [] t (suc k) h a = h
given_text n (r ∷ args) t zero h a = a.0
given_text n (r ∷ args) t (suc k) h a = given_text n args t k h a.1

-- an instance by types with texts has a text
pub instantiated_text : (n : ℕ) (args : List Tree) (s : Tree) → AllHaveText n args → HasText n s → HasText n (instantiated args s)
instantiated_text n args s a h =
    let given = λ (k : ℕ). given_text n args (var k) k (record { scoped = tt; named = tt }) a in
    record {
      scoped = instantiated_scoped 0 args s (λ k. (given k).scoped) h.scoped;
      named = instantiated_named n args s (λ k. (given k).named) h.named;
    }

-- ---- the other side

mutual
  dual_named : (n : ℕ) (s : Tree) → IsNamedWithin n s → IsNamedWithin n (dual s)
  dual_named n skip h = tt
  dual_named n (send b) h = tt
  dual_named n (receive b) h = tt
  dual_named n close h = tt
  dual_named n wait h = tt
  dual_named n (select bs) h = dual_all_named n bs h
  dual_named n (offer bs) h = dual_all_named n bs h
  dual_named n (seq s r) h = (dual_named n s h.0, dual_named n r h.1)
  dual_named n (rec s) h = dual_named n s h
  dual_named n (back k) h = tt
  dual_named n (var k) h = tt
  dual_named n (plain b) h = tt
  dual_named n (arrow u s r) h = (dual_named n s h.0, dual_named n r h.1)
  dual_named n (pair s r) h = (dual_named n s h.0, dual_named n r h.1)
  dual_named n (named k) h = h

  dual_all_named : (n : ℕ) (bs : Branches) → AllNamedWithin n bs → AllNamedWithin n (dual_all bs)
  dual_all_named n none h = tt
  dual_all_named n (branch l s bs) h = (dual_named n s h.0, dual_all_named n bs h.1)

-- the other side of a type with a text has one
pub dual_text : (n : ℕ) (s : Tree) → HasText n s → HasText n (dual s)
dual_text n s h = record { scoped = dual_scoped 0 s h.scoped; named = dual_named n s h.named }

-- ---- moves

mutual
  substitute_named : (n : ℕ) (env : List (Option Tree)) (s : Tree) → EnvHas (IsNamedWithin n) env → IsNamedWithin n s →
      IsNamedWithin n (substitute env s)
  substitute_named n env skip p h = tt
  substitute_named n env (send b) p h = tt
  substitute_named n env (receive b) p h = tt
  substitute_named n env close p h = tt
  substitute_named n env wait p h = tt
  substitute_named n env (select bs) p h = substitute_all_named n env bs p h
  substitute_named n env (offer bs) p h = substitute_all_named n env bs p h
  substitute_named n env (seq s r) p h = (substitute_named n env s p h.0, substitute_named n env r p h.1)
  substitute_named n env (rec s) p h = substitute_named n (None ∷ env) s (tt, p) h
  substitute_named n env (back k) p h = variable_has (IsNamedWithin n) env k (back k) p tt
  substitute_named n env (var k) p h = tt
  substitute_named n env (plain b) p h = tt
  substitute_named n env (arrow u s r) p h = (substitute_named n env s p h.0, substitute_named n env r p h.1)
  substitute_named n env (pair s r) p h = (substitute_named n env s p h.0, substitute_named n env r p h.1)
  substitute_named n env (named k) p h = h

  substitute_all_named : (n : ℕ) (env : List (Option Tree)) (bs : Branches) → EnvHas (IsNamedWithin n) env → AllNamedWithin n bs →
      AllNamedWithin n (substitute_all env bs)
  substitute_all_named n env none p h = tt
  substitute_all_named n env (branch l s bs) p h = (substitute_named n env s p h.0, substitute_all_named n env bs p h.1)

-- what the binders around a type stand for has texts
record AreClosedTexts (n : ℕ) (env : List (Option Tree)) : Type 0 where
  closed : AllClosed env
  named : EnvHas (IsNamedWithin n) env

substitute_text : (n : ℕ) (env : List (Option Tree)) (s : Tree) → AreClosedTexts n env → IsScoped (length env) s →
    IsNamedWithin n s → HasText n (substitute env s)
substitute_text n env s p h i = record { scoped = substitute_scoped env s p.closed h; named = substitute_named n env s p.named i }

branch_text : (n : ℕ) (env : List (Option Tree)) (make : List ℕ → Label) (bs : Branches) (a : Label) (t : Tree) →
    AreClosedTexts n env → AllScoped (length env) bs → AllNamedWithin n bs →
    option_map (substitute env) (branch_at make bs a) ≡ Some t → HasText n t
branch_text n env make none a t p h i e = absurd (cc e)
branch_text n env make (branch l s bs) a t p h i e = pick (branch_text n env make bs a t p h.1 i.1) (same_label a (make l)) e
  where
    pick : (option_map (substitute env) (branch_at make bs a) ≡ Some t → HasText n t) →
        (c : Bool) → option_map (substitute env) (if c then Some s else branch_at make bs a) ≡ Some t → HasText n t
    pick f true e = let same : substitute env s ≡ t = cc in subst (HasText n) same (substitute_text n env s p h.0 i.0)
    pick f false e = f e

-- what is left of a message, of an end, or of a variable, is nothing
skip_text : (n : ℕ) (c : Bool) (t : Tree) → (if c then Some skip else None) ≡ Some t → HasText n t
skip_text n true t e = let same : skip ≡ t = cc in subst (HasText n) same (record { scoped = tt; named = tt })
skip_text n false t e = absurd (cc e)

-- what is left after a label, with what stands behind
followed_text : (n : ℕ) (a : Label) (r t : Tree) → HasText n r → HasText n t → HasText n (followed a r t)
followed_text n a r t h i = pick (is_end a)
  where
    pick : (c : Bool) → HasText n (if c then skip else seq t r)
    pick true = record { scoped = tt; named = tt }
    pick false = record { scoped = (i.scoped, h.scoped); named = (i.named, h.named) }

step_in_text : (n : ℕ) (env : List (Option Tree)) (s : Tree) (a : Label) (t : Tree) → AreClosedTexts n env →
    IsScoped (length env) s → IsNamedWithin n s → step_in env s a ≡ Some t → HasText n t
step_in_text n env skip a t p h i e = absurd (cc e)
step_in_text n env (send b) a t p h i e = skip_text n (same_label a (Send b)) t e
step_in_text n env (receive b) a t p h i e = skip_text n (same_label a (Receive b)) t e
step_in_text n env close a t p h i e = skip_text n (same_label a Close) t e
step_in_text n env wait a t p h i e = skip_text n (same_label a Wait) t e
step_in_text n env (select bs) a t p h i e = branch_text n env Select bs a t p h i e
step_in_text n env (offer bs) a t p h i e = branch_text n env Offer bs a t p h i e
step_in_text n env (seq s r) a t p h i e = pick
    (λ x. step_in_text n env s a x p h.0 i.0) (step_in_text n env r a t p h.1 i.1) (terminated s) e
  where
    pick : ((x : Tree) → step_in env s a ≡ Some x → HasText n x) → (step_in env r a ≡ Some t → HasText n t) → (c : Bool) →
        (if c then step_in env r a else option_map (followed a (substitute env r)) (step_in env s a)) ≡ Some t → HasText n t
    pick front next true e = next e
    pick front next false e =
        let m = mapped_some (followed a (substitute env r)) (step_in env s a) t e in
        subst (HasText n) m.2 (followed_text n a (substitute env r) m.0 (substitute_text n env r p h.1 i.1) (front m.0 m.1))
step_in_text n env (rec s) a t p h i e =
    let whole = substitute_text n env (rec s) p h i in
    step_in_text n (Some (substitute env (rec s)) ∷ env) s a t
    (record { closed = (whole.scoped, p.closed); named = (whole.named, p.named) }) h i e
step_in_text n env (back k) a t p h i e = absurd (cc e)
step_in_text n env (var k) a t p h i e = skip_text n (same_label a (Var k)) t e
step_in_text n env (plain b) a t p h i e = absurd (cc e)
step_in_text n env (arrow u s r) a t p h i e = absurd (cc e)
step_in_text n env (pair s r) a t p h i e = absurd (cc e)
step_in_text n env (named k) a t p h i e = absurd (cc e)

-- what a type with a text moves to has one
pub step_text : (n : ℕ) (s : Tree) (a : Label) (t : Tree) → HasText n s → step s a ≡ Some t → HasText n t
step_text n s a t h e = step_in_text n [] s a t (record { closed = tt; named = tt }) h.scoped h.named e

-- ---- parts

-- the parts of an arrow
pub arrow_texts : (n : ℕ) (u : Use) (s r : Tree) → HasText n (arrow u s r) → HasText n s × HasText n r
arrow_texts n u s r h = (record { scoped = h.scoped.0; named = h.named.0 }, record { scoped = h.scoped.1; named = h.named.1 })

pub arrow_text : (n : ℕ) (u : Use) (s r : Tree) → HasText n s → HasText n r → HasText n (arrow u s r)
arrow_text n u s r h i = record { scoped = (h.scoped, i.scoped); named = (h.named, i.named) }

-- the parts of a pair
pub pair_texts : (n : ℕ) (s r : Tree) → HasText n (pair s r) → HasText n s × HasText n r
pair_texts n s r h = (record { scoped = h.scoped.0; named = h.named.0 }, record { scoped = h.scoped.1; named = h.named.1 })

pub pair_text : (n : ℕ) (s r : Tree) → HasText n s → HasText n r → HasText n (pair s r)
pair_text n s r h i = record { scoped = (h.scoped, i.scoped); named = (h.named, i.named) }

-- a base type
pub plain_text : (n : ℕ) (b : Base) → HasText n (plain b)
plain_text n b = record { scoped = tt; named = tt }

-- a data type that is there
pub named_text : (fs : List Family) (k : ℕ) (f : Family) → slice_get fs k ≡ Some f → HasText (length fs) (named k)
named_text fs k f e = record { scoped = tt; named = slice_get_within fs k f e }

-- ---- what arms bind

pub bound_texts : (m : Surroundings) (n : ℕ) (B : Binding) (l : List ℕ) (ts : List Tree) → AllHaveText n m.types →
    BindingHasText n B → Binds m B l ts → AllHaveText n ts
bound_texts m n (fields makers) l ts h b (o, p, x) = at_texts n m.types o.fields.items ts h x
bound_texts m n (rest s) l ts h b (t, p, x) = subst (AllHaveText n) (sym x) (step_text n s (Offer l) t b p, tt)

-- variables of types with texts
pub variables_text : (n : ℕ) (vars : List Kind) (ts : List Tree) (vs : List Variable) → AllHaveText n ts →
    AreVariables vars ts vs → VariablesHaveText n vs
variables_text n vars [] [] h x = tt
variables_text n vars [] (v ∷ vs) h x = absurd x
variables_text n vars (t ∷ ts) [] h x = absurd x
variables_text n vars (t ∷ ts) (v ∷ vs) h x = (subst (HasText n) (sym x.0) h.0, variables_text n vars ts vs h.1 x.2)

-- entered into a context of such variables
pub entered_text : (n : ℕ) (vs g : List Variable) → VariablesHaveText n vs → VariablesHaveText n g →
    VariablesHaveText n (enter_all vs g)
entered_text n [] g h i = i
entered_text n (v ∷ vs) g h i = entered_text n vs (v ∷ g) h.1 (h.0, i)
