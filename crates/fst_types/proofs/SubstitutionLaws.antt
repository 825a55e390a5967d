-- What substitution keeps, and how substitutions compose.
use Rattle.std.proofs.Common.{◌≡◌, ◌<◌, ◌≤◌, ◌+◌, ℕ, zero, suc, List, [], ◌∷◌, length, Option, Some, None, refl, ap, subst, arith}
use Rattle.fst_types.specs.Tree.{Tree, skip, send, receive, close, wait, select, offer, seq, rec, back, var, plain, arrow, pair, named, Branches, none, branch}
use Rattle.fst_types.specs.Order.{IsOrdered, AllOrdered, AreRising}
use Rattle.fst_types.specs.Substitution.{variable, substitute, substitute_all, unfolding_of, EnvHas, AllClosed}
use Rattle.fst_types.specs.Scoped.{IsScoped, AllScoped}

-- what holds of all that the binders stand for, and of a variable, holds of what the variable stands for
pub variable_has : (P : Tree → Type 0) (env : List (Option Tree)) (k : ℕ) (t : Tree) → EnvHas P env → P t → P (variable env k t)
variable_has P [] k t e h = h
variable_has P (None ∷ env) zero t e h = h
variable_has P (Some s ∷ env) zero t e h = e.0
variable_has P (o ∷ env) (suc k) t e h = variable_has P env k t e.1 h

substitute_rising : (env : List (Option Tree)) (bs : Branches) → AreRising bs → AreRising (substitute_all env bs)
substitute_rising env none r = r
substitute_rising env (branch l s none) r = tt
substitute_rising env (branch l s (branch m t bs)) r = (r.0, substitute_rising env (branch m t bs) r.1)

mutual
  -- ordered types put into an ordered type give an ordered type
  pub substitute_ordered : (env : List (Option Tree)) (s : Tree) → EnvHas IsOrdered env → IsOrdered s →
      IsOrdered (substitute env s)
  substitute_ordered env skip e o = tt
  substitute_ordered env (send b) e o = tt
  substitute_ordered env (receive b) e o = tt
  substitute_ordered env close e o = tt
  substitute_ordered env wait e o = tt
  substitute_ordered env (select bs) e o = (substitute_rising env bs o.0, substitute_all_ordered env bs e o.1)
  substitute_ordered env (offer bs) e o = (substitute_rising env bs o.0, substitute_all_ordered env bs e o.1)
  substitute_ordered env (seq s r) e o = (substitute_ordered env s e o.0, substitute_ordered env r e o.1)
  substitute_ordered env (rec s) e o = substitute_ordered (None ∷ env) s (tt, e) o
  substitute_ordered env (back k) e o = variable_has IsOrdered env k (back k) e tt
  substitute_ordered env (var k) e o = tt
  substitute_ordered env (plain b) e o = tt
  substitute_ordered env (arrow u s r) e o = (substitute_ordered env s e o.0, substitute_ordered env r e o.1)
  substitute_ordered env (pair s r) e o = (substitute_ordered env s e o.0, substitute_ordered env r e o.1)
  substitute_ordered env (named k) e o = tt

  -- and put into ordered branches, ordered branches
  pub substitute_all_ordered : (env : List (Option Tree)) (bs : Branches) → EnvHas IsOrdered env → AllOrdered bs →
      AllOrdered (substitute_all env bs)
  substitute_all_ordered env none e o = tt
  substitute_all_ordered env (branch l s bs) e o = (substitute_ordered env s e o.0, substitute_all_ordered env bs e o.1)

-- n binders that stand for nothing, inside env
abbrev pub below : ℕ → List (Option Tree) → List (Option Tree)
below zero env = env
below (suc n) env = None ∷ below n env

kept : (n : ℕ) (env : List (Option Tree)) (k : ℕ) (t : Tree) → k < n → variable (below n env) k t ≡ t
kept zero env k t lt = absurd (omega arith)
kept (suc n) env zero t lt = refl
kept (suc n) env (suc k) t lt = kept n env k t (omega arith)

mutual
  -- a type whose free variables stand for nothing stays as it is
  pub substitute_kept : (n : ℕ) (env : List (Option Tree)) (s : Tree) → IsScoped n s → substitute (below n env) s ≡ s
  substitute_kept n env skip h = refl
  substitute_kept n env (send b) h = refl
  substitute_kept n env (receive b) h = refl
  substitute_kept n env close h = refl
  substitute_kept n env wait h = refl
  substitute_kept n env (select bs) h = ap select (substitute_all_kept n env bs h)
  substitute_kept n env (offer bs) h = ap offer (substitute_all_kept n env bs h)
  substitute_kept n env (seq s r) h = λ i. seq (substitute_kept n env s h.0 i) (substitute_kept n env r h.1 i)
  substitute_kept n env (rec s) h = ap rec (substitute_kept (suc n) env s h)
  substitute_kept n env (back k) h = kept n env k (back k) h
  substitute_kept n env (var k) h = refl
  substitute_kept n env (plain b) h = refl
  substitute_kept n env (arrow u s r) h = λ i. arrow u (substitute_kept n env s h.0 i) (substitute_kept n env r h.1 i)
  substitute_kept n env (pair s r) h = λ i. pair (substitute_kept n env s h.0 i) (substitute_kept n env r h.1 i)
  substitute_kept n env (named k) h = refl

  substitute_all_kept : (n : ℕ) (env : List (Option Tree)) (bs : Branches) → AllScoped n bs → substitute_all (below n env) bs ≡ bs
  substitute_all_kept n env none h = refl
  substitute_all_kept n env (branch l s bs) h = λ i. branch l (substitute_kept n env s h.0 i) (substitute_all_kept n env bs h.1 i)

nothing : (n k : ℕ) (t : Tree) → variable (below n []) k t ≡ t
nothing zero k t = refl
nothing (suc n) zero t = refl
nothing (suc n) (suc k) t = nothing n k t

mutual
  -- binders that all stand for nothing change no type
  pub substitute_nothing : (n : ℕ) (s : Tree) → substitute (below n []) s ≡ s
  substitute_nothing n skip = refl
  substitute_nothing n (send b) = refl
  substitute_nothing n (receive b) = refl
  substitute_nothing n close = refl
  substitute_nothing n wait = refl
  substitute_nothing n (select bs) = ap select (substitute_all_nothing n bs)
  substitute_nothing n (offer bs) = ap offer (substitute_all_nothing n bs)
  substitute_nothing n (seq s r) = λ i. seq (substitute_nothing n s i) (substitute_nothing n r i)
  substitute_nothing n (rec s) = ap rec (substitute_nothing (suc n) s)
  substitute_nothing n (back k) = nothing n k (back k)
  substitute_nothing n (var k) = refl
  substitute_nothing n (plain b) = refl
  substitute_nothing n (arrow u s r) = λ i. arrow u (substitute_nothing n s i) (substitute_nothing n r i)
  substitute_nothing n (pair s r) = λ i. pair (substitute_nothing n s i) (substitute_nothing n r i)
  substitute_nothing n (named k) = refl

  substitute_all_nothing : (n : ℕ) (bs : Branches) → substitute_all (below n []) bs ≡ bs
  substitute_all_nothing n none = refl
  substitute_all_nothing n (branch l s bs) = λ i. branch l (substitute_nothing n s i) (substitute_all_nothing n bs i)

mutual
  -- a type without variables outside n binders has none outside more
  pub scoped_wider : (n m : ℕ) (s : Tree) → n ≤ m → IsScoped n s → IsScoped m s
  scoped_wider n m skip le h = tt
  scoped_wider n m (send b) le h = tt
  scoped_wider n m (receive b) le h = tt
  scoped_wider n m close le h = tt
  scoped_wider n m wait le h = tt
  scoped_wider n m (select bs) le h = all_scoped_wider n m bs le h
  scoped_wider n m (offer bs) le h = all_scoped_wider n m bs le h
  scoped_wider n m (seq s r) le h = (scoped_wider n m s le h.0, scoped_wider n m r le h.1)
  scoped_wider n m (rec s) le h = scoped_wider (suc n) (suc m) s (omega arith) h
  scoped_wider n m (back k) le h = omega arith
  scoped_wider n m (var k) le h = tt
  scoped_wider n m (plain b) le h = tt
  scoped_wider n m (arrow u s r) le h = (scoped_wider n m s le h.0, scoped_wider n m r le h.1)
  scoped_wider n m (pair s r) le h = (scoped_wider n m s le h.0, scoped_wider n m r le h.1)
  scoped_wider n m (named k) le h = tt

  all_scoped_wider : (n m : ℕ) (bs : Branches) → n ≤ m → AllScoped n bs → AllScoped m bs
  all_scoped_wider n m none le h = tt
  all_scoped_wider n m (branch l s bs) le h = (scoped_wider n m s le h.0, all_scoped_wider n m bs le h.1)

variable_scoped : (n m : ℕ) (env : List (Option Tree)) (k j : ℕ) → AllClosed env → k < n + length env →
    (k < n → j < m) → n ≤ m → IsScoped m (variable (below n env) k (back j))
variable_scoped zero m [] k j ok lt h le = absurd (omega arith)
variable_scoped zero m (None ∷ env) k j ok lt h le = absurd ok
variable_scoped zero m (Some t ∷ env) zero j ok lt h le = scoped_wider 0 m t (omega arith) ok.0
variable_scoped zero m (Some t ∷ env) (suc k) j ok lt h le = variable_scoped zero m env k j ok.1 (omega arith)
    (λ l. absurd (omega arith)) le
variable_scoped (suc n) m env zero j ok lt h le = h (omega arith)
variable_scoped (suc n) m env (suc k) j ok lt h le = variable_scoped n m env k j ok (omega arith)
    (λ l. h (omega arith)) (omega arith)

mutual
  -- only the binders that stand for nothing are left
  pub substitute_scoped : (n : ℕ) (env : List (Option Tree)) (s : Tree) → AllClosed env → IsScoped (n + length env) s →
      IsScoped n (substitute (below n env) s)
  substitute_scoped n env skip ok h = tt
  substitute_scoped n env (send b) ok h = tt
  substitute_scoped n env (receive b) ok h = tt
  substitute_scoped n env close ok h = tt
  substitute_scoped n env wait ok h = tt
  substitute_scoped n env (select bs) ok h = substitute_all_scoped n env bs ok h
  substitute_scoped n env (offer bs) ok h = substitute_all_scoped n env bs ok h
  substitute_scoped n env (seq s r) ok h = (substitute_scoped n env s ok h.0, substitute_scoped n env r ok h.1)
  substitute_scoped n env (rec s) ok h =
      let m : suc (n + length env) ≡ suc n + length env = omega arith in
      substitute_scoped (suc n) env s ok (subst (λ x. IsScoped x s) m h)
  substitute_scoped n env (back k) ok h = variable_scoped n n env k k ok h (λ l. l) (omega arith)
  substitute_scoped n env (var k) ok h = tt
  substitute_scoped n env (plain b) ok h = tt
  substitute_scoped n env (arrow u s r) ok h = (substitute_scoped n env s ok h.0, substitute_scoped n env r ok h.1)
  substitute_scoped n env (pair s r) ok h = (substitute_scoped n env s ok h.0, substitute_scoped n env r ok h.1)
  substitute_scoped n env (named k) ok h = tt

  substitute_all_scoped : (n : ℕ) (env : List (Option Tree)) (bs : Branches) → AllClosed env → AllScoped (n + length env) bs →
      AllScoped n (substitute_all (below n env) bs)
  substitute_all_scoped n env none ok h = tt
  substitute_all_scoped n env (branch l s bs) ok h = (substitute_scoped n env s ok h.0, substitute_all_scoped n env bs ok h.1)

-- a type whose free variables all stand for types without any has none left
pub all_put_scoped : (env : List (Option Tree)) (s : Tree) → AllClosed env → IsScoped (length env) s →
    IsScoped 0 (substitute env s)
all_put_scoped env s ok h =
    let sum : length env ≡ 0 + length env = omega arith in
    substitute_scoped 0 env s ok (subst (λ m. IsScoped m s) sum h)

past : (E env : List (Option Tree)) → AllClosed env →
    (k j : ℕ) → variable E j (back j) ≡ back j → substitute E (variable env k (back j)) ≡ variable env k (back j)
past E [] ok k j h = h
past E (None ∷ env) ok k j h = absurd ok
past E (Some t ∷ env) ok zero j h = substitute_kept 0 E t ok.0
past E (Some t ∷ env) ok (suc k) j h = past E env ok.1 k j h

at_variable : (E : List (Option Tree)) (whole : Tree) (env : List (Option Tree)) → AllClosed env → (n k j : ℕ) →
    variable E j (back j) ≡ variable (below n (Some whole ∷ [])) k (back j) →
    substitute E (variable (below n (None ∷ env)) k (back j)) ≡ variable (below n (Some whole ∷ env)) k (back j)
at_variable E whole env ok zero zero j h = h
at_variable E whole env ok zero (suc k) j h = past E env ok k j h
at_variable E whole env ok (suc n) zero j h = h
at_variable E whole env ok (suc n) (suc k) j h = at_variable E whole env ok n k j h

module _ (whole : Tree) (env : List (Option Tree)) (ok : AllClosed env) where
  mutual
    -- putting in one type after the others is putting them in all at once
    pub substitute_after : (n : ℕ) (s : Tree) → substitute (below n (Some whole ∷ []))
        (substitute (below n (None ∷ env)) s) ≡ substitute (below n (Some whole ∷ env)) s
    substitute_after n skip = refl
    substitute_after n (send b) = refl
    substitute_after n (receive b) = refl
    substitute_after n close = refl
    substitute_after n wait = refl
    substitute_after n (select bs) = ap select (substitute_all_after n bs)
    substitute_after n (offer bs) = ap offer (substitute_all_after n bs)
    substitute_after n (seq s r) = λ i. seq (substitute_after n s i) (substitute_after n r i)
    substitute_after n (rec s) = ap rec (substitute_after (suc n) s)
    substitute_after n (back k) = at_variable (below n (Some whole ∷ [])) whole env ok n k k refl
    substitute_after n (var k) = refl
    substitute_after n (plain b) = refl
    substitute_after n (arrow u s r) = λ i. arrow u (substitute_after n s i) (substitute_after n r i)
    substitute_after n (pair s r) = λ i. pair (substitute_after n s i) (substitute_after n r i)
    substitute_after n (named k) = refl

    substitute_all_after : (n : ℕ) (bs : Branches) →
        substitute_all (below n (Some whole ∷ [])) (substitute_all (below n (None ∷ env)) bs) ≡ substitute_all
        (below n (Some whole ∷ env)) bs
    substitute_all_after n none = refl
    substitute_all_after n (branch l s bs) = λ i. branch l (substitute_after n s i) (substitute_all_after n bs i)

-- an unfolding has no free variables
pub unfolding_of_scoped : (s : Tree) → IsScoped 0 (rec s) → IsScoped 0 (unfolding_of s)
unfolding_of_scoped s h = substitute_scoped 0 (Some (rec s) ∷ []) s (h, tt) h

-- an unfolding is ordered
pub unfolding_of_ordered : (s : Tree) → IsOrdered (rec s) → IsOrdered (unfolding_of s)
unfolding_of_ordered s o = substitute_ordered (Some (rec s) ∷ []) s (o, tt) o
