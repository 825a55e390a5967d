-- The dual of the dual, and the moves of the dual.
use Rattle.std.proofs.Common.{◌≡◌, ◌∙◌, ℕ, zero, suc, List, [], ◌∷◌, Bool, true, false, Option, Some, None, map, refl, ap}
use Rattle.std.specs.Prelude.{option_map, option_and_then, if◌then◌else◌, ◌&&◌}
use Rattle.fst_types.specs.Tree.{Tree, skip, send, receive, close, wait, select, offer, seq, rec, back, var, plain, arrow, pair, named, Branches, none, branch}
use Rattle.fst_types.specs.Order.{same_label}
use Rattle.fst_types.specs.declared.label.Label.{Label}
use Rattle.fst_types.specs.declared.label.Label.TheVariants.{Send, Receive, Select, Offer, Close, Wait, Var}
use Rattle.fst_types.specs.declared.ty.Branch.{Branch}
use Rattle.fst_types.specs.ModelView.{branches_of}
use Rattle.fst_types.specs.Substitution.{variable, substitute, substitute_all}
use Rattle.fst_lts.specs.Step.{terminated, branch_at, is_end, followed, step_in, step}
use Rattle.fst_base.specs.Agreement.{residual}
use Rattle.fst_lts.specs.Dual.{dual, dual_all, dual_label, dual_branch}

-- the duals of a list of branches are the dual of the choice
pub dual_all_map : (bs : List Branch) → dual_all (branches_of bs) ≡ branches_of (map dual_branch bs)
dual_all_map [] = refl
dual_all_map (b ∷ bs) = ap (branch b.label (dual b.body)) (dual_all_map bs)

mutual
  -- the dual of the dual is the type
  pub dual-dual : (s : Tree) → dual (dual s) ≡ s
  dual-dual skip = refl
  dual-dual (send b) = refl
  dual-dual (receive b) = refl
  dual-dual close = refl
  dual-dual wait = refl
  dual-dual (select bs) = ap select (dual_all-dual_all bs)
  dual-dual (offer bs) = ap offer (dual_all-dual_all bs)
  dual-dual (seq s r) = λ i. seq (dual-dual s i) (dual-dual r i)
  dual-dual (rec s) = ap rec (dual-dual s)
  dual-dual (back k) = refl
  dual-dual (var k) = refl
  dual-dual (plain b) = refl
  dual-dual (arrow u s r) = λ i. arrow u (dual-dual s i) (dual-dual r i)
  dual-dual (pair s r) = λ i. pair (dual-dual s i) (dual-dual r i)
  dual-dual (named k) = refl

  -- and so with branches
  pub dual_all-dual_all : (bs : Branches) → dual_all (dual_all bs) ≡ bs
  dual_all-dual_all none = refl
  dual_all-dual_all (branch l s bs) = λ i. branch l (dual-dual s i) (dual_all-dual_all bs i)

-- and with labels
pub dual_label-dual_label : (a : Label) → dual_label (dual_label a) ≡ a
dual_label-dual_label (Send b) = refl
dual_label-dual_label (Receive b) = refl
dual_label-dual_label (Select l) = refl
dual_label-dual_label (Offer l) = refl
dual_label-dual_label Close = refl
dual_label-dual_label Wait = refl
dual_label-dual_label (Var k) = refl

terminated-dual : (s : Tree) → terminated (dual s) ≡ terminated s
terminated-dual skip = refl
terminated-dual (send b) = refl
terminated-dual (receive b) = refl
terminated-dual close = refl
terminated-dual wait = refl
terminated-dual (select bs) = refl
terminated-dual (offer bs) = refl
terminated-dual (seq s r) = λ i. terminated-dual s i && terminated-dual r i
terminated-dual (rec s) = terminated-dual s
terminated-dual (back k) = refl
terminated-dual (var k) = refl
terminated-dual (plain b) = refl
terminated-dual (arrow u s r) = refl
terminated-dual (pair s r) = refl
terminated-dual (named k) = refl

-- each binder stands for the dual
abbrev dual_env : List (Option Tree) → List (Option Tree)
dual_env [] = []
dual_env (o ∷ env) = option_map dual o ∷ dual_env env

variable-dual_env : (env : List (Option Tree)) (k : ℕ) (s : Tree) → variable (dual_env env) k (dual s) ≡ dual (variable env k s)
variable-dual_env [] k s = refl
variable-dual_env (None ∷ env) zero s = refl
variable-dual_env (Some t ∷ env) zero s = refl
variable-dual_env (o ∷ env) (suc k) s = variable-dual_env env k s

mutual
  substitute-dual : (env : List (Option Tree)) (s : Tree) → substitute (dual_env env) (dual s) ≡ dual (substitute env s)
  substitute-dual env skip = refl
  substitute-dual env (send b) = refl
  substitute-dual env (receive b) = refl
  substitute-dual env close = refl
  substitute-dual env wait = refl
  substitute-dual env (select bs) = ap offer (substitute_all-dual_all env bs)
  substitute-dual env (offer bs) = ap select (substitute_all-dual_all env bs)
  substitute-dual env (seq s r) = λ i. seq (substitute-dual env s i) (substitute-dual env r i)
  substitute-dual env (rec s) = ap rec (substitute-dual (None ∷ env) s)
  substitute-dual env (back k) = variable-dual_env env k (back k)
  substitute-dual env (var k) = refl
  substitute-dual env (plain b) = refl
  substitute-dual env (arrow u s r) = λ i. arrow u (substitute-dual env s i) (substitute-dual env r i)
  substitute-dual env (pair s r) = λ i. pair (substitute-dual env s i) (substitute-dual env r i)
  substitute-dual env (named k) = refl

  substitute_all-dual_all : (env : List (Option Tree)) (bs : Branches) →
      substitute_all (dual_env env) (dual_all bs) ≡ dual_all (substitute_all env bs)
  substitute_all-dual_all env none = refl
  substitute_all-dual_all env (branch l s bs) = λ i. branch l (substitute-dual env s i) (substitute_all-dual_all env bs i)

same_label-dual_label : (a b : Label) → same_label (dual_label a) (dual_label b) ≡ same_label a b
same_label-dual_label (Send x) (Send y) = refl
same_label-dual_label (Receive x) (Receive y) = refl
same_label-dual_label (Select x) (Select y) = refl
same_label-dual_label (Offer x) (Offer y) = refl
same_label-dual_label Close Close = refl
same_label-dual_label Wait Wait = refl
same_label-dual_label (Var x) (Var y) = refl
same_label-dual_label a b = refl

-- after a message, an end or a variable nothing is left on either side
ended : (c : Bool) → (if c then Some skip else None) ≡ option_map dual (if c then Some skip else None)
ended true = refl
ended false = refl

branch_dual : (make : List ℕ → Label) (bs : Branches) (a : Label) →
    branch_at (λ l. dual_label (make l)) (dual_all bs) (dual_label a) ≡ option_map dual (branch_at make bs a)
branch_dual make none a = refl
branch_dual make (branch l s bs) a =
    let next = branch_dual make bs a in
    ap (λ c. if c then Some (dual s) else branch_at (λ m. dual_label (make m)) (dual_all bs) (dual_label a))
    (same_label-dual_label a (make l))
    ∙ pick (same_label a (make l)) next
  where
    pick : (c : Bool) → branch_at (λ m. dual_label (make m)) (dual_all bs) (dual_label a) ≡ option_map dual
        (branch_at make bs a) →
        (if c then Some (dual s) else branch_at (λ m. dual_label (make m)) (dual_all bs) (dual_label a)) ≡ option_map dual
        (if c then Some s else branch_at make bs a)
    pick true e = refl
    pick false e = e

substitute_branch_dual : (env : List (Option Tree)) (o : Option Tree) →
    option_map (substitute (dual_env env)) (option_map dual o) ≡ option_map dual (option_map (substitute env) o)
substitute_branch_dual env None = refl
substitute_branch_dual env (Some s) = ap Some (substitute-dual env s)

-- a label ends a type where its dual ends the other side
is_end-dual_label : (a : Label) → is_end (dual_label a) ≡ is_end a
is_end-dual_label (Send b) = refl
is_end-dual_label (Receive b) = refl
is_end-dual_label (Select l) = refl
is_end-dual_label (Offer l) = refl
is_end-dual_label Close = refl
is_end-dual_label Wait = refl
is_end-dual_label (Var k) = refl

followed-dual : (a : Label) (r t : Tree) → followed (dual_label a) (dual r) (dual t) ≡ dual (followed a r t)
followed-dual a r t = ap (λ c. if c then skip else seq (dual t) (dual r)) (is_end-dual_label a) ∙ pick (is_end a)
  where
    pick : (c : Bool) → (if c then skip else seq (dual t) (dual r)) ≡ dual (if c then skip else seq t r)
    pick true = refl
    pick false = refl

behind_dual : (env : List (Option Tree)) (a : Label) (r : Tree) (o p : Option Tree) → o ≡ option_map dual p →
    option_map (followed (dual_label a) (substitute (dual_env env) (dual r))) o ≡ option_map dual
    (option_map (followed a (substitute env r)) p)
behind_dual env a r o None e = ap (option_map (followed (dual_label a) (substitute (dual_env env) (dual r)))) e
behind_dual env a r o (Some t) e = ap (option_map (followed (dual_label a) (substitute (dual_env env) (dual r)))) e
    ∙ ap (λ q. Some (followed (dual_label a) q (dual t))) (substitute-dual env r)
    ∙ ap Some (followed-dual a (substitute env r) t)

chosen_dual : (c d : Bool) (x y : Option Tree) (x' y' : Option Tree) → c ≡ d → x ≡ option_map dual x' → y ≡ option_map dual y' →
    (if c then x else y) ≡ option_map dual (if d then x' else y')
chosen_dual true true x y x' y' e h k = h
chosen_dual false false x y x' y' e h k = k
chosen_dual true false x y x' y' e h k = cc
chosen_dual false true x y x' y' e h k = cc

step_in-dual : (env : List (Option Tree)) (s : Tree) (a : Label) →
    step_in (dual_env env) (dual s) (dual_label a) ≡ option_map dual (step_in env s a)
step_in-dual env skip a = refl
step_in-dual env (send b) a = ap (λ c. if c then Some skip else None) (same_label-dual_label a (Send b))
    ∙ ended (same_label a (Send b))
step_in-dual env (receive b) a = ap (λ c. if c then Some skip else None) (same_label-dual_label a (Receive b))
    ∙ ended (same_label a (Receive b))
step_in-dual env close a = ap (λ c. if c then Some skip else None) (same_label-dual_label a Close)
    ∙ ended (same_label a Close)
step_in-dual env wait a = ap (λ c. if c then Some skip else None) (same_label-dual_label a Wait)
    ∙ ended (same_label a Wait)
step_in-dual env (select bs) a = ap (option_map (substitute (dual_env env))) (branch_dual Select bs a)
    ∙ substitute_branch_dual env (branch_at Select bs a)
step_in-dual env (offer bs) a = ap (option_map (substitute (dual_env env))) (branch_dual Offer bs a)
    ∙ substitute_branch_dual env (branch_at Offer bs a)
step_in-dual env (seq s r) a =
    chosen_dual (terminated (dual s)) (terminated s) _ _ _ _ (terminated-dual s) (step_in-dual env r a)
    (behind_dual env a r _ (step_in env s a) (step_in-dual env s a))
step_in-dual env (rec s) a =
    ap (λ t. step_in (Some t ∷ dual_env env) (dual s) (dual_label a)) (substitute-dual env (rec s))
    ∙ step_in-dual (Some (substitute env (rec s)) ∷ env) s a
step_in-dual env (back k) a = refl
step_in-dual env (var k) a = ap (λ c. if c then Some skip else None) (same_label-dual_label a (Var k))
    ∙ ended (same_label a (Var k))
step_in-dual env (plain b) a = refl
step_in-dual env (arrow u s r) a = refl
step_in-dual env (pair s r) a = refl
step_in-dual env (named k) a = refl

after_dual : (w : List Label) (o p : Option Tree) →
    ((s : Tree) → residual step (dual s) (map dual_label w) ≡ option_map dual (residual step s w)) →
    o ≡ option_map dual p → option_and_then (λ s. residual step s (map dual_label w)) o ≡ option_map dual
    (option_and_then (λ s. residual step s w) p)
after_dual w o None h e = ap (option_and_then (λ s. residual step s (map dual_label w))) e
after_dual w o (Some s) h e = ap (option_and_then (λ s. residual step s (map dual_label w))) e ∙ h s

-- the same where there may be no type
pub dual-dual_option : (o : Option Tree) → option_map dual (option_map dual o) ≡ o
dual-dual_option None = refl
dual-dual_option (Some s) = ap Some (dual-dual s)

-- what is left of the dual after the dual trace
pub residual-dual : (w : List Label) (s : Tree) → residual step (dual s) (map dual_label w) ≡ option_map dual (residual step s w)
residual-dual [] s = refl
residual-dual (a ∷ w) s = after_dual w _ (step s a) (residual-dual w) (step_in-dual [] s a)
