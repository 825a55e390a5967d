-- Types in place of the recursion variables within a part.
use Rattle.std.proofs.Common.{◌≡◌, ◌∙◌, ◌<◌, ◌≤◌, ℕ, zero, suc, List, [], ◌∷◌, length, true, false, Option, Some, None, refl, ap, arith}
use Rattle.std.specs.Prelude.{option_map, if◌then◌else◌, ◌&&◌, ⊤}
use Rattle.std.proofs.lemmas.Bool.{eqb-true, and_parts}
use Rattle.fst_types.specs.Tree.{Tree, skip, send, receive, close, wait, select, offer, seq, rec, back, var, plain, arrow, pair, named, Branches, none, branch}
use Rattle.fst_types.specs.Substitution.{variable, substitute, substitute_all}
use Rattle.fst_types.specs.Scoped.{IsScoped, AllScoped}
use Rattle.fst_types.specs.declared.label.Label.{Label}
use Rattle.fst_lts.specs.Step.{terminated, followed, step_in}
use Rattle.fst_parts.specs.Place.{open_depth, open_depths, is_closed}

mutual
  scoped_if_loose : (t : Tree) (n : ℕ) → open_depth t ≤ n → IsScoped n t
  scoped_if_loose skip n h = tt
  scoped_if_loose (send b) n h = tt
  scoped_if_loose (receive b) n h = tt
  scoped_if_loose close n h = tt
  scoped_if_loose wait n h = tt
  scoped_if_loose (select cs) n h = all_scoped_if_loose cs n h
  scoped_if_loose (offer cs) n h = all_scoped_if_loose cs n h
  scoped_if_loose (seq s r) n h = (scoped_if_loose s n (omega arith), scoped_if_loose r n (omega arith))
  scoped_if_loose (rec s) n h = scoped_if_loose s (suc n) (omega arith)
  scoped_if_loose (back k) n h = omega arith
  scoped_if_loose (var k) n h = tt
  scoped_if_loose (plain b) n h = tt
  scoped_if_loose (arrow u s r) n h = (scoped_if_loose s n (omega arith), scoped_if_loose r n (omega arith))
  scoped_if_loose (pair s r) n h = (scoped_if_loose s n (omega arith), scoped_if_loose r n (omega arith))
  scoped_if_loose (named k) n h = tt

  all_scoped_if_loose : (cs : Branches) (n : ℕ) → open_depths cs ≤ n → AllScoped n cs
  all_scoped_if_loose none n h = tt
  all_scoped_if_loose (branch l s cs) n h = (scoped_if_loose s n (omega arith), all_scoped_if_loose cs n (omega arith))

pub scoped_if_closed : (t : Tree) → is_closed t ≡ true → IsScoped 0 t
scoped_if_closed t h = let e : open_depth t ≡ 0 = eqb-true (open_depth t) 0 h in scoped_if_loose t 0 (omega arith)

abbrev pub IsClosed : Tree → Type 0
IsClosed t = (e : List (Option Tree)) → substitute e t ≡ t

abbrev pub AllClosed : List (Option Tree) → Type 0
AllClosed [] = ⊤
AllClosed (None ∷ env) = ⊥
AllClosed (Some t ∷ env) = IsClosed t × AllClosed env

-- E after D is G: D closes what stands outside, and E the n binders within
pub data Lays (outer : List (Option Tree)) (names : List ℕ) : ℕ → List (Option Tree) → List (Option Tree) → List (Option Tree) →
    List ℕ → Type 0 where
  top : (E : List (Option Tree)) → Lays outer names 0 E outer outer names
  over : {n : ℕ} {E D G : List (Option Tree)} {bs : List ℕ} →
      (o : Option Tree) (b : ℕ) → Lays outer names n E D G bs → Lays outer names (suc n) (o ∷ E) (None ∷ D) (o ∷ G) (b ∷ bs)

outside : (F env : List (Option Tree)) → AllClosed env →
    (k j : ℕ) → k < length env → substitute F (variable env k (back j)) ≡ variable env k (back j)
outside F [] ok k j h = absurd (omega arith)
outside F (None ∷ env) ok k j h = absurd ok
outside F (Some t ∷ env) ok zero j h = ok.0 F
outside F (Some t ∷ env) ok (suc k) j h = outside F env ok.1 k j (omega arith)

at_variable : {outer : List (Option Tree)} {names : List ℕ} {n : ℕ} {E D G : List (Option Tree)} {bs : List ℕ} →
    Lays outer names n E D G bs → AllClosed outer →
    (F : List (Option Tree)) (k j : ℕ) → k < length G → variable F j (back j) ≡ variable E k (back j) →
    substitute F (variable D k (back j)) ≡ variable G k (back j)
at_variable {outer} (top E) ok F k j lt h = outside F outer ok k j lt
at_variable (over o b l) ok F zero j lt h = h
at_variable (over o b l) ok F (suc k) j lt h = at_variable l ok F k j (omega arith) h

mutual
  pub composed : {outer : List (Option Tree)} {names : List ℕ} {n : ℕ} {E D G : List (Option Tree)} {bs : List ℕ} →
      Lays outer names n E D G bs → AllClosed outer →
      (s : Tree) → IsScoped (length G) s → substitute E (substitute D s) ≡ substitute G s
  composed l ok skip h = refl
  composed l ok (send b) h = refl
  composed l ok (receive b) h = refl
  composed l ok close h = refl
  composed l ok wait h = refl
  composed l ok (select cs) h = ap select (all_composed l ok cs h)
  composed l ok (offer cs) h = ap offer (all_composed l ok cs h)
  composed l ok (seq s r) h = λ i. seq (composed l ok s h.0 i) (composed l ok r h.1 i)
  composed l ok (rec s) h = ap rec (composed (over None 0 l) ok s h)
  composed {E} l ok (back k) h = at_variable l ok E k k h refl
  composed l ok (var k) h = refl
  composed l ok (plain b) h = refl
  composed l ok (arrow u s r) h = λ i. arrow u (composed l ok s h.0 i) (composed l ok r h.1 i)
  composed l ok (pair s r) h = λ i. pair (composed l ok s h.0 i) (composed l ok r h.1 i)
  composed l ok (named k) h = refl

  all_composed : {outer : List (Option Tree)} {names : List ℕ} {n : ℕ} {E D G : List (Option Tree)} {bs : List ℕ} →
      Lays outer names n E D G bs → AllClosed outer →
      (cs : Branches) → AllScoped (length G) cs → substitute_all E (substitute_all D cs) ≡ substitute_all G cs
  all_composed l ok none h = refl
  all_composed l ok (branch t s cs) h = λ i. branch t (composed l ok s h.0 i) (all_composed l ok cs h.1 i)

-- what the binders stand for is not terminated
abbrev pub NoneEnds : List (Option Tree) → Type 0
NoneEnds env = (k j : ℕ) → terminated (variable env k (back j)) ≡ false

pub under_none : (env : List (Option Tree)) → NoneEnds env → NoneEnds (None ∷ env)
under_none env h zero j = refl
under_none env h (suc k) j = h k j

-- closing doesn't change whether a type is terminated
pub kept_terminated : (env : List (Option Tree)) → NoneEnds env → (s : Tree) → terminated (substitute env s) ≡ terminated s
kept_terminated env h skip = refl
kept_terminated env h (send b) = refl
kept_terminated env h (receive b) = refl
kept_terminated env h close = refl
kept_terminated env h wait = refl
kept_terminated env h (select cs) = refl
kept_terminated env h (offer cs) = refl
kept_terminated env h (seq s r) = λ i. kept_terminated env h s i && kept_terminated env h r i
kept_terminated env h (rec s) = kept_terminated (None ∷ env) (under_none env h) s
kept_terminated env h (back k) = h k k
kept_terminated env h (var k) = refl
kept_terminated env h (plain b) = refl
kept_terminated env h (arrow u s r) = refl
kept_terminated env h (pair s r) = refl
kept_terminated env h (named k) = refl

-- a terminated type has no step
pub no_step : (env : List (Option Tree)) (s : Tree) (a : Label) → terminated s ≡ true → step_in env s a ≡ None
no_step env skip a e = refl
no_step env (send b) a e = absurd (cc e)
no_step env (receive b) a e = absurd (cc e)
no_step env close a e = absurd (cc e)
no_step env wait a e = absurd (cc e)
no_step env (select cs) a e = absurd (cc e)
no_step env (offer cs) a e = absurd (cc e)
no_step env (seq s r) a e =
    let h = and_parts (terminated s) (terminated r) e in
    ap (λ c. if c then step_in env r a else option_map (followed a (substitute env r)) (step_in env s a)) h.0
    ∙ no_step env r a h.1
no_step env (rec s) a e = no_step (Some (substitute env (rec s)) ∷ env) s a e
no_step env (back k) a e = absurd (cc e)
no_step env (var k) a e = absurd (cc e)
no_step env (plain b) a e = absurd (cc e)
no_step env (arrow u s r) a e = absurd (cc e)
no_step env (pair s r) a e = absurd (cc e)
no_step env (named k) a e = absurd (cc e)
