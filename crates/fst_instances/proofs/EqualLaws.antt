-- Equality of types is an equivalence, part by part, and is kept where types are put for variables.
use Rattle.std.proofs.Common.{◌≡◌, ℕ, suc, List, Some, refl, sym, subst}
use Rattle.fst_types.specs.Tree.{Tree, skip, send, receive, close, wait, select, offer, seq, rec, back, var, plain, arrow, pair, named}
use Rattle.fst_types.specs.declared.base.Base.{Base}
use Rattle.fst_types.specs.declared.kind.Kind.{Kind}
use Rattle.fst_types.specs.declared.kind.Use.{Use}
use Rattle.fst_types.specs.declared.kind.Use.TheVariants.{Many, Once}
use Rattle.fst_types.specs.declared.label.Label.{Label}
use Rattle.fst_types.specs.Instance.{instantiated}
use Rattle.fst_kinds.specs.Kinds.{session, top, join, HasKind}
use Rattle.fst_kinds.specs.WellFormed.{IsWellFormed, IsSession, IsInstantiation}
use Rattle.fst_kinds.proofs.Laws.{one_kind, not_top, session_of, put_have, instantiated_session}
use Rattle.fst_base.specs.Agreement.{Agree}
use Rattle.fst_base.proofs.AgreementLaws.{agrees_itself, agrees_back, agrees_through}
use Rattle.fst_lts.specs.Step.{step}
use Rattle.fst_lts.specs.Equal.{IsEqual, sessions, variables, base_types, data_types, functions, pairs}
use Rattle.fst_instances.specs.EqualParts.{IsFunctionLike, IsPairLike, StepsToEqual}
use Rattle.fst_instances.proofs.SessionLaws.{session_after}
use Rattle.fst_instances.proofs.InstanceLaws.{both_move, instances_agree}

-- a session type equals itself
session_itself : (vars : List Kind) (t : Tree) (k : Kind) (u : Use) → k ≡ session u → IsWellFormed vars t k → IsEqual vars t t
session_itself vars t k u e w =
    let h : IsSession vars t = (u, subst (λ j. IsWellFormed vars t j) e w) in
    sessions h h (λ n. agrees_itself step n t)

-- a well-formed type equals itself
pub equal_itself : (vars : List Kind) (t : Tree) (k : Kind) → IsWellFormed vars t k → IsEqual vars t t
equal_itself vars skip k w = session_itself vars skip k Many w.kinded w
equal_itself vars (send b) k w = session_itself vars (send b) k Once w.kinded w
equal_itself vars (receive b) k w = session_itself vars (receive b) k Once w.kinded w
equal_itself vars close k w = session_itself vars close k Once w.kinded w
equal_itself vars wait k w = session_itself vars wait k Once w.kinded w
equal_itself vars (select bs) k w = session_itself vars (select bs) k Once w.kinded.1 w
equal_itself vars (offer bs) k w = session_itself vars (offer bs) k Once w.kinded.1 w
equal_itself vars (seq s r) k w = session_itself vars (seq s r) k (join w.kinded.0 w.kinded.1) w.kinded.4 w
equal_itself vars (rec s) k w = session_itself vars (rec s) k k.uses (session_of k w.kinded.1) w
equal_itself vars (back n) k w = session_itself vars (back n) k Many w.kinded w
equal_itself vars (var n) k w = variables
equal_itself vars (plain b) k w = base_types
equal_itself vars (arrow u s r) k w =
    functions
    (equal_itself vars s w.kinded.0.0 (record {
      kinded = w.kinded.0.1;
      contractive = w.contractive.0;
      scoped = w.scoped.0;
      ordered = w.ordered.0;
    }))
    (equal_itself vars r w.kinded.1.0 (record {
      kinded = w.kinded.1.1;
      contractive = w.contractive.1;
      scoped = w.scoped.1;
      ordered = w.ordered.1;
    }))
equal_itself vars (pair s r) k w =
    pairs
    (equal_itself vars s w.kinded.0 (record {
      kinded = w.kinded.2;
      contractive = w.contractive.0;
      scoped = w.scoped.0;
      ordered =
          w.ordered.0;
    }))
    (equal_itself vars r w.kinded.1 (record {
      kinded = w.kinded.3;
      contractive = w.contractive.1;
      scoped = w.scoped.1;
      ordered =
          w.ordered.1;
    }))
equal_itself vars (named n) k w = data_types

-- equal types are equal the other way round
pub equal_back : (vars : List Kind) {s r : Tree} → IsEqual vars s r → IsEqual vars r s
equal_back vars (sessions {s} {r} ws wr h) = sessions wr ws (λ n. agrees_back step step n s r (h n))
equal_back vars variables = variables
equal_back vars base_types = base_types
equal_back vars data_types = data_types
equal_back vars (functions a b) = functions (equal_back vars a) (equal_back vars b)
equal_back vars (pairs a b) = pairs (equal_back vars a) (equal_back vars b)

-- what equals a function is a function of the same use with equal parts
pub equal_function : (vars : List Kind) {u : Use} {s r t : Tree} → IsEqual vars (arrow u s r) t → IsFunctionLike vars u s r t
equal_function vars {u} (sessions ws wr h) = not_top ws.0 u ws.1.kinded.2
equal_function vars (functions {t = x} {v = y} a b) = record { domain = x; codomain = y; is = refl; domains = a; codomains = b }

-- what equals a pair is a pair with equal parts
pub equal_pair : (vars : List Kind) {s r t : Tree} → IsEqual vars (pair s r) t → IsPairLike vars s r t
equal_pair vars (sessions ws wr h) = not_top ws.0 _ ws.1.kinded.4
equal_pair vars (pairs {t = x} {v = y} a b) = record { first = x; second = y; is = refl; firsts = a; seconds = b }

-- what equals a base type is the base type
pub equal_base_type : (vars : List Kind) {b : Base} {t : Tree} → IsEqual vars (plain b) t → t ≡ plain b
equal_base_type vars (sessions ws wr h) = not_top ws.0 Many ws.1.kinded
equal_base_type vars base_types = refl

-- what equals a data type is the data type
pub equal_data_type : (vars : List Kind) {k : ℕ} {t : Tree} → IsEqual vars (named k) t → t ≡ named k
equal_data_type vars (sessions ws wr h) = not_top ws.0 Many ws.1.kinded
equal_data_type vars data_types = refl

-- what equals a variable that stands for types of any values is the variable
pub equal_variable : (vars : List Kind) (u : Use) {k : ℕ} {t : Tree} → HasKind vars (var k) (top u) → IsEqual vars (var k) t →
    t ≡ var k
equal_variable vars u {k} i (sessions ws wr h) = not_top ws.0 u (one_kind vars (var k) (session ws.0) (top u) ws.1.kinded i)
equal_variable vars u i variables = refl

-- what equals a session type is a session type that agrees
pub equal_session : (vars : List Kind) {s r : Tree} → IsEqual vars s r → IsSession vars s → IsSession vars r × Agree step step s r
equal_session vars (sessions ws wr h) w = (wr, h)
equal_session vars (variables {k}) w = (w, λ n. agrees_itself step n (var k))
equal_session vars base_types w = not_top w.0 Many w.1.kinded
equal_session vars data_types w = not_top w.0 Many w.1.kinded
equal_session vars (functions {u} a b) w = not_top w.0 u w.1.kinded.2
equal_session vars (pairs a b) w = not_top w.0 _ w.1.kinded.4

-- what equals a session type moves by its labels, to equal types
pub equal_steps : (vars : List Kind) {s r : Tree} → IsEqual vars s r → IsSession vars s →
    (a : Label) (t : Tree) → step s a ≡ Some t → StepsToEqual vars r a t
equal_steps vars {s} {r} f ws a t e =
    let found = equal_session vars f ws in
    let moved = both_move (step s a) (step r a) (λ n. found.1 (suc n) a) t e in
    record {
      next = moved.0;
      steps = moved.1;
      equal = sessions (session_after vars s t a ws e) (session_after vars r moved.0 a found.0 moved.1) moved.2;
    }

-- what equals the second of two equal types equals the first
pub equal_through : (vars : List Kind) {s r t : Tree} → IsEqual vars s r → IsEqual vars r t → IsEqual vars s t
equal_through vars {t} (sessions {s} {r} ws wr h) f =
    let found = equal_session vars f wr in
    sessions ws found.0 (λ n. agrees_through step step step n s r t (h n) (found.1 n))
equal_through vars variables f = f
equal_through vars base_types f = f
equal_through vars data_types f = f
equal_through vars (functions {u} {s} {r} a b) f =
    let found = equal_function vars f in
    subst (λ t. IsEqual vars (arrow u s r) t) (sym found.is)
    (functions (equal_through vars a found.domains) (equal_through vars b found.codomains))
equal_through vars (pairs {s} {r} a b) f =
    let found = equal_pair vars f in
    subst (λ t. IsEqual vars (pair s r) t) (sym found.is)
    (pairs (equal_through vars a found.firsts) (equal_through vars b found.seconds))

module _ (outer vars : List Kind) (args : List Tree) (i : IsInstantiation outer vars args) where
  -- instances of equal types are equal
  pub instances_equal : {s r : Tree} → IsEqual vars s r → IsEqual outer (instantiated args s) (instantiated args r)
  instances_equal (sessions {s} {r} ws wr h) =
      sessions (instantiated_session outer vars args s i ws) (instantiated_session outer vars args r i wr)
      (λ n. instances_agree outer vars args i n s r ws wr h)
  instances_equal (variables {k = n}) =
      put_have (λ t. IsEqual outer t t) outer vars args (λ m. variables) (λ t j w. equal_itself outer t j w) i n
  instances_equal base_types = base_types
  instances_equal data_types = data_types
  instances_equal (functions first second) = functions (instances_equal first) (instances_equal second)
  instances_equal (pairs first second) = pairs (instances_equal first) (instances_equal second)
