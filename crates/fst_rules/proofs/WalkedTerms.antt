-- The walk over a term and a derivation decides which linear variables the derivation has.
use Rattle.std.proofs.Common.{◌≡◌, ◌∙◌, List, [], ◌∷◌, length, Some, refl, ap, Bool, suc}
use Rattle.fst_types.specs.declared.base.Base.TheVariants.{Int, Bool as Truth, Char, Unit as Nothing}
use Rattle.fst_terms.specs.CoreTree.{CoreTree, local, global, int, bool, char, unit, pair, make, lambda, apply, let_in, split, if_else, case_of, operate, negate, new, send, receive, close, wait, select, match_with, fork, seq, CoreList, no_terms, term, CoreArms, no_arms, arm}
use Rattle.fst_context.specs.Vars.{Vars, outside}
use Rattle.fst_context.specs.Scope.{Scope, mark, Takes}
use Rattle.fst_derivations.specs.Deriv.{Deriv}
use Rattle.fst_derivations.specs.Rules.{Surroundings}
use Rattle.fst_rules.specs.Walks.{walk_of, Keeps}
use Rattle.fst_rules.proofs.Walked.{Parts, Rows, parts, local_rows, plain_rows, global_rows, new_rows, negate_rows, receive_rows, close_rows, wait_rows, select_rows, fork_rows, pair_rows, apply_rows, operate_rows, send_rows, seq_rows}
use Rattle.fst_rules.proofs.WalkedFields.{Lists, no_terms_lists, term_lists, make_rows}
use Rattle.fst_rules.proofs.WalkedArms.{All, Furthers, no_all, arm_all, no_furthers, one_further, case_rows, match_rows}
use Rattle.fst_rules.proofs.WalkedInside.{lambda_rows, let_rows, split_rows, if_rows}

mutual
  pub walked : (m : Surroundings) (e : CoreTree) → Rows m e
  walked m (local at k) = local_rows m at k
  walked m (global at k ks) = global_rows m at k ks
  walked m (int at n) = λ g t ds. plain_rows m Int g t ds
  walked m (bool at b) = λ g t ds. plain_rows m Truth g t ds
  walked m (char at n) = λ g t ds. plain_rows m Char g t ds
  walked m (unit at) = λ g t ds. plain_rows m Nothing g t ds
  walked m (pair at a b) = pair_rows m at a b (parts m a (walked m a)) (parts m b (walked m b))
  walked m (make at n k es) = make_rows m at n k es (walked_list m es)
  walked m (lambda at uses k x a) = lambda_rows m at uses k x a (parts m a (walked m a))
  walked m (apply at a b) = apply_rows m at a b (parts m a (walked m a)) (parts m b (walked m b))
  walked m (let_in at x a b) = let_rows m at x a b (parts m a (walked m a)) (parts m b (walked m b))
  walked m (split at x y a b) = split_rows m at x y a b (parts m a (walked m a)) (parts m b (walked m b))
  walked m (if_else at a b c) = if_rows m at a b c (parts m a (walked m a)) (parts m b (walked m b)) (parts m c (walked m c))
  walked m (case_of at a bs) = case_rows m at a bs (parts m a (walked m a)) (walked_arms m bs)
  walked m (operate at o a b) = operate_rows m at o a b (parts m a (walked m a)) (parts m b (walked m b))
  walked m (negate at a) = negate_rows m at a (parts m a (walked m a))
  walked m (new at k) = new_rows m at k
  walked m (send at a b) = send_rows m at a b (parts m a (walked m a)) (parts m b (walked m b))
  walked m (receive at a) = receive_rows m at a (parts m a (walked m a))
  walked m (close at a) = close_rows m at a (parts m a (walked m a))
  walked m (wait at a) = wait_rows m at a (parts m a (walked m a))
  walked m (select at l a) = select_rows m at l a (parts m a (walked m a))
  walked m (match_with at a bs) = match_rows m at a bs (parts m a (walked m a)) (walked_arms m bs)
  walked m (fork at a) = fork_rows m at a (parts m a (walked m a))
  walked m (seq at a b) = seq_rows m at a b (parts m a (walked m a)) (parts m b (walked m b))

  pub walked_list : (m : Surroundings) (es : CoreList) → Lists m es
  walked_list m no_terms = no_terms_lists m
  walked_list m (term e es) = term_lists m e es (parts m e (walked m e)) (walked_list m es)

  pub walked_arms : (m : Surroundings) (bs : CoreArms) → All m bs
  walked_arms m no_arms = no_all m
  walked_arms m (arm l xs e bs) = arm_all m l xs e bs (parts m e (walked m e)) (walked_further m bs)

  pub walked_further : (m : Surroundings) (bs : CoreArms) → Furthers m bs
  walked_further m no_arms = no_furthers m
  walked_further m (arm l xs e bs) = one_further m l xs e bs (parts m e (walked m e)) (walked_further m bs)

-- a derivation's walk decides
pub derived : (m : Surroundings) (e : CoreTree) → Parts m e
derived m e = parts m e (walked m e)

marked : (u : Vars) (bs : List Bool) → length (mark u bs) ≡ length bs
marked u [] = refl
marked u (b ∷ bs) = ap suc (marked (outside u) bs)

pub takes_keep : {P : Vars → Type 0} (s r : Scope) → Takes P s r → Keeps s r
takes_keep s r t = record {
  names = ap (λ z. z.names) t.rest;
  variables = ap (λ z. z.variables) t.rest;
  bodies = ap (λ z. z.bodies) t.rest;
  marks = ap (λ z. length z.there) t.rest ∙ marked t.used s.there;
}

pub keeps : (m : Surroundings) (e : CoreTree) (d : Deriv) (s r : Scope) → walk_of m e d s ≡ Some r → Keeps s r
keeps m e d s r h = takes_keep s r ((derived m e s.variables d).sound s r refl h)
