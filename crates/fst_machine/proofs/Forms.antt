-- Form by form: the code of a term stands for it, where that of its parts does.
use Rattle.std.proofs.Common.{◌≡◌, ℕ, zero, suc, Bool, true, false, not, List, ◌∷◌, refl, sym, ap, ◌∙◌, subst}
use Rattle.std.proofs.lemmas.Bool.{or_left, or_right}
use Rattle.fst_terms.specs.declared.binder.Binder.{Binder}
use Rattle.fst_terms.specs.declared.term.Op.{Op}
use Rattle.fst_terms.specs.CoreTree.{CoreTree, local, int, bool, char, unit, pair, lambda, let_in, split, if_else, operate, negate, seq}
use Rattle.fst_value.specs.ValueTree as tree
use Rattle.fst_value.specs.ValueTree.{ValueTree, ValueTrees}
use Rattle.fst_machine.specs.declared.code.Instr.TheVariants as instr
use Rattle.fst_machine.specs.Free.{free, outside}
use Rattle.fst_machine.specs.Values as value
use Rattle.fst_machine.specs.Values.{Value, Values, Environment, lookup, enter, keep, bool_in}
use Rattle.fst_machine.specs.Machine.{Frame, at_first, at_second, at_let, at_split, at_if, at_left, at_right, at_not, at_seq, eval, resume, on, chosen, in_either}
use Rattle.fst_machine.specs.Code.{Compiled, Computes, also}
use Rattle.fst_machine.specs.Spots.{Slots, Call, joined, collected, captured_count}
use Rattle.fst_machine.specs.Standing.{MeansSlots, StandsFor}
use Rattle.fst_machine.proofs.Steps.{spot, stepped}
use Rattle.fst_machine.proofs.Slots.{is_itself, part, in_also, in_behind}
use Rattle.fst_machine.proofs.Moves.{pushed, captured_collected, loaded, captures, led}
use Rattle.fst_machine.proofs.Goods.{Awaits, Good, later, then_part}
use Rattle.fst_machine.proofs.Binding.{below_one, below_two}
use Rattle.fst_machine.proofs.Operators.{operate_stands}
use Rattle.fst_machine.proofs.Shapes.{pair_stands, truth_stands}
use Rattle.fst_machine.proofs.Arms.{branch_stands}

module _ (n : ℕ) (c : Compiled) where
  -- the first part of a term
  pub first_part : (e : CoreTree) (i j : ℕ) (p q : ℕ → Bool) (env : Environment) (slots : Slots) (ops : List ValueTree)
      (calls : List Call) (fs : List Frame) →
      Good n c e → Computes c i e p j → MeansSlots c q slots env →
      ((k : ℕ) → free e k ≡ true → q k ≡ true) → Awaits n c j p slots ops calls fs →
      StandsFor n c (spot i slots ops calls) (eval c.families e (keep (free e) env) fs (resume c.families fs))
  first_part e i j p q env slots ops calls fs g h m u k =
      g i j p (keep (free e) env) slots ops calls fs h (part c q (free e) slots slots env m u (λ l a. refl)) k

  -- a variable
  pub local_good : (at k : ℕ) → Good n c (local at k)
  local_good at k i j p env slots ops calls fs h m g =
      let v = m.meant k (is_itself k) in
      subst (λ o. StandsFor n c (spot i slots ops calls) (on o (resume c.families fs))) (sym v.3)
      (loaded n c i j k p slots ops calls v.0 (resume c.families fs v.1) h v.2 (λ os a b. g v.0 v.1 os v.4 a))

  -- a number that is written in the term
  pub int_good : (at : ℕ) (m : _) → Good n c (int at m)
  int_good at m i j p env slots ops calls fs h s k =
      stepped n c i (instr.Int m) j slots ops calls (spot j slots (tree.int m ∷ ops) calls) _ h refl
      (k (tree.int m) (value.int m) slots refl (λ l a. refl))

  -- a truth value
  pub bool_good : (at : ℕ) (b : Bool) → Good n c (bool at b)
  bool_good at b i j p env slots ops calls fs h s k =
      stepped n c i (instr.Bool b) j slots ops calls (spot j slots (tree.bool b ∷ ops) calls) _ h refl
      (k (tree.bool b) (value.bool b) slots refl (λ l a. refl))

  -- a character
  pub char_good : (at m : ℕ) → Good n c (char at m)
  char_good at m i j p env slots ops calls fs h s k =
      stepped n c i (instr.Char m) j slots ops calls (spot j slots (tree.char m ∷ ops) calls) _ h refl
      (k (tree.char m) (value.char m) slots refl (λ l a. refl))

  -- the value of type Unit
  pub unit_good : (at : ℕ) → Good n c (unit at)
  unit_good at i j p env slots ops calls fs h s k =
      stepped n c i instr.Unit j slots ops calls (spot j slots (tree.unit ∷ ops) calls) _ h refl
      (k tree.unit value.unit slots refl (λ l a. refl))

  -- a pair
  pub pair_good : (at : ℕ) (e f : CoreTree) → Good n c e → Good n c f → Good n c (pair at e f)
  pair_good at e f ge gf i j p env slots ops calls fs h m k =
      first_part e i h.0 (also (free f) p) (free (pair at e f)) env slots ops calls (at_first f (keep (free f) env) ∷ fs) ge h.2 m
      (λ l g. or_left (free e l) (free f l) g)
      (λ x v os mx a.
      then_part n c f h.0 h.1 p (free (pair at e f)) env slots os (x ∷ ops) calls (at_second v ∷ fs) gf h.3 m
      (λ l g. or_right (free e l) (free f l) g) a
      (λ y w ot my b.
      stepped n c h.1 instr.Pair j ot (y ∷ x ∷ ops) calls (spot j ot (tree.pair x y ∷ ops) calls) _ h.4 refl
      (k (tree.pair x y) (value.pair v w) ot (v, w, refl, mx, my) b)))

  -- a function
  pub lambda_good : (at : ℕ) (u : _) (t : ℕ) (x : Binder) (e : CoreTree) → Good n c (lambda at u t x e)
  lambda_good at u t x e i j p env slots ops calls fs h m k =
      captures n c h.1.captured.items i h.2 p slots ops calls env _ h.8 h.7.apart (λ l g. m.meant l (sym (h.7.members l) ∙ g))
      (λ os xs a mc.
      stepped n c h.2 (instr.Function h.0) h.3 os (pushed xs ops) calls (spot h.3 os (tree.function h.0 xs ∷ ops) calls) _ h.9
      (ap (λ o. joined h.3 (collected (captured_count o) (pushed xs ops) tree.none) (tree.function h.0)
      (spot h.2 os (pushed xs ops) calls)) h.6
      ∙ ap (λ z. joined h.3 z (tree.function h.0) (spot h.2 os (pushed xs ops) calls))
      (captured_collected c xs h.1.captured.items env ops mc))
      (led n c h.3 j os (tree.function h.0 xs ∷ ops) calls _ h.10
      (k (tree.function h.0 xs) (value.function e env) os (
        e,
        env,
        record {
          entry = h.1;
          body = h.4;
          back = h.5;
          last = h.13.0;
          there = h.6;
          listed = h.7;
          binds = h.11;
          computes =
              h.12;
          returns = h.13.1;
        },
        refl,
        mc,
        m.just,
      ) a)))

  -- a value that is bound
  pub let_good : (at : ℕ) (x : Binder) (e f : CoreTree) → Good n c e → Good n c f → Good n c (let_in at x e f)
  let_good at x e f ge gf i j p env slots ops calls fs h m k =
      first_part e i h.0 (also (outside (free f)) p) (free (let_in at x e f)) env slots ops calls
      (at_let f (keep (outside (free f)) env) ∷ fs) ge h.3 m (λ l g. or_left (free e l) (free f (suc l)) g)
      (λ y v os my a.
      below_one n c f h.0 h.1 h.2 j p (free (let_in at x e f)) env slots os ops calls fs y v gf h.4 h.5 h.6 m
      (λ l g. or_right (free e l) (free f (suc l)) g) a my k)

  -- the parts of a pair that are bound
  pub split_good : (at : ℕ) (x y : Binder) (e f : CoreTree) → Good n c e → Good n c f → Good n c (split at x y e f)
  split_good at x y e f ge gf i j p env slots ops calls fs h m k =
      first_part e i h.0 (also (outside (outside (free f))) p) (free (split at x y e f)) env slots ops calls
      (at_split f (keep (outside (outside (free f))) env) ∷ fs) ge h.5 m
      (λ l g. or_left (free e l) (free f (suc (suc l))) g)
      (λ z v os mz a.
      pair_stands n c (λ t. spot h.0 os (t ∷ ops) calls)
      (λ a1 b1. eval c.families f (enter (free f zero) b1 (enter (free f (suc zero)) a1 (keep (outside (outside (free f))) env)))
      fs (resume c.families fs)) z v mz
      (λ t u w d mt mu.
      stepped n c h.0 instr.Split h.1 os (tree.pair t u ∷ ops) calls (spot h.1 os (t ∷ u ∷ ops) calls) _ h.6 refl
      (below_two n c f h.1 h.2 h.3 h.4 j p (free (split at x y e f)) env slots os ops calls fs t u w d gf h.7 h.8 h.9 h.10 m
      (λ l g. or_right (free e l) (free f (suc (suc l))) g) a mt mu k)))

  -- a term whose value is dropped
  pub seq_good : (at : ℕ) (e f : CoreTree) → Good n c e → Good n c f → Good n c (seq at e f)
  seq_good at e f ge gf i j p env slots ops calls fs h m k =
      first_part e i h.0 (also (free f) p) (free (seq at e f)) env slots ops calls (at_seq f (keep (free f) env) ∷ fs) ge h.2 m
      (λ l g. or_left (free e l) (free f l) g)
      (λ x v os mx a.
      stepped n c h.0 instr.Drop h.1 os (x ∷ ops) calls (spot h.1 os ops calls) _ h.3 refl
      (then_part n c f h.1 j p (free (seq at e f)) env slots os ops calls fs gf h.4 m
      (λ l g. or_right (free e l) (free f l) g) a k))

  -- a sign
  pub operate_good : (at : ℕ) (o : Op) (e f : CoreTree) → Good n c e → Good n c f → Good n c (operate at o e f)
  operate_good at o e f ge gf i j p env slots ops calls fs h m k =
      first_part e i h.0 (also (free f) p) (free (operate at o e f)) env slots ops calls
      (at_left o f (keep (free f) env) ∷ fs) ge h.2 m (λ l g. or_left (free e l) (free f l) g)
      (λ x v os mx a.
      then_part n c f h.0 h.1 p (free (operate at o e f)) env slots os (x ∷ ops) calls (at_right o v ∷ fs) gf h.3 m
      (λ l g. or_right (free e l) (free f l) g) a
      (λ y w ot my b. operate_stands n c o h.1 j ot ops calls fs x y v w h.4 mx my (λ z d mz. k z d ot mz b)))

  -- a truth value that is turned round
  pub negate_good : (at : ℕ) (e : CoreTree) → Good n c e → Good n c (negate at e)
  negate_good at e ge i j p env slots ops calls fs h m k =
      ge i h.0 p env slots ops calls (at_not ∷ fs) h.1 m
      (λ x v os mx a.
      truth_stands n c (λ t. spot h.0 os (t ∷ ops) calls) (λ b. resume c.families fs (value.bool (not b))) x v mx
      (λ b. stepped n c h.0 instr.Not j os (tree.bool b ∷ ops) calls (spot j os (tree.bool (not b) ∷ ops) calls) _ h.2 refl
      (k (tree.bool (not b)) (value.bool (not b)) os refl a)))

  -- a choice between two terms
  pub if_good : (at : ℕ) (e f g : CoreTree) → Good n c e → Good n c f → Good n c g → Good n c (if_else at e f g)
  if_good at e f g ge gf gg i j p env slots ops calls fs h m k =
      first_part e i h.0 (also (in_either f g) p) (free (if_else at e f g)) env slots ops calls
      (at_if f g (keep (in_either f g) env) ∷ fs) ge h.7 m
      (λ l b. or_left (free e l) (in_either f g l) b)
      (λ x v os mx a.
      let both : MeansSlots c (in_either f g) os (keep (in_either f g) env) =
      part c (free (if_else at e f g)) (in_either f g) slots os env m (λ l b. or_right (free e l) (in_either f g l) b)
      (λ l b. a l (in_also (in_either f g) p l b)) in
      let kk : Awaits n c j p os ops calls fs = later n c j p (also (in_either f g) p) slots os ops calls fs a
      (in_behind (in_either f g) p) k in
      truth_stands n c (λ t. spot h.0 os (t ∷ ops) calls)
      (λ b. chosen b (eval c.families f (keep (free f) (keep (in_either f g) env)) fs (resume c.families fs))
      (eval c.families g (keep (free g) (keep (in_either f g) env)) fs (resume c.families fs))) x v mx
      (pick os both kk))
    where
      pick : (os : Slots) → MeansSlots c (in_either f g) os (keep (in_either f g) env) → Awaits n c j p os ops calls fs →
          (b : Bool) →
          StandsFor n c (spot h.0 os (tree.bool b ∷ ops) calls)
          (chosen b (eval c.families f (keep (free f) (keep (in_either f g) env)) fs (resume c.families fs))
          (eval c.families g (keep (free g) (keep (in_either f g) env)) fs (resume c.families fs)))
      pick os both kk true =
          stepped n c h.0 (instr.Branch h.4) h.1 os (tree.bool true ∷ ops) calls (spot h.1 os ops calls) _ h.8 refl
          (branch_stands n c f h.1 h.2 h.3 j p (in_either f g) (keep (in_either f g) env) os ops calls fs gf h.9 h.10 h.11 both
          (λ l b. or_left (free f l) (free g l) b) kk)
      pick os both kk false =
          stepped n c h.0 (instr.Branch h.4) h.1 os (tree.bool false ∷ ops) calls (spot h.4 os ops calls) _ h.8 refl
          (branch_stands n c g h.4 h.5 h.6 j p (in_either f g) (keep (in_either f g) env) os ops calls fs gg h.12 h.13 h.14 both
          (λ l b. or_right (free f l) (free g l) b) kk)
