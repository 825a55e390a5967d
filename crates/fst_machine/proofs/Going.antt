-- The code of each term stands for it.
use Rattle.std.proofs.Common.{ℕ, zero, suc}
use Rattle.fst_terms.specs.CoreTree.{CoreTree, local, global, int, bool, char, unit, pair, make, lambda, apply, let_in, split, if_else, case_of, operate, negate, new, send, receive, close, wait, select, match_with, fork, seq, CoreList, no_terms, term, CoreArms, no_arms, arm}
use Rattle.fst_machine.specs.Code.{Compiled}
use Rattle.fst_machine.specs.Standing.{DistinctMakers}
use Rattle.fst_machine.proofs.Goods.{Good}
use Rattle.fst_machine.proofs.Arms.{GoodCases, no_case, one_case}
use Rattle.fst_machine.proofs.Forms.{local_good, int_good, bool_good, char_good, unit_good, pair_good, lambda_good, let_good, split_good, seq_good, operate_good, negate_good, if_good}
use Rattle.fst_machine.proofs.Asking.{send_good, receive_good, close_good, wait_good, select_good, new_good, global_good, apply_good, match_good, fork_good}
use Rattle.fst_machine.proofs.Making.{GoodAll, no_more, one_more, make_good, case_good}

module _ (n : ℕ) (c : Compiled) (dm : DistinctMakers c.families) (before : (e : CoreTree) → Good n c e) where
  mutual
    -- for a request more, where all code does for these
    pub term_goes : (e : CoreTree) → Good (suc n) c e
    term_goes (local at k) = local_good (suc n) c at k
    term_goes (global at g ts) = global_good n c before at g ts
    term_goes (int at m) = int_good (suc n) c at m
    term_goes (bool at b) = bool_good (suc n) c at b
    term_goes (char at m) = char_good (suc n) c at m
    term_goes (unit at) = unit_good (suc n) c at
    term_goes (pair at e f) = pair_good (suc n) c at e f (term_goes e) (term_goes f)
    term_goes (make at num o es) = make_good (suc n) c at num o es (terms_go es)
    term_goes (lambda at u t x e) = lambda_good (suc n) c at u t x e
    term_goes (apply at e f) = apply_good n c before at e f (term_goes e) (term_goes f)
    term_goes (let_in at x e f) = let_good (suc n) c at x e f (term_goes e) (term_goes f)
    term_goes (split at x y e f) = split_good (suc n) c at x y e f (term_goes e) (term_goes f)
    term_goes (if_else at e f g) = if_good (suc n) c at e f g (term_goes e) (term_goes f) (term_goes g)
    term_goes (case_of at e bs) = case_good (suc n) c at e bs (term_goes e) (arms_go bs)
    term_goes (operate at o e f) = operate_good (suc n) c at o e f (term_goes e) (term_goes f)
    term_goes (negate at e) = negate_good (suc n) c at e (term_goes e)
    term_goes (new at t) = new_good n c at t
    term_goes (send at e f) = send_good n c at e f (term_goes e) (term_goes f)
    term_goes (receive at e) = receive_good n c at e (term_goes e)
    term_goes (close at e) = close_good n c at e (term_goes e)
    term_goes (wait at e) = wait_good n c at e (term_goes e)
    term_goes (select at l e) = select_good n c at l e (term_goes e)
    term_goes (match_with at e bs) = match_good n c before at e bs (term_goes e)
    term_goes (fork at e) = fork_good n c before at e
    term_goes (seq at e f) = seq_good (suc n) c at e f (term_goes e) (term_goes f)

    -- so does that of arguments
    pub terms_go : (es : CoreList) → GoodAll (suc n) c es
    terms_go no_terms = no_more (suc n) c
    terms_go (term e es) = one_more (suc n) c e es (term_goes e) (terms_go es)

    -- and of arms
    pub arms_go : (bs : CoreArms) → GoodCases (suc n) c bs
    arms_go no_arms = no_case (suc n) c
    arms_go (arm key xs e bs) = one_case (suc n) c dm key xs e bs (term_goes e) (arms_go bs)

-- the code of each term stands for it, for any number of requests
pub all_go : (n : ℕ) (c : Compiled) → DistinctMakers c.families → (e : CoreTree) → Good n c e
all_go zero c dm e = λ i j p env slots ops calls fs h m k. tt
all_go (suc n) c dm e = term_goes n c dm (all_go n c dm) e
