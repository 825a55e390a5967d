-- A term with numbers in place of names, without where it lies in memory.
use Rattle.std.specs.Prelude.{ℕ, ℤ, Bool, List, suc, max}
use Rattle.fst_types.specs.declared.kind.Use.{Use}
use Rattle.fst_terms.specs.declared.binder.Binder.{Binder}
use Rattle.fst_terms.specs.declared.term.Op.{Op}

mutual
  -- a term; the first number is the byte at which its first token begins
  pub data CoreTree : Type 0 where
    local : ℕ → ℕ → CoreTree
    global : ℕ → ℕ → List ℕ → CoreTree
    int : ℕ → ℤ → CoreTree
    bool : ℕ → Bool → CoreTree
    char : ℕ → ℕ → CoreTree
    unit : ℕ → CoreTree
    pair : ℕ → CoreTree → CoreTree → CoreTree
    make : ℕ → ℕ → ℕ → CoreList → CoreTree
    lambda : ℕ → Use → ℕ → Binder → CoreTree → CoreTree
    apply : ℕ → CoreTree → CoreTree → CoreTree
    let_in : ℕ → Binder → CoreTree → CoreTree → CoreTree
    split : ℕ → Binder → Binder → CoreTree → CoreTree → CoreTree
    if_else : ℕ → CoreTree → CoreTree → CoreTree → CoreTree
    case_of : ℕ → CoreTree → CoreArms → CoreTree
    operate : ℕ → Op → CoreTree → CoreTree → CoreTree
    negate : ℕ → CoreTree → CoreTree
    new : ℕ → ℕ → CoreTree
    send : ℕ → CoreTree → CoreTree → CoreTree
    receive : ℕ → CoreTree → CoreTree
    close : ℕ → CoreTree → CoreTree
    wait : ℕ → CoreTree → CoreTree
    select : ℕ → List ℕ → CoreTree → CoreTree
    match_with : ℕ → CoreTree → CoreArms → CoreTree
    fork : ℕ → CoreTree → CoreTree
    seq : ℕ → CoreTree → CoreTree → CoreTree

  -- the arguments of a constructor in the order in which they were written
  pub data CoreList : Type 0 where
    no_terms : CoreList
    term : CoreTree → CoreList → CoreList

  -- the arms of a case or a match in the order in which they were written: a constructor or a label, the variables
  -- that it binds, what follows, and the arms after it
  pub data CoreArms : Type 0 where
    no_arms : CoreArms
    arm : List ℕ → List Binder → CoreTree → CoreArms → CoreArms

abbrev mutual
  -- how many nodes the longest way down from the top has
  pub core_height : CoreTree → ℕ
  core_height (local at k) = 1
  core_height (global at k ts) = 1
  core_height (int at n) = 1
  core_height (bool at b) = 1
  core_height (char at c) = 1
  core_height (unit at) = 1
  core_height (pair at s t) = suc (max (core_height s) (core_height t))
  core_height (make at f k ts) = suc (cores_height ts)
  core_height (lambda at u a x t) = suc (core_height t)
  core_height (apply at s t) = suc (max (core_height s) (core_height t))
  core_height (let_in at x s t) = suc (max (core_height s) (core_height t))
  core_height (split at x y s t) = suc (max (core_height s) (core_height t))
  core_height (if_else at s t u) = suc (max (core_height s) (max (core_height t) (core_height u)))
  core_height (case_of at t bs) = suc (max (core_height t) (core_arms_height bs))
  core_height (operate at o s t) = suc (max (core_height s) (core_height t))
  core_height (negate at t) = suc (core_height t)
  core_height (new at a) = 1
  core_height (send at s t) = suc (max (core_height s) (core_height t))
  core_height (receive at t) = suc (core_height t)
  core_height (close at t) = suc (core_height t)
  core_height (wait at t) = suc (core_height t)
  core_height (select at l t) = suc (core_height t)
  core_height (match_with at t bs) = suc (max (core_height t) (core_arms_height bs))
  core_height (fork at t) = suc (core_height t)
  core_height (seq at s t) = suc (max (core_height s) (core_height t))

  -- the height of the highest argument
  pub cores_height : CoreList → ℕ
  cores_height no_terms = 0
  cores_height (term t ts) = max (core_height t) (cores_height ts)

  -- the height of the highest arm
  pub core_arms_height : CoreArms → ℕ
  core_arms_height no_arms = 0
  core_arms_height (arm l xs t bs) = max (core_height t) (core_arms_height bs)
