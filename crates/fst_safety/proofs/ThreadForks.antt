-- A thread that forks another.
use Rattle.std.proofs.Common.{◌≡◌, ◌∙◌, inr, ◌<◌, ◌≤◌, ℕ, zero, suc, ◌+◌, List, [], ◌∷◌, ◌++◌, Bool, true, false, Option, Some, Contains, refl, sym, ap, subst, arith}
use Rattle.std.specs.Prelude.{sum_by, All, IsPermutation}
use Rattle.std.proofs.lemmas.List.{append-nil, append_assoc}
use Rattle.std.proofs.lemmas.List.Elements.{All-nil, All-cons, All-head, All-tail, All-weaker}
use Rattle.std.proofs.lemmas.List.Sorted.{All-permutation, sum_by-IsPermutation}
use Rattle.std.proofs.lemmas.List.Sums.{sum_by-append}
use Rattle.fst_types.specs.Tree.{Tree, skip}
use Rattle.fst_types.specs.declared.side.Side.TheVariants.{Left, Right}
use Rattle.fst_kinds.specs.WellFormed.{IsSession}
use Rattle.fst_lts.specs.Step.{terminated}
use Rattle.fst_derivations.specs.Rules.{Surroundings}
use Rattle.fst_types.specs.declared.ends.EndName.{EndName}
use Rattle.fst_machine.specs.declared.request.Request.TheVariants as request
use Rattle.fst_machine.specs.declared.request.Answer.TheVariants.{Forked}
use Rattle.fst_machine.specs.Machine.{State, pause, child, or_lost, answered}
use Rattle.fst_machine.specs.Machine as machine
use Rattle.fst_runs.specs.Configs.{Path, Task, child_path, new_task}
use Rattle.fst_runs.specs.Wrong.{held_state, IsUnspent}
use Rattle.fst_runs.proofs.Laws.{no_parent, follows_more, opened_more}
use Rattle.fst_cell.specs.End.{EndView, end_name, residual_of}
use Rattle.fst_runs.specs.declared.log.LogEntry.{LogEntry}
use Rattle.fst_safety.specs.Running.{Equals}
use Rattle.fst_safety.specs.Fitting.{Residuals}
use Rattle.fst_safety.specs.WellTyped.{IsWellTyped, program_in}
use Rattle.fst_runs.specs.Logs.{Birth, Enters, after_entry, birth_of}
use Rattle.fst_safety.specs.Threads.{Thread, FitsIn, FitsEnd, IsOpen, IsSpent, AreResiduals, IsNamedBelow, count_of, IsPast}
use Rattle.fst_safety.specs.Turns.{Turn, AreKnownSpent, of_ends, birth, by_type, by_cell, by_exchanges}
use Rattle.fst_safety.proofs.BagLaws.{counted, count_first, counts_itself, stands_there, there, unspent_in}
use Rattle.fst_safety.proofs.Answered.{Parts, held_before, child_before, forked_typed}
use Rattle.fst_safety.proofs.StillLaws.{Still, typed_still}
use Rattle.fst_safety.proofs.Pasts.{later_past}
use Rattle.fst_safety.proofs.ThreadTurns.{later_all}
use Rattle.fst_safety.proofs.SpentEnds.{skip_session, ended_equal}
use Rattle.fst_safety.proofs.Equals.{equals_itself, session_formed}

-- a residual where an end stands, and that of a spent one elsewhere
abbrev pub kept_by : ℕ → Option Tree → Option Tree
kept_by zero o = Some skip
kept_by (suc n) o = o

-- the residuals of some of the ends
abbrev pub among : List EndView → Residuals → Residuals
among es r z = kept_by (count_of z es) (r z)

kept_here : (n : ℕ) (o : Option Tree) → 0 < n → kept_by n o ≡ o
kept_here zero o h = absurd (omega (arith, h))
kept_here (suc n) o h = refl

kept_out : (n : ℕ) (o : Option Tree) → n ≡ 0 → kept_by n o ≡ Some skip
kept_out zero o h = refl
kept_out (suc n) o h = absurd (omega (arith, h))

are_among : (es : List EndView) (r : Residuals) → All
    (λ (e : EndView). (r (end_name e) ≡ residual_of e.knows) × (0 < count_of (end_name e) es)) es → AreResiduals es (among es r)
are_among es r h = record {
  known = All-weaker (λ (e : EndView). (r (end_name e) ≡ residual_of e.knows) × (0 < count_of (end_name e) es))
      (λ (e : EndView). among es r (end_name e) ≡ residual_of e.knows)
      (λ e g. kept_here (count_of (end_name e) es) (r (end_name e)) g.1 ∙ g.0) es h;
  others = λ x n. kept_out (count_of x es) (r x) n;
}

module _ (m : Surroundings) (well : IsWellTyped m) (a : Tree) (x : Thread) (fits : FitsIn m a x)
    (asks : machine.request m.families x.now.state ≡ Some request.Fork)
    (b : State) (ch : child (pause m.families x.now.state) ≡ Some b) (s : State)
    (told : answered (program_in m) x.now.state Forked ≡ Some s)
    (names : List EndName) (mine theirs : List EndView) (all : IsPermutation x.bag (mine ++ theirs))
    (gone : (z : EndName) → Contains names z → count_of z mine ≡ 0)
    (moved : All (λ (e : EndView). Contains names (end_name e)) theirs)
    (names_are : (z : EndName) → (Contains names z → 0 < held_state z b) × (0 < held_state z b → Contains names z)) where
  abbrev entry : LogEntry
  entry = record { asked = request.Fork; answer = Forked; stamp = suc x.now.clock }

  abbrev pub forked_on : Thread
  forked_on = record {
    path = x.path;
    first = x.first;
    log = x.log ++ entry ∷ [];
    now = after_entry (program_in m) x.now entry;
    bag = mine;
    retired = x.retired;
  }

  abbrev pub begun : Thread
  begun = record {
    path = child_path x.path x.now.forked;
    first = new_task b (suc x.now.clock);
    log = [];
    now = new_task b (suc x.now.clock);
    bag = theirs;
    retired = [];
  }

  abbrev s' : State
  s' = forked_on.now.state

  enters : Enters (program_in m) x.path x.now entry
  enters = record { asked = asks; is_answered = refl; state = s; leads = told }

  there_is : answered (program_in m) x.now.state Forked ≡ Some s'
  there_is = told ∙ ap (λ o. Some (or_lost o)) (sym told)

  abbrev r : Residuals
  r = fits.typed.residuals

  parts : Parts m well x.now.state fits.typed.type s' r b
  parts = forked_typed m well x.now.state fits.typed.type s' r b fits.typed.typed ch there_is

  split : (w : EndView → ℕ) → sum_by w x.bag ≡ sum_by w mine + sum_by w theirs
  split w = sym (sum_by-IsPermutation w x.bag (mine ++ theirs) all) ∙ sum_by-append w mine theirs

  -- an end that the child holds isn't the parent's any more
  child_has : (z : EndName) → 0 < held_state z b → count_of z mine ≡ 0
  child_has z h = gone z ((names_are z).1 h)

  theirs_held : (z : EndName) → 0 < count_of z theirs → 0 < held_state z b
  theirs_held z h =
      let g = there (λ (e : EndView). Contains names (end_name e)) z theirs h moved in
      subst (λ w. 0 < held_state w b) g.1 ((names_are (end_name g.0)).0 g.2)

  was_unspent : (z : EndName) → 0 < count_of z x.bag → IsUnspent r z
  was_unspent z h = unspent_in r x.bag fits.unspent fits.typed.are z h

  once_mine : (z : EndName) → 0 < count_of z mine → (count_of z mine ≡ 1) × (held_state z s' ≡ 1)
  once_mine z h = go (held_state z b) refl
    where
      q : count_of z x.bag ≡ count_of z mine + count_of z theirs
      q = split (counted z)

      go : (n : ℕ) → held_state z b ≡ n → (count_of z mine ≡ 1) × (held_state z s' ≡ 1)
      go zero i =
          let o = fits.once z (omega (arith, h, q)) in
          let p = parts.2 z (was_unspent z (omega (arith, h, q))) in
          let o0 = o.0 in
          let o1 = o.1 in
          (omega (arith, h, q, o0), omega (arith, p, o1, i))
      go (suc n) i = let c = child_has z (omega (arith, i)) in absurd (omega (arith, c, h))

  once_theirs : (z : EndName) → 0 < count_of z theirs → (count_of z theirs ≡ 1) × (held_state z b ≡ 1)
  once_theirs z h =
      let q = split (counted z) in
      let k = theirs_held z h in
      let o = fits.once z (omega (arith, h, q)) in
      let p = parts.2 z (was_unspent z (omega (arith, h, q))) in
      let o0 = o.0 in
      let o1 = o.1 in
      (omega (arith, h, q, o0), omega (arith, p, o1, k))

  -- an end that the parent holds and that isn't its own has nothing left to do, and so it is with the child
  mine_else : (z : EndName) → 0 < held_state z s' → count_of z mine ≡ 0 → count_of z x.bag ≡ 0
  mine_else z h n = go (count_of z theirs) refl
    where
      q : count_of z x.bag ≡ count_of z mine + count_of z theirs
      q = split (counted z)

      go : (k : ℕ) → count_of z theirs ≡ k → count_of z x.bag ≡ 0
      go zero i = omega (arith, q, i, n)
      go (suc k) i =
          let t = theirs_held z (omega (arith, i)) in
          let o = (fits.once z (omega (arith, q, i))).1 in
          let p = parts.2 z (was_unspent z (omega (arith, q, i))) in
          absurd (omega (arith, h, t, o, p))

  theirs_else : (z : EndName) → 0 < held_state z b → count_of z theirs ≡ 0 → count_of z x.bag ≡ 0
  theirs_else z h n = let q = split (counted z) in let c = child_has z h in omega (arith, q, c, n)

  -- where an end isn't among some, its residual is that of a spent one, up to equality
  still_among : (es : List EndView) (t : State) →
      ((z : EndName) → 0 < held_state z t → count_of z es ≡ 0 → count_of z x.bag ≡ 0) → Still m r (among es r)
      (λ z. held_state z t)
  still_among es t else_none z u e k n = go (count_of z es) refl
    where
      some : (j : ℕ) → held_state z t ≡ j → 0 < j
      some zero q = absurd (n q)
      some (suc j) q = omega arith

      done : (c : Bool) → terminated u ≡ c → count_of z es ≡ 0 → terminated u ≡ true
      done true q i = q
      done false q i =
          let st = stands_there r x.bag fits.typed.are z u e q in
          let no = else_none z (some (held_state z t) refl) i in
          absurd (omega (arith, st, no))

      go : (j : ℕ) → count_of z es ≡ j → (v : Tree) × (kept_by (count_of z es) (r z) ≡ Some v) × IsSession [] v × Equals v u
      go zero i = (skip, kept_out (count_of z es) (r z) i, skip_session, ended_equal u k (done (terminated u) refl i))
      go (suc j) i = (u, kept_here (count_of z es) (r z) (omega (arith, i)) ∙ e, k, equals_itself u (session_formed k))

  abbrev both : EndView → Type 0
  both e = (r (end_name e) ≡ residual_of e.knows) × (0 < count_of (end_name e) x.bag)

  parted : (P : EndView → Type 0) → All P x.bag → All P mine × All P theirs
  parted P h = let g = All-permutation P x.bag (mine ++ theirs) all h in (front mine theirs g, back mine theirs g)
    where
      front : (xs ys : List EndView) → All P (xs ++ ys) → All P xs
      front [] ys g = All-nil P
      front (e ∷ xs) ys g = All-cons P e xs (All-head P e (xs ++ ys) g) (front xs ys (All-tail P e (xs ++ ys) g))

      back : (xs ys : List EndView) → All P (xs ++ ys) → All P ys
      back [] ys g = g
      back (e ∷ xs) ys g = back xs ys (All-tail P e (xs ++ ys) g)

  -- each end of a list stands there
  stand : (es : List EndView) → All (λ (e : EndView). 0 < count_of (end_name e) es) es
  stand [] = All-nil _
  stand (e ∷ es) =
      All-cons (λ (d : EndView). 0 < count_of (end_name d) (e ∷ es)) e es
      (let c = count_first (end_name e) e es in let o = counts_itself e in omega (arith, c, o))
      (All-weaker (λ (d : EndView). 0 < count_of (end_name d) es) (λ (d : EndView). 0 < count_of (end_name d) (e ∷ es))
      (λ d h. let c = count_first (end_name d) e es in omega (arith, c, h)) es (stand es))

  are_of : (es : List EndView) → All (λ (e : EndView). r (end_name e) ≡ residual_of e.knows) es → AreResiduals es (among es r)
  are_of es h = are_among es r (λ k d l. (h k d l, stand es k d l))

  mine_before : (z : EndName) → 0 < held_state z s' → 0 < held_state z x.now.state
  mine_before z = held_before (program_in m) x.now.state s' Forked z there_is (λ i. cc i)

  theirs_before : (z : EndName) → 0 < held_state z b → 0 < held_state z x.now.state
  theirs_before z = child_before m.families x.now.state b z ch

  ends_later : (u : Task) → x.now.clock ≤ u.clock → All (FitsEnd m u) x.bag
  ends_later u le = later_all m a x fits u le request.Fork asks (λ z ev q. absurd (cc q))

  pub forked_fits : FitsIn m a forked_on
  forked_fits = record {
    none_made = fits.none_made;
    none_forked = fits.none_forked;
    follows = follows_more (program_in m) x.path x.first x.log x.now entry fits.follows enters;
    typed = record {
      residuals = among mine r;
      are = are_of mine (parted (λ (e : EndView). r (end_name e) ≡ residual_of e.knows) fits.typed.are.known).0;
      type = fits.typed.type;
      typed = typed_still m r (among mine r) s' fits.typed.type parts.0 (still_among mine s' mine_else);
      main = fits.typed.main;
    };
    unspent = (parted IsOpen fits.unspent).0;
    once = once_mine;
    named = λ z k. fits.named z (mine_before z k);
    ends = (parted (FitsEnd m forked_on.now) (ends_later forked_on.now (omega arith))).0;
    spent = fits.spent;
    past = later_past x.now.clock forked_on.now.clock (omega arith) x.retired fits.past;
    opened = opened_more m.types x.log entry x.now.made forked_on.now.made fits.opened (omega arith);
    made = let c = fits.made in omega (arith, c);
    forked = let c = fits.forked in omega (arith, c);
  }

  child_named : (z : EndName) → 0 < held_state z b → IsNamedBelow begun.path 0 z
  child_named z k =
      let o = fits.named z (theirs_before z k) in
      record {
        behind = o.behind ++ suc x.now.forked ∷ [];
        leads = ap (λ (p : Path). p ++ suc x.now.forked ∷ []) o.leads
            ∙ append_assoc z.channel.maker o.behind (suc x.now.forked ∷ []);
        own = λ q. absurd (never o.behind q);
      }
    where
      never : (xs : List ℕ) → xs ++ suc x.now.forked ∷ [] ≡ [] → ⊥
      never [] q = absurd (cc q)
      never (y ∷ xs) q = absurd (cc q)

  pub begun_fits : FitsIn m a begun
  begun_fits = record {
    none_made = refl;
    none_forked = refl;
    follows = refl;
    typed = record {
      residuals = among theirs r;
      are = are_of theirs (parted (λ (e : EndView). r (end_name e) ≡ residual_of e.knows) fits.typed.are.known).1;
      type = parts.1.0;
      typed = typed_still m r (among theirs r) b parts.1.0 parts.1.1 (still_among theirs b theirs_else);
      main = λ q. absurd (no_parent x.path x.now.forked q);
    };
    unspent = (parted IsOpen fits.unspent).1;
    once = once_theirs;
    named = child_named;
    ends = (parted (FitsEnd m begun.now) (ends_later begun.now (omega arith))).1;
    spent = All-nil IsSpent;
    past = All-nil (IsPast begun.now.clock);
    opened = refl;
    made = omega arith;
    forked = omega arith;
  }

  born_is : (w : Birth → ℕ) → sum_by w (birth_of (child_path x.path x.now.forked) (suc x.now.clock)
      (child (pause m.families x.now.state)) ++ []) ≡ w (birth begun)
  born_is w = ap (λ o. sum_by w (birth_of (child_path x.path x.now.forked) (suc x.now.clock) o ++ [])) ch ∙ omega arith

  one : (w : Thread → ℕ) → sum_by w (begun ∷ []) ≡ w begun
  one w = omega arith

  pub forked_turn : Turn m x forked_on (begun ∷ [])
  forked_turn = record {
    gained = entry ∷ [];
    log = refl;
    path = refl;
    first = refl;
    idle = All-cons (λ (k : Thread). k.log ≡ []) begun [] refl (All-nil (λ (k : Thread). k.log ≡ []));
    born = λ w. let c = born_is w in let d = one (λ (k : Thread). w (birth k)) in omega (arith, c, d);
    typed = λ s w. let c = split (by_type s w) in let d = one (of_ends (by_type s w)) in omega (arith, c, d);
    cells = λ w.
        let c = split (by_cell Left w) in
        let d = split (by_cell Right w) in
        let e = one (of_ends (by_cell Left w)) in
        let f = one (of_ends (by_cell Right w)) in
        omega (arith, c, d, e, f);
    exchanged = λ w. let c = split (by_exchanges w) in let d = one (of_ends (by_exchanges w)) in omega (arith, c, d);
    spent = [];
    kept = sym (append-nil x.retired);
    known = λ z h c. inr (mine_before z h, mine_else z h c);
    known_new = All-cons (AreKnownSpent x forked_on) begun []
        (λ z h c. inr (theirs_before z h, theirs_else z h c)) (All-nil (AreKnownSpent x forked_on));
  }
