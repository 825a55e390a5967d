-- Threads that try an end, that go on by a step, that make a channel, and that fork.
use Rattle.std.proofs.Common.{◌≡◌, ◌∙◌, inr, ◌<◌, ◌≤◌, ℕ, suc, List, [], ◌∷◌, ◌++◌, Some, refl, sym, ap, subst, arith}
use Rattle.std.specs.Prelude.{sum_by, All, IsPermutation}
use Rattle.std.proofs.lemmas.List.{append-nil}
use Rattle.std.proofs.lemmas.List.Elements.{All-nil, All-head, All-tail, All-push}
use Rattle.std.proofs.lemmas.List.Sorted.{All-permutation, sum_by-IsPermutation}
use Rattle.std.proofs.lemmas.List.Sums.{sum_by-cons, sum_by_push}
use Rattle.fst_base.proofs.Options.{some_same}
use Rattle.fst_types.specs.Tree.{Tree}
use Rattle.fst_types.specs.declared.side.Side.TheVariants.{Left, Right}
use Rattle.fst_lts.specs.Histories.{side_type}
use Rattle.fst_derivations.specs.Rules.{Surroundings}
use Rattle.fst_types.specs.declared.ends.EndName.{EndName}
use Rattle.fst_types.specs.declared.event.Event.{Event}
use Rattle.fst_machine.specs.declared.request.Request.{Request}
use Rattle.fst_machine.specs.declared.request.Request.TheVariants as request
use Rattle.fst_machine.specs.declared.request.Answer.TheVariants.{Go}
use Rattle.fst_machine.specs.Machine.{State, or_lost, answered}
use Rattle.fst_machine.specs.Machine as machine
use Rattle.fst_runs.specs.Configs.{Task, same_end}
use Rattle.fst_runs.specs.Wrong.{once, held_state}
use Rattle.fst_cell.specs.declared.content.Half.{Half}
use Rattle.fst_cell.specs.End.{EndView, end_name, residual_of}
use Rattle.fst_cell.specs.Answers.{end_with}
use Rattle.fst_lts.specs.Residuals.{residual}
use Rattle.fst_runs.specs.declared.log.LogEntry.{LogEntry}
use Rattle.fst_safety.specs.Pauses.{Goes}
use Rattle.fst_safety.specs.WellTyped.{IsWellTyped, program_in}
use Rattle.fst_runs.specs.Logs.{Enters, after_entry, parts_in}
use Rattle.fst_runs.proofs.Laws.{follows_more, opened_more}
use Rattle.fst_safety.specs.Threads.{Thread, FitsIn, FitsEnd, IsOpen, count_of}
use Rattle.fst_safety.specs.Turns.{Turn, AreKnownSpent, on_side, by_type, by_cell, by_exchanges}
use Rattle.fst_safety.proofs.BagLaws.{counted, unspent_in}
use Rattle.fst_safety.proofs.Pasts.{later_past}
use Rattle.fst_safety.proofs.ThreadLaws.{idle_end, later_ends}
use Rattle.fst_safety.proofs.Answered.{held_before, go_typed}

-- ---- nothing happens

-- ---- an end is tried

-- the end e is f now, which has exchanged no more
module _ (m : Surroundings) (a : Tree) (x : Thread) (fits : FitsIn m a x) (e : EndView) (v : Half) (rest bag : List EndView)
    (before : IsPermutation x.bag (e ∷ rest))
    (after : bag ≡ rest ++ end_with e v ∷ []) (side : v.side ≡ e.knows.side) (declared : v.declared ≡ e.knows.declared)
    (history : v.history ≡ e.knows.history)
    (fit : FitsEnd m x.now (end_with e v)) where
  abbrev f : EndView
  f = end_with e v

  abbrev pub tried : Thread
  tried = record x { bag = bag }

  same_name : end_name f ≡ end_name e
  same_name = λ i. record { channel = e.channel; side = side i }

  same_residual : residual_of f.knows ≡ residual_of e.knows
  same_residual = λ i. residual (side i) (declared i) (history i)

  sums : (w : EndView → ℕ) → w f ≡ w e → sum_by w bag ≡ sum_by w x.bag
  sums w q =
      let a = ap (sum_by w) after ∙ sum_by_push w rest f in
      let b = sum_by-IsPermutation w x.bag (e ∷ rest) before in
      let c = sum_by-cons w e rest in
      omega (arith, a, b, c, q)

  all_so : (P : EndView → Type 0) → All P x.bag → (P e → P f) → All P bag
  all_so P h k =
      let g = All-permutation P x.bag (e ∷ rest) before h in
      subst (All P) (sym after) (All-push P rest f (All-tail P e rest g) (k (All-head P e rest g)))

  same_count : (z : EndName) → count_of z bag ≡ count_of z x.bag
  same_count z = sums (counted z) (ap (λ w. once (same_end z w)) same_name)

  pub tried_fits : FitsIn m a tried
  tried_fits = record {
    none_made = fits.none_made;
    none_forked = fits.none_forked;
    follows = fits.follows;
    typed = record {
      residuals = fits.typed.residuals;
      are = record {
        known = all_so (λ (e : EndView). fits.typed.residuals (end_name e) ≡ residual_of e.knows) fits.typed.are.known
            (λ k. ap fits.typed.residuals same_name ∙ k ∙ sym same_residual);
        others = λ z c. fits.typed.are.others z (sym (same_count z) ∙ c);
      };
      type = fits.typed.type;
      typed = fits.typed.typed;
      main = fits.typed.main;
    };
    unspent = all_so IsOpen fits.unspent (λ o. record { residual = o.residual; is = same_residual ∙ o.is; left = o.left });
    once = λ z k. let c = same_count z in let o = fits.once z (omega (arith, k, c)) in (c ∙ o.0, o.1);
    named = fits.named;
    ends = all_so (FitsEnd m x.now) fits.ends (λ k. fit);
    spent = fits.spent;
    past = fits.past;
    opened = fits.opened;
    made = fits.made;
    forked = fits.forked;
  }

  pub tried_turn : Turn m x tried []
  tried_turn = record {
    gained = [];
    log = sym (append-nil x.log);
    path = refl;
    first = refl;
    idle = All-nil (λ (k : Thread). k.log ≡ []);
    born = λ w. refl;
    typed = λ s w. let a = sums (by_type s w) (λ i. on_side s (side i) (w e.channel (declared i))) in omega (arith, a);
    cells = λ w.
        let a = sums (by_cell Left w) (λ i. on_side Left (side i) (w e.channel e.cell)) in
        let b = sums (by_cell Right w) (λ i. on_side Right (side i) (w e.channel e.cell)) in
        omega (arith, a, b);
    exchanged = λ w. let a = sums (by_exchanges w)
        (λ i. sum_by w (parts_in (same_name i) (Some (side_type (side i) (declared i))) (history i))) in omega (arith, a);
    spent = [];
    kept = sym (append-nil x.retired);
    known = λ z h c. inr (h, sym (same_count z) ∙ c);
    known_new = All-nil (AreKnownSpent x tried);
  }

-- ---- a step

-- the ends that the state holds keep to the thread
pub later_all : (m : Surroundings) (a : Tree) (x : Thread) (fits : FitsIn m a x) (u : Task) → x.now.clock ≤ u.clock →
    (q : Request) → machine.request m.families x.now.state ≡ Some q →
    ((z : EndName) (ev : Event) → q ≡ request.Put z ev → ⊥) → All (FitsEnd m u) x.bag
later_all m a x fits u le q asks never = later_ends m x.now u le x.bag fits.ends
    (λ e fit own k. idle_end m x.now e fit (λ ev p. never (end_name e) ev (some_same (sym asks ∙ p))))

module _ (m : Surroundings) (well : IsWellTyped m) (a : Tree) (x : Thread) (fits : FitsIn m a x)
    (asks : machine.request m.families x.now.state ≡ Some request.Step)
    (s : State) (told : answered (program_in m) x.now.state Go ≡ Some s) where
  abbrev pub entry : LogEntry
  entry = record { asked = request.Step; answer = Go; stamp = suc x.now.clock }

  abbrev pub stepped_on : Thread
  stepped_on = record {
    path = x.path;
    first = x.first;
    log = x.log ++ entry ∷ [];
    now = after_entry (program_in m) x.now entry;
    bag = x.bag;
    retired = x.retired;
  }

  enters : Enters (program_in m) x.path x.now entry
  enters = record { asked = asks; is_answered = refl; state = s; leads = told }

  there : answered (program_in m) x.now.state Go ≡ Some stepped_on.now.state
  there = told ∙ ap (λ o. Some (or_lost o)) (sym told)

  goes : Goes m fits.typed.residuals stepped_on.now.state fits.typed.type (λ z. held_state z x.now.state)
  goes = go_typed m well x.now.state fits.typed.type stepped_on.now.state fits.typed.residuals fits.typed.typed there

  before : (z : EndName) → 0 < held_state z stepped_on.now.state → 0 < held_state z x.now.state
  before z = held_before (program_in m) x.now.state stepped_on.now.state Go z there (λ i. cc i)

  pub stepped_fits : FitsIn m a stepped_on
  stepped_fits = record {
    none_made = fits.none_made;
    none_forked = fits.none_forked;
    follows = follows_more (program_in m) x.path x.first x.log x.now entry fits.follows enters;
    typed = record {
      residuals = fits.typed.residuals;
      are = fits.typed.are;
      type = fits.typed.type;
      typed = goes.0;
      main =
          fits.typed.main;
    };
    unspent = fits.unspent;
    once = λ z k. let o = fits.once z k in (
      o.0,
      goes.1 z (unspent_in fits.typed.residuals x.bag fits.unspent fits.typed.are z k)
          ∙ o.1,
    );
    named = λ z k. fits.named z (before z k);
    ends = later_all m a x fits stepped_on.now (omega arith) request.Step asks (λ z ev q. absurd (cc q));
    spent = fits.spent;
    past = later_past x.now.clock stepped_on.now.clock (omega arith) x.retired fits.past;
    opened = opened_more m.types x.log entry x.now.made stepped_on.now.made fits.opened (omega arith);
    made = let d = fits.made in omega (arith, d);
    forked = let d = fits.forked in omega (arith, d);
  }

  pub stepped_turn : Turn m x stepped_on []
  stepped_turn = record {
    gained = entry ∷ [];
    log = refl;
    path = refl;
    first = refl;
    idle = All-nil (λ (k : Thread). k.log ≡ []);
    born = λ w. refl;
    typed = λ s w. omega arith;
    cells = λ w. omega arith;
    exchanged = λ w. omega arith;
    spent = [];
    kept = sym (append-nil x.retired);
    known = λ z h c. inr (before z h, c);
    known_new = All-nil (AreKnownSpent x stepped_on);
  }
