-- A task whose end lacks an entry can be told that it was sent.
use Rattle.std.proofs.Common.{◌≡◌, ◌∙◌, Some, List, [], ◌∷◌, refl, sym, ap, subst}
use Rattle.std.specs.Prelude.{Contains}
use Rattle.std.proofs.lemmas.List.Elements.{All-nil, All-cons, All-head}
use Rattle.std.proofs.lemmas.List.Sorted.{IsPermutation-refl}
use Rattle.fst_types.specs.Tree.{Tree}
use Rattle.fst_terms.specs.declared.core_module.Module.{Module}
use Rattle.fst_derivations.specs.Deriv.{Deriv}
use Rattle.fst_derivations.specs.Modules.{HasDerivations, surroundings}
use Rattle.fst_derivations.specs.Rules.{Surroundings}
use Rattle.fst_types.specs.declared.event.ChannelHistory.{ChannelHistory}
use Rattle.fst_types.specs.declared.event.Entry.{Entry}
use Rattle.fst_machine.specs.declared.request.Answer.TheVariants.{Sent}
use Rattle.fst_machine.specs.Machine.{State, stuck, pause, after, answered, or_lost}
use Rattle.fst_vm.specs.Tasks.{IsIn}
use Rattle.fst_runs.specs.Configs.{Task}
use Rattle.fst_runs.proofs.Laws.{put_pause}
use Rattle.fst_cell.specs.End.{EndView, end_name}
use Rattle.fst_runs.specs.Logs.{Birth}
use Rattle.fst_safety.specs.Threads.{Thread, FitsIn}
use Rattle.fst_safety.specs.WellTyped.{IsWellTyped, program_in}
use Rattle.fst_safety.proofs.Laws.{checked, stay_typed, not_stuck}
use Rattle.fst_records.specs.Records.{Course}
use Rattle.fst_worker.specs.Records.{Pair, IsOver, histories_of, missing, told_course}
use Rattle.fst_worker.specs.Resumes.{Tells, TellLaw}
use Rattle.fst_worker.proofs.Catching.{asks_it}
use Rattle.fst_worker.proofs.Telling.{SendsOn, Knows, Becomes, all_knowing, told}
use Rattle.fst_worker.proofs.Wholes.{went_fits}

module _ (m : Surroundings) (well : IsWellTyped m) (a : Tree) (main : Birth) (xs : List Thread) (ps : List Pair)
    (over : IsOver m a main xs ps)
    (sends : SendsOn m a) (x : Thread) where
  abbrev ks : List ChannelHistory
  ks = histories_of ps

  -- what is known of a thread
  abbrev Known : Thread → Type 0
  Known x = Knows m a main xs ps over ks (IsPermutation-refl ks) x

  module _ (h : Known x) (e : EndView) (d : Entry) (there : Contains x.bag e) (lacks : missing ks e ≡ Some d) where
    -- the answer leads to a state
    leads_to : (s : State) × (answered (program_in m) x.now.state Sent ≡ Some s)
    leads_to =
        put_pause (λ q. (s : State) × (after (program_in m) q Sent ≡ Some s)) (pause m.families x.now.state) (end_name e) d.event
        (asks_it m a main xs ps over x h.here e d there lacks) (λ fs. (_, refl)) (λ fs c. (_, refl))

    -- its course after it was told
    abbrev y : Course
    y = told_course m x e d

    becomes : Becomes m a main xs ps over ks (IsPermutation-refl ks) x y
    becomes = told m a main xs ps over ks (IsPermutation-refl ks) sends x y h
        (record { end = e; there = there; entry = d; lacks = lacks; state = leads_to.0; leads = leads_to.1; is = refl })

    fits : FitsIn m a becomes.thread
    fits = All-head (FitsIn m a) becomes.thread []
        (went_fits m a (x ∷ []) (becomes.thread ∷ []) becomes.went (All-cons (FitsIn m a) x [] h.here.0 (All-nil (FitsIn m a))))

    -- this has a next request
    next_there : pause m.families leads_to.0 ≡ stuck → ⊥
    next_there q =
        let now : becomes.thread.now.state ≡ leads_to.0 = ap (λ (y : Course). y.now.state) becomes.same ∙ ap or_lost leads_to.1 in
        not_stuck m well becomes.thread.now.state fits.typed.type fits.typed.residuals fits.typed.typed
        (ap (pause m.families) now ∙ q)

module _ (n : Module) (ds : List Deriv) (q : HasDerivations n ds) (a : Tree) (main : Birth) (xs : List Thread) (ps : List Pair)
    (over : IsOver (surroundings n []) a main xs ps) where
  -- a thread that lacks an entry can be told
  can_tell : (x : Thread) → Known (surroundings n []) (checked n ds q) a main xs ps over (λ x. stay_typed.sends n ds q a x) x x →
      (e : EndView) (d : Entry) →
      Contains x.bag e → missing (histories_of ps) e ≡ Some d → Tells n (histories_of ps) x
  can_tell x h e d there lacks =
      let m = surroundings n [] in
      let w = checked n ds q in
      let s : SendsOn m a = λ x. stay_typed.sends n ds q a x in
      let g = leads_to m w a main xs ps over s x h e d there lacks in
      let alive = next_there m w a main xs ps over s x h e d there lacks in
      record {
        state = g.0;
        leads = g.1;
        alive = alive;
        goes_on = λ k t u clock from is on y told. record {
          path = on.path ∙ is.path ∙ sym (ap (λ (y : Course). y.path) told.is);
          is_in = subst (IsIn n k u) (sym (ap (λ (y : Course). y.now.state) told.is ∙ ap or_lost g.1))
              (on.states n x.now.state g.0 from is.is_in g.1 alive);
          forked = on.forked ∙ is.forked ∙ sym (ap (λ (y : Course). y.now.forked) told.is);
          time = refl;
        };
      }

-- so it is at the end of each run
pub tells : TellLaw
tells n ds q a main xs ps over = record {
  told = λ i d l. can_tell n ds q a main xs ps over _
      (all_knowing (surroundings n []) a main xs ps over (histories_of ps) (IsPermutation-refl (histories_of ps)) i d l);
  stays = λ k t clock x y is s. record {
    path = is.path ∙ sym (ap (λ (y : Course). y.path) s.is);
    is_in = subst (λ (u : Task). IsIn n k t u.state) (sym (ap (λ (y : Course). y.now) s.is)) is.is_in;
    forked = is.forked ∙ sym (ap (λ (y : Course). y.now.forked) s.is);
    time = is.time ∙ sym (ap (λ (y : Course). y.now.clock) s.is);
  };
}
