-- All buffered runs of a module that has derivations, with channels of one capacity, that come to an end are of one length and lead to
-- one configuration.
use Rattle.std.proofs.Common.{◌≡◌, ◌∙◌, ℕ, suc, ◌≤◌, List, [], ◌∷◌, length, Bool, true, false, refl, sym, ap, subst, arith}
use Rattle.fst_types.specs.Tree.{Tree}
use Rattle.fst_derivations.specs.Modules.{surroundings}
use Rattle.fst_derivations.specs.Rules.{Surroundings}
use Rattle.fst_process.specs.Reports.{IsReport}
use Rattle.fst_runs.specs.Configs.{program, same_path}
use Rattle.fst_runs.proofs.Laws.{same_path-itself, same_path-same}
use Rattle.fst_safety.specs.WellTyped.{IsWellTyped, program_in}
use Rattle.fst_safety.proofs.Laws.{checked, main_typed, main_begins}
use Rattle.fst_buffered.specs.Answers.{AnswersAreEnds, AreUnread}
use Rattle.fst_buffered.specs.Channels.{Config, core, residual_in, started}
use Rattle.fst_buffered.specs.Events.{Occurrence, path_of, Does, Runs, IsLast}
use Rattle.fst_buffered.specs.Sound.{IsSound}
use Rattle.fst_buffered.specs.Diamond.{OneBufferedEnd}
use Rattle.fst_buffered.proofs.Answering.{least_runs}
use Rattle.fst_buffered.proofs.Commuting.{commute}
use Rattle.fst_buffered.proofs.Least.{does_one}
use Rattle.fst_buffered.proofs.Runs.{does_sound, started_sound, sound_right}

module _ (m : Surroundings) (well : IsWellTyped m) (a : Tree) (capacity : ℕ) where
  abbrev Leads : Config → List Occurrence → Config → Type 0
  Leads c es d = Runs (program_in m) m.types capacity c es d

  -- a run with one event less leads from the configuration to the other
  abbrev Shorter : List Occurrence → Config → Config → Type 0
  Shorter es c d = (fs : List Occurrence) × (length es ≡ suc (length fs)) × Leads c fs d

  -- what is possible can stand first in a run that comes to an end
  begin_with : (es : List Occurrence) (c d x : Config) (b : Occurrence) → IsSound m a c → Leads c es d →
      IsLast (program_in m) m.types capacity d → Does (program_in m) m.types capacity c b x → Shorter es x d
  begin_with [] c d x b h g l f = absurd (subst (IsLast (program_in m) m.types capacity) g l b x f)
  begin_with (e ∷ es) c d x b h g l f =
      go (λ z k. begin_with es g.0 d z b (does_sound m well a capacity c e g.0 h g.1) g.2 l k)
      (same_path (path_of e) (path_of b)) refl
    where
      go : ((z : Config) → Does (program_in m) m.types capacity g.0 b z → Shorter es z d) → (z : Bool) →
          same_path (path_of e) (path_of b) ≡ z → Shorter (e ∷ es) x d
      go later true s =
          let one = does_one (program_in m) m.types capacity c e b g.0 x g.1 f (same_path-same (path_of e) (path_of b) s) in
          (es, refl, subst (λ z. Leads z es d) one.1 g.2)
      go later false s =
          let differ : e ≡ b → ⊥ = λ q. let z : true ≡ false = sym (same_path-itself (path_of e))
          ∙ ap (λ (o : Occurrence). same_path (path_of e) (path_of o)) q ∙ s in absurd (cc z) in
          let y = commute (program_in m) m.types capacity c (sound_right m well a capacity c h) h.makers h.parents e b g.0 x g.1 f
          differ in
          let r = later y.0 y.1 in
          (e ∷ r.0, ap suc r.1, (y.0, y.2, r.2))

  one_less : {n j k : ℕ} → n ≡ suc j → k ≤ j → suc k ≤ n
  one_less e l = omega (arith, e, l)

  -- no run has more events than one that comes to an end, and each that does so has as many and leads to the same configuration
  pub ends_alike : (fs es : List Occurrence) (c d e : Config) → IsSound m a c → Leads c es d →
      IsLast (program_in m) m.types capacity d → Leads c fs e →
      (length fs ≤ length es) × (IsLast (program_in m) m.types capacity e → (length fs ≡ length es) × (e ≡ d))
  ends_alike [] [] c d e h g l f = (omega arith, λ q. (refl, f ∙ sym g))
  ends_alike [] (x ∷ es) c d e h g l f =
      (omega arith, λ q. absurd (subst (IsLast (program_in m) m.types capacity) f q x g.0 g.1))
  ends_alike (y ∷ fs) es c d e h g l f =
      let s = begin_with es c d f.0 y h g l f.1 in
      let r = ends_alike fs s.0 f.0 d e (does_sound m well a capacity c y f.0 h f.1) s.2 l f.2 in
      (one_less s.1 r.0, λ q. (ap suc (r.1 q).0 ∙ sym s.1, (r.1 q).1))

-- so it is with the runs of a module that has derivations
pub one_end : OneBufferedEnd
one_end m ds h e q capacity es d r l fs c f =
    let n = surroundings m [] in
    let w = checked m ds h in
    let k = main_typed m ds h e q in
    let first = started_sound n w k.type capacity e (main_begins n (residual_in (started e)) k.type e k.printable k.typed) in
    ends_alike n w k.type capacity fs es (started e) d c first r l f

-- so the report of the least one is that of each
pub answers_ends : AnswersAreEnds
answers_ends m ds h main q capacity steps r unread (fs, d, least, last, few, report, left) = λ es c runs l.
    let one = (one_end m ds h main q capacity fs d (least_runs (program m) m.types.items capacity fs (started main) d least) last
    es c runs).1 l in (
      subst (λ z. IsReport (program m) (core z) (length es) r) (sym one.1)
          (subst (λ n. IsReport (program m) (core d) n r) (sym one.0) report),
      subst (λ z. AreUnread z r.channels.items unread.items) (sym one.1) left,
    )
