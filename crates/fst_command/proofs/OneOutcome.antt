-- What so many steps of a module come to is one thing.
use Rattle.std.proofs.Common.{◌≡◌, ◌∙◌, ℕ, Bool, true, false, List, [], ◌∷◌, ◌++◌, map, length, Some, refl, sym, ap, subst, arith}
use Rattle.std.proofs.lemmas.Option.{same_Some}
use Rattle.fst_runs.proofs.Laws.{least_runs}
use Rattle.fst_types.specs.declared.family.Family.{Family}
use Rattle.fst_terms.specs.CoreTree.{CoreTree}
use Rattle.fst_terms.specs.declared.core_module.Module.{Module}
use Rattle.fst_derivations.specs.Deriv.{Deriv}
use Rattle.fst_derivations.specs.Modules.{HasDerivations}
use Rattle.fst_runs.specs.Configs.{main_body, program, started}
use Rattle.fst_vm.specs.declared.report.Outcome.{Outcome}
use Rattle.fst_vm.specs.declared.report.Outcome.TheVariants.{Done, OutOfSteps}
use Rattle.fst_vm.specs.declared.report.Report.{Report}
use Rattle.fst_vm.specs.declared.report.Waiting.{Waiting}
use Rattle.fst_process.specs.Reports.{IsAnswer, IsReport}
use Rattle.fst_safety.specs.Diamond.{OneEnd}
use Rattle.fst_merge.specs.EventTexts.{events_text}
use Rattle.fst_merge.specs.LeastEvents.{OneListLaw}
use Rattle.fst_names.specs.Modules.{family_parts}
use Rattle.fst_names.specs.ResolvedModule.{AreSame}
use Rattle.fst_command.specs.declared.status.Status.{Status}
use Rattle.fst_command.specs.declared.status.Status.TheVariants as status
use Rattle.fst_command.specs.Output.{AreLines, SaysOutcome, outcome_status, outcome_text, waiting_status}
use Rattle.fst_command.proofs.SameParts.{same_back, same_main}
use Rattle.fst_command.proofs.SameReports.{IsWritten, one_report}
use Rattle.fst_command.proofs.SameRuns.{answer_same, lines_same}

-- 1 for the status of a run that is out of steps
abbrev of_steps : Status → ℕ
of_steps status.Done = 0
of_steps status.Refused = 0
of_steps status.Words = 0
of_steps status.Waiting = 0
of_steps status.OutOfSteps = 1
of_steps status.Undecided = 0
of_steps status.ReadFault = 0
of_steps status.WriteFault = 0
of_steps status.Limit = 0
of_steps status.Memory = 0

-- a report has another
waits : (ws : List Waiting) → of_steps (waiting_status ws) ≡ 0
waits [] = refl
waits (w ∷ ws) = refl

module _ (ends : OneEnd) (lists : OneListLaw) (shown : List Family → Report → List ℕ) (is_written : IsWritten shown) where
  -- two outcomes are written in one way, for data types with the same parts
  abbrev AreWrittenOnce : List Family → List Family → Outcome → Outcome → Type 0
  AreWrittenOnce fs gs o q = (outcome_text shown fs o ≡ outcome_text shown gs q) × (outcome_status o ≡ outcome_status q)

  module _ (m : Module) (ds : List Deriv) (derived : HasDerivations m ds) (e : CoreTree)
      (main : main_body m.globals.items ≡ Some e) (steps : ℕ) where
    one_answer : (fs gs : List Family) → map family_parts fs ≡ map family_parts gs →
        (o q : Outcome) → IsAnswer m e steps o → IsAnswer m e steps q → AreWrittenOnce fs gs o q
    one_answer fs gs alike (Done r) (Done q) (es, c, h, l, few, is) (hs, d, k, j, more, it) =
        let run = least_runs (program m) m.types.items (started e) hs d k in
        let one = (ends m ds derived e main es c (least_runs (program m) m.types.items (started e) es c h) l hs d run).1 j in
        let other : IsReport (program m) c (length es) q = subst
        (λ z. IsReport (program m) z (length es) q) one.1 (subst (λ n. IsReport (program m) d n q) one.0 it) in
        let same = one_report (program m) c (length es) r q is other in
        (is_written fs gs alike r q same, ap waiting_status same.waiting)
    one_answer fs gs alike (Done r) OutOfSteps (es, c, h, l, few, is) (hs, d, k, many) =
        let long = (ends m ds derived e main es c (least_runs (program m) m.types.items (started e) es c h) l hs d
        (least_runs (program m) m.types.items (started e) hs d k)).0 in
        absurd (omega (arith, long, few, many))
    one_answer fs gs alike OutOfSteps (Done q) (es, c, h, many) (hs, d, k, j, more, it) =
        let long = (ends m ds derived e main hs d (least_runs (program m) m.types.items (started e) hs d k) j es c
        (least_runs (program m) m.types.items (started e) es c h)).0 in
        absurd (omega (arith, long, more, many))
    one_answer fs gs alike OutOfSteps OutOfSteps a b = (refl, refl)

    -- and there is one list of lines behind them
    one_behind : (events : Bool) (o q : Outcome) (ls ms : List ℕ) → IsAnswer m e steps o → IsAnswer m e steps q →
        AreLines events m e o ls → AreLines events m e q ms → ls ≡ ms
    one_behind false o q ls ms a b l k = l ∙ sym k
    one_behind true (Done r) (Done q) ls ms a b (es, are, l) (fs, also, k) =
        l ∙ ap events_text (lists m ds derived e main es fs are also) ∙ sym k
    one_behind true (Done r) OutOfSteps ls ms a b l k =
        absurd (omega (arith, ap of_steps (one_answer [] [] refl (Done r) OutOfSteps a b).1, waits r.waiting.items))
    one_behind true OutOfSteps (Done q) ls ms a b l k =
        absurd (omega (arith, ap of_steps (one_answer [] [] refl OutOfSteps (Done q) a b).1, waits q.waiting.items))
    one_behind true OutOfSteps OutOfSteps ls ms a b l k = l ∙ sym k

  -- what the texts and statuses of two outcomes say is one thing
  pub one_outcome : (events : Bool) (steps : ℕ) (m n : Module) (ds : List Deriv) → AreSame m n → HasDerivations m ds →
      (t u : List ℕ) (s r : Status) → SaysOutcome shown events steps m t s → SaysOutcome shown events steps n u r → (t ≡ u) ×
      (s ≡ r)
  one_outcome events steps m n ds parts derived t u s r o q =
      let answer = subst (λ e. IsAnswer m e steps q.outcome) main
      (answer_same n m (same_back m n parts) q.is.main steps q.outcome q.is.answer) in
      let behind = subst (λ e. AreLines events m e q.outcome q.lines) main
      (lines_same n m (same_back m n parts) events q.is.main q.outcome q.lines q.is.behind) in
      let same = one_answer m ds derived o.is.main o.is.body steps m.families.items n.families.items parts.families o.outcome
      q.outcome o.is.answer answer in
      let lines = one_behind m ds derived o.is.main o.is.body steps events o.outcome q.outcome o.lines q.lines
      o.is.answer answer o.is.behind behind in
      (o.written ∙ (λ i. same.0 i ++ lines i) ∙ sym q.written, o.ended ∙ same.1 ∙ sym q.ended)
    where
      main : q.is.main ≡ o.is.main
      main = same_Some q.is.main o.is.main (sym q.is.body ∙ sym (same_main m.globals.items n.globals.items parts.globals)
          ∙ o.is.body)
