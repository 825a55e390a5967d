-- What the least run of a module that has derivations comes to.
use Rattle.std.proofs.Common.{◌≡◌, ◌∙◌, ℕ, Bool, true, false, List, [], ◌∷◌, Some, Result, Ok, Err, length, refl, sym, ap, subst, codes}
use Rattle.std.specs.Prelude.{if◌then◌else◌, Contains, IfOk}
use Rattle.std.specs.declared.alloc.AllocError.{AllocError}
use Rattle.std.specs.Str.{bytes_eq}
use Rattle.fst_terms.specs.CoreTree.{CoreTree}
use Rattle.fst_terms.specs.declared.core_module.Module.{Module}
use Rattle.fst_terms.specs.declared.global.GlobalEntry.{GlobalEntry}
use Rattle.fst_derivations.specs.Deriv.{Deriv}
use Rattle.fst_derivations.specs.Modules.{HasDerivations}
use Rattle.fst_types.specs.declared.event.ChannelHistory.{ChannelHistory}
use Rattle.fst_machine.specs.declared.code.Code.{Code}
use Rattle.fst_machine.specs.Programs.{main_place}
use Rattle.fst_vm.specs.Tasks.{IsFrom}
use Rattle.fst_vm.specs.declared.report.Outcome.{Outcome}
use Rattle.fst_vm.specs.declared.report.Report.{Report}
use Rattle.fst_runs.specs.Configs.{Channel, Config, program, main_body, started}
use Rattle.fst_runs.proofs.Laws.{least_runs}
use Rattle.fst_process.specs.Reports.{IsAnswer, IsMainResult, IsReport}
use Rattle.fst_process.specs.Runs.{CanRun, IsOutcome}
use Rattle.fst_safety.specs.Safety.{IsSafe, IsSafeAt, main_type}
use Rattle.fst_safety.proofs.Laws.{main_typed}
use Rattle.fst_execution.specs.Execution.{IsDerived, AnswersAreSound, IsSound, IsPrepared, IsExecuted}

-- where there is a place of main's code, there is a body of main
pub main_there : (gs : List GlobalEntry) (is : List ℕ) (i : ℕ) → main_place gs is ≡ Some i → (e : CoreTree) ×
    (main_body gs ≡ Some e)
main_there [] is i q = absurd (cc q)
main_there (g ∷ gs) [] i q = absurd (cc q)
main_there (g ∷ gs) (j ∷ is) i q = pick (bytes_eq g.name (codes "main")) refl (main_there gs is i) q
  where
    pick : (b : Bool) → bytes_eq g.name (codes "main") ≡ b →
        (main_place gs is ≡ Some i → (e : CoreTree) × (main_body gs ≡ Some e)) →
        (if b then Some j else main_place gs is) ≡ Some i → (e : CoreTree) × (main_body (g ∷ gs) ≡ Some e)
    pick true w later p = (g.body, ap (λ b. if b then Some g.body else main_body gs) w)
    pick false w later p =
        let (e, h) = later p in
        (e, ap (λ b. if b then Some g.body else main_body gs) w ∙ h)

module _ (m : Module) (c : Config) (safe : IsSafeAt m c) (n : ℕ) (r : Report) (is : IsReport (program m) c n r) where
  -- a channel of the report
  abbrev channel_of : ChannelHistory → Channel
  channel_of j = record { declared = j.declared; history = j.entries.items }

  channel_there : (j : ChannelHistory) → Contains r.channels.items j → c.channels j.name ≡ Some (channel_of j)
  channel_there j h = (is.channels j.name (channel_of j)).1 (j, h, refl, refl, refl)

  -- the report of a safe configuration is sound
  safe_sound : IsSound m r
  safe_sound = record {
    sessions = λ j h. safe.sessions j.name (channel_of j) (channel_there j h);
    traces = λ j h. safe.right.traces j.name (channel_of j) (channel_there j h);
    result = λ x q.
        let (t, v, there, ends, alike) = subst (IsMainResult (program m) c) q is.result in
        (v, safe.result t v there ends, alike);
  }

pub answers_sound : AnswersAreSound
answers_sound m safe e body steps r (es, c, runs, last, few, is) =
    safe_sound m c (safe e body es c (least_runs (program m) m.types.items (started e) es c runs)) (length es) r is

-- the tasks of the code of a module that has derivations can begin
is_prepared : (m : Module) (k : Code) (ds : List Deriv) → HasDerivations m ds → k.module.value ≡ m → IsFrom m k → IsPrepared m k
is_prepared m k ds derived is from =
    let (e, body) = main_there m.globals.items k.globals.items from.start from.starts in
    let typed = main_typed m ds derived e body in
    record {
      is_of = is;
      from = from;
      begins = record {
        type = typed.type;
        code = record {
          from = subst (λ n. IsFrom n k) (sym is) from;
          derivations = ds;
          derived = subst (λ n. HasDerivations n ds) (sym is) derived;
          main = subst (λ (n : Module). main_type n.types.items n.globals.items ≡ Some typed.type) (sym is) typed.declared;
        };
        main = e;
        body = subst (λ (n : Module). main_body n.globals.items ≡ Some e) (sym is) body;
      };
    }

-- so is what is generated
pub prepared : (m : Module) → IsDerived m → (r : Result Code AllocError) → IfOk r (λ k. k.module.value ≡ m) → IfOk r (IsFrom m) →
    IfOk r (IsPrepared m)
prepared m d (Ok k) is from = is_prepared m k d.derivations d.derived is from
prepared m d (Err e) is from = tt

-- the code of a module of which no run goes wrong can run
pub can_run : (m : Module) (k : Code) → IsFrom m k → IsSafe m → CanRun k
can_run m k from safe =
    let (e, body) = main_there m.globals.items k.globals.items from.start from.starts in
    record { source = m; main = e; from = from; body = body; right = λ es c r. (safe e body es c r).right }

-- what its run comes to is what the module's least run does
pub is_executed : (m : Module) (k : Code) (steps : ℕ) (o : Outcome) → IsFrom m k → IsSafe m → IsOutcome k steps o →
    IsExecuted m steps o
is_executed m k steps o from safe h =
    let (e, body) = main_there m.globals.items k.globals.items from.start from.starts in
    let answer = h m e from body (λ es c r. (safe e body es c r).right) in
    record {
      main = e;
      body = body;
      answer = answer;
      sound =
          λ r q. answers_sound m safe e body steps r (subst (IsAnswer m e steps) q answer);
    }
