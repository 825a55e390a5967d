-- The task of main fits at the beginning.
use Rattle.std.proofs.Common.{◌≡◌, ◌∙◌, [], Some, refl, sym, subst, arith}
use Rattle.std.proofs.lemmas.List.Elements.{All-nil}
use Rattle.fst_base.proofs.Options.{some_same}
use Rattle.fst_types.specs.Tree.{Tree, skip}
use Rattle.fst_terms.specs.CoreTree.{CoreTree}
use Rattle.fst_derivations.specs.Modules.{IsPrintable}
use Rattle.fst_derivations.specs.Rules.{Surroundings}
use Rattle.fst_machine.specs.declared.code.Code.{Code}
use Rattle.fst_vm.specs.Tasks.{IsStart}
use Rattle.fst_cell.specs.End.{EndView, end_name, residual_of}
use Rattle.fst_safety.specs.declared.tasks.TypedTask.{TypedTask}
use Rattle.fst_safety.specs.Running.{HasType}
use Rattle.fst_safety.specs.Fitting.{Residuals}
use Rattle.fst_safety.specs.Threads.{FitsIn, FitsEnd, IsOpen, IsSpent, IsPast}
use Rattle.fst_safety.specs.Tasks.{IsBegun, main_thread, module_of}
use Rattle.fst_safety.proofs.Modules.{main_typed}
use Rattle.fst_safety.proofs.Runs.{main_begins}

-- where no end is known
abbrev none_known : Residuals
none_known x = Some skip

-- the thread of a typed term whose values can be printed fits at the beginning
pub begun_fits : (m : Surroundings) (a : Tree) (e : CoreTree) → IsPrintable a → HasType m [] e a → FitsIn m a (main_thread e)
begun_fits m a e p h = record {
  none_made = refl;
  none_forked = refl;
  follows = refl;
  typed = record {
    residuals = none_known;
    are = record { known = All-nil (λ (e : EndView). none_known (end_name e) ≡ residual_of e.knows); others = λ x n. refl };
    type = a;
    typed = main_begins m none_known a e p h;
    main = λ q. refl;
  };
  unspent = All-nil IsOpen;
  once = λ y n. absurd (omega (arith, n));
  named = λ y n. absurd (omega (arith, n));
  ends = All-nil (FitsEnd m (main_thread e).now);
  spent = All-nil IsSpent;
  past = All-nil (IsPast 0);
  opened = refl;
  made = omega arith;
  forked = omega arith;
}

-- the machine's task of main is that thread
pub begun : (k : Code) (t : TypedTask) → IsStart k t.task → t.made ≡ 0 → t.clock ≡ 0 → t.log.items ≡ [] → t.bag.items ≡ [] →
    t.retired.items ≡ [] → IsBegun k t
begun k t s made clock log bag retired a e code body =
    let h = main_typed k.module.value code.derivations code.derived e body in
    let same : h.type ≡ a = some_same (sym h.declared ∙ code.main) in
    record {
      code = code;
      keeps = record {
        path = s.path;
        is_in = s.begun k.module.value e code.from body;
        forked = s.forked;
        made = made;
        clock = clock;
        log = log;
        bag = bag;
        retired = retired;
      };
      fits = subst (λ b. FitsIn (module_of k) b (main_thread e)) same (begun_fits (module_of k) h.type e h.printable h.typed);
    }
