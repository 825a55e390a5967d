-- The thread of main at the beginning.
use Rattle.std.proofs.Common.{◌≡◌, ℕ, List, [], ◌∷◌, Some, refl, ap, arith}
use Rattle.std.specs.Prelude.{sum_by}
use Rattle.std.proofs.lemmas.List.Elements.{All-nil, All-cons}
use Rattle.std.proofs.lemmas.List.Sums.{sum_by-cons}
use Rattle.fst_types.specs.Tree.{Tree}
use Rattle.fst_types.specs.declared.side.Side.TheVariants.{Left, Right}
use Rattle.fst_terms.specs.CoreTree.{CoreTree}
use Rattle.fst_terms.specs.declared.core_module.Module.{Module}
use Rattle.fst_derivations.specs.Deriv.{Deriv}
use Rattle.fst_derivations.specs.Modules.{HasDerivations, surroundings}
use Rattle.fst_derivations.specs.Rules.{Surroundings}
use Rattle.fst_types.specs.declared.ends.EndName.{EndName}
use Rattle.fst_runs.specs.Configs.{main_body}
use Rattle.fst_runs.specs.Wrong.{held_state}
use Rattle.fst_cell.specs.End.{EndView}
use Rattle.fst_runs.specs.declared.log.LogEntry.{LogEntry}
use Rattle.fst_runs.specs.Logs.{Opening, births, exchanges, openings}
use Rattle.fst_safety.specs.Safety.{main_type}
use Rattle.fst_safety.specs.Threads.{Thread, FitsIn}
use Rattle.fst_safety.specs.Tasks.{main_thread}
use Rattle.fst_safety.specs.Turns.{of_ends, by_type, by_cell, by_exchanges, birth}
use Rattle.fst_safety.specs.WellTyped.{program_in}
use Rattle.fst_safety.proofs.Laws.{main_typed, begun_fits}
use Rattle.fst_worker.specs.Works.{Whole, IsKnownIn, bears, opens, trades}
use Rattle.fst_worker.specs.Laws.{BeginLaw}

-- a thread with no log and no ends, in whose state no end stands, is whole by itself
pub idle_whole : (m : Surroundings) (x : Thread) → x.log ≡ [] → x.bag ≡ [] → x.retired ≡ [] →
    ((z : EndName) → held_state z x.now.state ≡ 0) →
    Whole m (birth x) (x ∷ [])
idle_whole m x log bag retired free = record {
  births = λ w.
      let a = sum_by-cons (λ (x : Thread). w (birth x)) x [] in
      let b = sum_by-cons (bears m w) x [] in
      let c : bears m w x ≡ 0 = ap (λ (l : List LogEntry). sum_by w (births (program_in m) x.path x.first l)) log in
      omega (arith, a, b, c);
  typed = λ s w.
      let a = sum_by-cons (of_ends (by_type s w)) x [] in
      let b = sum_by-cons (opens m w) x [] in
      let c = none (by_type s w) in
      let d : opens m w x ≡ 0 = ap (λ (l : List LogEntry). sum_by (λ (o : Opening). w o.name o.declared) (openings m.types l))
      log in
      omega (arith, a, b, c, d);
  cells = λ w.
      let a = sum_by-cons (of_ends (by_cell Left w)) x [] in
      let b = sum_by-cons (of_ends (by_cell Right w)) x [] in
      let c = none (by_cell Left w) in
      let d = none (by_cell Right w) in
      omega (arith, a, b, c, d);
  exchanged = λ w.
      let a = sum_by-cons (of_ends (by_exchanges w)) x [] in
      let b = sum_by-cons (trades w) x [] in
      let c = none (by_exchanges w) in
      let d : trades w x ≡ 0 = ap (λ (l : List LogEntry). sum_by w (exchanges x.first.clock l)) log in
      omega (arith, a, b, c, d);
  known = All-cons (IsKnownIn (x ∷ [])) x [] (λ z h c. let q = free z in absurd (omega (arith, h, q)))
      (All-nil (IsKnownIn (x ∷ [])));
}
  where
    none : (w : EndView → ℕ) → of_ends w x ≡ 0
    none w = let a = ap (sum_by w) bag in let b = ap (sum_by w) retired in omega (arith, a, b)

-- main's thread fits a module that has derivations
pub main_fits : (m : Module) (ds : List Deriv) → HasDerivations m ds → (e : CoreTree) → main_body m.globals.items ≡ Some e →
    (a : Tree) × (main_type m.types.items m.globals.items ≡ Some a) × FitsIn (surroundings m []) a (main_thread e)
main_fits m ds h e q =
    let k = main_typed m ds h e q in
    (k.type, k.declared, begun_fits (surroundings m []) k.type e k.printable k.typed)

-- the law of the beginning
pub begins_so : BeginLaw
begins_so = record { fits = main_fits; whole = λ m e. idle_whole m (main_thread e) refl refl refl (λ z. refl) }
