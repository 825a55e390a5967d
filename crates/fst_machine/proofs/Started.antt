-- The code of a module stands for it: from its greatest place, and after each answer.
use Rattle.std.proofs.Common.{◌≡◌, ℕ, zero, suc, Bool, true, false, Some, None, List, [], ◌∷◌, length, slice_get, if◌then◌else◌, refl, sym, ap, ◌∙◌, subst}
use Rattle.std.specs.Prelude.{codes}
use Rattle.std.specs.Str.{bytes_eq}
use Rattle.std.proofs.lemmas.Option.{none-some, same_Some}
use Rattle.fst_types.specs.Tree.{Tree}
use Rattle.fst_terms.specs.CoreTree.{CoreTree}
use Rattle.fst_terms.specs.declared.core_module.Module.{Module}
use Rattle.fst_terms.specs.declared.global.GlobalEntry.{GlobalEntry}
use Rattle.fst_machine.specs.declared.code.Instr.{Instr}
use Rattle.fst_machine.specs.declared.entry.LambdaEntry.{LambdaEntry}
use Rattle.fst_machine.specs.declared.request.Answer.{Answer}
use Rattle.fst_machine.specs.Machine.{State, Pause, stuck, pause, after, begins}
use Rattle.fst_machine.specs.Code.{Compiled}
use Rattle.fst_machine.specs.Spots.{Spot, begins_at, inner, told_at}
use Rattle.fst_machine.specs.Standing.{StandsFor, Stands, DistinctMakers}
use Rattle.fst_machine.specs.Programs.{bodies, program, main_body, main_place, compiled, IsCodeOf}
use Rattle.fst_machine.proofs.Moves.{comes}
use Rattle.fst_machine.proofs.CodeLaws.{start_stands, told_stands}
use Rattle.fst_machine.proofs.Conditions.{distinct_makers}

-- main is one of the globals, and its code starts at the place of that one
abbrev IsMain : List GlobalEntry → CoreTree → Type 0
IsMain gs e = (g : ℕ) × (slice_get (bodies gs) g ≡ Some e) × ((is : List ℕ) → main_place gs is ≡ slice_get is g)

-- the body of main is that of a global
main_is : (gs : List GlobalEntry) (e : CoreTree) → main_body gs ≡ Some e → IsMain gs e
main_is [] e h = absurd (none-some e h)
main_is (b ∷ gs) e h = pick (bytes_eq b.name (codes "main")) refl (main_is gs e) h
  where
    first : bytes_eq b.name (codes "main") ≡ true → (is : List ℕ) → main_place (b ∷ gs) is ≡ slice_get is zero
    first w [] = refl
    first w (i ∷ is) = ap (λ z. if z then Some i else main_place gs is) w

    behind : (g : ℕ) → bytes_eq b.name (codes "main") ≡ false → ((is : List ℕ) → main_place gs is ≡ slice_get is g) →
        (is : List ℕ) → main_place (b ∷ gs) is ≡ slice_get is (suc g)
    behind g w h [] = refl
    behind g w h (i ∷ is) = ap (λ z. if z then Some i else main_place gs is) w ∙ h is

    pick : (z : Bool) → bytes_eq b.name (codes "main") ≡ z → (main_body gs ≡ Some e → IsMain gs e) →
        (if z then Some b.body else main_body gs) ≡ Some e → IsMain (b ∷ gs) e
    pick true w again u = (zero, u, first w)
    pick false w again u = let r = again u in (suc r.0, r.1, behind r.0 w r.2)

-- no two constructors of a module have the same name
pub makers_apart : (m : Module) → DistinctMakers m.families.items
makers_apart m = distinct_makers m.families.items m.whole.makers_differ

module _ (m : Module) (code : List Instr) (lambdas : List LambdaEntry) (globals : List ℕ) (types : List Tree)
    (ok : IsCodeOf m code lambdas globals types) where
  abbrev c : Compiled
  c = compiled m.families.items code lambdas globals

  -- from its greatest place the code asks for what main's body asks for, and so after each answer
  pub main_stands : (e : CoreTree) → main_body m.globals.items ≡ Some e →
      Stands (compiled m.families.items code lambdas globals) (begins_at (length code) []) (pause m.families.items (begins e []))
  main_stands e h =
      let is_main = main_is m.globals.items e h in
      let w = start_stands c (bodies m.globals.items) ok.stands (makers_apart m) is_main.0 e is_main.1 in
      let same : w.0 ≡ ok.start = same_Some w.0 ok.start (sym w.1 ∙ sym (is_main.2 globals) ∙ ok.starts) in
      λ n.
      comes n c (length code) ok.start [] [] [] (pause m.families.items (begins e [])) ok.first
      (subst (λ i. StandsFor n c (begins_at i []) (pause m.families.items (begins e []))) same (w.2 n))

  -- after an answer it stands for what the terms go on with
  pub told_on : (s : Spot) (q : Pause) (a : Answer) (st : State) →
      Stands (compiled m.families.items code lambdas globals) s q →
      inner (compiled m.families.items code lambdas globals) s ≡ None →
      after (program m) q a ≡ Some st → (pause m.families.items st ≡ stuck → ⊥) →
      (t : Spot) × (told_at (compiled m.families.items code lambdas globals) s a ≡ Some t) ×
      Stands (compiled m.families.items code lambdas globals) t (pause m.families.items st)
  told_on s q a st h e u g = told_stands c (bodies m.globals.items) ok.stands (makers_apart m) s q a st h e u g
