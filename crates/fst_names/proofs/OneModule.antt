-- A text stands for one module at most.
use Rattle.std.proofs.Common.{◌≡◌, ◌∙◌, ℕ, List, [], ◌∷◌, map, Option, Some, None, refl, sym, ap}
use Rattle.fst_base.proofs.Bools.{same_bool}
use Rattle.fst_types.specs.Tree.{Tree}
use Rattle.fst_terms.specs.ModuleTree.{Declared}
use Rattle.fst_terms.specs.declared.core_module.Module.{Module}
use Rattle.fst_scopes.specs.Aliases.{Known, IsKnown}
use Rattle.fst_scopes.specs.TypeNames.{TypeDecl, type_declared}
use Rattle.fst_names.specs.Modules.{TypeAt, module_globals, module_types}
use Rattle.fst_names.specs.ResolvedModule.{AreSame, IsResolvedModule, OneModuleLaw}

-- what is known of aliases is known of them in one way
pub known_same : (declared : List ℕ → Option TypeDecl) (k l : Known) → IsKnown declared k → IsKnown declared l → k ≡ l
known_same declared k l a b = λ i. record { stands = λ x. stands_same x i; loops = λ x. loops_same x i }
  where
    stands_same : (x : List ℕ) → k.stands x ≡ l.stands x
    stands_same x = pick (k.stands x) refl (l.stands x) refl
      where
        pick : (o : Option Tree) → k.stands x ≡ o → (p : Option Tree) → l.stands x ≡ p → o ≡ p
        pick (Some t) e p f = sym ((b.stands_for x t).1 ((a.stands_for x t).0 e)) ∙ f
        pick None e (Some t) f = sym e ∙ (a.stands_for x t).1 ((b.stands_for x t).0 f)
        pick None e None f = refl

    loops_same : (x : List ℕ) → k.loops x ≡ l.loops x
    loops_same x = same_bool (k.loops x) (l.loops x) (λ e. (b.leads_back x).1 ((a.leads_back x).0 e))
        (λ e. (a.leads_back x).1 ((b.leads_back x).0 e))

-- lists that are one with each item there are one
same_there : {A : Type 0} (xs ys : List A) → map Some xs ≡ map Some ys → xs ≡ ys
same_there [] [] e = refl
same_there [] (y ∷ ys) e = absurd (cc e)
same_there (x ∷ xs) [] e = absurd (cc e)
same_there (x ∷ xs) (y ∷ ys) e =
    let first : x ≡ y = cc in
    let tail : map Some xs ≡ map Some ys = cc in
    let rest = same_there xs ys tail in
    λ i. first i ∷ rest i

-- two modules that a source stands for have the same types at the same places, the same data types and the same globals
pub one_module : OneModuleLaw
one_module = record { one = same_modules }
  where
    same_modules : (ds : List Declared) (m n : Module) → IsResolvedModule ds m → IsResolvedModule ds n → AreSame m n
    same_modules ds m n a b =
        let same = known_same (type_declared ds) a.known b.known a.is_known b.is_known in
        record {
          types = same_there m.types.items n.types.items
              (a.types ∙ ap (λ k. map (λ (t : TypeAt). t.stands) (module_types ds k)) same ∙ sym b.types);
          places = a.places ∙ ap (λ k. map (λ (t : TypeAt). t.at) (module_types ds k)) same ∙ sym b.places;
          families = a.families ∙ sym b.families;
          globals = a.globals ∙ ap (module_globals ds) same ∙ sym b.globals;
        }
