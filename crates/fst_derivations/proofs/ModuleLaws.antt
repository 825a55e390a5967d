-- The plain derivation of an equation is a derivation of its term, at the type of its signature.
use Rattle.std.proofs.Common.{◌≡◌, List, [], ◌∷◌, refl, subst}
use Rattle.fst_types.specs.Tree.{Tree, arrow}
use Rattle.fst_types.specs.declared.kind.Kind.{Kind}
use Rattle.fst_types.specs.declared.kind.Use.{Use}
use Rattle.fst_terms.specs.CoreTree.{CoreTree}
use Rattle.fst_terms.specs.declared.core_module.Module.{Module}
use Rattle.fst_terms.specs.declared.global.GlobalEntry.{GlobalEntry}
use Rattle.fst_context.specs.Scope.{Variable, is_once}
use Rattle.fst_context.specs.Vars.{Vars, under}
use Rattle.fst_derivations.specs.Deriv.{Deriv, row, one}
use Rattle.fst_derivations.specs.Parts.{IsFormed, IsConversion}
use Rattle.fst_derivations.specs.Rules.{Surroundings, Mode, Converted, converting, itself, At, Row}
use Rattle.fst_derivations.specs.Modules.{AreDerived, AreGlobalsFormed, ArePlainlyDerived, Equation, surroundings}
use Rattle.fst_derivations.specs.Modules.Equation.{parameter, result}
use Rattle.fst_derivations.specs.Laws.{Weaker}
use Rattle.fst_derivations.proofs.Weaker.{weaker_at}

-- what is behind the arrow of a well-formed type is well formed
result_formed : (vars : List Kind) (n : Use) (s r : Tree) → IsFormed vars (arrow n s r) → IsFormed vars r
result_formed vars n s r (k, w) =
    let h = w.kinded in (
      h.1.0,
      record {
        kinded = h.1.1;
        contractive = w.contractive.1;
        scoped = w.scoped.1;
        ordered =
            w.ordered.1;
      },
    )

module _ (m : Surroundings) (S : Mode) (fewer : Weaker S (converting (IsConversion m.vars))) where
  abbrev F : Tree → Tree → Type 0
  F = IsConversion m.vars

  abbrev Derived : CoreTree → Tree → List Variable → Vars → Deriv → Type 0
  Derived e t g u d = At m.vars t (Converted F) (Row m (converting F) e g) u d

  -- an equation's plain derivation
  pub equation_derived : {e : CoreTree} {t : Tree} {g : List Variable} {u : Vars} {d : Deriv} → IsFormed m.vars t →
      Equation m S e t g u d → Derived e t g u d
  equation_derived {t = t} {g = g} {u = u} h (parameter {uses = uses} {n = n} {e = a} {d = b} p has bound none x) =
      let formed : IsFormed m.vars p.to = result_formed m.vars uses p.from p.to (subst (IsFormed m.vars) p.type h) in
      let inner : Derived a p.to (record { type = p.from; uses = n } ∷ g) (under (is_once n) u) b = equation_derived formed x in
      record {
        core = row t (one b);
        stands = itself refl;
        rule = (
          p.from,
          n,
          b,
          p.written,
          has,
          tt,
          none,
          record { core = inner.core; stands = inner.stands; rule = inner.rule; formed = inner.formed },
          cc (p.type, inner.wanted),
        );
        formed = h;
        wanted = refl;
      }
  equation_derived {e = e} {t = t} {g = g} {u = u} {d = d} h (result apart x) = weaker_at m S (converting F) fewer e t g u d x

-- the plain derivations of equations whose types are well formed
pub globals_derived : (m : Module) (S : List Kind → Mode) →
    ((vars : List Kind) → Weaker (S vars) (converting (IsConversion vars))) →
    (gs : List GlobalEntry) (ds : List Deriv) → AreGlobalsFormed m.types.items gs → ArePlainlyDerived m S gs ds →
    AreDerived m IsConversion gs ds
globals_derived m S f [] [] h x = tt
globals_derived m S f [] (d ∷ ds) h x = absurd x
globals_derived m S f (g ∷ gs) [] h x = absurd x
globals_derived m S f (g ∷ gs) (d ∷ ds) h ((t, there, x), rest) =
    let same : h.0.0 ≡ t = cc (h.0.1, there) in (
      (
        t,
        there,
        equation_derived (surroundings m g.kinds.items) (S g.kinds.items) (f g.kinds.items)
            (subst (IsFormed g.kinds.items) same h.0.2) x,
      ),
      globals_derived m S f gs ds h.2 rest,
    )
