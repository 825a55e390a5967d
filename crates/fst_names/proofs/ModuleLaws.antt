-- The module of declarations, and what is told of them.
use Rattle.std.proofs.Common.{◌≡◌, ◌∙◌, true, false, List, [], ◌∷◌, ◌++◌, codes, map, Option, Some, None, refl, sym, ap, subst}
use Rattle.std.specs.Prelude.{if◌then◌else◌}
use Rattle.std.proofs.lemmas.List.{map-append}
use Rattle.fst_terms.specs.ModuleTree.{Declared}
use Rattle.fst_terms.specs.declared.core_module.Module.{Module}
use Rattle.fst_terms.specs.declared.global.GlobalEntry.{GlobalEntry}
use Rattle.fst_scopes.specs.Aliases.{Known, IsKnown}
use Rattle.fst_scopes.specs.Faults.{is_among}
use Rattle.fst_scopes.specs.First.{first_from, first_fault}
use Rattle.fst_scopes.specs.TypeNames.{type_declared}
use Rattle.fst_scopes.specs.declared.fault.NameFault.{NameFault}
use Rattle.fst_scopes.specs.declared.fault.NameFault.TheVariants.{NoMain}
use Rattle.fst_scopes.proofs.Laws.{first_append, no_first}
use Rattle.fst_term_names.specs.declared.meanings.TypeList.{TypeList}
use Rattle.fst_declarations.specs.Declarations.{AreDeclarations, known_in}
use Rattle.fst_declarations.specs.ModuleFaults.{globals, twice_declared, decls_faults, faults_but_main, no_main, module_faults}
use Rattle.fst_declarations.specs.declared.declarations.Declarations.{Declarations}
use Rattle.fst_declarations.proofs.Laws.{same_declared}
use Rattle.fst_names.specs.Faultless.{IsFaultless}
use Rattle.fst_names.specs.Modules.{TypeAt, decls_types, equations_from, global_parts, module_globals, parameters_types}
use Rattle.fst_names.specs.Parts.{AreParts, IsLonger}
use Rattle.fst_names.specs.ResolvedModule.{IsResolvedModule}
use Rattle.fst_names.specs.declared.parts.Parts.{Parts}
use Rattle.fst_names.proofs.OneModule.{known_same}
use Rattle.fst_names.proofs.WholeLaws.{IsBuilt, sized}

-- ---- the module

-- what is known is known of what is declared
pub own_known : (ds : List Declared) (d : Declarations) → AreDeclarations ds d → IsKnown (type_declared ds) (known_in d)
own_known ds d are = subst (λ declared. IsKnown declared (known_in d)) (same_declared ds d.types are.types) are.known

-- the parts of a module are those that its source gives
pub built : (ds : List Declared) (d : Declarations) (p : Parts) (entries : List GlobalEntry) (list : TypeList) →
    IsFaultless ds d → AreParts ds (known_in d) ds p → map global_parts entries ≡ module_globals ds (known_in d) →
    IsLonger p.list (parameters_types ds (known_in d) (equations_from 0 ds)) list →
    IsBuilt ds (known_in d) p.families.items entries list.types.items list.places.items
built ds d p entries list whole parts globals_are longer = record {
  filled = whole.filled;
  is_known = own_known ds d whole.declared;
  faultless = whole.faultless;
  types_are =
      longer.types ∙ ap (λ z. z ++ map (λ (t : TypeAt). t.stands) (parameters_types ds (known_in d) (equations_from 0 ds)))
      parts.types ∙
      sym (map-append (λ (t : TypeAt). t.stands) (decls_types ds (known_in d) ds)
      (parameters_types ds (known_in d) (equations_from 0 ds)));
  places_are =
      longer.places ∙ ap (λ z. z ++ map (λ (t : TypeAt). t.at) (parameters_types ds (known_in d) (equations_from 0 ds)))
      parts.places ∙
      sym (map-append (λ (t : TypeAt). t.at) (decls_types ds (known_in d) ds)
      (parameters_types ds (known_in d) (equations_from 0 ds)));
  families_are = parts.families;
  globals_are = globals_are;
}

-- and so is the module
pub is_resolved : (ds : List Declared) (known : Known) (m : Module) →
    IsBuilt ds known m.families.items m.globals.items m.types.items m.places.items → IsResolvedModule ds m
is_resolved ds known m b = record {
  known = known;
  is_known = b.is_known;
  faultless = b.faultless;
  types = b.types_are;
  places = b.places_are;
  families = b.families_are;
  globals = b.globals_are;
  small = sized ds known m.families.items m.globals.items m.types.items m.places.items b;
}

-- ---- the first fault

-- where a fault is first, nothing is told of main
pub main_kept : (ds : List Declared) (fs : List NameFault) (f : NameFault) → Some f ≡ first_fault fs → no_main ds fs ≡ fs
main_kept ds [] f e = absurd (cc e)
main_kept ds (g ∷ fs) f e = refl

-- so it is where something is named main
pub main_there : (ds : List Declared) (fs : List NameFault) → is_among (globals ds) (codes "main") ≡ true → no_main ds fs ≡ fs
main_there ds [] e = ap (λ c. if c then [] else NoMain ∷ []) e
main_there ds (g ∷ fs) e = refl

-- where nothing is, this is told
pub main_told : (ds : List Declared) (fs : List NameFault) → is_among (globals ds) (codes "main") ≡ false →
    first_fault fs ≡ None → Some NoMain ≡ first_fault (no_main ds fs)
main_told ds fs e none =
    sym (ap (λ c. first_fault (if c then [] else NoMain ∷ [])) e) ∙ ap
    (λ gs. first_fault (no_main ds gs)) (sym (no_first fs none))

-- the first of all faults
pub all_noted : (ds : List Declared) (known : Known) (one two three : Option NameFault) →
    one ≡ first_from None (twice_declared ds) → two ≡ first_from one (decls_faults ds known ds) →
    (two ≡ first_fault (faults_but_main ds known) → three ≡ first_fault (no_main ds (faults_but_main ds known))) →
    three ≡ first_fault (module_faults ds known)
all_noted ds known one two three first second third =
    third (second ∙ ap (λ k. first_from k (decls_faults ds known ds)) first
    ∙ sym (first_append None (twice_declared ds) (decls_faults ds known ds)))

-- whatever is known
pub any_known : (ds : List Declared) (d : Declarations) (f : Option NameFault) → AreDeclarations ds d →
    f ≡ first_fault (module_faults ds (known_in d)) →
    (known : Known) → IsKnown (type_declared ds) known → first_fault (module_faults ds known) ≡ f
any_known ds d f are is known is_known = ap (λ k. first_fault (module_faults ds k))
    (known_same (type_declared ds) known (known_in d) is_known (own_known ds d are)) ∙ sym is

-- where none is first, there is none
pub none_first : (ds : List Declared) (known : Known) (f : Option NameFault) → f ≡ first_fault (module_faults ds known) →
    f ≡ None → module_faults ds known ≡ []
none_first ds known f is none = no_first (module_faults ds known) (sym is ∙ none)
