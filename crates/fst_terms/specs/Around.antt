-- A term as its innermost first part and what stands around it.
use Rattle.std.specs.Prelude.{Bool, true, false, List, [], ◌∷◌}
use Rattle.fst_terms.specs.CoreTree.{CoreTree, operate, apply}
use Rattle.fst_terms.specs.declared.steps.Step.{Step}
use Rattle.fst_terms.specs.declared.steps.Step.TheVariants.{Operate, Apply}

-- the second part
abbrev pub second : Step → CoreTree
second (Operate at o t) = t.now
second (Apply at t) = t.now

-- the step with this first part
abbrev pub wrap : Step → CoreTree → CoreTree
wrap (Operate at o t) s = operate at o s t.now
wrap (Apply at t) s = apply at s t.now

-- the steps around a term, of which the last stands next to it
abbrev pub around : CoreTree → List Step → CoreTree
around s [] = s
around s (x ∷ xs) = wrap x (around s xs)

-- the term is an operation or an application
abbrev pub has_first : CoreTree → Bool
has_first (operate at o s t) = true
has_first (apply at s t) = true
has_first _ = false
