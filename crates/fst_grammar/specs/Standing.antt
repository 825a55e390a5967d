-- Which types a word of a grammar stands for (Almeida, Mordido, Vasconcelos, TACAS 2020).
use Rattle.std.specs.Prelude.{ℕ, List, ◌↔◌}
use Rattle.fst_base.specs.Agreement.{Agree, HaveSameTraces}
use Rattle.fst_types.specs.Tree.{Tree}
use Rattle.fst_types.specs.declared.label.Label.{Label}
use Rattle.fst_lts.specs.Step as type
use Rattle.fst_words.specs.Words.{Productions, label_step}

-- a word stands for a type: both perform the same traces
abbrev pub StandsFor : List Label → Productions → List ℕ → Tree → Type 0
StandsFor letters rows w t = HaveSameTraces (label_step letters rows) type.step w t

-- a word stands for a type exactly where the two agree at every depth
abbrev pub StandingIsAgreement : Type 0
StandingIsAgreement =
    (letters : List Label) (rows : Productions) (w : List ℕ) (t : Tree) →
    StandsFor letters rows w t ↔ Agree (label_step letters rows) type.step w t
