use Rattle.std.proofs.Common.{◌≡◌, Bool, true, false, ◌∙◌, sym, refl}
use Rattle.std.specs.Prelude.{not}
use Rattle.fst_breadth.proofs.NotedLaws.{there}
use Rattle.fst_breadth.proofs.noted.Noted.note.Goals as goal

not_false : (b : Bool) → not b ≡ false → b ≡ true
not_false true e = refl
not_false false e = absurd (cc e)

pub returns-clause-old : goal.returns-clause-old
returns-clause-old c = λ old. rw (← c.self.view_is)
    (there (c.args.left, c.args.right) c.self.inside.pairs.keys (not_false _ (sym c.in_ok-new.ensures.added ∙ old)))
