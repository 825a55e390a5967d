use Rattle.std.proofs.Common.{◌∙◌, sym, ap, subst, drop}
use Rattle.fst_locals.specs.Levels.{IsTable, names_in}
use Rattle.fst_locals.proofs.LevelLaws.{left, last_within}
use Rattle.fst_locals.proofs.locals.Locals.leave.Goals as goal

pub invariant_of-self : goal.invariant_of-self
invariant_of-self c =
    let es = c.self.inside.levels.entries in
    (left es c.pop.new.self.items c.in-Some.open (subst (IsTable es) c.in-Some.ensures.items c.self.invariant)).0

pub invariant_of-self-in_default-get_index_mut : goal.invariant_of-self-in_default-get_index_mut
invariant_of-self-in_default-get_index_mut c =
    let es = c.self.inside.levels.entries in
    let there = last_within es c.pop.new.self.items c.in-Some.open
    (subst (IsTable es) c.in-Some.ensures.items c.self.invariant) in
    absurd (cc (c.in_default-get_index_mut.ensures.found.1 there))

pub returns-in-Some-get_index_mut : goal.returns-in-Some-get_index_mut
returns-in-Some-get_index_mut c =
    let es = c.self.inside.levels.entries in
    let is = c.in-Some.ensures.items in
    (left es c.pop.new.self.items c.in-Some.open (subst (IsTable es) is c.self.invariant)).1
    ∙ ap (drop 1) (ap (names_in es) (sym is) ∙ c.self.view_is)
