use Rattle.std.proofs.Common.{◌⊎◌, inl, inr, refl}
use Rattle.fst_cell.specs.Answers.{FoundHeld, FoundStanding, IsNoticed}
use Rattle.fst_safety.proofs.BagCalls.{changed, passed}
use Rattle.fst_safety.proofs.bags.notice_at.Goals as goal

pub returns-in-Done : goal.returns-in-Done
returns-in-Done c =
    passed (λ e f. IsNoticed e c.in-Done.stamp f) c.args.bag.now.items c.args.retired.now.items c.swap_remove-end.new.self.items
    c.put_back.new.bag.items c.put_back.new.retired.items c.args.i
    c.swap_remove-end.result c.in-Done.end c.requires.there c.swap_remove-end.ensures.value c.swap_remove-end.ensures.items
    c.put_back.ensures.put c.in-Done.ensures

pub returns-in-NotYet : goal.returns-in-NotYet
returns-in-NotYet c = (
  changed (λ e f. FoundHeld e f ⊎ FoundStanding e f) c.args.bag.now.items c.swap_remove-end.new.self.items
      c.push_reserved.new.self.items c.args.i c.swap_remove-end.result c.in-NotYet.end
      c.requires.there c.swap_remove-end.ensures.value c.swap_remove-end.ensures.items c.push_reserved.ensures.items
      (inr c.in-NotYet.ensures),
  refl,
)

pub returns-in-Busy : goal.returns-in-Busy
returns-in-Busy c = (
  changed (λ e f. FoundHeld e f ⊎ FoundStanding e f) c.args.bag.now.items c.swap_remove-end.new.self.items
      c.push_reserved-in-Busy.new.self.items c.args.i c.swap_remove-end.result c.in-Busy.end
      c.requires.there c.swap_remove-end.ensures.value c.swap_remove-end.ensures.items c.push_reserved-in-Busy.ensures.items
      (inl c.in-Busy.ensures),
  refl,
)
