use Rattle.std.proofs.Common.{◌≡◌, ◌∙◌, ◌<◌, sym, ap, subst, Some, arith, length, get_or}
use Rattle.std.proofs.lemmas.List.{length-set}
use Rattle.std.proofs.lemmas.List.Elements.{All-cons}
use Rattle.std.proofs.lemmas.List.Sorted.{All-permutation}
use Rattle.std.proofs.lemmas.Grind.{common_steps}
use Rattle.fst_words.specs.Ordered.{AreOrdered}
use Rattle.fst_words.specs.Words.{row_of}
use Rattle.fst_norms.specs.Bounds.{rule_bound}
use Rattle.fst_norms.proofs.NormLaws.{relaxed_sound}
use Rattle.fst_norms.proofs.estimate.relax.Goals as goal

pub returns-in_ok-push : goal.returns-in_ok-push
returns-in_ok-push c =
    let rows = c.args.g.now.rules.items in
    let row : c.as_slice.result.now ≡ row_of rows c.args.p.now.number = grind (arith, common_steps) in
    let ordered : AreOrdered (row_of rows c.args.p.now.number) =
    subst AreOrdered (sym c.as_slice.ensures.rules ∙ row) c.as_slice.ensures.ordered in
    let is : Some c.in-Some.bound ≡ rule_bound c.args.e.now.bounds.items c.index-as_slice-p.result = sym c.in-Some.is
    ∙ rw c.deref.ensures.value at c.rule_bound.ensures in
    record {
      len = length-set c.args.e.now.bounds.items c.args.p.now.number (Some c.in-Some.bound) ∙ c.requires.estimate.len;
      sound = relaxed_sound rows c.args.e.now.bounds.items c.args.p.now.number c.args.p.now.rule c.index-as_slice-p.result
          (Some c.in-Some.bound) ordered c.requires.pending.rule
          (ap (λ l. get_or l c.args.p.now.rule c.index-as_slice-p.result) (sym row) ∙ sym c.index-as_slice-p.is)
          c.requires.estimate.sound is (omega arith);
      found = All-permutation (λ x. x.1 < length rows) _ _ c.in_ok-push.ensures.permutation
          (All-cons (λ x. x.1 < length rows) _ _ c.requires.pending.number c.requires.estimate.found);
    }
