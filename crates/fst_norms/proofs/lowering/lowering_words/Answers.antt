use Rattle.std.proofs.Common.{◌≡◌, ◌∙◌, ◌++◌, ◌∷◌, [], All, ap, arith, length, List, ℕ, subst, sym}
use Rattle.std.proofs.lemmas.List.Elements.{All-append, All-cons, All-nil}
use Rattle.fst_base.proofs.Lists.{length-push}
use Rattle.fst_words.specs.Words.{WordBelow, row_of}
use Rattle.fst_norms.specs.Bounds.{bound_at}
use Rattle.fst_norms.specs.Lowering.{lowered_to, lowering}
use Rattle.fst_norms.proofs.LoweringLaws.{lowered_push, lowering_in_range}
use Rattle.fst_norms.proofs.lowering.lowering_words.Goals as goal

pub loop-n-preserved : goal.loop-n-preserved
loop-n-preserved c =
    let i = c.loop-n.invariant in
    let e = c.in_ok-lowering_word.ensures in
    let words = c.loop-n.words.items in
    let word = c.in_ok-lowering_word.field-0 in
    let pushed : c.push.new.self.items ≡ words ++ word ∷ [] = c.in_ok-push.ensures.items in
    let f : ℕ → List ℕ = λ k. lowering c.args.norms.now (row_of c.args.g.now.rules.items k) (bound_at c.args.norms.now k) in
    let count = i.count in
    let longer = length-push words word in
    let long = ap length pushed in
    let P : List ℕ → Type 0 = WordBelow (length c.args.g.now.rules.items) in
    let below : P word = subst P (sym e) (lowering_in_range c.args.g.now.rules.items c.args.norms.now c.loop-n.n c.requires.range
    (omega arith)) in
    record {
      count = omega arith;
      each = λ k lt. ap (λ (z : List (List ℕ)). lowered_to z k) pushed
          ∙ lowered_push words word f c.loop-n.n count i.each e k (omega arith);
      range = subst (All P) (sym pushed) (All-append P words (word ∷ []) i.range (All-cons P word [] below (All-nil P)));
    }
