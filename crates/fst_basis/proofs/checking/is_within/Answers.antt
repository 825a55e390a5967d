use Rattle.std.proofs.Common.{◌≡◌, length, refl, arith}
use Rattle.fst_basis.proofs.checking.is_within.Goals as goal

pub returns-then-not-are_below : goal.returns-then-not-are_below
returns-then-not-are_below c =
    let len : c.len-count.result ≡ length c.args.g.now.rules.items = omega arith in
    ((λ t. cc), (λ h. rw c.if-not-are_below.true at c.are_below.ensures.1 (rw len h.pairs)))

pub returns : goal.returns
returns c =
    let len : c.len-count.result ≡ length c.args.g.now.rules.items = omega arith in (
      (λ t. record {
        letters = c.if-not-are_letters_below.ensures.0 refl;
        rules = c.if-not-is_in_range.ensures.0 refl;
        count = (let e : length c.args.marks.now ≡ length c.args.g.now.rules.items = omega arith in e);
        left = rw len at c.if-not-is_below.ensures.0 refl;
        right = rw len at c.if-not-is_below-2.ensures.0 refl;
        pairs = rw len at c.if-not-are_below.ensures.0 refl;
        chains = rw len at c.are_chains_below.ensures.0 t;
      }),
      (λ h. c.are_chains_below.ensures.1 (rw len h.chains)),
    )
