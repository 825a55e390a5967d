use Rattle.std.proofs.Common.{◌∙◌, [], ap, inr, subst, sym}
use Rattle.std.proofs.lemmas.Option.{same_Some}
use Rattle.std.proofs.lemmas.Result.{err_from_is_err_and}
use Rattle.fst_types.specs.Tree as type
use Rattle.fst_kinds.specs.WellFormed.{IsSession}
use Rattle.fst_premises.specs.Scenes.{check_in}
use Rattle.fst_premises.specs.Shown.{IsTooLargeAt}
use Rattle.fst_premises.proofs.Channels.{channel_typed, session_below}
use Rattle.fst_premises.proofs.leaves.new_channel.Goals as goal

pub returns-in_err-pair_of-clause-refused : goal.returns-in_err-pair_of-clause-refused
returns-in_err-pair_of-clause-refused c =
    let k = c.in_ok-kind.ensures in
    let same = same_Some k.0 c.type_at-left.result.now (sym k.1 ∙ c.type_at-left.ensures) in
    let below = sym c.subkind.ensures ∙ c.if-not-subkind.false in
    let p = err_from_is_err_and c.from_residual-in_err-pair_of.result c.from_residual-in_err-pair_of.ensures.1 in
    rw (p.1, p.2) (λ m. (
      c.type_at-left.result.now,
      c.type_at-left.ensures,
      inr (
        subst (λ t. IsSession [] t) same (session_below k.0 c.in_ok-kind.kind k.2 below),
        subst (λ o. IsTooLargeAt c.args.at (type.pair c.type_at-left.result.now o) c.in_err-pair_of.field-0.0)
            c.in_ok-right.ensures (c.in_err-pair_of.ensures.err m),
      ),
    ))

pub returns-clause-typed : goal.returns-clause-typed
returns-clause-typed c =
    let k = c.in_ok-kind.ensures in
    let same = same_Some k.0 c.type_at-left.result.now (sym k.1 ∙ c.type_at-left.ensures) in
    let below = sym c.subkind.ensures ∙ c.if-not-subkind.false in
    channel_typed (check_in c.args.scene) c.args.at c.args.k c.args.context.now _ c.in_ok-pair_of.field-0
    c.type_at-left.result.now c.type_at-left.ensures
    (subst (λ t. IsSession [] t) same (session_below k.0 c.in_ok-kind.kind k.2 below))
    (c.in_ok-pair_of.ensures.ok ∙ ap (λ o. type.pair c.type_at-left.result.now o) c.in_ok-right.ensures)
    c.in_ok-pair_of.ensures.small c.leaf.ensures
