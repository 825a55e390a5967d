use Rattle.std.proofs.Common.{◌∙◌, ap, subst, sym}
use Rattle.fst_types.specs.declared.base.Base.TheVariants.{Int}
use Rattle.fst_derivations.specs.Deriv.{deriv_of, type_of}
use Rattle.fst_derivations.specs.Parts.{IsComparable, IsFormed}
use Rattle.fst_premises.specs.Scenes.{check_in}
use Rattle.fst_typing.specs.Typed.{IsKnown}
use Rattle.fst_typing.proofs.Comparable.{known_itself}
use Rattle.fst_typing.proofs.Forms.{base_formed}
use Rattle.fst_typing.proofs.operands.first_compared.Goals as goal

pub compared-requires-clause-wanted : goal.compared-requires-clause-wanted
compared-requires-clause-wanted c = subst (IsFormed c.args.scene.vars.now) (sym c.base-wanted.ensures)
    (base_formed (check_in c.args.scene) Int)

pub returns-then-is_comparable-clause-known : goal.returns-then-is_comparable-clause-known
returns-then-is_comparable-clause-known c =
    let s = type_of (deriv_of c.args.d) in
    let same = ap type_of c.in_ok-turned.ensures ∙ c.in_ok-parts.ensures.second ∙ c.type_of-then-is_comparable-2.ensures in
    let comparable = subst IsComparable c.type_of.ensures (c.is_comparable.ensures.yes c.if-is_comparable.true) in
    subst (λ o. IsKnown (check_in c.args.scene) s o) (sym same)
    (known_itself (check_in c.args.scene) s c.requires.found comparable)
