-- The types of the trials are closed session types.
use Rattle.std.proofs.Common.{[], refl, arith}
use Rattle.fst_types.specs.Tree.{send, seq, rec, back}
use Rattle.fst_types.specs.declared.base.Base.TheVariants.{Int}
use Rattle.fst_types.specs.declared.kind.Use.TheVariants.{Many, Once}
use Rattle.fst_kinds.specs.WellFormed.{IsSession}

-- `!Int`
pub number_session : IsSession [] (send Int)
number_session = (Once, record { kinded = refl; contractive = tt; scoped = tt; ordered = tt })

-- `rec x. !Int;x`
pub numbers_session : IsSession [] (rec (seq (send Int) (back 0)))
numbers_session = (
  Once,
  record {
    kinded = ((Once, Many, refl, refl, refl), refl);
    contractive = ((tt, tt), refl);
    scoped =
        (tt, omega arith);
    ordered = (tt, tt);
  },
)
