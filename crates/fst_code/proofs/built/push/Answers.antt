use Rattle.std.proofs.Common.{refl}
use Rattle.fst_code.specs.Written.{compiled}
use Rattle.fst_code.proofs.Extended.{pushed}
use Rattle.fst_code.proofs.built.push.Goals as goal

pub returns : goal.returns
returns c = λ fs. pushed (compiled fs c.args.out.now)
    (compiled fs (record { code = c.push.new.self; lambdas = c.args.out.now.lambdas })) c.args.instr c.requires refl
    c.in_ok-push.ensures.items refl
