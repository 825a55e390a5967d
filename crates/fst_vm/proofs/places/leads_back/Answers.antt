use Rattle.std.proofs.Common.{◌∙◌, sym}
use Rattle.fst_vm.specs.Running.{code_of}
use Rattle.fst_vm.specs.declared.places.Way.TheVariants.{Back, Over, Elsewhere}
use Rattle.fst_vm.proofs.BackLaws.{way_tells}
use Rattle.fst_vm.proofs.places.leads_back.Goals as goal

pub returns-in-Back : goal.returns-in-Back
returns-in-Back c = λ fs. sym (way_tells c.args.place c.loop.counter (code_of fs c.args.code.now) c.loop.at Back c.loop-test.true
    (c.in-Back.ensures fs)) ∙ c.loop.invariant fs

pub returns-in-Elsewhere : goal.returns-in-Elsewhere
returns-in-Elsewhere c = λ fs. sym (way_tells c.args.place c.loop.counter (code_of fs c.args.code.now) c.loop.at Elsewhere
    c.loop-test.true (c.in-Elsewhere.ensures fs)) ∙ c.loop.invariant fs

pub loop-preserved : goal.loop-preserved
loop-preserved c = λ fs. sym (way_tells c.args.place c.loop.counter (code_of fs c.args.code.now) c.loop.at (Over c.in-Over.next)
    c.loop-test.true (c.in-Over.ensures fs)) ∙ c.loop.invariant fs
