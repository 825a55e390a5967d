use Rattle.fst_parts.specs.Shapes.{shape_of}
use Rattle.fst_parts.proofs.numbers.Numbered.counts.Goals as goal

pub returns : goal.returns
returns c = c.counts.ensures (shape_of c.args.self.ty.now) c.requires
