use Rattle.std.proofs.Common.{◌∙◌, true, sym, ap}
use Rattle.fst_paths.specs.Paths.{has_path}
use Rattle.fst_buffered.proofs.KeptLaws.{put_same}
use Rattle.fst_buffered.proofs.notes.wake.Goals as goal

pub returns-then-contains : goal.returns-then-contains
returns-then-contains c =
    put_same c.args.path.now true (has_path c.args.ready.now.keys)
    (ap (has_path c.args.ready.now.keys) (sym c.as_slice.ensures) ∙ sym c.contains.ensures ∙ c.if-contains.true)
