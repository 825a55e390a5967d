use Rattle.std.proofs.Common.{◌∙◌, true, ap}
use Rattle.fst_paths.specs.Paths.{has_path, put_at}
use Rattle.fst_paths.proofs.PathLaws.{has_after}
use Rattle.fst_paths.proofs.paths.insert_path.Goals as goal

pub returns : goal.returns
returns c =
    let old = c.args.paths.now.keys in
    let key = c.in_ok-key.key in
    let on = c.in_ok-insert.ensures.updates in
    has_after key.items old c.insert.new.self.keys true on.1 on.3
    ∙ ap (λ p. put_at p true (has_path old)) (c.in_ok-key.ensures.items ∙ c.as_slice.ensures)
