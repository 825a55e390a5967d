use Rattle.std.proofs.Common.{refl, ◌∙◌, ap}
use Rattle.std.specs.Prelude.{map}
use Rattle.fst_terms.specs.Naming.{place_of}
use Rattle.fst_scopes.specs.Bytes.{bytes_of}
use Rattle.fst_scopes.proofs.TableLaws.{place_is}
use Rattle.fst_scopes.proofs.table.NameTable.number_of.Goals as goal

pub returns-clause-number : goal.returns-clause-number
returns-clause-number c =
    let ks = c.self.inside.set.keys in
    rw (← c.self.view_is) (c.get_index_of.ensures.index ∙ place_is _ c.as_slice.result.now (λ k. refl) ks
    ∙ ap (place_of (map bytes_of ks)) c.as_slice.ensures.bytes)
