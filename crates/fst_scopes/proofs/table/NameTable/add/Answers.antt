use Rattle.std.proofs.Common.{◌≡◌, refl, ◌∙◌, ap, not}
use Rattle.std.specs.Prelude.{map}
use Rattle.fst_scopes.specs.Bytes.{bytes_of}
use Rattle.fst_scopes.specs.Faults.{is_among}
use Rattle.fst_scopes.specs.Kept.{with_name}
use Rattle.fst_scopes.proofs.TableLaws.{any_is, with_is}
use Rattle.fst_scopes.proofs.table.NameTable.add.Goals as goal

pub returns-clause-names : goal.returns-clause-names
returns-clause-names c =
    let key = c.in_ok-key.key in
    let ks = c.self.inside.set.keys in
    let is : key.items ≡ c.args.name.now = c.in_ok-key.ensures.items ∙ c.as_slice.ensures.bytes in
    rw (← c.self.view_is) (ap (map bytes_of) c.in_ok-is_new.ensures.keys ∙ with_is _ key.items (λ k. refl) ks key refl
    ∙ ap (with_name (map bytes_of ks)) is)

pub returns-clause-is_new : goal.returns-clause-is_new
returns-clause-is_new c =
    let key = c.in_ok-key.key in
    let ks = c.self.inside.set.keys in
    let is : key.items ≡ c.args.name.now = c.in_ok-key.ensures.items ∙ c.as_slice.ensures.bytes in
    rw (← c.self.view_is) (c.in_ok-is_new.ensures.added
    ∙ ap not (any_is _ key.items (λ k. refl) ks ∙ ap (is_among (map bytes_of ks)) is))
