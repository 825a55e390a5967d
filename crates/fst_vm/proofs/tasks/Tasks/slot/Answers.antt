use Rattle.std.proofs.Common.{◌≡◌, ◌∙◌, true, Option, Some, None, refl, sym, ap}
use Rattle.std.specs.Prelude.{option_map, is_some}
use Rattle.std.specs.Option.{option_copied}
use Rattle.fst_vm.specs.SlotOf.{slot_of, slot_in}
use Rattle.fst_vm.proofs.KeptLaws.{live_there, live_some}
use Rattle.fst_vm.proofs.tasks.Tasks.slot.Goals as goal

-- what is there after a function was before it
there_before : {A B : Type 0} (f : A → B) (o : Option A) → is_some (option_map f o) ≡ true → is_some o ≡ true
there_before f None e = e
there_before f (Some x) e = refl

pub unwrap-requires : goal.unwrap-requires
unwrap-requires c =
    let k = c.args.self.now in
    let p = c.args.path.now in
    let found : option_map slot_of (option_copied c.get.result) ≡ slot_in k.live.entries p =
    ap (option_map slot_of) c.get.ensures.value ∙ ap (slot_in k.live.entries) c.as_slice.ensures in
    there_before (λ x. x.now) c.get.result (there_before slot_of (option_copied c.get.result)
    (ap (λ o. is_some o) found ∙ live_some k p c.requires))

pub returns : goal.returns
returns c =
    let k = c.args.self.now in
    let p = c.args.path.now in
    live_there k p c.requires
    ∙ ap (slot_in k.live.entries) (sym c.as_slice.ensures)
    ∙ ap (option_map slot_of) (sym c.get.ensures.value ∙ ap option_copied c.unwrap.ensures)
