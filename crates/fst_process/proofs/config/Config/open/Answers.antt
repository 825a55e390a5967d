use Rattle.std.proofs.Common.{◌≡◌, ◌∙◌, ◌<◌, length, Some, sym, ap, arith}
use Rattle.std.specs.Prelude.{slice_get}
use Rattle.std.specs.Coded.{le_prop}
use Rattle.std.proofs.Math.Logic.{∥∥₁_map, ∥∥₁_elim}
use Rattle.std.proofs.lemmas.Result.{on_ok_weaker}
use Rattle.std.proofs.lemmas.Option.{slice_get-get_or}
use Rattle.fst_vm.specs.SlotOf.{slot_of}
use Rattle.fst_process.specs.KeptOf.{kept_of}
use Rattle.fst_process.proofs.FireNew.{type_there, new_can, new_happens}
use Rattle.fst_process.proofs.config.Config.open.Goals as goal

pub index-requires : goal.index-requires
index-requires c =
    let it = c.slot in
    let types = c.args.code.now.types in
    let few : c.in-New.number < length types.items =
    ∥∥₁_elim c.requires le_prop (type_there c.args.code.now (kept_of c.args.self.now) c.args.path.now
    (slot_of it.result.now) it.ensures c.in-New.number c.in-New.is) in
    omega (arith, few, types.ok.0)

pub go_on-requires : goal.go_on-requires
go_on-requires c =
    let it = c.slot in
    ∥∥₁_map c.requires
    (new_can c.args.code.now (kept_of c.args.self.now) c.args.path.now
    (slot_of it.result.now) it.ensures c.in_ok-name-in-New.name c.in_ok-name-in-New.ensures.name
    c.in_ok-declared-in-New.declared (kept_of c.add_channel.new.self) c.in_ok-name-in-New.ensures.opened)

pub returns-in_ok-name-in-New : goal.returns-in_ok-name-in-New
returns-in_ok-name-in-New c =
    let it = c.slot in
    let p = c.args.path.now in
    let code = c.args.code.now in
    let types = code.types in
    let old = kept_of c.args.self.now in
    let s = slot_of it.result.now in
    let a = c.in_ok-declared-in-New.declared in
    let few : c.in-New.number < length types.items =
    ∥∥₁_elim c.requires le_prop (type_there code old p s it.ensures c.in-New.number c.in-New.is) in
    let type : slice_get types.items c.in-New.number ≡ Some a =
    slice_get-get_or types.items c.in-New.number c.index.result.now few
    ∙ ap Some (sym c.index.ensures ∙ sym c.in_ok-declared-in-New.ensures) in
    on_ok_weaker c.go_on.result
    (new_happens code old p s it.ensures c.in_ok-name-in-New.name c.in_ok-name-in-New.ensures.name c.in-New.number a
    (kept_of c.add_channel.new.self) (kept_of c.go_on.new.self)
    c.in-New.is type c.in_ok-name-in-New.ensures.opened) c.go_on.ensures
