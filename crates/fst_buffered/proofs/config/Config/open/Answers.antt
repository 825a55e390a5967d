use Rattle.std.proofs.Common.{◌≡◌, ◌∙◌, ◌<◌, length, Some, sym, ap, arith}
use Rattle.std.specs.Prelude.{slice_get}
use Rattle.std.specs.Coded.{le_prop}
use Rattle.std.proofs.Math.Logic.{∥∥₁_map, ∥∥₁_elim}
use Rattle.std.proofs.lemmas.Result.{on_ok_weaker}
use Rattle.std.proofs.lemmas.Option.{slice_get-get_or}
use Rattle.fst_buffered.specs.Kept.{Kept}
use Rattle.fst_buffered.specs.KeptOf.{kept_of}
use Rattle.fst_buffered.proofs.Doing.{type_there, few_made, new_can, new_steps}
use Rattle.fst_buffered.proofs.config.Config.open.Goals as goal

pub index-requires : goal.index-requires
index-requires c =
    let code = c.args.code.now in
    let (s, there, asks) = c.requires.asks in
    let few : c.args.number < length code.types.items =
    ∥∥₁_elim c.requires.can le_prop (type_there code c.args.capacity (kept_of c.args.self.now) c.args.path.now s there
    c.args.number asks) in
    omega (arith, few, code.types.ok.0)

pub add_channel-requires : goal.add_channel-requires
add_channel-requires c =
    ∥∥₁_elim c.requires.can le_prop (few_made c.args.code.now c.args.capacity (kept_of c.args.self.now) c.args.path.now)

pub go_on-requires-clause-can : goal.go_on-requires-clause-can
go_on-requires-clause-can c =
    let (s, there, asks) = c.requires.asks in
    ∥∥₁_map c.requires.can (new_can c.args.code.now c.args.capacity (kept_of c.args.self.now) c.args.path.now s there
    c.args.number asks c.in_ok-name.name c.in_ok-name.ensures.name (kept_of c.add_channel.new.self)
    (ap (λ (z : Kept). z.tasks) c.in_ok-name.ensures.opened))

pub returns : goal.returns
returns c =
    let code = c.args.code.now in
    let types = code.types in
    let d = kept_of c.args.self.now in
    let p = c.args.path.now in
    let (s, there, asks) = c.requires.asks in
    let a = c.in_ok-declared.declared in
    let few : c.args.number < length types.items =
    ∥∥₁_elim c.requires.can le_prop (type_there code c.args.capacity d p s there c.args.number asks) in
    let type : slice_get types.items c.args.number ≡ Some a =
    slice_get-get_or types.items c.args.number c.index.result.now few
    ∙ ap Some (sym c.index.ensures ∙ sym c.in_ok-declared.ensures) in
    on_ok_weaker c.go_on.result (new_steps code c.args.capacity d p s there c.args.number a asks type c.in_ok-name.name
    c.in_ok-name.ensures.name (kept_of c.add_channel.new.self) (kept_of c.go_on.new.self) c.in_ok-name.ensures.opened)
    c.go_on.ensures.goes
