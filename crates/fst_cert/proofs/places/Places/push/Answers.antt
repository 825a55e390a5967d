use Rattle.std.proofs.Common.{length, subst, sym}
use Rattle.fst_shared.specs.Shared.{AreKeys}
use Rattle.fst_cert.proofs.PlaceLaws.{push_adds, push_below, stay}
use Rattle.fst_cert.proofs.places.Places.push.Goals as goal

pub invariant_of-self : goal.invariant_of-self
invariant_of-self c =
    let W = c.numbers.new.words in
    let keys = c.self.inside.keys.keys in
    let pairs = c.args.self.now in
    let stored = stay c.self.inside.words W keys pairs c.numbers.ensures.kept c.self.invariant c.self.view_is in
    stored.below

pub invariant_of-self-in_err-insert : goal.invariant_of-self-in_err-insert
invariant_of-self-in_err-insert c =
    let W = c.numbers.new.words in
    let keys = c.self.inside.keys.keys in
    let pairs = c.args.self.now in
    let stored = stay c.self.inside.words W keys pairs c.numbers.ensures.kept c.self.invariant c.self.view_is in
    subst (AreKeys (length W)) (sym c.in_err-insert.ensures.err) stored.below

pub invariant_of-self-2 : goal.invariant_of-self-2
invariant_of-self-2 c =
    let W = c.numbers.new.words in
    let keys = c.self.inside.keys.keys in
    let pairs = c.args.self.now in
    let stored = stay c.self.inside.words W keys pairs c.numbers.ensures.kept c.self.invariant c.self.view_is in
    push_below W keys pairs stored c.args.left.now c.args.right.now c.in_ok-key.key c.in_ok-key.ensures.key
    c.insert.new.self.keys c.in_ok-insert.ensures.keys c.requires

pub returns : goal.returns
returns c =
    let W = c.numbers.new.words in
    let keys = c.self.inside.keys.keys in
    let pairs = c.args.self.now in
    let stored = stay c.self.inside.words W keys pairs c.numbers.ensures.kept c.self.invariant c.self.view_is in
    push_adds W keys pairs stored c.args.left.now c.args.right.now c.in_ok-key.key c.in_ok-key.ensures.key
    c.insert.new.self.keys c.in_ok-insert.ensures.keys c.requires
