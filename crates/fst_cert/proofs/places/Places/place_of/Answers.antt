use Rattle.std.proofs.Common.{◌∙◌, sym}
use Rattle.fst_cert.proofs.PlaceLaws.{found, place_is, stay}
use Rattle.fst_cert.proofs.places.Places.place_of.Goals as goal

pub invariant_of-self : goal.invariant_of-self
invariant_of-self c =
    let W = c.numbers.new.words in
    let keys = c.self.inside.keys.keys in
    let pairs = c.args.self.now in
    let stored = stay c.self.inside.words W keys pairs c.numbers.ensures.kept c.self.invariant c.self.view_is in
    stored.below

pub unwrap-place-requires : goal.unwrap-place-requires
unwrap-place-requires c =
    let W = c.numbers.new.words in
    let keys = c.self.inside.keys.keys in
    let pairs = c.args.self.now in
    let stored = stay c.self.inside.words W keys pairs c.numbers.ensures.kept c.self.invariant c.self.view_is in
    c.get_index_of.ensures.found ∙ found W keys pairs stored c.args.left.now c.args.right.now c.in_ok-key.key
    c.in_ok-key.ensures.key c.in_ok-key.ensures.once c.requires.there (sym c.eq.ensures ∙ c.if-eq.false)

pub invariant_of-self-2 : goal.invariant_of-self-2
invariant_of-self-2 c =
    let W = c.numbers.new.words in
    let keys = c.self.inside.keys.keys in
    let pairs = c.args.self.now in
    let stored = stay c.self.inside.words W keys pairs c.numbers.ensures.kept c.self.invariant c.self.view_is in
    stored.below

pub returns-clause-place : goal.returns-clause-place
returns-clause-place c =
    let W = c.numbers.new.words in
    let keys = c.self.inside.keys.keys in
    let pairs = c.args.self.now in
    let stored = stay c.self.inside.words W keys pairs c.numbers.ensures.kept c.self.invariant c.self.view_is in
    place_is W keys pairs stored c.args.left.now c.args.right.now c.in_ok-key.key c.in_ok-key.ensures.key
    c.unwrap-place.result (sym c.get_index_of.ensures.index ∙ c.unwrap-place.ensures)

pub returns-clause-pairs : goal.returns-clause-pairs
returns-clause-pairs c =
    let W = c.numbers.new.words in
    let keys = c.self.inside.keys.keys in
    let pairs = c.args.self.now in
    let stored = stay c.self.inside.words W keys pairs c.numbers.ensures.kept c.self.invariant c.self.view_is in
    stored.pairs
