use Rattle.std.proofs.Common.{◌<◌, ℕ, List, length, sym, subst}
use Rattle.fst_shared.specs.Shared.{words_of}
use Rattle.fst_base.proofs.Bools.{pair_eq, same_pair, pair_itself}
use Rattle.fst_shared.proofs.TableLaws.{pushed, IsPushed}
use Rattle.fst_shared.proofs.words.SharedWords.push.Goals as goal

done : (c : goal.In_ok-at) → IsPushed c.insert_full.new.self.keys c.args.self.now
    (words_of c.insert_full.new.self.keys) c.args.head c.args.tail c.in_ok-at.at
done c =
    let e = c.in_ok-at.ensures in
    subst (λ (z : List (List ℕ)). IsPushed c.insert_full.new.self.keys z
    (words_of c.insert_full.new.self.keys) c.args.head c.args.tail c.in_ok-at.at) c.self.view_is
    (pushed pair_eq same_pair pair_itself c.self.inside.nodes.keys c.insert_full.new.self.keys c.args.head c.args.tail
    c.in_ok-at.at e.stored.0
    c.self.invariant (subst (λ (z : List (List ℕ)). c.args.tail < length z) (sym c.self.view_is) c.requires) e.keys e.stored.1
    e.stored.2)

pub invariant_of-self-2 : goal.invariant_of-self-2
invariant_of-self-2 c = (done c).table

pub returns-clause-word : goal.returns-clause-word
returns-clause-word c = (done c).word

pub returns-clause-within : goal.returns-clause-within
returns-clause-within c = (done c).within

pub returns-clause-kept : goal.returns-clause-kept
returns-clause-kept c = (done c).kept
