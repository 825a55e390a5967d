use Rattle.std.proofs.Common.{◌≡◌, ◌<◌, ◌∙◌, ◌+◌, ◌-◌, ◌*◌, ◌++◌, ◌∷◌, [], ap, arith, inl, inr, length, subst, List, ℕ}
use Rattle.std.proofs.lemmas.Option.{slice_get_within}
use Rattle.std.proofs.lemmas.Result.{err_from_is_err_and}
use Rattle.fst_words.specs.Differences.{Differ}
use Rattle.fst_words.specs.Words.{WordBelow}
use Rattle.fst_basis.specs.declared.proof.Chain.{Chain}
use Rattle.fst_normed.specs.Candidates.{AreCandidates, CandidateDiffers, IsThere}
use Rattle.fst_normed.specs.Closing.{AllHold, rewrites_of}
use Rattle.fst_normed.specs.Joining.{AreJoinedByHeads, exchanges}
use Rattle.fst_normed.specs.Needs.{IsNeeded, TakesMore, rewrites_at}
use Rattle.fst_normed.specs.Normed.{IsNormedGrammar}
use Rattle.fst_normed.proofs.CandidateLaws.{few_candidates}
use Rattle.fst_normed.proofs.ClosingLaws.{hold_first, hold_next, hold_on, looked_at, looked_least, not_joined, takes_first, takes_more, there_on}
use Rattle.fst_normed.proofs.JoinLaws.{needed_differs}
use Rattle.fst_normed.proofs.NormedLaws.{weights}
use Rattle.fst_normed.proofs.StopLaws.{shows_on}
use Rattle.fst_normed.proofs.WalkLaws.{leads_on}
use Rattle.fst_normed.proofs.closing.close.Goals as goal

none_there : (c : ℕ × ℕ) → IsThere [] c → ⊥
none_there c t = (let e = t.1 in cc)

pub loop-at-init : goal.loop-at-init
loop-at-init c =
    let rows = c.args.g.now.rules.items in
    let norms = c.args.norms.now in
    let words = c.args.words.now in
    let e = c.in_ok-steps.ensures in
    let none = c.new-needed.ensures in
    let first : Chain = record { steps = c.in_ok-steps.steps } in
    let chains : c.push.new.self.items ≡ first ∷ [] = c.in_ok-push.ensures.items
    ∙ ap (λ (z : List Chain). z ++ first ∷ []) c.new-chains.ensures.items in
    let made = ap rewrites_of chains in
    let spent = e.spent in
    let count = e.count in
    record {
      are = e.noted.are;
      within = omega arith;
      each = λ d t. elim (e.noted.only d t) [
        | inl o ↦ absurd (none_there d (subst (λ (z : List (ℕ × ℕ)). IsThere z d) none o))
        | inr x ↦ IsNeeded.asked x
      ];
      hold = (first, [], chains, e.leads, hold_first rows norms words c.join.new.needed);
      made = omega arith;
      spent = omega arith;
    }

pub loop-at-preserved : goal.loop-at-preserved
loop-at-preserved c =
    let rows = c.args.g.now.rules.items in
    let norms = c.args.norms.now in
    let words = c.args.words.now in
    let i = c.loop-at.invariant in
    let e = c.in_ok-look.ensures in
    let at = c.loop-at.at in
    let p = c.get-x.result in
    let old = c.loop-at.needed in
    let new = c.look.new.needed in
    let b = e.noted.behind in
    let there = there_on old new at p b c.get-x.ensures in
    let longer = slice_get_within new at p there in
    let old_made = i.made in
    let new_made = e.made in
    let old_spent = i.spent in
    let new_spent = e.spent in
    let all = looked_at rows norms words old new at p b c.get-x.ensures in
    record {
      are = e.noted.are;
      within = omega arith;
      each = λ d t. elim (e.noted.only d t) [
        | inl o ↦ i.each d o
        | inr n ↦ IsNeeded.after p (i.each p (at, c.get-x.ensures)) n
      ];
      hold = (
        i.hold.0,
        i.hold.1 ++ e.holds.0,
        e.holds.1 ∙ ap (λ (z : List Chain). z ++ e.holds.0) i.hold.2,
        leads_on norms words old new b i.hold.0.steps.items c.args.u.now c.args.v.now i.hold.3,
        hold_next rows norms words new at p i.hold.1 e.holds.0 there
            (hold_on rows norms words old new b at i.hold.1 i.within i.hold.4)
            e.holds.2,
      );
      made = omega arith;
      spent = omega arith;
    }

pub loop-at-smaller : goal.loop-at-smaller
loop-at-smaller c =
    let few = few_candidates (length c.args.words.now) c.args.norms.now c.loop-at.needed c.loop-at.invariant.are in
    let count = c.len.ensures in
    let lt = c.loop-at-test.true in
    let g : length c.args.words.now * length c.args.words.now - (c.loop-at.at + 1) <
    length c.args.words.now * length c.args.words.now - c.loop-at.at = omega arith in
    g

pub look-requires-clause-x : goal.look-requires-clause-x
look-requires-clause-x c =
    let count = c.requires.grammar.lowering.count in
    let lt = (c.loop-at.invariant.are.each c.get-x.result (c.loop-at.at, c.get-x.ensures)).first in
    omega arith

pub look-requires-clause-y : goal.look-requires-clause-y
look-requires-clause-y c =
    let count = c.requires.grammar.lowering.count in
    let lt = (c.loop-at.invariant.are.each c.get-x.result (c.loop-at.at, c.get-x.ensures)).second in
    omega arith

pub returns-in_err-steps-clause-stopped : goal.returns-in_err-steps-clause-stopped
returns-in_err-steps-clause-stopped c =
    let rows = c.args.g.now.rules.items in
    let norms = c.args.norms.now in
    let words = c.args.words.now in
    let u = c.args.u.now in
    let v = c.args.v.now in
    let g = c.requires.grammar in
    let left = subst (λ (k : ℕ). WordBelow k u) g.lowering.count c.requires.left in
    let right = subst (λ (k : ℕ). WordBelow k v) g.lowering.count c.requires.right in
    let stop = c.in_err-steps.ensures.stopped in
    let s = err_from_is_err_and c.from_residual.result c.from_residual.ensures.1 in
    rw s.1 (shows_on s.0 (AreJoinedByHeads norms words u v → ⊥) (c.args.rewrites.now < length (exchanges norms words u v))
    (Differ rows u v) (TakesMore rows u v c.args.rewrites.now)
    (λ h. not_joined rows norms words g u v left right h) (λ h. takes_first rows norms words g u v c.args.rewrites.now h)
    (rw s.2 stop))

pub returns-in_err-look-clause-stopped : goal.returns-in_err-look-clause-stopped
returns-in_err-look-clause-stopped c =
    let rows = c.args.g.now.rules.items in
    let norms = c.args.norms.now in
    let words = c.args.words.now in
    let u = c.args.u.now in
    let v = c.args.v.now in
    let g = c.requires.grammar in
    let i = c.loop-at.invariant in
    let p = c.get-x.result in
    let left = subst (λ (k : ℕ). WordBelow k u) g.lowering.count c.requires.left in
    let right = subst (λ (k : ℕ). WordBelow k v) g.lowering.count c.requires.right in
    let stop = c.in_err-look.ensures.stopped in
    let spent = i.spent in
    let least = looked_least rows norms words c.loop-at.needed c.loop-at.at p c.get-x.ensures in
    let s = err_from_is_err_and c.from_residual-in_err-look.result c.from_residual-in_err-look.ensures.1 in
    rw s.1 (shows_on s.0 (IsNormedGrammar rows norms words → CandidateDiffers rows norms words p)
    (c.loop-at.rewrites < rewrites_at rows norms words p)
    (Differ rows u v) (TakesMore rows u v c.args.rewrites.now)
    (λ h. needed_differs rows norms words g.range (weights rows norms words g) u v left right p
    (i.each p (c.loop-at.at, c.get-x.ensures)) (h g))
    (λ h. takes_more rows norms words g u v c.args.rewrites.now c.loop-at.needed i.are.once i.each (omega arith))
    (rw s.2 stop))

pub returns-clause-closed : goal.returns-clause-closed
returns-clause-closed c =
    let rows = c.args.g.now.rules.items in
    let norms = c.args.norms.now in
    let words = c.args.words.now in
    let i = c.loop-at.invariant in
    let within = i.within in
    let end = c.loop-at-test.false in
    let count = c.len.ensures in
    let all : c.loop-at.at ≡ length c.loop-at.needed = omega arith in
    record {
      are = subst (λ (k : ℕ). AreCandidates k norms c.loop-at.needed) c.requires.grammar.lowering.count i.are;
      first = i.hold.0;
      others = i.hold.1;
      chains = i.hold.2;
      leads = i.hold.3;
      hold = subst (λ (k : ℕ). AllHold rows norms words c.loop-at.needed k i.hold.1) all i.hold.4;
    }
