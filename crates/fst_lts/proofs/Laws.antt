-- What other crates cite of the moves of types and of agreement.
use Rattle.std.proofs.Common.{◌≡◌, ℕ, suc, List, [], true, false, Some}
use Rattle.std.specs.Prelude.{Contains, IsSome, IfSome, option_map, if◌then◌else◌}
use Rattle.fst_types.specs.Tree.{Tree, skip, seq, rec, back}
use Rattle.fst_types.specs.declared.kind.Kind.{Kind}
use Rattle.fst_types.specs.declared.label.Label.{Label}
use Rattle.fst_types.specs.Scoped.{IsScoped}
use Rattle.fst_types.specs.Substitution.{unfolding_of}
use Rattle.fst_kinds.specs.Contractive.{guards, reaches, IsContractive, IsGuarded}
use Rattle.fst_kinds.specs.WellFormed.{IsSession}
use Rattle.fst_base.specs.Agreement.{AgreeTo}
use Rattle.fst_lts.specs.Step.{terminated, labels, is_end, followed, step}
use Rattle.fst_lts.specs.Moves.{Moves}
use Rattle.fst_lts.proofs.GuardLaws as guard
use Rattle.fst_lts.proofs.LabelLaws as label
use Rattle.fst_lts.proofs.MoveLaws as moved
use Rattle.fst_lts.proofs.ResidualLaws as left
use Rattle.fst_lts.proofs.AgreementLaws as agreement
-- the dual of the dual is the type itself, and so it is for labels
pub use Rattle.fst_lts.proofs.DualLaws.{dual-dual, dual-dual_option, dual_label-dual_label}
-- behind a label by which no protocol ends the second part of a sequence is left, and behind an end nothing is
pub use Rattle.fst_lts.proofs.MoveLaws.{followed_on, followed_ended}
-- a type moves by outputs alone or by none; what is sent is an output, what is received is none
pub use Rattle.fst_lts.proofs.EventLaws.{one_direction, sending_output, receiving_output}
-- a type that receives an event doesn't send it; one that receives a value or waits for the end moves by no other label, and one
-- that offers a branch by branches alone
pub use Rattle.fst_lts.proofs.EventLaws.{not_both, one_message, one_wait, one_offer}
-- what moves isn't terminated; where an event is sent or received, the type goes on so
pub use Rattle.fst_lts.proofs.EventLaws.{moving, after_sent, after_received}
-- the dual moves by the dual label, receives what the type sends and sends what it receives
pub use Rattle.fst_lts.proofs.EventLaws.{dual_step, dual_receives, dual_sends}
-- after a history the dual is the dual of the type
pub use Rattle.fst_lts.proofs.EventLaws.{after_history-dual}
-- a stamped history stays one with an entry more that has the next stamp and clocks below 2^63, and this entry has that stamp; no stamp
-- of such a history is over 2^63 and its length
pub use Rattle.fst_lts.proofs.StampLaws.{stamped_push, stamped_last, stamps_below}
-- the last stamp of a history with an entry more is that of the entry, and that of a history is the stamp of the entry at its last place
pub use Rattle.fst_lts.proofs.StampLaws.{last_stamp_push, last_at}
-- the dual has the kind of the type, and no free recursion variable where the type has none
pub use Rattle.fst_lts.proofs.DualKinds.{dual_scoped, dual_formed, dual_session}

-- a terminated type guards nothing
pub unguarded : (s : Tree) → terminated s ≡ true → guards s ≡ false
unguarded = guard.unguarded

-- the first part of a sequence comes to no variable that the sequence doesn't come to
pub guarded_first : (s r : Tree) → IsGuarded (seq s r) → IsGuarded s
guarded_first = guard.guarded_first

-- behind a terminated first part, nor does the second part
pub guarded_second : (s r : Tree) → IsGuarded (seq s r) → terminated s ≡ true → IsGuarded r
guarded_second = guard.guarded_second

-- nor does a contractive body
pub guarded_body : (s : Tree) → reaches s 0 ≡ false → IsGuarded (rec s) → IsGuarded s
guarded_body = guard.guarded_body

-- a variable comes to itself
pub no_variable : (k : ℕ) → IsGuarded (back k) → ⊥
no_variable = guard.no_variable

-- the steps of a contractive type without free variables are its moves
pub steps_are_moves : (s : Tree) → IsScoped 0 s → IsContractive s → (a : Label) (t : Tree) → (step s a ≡ Some t → Moves s a t) ×
    (Moves s a t → step s a ≡ Some t)
steps_are_moves = moved.steps_are_moves

-- an unfolding moves as its type does
pub unfolding_of_step : (s : Tree) → IsScoped 0 (rec s) → IsContractive (rec s) → IsContractive (unfolding_of s) →
    (a : Label) → step (unfolding_of s) a ≡ step (rec s) a
unfolding_of_step = moved.unfolding_of_step

-- by an end a type comes to Skip
pub ended_skip : (s t : Tree) (a : Label) → is_end a ≡ true → step s a ≡ Some t → t ≡ skip
ended_skip = moved.ended_skip []

-- two session types, one behind the other, are a session type
pub seq_session : (vars : List Kind) (s r : Tree) → IsSession vars s → IsSession vars r → IsSession vars (seq s r)
seq_session = left.seq_session

-- the type after a label is a session type if the type is one
pub step_session : (vars : List Kind) (s : Tree) (a : Label) → IsSession vars s → IfSome (step s a) (IsSession vars)
step_session = left.step_session

-- a terminated type moves by no label
pub no_step : (s : Tree) → terminated s ≡ true → (a : Label) → IsSome (step s a) → ⊥
no_step s over a = agreement.no_step s a (left.terminated_unlabelled s over)

-- a sequence moves as its second part where the first one is terminated, and otherwise as the first, followed by the second
pub seq_step : (s r : Tree) (a : Label) → step
    (seq s r) a ≡ (if terminated s then step r a else option_map (followed a r) (step s a))
seq_step = agreement.first_then

-- session types that agree to a depth over 0 are terminated alike
pub agree_terminated : (n : ℕ) (vars : List Kind) (s r : Tree) → IsSession vars s → IsSession vars r →
    AgreeTo step step (suc n) s r → terminated s ≡ terminated r
agree_terminated n vars s r ws wr = agreement.over_alike n s r (left.terminated_exactly vars s ws)
    (left.terminated_exactly vars r wr)

-- a type in front of both sides keeps agreement
pub agree_in_front : (n : ℕ) (t s r : Tree) → AgreeTo step step n s r → AgreeTo step step n (seq t s) (seq t r)
agree_in_front = agreement.agree_in_front

-- and so does a type behind two session types
pub agree_behind : (n : ℕ) (vars : List Kind) (s r t : Tree) → IsSession vars s → IsSession vars r → AgreeTo step step n s r →
    AgreeTo step step n (seq s t) (seq r t)
agree_behind = agreement.agree_behind

-- the labels of a type are those by which it moves
pub labels_are_moves : (s : Tree) (a : Label) → (Contains (labels s) a → IsSome (step s a)) ×
    (IsSome (step s a) → Contains (labels s) a)
labels_are_moves = label.labels_are_moves
