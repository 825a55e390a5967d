-- What other crates cite of reports.
use Rattle.std.proofs.Common.{ℕ, List, [], All}
use Rattle.fst_types.specs.Tree.{Tree, skip, send, receive, close, wait, select, offer, seq, rec, back, var, plain, arrow, pair, named, Branches, none, branch}
use Rattle.fst_types.specs.Named.{IsNamedWithin, AllNamedWithin}
use Rattle.fst_types.specs.declared.kind.Kind.{Kind}
use Rattle.fst_types.specs.declared.kind.Use.{Use}
use Rattle.fst_types.specs.declared.kind.Use.TheVariants.{Many}
use Rattle.fst_kinds.specs.Kinds.{session, HasKind, AllSessions}
use Rattle.fst_kinds.specs.WellFormed.{IsSession}
use Rattle.fst_kinds.proofs.Laws.{not_top}
use Rattle.fst_types.specs.declared.event.ChannelHistory.{ChannelHistory}
use Rattle.fst_report.specs.DeclaredTypes.{AreScoped, AreNamedWithin}

mutual
  -- a session type names no data type
  names_none : (n : ℕ) (vars : List Kind) (t : Tree) (u : Use) → HasKind vars t (session u) → IsNamedWithin n t
  names_none n vars skip u h = tt
  names_none n vars (send b) u h = tt
  names_none n vars (receive b) u h = tt
  names_none n vars close u h = tt
  names_none n vars wait u h = tt
  names_none n vars (select bs) u h = all_name_none n vars bs h.0
  names_none n vars (offer bs) u h = all_name_none n vars bs h.0
  names_none n vars (seq s r) u (v, w, i, j, e) = (names_none n vars s v i, names_none n vars r w j)
  names_none n vars (rec s) u h = names_none n vars s u h.0
  names_none n vars (back k) u h = tt
  names_none n vars (var k) u h = tt
  names_none n vars (plain b) u h = tt
  names_none n vars (arrow v s r) u h = not_top u v h.2
  names_none n vars (pair s r) u (i, j, f, g, e) = not_top u _ e
  names_none n vars (named k) u h = not_top u Many h

  -- nor does a branch that is one
  all_name_none : (n : ℕ) (vars : List Kind) (bs : Branches) → AllSessions vars bs → AllNamedWithin n bs
  all_name_none n vars none h = tt
  all_name_none n vars (branch l s bs) h = (names_none n vars s h.0.0 h.0.1, all_name_none n vars bs h.1)

-- channels whose declared types are closed session types can be written
pub of_sessions : (n : ℕ) (hs : List ChannelHistory) → All (λ h. IsSession [] h.declared) hs → AreScoped hs × AreNamedWithin n hs
of_sessions n hs f = (λ k d i. (f k d i).1.scoped, λ k d i. names_none n [] _ (f k d i).0 (f k d i).1.kinded)
