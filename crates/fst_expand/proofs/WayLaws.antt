-- Rewrites that are noted where heads are dropped are exchanges.
use Rattle.std.proofs.Common.{ℕ, List, [], ◌∷◌, Some, None, Option}
use Rattle.std.proofs.lemmas.List.Elements.{All-append, All-cons, All-nil}
use Rattle.fst_basis.specs.declared.proof.Rewrite.{Rewrite}
use Rattle.fst_basis.specs.declared.proof.Rewrite.TheVariants.{Forth}
use Rattle.fst_types.specs.declared.side.Side.{Side}
use Rattle.fst_types.specs.declared.side.Side.TheVariants.{Left, Right}
use Rattle.fst_basis.specs.Basis.{AreExchanges, IsRewriteBelow}
use Rattle.fst_expand.specs.Trail.{AreNoted, noted}

-- exchanges stay exchanges with one more
pub noted_exchanges : (steps : List Rewrite) (heads : ℕ) (cut : Option ℕ) → AreExchanges steps →
    AreExchanges (noted steps heads cut)
noted_exchanges steps heads None h = h
noted_exchanges steps heads (Some p) h = λ n. All-append (IsRewriteBelow n) steps (Forth heads p ∷ []) (h n)
    (All-cons (IsRewriteBelow n) (Forth heads p) [] tt (All-nil (IsRewriteBelow n)))

pub both_exchanges : (side : Side) (before after before2 after2 : List Rewrite) (heads : ℕ) (cut : Option ℕ) →
    AreNoted side before after before2 after2 heads cut → AreExchanges before → AreExchanges after →
    AreExchanges before2 × AreExchanges after2
both_exchanges Left before after before2 after2 heads cut steps hb ha =
    rw (steps.0, steps.1) (hb, noted_exchanges after heads cut ha)
both_exchanges Right before after before2 after2 heads cut steps hb ha =
    rw (steps.0, steps.1) (noted_exchanges before heads cut hb, ha)
