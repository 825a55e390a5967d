-- The residuals of the two ends of a channel are always dual.
use Rattle.std.proofs.Common.{◌≡◌, ◌∙◌, Option, Some, None, refl, sym, ap}
use Rattle.std.specs.Prelude.{option_map, option_and_then}
use Rattle.fst_types.specs.declared.side.Side.{Side}
use Rattle.fst_types.specs.declared.side.Side.TheVariants.{Left, Right}
use Rattle.fst_lts.specs.Dual.{dual}
use Rattle.fst_lts.specs.Histories.{opposite}
use Rattle.fst_lts.proofs.Laws.{after_history-dual, dual-dual_option}
use Rattle.fst_types.specs.declared.ends.EndName.{EndName}
use Rattle.fst_runs.specs.Configs.{Channel, Config, other, residual_in, channel_residual}

-- of a channel the residual of one side is the dual of that of the other
pub residual-opposite : (side : Side) (k : Channel) →
    channel_residual (opposite side) k ≡ option_map dual (channel_residual side k)
residual-opposite Left k = after_history-dual k.declared k.history
residual-opposite Right k = sym (dual-dual_option (channel_residual Left k))
    ∙ ap (option_map dual) (sym (after_history-dual k.declared k.history))

-- and so it is with ends
pub residual-other : (c : Config) (x : EndName) → residual_in c (other x) ≡ option_map dual (residual_in c x)
residual-other c x = pick (c.channels x.channel)
  where
    pick : (o : Option Channel) → option_and_then (channel_residual (opposite x.side)) o ≡ option_map dual
        (option_and_then (channel_residual x.side) o)
    pick None = refl
    pick (Some k) = residual-opposite x.side k
