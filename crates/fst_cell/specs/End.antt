-- What an end is to its callers.
use Rattle.std.specs.Prelude.{◌≡◌, ℕ, ◌+◌, ◌%◌, ◌^◌, ◌<◌, [], ◌∷◌, Option, Some, None}
use Rattle.atomic_table.specs.Table.{Me}
use Rattle.atomic_table.specs.Seated.{TableId}
use Rattle.fst_types.specs.declared.side.Side.{Side}
use Rattle.fst_types.specs.declared.side.Side.TheVariants.{Left}
use Rattle.fst_types.specs.Tree.{Tree, skip}
use Rattle.fst_lts.specs.Histories.{opposite}
use Rattle.fst_types.specs.declared.ends.ChannelName.{ChannelName}
use Rattle.fst_types.specs.declared.ends.EndName.{EndName}
use Rattle.fst_cell.specs.declared.content.Offer.{Offer}
use Rattle.fst_cell.specs.declared.content.Content.{Content}
use Rattle.fst_cell.specs.declared.content.Half.{Half}
use Rattle.fst_cell.specs.declared.content.View.{View}
use Rattle.fst_cell.specs.declared.content.View.TheVariants.{Only}
use Rattle.fst_cell.specs.declared.heads.Next.{Next}
use Rattle.fst_cell.specs.Heads.{GoesOn}
use Rattle.fst_lts.specs.Residuals.{residual}
use Rattle.fst_cell.specs.Rule.{fresh, tried, took, turn_word, Sound, Fits}

-- an end: its cell, the channel's name, and what it knows
pub record EndView : Type 0 where
  pub cell : TableId
  pub channel : ChannelName
  pub knows : Half

-- what the one end of a seat knows
abbrev pub half_of : View → Half
half_of (Only v) = v
half_of v = fresh Left skip

-- a seat that holds no turn
pub record Idle (m : Me (Option Content) View) : Type 0 where
  pub only : m ≡ (Only (half_of m.0), [])
  pub free : (half_of m.0).held ≡ None

-- what the offer leads to, where one waits
abbrev pub Goes : Tree → Option Offer → Option Next → Type 0
Goes t None None = Unit {0}
Goes t (Some o) (Some next) = GoesOn t o.event next
Goes t o u = ⊥

-- the end's name
abbrev pub end_name : EndView → EndName
end_name e = record { channel = e.channel; side = e.knows.side }

-- the fields of an end fit what it knows
pub record IsEnd (m : Me (Option Content) View) (side : Side) (t : Tree)
    (next : Option Next) : Type 0 where
  pub idle : Idle m
  pub side_is : (half_of m.0).side ≡ side
  pub type_is : residual side (half_of m.0).declared (half_of m.0).history ≡ Some t
  pub goes : Goes t (half_of m.0).offer next

-- the residual of an end, as far as it knows
abbrev pub residual_of : Half → Option Tree
residual_of v = residual v.side v.declared v.history

-- after a try the seat holds no turn, and the word found was odd, or it holds the turn and the content is in hand
abbrev pub Seized : Half → Option Content → Me (Option Content) View → Type 0
Seized v None m = (n : ℕ) × (n % 2 ≡ 1) × (m ≡ (Only (tried v n), []))
Seized v (Some c) m = (n : ℕ) × (n ≡ turn_word c 0) ×
    (m ≡ (Only (took v n c), (0, None) ∷ [])) × Sound c × Fits c v

-- a seat that holds the turn, and whose slot was moved out
abbrev pub IsOut : Me (Option Content) View → Type 0
IsOut m = m ≡ (Only (half_of m.0), (0, None) ∷ [])

-- the content goes back as it was
pub record Stays (v : Half) (d : Content) : Type 0 where
  pub held : v.held ≡ Some d
  pub sound : Sound d

-- the content goes back as one that the other end may find, at the next reading
pub record Passes (v : Half) (d : Content) : Type 0 where
  pub before : Content
  pub held : v.held ≡ Some before
  pub sound : Sound d
  pub same : d.declared ≡ before.declared
  pub keeps : (o : Half) → o.side ≡ opposite v.side → Fits before o → Fits d o
  pub word : turn_word before 1 + 1 ≡ turn_word d 0
  pub small : turn_word d 0 < 2 ^ 64
