-- The types of channels that can be written as text.
use Rattle.std.specs.Prelude.{ℕ, List, All}
use Rattle.fst_types.specs.Named.{IsNamedWithin}
use Rattle.fst_types.specs.Scoped.{IsScoped}
use Rattle.fst_types.specs.declared.event.ChannelHistory.{ChannelHistory}

-- no recursion variable is free in the declared type of any of these channels
abbrev pub AreScoped : List ChannelHistory → Type 0
AreScoped hs = All (λ h. IsScoped 0 h.declared) hs

-- each data type that such a type names is one of the first n
abbrev pub AreNamedWithin : ℕ → List ChannelHistory → Type 0
AreNamedWithin n hs = All (λ h. IsNamedWithin n h.declared) hs
