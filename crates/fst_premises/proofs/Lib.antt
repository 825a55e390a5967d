pub mod Laws
mod Arguments
mod Channels
mod Entering
mod Formed
mod GlobalUses
mod Leaving
mod LeftScopes
mod Makers
mod Numbers
mod OfferLaws
mod ParameterLaws
mod Places
mod Uses
mod Variables
