pub mod Texts
pub mod Certificates
pub mod Audits
pub mod Visited
pub mod Proofs
