-- What other crates cite of certificates.
-- a text is that of one certificate
pub use Rattle.fst_cert.proofs.UniqueLaws.{one_cert}
-- a text has one first bad line, and this is at most one more than the text has bytes
pub use Rattle.fst_cert.proofs.BadLineLaws.{one_bad_line, few_lines}
-- all bytes of a certificate's text are below 128
pub use Rattle.fst_cert.proofs.AsciiLaws.{ascii_cert}
-- what is valid of two types stays so with other chains of the same rewrites
pub use Rattle.fst_cert.proofs.ValidLaws.{valid_steps}
-- a proof for the words of a certificate of two types is valid of these
pub use Rattle.fst_cert.proofs.ValidLaws.{certified_valid}
