-- Which proofs have a text, and which line of another text is the first that no certificate has there.
use Rattle.std.specs.Prelude.{◌≡◌, ◌≢◌, ◌<◌, ◌≤◌, ◌^◌, ℕ, suc, List, [], ◌++◌, All, length, take, ⊤}
use Rattle.fst_basis.specs.declared.proof.Pair.{Pair}
use Rattle.fst_basis.specs.declared.proof.Rewrite.{Rewrite}
use Rattle.fst_basis.specs.declared.proof.Rewrite.TheVariants.{Forth, Back, Cut, Grow}
use Rattle.fst_cert.specs.Texts.{cert_lines, cert_text, lines_text}
use Rattle.fst_cert.specs.declared.fault.CertFault.{CertFault}
use Rattle.fst_cert.specs.declared.fault.CertFault.TheVariants.{BadLine, Memory}

-- the numbers have 32 bits
abbrev pub IsWord : List ℕ → Type 0
IsWord w = All (λ n. n < 2 ^ 32) w

-- no word of the pair is empty
pub record HasNoEmpty (b : Pair) : Type 0 where
  pub left : b.left ≢ []
  pub right : b.right ≢ []

-- both words have a non-terminal, and these have numbers of 32 bits
pub record IsPairFit (b : Pair) : Type 0 where
  pub words : HasNoEmpty b
  pub left_word : IsWord b.left
  pub right_word : IsWord b.right

-- the place has 64 bits, the other numbers have 32
abbrev pub IsRewriteFit : Rewrite → Type 0
IsRewriteFit (Forth at pair) = (at < 2 ^ 64) × (pair < 2 ^ 32)
IsRewriteFit (Back at pair) = (at < 2 ^ 64) × (pair < 2 ^ 32)
IsRewriteFit (Cut at tail) = (at < 2 ^ 64) × IsWord tail
IsRewriteFit (Grow at tail) = (at < 2 ^ 64) × IsWord tail

-- so it is for each rewrite of the chain
abbrev pub IsChainFit : List Rewrite → Type 0
IsChainFit steps = All IsRewriteFit steps

-- the pairs and chains are a certificate: no word of a pair is empty, and all numbers and counts are within their bounds
pub record IsCert (basis : List Pair) (chains : List (List Rewrite)) : Type 0 where
  pub few : length basis < 2 ^ 32
  pub many : length chains < 2 ^ 64
  pub pairs : All IsPairFit basis
  pub all : All IsChainFit chains

-- the text is that of this certificate
pub record IsCertOf (text : List ℕ) (basis : List Pair)
    (chains : List (List Rewrite)) : Type 0 where
  pub cert : IsCert basis chains
  pub text_is : text ≡ cert_text basis chains

-- some certificate has at least k lines, and the first k of them are those of the text
pub record AgreesIn (k : ℕ) (text : List ℕ) : Type 0 where
  pub basis : List Pair
  pub chains : List (List Rewrite)
  pub cert : IsCert basis chains
  pub enough : k ≤ length (cert_lines basis chains)
  pub rest : List ℕ
  pub same : text ≡ lines_text (take k (cert_lines basis chains)) ++ rest

-- The text is no certificate's, and line k, counted from 1, is the first one that no certificate has there.
pub record IsFirstBad (text : List ℕ) (k : ℕ) : Type 0 where
  pub before : ℕ
  pub next : k ≡ suc before
  pub agrees : AgreesIn before text
  pub differs : AgreesIn k text → ⊥
  pub other : (basis : List Pair) (chains : List (List Rewrite)) →
      IsCertOf text basis chains → ⊥

-- what a fault says of the text
abbrev pub IsFault : List ℕ → CertFault → Type 0
IsFault text (BadLine k) = IsFirstBad text k
IsFault text Memory = ⊤
