pub mod TermTypes
pub mod CoreTerms
pub mod CodeNumbers
pub mod TreesFacts
pub mod CodeMeanings
