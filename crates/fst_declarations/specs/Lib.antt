pub mod ModuleNames
pub mod ModuleFaults
pub mod MakerNumbers
pub mod Tables
pub mod Collected
pub mod SignatureScopes
pub mod Declarations
