pub mod BufferedTexts
pub mod DeclaredTypes
pub mod Parts
pub mod ReportTexts
pub mod SummaryTexts
