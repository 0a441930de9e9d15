pub mod Appends
pub mod RowLines
pub mod HistoryOrder
pub mod ReportLaws
pub mod NumberedPieces
pub mod ChangedColumns
pub mod EndCounts
