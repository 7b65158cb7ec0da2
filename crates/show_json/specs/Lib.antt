pub mod Columns
pub mod ColumnLaws
pub mod Ordered
pub mod OrderedLaws
pub mod WrittenLaws
