pub mod Filled
pub mod StagingLaws
pub mod WriterLaws
pub mod ReaderLaws
