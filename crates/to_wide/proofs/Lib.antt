pub mod ConvertedLaws
