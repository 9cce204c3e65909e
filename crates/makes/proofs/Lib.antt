pub mod PutLaws
pub mod FormatLaws
pub mod EditionLaws
pub mod NumberLaws
