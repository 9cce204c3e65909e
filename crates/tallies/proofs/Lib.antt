pub mod WorkLaws
pub mod OccLaws
pub mod CountsLaws
