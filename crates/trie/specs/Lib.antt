pub mod Entry
pub mod Trie
pub mod Cells
pub mod Listing
pub mod Canon
pub mod Built
pub mod Names
pub mod Shelf
