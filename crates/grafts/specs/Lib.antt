pub mod Grafts
