pub mod ListWalks
