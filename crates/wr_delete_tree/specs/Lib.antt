pub mod DeleteTree
