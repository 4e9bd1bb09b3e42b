pub mod Seeking
pub mod Building
pub mod Around
pub mod Constants
pub mod Heads
pub mod Evaluation
pub mod Nodes
