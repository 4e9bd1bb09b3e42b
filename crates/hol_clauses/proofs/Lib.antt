pub mod Clauses
pub mod InTurn
pub mod Resolvents
pub mod Rewritten
pub mod Instances
