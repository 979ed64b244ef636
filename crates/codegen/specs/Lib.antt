pub mod Does
pub mod Costs
pub mod Told
pub mod Shapes
