-- Read in this order.
pub mod Answer
pub mod Word
pub mod Width
pub mod Buffer
pub mod Elements
pub mod Longer
pub mod Command
pub mod Clock
pub mod Tolerance
