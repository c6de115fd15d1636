pub mod Digests
pub mod Powers
pub mod Fitting
pub mod Rectangles
pub mod Numbered
pub mod Drawing
pub mod Reading
