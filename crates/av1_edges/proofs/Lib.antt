pub mod Lists
pub mod Samples
pub mod Parted
pub mod WholePlane
pub mod Available
pub mod Within
pub mod Needed
pub mod ByBits
