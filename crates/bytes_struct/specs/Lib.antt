pub mod FindField
pub mod Fields
pub mod Found
