pub mod Decimal
pub mod Stores
pub mod Standing
pub mod Determined
