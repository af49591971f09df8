pub mod Digits
pub mod ReadBack
pub mod OnlyTexts
pub mod Promise
pub mod Determined
