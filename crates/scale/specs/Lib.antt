pub mod Laws
pub mod Wholes
pub mod Units
pub mod Pairs
pub mod Scales
pub mod PairLaws
pub mod Numbers
