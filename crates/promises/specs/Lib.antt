pub mod Histories
pub mod Cuts
pub mod Listings
pub mod Cases
pub mod Lists
