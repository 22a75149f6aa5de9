pub mod Threes
pub mod Grown
pub mod Answered
pub mod Iteration
pub mod Listings
pub mod Unions
