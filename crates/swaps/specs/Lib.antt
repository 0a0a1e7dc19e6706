pub mod Swaps
pub mod CoarseSwaps
pub mod Cases
pub mod SwapLaws
pub mod SwapOrders
pub mod SwapPromises
