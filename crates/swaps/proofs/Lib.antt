pub mod SwapLaws
pub mod SwapOrders
pub mod SwapPromises
pub mod CoarseSwapPromises
