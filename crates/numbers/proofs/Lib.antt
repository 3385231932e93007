pub mod Choice
pub mod Order
pub mod Products
