-- A number in decimal digits, and fields of them.
pub mod Decimal
pub mod Fields
