pub mod Answered
pub mod Answers
pub mod Back
pub mod Decimal
pub mod Hexadecimal
pub mod Input
pub mod Printed
