pub mod Same
pub mod Strip
pub mod Inside
