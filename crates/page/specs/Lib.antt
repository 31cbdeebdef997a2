pub mod PageLine
