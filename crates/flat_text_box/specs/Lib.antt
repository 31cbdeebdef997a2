pub mod TextBox
