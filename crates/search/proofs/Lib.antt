pub mod Agreeing
pub mod Loops
pub mod Inside
pub mod Calls
