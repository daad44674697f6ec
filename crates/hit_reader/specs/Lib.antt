pub mod Met
pub mod Asking
pub mod Filling
pub mod Handing
pub mod Going
pub mod Rising
