pub mod Binding
mod Inside
mod Answering
