mod Calling
mod Nets
mod Rows
