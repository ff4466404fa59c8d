mod LineBytes
mod Unquoted
