mod Longer
mod Leading
mod One
