mod StandLaws
mod Codes
mod Counts
