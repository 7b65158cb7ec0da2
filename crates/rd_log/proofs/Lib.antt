mod Fronts
mod Replies
