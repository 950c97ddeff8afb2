mod Lifts
mod ReadCards
