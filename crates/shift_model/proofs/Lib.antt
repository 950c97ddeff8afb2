pub mod lemmas
mod Steps
mod StepsLegal
mod StepsLooms
mod StepsWorked
