mod Beginning
mod Marking
mod Quieting
mod ToldAnswers
