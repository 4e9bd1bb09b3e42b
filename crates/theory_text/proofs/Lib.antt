mod Builds
mod Inverted
mod Rows
mod Again
mod Lexed
mod ReadAgain
mod Laying
mod HaveText
