mod Attempting
mod Counting
mod Parting
mod Promises
mod Running
mod SmallTable
mod Telling
mod Written
