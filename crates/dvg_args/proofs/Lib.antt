mod Jobs
mod Numbers
mod Parts
mod Refused
mod Unrefused
mod Written
