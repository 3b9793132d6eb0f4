-- laws of the check of a sheet
mod AddingUp
mod Deciding
