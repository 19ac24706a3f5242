-- What an accepted call of the bench leaves.
mod Reported
