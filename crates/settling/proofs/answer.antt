-- Laws of the answer: the empty start, what a release keeps, the arrays as a net, what the shares claim, and that a settled state
-- solves it.
mod EmptyStart
mod AfterRelease
mod AsNet
mod Claiming
mod Solves
