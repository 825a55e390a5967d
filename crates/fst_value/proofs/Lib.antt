mod Turned
mod Kept
mod Joining
mod Splitting
mod Printed
