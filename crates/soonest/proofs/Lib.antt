-- Laws of the greatest of several cycles, and of the data queue inside a transaction.
pub mod Numbers
pub mod Bursts
