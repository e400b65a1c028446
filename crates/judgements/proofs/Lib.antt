-- What `serves` needs of a lent run.
mod LentServes
