-- Laws of the arrows that are noted and of the loop among them. Callers need none of them.
pub mod Guesses
