-- `OneReply` is what a reader looks for: what the promises fix. `Laws` is the mathematics.
pub mod Laws
pub mod OneReply
pub mod Worked
