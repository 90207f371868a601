-- What the program prints. Assumes nothing: these are definitions.
use Rattle.std.specs.Prelude.{List, ℕ, ◌≤◌, length, take}
use Rattle.report.specs.Listings.{ListingText}

-- the first n bytes of the buffer are the text of document 01 for the input
pub record Printed (input buffer : List ℕ) (n : ℕ) : Type 0 where
  pub fits : n ≤ length buffer
  pub text : ListingText input (take n buffer)
