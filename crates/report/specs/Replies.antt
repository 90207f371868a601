-- What the functions of this crate promise: the text is that of document 01, and it is put at the start of the lent bytes. Assumes nothing: these are definitions.
use Rattle.std.specs.Prelude.{List, ℕ, Option}
use Rattle.lines.specs.Replies.{Puts}
use Rattle.report.specs.Listings.{TableText, ListingText}

-- The promise of the listing. Where the text fits, it is put and the reply is its length; where it does not, the reply is none, and nothing is changed.
pub record Prints (input before : List ℕ) (reply : Option ℕ) (after : List ℕ) : Type 0 where
  pub text : List ℕ
  pub is : ListingText input text
  pub put : Puts text before 0 reply after

-- the same of a table
pub record PrintsTable (t : List ℕ) (g : ℕ) (before : List ℕ) (reply : Option ℕ) (after : List ℕ) : Type 0 where
  pub text : List ℕ
  pub is : TableText t g text
  pub put : Puts text before 0 reply after
