-- The replies of the crate in document 01's numbers. Assumes nothing: these are definitions.
use Rattle.std.specs.Prelude.{◌≡◌, List, ℕ, ◌<◌, Option, Some, None, Result, Ok, Err}
use Rattle.links.specs.Links.{Covers, Joined}
use Rattle.links.specs.Lines.{ByBegin}
use Rattle.links.specs.Faults.{Fault, no_fault, fault, spans_fault}
use Rattle.links.specs.Reasons.{number_of}
use Rattle.links.specs.declared.reply.Refusal.{Refusal}

-- the reply of the check
abbrev pub Check : Type 0
Check = Result (Unit {0}) Refusal

-- no fault, or the reason by its number, and its place
abbrev pub fault_of : Check → Fault
fault_of (Ok u) = no_fault
fault_of (Err r) = fault (number_of r.reason) r.place

-- what the check of spans answers, and what becomes of the lent line: no fault, and the spans by begin, if there is room for them; or the first fault, and the line unchanged
pub data SpansChecked (t before : List ℕ) (reply : Check) (after : List ℕ) : Type 0 where
  spans : spans_fault t ≡ no_fault → fault_of reply ≡ no_fault → ByBegin t before after → SpansChecked t before reply after
  no_spans : {n p : ℕ} → spans_fault t ≡ fault n p → fault_of reply ≡ fault n p → after ≡ before → SpansChecked t before reply after

-- link i is the last that joins u and v throughout [x, y]
pub record LastCover (t : List ℕ) (u v x y i : ℕ) : Type 0 where
  pub covers : Covers t u v x y i
  pub last : (j : ℕ) → i < j → Covers t u v x y j → ⊥

-- the reply of the pair test: the last link that joins the pair throughout, or that the pair is not joined throughout
abbrev pub CoverOf : List ℕ → ℕ → ℕ → ℕ → ℕ → Option ℕ → Type 0
CoverOf t u v x y (Some i) = LastCover t u v x y i
CoverOf t u v x y None = Joined t u v x y → ⊥
