-- The fault of one link on each way out of the check of a link, of the links one after another, and of the table on each way out of the check. Assumes nothing.
use mathlib.Core.Bool.{true, false, ◌||◌}
use mathlib.Core.Logic.{◌⊎◌, inl, inr, ⊎_elim, dite}
use mathlib.Core.Path.{◌≡◌, sym, ap, ◌∙◌}
use mathlib.Core.List.{List}
use Prim.Native.Nat.{ℕ, zero, suc, ◌+◌, ◌%◌, ◌≤◌, ◌<◌}
use native.Mathlib.Nat.{not-suc-le-zero}
use native.Mathlib.Numerals.{add-one}
use native.Mathlib.Decide.{ℕ_discrete, dec_le, dec_lt}
use native.Mathlib.Omega.{arith}
use Rattle.std.specs.Prelude.{Option, Some, None}
use Rattle.std.specs.Option.{is_some}
use borrow.Author.Tests.{lt-ltb, le-ltb, eq-eqb, ne_eqb}
use lib.Dec.{leb}
use lib.ListN.{length}
use Rattle.gauges.proofs.Flags.{tells_lt, tells_le, tells_eq, tells_or, told_true, told_false}
use Rattle.links.specs.Links.{count, begins, ends, one, other}
use Rattle.links.specs.Faults.{Fault, fault, no_fault, if_so, ◌or_else◌, clash_below, link_fault, links_fault, head_fault, table_fault}
use Rattle.links.specs.Chains.{EarlierClash}
use Rattle.links.specs.Reasons.{number_of}
use Rattle.links.specs.Replies.{fault_of}
use Rattle.links.specs.declared.reply.Reason.{Reason}
use Rattle.links.specs.declared.reply.Refusal.{Refusal}
use Rattle.std.specs.Prelude.{Err}
use Rattle.links.proofs.Reasons.{tells_clash_below, fault≢no_fault, reason_of}

-- a refusal at a place has the fault that its reason is the number of
pub refused_at : {r : Refusal} {n : Reason} {p : ℕ} {f : Fault} → r ≡ record { reason = n; place = p } → f ≡ fault (number_of n) p → fault_of (Err r) ≡ f
refused_at e law = ap (λ (x : Refusal). fault_of (Err x)) e ∙ sym law

module _ (t : List ℕ) (g i : ℕ) where
  pub link_4 : (g ≤ one t i) ⊎ (g ≤ other t i) → link_fault t g i ≡ fault 4 i
  link_4 h = rw (told_true (tells_or (tells_le g (one t i)) (tells_le g (other t i))) h)

  -- a link without a fault has gauges of the table
  pub link_known : link_fault t g i ≡ no_fault → (one t i < g) × (other t i < g)
  link_known e = (
    dite (dec_le g (one t i)) (λ h. absurd (fault≢no_fault (sym (link_4 (inl h)) ∙ e))) (λ h. omega arith),
    dite (dec_le g (other t i)) (λ h. absurd (fault≢no_fault (sym (link_4 (inr h)) ∙ e))) (λ h. omega arith),
  )

  module _ (known_one : one t i < g) (known_other : other t i < g) where
    known : (leb g (one t i) || leb g (other t i)) ≡ false
    known = told_false (tells_or (tells_le g (one t i)) (tells_le g (other t i))) (⊎_elim (λ h. omega arith) (λ h. omega arith))

    pub link_5 : one t i ≡ other t i → link_fault t g i ≡ fault 5 i
    link_5 e = rw (known, eq-eqb (one t i) (other t i) e)

    module _ (two : one t i ≡ other t i → ⊥) where
      pub link_6 : ends t i < begins t i → link_fault t g i ≡ fault 6 i
      link_6 h = rw (known, ne_eqb (one t i) (other t i) two, lt-ltb (ends t i) (begins t i) h)

      module _ (forward : begins t i ≤ ends t i) where
        pub link_7 : 2147483647 < ends t i → link_fault t g i ≡ fault 7 i
        link_7 h = rw (known, ne_eqb (one t i) (other t i) two, le-ltb (ends t i) (begins t i) forward, lt-ltb 2147483647 (ends t i) h)

        module _ (in_time : ends t i ≤ 2147483647) where
          early : link_fault t g i ≡ if_so (clash_below t i i) 8 i
          early = rw (known, ne_eqb (one t i) (other t i) two, le-ltb (ends t i) (begins t i) forward, le-ltb 2147483647 (ends t i) in_time)

          pub link_8 : (r : Option ℕ) → EarlierClash t i r → is_some r ≡ true → link_fault t g i ≡ fault 8 i
          link_8 None earlier h = cc
          link_8 (Some j) earlier h = early ∙ rw (told_true (tells_clash_below t i i) (record { number = j; below = earlier.0; holds = earlier.1 }))

          pub link_none : (r : Option ℕ) → EarlierClash t i r → is_some r ≡ false → link_fault t g i ≡ no_fault
          link_none None earlier h = early ∙ rw (told_false (tells_clash_below t i i) (λ s. earlier s.number s.below s.holds))
          link_none (Some j) earlier h = cc

-- ---- the links, one after another

module _ (t : List ℕ) (g i : ℕ) (clear : links_fault t g i ≡ no_fault) where
  -- a link without a fault is passed
  pub links_next : link_fault t g i ≡ no_fault → links_fault t g (i + 1) ≡ no_fault
  unfolding links_fault
  links_next e = ap (links_fault t g) (add-one i) ∙ ap (λ (f : Fault). f or_else link_fault t g i) clear ∙ e

  -- the first fault of a link is that of all the links
  pub links_found : {m q : ℕ} → link_fault t g i ≡ fault m q → (n : ℕ) → i < n → links_fault t g n ≡ fault m q
  unfolding links_fault
  links_found e zero h = absurd (not-suc-le-zero h)
  links_found {m} {q} e (suc n) h = dite (ℕ_discrete n i)
      (λ d. ap (λ (k : ℕ). links_fault t g k or_else link_fault t g k) d ∙ ap (λ (f : Fault). f or_else link_fault t g i) clear ∙ e)
      (λ d. ap (λ (f : Fault). f or_else link_fault t g n) (links_found e n (omega arith)))

-- ---- the table as a whole

module _ (t : List ℕ) (g : ℕ) where
  pub head_1 : 0 < length t % 4 → head_fault t g ≡ fault 1 0
  unfolding head_fault
  head_1 h = rw (lt-ltb 0 (length t % 4) h)

  module _ (whole : length t % 4 ≤ 0) where
    pub head_2 : 2048 < count t → head_fault t g ≡ fault 2 0
    unfolding head_fault
    head_2 h = rw (le-ltb 0 (length t % 4) whole, lt-ltb 2048 (count t) h)

    module _ (few : count t ≤ 2048) where
      pub head_3 : (g ≡ 0) ⊎ (64 < g) → head_fault t g ≡ fault 3 0
      unfolding head_fault
      head_3 h = rw (le-ltb 0 (length t % 4) whole, le-ltb 2048 (count t) few, told_true (tells_or (tells_eq g 0) (tells_lt 64 g)) h)

      pub head_none : (g ≡ 0 → ⊥) → g ≤ 64 → head_fault t g ≡ no_fault
      unfolding head_fault
      head_none f h = rw (
        le-ltb 0 (length t % 4) whole,
        le-ltb 2048 (count t) few,
        told_false (tells_or (tells_eq g 0) (tells_lt 64 g)) (⊎_elim f (λ k. omega arith)),
      )

  -- a table that passes as a whole has few links and few gauges
  pub head_passed : head_fault t g ≡ no_fault → (count t ≤ 2048) × (g ≤ 64)
  head_passed e =
      dite (dec_lt 0 (length t % 4)) (λ h. absurd (fault≢no_fault (sym (head_1 h) ∙ e))) (λ w.
      dite (dec_lt 2048 (count t)) (λ h. absurd (fault≢no_fault (sym (head_2 (omega arith) h) ∙ e))) (λ f.
      dite (dec_lt 64 g) (λ h. absurd (fault≢no_fault (sym (head_3 (omega arith) (omega arith) (inr h)) ∙ e))) (λ k. (omega arith, omega arith))))

  -- and one that does not is refused by 1, 2 or 3
  pub head_few : {n p : ℕ} → head_fault t g ≡ fault n p → n ≤ 3
  head_few e =
      dite (dec_lt 0 (length t % 4)) (λ h. omega (arith, ap reason_of (sym (head_1 h) ∙ e))) (λ w.
      dite (dec_lt 2048 (count t)) (λ h. omega (arith, ap reason_of (sym (head_2 (omega arith) h) ∙ e))) (λ f.
      dite (dec_lt 64 g) (λ h. omega (arith, ap reason_of (sym (head_3 (omega arith) (omega arith) (inr h)) ∙ e))) (λ k.
      dite (ℕ_discrete g 0) (λ z. omega (arith, ap reason_of (sym (head_3 (omega arith) (omega arith) (inl z)) ∙ e)))
      (λ z. absurd (fault≢no_fault (sym e ∙ head_none (omega arith) (omega arith) z (omega arith)))))))

  -- a table that is refused as a whole has that fault,
  pub table_head : {n p : ℕ} → head_fault t g ≡ fault n p → table_fault t g ≡ fault n p
  unfolding table_fault
  table_head e = ap (λ (f : Fault). f or_else links_fault t g (count t)) e

  -- and else it has that of its links
  pub table_links : head_fault t g ≡ no_fault → table_fault t g ≡ links_fault t g (count t)
  unfolding table_fault
  table_links e = ap (λ (f : Fault). f or_else links_fault t g (count t)) e
