-- The lines of a table, one after another. Assumes nothing.
use Rattle.std.proofs.Common.{◌≡◌, Bool, true, false, ◌&&◌, eqb, get_or, refl, sym, ap, ◌∙◌, List, [], ◌∷◌, ◌++◌, ℕ, zero, suc, ◌+◌, ◌-◌, ◌*◌, ◌≤◌, ◌<◌, length, take, drop, append_assoc, add-one, arith}
use mathlib.Core.List.{append-nil}
use mathlib.Core.Logic.{dite}
use native.Mathlib.Decide.{ℕ_discrete}
use borrow.Author.Tests.{eq-eqb, ne_eqb}
use lib.Pointwise.{pointwise}
use Rattle.std.proofs.Math.ListN.{set, length-set}
use Rattle.std.proofs.Math.Seq.{take-suc-set, length-take-le}
use Rattle.std.proofs.lemmas.List.{take_all, length-drop}
use Rattle.std.proofs.lemmas.Slice.{take-put_mid}
use borrow.Rule.Slice.PartMut.{put_mid}
use Rattle.linktext.specs.Faults.{fault_number}
use Rattle.linktext.specs.declared.reply.TextFault.{TextFault}
use Rattle.linktext.specs.declared.reply.TextRefusal.{TextRefusal}
use Rattle.linktext.specs.Texts.{choose, behind_spaces, Figure, figure, no_figure, number_of, Line, line, no_line, ended, on_figure, line_of, Parsed, table, no_table, on_line, line_after, links_from, gauges_word, begins, read_text}

-- ---- the numbers of a line, turn by turn

-- k numbers of a line are taken, and it goes on with `rest`
pub record LineTurn (text : List ℕ) (count : ℕ) (rest : List ℕ) (k : ℕ) (numbers : List ℕ) : Type 0 where
  pub size : length numbers ≡ count
  pub same : line_of (count - k) (take k numbers) rest ≡ line_of count [] text

module _ {text : List ℕ} {count : ℕ} {rest : List ℕ} {k : ℕ} {numbers : List ℕ} (L : LineTurn text count rest k numbers) where
  module _ (h : k < count) where
    -- the line as its next number has it
    at_number : {f : Figure} → f ≡ number_of rest → on_figure f (λ v more. line_of (count - (k + 1)) (take k numbers ++ (v ∷ [])) more) ≡ line_of count [] text
    unfolding line_of
    at_number e =
        let one : count - k ≡ suc (count - (k + 1)) = omega arith in
        ap (λ (f : Figure). on_figure f (λ v more. line_of (count - (k + 1)) (take k numbers ++ (v ∷ [])) more)) e
        ∙ sym (ap (λ (n : ℕ). line_of n (take k numbers) rest) one) ∙ L.same

    pub line_more : {v : ℕ} {more : List ℕ} → figure v more ≡ number_of rest → LineTurn text count more (k + 1) (set numbers k v)
    line_more {v} {more} e =
        let ns : take (k + 1) (set numbers k v) ≡ take k numbers ++ (v ∷ []) =
        ap (λ (n : ℕ). take n (set numbers k v)) (add-one k) ∙ take-suc-set numbers k v (omega (arith, L.size)) in
        record {
          size = length-set numbers k v ∙ L.size;
          same = ap (λ (m : List ℕ). line_of (count - (k + 1)) m more) ns ∙ at_number e;
        }

    pub line_broken : {n : ℕ} → no_figure n ≡ number_of rest → no_line n ≡ line_of count [] text
    line_broken e = at_number e

  -- behind the last number
  pub line_end : count ≤ k → {l : Line} → l ≡ ended numbers (behind_spaces rest) → l ≡ line_of count [] text
  unfolding line_of
  line_end h e =
      let done : 0 ≡ count - k = omega arith in
      e ∙ ap (λ (ns : List ℕ). ended ns (behind_spaces rest)) (sym (take_all k numbers (omega (arith, L.size))))
      ∙ ap (λ (n : ℕ). line_of n (take k numbers) rest) done ∙ L.same

-- ---- a line behind the numbers of others

front : List ℕ → Line → Line
front ns (line ms rest) = line (ns ++ ms) rest
front ns (no_line n) = no_line n

ended_behind : (ns ms end : List ℕ) → ended (ns ++ ms) end ≡ front ns (ended ms end)
unfolding front
ended_behind ns ms [] = refl
ended_behind ns ms (b ∷ text) = of (eqb b 10)
  where
    of : (p : Bool) → choose p (line (ns ++ ms) text) (no_line 92) ≡ front ns (choose p (line ms text) (no_line 92))
    of true = refl
    of false = refl

line_behind : (k : ℕ) (ns ms text : List ℕ) → line_of k (ns ++ ms) text ≡ front ns (line_of k ms text)
unfolding line_of front
line_behind zero ns ms text = ended_behind ns ms (behind_spaces text)
line_behind (suc k) ns ms text = of (number_of text) (λ v rest. line_behind k ns (ms ++ (v ∷ [])) rest)
  where
    of : (f : Figure) → ((v : ℕ) (rest : List ℕ) → line_of k (ns ++ (ms ++ (v ∷ []))) rest ≡ front ns (line_of k (ms ++ (v ∷ [])) rest))
        → on_figure f (λ v rest. line_of k (ns ++ ms ++ (v ∷ [])) rest) ≡ front ns (on_figure f (λ v rest. line_of k (ms ++ (v ∷ [])) rest))
    of (figure v rest) e = ap (λ (l : List ℕ). line_of k l rest) (append_assoc ns ms (v ∷ [])) ∙ e v rest
    of (no_figure n) e = refl

-- ---- refusals

pub refused_as : {r : TextRefusal} {f : TextFault} {l : ℕ} {p : Parsed} → r ≡ record { fault = f; line = l } → no_table (fault_number f) l ≡ p → no_table (fault_number r.fault) r.line ≡ p
refused_as e q = ap (λ (x : TextRefusal). no_table (fault_number x.fault) x.line) e ∙ q

-- ---- the links, turn by turn

-- a text that is not at its end
pub some_left : (rest : List ℕ) → false ≡ eqb (length rest) 0 → 0 < length rest
some_left [] e = absurd (cc e)
some_left (b ∷ rest) e = omega arith

links_done : (g r : ℕ) (ns rest : List ℕ) → length rest ≡ 0 → links_from g r ns rest ≡ table g ns
unfolding links_from
links_done g zero ns [] e = refl
links_done g (suc r) ns [] e = refl
links_done g r ns (b ∷ rest) e = absurd (omega arith)

links_full : (g : ℕ) (ns rest : List ℕ) → 0 < length rest → links_from g 0 ns rest ≡ no_table 2 (line_after ns)
unfolding links_from
links_full g ns [] h = absurd (omega arith)
links_full g ns (b ∷ rest) h = refl

links_next : (g r : ℕ) (ns rest : List ℕ) → 0 < length rest
    → links_from g (suc r) ns rest ≡ on_line (line_of 4 ns rest) (links_from g r) (λ n. no_table n (line_after ns))
unfolding links_from
links_next g r ns [] h = absurd (omega arith)
links_next g r ns (b ∷ rest) h = refl

-- the numbers of link n
abbrev pub part : ℕ → List ℕ → List ℕ
part n numbers = take (4 * n + 4 - 4 * n) (drop (4 * n) numbers)

-- so many links are taken, and the text goes on with `rest`
pub record Turn (text : List ℕ) (g : ℕ) (rest : List ℕ) (n : ℕ) (numbers : List ℕ) : Type 0 where
  pub same : links_from g (2048 - n) (take (4 * n) numbers) rest ≡ links_from g 2048 [] text

module _ {text : List ℕ} {g : ℕ} {rest : List ℕ} {n : ℕ} {numbers : List ℕ} (L : Turn text g rest n numbers) where
  pub links_end : length rest ≡ 0 → table g (take (4 * n) numbers) ≡ links_from g 2048 [] text
  links_end e = sym (links_done g (2048 - n) (take (4 * n) numbers) rest e) ∙ L.same

  module _ (more : 0 < length rest) where
    pub links_many : n ≡ 2048 → 8192 ≤ length numbers → no_table 2 2050 ≡ links_from g 2048 [] text
    links_many e room =
        let none : 2048 - n ≡ 0 = omega arith in
        let row : line_after (take (4 * n) numbers) ≡ 2050 = omega (arith, length-take-le (4 * n) numbers) in
        sym (ap (λ (r : ℕ). links_from g r (take (4 * n) numbers) rest) none ∙ links_full g (take (4 * n) numbers) rest more ∙ ap (no_table 2) row) ∙ L.same

    module _ (few : n < 2048) (room : 8192 ≤ length numbers) where
      four : length (part n numbers) ≡ 4
      four =
          let k : 4 * n + 4 - 4 * n ≡ 4 = omega arith in
          length-take-le (4 * n + 4 - 4 * n) (drop (4 * n) numbers) (omega (arith, length-drop (4 * n) numbers)) ∙ k

      -- by the line of the next link
      by_line : {l : Line} → l ≡ line_of (length (part n numbers)) [] rest
          → on_line (front (take (4 * n) numbers) l) (links_from g (2048 - (n + 1))) (λ m. no_table m (line_after (take (4 * n) numbers))) ≡ links_from g 2048 [] text
      by_line {l} e =
          let ns = take (4 * n) numbers in
          let one : 2048 - n ≡ suc (2048 - (n + 1)) = omega arith in
          let there : front ns l ≡ line_of 4 ns rest =
          ap (front ns) (e ∙ ap (λ (w : ℕ). line_of w [] rest) four) ∙ sym (line_behind 4 ns [] rest) ∙ ap (λ (ms : List ℕ). line_of 4 ms rest) (append-nil ns) in
          ap (λ (x : Line). on_line x (links_from g (2048 - (n + 1))) (λ m. no_table m (line_after ns))) there
          ∙ sym (ap (λ (r : ℕ). links_from g r ns rest) one ∙ links_next g (2048 - (n + 1)) ns rest more) ∙ L.same

      pub links_more : {ys behind : List ℕ} → line ys behind ≡ line_of (length (part n numbers)) [] rest
          → length ys ≡ length (part n numbers) → Turn text g behind (n + 1) (put_mid (4 * n) (4 * n + 4 - 4 * n) numbers ys)
      unfolding front
      links_more {ys} {behind} e size =
          let next : 4 * (n + 1) ≡ 4 * n + length ys = omega (arith, size, four) in
          let ns : take (4 * (n + 1)) (put_mid (4 * n) (4 * n + 4 - 4 * n) numbers ys) ≡ take (4 * n) numbers ++ ys =
          take-put_mid (4 * n) (4 * n + 4 - 4 * n) numbers ys (4 * (n + 1)) next (omega arith) in
          record { same = ap (λ (ms : List ℕ). links_from g (2048 - (n + 1)) ms behind) ns ∙ by_line e }

      pub links_broken : {m : ℕ} → no_line m ≡ line_of (length (part n numbers)) [] rest
          → no_table m (n + 2) ≡ links_from g 2048 [] text
      unfolding front
      links_broken {m} e =
          let row : n + 2 ≡ line_after (take (4 * n) numbers) = omega (arith, length-take-le (4 * n) numbers) in
          ap (no_table m) row ∙ by_line e

-- ---- the first line

eqb_swap : (a b : ℕ) → eqb a b ≡ eqb b a
eqb_swap a b = dite (ℕ_discrete a b) (λ e. eq-eqb a b e ∙ sym (eq-eqb b a (sym e))) (λ d. ne_eqb a b d ∙ sym (ne_eqb b a (λ e. d (sym e))))

-- whether a text begins with a word, as std compares them
begins_is : (word text : List ℕ) → pointwise eqb (take (length word) text) word ≡ begins word text
begins_is [] text = refl
begins_is (a ∷ word) [] = refl
begins_is (a ∷ word) (b ∷ text) = λ i. eqb_swap b a i && begins_is word text i

module _ (text : List ℕ) where
  -- what the text comes to by its first word
  by_word : {p : Bool} → pointwise eqb (take 7 text) gauges_word ≡ p
      → choose p (on_line (line_of 1 [] (drop 7 text)) (λ ns rest. links_from (get_or ns 0 0) 2048 [] rest) (λ n. no_table 91 1)) (no_table 91 1) ≡ read_text text
  unfolding read_text
  by_word e =
      ap (λ (b : Bool). choose b (on_line (line_of 1 [] (drop 7 text)) (λ ns rest. links_from (get_or ns 0 0) 2048 [] rest) (λ n. no_table 91 1)) (no_table 91 1))
      (sym e ∙ begins_is gauges_word text)

  pub no_word : pointwise eqb (take 7 text) gauges_word ≡ false → no_table 91 1 ≡ read_text text
  no_word e = by_word e

  -- and by what stands behind the word
  module _ {count : List ℕ} (w : (pointwise eqb (take 7 text) gauges_word ≡ true) × (count ≡ drop 7 text) × (length count + 7 ≡ length text)) where
    by_count : {l : Line} → l ≡ line_of 1 [] count → on_line l (λ ns rest. links_from (get_or ns 0 0) 2048 [] rest) (λ n. no_table 91 1) ≡ read_text text
    by_count e =
        ap (λ (l : Line). on_line l (λ ns rest. links_from (get_or ns 0 0) 2048 [] rest) (λ n. no_table 91 1)) (e ∙ ap (line_of 1 []) w.1) ∙ by_word w.0

    pub no_count : {n : ℕ} → no_line n ≡ line_of 1 [] count → no_table 91 1 ≡ read_text text
    no_count e = by_count e

    pub counted : {ns rest : List ℕ} → line ns rest ≡ line_of 1 [] count → links_from (get_or ns 0 0) 2048 [] rest ≡ read_text text
    counted e = by_count e
