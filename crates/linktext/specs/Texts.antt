-- A table as text, and what reading it comes to, by computing. The first line is `gauges` and the gauge count, each line after it a link, `b e u v`. Numbers are decimal and
-- parted by spaces. A line ends in a line feed; the last one may be missing. Assumes nothing: these are definitions.
use Rattle.std.specs.Prelude.{Bool, true, false, ◌&&◌, ◌||◌, List, [], ◌∷◌, ◌++◌, ℕ, zero, suc, ◌+◌, ◌*◌, ◌-◌, ◌/◌, eqb, ltb, length, get_or, drop}

-- the first of two, if the test says so, and else the second
abbrev pub choose : {A : Type 0} → Bool → A → A → A
choose true a b = a
choose false a b = b

-- ---- bytes

-- "0" to "9"
abbrev pub is_digit : ℕ → Bool
is_digit b = ltb 47 b && ltb b 58

-- a space, a tab or a carriage return
abbrev pub is_space : ℕ → Bool
is_space b = eqb b 32 || (eqb b 9 || eqb b 13)

-- the text behind its leading spaces
unfoldable pub behind_spaces : List ℕ → List ℕ
behind_spaces [] = []
behind_spaces (b ∷ text) = choose (is_space b) (behind_spaces text) (b ∷ text)

-- ---- numbers

-- a number and the text behind it, or a reason why there is none
pub data Figure : Type 0 where
  figure : (value : ℕ) (rest : List ℕ) → Figure
  no_figure : (reason : ℕ) → Figure

-- the number of the leading digits, behind digits of the value v: 93 if it passes 4,294,967,295
unfoldable pub digits_from : ℕ → List ℕ → Figure
digits_from v [] = figure v []
digits_from v (b ∷ text) =
    choose (is_digit b) (choose (ltb 4294967295 (v * 10 + (b - 48))) (no_figure 93) (digits_from (v * 10 + (b - 48)) text)) (figure v (b ∷ text))

-- the number that a text begins with: 92 if it begins with no digit
abbrev pub leading : List ℕ → Figure
leading [] = no_figure 92
leading (b ∷ text) = choose (is_digit b) (digits_from 0 (b ∷ text)) (no_figure 92)

-- the next number, behind spaces
abbrev pub number_of : List ℕ → Figure
number_of text = leading (behind_spaces text)

-- ---- lines

-- the numbers up to the end of a line and the text behind it, or a reason why it is no line of a table
pub data Line : Type 0 where
  line : (numbers rest : List ℕ) → Line
  no_line : (reason : ℕ) → Line

-- the end of a line: spaces, and a line feed or the end of the text
abbrev pub ended : List ℕ → List ℕ → Line
ended ns [] = line ns []
ended ns (b ∷ text) = choose (eqb b 10) (line ns text) (no_line 92)

-- what follows a number
abbrev pub on_figure : Figure → (ℕ → List ℕ → Line) → Line
on_figure (figure v rest) f = f v rest
on_figure (no_figure n) f = no_line n

-- k more numbers of a line, which come behind the numbers ns, and its end
unfoldable pub line_of : ℕ → List ℕ → List ℕ → Line
line_of zero ns text = ended ns (behind_spaces text)
line_of (suc k) ns text = on_figure (number_of text) (λ v rest. line_of k (ns ++ (v ∷ [])) rest)

-- ---- tables

-- a gauge count and the numbers of the links, or a reason and its line, counted from 1
pub data Parsed : Type 0 where
  table : (gauges : ℕ) (numbers : List ℕ) → Parsed
  no_table : (reason line : ℕ) → Parsed

-- what follows a line
abbrev pub on_line : Line → (List ℕ → List ℕ → Parsed) → (ℕ → Parsed) → Parsed
on_line (line ns rest) f g = f ns rest
on_line (no_line n) f g = g n

-- the line of the link behind the numbers ns: link 0 stands in line 2
abbrev pub line_after : List ℕ → ℕ
line_after ns = length ns / 4 + 2

-- the one at the end of a text, the other where there is more of it
abbrev pub at_end : List ℕ → Parsed → Parsed → Parsed
at_end [] a b = a
at_end (c ∷ text) a b = b

-- the lines of the links, behind the numbers ns, with room for r more links: one more is reason 2
unfoldable pub links_from : ℕ → ℕ → List ℕ → List ℕ → Parsed
links_from g zero ns text = at_end text (table g ns) (no_table 2 (line_after ns))
links_from g (suc r) ns text = at_end text (table g ns) (on_line (line_of 4 ns text) (links_from g r) (λ n. no_table n (line_after ns)))

-- "gauges "
abbrev pub gauges_word : List ℕ
gauges_word = 103 ∷ 97 ∷ 117 ∷ 103 ∷ 101 ∷ 115 ∷ 32 ∷ []

-- whether a text begins with a word
abbrev pub begins : List ℕ → List ℕ → Bool
begins [] text = true
begins (a ∷ word) [] = false
begins (a ∷ word) (b ∷ text) = eqb a b && begins word text

-- what a text comes to: the first line, 91 if it isn't the gauge count, and those of at most 2,048 links
unfoldable pub read_text : List ℕ → Parsed
read_text text =
    choose (begins gauges_word text)
    (on_line (line_of 1 [] (drop 7 text)) (λ ns rest. links_from (get_or ns 0 0) 2048 [] rest) (λ n. no_table 91 1))
    (no_table 91 1)
