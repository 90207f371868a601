-- Two texts, by computing. Assumes nothing.
use mathlib.Core.List.{[], ◌∷◌}
use mathlib.Core.Path.{◌≡◌, refl}
use Rattle.linktext.specs.Texts.{behind_spaces, digits_from, line_of, table, no_table, links_from, read_text}

-- "gauges 4", "1 9 0 1", "3 12 1 2"
pub two_links : read_text (103 ∷ 97 ∷ 117 ∷ 103 ∷ 101 ∷ 115 ∷ 32 ∷ 52 ∷ 10 ∷ 49 ∷ 32 ∷ 57 ∷ 32 ∷ 48 ∷ 32 ∷ 49 ∷ 10 ∷ 51 ∷ 32 ∷ 49 ∷ 50 ∷ 32 ∷ 49 ∷ 32 ∷ 50 ∷ []) ≡ table 4 (1 ∷ 9 ∷ 0 ∷ 1 ∷ 3 ∷ 12 ∷ 1 ∷ 2 ∷ [])
unfolding behind_spaces digits_from line_of links_from read_text
two_links = refl

-- "gauges 4", "1 9 0 1", "1 x"
pub no_number : read_text (103 ∷ 97 ∷ 117 ∷ 103 ∷ 101 ∷ 115 ∷ 32 ∷ 52 ∷ 10 ∷ 49 ∷ 32 ∷ 57 ∷ 32 ∷ 48 ∷ 32 ∷ 49 ∷ 10 ∷ 49 ∷ 32 ∷ 120 ∷ []) ≡ no_table 92 3
unfolding behind_spaces digits_from line_of links_from read_text
no_number = refl
