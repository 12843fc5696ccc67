-- Pages of long lists. A source gives rows at each of its indices, which count from 0; rows have a weight, which is their number, or that of
-- what they list. A page begins at an index, and looks at so many indices that its rows have a wanted weight, at most at a given number.
use Rattle.std.specs.Prelude.{◌≡◌, ◌⊎◌, ℕ, zero, suc, ◌+◌, ◌<◌, ◌≤◌, List, [], ◌++◌, codes, decimal}
use Rattle.table_views.specs.Members.{member}
use Rattle.table_views.specs.Texts.{line, listed}

-- the rows at so many indices from one on
abbrev pub rows_from : {A : Type 0} → (ℕ → List A) → ℕ → ℕ → List A
rows_from rows from zero = []
rows_from rows from (suc n) = rows_from rows from n ++ rows (from + n)

-- their weight
abbrev pub weight_from : (ℕ → ℕ) → ℕ → ℕ → ℕ
weight_from weigh from zero = 0
weight_from weigh from (suc n) = weight_from weigh from n + weigh (from + n)

-- A page from an index on looks at `count` of the `left` indices: at no further one once its rows have the weight `full`, and at `most` at most.
pub record IsPage (weigh : ℕ → ℕ) (from left full most count : ℕ) : Type 0 where
  pub within : count ≤ left
  pub few : count ≤ most
  pub unfilled : (k : ℕ) → k < count → weight_from weigh from k < full
  pub ends : (count ≡ left) ⊎ (count ≡ most) ⊎ (full ≤ weight_from weigh from count)

-- the text of a page: its rows under their name, at how many indices it looked, and where to go on
abbrev pub page_text : List ℕ → List (List ℕ) → ℕ → List ℕ → List ℕ → List ℕ
page_text name rows looked cursor value =
    line (codes "{\"" ++ name ++ codes "\":" ++ listed rows ++ member (codes "looked") (decimal looked) ++ member cursor value ++ codes "}")
