-- The group of a name in a repository. GitHub Docs, "Control the concurrency of workflows and jobs", says that names of groups are
-- case-insensitive, but not which comparison applies. This project uses the default caseless match of The Unicode Standard, section
-- 3.13, and compares repositories by bytes.
use Rattle.std.specs.Prelude.{ℕ, List, [], ◌∷◌, ◌&&◌, Bool, Option, None, Some, chars, refl}
use Rattle.std.specs.Str.{bytes_eq}
use Rattle.std.specs.Coded.{Coded, code_by, coded_ℕ, coded_list, coded×}
use Rattle.caseless.specs.Caseless.{default_case_fold}

-- the bytes of a repository, and the characters of a case-folded name
pub record Group : Type 0 where
  pub repository : List ℕ
  pub folded : List ℕ

-- a group is encoded as both lists
abbrev pub coded_group : Coded Group
coded_group = code_by (List ℕ × List ℕ) (coded× (coded_list coded_ℕ) (coded_list coded_ℕ))
    (λ g. (g.repository, g.folded)) (λ t. record { repository = t.0; folded = t.1 }) (λ _. refl)

-- the characters of a name, decoded from its bytes and case-folded
abbrev pub folded_name : List ℕ → List ℕ
folded_name name = default_case_fold (chars name)

-- the group of a name; None for the empty name
abbrev pub group_of : List ℕ → List ℕ → Option Group
group_of repository [] = None
group_of repository (b ∷ bs) = Some (record { repository = repository; folded = folded_name (b ∷ bs) })

-- whether two groups are the same, by the repository's bytes and the folded name's characters
abbrev pub same_group : Group → Group → Bool
same_group g h = bytes_eq g.repository h.repository && bytes_eq g.folded h.folded
