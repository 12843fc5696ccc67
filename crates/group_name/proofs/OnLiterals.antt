-- What an example unfolds to compute the group of a literal name.
use Rattle.std.specs.Prelude.{⊤}
use Rattle.std.specs.Str.{chars}
use Rattle.caseless.proofs.Computing.{caseless}

-- with `unfolding group_name_on_literals`, `refl` computes the group of a name
unfoldable pub group_name_on_literals : ⊤
unfolding chars caseless
group_name_on_literals = tt
