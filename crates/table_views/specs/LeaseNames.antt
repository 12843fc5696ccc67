-- The runners to which leases were given, as far as they are known.
use Rattle.std.specs.Prelude.{ℕ, ◌+◌, ◌-◌, List, [], ◌∷◌, ◌++◌, drop, length, nat_lt, slice_get, Option, None, if◌then◌else◌}

-- the runners of the leases from `first` on, in order
pub record NamesState : Type 0 where
  pub first : ℕ
  pub names : List (List ℕ)

-- the most leases whose runners are known
abbrev pub most_named : ℕ
most_named = 100000

abbrev pub no_names : NamesState
no_names = record { first = 0; names = [] }

-- the runner to which a lease was given, if it is known
abbrev pub name_of : NamesState → ℕ → Option (List ℕ)
name_of s lease = if nat_lt lease s.first then None else slice_get s.names (lease - s.first)

-- room for one more: the first is forgotten if as many are known as may be
abbrev pub names_with_room : NamesState → NamesState
names_with_room s = record {
  first = if nat_lt (length s.names) most_named then s.first else s.first + 1;
  names = if nat_lt (length s.names) most_named then s.names else drop 1 s.names;
}

-- the runner of the next lease
abbrev pub one_more_name : NamesState → List ℕ → NamesState
one_more_name s runner = record { first = (names_with_room s).first; names = (names_with_room s).names ++ runner ∷ [] }

-- A lease was given to a runner. One that is known stays, and so does an earlier one. Leases are given in order, so the next one follows those
-- that are known; where one is passed over, all before it are forgotten.
abbrev pub noted : NamesState → ℕ → List ℕ → NamesState
noted s lease runner =
    if nat_lt lease s.first then s
    else if nat_lt (lease - s.first) (length s.names) then s
    else if nat_lt (length s.names) (lease - s.first) then record { first = lease; names = runner ∷ [] }
    else one_more_name s runner
