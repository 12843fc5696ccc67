-- Calls that only read a file, as a file with given bytes answers them.
use Rattle.std.specs.Prelude.{◌≡◌, ℕ, List, [], ◌∷◌, length, take, drop}
use Rattle.act_disk.specs.SystemCalls.{FileCall, Measured, Gave, Wrote, WriteFailed, Grew, GrowthFailed, Synced, SyncFailed}

-- each length is that of these bytes, and each read gives those from its offset on
abbrev pub IsReadFrom : List ℕ → List FileCall → Type 0
IsReadFrom held [] = Unit {0}
IsReadFrom held (Measured len ∷ earlier) = IsReadFrom held earlier × (len ≡ length held)
IsReadFrom held (Gave at bytes ∷ earlier) = IsReadFrom held earlier × (bytes ≡ take (length bytes) (drop at held))
IsReadFrom held (Wrote at bytes count ∷ earlier) = ⊥
IsReadFrom held (WriteFailed at bytes ∷ earlier) = ⊥
IsReadFrom held (Grew len ∷ earlier) = ⊥
IsReadFrom held (GrowthFailed len ∷ earlier) = ⊥
IsReadFrom held (Synced ∷ earlier) = IsReadFrom held earlier
IsReadFrom held (SyncFailed ∷ earlier) = ⊥
