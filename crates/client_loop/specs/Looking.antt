-- What may be seen of a service between its turns.
use Rattle.std.specs.Prelude.{◌≡◌, ℕ, List, length}
use Rattle.table_model.specs.TableState.{TableState}
use Rattle.act_store.specs.Entries.{table_after}
use Rattle.act_store.specs.Images.{RecoversTo}
use Rattle.client_loop.specs.Service.{ServiceState, covered_of, history_of}

-- The table after all entries, which are all covered. Each image of the disk recovers to exactly this table, so no crash takes back what it shows.
pub record IsSeen {D : Type 0} (honest : D → Type 0) (images : D → List ℕ → Type 0) (s : ServiceState D) (table : TableState) : Type 0 where
  pub covered : covered_of s ≡ length (history_of s)
  pub table_is : table ≡ table_after s.origin (history_of s)
  pub stays : honest s.store.disk → (image : List ℕ) → images s.store.disk image → RecoversTo table image
