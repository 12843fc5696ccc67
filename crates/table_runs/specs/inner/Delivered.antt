-- Looking up runs by their deliveries.
use Rattle.std.specs.Prelude.{◌≡◌, ℕ, List, Bool, String}
use Rattle.std.specs.List.{position}
use Rattle.std.specs.Str.{bytes_eq}
use Rattle.std.specs.declared.alloc.Global.{Global}
use Rattle.indexmap.specs.IndexMap.{IndexMap, get_by_text}
use Rattle.definitions.specs.SmallText.{Admitted}

-- whether an event has the delivery
abbrev pub has_delivery : List ℕ → Admitted → Bool
has_delivery delivery event = bytes_eq event.delivery delivery

-- the index of the first event of each delivery is kept for the delivery, and nothing else
abbrev pub FindsFirst : {S : Type 0} → List Admitted → IndexMap (String Global) ℕ S → Type 0
FindsFirst events indexes = (delivery : List ℕ) → get_by_text indexes delivery ≡ position (has_delivery delivery) events
