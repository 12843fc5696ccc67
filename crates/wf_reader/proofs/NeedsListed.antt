-- The kinds of a value of `needs`, and the ids of each.
use Rattle.std.proofs.Common.{◌≡◌, List, map, Some, sym, ap, ◌∙◌}
use Rattle.std.specs.List.{flat_map}
use Rattle.serde_json.specs.Data.{Data}
use Rattle.serde_json.specs.Find.{as_array}
use Rattle.serde_json.specs.View.{view, items_view}
use Rattle.serde_json.specs.declared.value.Value.{Value}
use Rattle.wf_reader.specs.Faults.{unless_faulty, text_faults}
use Rattle.wf_reader.specs.Json.{text_in}
use Rattle.wf_reader.specs.Job.{needs_faults, needs_in}
use Rattle.wf_reader.proofs.Contents.{array-of, item_list-view, whole_list}

-- the ids of a list are those of the value of `needs`
pub list_gives : (d : Data) (vs : List Value) → Some (items_view vs) ≡ as_array d
    → unless_faulty (flat_map (λ v. text_faults (view v)) vs) (map (λ v. text_in (view v)) vs) ≡ unless_faulty (needs_faults d)
    (needs_in d)
list_gives d vs is =
    whole_list view text_faults text_in vs
    ∙ ap (λ ds. unless_faulty (flat_map text_faults ds) (map text_in ds)) (sym (item_list-view vs))
    ∙ ap (λ e. unless_faulty (needs_faults e) (needs_in e)) (sym (array-of d _ is))
