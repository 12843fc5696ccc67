-- The kinds of a value of `runs-on`, and the labels of each.
use Rattle.std.proofs.Common.{◌≡◌, ◌<◌, List, [], ◌∷◌, map, length, Some, refl, sym, ap, ◌∙◌, subst, arith}
use Rattle.std.specs.List.{flat_map}
use Rattle.serde_json.specs.Data.{Data}
use Rattle.serde_json.specs.Find.{as_array}
use Rattle.serde_json.specs.View.{view, items_view}
use Rattle.serde_json.specs.declared.value.Value.{Value}
use Rattle.wf_reader.specs.Faults.{unless_faulty}
use Rattle.wf_reader.specs.Job.{label_faults, label_in, labels_faults, requested_labels}
use Rattle.wf_reader.specs.Json.{item_list}
use Rattle.wf_reader.proofs.Contents.{array-of}

-- the faults and the labels of a list
flat_map-items : (vs : List Value) → flat_map label_faults (item_list (items_view vs)) ≡ flat_map (λ v. label_faults (view v)) vs
flat_map-items [] = refl
flat_map-items (v ∷ vs) = rw (flat_map-items vs)

map-items : (vs : List Value) → map label_in (item_list (items_view vs)) ≡ map (λ v. label_in (view v)) vs
map-items [] = refl
map-items (v ∷ vs) = rw (map-items vs)

faults-filled : (d : Data) (vs : List Value) → Some (items_view vs) ≡ as_array d → 0 < length vs
    → labels_faults d ≡ flat_map (λ v. label_faults (view v)) vs
faults-filled d [] is h = absurd (omega arith)
faults-filled d (v ∷ vs) is h = ap labels_faults (array-of d _ is) ∙ flat_map-items (v ∷ vs)

labels-list : (d : Data) (vs : List Value) → Some (items_view vs) ≡ as_array d → requested_labels d ≡ map (λ v. label_in (view v)) vs
labels-list d vs is = ap requested_labels (array-of d _ is) ∙ map-items vs

-- the labels of a list are those of the value of `runs-on`
pub list_gives : (d : Data) (vs ws : List Value) → Some (items_view vs) ≡ as_array d → ws ≡ vs → 0 < length ws
    → unless_faulty (flat_map (λ v. label_faults (view v)) ws) (map (λ v. label_in (view v)) ws) ≡ unless_faulty (labels_faults d)
    (requested_labels d)
list_gives d vs ws is same filled =
    ap (λ us. unless_faulty (flat_map (λ v. label_faults (view v)) us) (map (λ v. label_in (view v)) us)) same
    ∙ ap (λ fs. unless_faulty fs (map (λ v. label_in (view v)) vs)) (sym (faults-filled d vs is (subst (λ us. 0 < length us) same filled)))
    ∙ ap (unless_faulty (labels_faults d)) (sym (labels-list d vs is))
