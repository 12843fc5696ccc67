-- What is known of groups once those of a job's legs are decided.
use Rattle.std.specs.Prelude.{◌≡◌, ℕ, List, map, false, Option, None, Some, option_and_then, option_map, slice_get, refl}
use Rattle.std.specs.Option.{option_map_or}
use Rattle.std.proofs.Common.{ap, sym, ◌∙◌}
use Rattle.std.proofs.lemmas.Option.{same_Some, slice_get-map}
use Rattle.wf_expr.specs.Bound.{Results}
use Rattle.group_name.specs.BoundGroup.{group_at as bound_group_at}
use Rattle.group_name.specs.Group.{Group}
use Rattle.table_model.specs.Runs.{changed_at}
use Rattle.table_model.specs.declared.holder.Holder.TheVariants.{Leg}
use Rattle.table_model.specs.declared.sites.LegSite.{LegSite}
use Rattle.table_model.proofs.Changed.{at_another, at_changed}
use Rattle.table_bindings.specs.BoundGroups.{is_set_by}
use Rattle.table_bindings.specs.GroupKeys.{KeyState, decided, holder_key, key_in, known_as, ticket_in}
use Rattle.table_bindings.specs.declared.group_keys.HolderKey.{HolderKey}
use Rattle.table_bindings.specs.declared.group_keys.HolderKey.TheVariants.{Known, NoGroup}
use Rattle.table_bindings.specs.declared.group_keys.KnownGroup.{KnownGroup}
use Rattle.table_bindings.specs.declared.groups.GroupRequest.{GroupRequest}

-- ---- one request

module _ (results : Results) (request : GroupRequest) where
  abbrev given : Option Group → HolderKey
  given o = option_map_or (λ g. known_as g (is_set_by results request.cancels)) o NoGroup

  pub key_decided : key_in (decided results request) ≡ bound_group_at results request.group
  key_decided = by (bound_group_at results request.group)
    where
      by : (o : Option Group) → key_in (given o) ≡ o
      by None = refl
      by (Some g) = refl

  pub ticket_decided : ticket_in (decided results request) ≡ bound_group_at results request.group
  ticket_decided = by (bound_group_at results request.group)
    where
      by : (o : Option Group) → ticket_in (given o) ≡ o
      by None = refl
      by (Some g) = refl

  pub flag_decided : (known : KnownGroup) → decided results request ≡ Known known → known.cancels ≡ is_set_by results request.cancels
  flag_decided known e = by (bound_group_at results request.group) e
    where
      by : (o : Option Group) → given o ≡ Known known → known.cancels ≡ is_set_by results request.cancels
      by None e = cc
      by (Some g) e = flag (record { key = g; ticket = Some g; cancels = is_set_by results request.cancels }) e
        where
          flag : (k : KnownGroup) → Known k ≡ Known known → known.cancels ≡ k.cancels
          flag k e = let same : k ≡ known = cc in ap (λ (x : KnownGroup). x.cancels) (sym same)

-- a request, if there is one
pub keys_decided_of : (results : Results) (o : Option GroupRequest)
    → option_and_then key_in (option_map (decided results) o) ≡ option_and_then (λ request. bound_group_at results request.group) o
keys_decided_of results None = refl
keys_decided_of results (Some request) = key_decided results request

pub tickets_decided_of : (results : Results) (o : Option GroupRequest)
    → option_and_then ticket_in (option_map (decided results) o) ≡ option_and_then (λ request. bound_group_at results request.group) o
tickets_decided_of results None = refl
tickets_decided_of results (Some request) = ticket_decided results request

pub flags_decided_of : (results : Results) (o : Option GroupRequest) (known : KnownGroup) → option_map (decided results) o ≡ Some (Known known)
    → known.cancels ≡ option_map_or (λ request. is_set_by results request.cancels) o false
flags_decided_of results None known e = cc
flags_decided_of results (Some request) known e = flag_decided results request known (same_Some (decided results request) (Known known) e)

-- ---- the keys of a run after those of a job are decided

module _ (results : Results) (requests : List GroupRequest) (keys : KeyState) (j : ℕ) where
  abbrev after : KeyState
  after = record { own = keys.own; jobs = changed_at j (λ legs. map (decided results) requests) keys.jobs }

  pub decided_here : (p : LegSite) (legs : List HolderKey) → p.job ≡ j → slice_get keys.jobs j ≡ Some legs
      → holder_key after (Leg p) ≡ option_map (decided results) (slice_get requests p.leg)
  decided_here p legs same at =
      let read : Option (List HolderKey) → Option HolderKey = option_and_then (λ (ks : List HolderKey). slice_get ks p.leg) in
      ap (λ i. read (slice_get (changed_at j (λ ks. map (decided results) requests) keys.jobs) i)) same
      ∙ ap read (at_changed j (λ ks. map (decided results) requests) keys.jobs ∙ ap (option_map (λ ks. map (decided results) requests)) at)
      ∙ slice_get-map (decided results) requests p.leg

  pub decided_elsewhere : (p : LegSite) → (p.job ≡ j → ⊥) → holder_key after (Leg p) ≡ holder_key keys (Leg p)
  decided_elsewhere p other =
      ap (option_and_then (λ (ks : List HolderKey). slice_get ks p.leg)) (at_another j (λ ks. map (decided results) requests) keys.jobs p.job other)
