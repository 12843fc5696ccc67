-- Moves under other names agree with the same moves, and what agrees by names of names agrees by names.
use Rattle.std.specs.Prelude.{◌≡◌, List, [], ◌∷◌, ◌++◌, ◌&&◌, map, not, true, false, if◌then◌else◌, refl}
use Rattle.std.proofs.Common.{ap, ap₂, sym, ◌∙◌, subst, append_assoc}
use Rattle.std.proofs.lemmas.List.{append-nil}
use Rattle.table_model.specs.GroupLaw.{holder_of, is_in_progress, is_pending, same_holder, Move}
use Rattle.table_laws.specs.Names.{renamed}
use Rattle.table_laws.proofs.Agrees.{Agrees, IsInjective}
use Rattle.table_laws.proofs.HistoryNames.{agrees_at_first}
use Rattle.table_laws.proofs.NamedMoves.{agrees_on, holder_named, same_named}
use Rattle.table_laws.proofs.OwnMoves.{own}
use Rattle.table_model.specs.declared.holder.Holder.{Holder}

module _ (name : Holder → Holder) (one : IsInjective name) where
  agrees_after : (now whole more : List Move) → Agrees name now whole → Agrees name (now ++ more) (whole ++ map (renamed name) more)
  agrees_after now whole [] agrees =
      subst (λ ms. Agrees name ms (whole ++ [])) (sym (append-nil now)) (subst (λ ms. Agrees name now ms) (sym (append-nil whole)) agrees)
  agrees_after now whole (m ∷ more) agrees =
      subst (λ ms. Agrees name ms (whole ++ map (renamed name) (m ∷ more))) (append_assoc now (m ∷ []) more)
      (subst (λ ms. Agrees name ((now ++ m ∷ []) ++ more) ms) (append_assoc whole (renamed name m ∷ []) (map (renamed name) more))
      (agrees_after (now ++ m ∷ []) (whole ++ renamed name m ∷ []) more (agrees_on name one now whole agrees m)))

  pub renamed_agrees : (moves : List Move) → Agrees name moves (map (renamed name) moves)
  renamed_agrees moves = agrees_after [] [] moves (agrees_at_first name)

  -- the moves of one holder
  pub own_renamed : (h : Holder) (moves : List Move) → own (name h) (map (renamed name) moves) ≡ map (renamed name) (own h moves)
  own_renamed h [] = refl
  own_renamed h (m ∷ moves) =
      let rest = own (name h) (map (renamed name) moves) in
      let same : same_holder (name h) (holder_of (renamed name m)) ≡ same_holder h (holder_of m) =
      ap (same_holder (name h)) (holder_named name one m) ∙ same_named name one h (holder_of m) in
      ap (λ b. if b then renamed name m ∷ rest else rest) same
      ∙ elim (same_holder h (holder_of m)) as
      (λ b. (if b then renamed name m ∷ own (name h) (map (renamed name) moves) else own (name h) (map (renamed name) moves))
      ≡ map (renamed name) (if b then m ∷ own h moves else own h moves)) [
        | true ↦ ap (λ ms. renamed name m ∷ ms) (own_renamed h moves)
        | false ↦ own_renamed h moves
      ]

-- what is said of a holder's name
module _ (name : Holder → Holder) (now whole : List Move) (agrees : Agrees name now whole) where
  pub in_progress_as : (h : Holder) → is_in_progress (name h) whole ≡ is_in_progress h now
  in_progress_as h = ap₂ (λ s e. s && not e) (agrees.started h) (agrees.ended h)

  pub pending_as : (h : Holder) → is_pending (name h) whole ≡ is_pending h now
  pending_as h = ap₂ (λ a b. a && b) (agrees.arrived h) (ap₂ (λ s e. not s && not e) (agrees.started h) (agrees.ended h))

pub agrees_through : (first second : Holder → Holder) (now middle whole : List Move) → Agrees first now middle → Agrees second middle whole
    → Agrees (λ h. second (first h)) now whole
agrees_through first second now middle whole inner outer = record {
  arrived = (λ h. outer.arrived (first h) ∙ inner.arrived h);
  started = (λ h. outer.started (first h) ∙ inner.started h);
  stopped = (λ h. outer.stopped (first h) ∙ inner.stopped h);
  ended = (λ h. outer.ended (first h) ∙ inner.ended h);
  who_runs = (λ n is.
      let from = outer.who_runs n is in
      let k = from.0 in
      let runs = sym (in_progress_as second middle whole outer k) ∙ ap (λ x. is_in_progress x whole) (sym from.1) ∙ is in
      let of_it = inner.who_runs k runs in
      (of_it.0, from.1 ∙ ap second of_it.1));
  who_waits = (λ n is.
      let from = outer.who_waits n is in
      let k = from.0 in
      let waits = sym (pending_as second middle whole outer k) ∙ ap (λ x. is_pending x whole) (sym from.1) ∙ is in
      let of_it = inner.who_waits k waits in
      (of_it.0, from.1 ∙ ap second of_it.1));
  latest_named = (λ h is. inner.latest_named h (outer.latest_named (first h) is));
  named_latest = (λ h waits is.
      outer.named_latest (first h) (pending_as first now middle inner h ∙ waits) (inner.named_latest h waits is));
  just = (λ before k h split displaced.
      let there = inner.just before k h split displaced in outer.just there.0 (first k) (first h) there.1 there.2);
}
