-- The names of the holders of groups over many commands. A name includes the id and the attempt of the holder's run: a run keeps its id,
-- wherever it stands in the list of runs, and what begins in one attempt is a different holder from what ended in the attempt before.
use Rattle.std.specs.Prelude.{◌≡◌, ℕ, ◌+◌, List}
use Rattle.std.specs.Option.{option_map_or}
use Rattle.table_model.specs.Holders.{run_of}
use Rattle.table_model.specs.GroupLaw.{Move}
use Rattle.table_model.specs.Runs.{run_at, RunState}
use Rattle.table_model.specs.TableState.{TableState}
use Rattle.table_model.specs.declared.holder.Holder.{Holder}
use Rattle.table_model.specs.declared.holder.Holder.TheVariants.{Run, Leg}

-- Any names such that two attempts, or two holders, have different names.
pub record Names : Type 0 where
  pub name : ℕ → Holder → Holder
  pub differ : (a b : ℕ) (h k : Holder) → name a h ≡ name b k → (a ≡ b) × (h ≡ k)

-- the attempt of a holder's run; the first if there is no run yet
abbrev pub attempt_of : List RunState → Holder → ℕ
attempt_of runs h = option_map_or (λ x. x.attempt) (run_at runs (run_of h)) 1

-- the id of the run at an index; if there is no run yet, the id that it gets
abbrev pub id_in : TableState → ℕ → ℕ
id_in t r = option_map_or (λ x. x.id) (run_at t.runs r) (t.forgotten.through + r + 1)

-- the holder with the id of its run in place of the index
abbrev pub by_id : TableState → Holder → Holder
by_id t (Run r) = Run (id_in t r)
by_id t (Leg p) = Leg (record p { run = id_in t p.run })

-- the name of a holder by the id and the attempt of its run
abbrev pub name_in : Names → TableState → Holder → Holder
name_in names t h = names.name (attempt_of t.runs h) (by_id t h)

-- the same move of the named holder
abbrev pub renamed : (Holder → Holder) → Move → Move
renamed name (Move.arrive h) = Move.arrive (name h)
renamed name (Move.start h) = Move.start (name h)
renamed name (Move.stop h) = Move.stop (name h)
renamed name (Move.end_with r h) = Move.end_with r (name h)
