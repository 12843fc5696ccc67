-- Where the runs, the legs and the sites of a table without its first runs stood among all runs.
use Rattle.std.specs.Prelude.{◌≡◌, ◌<◌, ◌+◌, ◌-◌, ℕ, false}
use Rattle.group_name.specs.Group.{Group}
use Rattle.table_model.specs.Groups.{is_in_progress_in, is_pending_in, is_stop_requested}
use Rattle.table_model.specs.Holders.{run_of}
use Rattle.table_model.specs.TableState.{TableState}
use Rattle.table_model.specs.declared.holder.Holder.{Holder}
use Rattle.table_model.specs.declared.holder.Holder.TheVariants.{Run, Leg}
use Rattle.table_model.specs.declared.sites.LegSite.{LegSite}
use Rattle.table_model.specs.declared.sites.RuleSite.{RuleSite}
use Rattle.table_model.specs.declared.sites.RuleSite.TheVariants.{Opening, AtLeg, Closing, Whole}

-- the leg at this site without the first k runs
abbrev pub moved_leg : ℕ → LegSite → LegSite
moved_leg k p = record { run = k + p.run; job = p.job; leg = p.leg }

-- the holder
abbrev pub moved : ℕ → Holder → Holder
moved k (Run r) = Run (k + r)
moved k (Leg p) = Leg (moved_leg k p)

-- the site of a rule
abbrev pub moved_site : ℕ → RuleSite → RuleSite
moved_site k (Opening r j) = Opening (k + r) j
moved_site k (AtLeg p) = AtLeg (moved_leg k p)
moved_site k (Closing r j) = Closing (k + r) j
moved_site k (Whole r) = Whole (k + r)

-- ---- the holders of a group once runs are forgotten

-- by how many runs the holders move
abbrev pub moved_by : TableState → TableState → ℕ
moved_by t next = next.forgotten.through - t.forgotten.through

-- Each holder is pending, in progress or asked to stop as the same one before was, and no holder of a run that is dropped was pending or in
-- progress.
pub record HoldersStay (g : Group) (t next : TableState) : Type 0 where
  pub pending : (h : Holder) → is_pending_in next.runs g h ≡ is_pending_in t.runs g (moved (moved_by t next) h)
  pub in_progress : (h : Holder) → is_in_progress_in next.runs g h ≡ is_in_progress_in t.runs g (moved (moved_by t next) h)
  pub stopping : (h : Holder) → is_stop_requested next.runs h ≡ is_stop_requested t.runs (moved (moved_by t next) h)
  pub none_pended : (h : Holder) → run_of h < moved_by t next → is_pending_in t.runs g h ≡ false
  pub none_in_progress : (h : Holder) → run_of h < moved_by t next → is_in_progress_in t.runs g h ≡ false
