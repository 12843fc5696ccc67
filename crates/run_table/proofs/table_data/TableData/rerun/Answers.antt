use Rattle.std.proofs.Common.{ap, refl, sym}
use Rattle.table_model.specs.Runs.{again, with_run}
use Rattle.table_model.specs.TableState.{TableState}
use Rattle.run_table.proofs.BeforeSettling.{begins_within, begun_arrives, begun_settles, has_begun, may_begin, may_begin_again, sound_as_they_are}
use Rattle.run_table.proofs.table_data.TableData.rerun.Goals as goal
use Rattle.wf_value.proofs.PassedOn.{same_Ok}

pub rerun-requires : goal.rerun-requires
rerun-requires c =
    let runs_are = ap (λ (t : TableState). t.runs) c.self.view_is in
    record {
      within = begins_within c.args.self.now c.args.requested.now c.self.inside.runs c.index_of-index.result (sym c.in_default.ensures) runs_are
          c.index_of-index.ensures;
      attempt = may_begin c.args.self.now c.args.requested.now c.self.inside.runs c.index_of-index.result (sym c.in_default.ensures) runs_are
          c.index_of-index.ensures;
      ended = may_begin_again c.args.self.now c.args.requested.now c.self.inside.runs c.index_of-index.result (sym c.in_default.ensures) runs_are
          c.index_of-index.ensures;
      sound = sound_as_they_are c.args.self.now c.self.inside.runs c.requires runs_are;
      begun =
          (begun_arrives (has_begun c.args.self.now c.args.requested.now c.self.inside.runs
          (with_run c.index_of-index.result again c.self.inside.runs) c.index_of-index.result c.requires (sym c.in_default.ensures) runs_are refl
          c.index_of-index.ensures)).sound;
    }

-- the run has begun again at its index, and has arrived
pub settle-requires : goal.settle-requires
settle-requires c =
    let begun = with_run c.index_of-index.result again c.self.inside.runs in
    let has = has_begun c.args.self.now c.args.requested.now c.self.inside.runs begun c.index_of-index.result c.requires
    (sym c.in_default.ensures) (ap (λ (t : TableState). t.runs) c.self.view_is) refl c.index_of-index.ensures in
    (begun_settles has c.rerun.new.self (sym (same_Ok _ _ c.in_ok-rerun.ensures.again))).sound
