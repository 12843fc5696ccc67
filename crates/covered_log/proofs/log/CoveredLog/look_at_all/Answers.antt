use Rattle.std.proofs.Common.{◌≡◌, ◌∙◌, ◌<◌, ◌≤◌, ◌+◌, ℕ, List, ◌∷◌, ◌++◌, length, drop, map, take, ap, sym, arith, length-append}
use Rattle.std.proofs.Math.Seq.{take-length}
use Rattle.std.specs.List.{flat_map}
use Rattle.std.specs.Prelude.{Option, slice_get}
use Rattle.table_model.specs.Runs.{RunState, placed}
use Rattle.table_views.proofs.Placing.{one_more, one_value_more}
use Rattle.covered_log.specs.Lines.{Change, with_all}
use Rattle.covered_log.specs.Standings.{Standing, news_of, told_of}
use Rattle.covered_log.proofs.Telling.{all_of_both, next_there, read_next, visited}
use Rattle.covered_log.proofs.log.CoveredLog.look_at_all.Goals as goal

pub look_at-requires : goal.look_at-requires
look_at-requires c =
    let runs = c.as_slice-runs.result.now in
    let r = c.loop-r.r in
    let known = c.args.standings.now in
    let within : r ≤ length runs = omega (arith, c.loop-r-test.true) in
    let f : ℕ × RunState → Standing =
    λ x. told_of c.args.look.now.names.now c.args.look.now.table.now (slice_get known x.0) x.0 x.1 in
    let p : List Standing = map f (placed (take r runs)) in
    let long : length p ≡ r = visited f runs r within in
    let mid : length c.loop-r.standings ≡ length (p ++ drop r known) = ap (λ (xs : List Standing). length xs) c.loop-r.invariant.told in
    omega (arith, mid, long, length-append p (drop r known))

pub loop-r-preserved : goal.loop-r-preserved
loop-r-preserved c =
    let runs = c.as_slice-runs.result.now in
    let r = c.loop-r.r in
    let run = c.index-runs-r.result in
    let known = c.args.standings.now in
    let mid = c.loop-r.standings in
    let lt : r < length runs = omega (arith, c.loop-r-test.true) in
    let within : r ≤ length runs = omega (arith, lt) in
    let tell : Option Standing → List Change =
    λ told. news_of c.args.look.now.at c.args.look.now.cancelled.now c.args.look.now.names.now c.args.look.now.table.now told r run in
    let stand : Option Standing → Standing =
    λ told. told_of c.args.look.now.names.now c.args.look.now.table.now told r run in
    let g : ℕ × RunState → List Change =
    λ x. news_of c.args.look.now.at c.args.look.now.cancelled.now c.args.look.now.names.now c.args.look.now.table.now (slice_get known x.0) x.0 x.1 in
    let f : ℕ × RunState → Standing =
    λ x. told_of c.args.look.now.names.now c.args.look.now.table.now (slice_get known x.0) x.0 x.1 in
    let p : List Standing = map f (placed (take r runs)) in
    let long : length p ≡ r = visited f runs r within in
    let read : slice_get mid r ≡ slice_get known r =
    ap (λ (xs : List Standing). slice_get xs r) c.loop-r.invariant.told ∙ read_next p known r long in
    record {
      news = c.in_ok-look_at.ensures.news ∙ ap (λ (o : Option Standing). with_all c.loop-r.self.changes (tell o)) read
          ∙ ap (λ (cs : List Change). with_all cs (g (r, run))) c.loop-r.invariant.news
          ∙ all_of_both c.args.self.now.changes (flat_map g (placed (take r runs))) (g (r, run))
          ∙ ap (with_all c.args.self.now.changes) (sym (one_more g r runs run lt (sym c.index-runs-r.is)));
      told = c.in_ok-look_at.ensures.told ∙ ap (λ (o : Option Standing). take r mid ++ stand o ∷ drop (r + 1) mid) read
          ∙ ap (λ (xs : List Standing). take r xs ++ f (r, run) ∷ drop (r + 1) xs) c.loop-r.invariant.told
          ∙ next_there p known r (f (r, run)) long
          ∙ ap (λ (zs : List Standing). zs ++ drop (r + 1) known) (sym (one_value_more f r runs run lt (sym c.index-runs-r.is)));
      entries = c.in_ok-look_at.ensures.entries ∙ c.loop-r.invariant.entries;
    }

pub returns-clause-told : goal.returns-clause-told
returns-clause-told c =
    let runs = c.as_slice-runs.result.now in
    let r = c.loop-r.r in
    let known = c.args.standings.now in
    let f : ℕ × RunState → Standing =
    λ x. told_of c.args.look.now.names.now c.args.look.now.table.now (slice_get known x.0) x.0 x.1 in
    let past : length runs ≤ r = omega (arith, c.loop-r-test.false) in
    let all : r ≡ length runs = omega (arith, past, c.loop-r.auto.r-end) in
    c.loop-r.invariant.told
    ∙ ap (λ (n : ℕ). map f (placed (take n runs)) ++ drop n known) all
    ∙ ap (λ (xs : List RunState). map f (placed xs) ++ drop (length runs) known) (take-length runs)
    ∙ ap (λ (xs : List RunState). map f (placed xs) ++ drop (length xs) known) (c.as_slice-runs.ensures.runs ∙ c.kept_runs.ensures.runs)
