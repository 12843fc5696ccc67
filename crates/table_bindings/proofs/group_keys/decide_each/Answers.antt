use Rattle.std.proofs.Common.{◌≡◌, ◌<◌, ◌≤◌, ◌++◌, ◌+◌, suc, List, map, take, drop, slice_set, length, get_or, arith, ap, ap₂, refl, subst, ◌∙◌}
use Rattle.std.proofs.lemmas.List.{append-nil, drop_all, take_all}
use Rattle.std.proofs.lemmas.Option.{slice_get_read}
use Rattle.table_bindings.specs.GroupKeys.{IsLater, decided}
use Rattle.table_bindings.specs.declared.group_keys.HolderKey.{HolderKey}
use Rattle.table_bindings.proofs.DecidedKeys.{next_as_before, one_more_from}
use Rattle.table_bindings.proofs.group_keys.decide_each.Goals as goal

pub decide_one-requires : goal.decide_one-requires
decide_one-requires g c =
    let requests = c.args.requests.now in
    let old = c.args.keys.now in
    let l = c.loop-l.l in
    let key = c.index-keys-l.result in
    let within : l < length requests = omega (arith, c.requires.as_many) in
    let f = decided (g.R.NeedResults.result_of c.args.results.now) in
    let is : key ≡ get_or old l key =
    c.index-keys-l.is ∙ ap (λ (keys : List HolderKey). get_or keys l key) c.loop-l.invariant
    ∙ next_as_before f requests old l key c.requires.as_many within in
    subst (λ (k : HolderKey). IsLater c.index-requests-l.result k) c.index-keys-l.is
    (c.requires.each l c.index-requests-l.result key
    (slice_get_read requests (length requests) l c.index-requests-l.result refl within c.index-requests-l.is)
    (slice_get_read old (length old) l key refl (omega (arith, within, c.requires.as_many)) is))

pub loop-l-preserved : goal.loop-l-preserved
loop-l-preserved g c =
    let requests = c.args.requests.now in
    let old = c.args.keys.now in
    let l = c.loop-l.l in
    let request = c.index-requests-l.result in
    let f = decided (g.R.NeedResults.result_of c.args.results.now) in
    let within : l < length requests = omega (arith, c.requires.as_many) in
    let next : suc l ≡ l + 1 = omega arith in
    ap₂ (λ (keys : List HolderKey) (key : HolderKey). slice_set keys l key) c.loop-l.invariant (c.decide_one.ensures ∙ ap f c.index-requests-l.is)
    ∙ one_more_from f requests old l request c.requires.as_many within
    ∙ ap (λ n. map f (take n requests) ++ drop n old) next

pub returns : goal.returns
returns g c =
    let requests = c.args.requests.now in
    let old = c.args.keys.now in
    let l = c.loop-l.l in
    let f = decided (g.R.NeedResults.result_of c.args.results.now) in
    let past : length old ≤ l = omega arith in
    c.loop-l.invariant
    ∙ ap₂ (λ rs (ks : List HolderKey). map f rs ++ ks) (take_all l requests (omega (arith, past, c.requires.as_many))) (drop_all l old past)
    ∙ append-nil (map f requests)
