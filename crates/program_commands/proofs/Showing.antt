-- What a call that shows a table has written, run by run.
use Rattle.std.proofs.Common.{◌≡◌, ◌⊎◌, ◌∙◌, inl, inr, ℕ, ◌+◌, ◌<◌, ◌≤◌, List, [], ◌∷◌, ◌++◌, drop, get_or, length, Option, Some, None}
use Rattle.std.proofs.Common.{Result, Ok, Err, IfErr, refl, sym, ap, subst, append-nil}
use Rattle.std.specs.Io.KnownBytes.{Appends, Keeps}
use Rattle.std.specs.Prelude.{IsErrAnd, ok_or, option_map}
use Rattle.std.proofs.KnownBytes.{Appends-nil}
use Rattle.std.proofs.lemmas.List.{drop_all, drop_more}
use Rattle.wf_value.specs.Gives.{no_memory}
use Rattle.wf_value.specs.declared.code.Code.TheVariants.{NoRun}
use Rattle.wf_value.specs.declared.refusal.Refusal.{Refusal}
use Rattle.wf_value.specs.declared.refusal.Refusal.TheVariants.{Numbered}
use Rattle.table_model.specs.Step.{seen}
use Rattle.table_model.specs.TableState.{TableState}
use Rattle.table_model.specs.Runs.{RunState}
use Rattle.table_model.specs.ViewText.{Seen, seen_of}
use Rattle.act_store.specs.Entries.{table_after}
use Rattle.act_store.specs.Images.{HasNoArea, RecoversTo}
use Rattle.act_store.specs.StoreState.{StoreState, table_of}
use Rattle.act_store.specs.declared.entry.Entry.{Entry}
use Rattle.table_views.specs.RunLines.{run_line}
use Rattle.table_views.specs.declared.form.Form.{Form}
use Rattle.act_disk.specs.Failed.{device_failed, stream_failed}
use Rattle.act_store.specs.FaultCauses.{TellsFault}
use Rattle.program_commands.specs.Show.{Shows, WritesWhat, lines_of, shown}
use Rattle.program_commands.specs.declared.shown.Shown.{Shown}
use Rattle.program_commands.specs.declared.shown.Shown.TheVariants as what
use Rattle.program_commands.proofs.Writing.{flushed, written_faults}

-- the lines of the runs from an index on
abbrev pub lines_after : Form → List RunState → ℕ → List ℕ
lines_after form runs index = lines_of form (drop index runs)

-- the line of a run comes before those of the later ones
pub after_run : (form : Form) (runs : List RunState) (out : List ℕ) (index : ℕ) (run : RunState) → index < length runs
    → run ≡ get_or runs index run → out ++ lines_after form runs index ≡ lines_of form runs
    → out ++ (run_line form (seen_of run) ++ lines_after form runs (index + 1)) ≡ lines_of form runs
after_run form runs out index run within is h =
    let next : drop index runs ≡ run ∷ drop (index + 1) runs =
    drop_more runs index run within ∙ ap (λ (x : RunState). x ∷ drop (index + 1) runs) (sym is) in
    ap (λ (rs : List RunState). out ++ lines_of form rs) (sym next) ∙ h

-- ---- the end

pub past_last : (form : Form) (runs : List RunState) (out : List ℕ) (index : ℕ) → length runs ≤ index
    → out ++ lines_after form runs index ≡ lines_of form runs → out ≡ lines_of form runs
past_last form runs out index past h =
    sym (append-nil out) ∙ ap (λ (rs : List RunState). out ++ lines_of form rs) (sym (drop_all index runs past)) ∙ h

-- the table of a store that was just opened is its base
pub opened_table : {D : Type 0} (s : StoreState D) → s.history ≡ [] → s.base ≡ table_of s
opened_table s begun = ap (λ (h : List Entry). table_after s.base h) (sym begun)

-- if an image recovers to a table, an area is open
pub recovers_somewhere : (t : TableState) (image : List ℕ) → RecoversTo t image → HasNoArea image → ⊥
recovers_somewhere t image recovers none =
    let clash : None ≡ Some recovers.side = sym (none recovers.len recovers.long recovers.size) ∙ recovers.encodes.recovers in cc

-- ---- what is written of the lines

given : (x y : List ℕ) → x ≡ y → ◌≡◌ {A = Result (List ℕ) Refusal} (Ok x) (Ok y)
given x y is = ap Ok is

refused : (e f : Refusal) → e ≡ f → ◌≡◌ {A = Result (List ℕ) Refusal} (Err e) (Err f)
refused e f is = ap Err is

same_Err : (e f : Refusal) → ◌≡◌ {A = Result (List ℕ) Refusal} (Err e) (Err f) → e ≡ f
same_Err e f is = cc

-- how a call ended
abbrev pub with_error : {V : Type 0} → Refusal → Result V Refusal
with_error e = Err e

abbrev pub well : {V : Type 0} → V → Result V Refusal
well v = Ok v

-- a call that was refused returns that error
pub passed_what : {U : Type 0} (V : Type 0) (old new : Option (List ℕ)) (lines : Result (List ℕ) Refusal) (r : Result U Refusal) (e : Refusal)
    → IsErrAnd r (λ f. f ≡ e) → WritesWhat old new lines (with_error {V = V} e) → WritesWhat old new lines r
passed_what V old new (Ok all) (Ok u) e is writes = absurd is
passed_what V old new (Ok all) (Err f) e is writes =
    (subst (λ x. (x ≡ stream_failed) ⊎ (x ≡ no_memory)) (sym is) writes.0, writes.1)
passed_what V old new (Err why) (Ok u) e is writes = absurd is
passed_what V old new (Err why) (Err f) e is writes = (writes.0, is ∙ writes.1)

-- what is fully written is flushed
pub flushed_what : {U V : Type 0} (old mid new : Option (List ℕ)) (lines : Result (List ℕ) Refusal) (u : V) (r : Result U Refusal)
    → WritesWhat old mid lines (well u) → Keeps mid new → IfErr r (λ e. e ≡ stream_failed) → WritesWhat old new lines r
flushed_what old mid new (Ok all) u r writes kept why = flushed old mid new all r writes kept why
flushed_what old mid new (Err e) u r writes kept why = absurd writes.1

-- what was written of a table, all or a prefix
pub shows_told : {U : Type 0} (lines : TableState → Result (List ℕ) Refusal) (image : List ℕ) (t : TableState) (old new : Option (List ℕ))
    (r : Result U Refusal) → RecoversTo t image → WritesWhat old new (lines t) r → (out : List ℕ) × Appends old new out × Shows lines image out r
shows_told {U} lines image t old new r recovers writes = by (lines t) r refl writes
  where
    by : (defined : Result (List ℕ) Refusal) (ended : Result U Refusal) → lines t ≡ defined → WritesWhat old new defined ended
        → (out : List ℕ) × Appends old new out × Shows lines image out ended
    by (Ok all) (Ok u) is all_written = (all, all_written, (t, recovers, is))
    by (Ok all) (Err e) is part =
        (part.1.0, part.1.2, inr (inr (part.0, (t, recovers, part.1.1, is ∙ given _ _ (sym part.1.3)))))
    by (Err why) (Ok u) is none = absurd none.1
    by (Err why) (Err e) is none = ([], none.0, inr (inl (refl, (t, recovers, is ∙ refused _ _ (sym none.1)))))

-- a missing run is no failure of the device
not_there : (o : Option (List ℕ)) (e : Refusal) → ok_or o (Numbered NoRun) ≡ Err e → e ≡ device_failed → ⊥
not_there None e is device = let clash : Numbered NoRun ≡ device_failed = same_Err _ _ is ∙ device in cc
not_there (Some text) e is device = cc

no_device : (form : Form) (requested : Shown) (t : TableState) (e : Refusal) → shown form requested t ≡ Err e → e ≡ device_failed → ⊥
no_device form what.Runs t e is device = cc
no_device form (what.Run id) t e is device = not_there (option_map (run_line form) (seen t id)) e is device
no_device form what.Runners t e is device = cc
no_device form what.Queue t e is device = cc

-- a missing run, with nothing written
pub missing : {U : Type 0} (old : Option (List ℕ)) (found : Option Seen) (form : Form) (r : Result U Refusal) → None ≡ found
    → IsErrAnd r (λ f. f ≡ Numbered NoRun) → WritesWhat old old (ok_or (option_map (run_line form) found) (Numbered NoRun)) r
missing old None form r is refused_so = (Appends-nil old, refused_so)
missing old (Some run) form r is refused_so = absurd cc

pub shown_faults : {U : Type 0} (form : Form) (requested : Shown) (t : TableState) (old new : Option (List ℕ)) (r : Result U Refusal)
    (before after : ℕ) → WritesWhat old new (shown form requested t) r → after ≡ before → TellsFault r before after
shown_faults {U} form requested t old new r before after writes same = by (shown form requested t) r refl writes
  where
    by : (defined : Result (List ℕ) Refusal) (ended : Result U Refusal) → shown form requested t ≡ defined → WritesWhat old new defined ended
        → TellsFault ended before after
    by (Ok lines) ended is all = written_faults old new lines ended before after all same
    by (Err why) (Ok u) is none = absurd none.1
    by (Err why) (Err e) is none =
        inr (no_device form requested t e (is ∙ refused _ _ (sym none.1)), same)
