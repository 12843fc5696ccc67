-- What playing a script writes, line by line.
use Rattle.std.proofs.Common.{◌≡◌, ◌≢◌, ◌∙◌, ◌⊎◌, inl, inr, ℕ, List, [], ◌∷◌, ◌++◌, length, take, drop, true}
use Rattle.std.proofs.Common.{cond, filter, Result, Ok, Err, IfErr, ◌≤◌, refl, sym, ap, subst, append_assoc, append-nil}
use Rattle.std.proofs.Common.{take-append-drop}
use Rattle.std.specs.Prelude.{IsErrAnd}
use Rattle.std.specs.List.{All}
use Rattle.std.specs.Str.Lines.{lines}
use Rattle.std.proofs.lemmas.List.Elements.{All-head, All-tail}
use Rattle.definitions.specs.Limits.{max_input}
use Rattle.wf_value.specs.Gives.{no_memory}
use Rattle.wf_value.specs.declared.refusal.Refusal.{Refusal}
use Rattle.act_disk.specs.Failed.{stream_failed}
use Rattle.program_commands.specs.Answers.{has_bytes, script_lines, answer_of, after_line, answers_from, printed}
use Rattle.program_commands.specs.Input.{RefusesInput}
use Rattle.program_commands.specs.PlainStore.{PlainStore}
use Rattle.program_commands.specs.Play.{IsAnswer, Answers, PlaysFrom, Plays, memory_refused, device_refused, Ends}

-- ---- all lines

-- a line with this answer was failed by neither memory nor the disk
abbrev pub IsUnfailed : List ℕ → Type 0
IsUnfailed a = (a ≢ memory_refused) × (a ≢ device_refused)

-- if they failed no line, the answers are those defined
as_defined : (s : PlainStore) (faults end : ℕ) (ls answers : List (List ℕ)) → Answers s faults ls answers end → All IsUnfailed answers
    → answers ≡ answers_from s ls
as_defined s faults end [] [] h n = refl
as_defined s faults end [] (a ∷ others) h n = absurd h
as_defined s faults end (line ∷ ls) [] h n = absurd h
as_defined s faults end (line ∷ ls) (a ∷ others) (after, more, is, rest) n =
    let here : IsUnfailed a = All-head IsUnfailed a others n in
    elim is [
      | inl d ↦ (ap (λ x. x ∷ others) d.0
          ∙ ap (λ xs. answer_of s line ∷ xs)
          (as_defined after more end ls others rest (All-tail IsUnfailed a others n) ∙ ap (λ (k : PlainStore). answers_from k ls) d.1))
      | inr failed ↦ elim failed [ inl m ↦ absurd (here.0 m.1) | inr b ↦ absurd (here.1 b.1) ]
    ]

defined : (s : PlainStore) (faults : ℕ) (ls : List (List ℕ)) → Answers s faults ls (answers_from s ls) faults
defined s faults [] = refl
defined s faults (line ∷ ls) = (after_line s line, faults, inl (refl, refl, refl), defined (after_line s line) faults ls)

plays : (first : PlainStore) (before : ℕ) (script : List ℕ) (answers : List (List ℕ)) (end : ℕ)
    → Answers first before (script_lines script) answers end → PlaysFrom first before script (printed answers) end
plays first before script answers end h =
    (answers, h, refl, λ n. ap printed (as_defined first before end (script_lines script) answers h n))

-- What has been written so far extends to a whole play, whatever the answers of the remaining lines.
abbrev pub Leads : PlainStore → ℕ → List ℕ → PlainStore → ℕ → List ℕ → List ℕ → Type 0
Leads first before script s faults rest out =
    (more : List (List ℕ)) (end : ℕ) → Answers s faults (script_lines rest) more end
    → (all : List (List ℕ)) × Answers first before (script_lines script) all end × (printed all ≡ out ++ printed more)

with_line : (ls : List (List ℕ)) (line : List ℕ) (rest : List (List ℕ)) → ls ≡ line ∷ rest → has_bytes line ≡ true
    → filter has_bytes ls ≡ line ∷ filter has_bytes rest
with_line ls line rest e h = ap (filter has_bytes) e ∙ ap (λ b. cond b (line ∷ filter has_bytes rest) (filter has_bytes rest)) h

pub leads_past_line : (first : PlainStore) (before : ℕ) (script : List ℕ) (t then : PlainStore) (faults more : ℕ) (rest out line after a : List ℕ)
    → Leads first before script t faults rest out → lines rest ≡ line ∷ lines after → has_bytes line ≡ true
    → IsAnswer t faults line a then more → Leads first before script then more after (out ++ (a ++ 10 ∷ []))
leads_past_line first before script t then faults more rest out line after a so_far e h is others end k =
    let all = so_far (a ∷ others) end
    (subst (λ ls. Answers t faults ls (a ∷ others) end) (sym (with_line (lines rest) line (lines after) e h)) (then, more, is, k)) in
    (all.0, all.1, all.2 ∙ sym (append_assoc out (a ++ 10 ∷ []) (printed others)))

pub leads_to_end : (first : PlainStore) (before : ℕ) (script : List ℕ) (t : PlainStore) (faults : ℕ) (rest out : List ℕ)
    → Leads first before script t faults rest out → lines rest ≡ [] → PlaysFrom first before script out faults
leads_to_end first before script t faults rest out so_far e =
    let all = so_far [] faults (subst (λ ls. Answers t faults (filter has_bytes ls) [] faults) (sym e) refl) in
    subst (λ o. PlaysFrom first before script o faults) (all.2 ∙ append-nil out) (plays first before script all.0 faults all.1)

-- what is written is a prefix of a play
pub leads_on : (first : PlainStore) (before : ℕ) (script : List ℕ) (t : PlainStore) (faults : ℕ) (rest out : List ℕ)
    → Leads first before script t faults rest out → (more : List ℕ) × PlaysFrom first before script (out ++ more) faults
leads_on first before script t faults rest out so_far =
    let others = answers_from t (script_lines rest) in
    let all = so_far others faults (defined t faults (script_lines rest)) in
    (printed others, subst (λ o. PlaysFrom first before script o faults) all.2 (plays first before script all.0 faults all.1))

-- and so it is with a prefix of the next answer
pub leads_on_within : (first : PlainStore) (before : ℕ) (script : List ℕ) (t : PlainStore) (faults : ℕ) (rest out a : List ℕ) (n : ℕ)
    → Leads first before script t faults rest (out ++ a) → (more : List ℕ) × PlaysFrom first before script ((out ++ take n a) ++ more) faults
leads_on_within first before script t faults rest out a n so_far =
    let on = leads_on first before script t faults rest (out ++ a) so_far in
    let joined : (out ++ a) ++ on.0 ≡ (out ++ take n a) ++ (drop n a ++ on.0) =
    ap (λ x. (out ++ x) ++ on.0) (sym (take-append-drop n a)) ∙ ap (λ x. x ++ on.0) (sym (append_assoc out (take n a) (drop n a)))
    ∙ append_assoc (out ++ take n a) (drop n a) on.0 in
    (drop n a ++ on.0, subst (λ o. PlaysFrom first before script o faults) joined on.1)

-- ---- the end

pub ends_within : (U : Type 0) (faults : ℕ) (script out more : List ℕ) (end : ℕ) (e : Refusal) → length script ≤ max_input
    → Plays faults script (out ++ more) end → (e ≡ stream_failed) ⊎ (e ≡ no_memory) → Ends {U = U} faults script out end (Err e)
ends_within U faults script out more end e fits h why = inr (inr (why, inr (fits, more, h)))

pub ends_after : {U : Type 0} (faults : ℕ) (script out : List ℕ) (end : ℕ) (r : Result U Refusal) → length script ≤ max_input
    → Plays faults script out end → IfErr r (λ e. e ≡ stream_failed) → Ends faults script out end r
ends_after faults script out end (Ok u) fits h why = (fits, h)
ends_after faults script out end (Err e) fits h why =
    inr (inr (inl why, inr (fits, [], subst (λ o. Plays faults script o end) (sym (append-nil out)) h)))

-- the script was not read
pub unread_ends : {U : Type 0} (faults : ℕ) (script : List ℕ) (r : Result U Refusal) (e : Refusal) → IsErrAnd r (λ f. f ≡ e)
    → RefusesInput e script → Ends faults script [] faults r
unread_ends faults script (Ok u) e is why = absurd is
unread_ends faults script (Err f) e is (inl long) = inl (is ∙ long.0, long.1, (refl, refl))
unread_ends faults script (Err f) e is (inr why) =
    inr (inr (subst (λ x. (x ≡ stream_failed) ⊎ (x ≡ no_memory)) (sym is) why, inl (refl, refl)))
