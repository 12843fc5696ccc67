-- A target names a path exactly if it is encoded as that path is.
use Rattle.std.specs.Prelude.{◌≡◌, ℕ, ◌+◌, ◌-◌, ◌&&◌, Bool, true, false, List, [], ◌∷◌, ◌++◌, length, take, drop, cond, codes, nat_le, nat_lt, not, slice_index, ◌==◌, Option, Some, None, option_map, option_and_then, refl}
use Rattle.std.specs.List.{list_all, position, position_or_len}
use Rattle.std.specs.Option.{option_map_or}
use Rattle.std.specs.Char.{is_ascii_digit}
use Rattle.std.specs.Str.{bytes_eq}
use Rattle.std.proofs.Common.{sym, subst, ap, ap₂, ◌∙◌, inl, inr, take-append-drop, length-append, append_assoc, arith}
use Rattle.std.proofs.Math.Seq.{drop-append_seam, take-append_seam}
use Rattle.std.proofs.lemmas.Bool.{and_parts, both_ways, cases_Bool, eqb-true, le-ltb, lt-ltb}
use Rattle.std.proofs.lemmas.List.{append-nil}
use Rattle.std.proofs.lemmas.Slice.Eq.{bytes_eq-Decides}
use Rattle.definitions.specs.SmallText.{found_if, is_number, number_of, runner_name_of}
use Rattle.webhook_sessions.specs.declared.path.Path.{Path}
use Rattle.webhook_sessions.specs.declared.path.Path.TheVariants.{Events, Run, Body, Cancel, Attempt, Forget, Lost, Discharge}
use Rattle.webhook_sessions.specs.Paths.{IsTargetOf, after_prefix, at_slash, before_end, part_of_run, path_of, run_path, runner_path}

none_is_some : {X : Type 0} (x : X) → None ≡ Some x → ⊥
none_is_some x e = cc

same_some : {X : Type 0} (x y : X) → Some x ≡ Some y → x ≡ y
same_some x y e = cc

found : {X : Type 0} (test : Bool) (x y : X) → found_if test x ≡ Some y → (test ≡ true) × (x ≡ y)
found true x y e = (refl, same_some x y e)
found false x y e = absurd (none_is_some y e)

-- ---- a target that is parsed as a path is the encoding of that path

prefix_is : (prefix bytes rest : List ℕ) → after_prefix prefix bytes ≡ Some rest → bytes ≡ prefix ++ rest
prefix_is prefix bytes rest e =
    let n = length prefix in
    let both = found (bytes_eq (take n bytes) prefix) (drop n bytes) rest e in
    let same = (bytes_eq-Decides (take n bytes) prefix).0 both.0 in
    sym (take-append-drop n bytes) ∙ ap (λ l. l ++ drop n bytes) same ∙ ap (λ l. prefix ++ l) both.1

end_is : (end bytes rest : List ℕ) → before_end end bytes ≡ Some rest → bytes ≡ rest ++ end
end_is end bytes rest e =
    let n = length bytes - length end in
    let both = found (bytes_eq (drop n bytes) end) (take n bytes) rest e in
    let same = (bytes_eq-Decides (drop n bytes) end).0 both.0 in
    sym (take-append-drop n bytes) ∙ ap (λ l. take n bytes ++ l) same ∙ ap (λ l. l ++ end) both.1

mapped : {X : Type 0} (f : X → Path) (o : Option X) (p : Path) → option_map f o ≡ Some p → (x : X) × (o ≡ Some x) × (f x ≡ p)
mapped f None p e = absurd (none_is_some p e)
mapped f (Some x) p e = (x, refl, same_some (f x) p e)

-- the bytes before a slash and those from it on are all the bytes
parts_are : (bytes : List ℕ) (offset : Option ℕ) (parts : List ℕ × List ℕ)
    → option_map (λ n. (take n bytes, drop n bytes)) offset ≡ Some parts → bytes ≡ parts.0 ++ parts.1
parts_are bytes None parts e = absurd (none_is_some parts e)
parts_are bytes (Some n) parts e =
    subst (λ q. bytes ≡ q.0 ++ q.1) (same_some (take n bytes, drop n bytes) parts e) (sym (take-append-drop n bytes))

attempt_is : (text rest : List ℕ) (run : ℕ) (suffix : Option (List ℕ)) (p : Path) → number_of text ≡ Some run
    → after_prefix (codes "/attempts/") rest ≡ suffix
    → option_map (λ attempt. Attempt (record { run = run; attempt = attempt })) (option_and_then number_of suffix) ≡ Some p
    → IsTargetOf p (codes "/runs/" ++ text ++ rest)
attempt_is text rest run None p number b e = absurd (none_is_some p e)
attempt_is text rest run (Some digits) p number b e =
    let m = mapped (λ attempt. Attempt (record { run = run; attempt = attempt })) (number_of digits) p e in
    subst (λ q. IsTargetOf q (codes "/runs/" ++ text ++ rest)) m.2
    (text, digits, number, m.1, ap (λ l. codes "/runs/" ++ text ++ l) (prefix_is (codes "/attempts/") rest digits b))

part_is : (text rest : List ℕ) (run : ℕ) (body cancel forget : Bool) (p : Path) → number_of text ≡ Some run
    → bytes_eq rest (codes "/body") ≡ body → bytes_eq rest (codes "/cancel") ≡ cancel → bytes_eq rest (codes "/forget") ≡ forget
    → cond body (Some (Body run)) (cond cancel (Some (Cancel run)) (cond forget (Some (Forget run))
    (option_map (λ attempt. Attempt (record { run = run; attempt = attempt })) (option_and_then number_of (after_prefix (codes "/attempts/") rest)))))
    ≡ Some p
    → IsTargetOf p (codes "/runs/" ++ text ++ rest)
part_is text rest run true cancel forget p number b c f e =
    subst (λ q. IsTargetOf q (codes "/runs/" ++ text ++ rest)) (same_some (Body run) p e)
    (text, number, ap (λ l. codes "/runs/" ++ text ++ l) ((bytes_eq-Decides rest (codes "/body")).0 b))
part_is text rest run false true forget p number b c f e =
    subst (λ q. IsTargetOf q (codes "/runs/" ++ text ++ rest)) (same_some (Cancel run) p e)
    (text, number, ap (λ l. codes "/runs/" ++ text ++ l) ((bytes_eq-Decides rest (codes "/cancel")).0 c))
part_is text rest run false false true p number b c f e =
    subst (λ q. IsTargetOf q (codes "/runs/" ++ text ++ rest)) (same_some (Forget run) p e)
    (text, number, ap (λ l. codes "/runs/" ++ text ++ l) ((bytes_eq-Decides rest (codes "/forget")).0 f))
part_is text rest run false false false p number b c f e = attempt_is text rest run _ p number refl e

numbered : (text rest : List ℕ) (number : Option ℕ) (p : Path) → number_of text ≡ number
    → option_and_then (λ run. part_of_run run rest) number ≡ Some p → IsTargetOf p (codes "/runs/" ++ text ++ rest)
numbered text rest None p is e = absurd (none_is_some p e)
numbered text rest (Some run) p is e = part_is text rest run _ _ _ p is refl refl refl e

run_is : (rest : List ℕ) (parts : Option (List ℕ × List ℕ)) (p : Path) → at_slash rest ≡ parts
    → option_map_or (λ q. option_and_then (λ run. part_of_run run q.1) (number_of q.0)) parts (option_map Run (number_of rest)) ≡ Some p
    → IsTargetOf p (codes "/runs/" ++ rest)
run_is rest (Some parts) p slash e =
    subst (λ l. IsTargetOf p (codes "/runs/" ++ l)) (sym (parts_are rest _ parts slash)) (numbered parts.0 parts.1 _ p refl e)
run_is rest None p none e =
    let m = mapped Run (number_of rest) p e in
    subst (λ q. IsTargetOf q (codes "/runs/" ++ rest)) m.2 (rest, m.1, refl)

discharge_is : (rest : List ℕ) (left : Option (List ℕ)) (p : Path) → before_end (codes "/forget") rest ≡ left
    → option_map_or (λ name. option_map Discharge (runner_name_of name)) left None ≡ Some p → IsTargetOf p (codes "/runners/" ++ rest)
discharge_is rest None p none e = absurd (none_is_some p e)
discharge_is rest (Some name) p left e =
    let m = mapped Discharge (runner_name_of name) p e in
    subst (λ q. IsTargetOf q (codes "/runners/" ++ rest)) m.2 (name, m.1, ap (λ l. codes "/runners/" ++ l) (end_is (codes "/forget") rest name left))

runner_is : (rest : List ℕ) (lost : Option (List ℕ)) (p : Path) → before_end (codes "/lost") rest ≡ lost
    → option_map_or (λ name. option_map Lost (runner_name_of name)) lost
    (option_map_or (λ name. option_map Discharge (runner_name_of name)) (before_end (codes "/forget") rest) None) ≡ Some p
    → IsTargetOf p (codes "/runners/" ++ rest)
runner_is rest None p none e = discharge_is rest _ p refl e
runner_is rest (Some name) p lost e =
    let m = mapped Lost (runner_name_of name) p e in
    subst (λ q. IsTargetOf q (codes "/runners/" ++ rest)) m.2 (name, m.1, ap (λ l. codes "/runners/" ++ l) (end_is (codes "/lost") rest name lost))

path_is : (target : List ℕ) (events : Bool) (run runner : Option (List ℕ)) (p : Path)
    → bytes_eq target (codes "/events") ≡ events → after_prefix (codes "/runs/") target ≡ run → after_prefix (codes "/runners/") target ≡ runner
    → cond events (Some Events) (option_map_or run_path run (option_map_or runner_path runner None)) ≡ Some p → IsTargetOf p target
path_is target true run runner p same r n e =
    subst (λ q. IsTargetOf q target) (same_some Events p e) ((bytes_eq-Decides target (codes "/events")).0 same)
path_is target false (Some rest) runner p other r n e =
    subst (IsTargetOf p) (sym (prefix_is (codes "/runs/") target rest r)) (run_is rest _ p refl e)
path_is target false None (Some rest) p other r n e =
    subst (IsTargetOf p) (sym (prefix_is (codes "/runners/") target rest n)) (runner_is rest _ p refl e)
path_is target false None None p other r n e = absurd (none_is_some p e)

pub target_of_path : (target : List ℕ) (p : Path) → path_of target ≡ Some p → IsTargetOf p target
target_of_path target p e = path_is target _ _ _ p refl refl refl e

-- ---- the encoding of a path is parsed as that path

digits_of : (text : List ℕ) (n : ℕ) → number_of text ≡ Some n → list_all is_ascii_digit text ≡ true
digits_of text n e =
    let test = (found (is_number text) _ n e).0 in
    let outer = and_parts (nat_le 1 (length text) && nat_le (length text) 9 && list_all is_ascii_digit text) (not (slice_index text 0 == 48)) test in
    (and_parts (nat_le 1 (length text) && nat_le (length text) 9) (list_all is_ascii_digit text) outer.0).1

-- a digit is not a slash, so the first slash follows the digits
no_slash_is_a_digit : (b : ℕ) → is_ascii_digit b ≡ true → (b == 47) ≡ false
no_slash_is_a_digit b digit =
    elim (cases_Bool (b == 47)) [
      | inl same ↦ absurd (both_ways _ refl (ap is_ascii_digit (sym (eqb-true b 47 same)) ∙ digit))
      | inr other ↦ other
    ]

abbrev first_slash : List ℕ → ℕ
first_slash = position_or_len (λ b. b == 47)

slash_after : (text rest : List ℕ) → list_all is_ascii_digit text ≡ true → first_slash (text ++ rest) ≡ length text + first_slash rest
slash_after [] rest digits = omega arith
slash_after (b ∷ text) rest digits =
    let parts = and_parts (is_ascii_digit b) (list_all is_ascii_digit text) digits in
    let suffix = slash_after text rest parts.1 in
    ap (λ c. cond (not c) (1 + first_slash (text ++ rest)) 0) (no_slash_is_a_digit b parts.0) ∙ omega (arith, suffix)

position_by : (bytes : List ℕ) (n : ℕ) (within : Bool) → first_slash bytes ≡ n → nat_lt n (length bytes) ≡ within
    → position (λ b. b == 47) bytes ≡ cond within (Some n) None
position_by bytes n within e w = ap (λ k. cond (nat_lt k (length bytes)) (Some k) None) e ∙ ap (λ c. cond c (Some n) None) w

no_slash : (text : List ℕ) → list_all is_ascii_digit text ≡ true → at_slash text ≡ None
no_slash text digits =
    let suffix = slash_after text [] digits in
    let n = length text in
    let offset : first_slash text ≡ n = ap first_slash (sym (append-nil text)) ∙ suffix ∙ omega arith in
    ap (option_map (λ k. (take k text, drop k text))) (position_by text n false offset (le-ltb n n (omega arith)))

slash_of : (text rest : List ℕ) → list_all is_ascii_digit text ≡ true → at_slash (text ++ 47 ∷ rest) ≡ Some (text, 47 ∷ rest)
slash_of text rest digits =
    let all = text ++ 47 ∷ rest in
    let n = length text in
    let offset : first_slash all ≡ n = slash_after text (47 ∷ rest) digits ∙ omega arith in
    let long = length-append text (47 ∷ rest) in
    ap (option_map (λ k. (take k all, drop k all))) (position_by all n true offset (lt-ltb n (length all) (omega arith)))
    ∙ ap₂ (λ a b. Some (a, b)) (take-append_seam text (47 ∷ rest)) (drop-append_seam text (47 ∷ rest))

end_of : (end text : List ℕ) → bytes_eq end end ≡ true → before_end end (text ++ end) ≡ Some text
end_of end text same =
    let long = length-append text end in
    let offset : length (text ++ end) - length end ≡ length text = omega arith in
    ap (λ n. found_if (bytes_eq (drop n (text ++ end)) end) (take n (text ++ end))) offset
    ∙ ap₂ (λ d t. found_if (bytes_eq d end) t) (drop-append_seam text end) (take-append_seam text end) ∙ ap (λ b. found_if b text) same

-- bytes with another end of the same length
other_end : (end text other : List ℕ) → length other ≡ length end → bytes_eq other end ≡ false → before_end end (text ++ other) ≡ None
other_end end text other as_long differs =
    let long = length-append text other in
    let offset : length (text ++ other) - length end ≡ length text = omega (arith, as_long) in
    ap (λ n. found_if (bytes_eq (drop n (text ++ other)) end) (take n (text ++ other))) offset
    ∙ ap (λ d. found_if (bytes_eq d end) (take (length text) (text ++ other))) (drop-append_seam text other)
    ∙ ap (λ b. found_if b (take (length text) (text ++ other))) differs

-- what the bytes after `/runners/` name if they do not end with `/lost`
abbrev discharged : List ℕ → Option Path
discharged rest = option_map_or (λ name. option_map Discharge (runner_name_of name)) (before_end (codes "/forget") rest) None

run_alone : (text : List ℕ) (n : ℕ) → number_of text ≡ Some n → run_path text ≡ Some (Run n)
run_alone text n number =
    ap (λ s. option_map_or (λ q. option_and_then (λ run. part_of_run run q.1) (number_of q.0)) s (option_map Run (number_of text)))
    (no_slash text (digits_of text n number)) ∙ ap (option_map Run) number

part_by : (text rest : List ℕ) (n : ℕ) → number_of text ≡ Some n → run_path (text ++ 47 ∷ rest) ≡ part_of_run n (47 ∷ rest)
part_by text rest n number =
    ap (λ s. option_map_or (λ q. option_and_then (λ run. part_of_run run q.1) (number_of q.0)) s (option_map Run (number_of (text ++ 47 ∷ rest))))
    (slash_of text rest (digits_of text n number)) ∙ ap (option_and_then (λ run. part_of_run run (47 ∷ rest))) number

spelled : (p : Path) (target : List ℕ) → IsTargetOf p target → path_of target ≡ Some p
spelled Events target e = ap path_of e
spelled (Run n) target (text, number, e) = ap path_of e ∙ run_alone text n number
spelled (Body n) target (text, number, e) = ap path_of e ∙ part_by text (codes "body") n number
spelled (Cancel n) target (text, number, e) = ap path_of e ∙ part_by text (codes "cancel") n number
spelled (Forget n) target (text, number, e) = ap path_of e ∙ part_by text (codes "forget") n number
spelled (Attempt a) target (run, attempt, number, second, e) =
    ap path_of e ∙ part_by run (codes "attempts/" ++ attempt) a.run number
    ∙ ap (option_map (λ n. Attempt (record { run = a.run; attempt = n }))) second
spelled (Lost runner) target (name, known, e) =
    ap path_of e ∙ ap (λ o. option_map_or (λ n. option_map Lost (runner_name_of n)) o (discharged (name ++ codes "/lost")))
    (end_of (codes "/lost") name refl) ∙ ap (option_map Lost) known
spelled (Discharge runner) target (name, known, e) =
    ap path_of e
    ∙ ap (λ o. option_map_or (λ n. option_map Lost (runner_name_of n)) o (discharged (name ++ codes "/forget")))
    (ap (before_end (codes "/lost")) (sym (append_assoc name (codes "/f") (codes "orget"))) ∙ other_end (codes "/lost") (name ++ codes "/f") (codes "orget") refl refl)
    ∙ ap (λ o. option_map_or (λ n. option_map Discharge (runner_name_of n)) o None) (end_of (codes "/forget") name refl) ∙ ap (option_map Discharge) known

pub path_of_target : (target : List ℕ) (p : Path) → IsTargetOf p target → path_of target ≡ Some p
path_of_target target p is = spelled p target is
