-- The values of the fields with one name, field by field.
use Rattle.std.proofs.Common.{◌≡◌, ℕ, ◌+◌, ◌<◌, true, false, List, [], ◌∷◌, ◌++◌, length, take, map, get_or, ap, ◌∙◌, append-nil}
use Rattle.std.specs.Prelude.{cond}
use Rattle.std.proofs.lemmas.List.{map-append, take_more}
use Rattle.std.proofs.lemmas.Grind.{flat_map-append}
use Rattle.httparse.specs.declared.spans.HeaderSpan.{HeaderSpan}
use Rattle.httparse.specs.Spans.{header_bytes}
use Rattle.http1.specs.Fields.{Header, is_named, values_named}

-- the values among the first n fields
abbrev pub values_before : List ℕ → List ℕ → List HeaderSpan → ℕ → List (List ℕ)
values_before name prefix spans n = values_named name (map (header_bytes prefix) (take n spans))

one_more : (name prefix : List ℕ) (spans : List HeaderSpan) (i : ℕ) (d : HeaderSpan) → i < length spans
    → values_before name prefix spans (i + 1)
    ≡ values_before name prefix spans i ++ cond (is_named name (header_bytes prefix (get_or spans i d))) ((header_bytes prefix (get_or spans i d)).1 ∷ []) []
one_more name prefix spans i d inside =
    let h = header_bytes prefix (get_or spans i d) in
    let value = λ (x : Header). cond (is_named name x) (x.1 ∷ []) [] in
    let before = map (header_bytes prefix) (take i spans) in
    ap (λ l. values_named name (map (header_bytes prefix) l)) (take_more spans i d inside)
    ∙ ap (values_named name) (map-append (header_bytes prefix) (take i spans) (get_or spans i d ∷ []))
    ∙ flat_map-append value before (h ∷ []) ∙ ap (λ l. values_named name before ++ l) (append-nil (value h))

pub named_more : (name prefix : List ℕ) (spans : List HeaderSpan) (i : ℕ) (d : HeaderSpan) → i < length spans
    → is_named name (header_bytes prefix (get_or spans i d)) ≡ true
    → values_before name prefix spans (i + 1) ≡ values_before name prefix spans i ++ (header_bytes prefix (get_or spans i d)).1 ∷ []
named_more name prefix spans i d inside so =
    let h = header_bytes prefix (get_or spans i d) in
    one_more name prefix spans i d inside ∙ ap (λ b. values_before name prefix spans i ++ cond b (h.1 ∷ []) []) so

pub named_other : (name prefix : List ℕ) (spans : List HeaderSpan) (i : ℕ) (d : HeaderSpan) → i < length spans
    → is_named name (header_bytes prefix (get_or spans i d)) ≡ false
    → values_before name prefix spans (i + 1) ≡ values_before name prefix spans i
named_other name prefix spans i d inside other =
    let h = header_bytes prefix (get_or spans i d) in
    one_more name prefix spans i d inside ∙ ap (λ b. values_before name prefix spans i ++ cond b (h.1 ∷ []) []) other
    ∙ append-nil (values_before name prefix spans i)
