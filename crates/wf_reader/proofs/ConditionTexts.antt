-- The condition that is read from a text is the one that the text states.
use Rattle.std.specs.Prelude.{◌≡◌, ◌⊎◌, ◌↔◌, ℕ, ◌-◌, List, [], ◌∷◌, ◌++◌, length, take, drop, reverse, find, codes}
use Rattle.std.specs.Prelude.{Bool, true, false, if◌then◌else◌, Option, Some, None, option_map, option_and_then, unwrap_or, refl}
use Rattle.std.specs.List.{AllByRecursion}
use Rattle.std.specs.Str.{bytes_eq}
use Rattle.std.proofs.Common.{inl, inr, sym, ap, ◌∙◌, subst, arith}
use Rattle.std.proofs.Math.Seq.{drop-append_seam, take-append_seam}
use Rattle.std.proofs.lemmas.Bool.Decides.{nat_tests}
use Rattle.std.proofs.lemmas.Grind.{reverse_onto}
use Rattle.std.proofs.lemmas.List.{length-append, reverse-append, reverse-reverse, take-append-drop}
use Rattle.std.proofs.lemmas.Slice.Eq.{bytes_eq-Decides}
use Rattle.serde_json.specs.Data.{string}
use Rattle.wf_value.specs.declared.condition.Condition.{Condition}
use Rattle.wf_expr.specs.Grammar.{AreSpaces}
use Rattle.wf_reader.specs.Job.{before, suffix, condition_in, condition_of_word, condition_words, inside_braces}
use Rattle.wf_reader.specs.Job.{is_space, past_spaces, trimmed, up_to_spaces, word_in}
use Rattle.wf_reader.specs.ConditionTexts.{IsSpaced, IsBraced, EncodesCondition, in_braces}

-- ---- spaces

spaces_both : (s t : List ℕ) → AreSpaces s → AreSpaces t → AreSpaces (s ++ t)
spaces_both [] t first last = last
spaces_both (b ∷ s) t first last = (first.0, spaces_both s t first.1 last)

spaces_reversed : (s : List ℕ) → AreSpaces s → AreSpaces (reverse s)
spaces_reversed [] all = tt
spaces_reversed (b ∷ s) all =
    subst AreSpaces (sym (reverse_onto s b [])) (spaces_both (reverse s) (b ∷ []) (spaces_reversed s all.1) (all.0, tt))

-- leading spaces are skipped
past_prefix : (s x : List ℕ) → AreSpaces s → past_spaces (s ++ x) ≡ past_spaces x
past_prefix [] x all = refl
past_prefix (b ∷ s) x all = subst (λ c. past_spaces (c ∷ (s ++ x)) ≡ past_spaces x) (sym all.0) (past_prefix s x all.1)

-- only spaces are skipped
pub record Passed (text : List ℕ) : Type 0 where
  pub prefix : List ℕ
  pub spaces : AreSpaces prefix
  pub whole : text ≡ prefix ++ past_spaces text

passed_by : (b : ℕ) (bs : List ℕ) (t : Bool) → is_space b ≡ t → Passed bs → Passed (b ∷ bs)
passed_by b bs true is rest =
    let space : b ≡ 32 = grind (arith, nat_tests) in
    record { prefix = b ∷ rest.prefix; spaces = (space, rest.spaces); whole = rw is (ap (λ cs. b ∷ cs) rest.whole) }
passed_by b bs false is rest = record { prefix = []; spaces = tt; whole = rw is refl }

passed : (text : List ℕ) → Passed text
passed [] = record { prefix = []; spaces = tt; whole = refl }
passed (b ∷ bs) = passed_by b bs (is_space b) refl (passed bs)

-- ---- trimming

-- the text neither begins nor ends with a space
record IsTight (inner : List ℕ) : Type 0 where
  first : (rest : List ℕ) → past_spaces (inner ++ rest) ≡ inner ++ rest
  last : past_spaces (reverse inner) ≡ reverse inner

trimmed_spaced : (text inner : List ℕ) → IsSpaced text inner → IsTight inner → trimmed text ≡ inner
trimmed_spaced text inner spaced tight =
    let start : past_spaces text ≡ inner ++ spaced.end = ap past_spaces spaced.whole
    ∙ past_prefix spaced.prefix (inner ++ spaced.end) spaced.spaces_first ∙ tight.first spaced.end in
    let back : past_spaces (reverse (inner ++ spaced.end)) ≡ reverse inner = ap past_spaces (reverse-append inner spaced.end)
    ∙ past_prefix (reverse spaced.end) (reverse inner) (spaces_reversed spaced.end spaced.spaces_last) ∙ tight.last in
    ap up_to_spaces start ∙ ap reverse back ∙ reverse-reverse inner

spaced_trimmed : (text : List ℕ) → IsSpaced text (trimmed text)
spaced_trimmed text =
    let first = passed text in
    let last = passed (reverse (past_spaces text)) in
    let turned : past_spaces text ≡ trimmed text ++ reverse last.prefix = sym (reverse-reverse (past_spaces text)) ∙ ap reverse last.whole
    ∙ reverse-append last.prefix (past_spaces (reverse (past_spaces text))) in
    record {
      prefix = first.prefix;
      end = reverse last.prefix;
      spaces_first = first.spaces;
      spaces_last = spaces_reversed last.prefix last.spaces;
      whole = first.whole ∙ ap (λ rest. first.prefix ++ rest) turned;
    }

-- ---- braces

prefix_of : (prefix text rest : List ℕ) (t : Bool) → bytes_eq (take (length prefix) text) prefix ≡ t
    → (if t then Some (drop (length prefix) text) else None) ≡ Some rest → text ≡ prefix ++ rest
prefix_of prefix text rest true is found =
    let same : take (length prefix) text ≡ prefix = (bytes_eq-Decides (take (length prefix) text) prefix).0 is in
    let left : drop (length prefix) text ≡ rest = cc in
    sym (take-append-drop (length prefix) text) ∙ ap (λ f. f ++ drop (length prefix) text) same ∙ ap (λ r. prefix ++ r) left
prefix_of prefix text rest false is found = absurd cc

after_is : (prefix text rest : List ℕ) → suffix prefix text ≡ Some rest → text ≡ prefix ++ rest
after_is prefix text rest found = prefix_of prefix text rest (bytes_eq (take (length prefix) text) prefix) refl found

end_of : (end text rest : List ℕ) (most : ℕ) (t : Bool) → bytes_eq (drop most text) end ≡ t
    → (if t then Some (take most text) else None) ≡ Some rest → text ≡ rest ++ end
end_of end text rest most true is found =
    let same : drop most text ≡ end = (bytes_eq-Decides (drop most text) end).0 is in
    let left : take most text ≡ rest = cc in
    sym (take-append-drop most text) ∙ ap (λ f. f ++ drop most text) left ∙ ap (λ e. rest ++ e) same
end_of end text rest most false is found = absurd cc

before_is : (end text rest : List ℕ) → before end text ≡ Some rest → text ≡ rest ++ end
before_is end text rest found =
    end_of end text rest (length text - length end) (bytes_eq (drop (length text - length end) text) end) refl found

braced_by : (text inner : List ℕ) (o : Option (List ℕ)) → suffix (codes "${{") text ≡ o
    → option_and_then (before (codes "}}")) o ≡ Some inner → text ≡ in_braces inner
braced_by text inner None is found = absurd cc
braced_by text inner (Some rest) is found =
    after_is (codes "${{") text rest is ∙ ap (λ r. codes "${{" ++ r) (before_is (codes "}}") rest inner found)

-- text that is found inside braces is enclosed in them
braced : (text inner : List ℕ) → inside_braces text ≡ Some inner → text ≡ in_braces inner
braced text inner found = braced_by text inner (suffix (codes "${{") text) refl found

most_is : (inner : List ℕ) → length (inner ++ codes "}}") - 2 ≡ length inner
most_is inner = omega (arith, length-append inner (codes "}}"))

before_end : (inner : List ℕ) → before (codes "}}") (inner ++ codes "}}") ≡ Some inner
before_end inner =
    let text = inner ++ codes "}}" in
    ap (λ n. if bytes_eq (drop n text) (codes "}}") then Some (take n text) else None) (most_is inner)
    ∙ ap (λ e. if bytes_eq e (codes "}}") then Some (take (length inner) text) else None) (drop-append_seam inner (codes "}}"))
    ∙ ap Some (take-append_seam inner (codes "}}"))

-- text that is enclosed in braces is found inside them
inside_of : (inner : List ℕ) → inside_braces (in_braces inner) ≡ Some inner
inside_of inner = before_end inner

braces_are_tight : (inner : List ℕ) → IsTight (in_braces inner)
braces_are_tight inner = record {
  first = λ rest. refl;
  last = let turned : reverse (in_braces inner) ≡ codes "}}" ++ (reverse inner ++ codes "{{$") =
      reverse-append (codes "${{") (inner ++ codes "}}") ∙ ap (λ r. r ++ codes "{{$") (reverse-append inner (codes "}}")) in
      ap past_spaces turned ∙ sym turned;
}

-- ---- words

record IsWord (word : List ℕ) : Type 0 where
  tight : IsTight word
  bare : inside_braces word ≡ None

found_by : (word : List ℕ) (condition : Condition) (w : List ℕ × Condition) (rest : Option (List ℕ × Condition)) (t : Bool)
    → bytes_eq word w.0 ≡ t → IsWord w.0 → (option_map (λ v. v.1) rest ≡ Some condition → IsWord word)
    → option_map (λ v. v.1) (if t then Some w else rest) ≡ Some condition → IsWord word
found_by word condition w rest true is first later found = subst IsWord (sym ((bytes_eq-Decides word w.0).0 is)) first
found_by word condition w rest false is first later found = later found

listed_word : (word : List ℕ) (condition : Condition) (ws : List (List ℕ × Condition)) → AllByRecursion (λ w. IsWord w.0) ws
    → option_map (λ w. w.1) (find (λ w. bytes_eq word w.0) ws) ≡ Some condition → IsWord word
listed_word word condition [] all found = absurd cc
listed_word word condition (w ∷ ws) all found =
    found_by word condition w (find (λ v. bytes_eq word v.0) ws) (bytes_eq word w.0) refl all.0
    (λ more. listed_word word condition ws all.1 more) found

one_word : (word : List ℕ) → ((rest : List ℕ) → past_spaces (word ++ rest) ≡ word ++ rest) → past_spaces (reverse word) ≡ reverse word
    → inside_braces word ≡ None → IsWord word
one_word word first last bare = record { tight = record { first = first; last = last }; bare = bare }

are_words : AllByRecursion (λ w. IsWord w.0) condition_words
are_words = (
  one_word (codes "success()") (λ rest. refl) refl refl,
  (
    one_word (codes "true") (λ rest. refl) refl refl,
    (
      one_word (codes "failure()") (λ rest. refl) refl refl,
      (
        one_word (codes "always()") (λ rest. refl) refl refl,
        (
          one_word (codes "cancelled()") (λ rest. refl) refl refl,
          (
            one_word (codes "!cancelled()") (λ rest. refl) refl refl,
            (one_word (codes "false") (λ rest. refl) refl refl, tt),
          ),
        ),
      ),
    ),
  ),
)

is_word : (word : List ℕ) (condition : Condition) → condition_of_word word ≡ Some condition → IsWord word
is_word word condition says = listed_word word condition condition_words are_words says

-- ---- texts

bare_word : (text word : List ℕ) → IsWord word → IsSpaced text word → word_in text ≡ word
bare_word text word is spaced =
    ap (λ t. unwrap_or (option_map trimmed (inside_braces t)) t) (trimmed_spaced text word spaced is.tight)
    ∙ ap (λ o. unwrap_or (option_map trimmed o) word) is.bare

braced_word : (text word : List ℕ) → IsWord word → IsBraced text word → word_in text ≡ word
braced_word text word is braces =
    ap (λ t. unwrap_or (option_map trimmed (inside_braces t)) t)
    (trimmed_spaced text (in_braces braces.inner) braces.around_braces (braces_are_tight braces.inner))
    ∙ ap (λ o. unwrap_or (option_map trimmed o) (in_braces braces.inner)) (inside_of braces.inner)
    ∙ trimmed_spaced braces.inner word braces.around_word is.tight

word_of : (text word : List ℕ) → IsWord word → IsSpaced text word ⊎ IsBraced text word → word_in text ≡ word
word_of text word is (inl spaced) = bare_word text word is spaced
word_of text word is (inr braces) = braced_word text word is braces

read_by : (text : List ℕ) (o : Option (List ℕ)) → inside_braces (trimmed text) ≡ o
    → IsSpaced text (unwrap_or (option_map trimmed o) (trimmed text)) ⊎ IsBraced text (unwrap_or (option_map trimmed o) (trimmed text))
read_by text None is = inl (spaced_trimmed text)
read_by text (Some inner) is =
    inr (record {
      inner = inner;
      around_word = spaced_trimmed inner;
      around_braces = subst (IsSpaced text) (braced (trimmed text) inner is) (spaced_trimmed text);
    })

pub spelled : (text : List ℕ) (condition : Condition) → EncodesCondition text condition ↔ (condition_in (string text) ≡ Some condition)
spelled text condition = (
  λ spells. ap condition_of_word (word_of text spells.word (is_word spells.word condition spells.says) spells.bare_or_braced)
      ∙ spells.says,
  λ says. record { word = word_in text; says = says; bare_or_braced = read_by text (inside_braces (trimmed text)) refl },
)
