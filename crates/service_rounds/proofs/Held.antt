-- The rounds of a service, one after another.
use Rattle.std.proofs.Common.{◌≡◌, ◌∙◌, ◌||◌, ◌+◌, ◌++◌, ◌∷◌, [], ℕ, List, Bool, true, false, Option, ◌-◌, ap, arith, length, length-append, refl, subst, sym}
use Rattle.std.specs.Prelude.{IfOk, Result, Ok, Err}
use Rattle.std.specs.Io.KnownBytes.{Appends}
use Rattle.std.specs.declared.net.tcp.TcpListener.{TcpListener}
use Rattle.std.proofs.lemmas.List.Elements.{All-append, All-cons, All-head, All-nil}
use Rattle.table_model.specs.TableState.{TableState}
use Rattle.act_store.specs.Entries.{table_after}
use Rattle.act_store.specs.declared.entry.Entry.{Entry}
use Rattle.service_rounds.specs.Rounds.{AreGood, HasServed, RoundsEnded, IsRound, table_after_all}
use Rattle.service_startup.specs.Reports.{line_of_history, ready_line, service_lines}
use Rattle.service_rounds.proofs.Lines.{first_line, next_line}

-- the table after one more history
table_after_more : (given : TableState) (histories : List (List Entry)) (history : List Entry)
    → table_after_all given (histories ++ history ∷ []) ≡ table_after (table_after_all given histories) history
table_after_more given [] history = refl
table_after_more given (other ∷ histories) history = table_after_more (table_after given other) histories history

module _ (hooks runners : TcpListener) (sessions : ℕ) where
  one_good : (broken : Bool) (history : List Entry) → IsRound hooks runners sessions broken history → broken ≡ false
      → AreGood hooks runners sessions (history ∷ [])
  one_good broken history round is =
      let IsGood : List Entry → Type 0 = IsRound hooks runners sessions false in
      All-cons IsGood history [] (subst (λ b. IsRound hooks runners sessions b history) is round) (All-nil IsGood)

  all_good : (was now : Bool) (histories : List (List Entry)) (history : List Entry) → (was ≡ false → AreGood hooks runners sessions histories)
      → IsRound hooks runners sessions now history → (was || now) ≡ false → AreGood hooks runners sessions (histories ++ history ∷ [])
  all_good true now histories history so_far round is = absurd (cc is)
  all_good false now histories history so_far round is =
      All-append (IsRound hooks runners sessions false) histories (history ∷ []) (so_far refl) (one_good now history round is)

  pub first_round : (old mid new : Option (List ℕ)) (broken : Bool) (given base : TableState) (history : List Entry) → base ≡ given
      → Appends old mid ready_line → Appends mid new (line_of_history history) → IsRound hooks runners sessions broken history
      → RoundsEnded hooks runners sessions 1 broken old new given base history
  first_round old mid new broken given base history begins ready settled round = record {
    before = [];
    count = refl;
    begins = begins;
    announced = first_line old mid new history ready settled;
    good = one_good broken history round;
  }

  pub next_round : (rounds : ℕ) (was now : Bool) (old mid new : Option (List ℕ)) (given first base : TableState) (last history : List Entry)
      → RoundsEnded hooks runners sessions rounds was old mid given first last → base ≡ table_after first last
      → Appends mid new (line_of_history history) → IsRound hooks runners sessions now history
      → RoundsEnded hooks runners sessions (rounds + 1) (was || now) old new given base history
  next_round rounds was now old mid new given first base last history so_far begins settled round =
      let histories : List (List Entry) = so_far.before ++ last ∷ [] in
      record {
        before = histories;
        count = ap (λ n. n + 1) (length-append so_far.before (last ∷ []) ∙ so_far.count);
        begins = begins ∙ (ap (λ t. table_after t last) so_far.begins ∙ sym (table_after_more given so_far.before last));
        announced = next_line old mid new histories history so_far.announced settled;
        good = all_good was now histories history so_far.good round;
      }

  pub all_served : (rounds count : ℕ) (broken : Bool) (old new : Option (List ℕ)) (given base : TableState) (history : List Entry)
      → RoundsEnded hooks runners sessions count broken old new given base history → count ≡ rounds - 1 + 1 → broken ≡ false
      → HasServed hooks runners sessions rounds old new given base history
  all_served rounds count broken old new given base history turned all is = record {
    before = turned.before;
    count = omega (arith, turned.count, all);
    begins = turned.begins;
    announced = turned.announced;
    good = turned.good is;
  }

  -- what a service returns on success
  pub ends_served : {S E : Type 0} (base_of : S → TableState) (history_of : S → List Entry) (last : S) (r : Result S E) (rounds count : ℕ)
      (broken : Bool) (old new : Option (List ℕ)) (given : TableState) → IfOk r (λ store. (broken ≡ false) × (store ≡ last))
      → count ≡ rounds - 1 + 1 → RoundsEnded hooks runners sessions count broken old new given (base_of last) (history_of last)
      → IfOk r (λ store. HasServed hooks runners sessions rounds old new given (base_of store) (history_of store))
  ends_served base_of history_of last (Ok store) rounds count broken old new given ends all turned =
      subst (λ s. HasServed hooks runners sessions rounds old new given (base_of s) (history_of s)) (sym ends.1)
      (all_served rounds count broken old new given (base_of last) (history_of last) turned all ends.0)
  ends_served base_of history_of last (Err e) rounds count broken old new given ends all turned = tt

  pub served_once : (old new : Option (List ℕ)) (given base : TableState) (history : List Entry)
      → HasServed hooks runners sessions 1 old new given base history
      → IsRound hooks runners sessions false history × Appends old new (service_lines (history ∷ []))
  served_once old new given base history served = alone served.before served.count served.announced served.good
    where
      alone : (before : List (List Entry)) → length before ≡ 0 → Appends old new (service_lines (before ++ history ∷ []))
          → AreGood hooks runners sessions (before ++ history ∷ [])
          → IsRound hooks runners sessions false history × Appends old new (service_lines (history ∷ []))
      alone [] count announced good = (All-head (IsRound hooks runners sessions false) history [] good, announced)
      alone (other ∷ before) count announced good = absurd (omega (arith, count))
