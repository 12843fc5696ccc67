-- What a session owes once some of it was sent.
use Rattle.std.proofs.Common.{◌≡◌, ◌∙◌, ℕ, ◌+◌, ◌-◌, ◌≤◌, List, ◌++◌, Option, length, take, drop, sym, ap, subst, arith, length-append}
use Rattle.std.specs.Prelude.{replicate}
use Rattle.std.specs.Io.KnownBytes.{Appends}
use Rattle.std.proofs.KnownBytes.{Appends-trans}
use Rattle.std.proofs.Math.Seq.{take-add}
use Rattle.std.proofs.lemmas.List.{drop_all, drop-drop, drop-replicate, length-drop, length-replicate, take-replicate}
use Rattle.view_sessions.specs.Sessions.{Sends, SessionState}

-- all bytes were sent, and some of the zeros
pub after_zeros : (out : List ℕ) (sent zeros n : ℕ) → length out ≤ sent
    → drop sent out ++ replicate (zeros - n) 0 ≡ drop n (drop sent out ++ replicate zeros 0)
after_zeros out sent zeros n all =
    ap (λ (l : List ℕ). l ++ replicate (zeros - n) 0) (drop_all sent out all) ∙ sym (drop-replicate n zeros 0)
    ∙ sym (ap (λ (l : List ℕ). drop n (l ++ replicate zeros 0)) (drop_all sent out all))

-- some were sent, and then some more
pub sent_both : (a b c : Option (List ℕ)) (s t u : SessionState) (n m : ℕ) → Sends n a b s t → Sends m b c t u → Sends (n + m) a c s u
sent_both a b c s t u n m (few, first, is) (more, second, was) =
    let owed = ap (λ (x : SessionState). x.owed) is in
    let left : m ≤ length (drop n s.owed) = subst (λ (l : List ℕ). m ≤ length l) owed more in (
      omega (arith, length-drop n s.owed, left, few),
      subst (Appends a c) (sym (take-add n m s.owed))
          (Appends-trans a b c (take n s.owed) (take m (drop n s.owed)) first (subst (λ (l : List ℕ). Appends b c (take m l)) owed second)),
      was ∙ ap (λ (x : SessionState). record x { owed = drop m x.owed }) is ∙ ap (λ (l : List ℕ). record s { owed = l }) (drop-drop m n s.owed),
    )

-- zeros were sent, once all bytes were
pub zeros_fit : (out : List ℕ) (sent zeros n : ℕ) → n ≤ zeros → n ≤ length (drop sent out ++ replicate zeros 0)
zeros_fit out sent zeros n few =
    let rest : List ℕ = replicate zeros 0 in
    omega (arith, few, length-append (drop sent out) rest, length-replicate {A = ℕ} zeros 0)

pub zeros_owed : (out : List ℕ) (sent zeros n : ℕ) → length out ≤ sent → n ≤ zeros → take n (drop sent out ++ replicate zeros 0) ≡ replicate n 0
zeros_owed out sent zeros n all few =
    ap (λ (l : List ℕ). take n (l ++ replicate zeros 0)) (drop_all sent out all) ∙ take-replicate n zeros 0 few
