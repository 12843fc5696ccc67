-- Answers that leave it unknown whether their command was entered. In a part only the last answer may do so.
use Rattle.std.proofs.Common.{◌≡◌, ℕ, ◌+◌, ◌==◌, ◌||◌, Bool, true, false, List, [], ◌∷◌, ◌++◌, Ok, Err, refl, sym, ap, subst, ◌∙◌, inl, inr, append-nil}
use Rattle.std.specs.Prelude.{⊤}
use Rattle.std.specs.List.{list_any}
use Rattle.wf_value.specs.RefusalText.{refusal_number}
use Rattle.act_sessions.specs.declared.transcript.Ending.{Ending}
use Rattle.act_sessions.specs.declared.transcript.Ending.TheVariants.{Done, Memory, Broken}
use Rattle.act_sessions.specs.Exchange.{ends_session, OnlyLastOpen, Response, Exchange, leaves_open}
use Rattle.act_sessions.specs.Rules.{Rules, Turn, Answered, Refused, exchanges_at, exchanges_of, is_last, IsOpen, IsEnded}
use Rattle.act_sessions.specs.Session.{ArePassed, EndsSo}
use Rattle.act_sessions.proofs.Joining.{exchanges_append}

-- Each answer settles whether its command was entered.
abbrev NoneOpen : List Exchange → Type 0
NoneOpen [] = ⊤
NoneOpen (t ∷ exchanges) = (leaves_open t.1 ≡ false) × NoneOpen exchanges

left_false : (a b : Bool) → (a || b) ≡ false → a ≡ false
left_false false b h = refl
left_false true b h = h

right_false : (a b : Bool) → (a || b) ≡ false → b ≡ false
right_false false b h = h
right_false true b h = absurd cc

-- an answer that does not end its session settles whether its command was entered
shut_by_going_on : (r : Response) → ends_session r ≡ false → leaves_open r ≡ false
shut_by_going_on (Ok reply) h = refl
shut_by_going_on (Err e) h =
    let n = refusal_number e in
    right_false (57 == n) (list_any (λ k. k == n) (50 ∷ 51 ∷ 52 ∷ 60 ∷ []))
    (right_false (48 == n) (list_any (λ k. k == n) (57 ∷ 50 ∷ 51 ∷ 52 ∷ 60 ∷ []))
    (right_false (47 == n) (list_any (λ k. k == n) (48 ∷ 57 ∷ 50 ∷ 51 ∷ 52 ∷ 60 ∷ []))
    (right_false (46 == n) (list_any (λ k. k == n) (47 ∷ 48 ∷ 57 ∷ 50 ∷ 51 ∷ 52 ∷ 60 ∷ [])) h)))

shut_before : {F : Type 0} (p : Rules F) (n : ℕ) (c : _) (closes : Bool) (a : Response) → is_last p n (Answered c closes a) ≡ false → leaves_open a ≡ false
shut_before p n c closes a h =
    shut_by_going_on a (right_false closes (ends_session a) (left_false (closes || ends_session a) (n + 1 == p.most) h))

only_cons : (t : Exchange) (exchanges : List Exchange) → leaves_open t.1 ≡ false → OnlyLastOpen exchanges → OnlyLastOpen (t ∷ exchanges)
only_cons t [] h only = tt
only_cons t (u ∷ exchanges) h only = (h, only)

only_after : (prefix exchanges : List Exchange) → NoneOpen prefix → OnlyLastOpen exchanges → OnlyLastOpen (prefix ++ exchanges)
only_after [] exchanges none only = only
only_after (t ∷ prefix) exchanges none only = only_cons t (prefix ++ exchanges) none.0 (only_after prefix exchanges none.1 only)

none_of : {F : Type 0} (p : Rules F) (n : ℕ) (ts : List (Turn F)) → IsOpen p n ts → NoneOpen (exchanges_of ts)
none_of p n [] h = tt
none_of p n (Answered c closes a ∷ ts) h = (shut_before p n c closes a h.0, none_of p (n + 1) ts h.1)
none_of p n (Refused f closes ∷ ts) h = none_of p (n + 1) ts h.1

only_at : {F : Type 0} (t : Turn F) → OnlyLastOpen (exchanges_at t)
only_at (Answered c closes a) = tt
only_at (Refused f closes) = tt

only_passed : {F : Type 0} (p : Rules F) (n : ℕ) (turns passed : List (Turn F)) → ArePassed p n turns passed → OnlyLastOpen (exchanges_of turns)
only_passed p n turns passed (unended, inl e) =
    subst (λ ts. OnlyLastOpen (exchanges_of ts)) (sym e)
    (subst OnlyLastOpen (append-nil (exchanges_of passed)) (only_after (exchanges_of passed) [] (none_of p n passed unended) tt))
only_passed p n turns passed (unended, inr (t, e)) =
    subst OnlyLastOpen (sym (ap exchanges_of e ∙ exchanges_append passed (t ∷ []) ∙ ap (λ l. exchanges_of passed ++ l) (append-nil (exchanges_at t))))
    (only_after (exchanges_of passed) (exchanges_at t) (none_of p n passed unended) (only_at t))

only_ended : {F : Type 0} (p : Rules F) (n : ℕ) (ts : List (Turn F)) → IsEnded p n ts → OnlyLastOpen (exchanges_of ts)
only_ended p n [] h = absurd h
only_ended p n (Answered c closes a ∷ []) h = tt
only_ended p n (Refused f closes ∷ []) h = tt
only_ended p n (Answered c closes a ∷ u ∷ ts) h = only_cons (c, a) (exchanges_of (u ∷ ts)) (shut_before p n c closes a h.0) (only_ended p (n + 1) (u ∷ ts) h.1)
only_ended p n (Refused f closes ∷ u ∷ ts) h = only_ended p (n + 1) (u ∷ ts) h.1

-- the commands that a part submitted
pub only_open : {F : Type 0} (p : Rules F) (n : ℕ) (turns : List (Turn F)) → IsOpen p n turns → OnlyLastOpen (exchanges_of turns)
only_open p n turns h = only_passed p n turns turns (h, inl refl)

pub only_over : {F : Type 0} (p : Rules F) (n : ℕ) (how : Ending) (turns : List (Turn F)) (rest out : List ℕ) → EndsSo p n how turns rest out → OnlyLastOpen (exchanges_of turns)
only_over p n Done turns rest out (inl (ended, same)) = only_ended p n turns ended
only_over p n Done turns rest out (inr (passed, are, text, out_of_memory_response, wrote)) = only_passed p n turns passed are
only_over p n Memory turns rest out (none, passed, are, same) = only_passed p n turns passed are
only_over p n Broken turns rest out (inl (unended, waits, same)) = only_open p n turns unended
only_over p n Broken turns rest out (inr (passed, are, text, next, k, wrote)) = only_passed p n turns passed are
