-- Facts about booleans, each by cases.
use Rattle.std.proofs.Common.{◌≡◌, Bool, true, false, ◌&&◌, ◌||◌, not, refl, ap}
use Rattle.std.proofs.lemmas.Bool.{and_right}

pub or_false : (b : Bool) → (b || false) ≡ b
or_false true = refl
or_false false = refl

pub or_second : (a b : Bool) → a ≡ false → (a || b) ≡ true → b ≡ true
or_second true b isnt is = absurd (cc)
or_second false b isnt is = is

pub not_both : (b : Bool) → b ≡ true → b ≡ false → ⊥
not_both true is isnt = cc
not_both false is isnt = cc

-- ---- whether a holder is in progress or pending, from whether it has arrived, started and ended, after each change

pub in_progress_after_arrival : (a s e : Bool) → ((s || false) && not (e || (a && (not s && not e)))) ≡ (s && not e)
in_progress_after_arrival a true true = refl
in_progress_after_arrival a true false = ap not (and_right a false refl)
in_progress_after_arrival a false e = refl

pub pending_after_withdrawal : (a s e : Bool) → ((a || false) && (not (s || false) && not (e || (a && (not s && not e))))) ≡ false
pending_after_withdrawal true true true = refl
pending_after_withdrawal true true false = refl
pending_after_withdrawal true false true = refl
pending_after_withdrawal true false false = refl
pending_after_withdrawal false true true = refl
pending_after_withdrawal false true false = refl
pending_after_withdrawal false false true = refl
pending_after_withdrawal false false false = refl

pub pending_after_arrival : (a s e q : Bool) → (q && a) ≡ false → (q && s) ≡ false → (q && e) ≡ false
    → ((a || q) && (not (s || false) && not (e || (a && (not s && not e))))) ≡ q
pending_after_arrival a s e false p0 p1 p2 = pending_after_withdrawal a s e
pending_after_arrival true s e true p0 p1 p2 = absurd (cc)
pending_after_arrival false true e true p0 p1 p2 = absurd (cc)
pending_after_arrival false false true true p0 p1 p2 = absurd (cc)
pending_after_arrival false false false true p0 p1 p2 = refl

pub in_progress_after_start : (a s e : Bool) → (s && not e) ≡ false
    → ((s || (a && (not s && not e))) && not (e || false)) ≡ (a && (not s && not e))
in_progress_after_start true true true p0 = refl
in_progress_after_start true true false p0 = absurd (cc)
in_progress_after_start true false true p0 = refl
in_progress_after_start true false false p0 = refl
in_progress_after_start false true true p0 = refl
in_progress_after_start false true false p0 = absurd (cc)
in_progress_after_start false false true p0 = refl
in_progress_after_start false false false p0 = refl

pub pending_after_start : (a s e : Bool) → ((a || false) && (not (s || (a && (not s && not e))) && not (e || false))) ≡ false
pending_after_start true true true = refl
pending_after_start true true false = refl
pending_after_start true false true = refl
pending_after_start true false false = refl
pending_after_start false true true = refl
pending_after_start false true false = refl
pending_after_start false false true = refl
pending_after_start false false false = refl

pub in_progress_after_stop : (s e : Bool) → ((s || false) && not (e || false)) ≡ (s && not e)
in_progress_after_stop s e = simp or_false

pub pending_after_stop : (a s e : Bool) → ((a || false) && (not (s || false) && not (e || false))) ≡ (a && (not s && not e))
pending_after_stop a s e = simp or_false

pub in_progress_after_end : (s e : Bool) → ((s || false) && not (e || (s && not e))) ≡ false
in_progress_after_end true true = refl
in_progress_after_end true false = refl
in_progress_after_end false true = refl
in_progress_after_end false false = refl

pub pending_after_end : (a s e : Bool) → ((a || false) && (not (s || false) && not (e || (s && not e)))) ≡ (a && (not s && not e))
pending_after_end true true true = refl
pending_after_end true true false = refl
pending_after_end true false true = refl
pending_after_end true false false = refl
pending_after_end false true true = refl
pending_after_end false true false = refl
pending_after_end false false true = refl
pending_after_end false false false = refl
