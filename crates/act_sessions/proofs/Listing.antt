-- Turns with one more at the end.
use Rattle.std.proofs.Common.{◌≡◌, ℕ, ◌+◌, Bool, true, false, ◌||◌, List, [], ◌∷◌, ◌++◌, length, Err, refl, sym, ap, subst, ◌∙◌, inl, inr, append-nil, append_assoc, length-append, arith}
use Rattle.std.specs.Prelude.{min}
use Rattle.wf_value.specs.Gives.{no_memory}
use Rattle.run_plan.specs.declared.command.Command.{Command}
use Rattle.act_sessions.specs.Rules.{Rules, Turn, Answered, Refused, request_of, exchanges_at, exchanges_of, is_last, IsEnded, IsOpen, IsSteady, Reads, turn_text, texts}
use Rattle.act_sessions.specs.Exchange.{ends_session, AreAsked, Response, Exchange}

pub Reads_snoc : {F : Type 0} (p : Rules F) (bytes : List ℕ) (ts : List (Turn F)) (middle rest : List ℕ) (t : Turn F) → Reads p bytes ts middle
    → p.reads middle (request_of t) rest → Reads p bytes (ts ++ t ∷ []) rest
Reads_snoc p bytes [] middle rest t r h = (rest, subst (λ b. p.reads b (request_of t) rest) (sym r) h, refl)
Reads_snoc p bytes (u ∷ ts) middle rest t r h = (r.0, r.1, Reads_snoc p r.0 ts middle rest t r.2 h)

pub Reads_grows : {F : Type 0} (p : Rules F) → IsSteady p → (bytes : List ℕ) (ts : List (Turn F)) (rest more : List ℕ) → Reads p bytes ts rest
    → Reads p (bytes ++ more) ts (rest ++ more)
Reads_grows p steady bytes [] rest more r = ap (λ b. b ++ more) r
Reads_grows p steady bytes (u ∷ ts) rest more r = (r.0 ++ more, steady bytes more r.0 (request_of u) r.1, Reads_grows p steady r.0 ts rest more r.2)

pub IsOpen_snoc : {F : Type 0} (p : Rules F) (n k : ℕ) (ts : List (Turn F)) (t : Turn F) → IsOpen p n ts → n + length ts ≡ k → is_last p k t ≡ false
    → IsOpen p n (ts ++ t ∷ [])
IsOpen_snoc p n k [] t o e h = let same : k ≡ n = omega arith in (subst (λ m. is_last p m t ≡ false) same h, tt)
IsOpen_snoc p n k (u ∷ ts) t o e h = (o.0, IsOpen_snoc p (n + 1) k ts t o.1 (omega arith) h)

pub IsEnded_snoc : {F : Type 0} (p : Rules F) (n k : ℕ) (ts : List (Turn F)) (t : Turn F) → IsOpen p n ts → n + length ts ≡ k → is_last p k t ≡ true
    → IsEnded p n (ts ++ t ∷ [])
IsEnded_snoc p n k [] t o e h = let same : k ≡ n = omega arith in subst (λ m. is_last p m t ≡ true) same h
IsEnded_snoc p n k (u ∷ []) t o e h = let same : k ≡ n + 1 = omega arith in (o.0, subst (λ m. is_last p m t ≡ true) same h)
IsEnded_snoc p n k (u ∷ v ∷ ts) t o e h = (o.0, IsEnded_snoc p (n + 1) k (v ∷ ts) t o.1 (omega arith) h)

pub texts_snoc : {F : Type 0} (p : Rules F) (n k : ℕ) (ts : List (Turn F)) (t : Turn F) → n + length ts ≡ k
    → texts p n (ts ++ t ∷ []) ≡ texts p n ts ++ turn_text p (is_last p k t) t
texts_snoc p n k [] t e = let same : n ≡ k = omega arith in append-nil _ ∙ ap (λ m. turn_text p (is_last p m t) t) same
texts_snoc p n k (u ∷ ts) t e =
    ap (λ l. turn_text p (is_last p n u) u ++ l) (texts_snoc p (n + 1) k ts t (omega arith))
    ∙ sym (append_assoc (turn_text p (is_last p n u) u) (texts p (n + 1) ts) _)

pub exchanges_snoc : {F : Type 0} (ts : List (Turn F)) (t : Turn F) → exchanges_of (ts ++ t ∷ []) ≡ exchanges_of ts ++ exchanges_at t
exchanges_snoc [] t = append-nil _
exchanges_snoc (u ∷ ts) t = ap (λ l. exchanges_at u ++ l) (exchanges_snoc ts t) ∙ sym (append_assoc (exchanges_at u) (exchanges_of ts) (exchanges_at t))

-- ---- lists of submitted commands

elim_true : true ≡ false → ⊥
elim_true e = cc

head_response : List Exchange → Response
head_response [] = Err no_memory
head_response (x ∷ xs) = x.1

-- a command missing from the list was answered out of memory
missing : (x : Exchange) (prefix : List Exchange) (c : Command) → x ∷ [] ≡ prefix ++ (c, Err no_memory) ∷ [] → x.1 ≡ Err no_memory
unfolding head_response
missing x [] c e = ap head_response e
missing x (y ∷ prefix) c e = absurd (omega (arith, ap length e, length-append prefix ((c, Err no_memory) ∷ [])))

none_missing : (prefix : List Exchange) (c : Command) → [] ≡ prefix ++ (c, Err no_memory) ∷ [] → ⊥
none_missing prefix c e = omega (arith, ap length e, length-append prefix ((c, Err no_memory) ∷ []))

wrong : (a b d : Bool) → b ≡ true → ((a || b) || d) ≡ false → ⊥
wrong true b d h e = elim_true e
wrong false true d h e = elim_true e
wrong false false d h e = elim_true (sym h)

-- The command of a turn that is not the last is listed, since an out-of-memory answer ends a session.
pub all_listed : {F : Type 0} (p : Rules F) (n : ℕ) (t : Turn F) (old new : List Exchange) → is_last p n t ≡ false → AreAsked old new (exchanges_at t)
    → new ≡ old ++ exchanges_at t
all_listed p n t old new open_still (inl e) = e
all_listed p n (Refused f closes) old new open_still (inr h) = absurd (none_missing h.0 h.1 h.2)
all_listed p n (Answered c closes a) old new open_still (inr h) =
    let m : a ≡ Err no_memory = missing (c, a) h.0 h.1 h.2 in
    absurd (wrong closes (ends_session a) _ (ap ends_session m) open_still)

pub AreAsked_after : (old mid new exchanges more : List Exchange) → mid ≡ old ++ exchanges → AreAsked mid new more → AreAsked old new (exchanges ++ more)
AreAsked_after old mid new exchanges more e (inl h) = inl (h ∙ ap (λ l. l ++ more) e ∙ append_assoc old exchanges more)
AreAsked_after old mid new exchanges more e (inr h) =
    inr (exchanges ++ h.0, h.1, ap (λ l. exchanges ++ l) h.2 ∙ sym (append_assoc exchanges h.0 _), h.3 ∙ ap (λ l. l ++ h.0) e ∙ append_assoc old exchanges h.0)

pub min_twice : (x y m : ℕ) → min (min x m + y) m ≡ min (x + y) m
min_twice x y m = omega arith
