-- Sessions with the same bytes and the same answers are equal.
use Rattle.std.proofs.Common.{◌≡◌, ℕ, ◌+◌, Bool, true, false, List, [], ◌∷◌, ◌++◌, refl, sym, ap, subst, ◌∙◌, inl, inr, append-nil}
use Rattle.run_plan.specs.declared.command.Command.{Command}
use Rattle.act_sessions.specs.declared.request.Demand.{Demand}
use Rattle.act_sessions.specs.declared.request.Demand.TheVariants as demand
use Rattle.act_sessions.specs.declared.request.Request.{Request}
use Rattle.act_sessions.specs.Rules.{Rules, Turn, Answered, Refused, request_of, exchanges_at, is_last, Reads, IsOpen, IsEnded, HasCome, AnsweredBy, IsApart, IsOne}
use Rattle.act_sessions.specs.Exchange.{Response, Exchange}

abbrev turn_by : {F : Type 0} → (Command → Response) → Bool → Demand F → Turn F
turn_by f closes (demand.Command c) = Answered c closes (f c)
turn_by f closes (demand.Fault e) = Refused e closes

abbrev turn_at : {F : Type 0} → (Command → Response) → Request F → Turn F
turn_at f r = turn_by f r.closes r.demand

answered_head : {F : Type 0} (f : List Exchange → Command → Response) (exchanges : List Exchange) (t : Turn F) (ts : List (Turn F)) → AnsweredBy f exchanges (t ∷ ts)
    → t ≡ turn_at (f exchanges) (request_of t)
answered_head f exchanges (Answered c closes a) ts h = ap (Answered c closes) h.0
answered_head f exchanges (Refused e closes) ts h = refl

answered_tail : {F : Type 0} (f : List Exchange → Command → Response) (exchanges : List Exchange) (t : Turn F) (ts : List (Turn F)) → AnsweredBy f exchanges (t ∷ ts)
    → AnsweredBy f (exchanges ++ exchanges_at t) ts
answered_tail f exchanges (Answered c closes a) ts h = h.1
answered_tail f exchanges (Refused e closes) ts h = subst (λ l. AnsweredBy f l ts) (sym (append-nil exchanges)) h

apart : true ≡ false → ⊥
apart e = cc

same_turn : {F : Type 0} (p : Rules F) → IsOne p → (f : List Exchange → Command → Response) (exchanges : List Exchange) (bytes rest other : List ℕ) (t u : Turn F)
    (ts us : List (Turn F)) → p.reads bytes (request_of t) rest → p.reads bytes (request_of u) other → AnsweredBy f exchanges (t ∷ ts)
    → AnsweredBy f exchanges (u ∷ us) → (t ≡ u) × (rest ≡ other)
same_turn p one f exchanges bytes rest other t u ts us r s a b =
    let same = one bytes rest other (request_of t) (request_of u) r s in
    (answered_head f exchanges t ts a ∙ ap (turn_at (f exchanges)) same.0 ∙ sym (answered_head f exchanges u us b), same.1)

pub one_session_by : {F : Type 0} (p : Rules F) → IsOne p → (f : List Exchange → Command → Response) (n : ℕ) (exchanges : List Exchange) (bytes rest other : List ℕ)
    (ts us : List (Turn F)) → Reads p bytes ts rest → Reads p bytes us other → AnsweredBy f exchanges ts → AnsweredBy f exchanges us → IsEnded p n ts
    → IsEnded p n us → (ts ≡ us) × (rest ≡ other)
one_session_by p one f n exchanges bytes rest other [] us r s a b x y = absurd x
one_session_by p one f n exchanges bytes rest other (t ∷ ts) [] r s a b x y = absurd y
one_session_by p one f n exchanges bytes rest other (t ∷ []) (u ∷ []) r s a b x y =
    let same = same_turn p one f exchanges bytes r.0 s.0 t u [] [] r.1 s.1 a b in
    (ap (λ v. v ∷ []) same.0, sym r.2 ∙ same.1 ∙ s.2)
one_session_by p one f n exchanges bytes rest other (t ∷ []) (u ∷ w ∷ us) r s a b x y =
    let same = same_turn p one f exchanges bytes r.0 s.0 t u [] (w ∷ us) r.1 s.1 a b in
    absurd (apart (sym x ∙ ap (is_last p n) same.0 ∙ y.0))
one_session_by p one f n exchanges bytes rest other (t ∷ v ∷ ts) (u ∷ []) r s a b x y =
    let same = same_turn p one f exchanges bytes r.0 s.0 t u (v ∷ ts) [] r.1 s.1 a b in
    absurd (apart (sym y ∙ ap (is_last p n) (sym same.0) ∙ x.0))
one_session_by {F} p one f n exchanges bytes rest other (t ∷ v ∷ ts) (u ∷ w ∷ us) r s a b x y =
    let same = same_turn p one f exchanges bytes r.0 s.0 t u (v ∷ ts) (w ∷ us) r.1 s.1 a b in
    let s_tail : Reads p r.0 (w ∷ us) other = subst (λ m. Reads p m (w ∷ us) other) (sym same.1) s.2 in
    let tail_of : Turn F → Type 0 = λ z. AnsweredBy f (exchanges ++ exchanges_at z) (w ∷ us) in
    let b_tail : AnsweredBy f (exchanges ++ exchanges_at t) (w ∷ us) = subst tail_of (sym same.0) (answered_tail f exchanges u (w ∷ us) b) in
    let rest_same = one_session_by p one f (n + 1) (exchanges ++ exchanges_at t) r.0 rest other (v ∷ ts) (w ∷ us) r.2 s_tail (answered_tail f exchanges t (v ∷ ts) a) b_tail x.1 y.1 in
    (ap (λ z. z ∷ v ∷ ts) same.0 ∙ ap (λ l. u ∷ l) rest_same.0, rest_same.1)

-- ---- sessions that end with their input

module _ (F : Type 0) (p : Rules F) (one : IsOne p) (never : IsApart p) (f : List Exchange → Command → Response) where
  waits_for_one : (bytes rest middle : List ℕ) (t : Turn F) → bytes ≡ rest → p.waits rest → p.reads bytes (request_of t) middle → ⊥
  waits_for_one bytes rest middle t e waits reads = never bytes middle (request_of t) (subst p.waits (sym e) waits) reads

  both_wait : (n : ℕ) (exchanges : List Exchange) (bytes rest other : List ℕ) (ts us : List (Turn F)) → Reads p bytes ts rest → Reads p bytes us other
      → AnsweredBy f exchanges ts → AnsweredBy f exchanges us → IsOpen p n ts → IsOpen p n us → p.waits rest → p.waits other → (ts ≡ us) × (rest ≡ other)
  both_wait n exchanges bytes rest other [] [] r s a b x y v w = (refl, sym r ∙ s)
  both_wait n exchanges bytes rest other [] (u ∷ us) r s a b x y v w = absurd (waits_for_one bytes rest s.0 u r v s.1)
  both_wait n exchanges bytes rest other (t ∷ ts) [] r s a b x y v w = absurd (waits_for_one bytes other r.0 t s w r.1)
  both_wait n exchanges bytes rest other (t ∷ ts) (u ∷ us) r s a b x y v w =
      let same = same_turn p one f exchanges bytes r.0 s.0 t u ts us r.1 s.1 a b in
      let s_tail : Reads p r.0 us other = subst (λ m. Reads p m us other) (sym same.1) s.2 in
      let tail_of : Turn F → Type 0 = λ z. AnsweredBy f (exchanges ++ exchanges_at z) us in
      let b_tail : AnsweredBy f (exchanges ++ exchanges_at t) us = subst tail_of (sym same.0) (answered_tail f exchanges u us b) in
      let rest_same = both_wait (n + 1) (exchanges ++ exchanges_at t) r.0 rest other ts us r.2 s_tail (answered_tail f exchanges t ts a) b_tail x.1 y.1 v w in
      (ap (λ z. z ∷ ts) same.0 ∙ ap (λ l. u ∷ l) rest_same.0, rest_same.1)

  one_waits : (n : ℕ) (exchanges : List Exchange) (bytes rest other : List ℕ) (ts us : List (Turn F)) → Reads p bytes ts rest → Reads p bytes us other
      → AnsweredBy f exchanges ts → AnsweredBy f exchanges us → IsEnded p n ts → IsOpen p n us → p.waits other → ⊥
  one_waits n exchanges bytes rest other [] us r s a b x y w = x
  one_waits n exchanges bytes rest other (t ∷ ts) [] r s a b x y w = waits_for_one bytes other r.0 t s w r.1
  one_waits n exchanges bytes rest other (t ∷ []) (u ∷ us) r s a b x y w =
      let same = same_turn p one f exchanges bytes r.0 s.0 t u [] us r.1 s.1 a b in
      apart (sym x ∙ ap (is_last p n) same.0 ∙ y.0)
  one_waits n exchanges bytes rest other (t ∷ v ∷ ts) (u ∷ us) r s a b x y w =
      let same = same_turn p one f exchanges bytes r.0 s.0 t u (v ∷ ts) us r.1 s.1 a b in
      let s_tail : Reads p r.0 us other = subst (λ m. Reads p m us other) (sym same.1) s.2 in
      let tail_of : Turn F → Type 0 = λ z. AnsweredBy f (exchanges ++ exchanges_at z) us in
      let b_tail : AnsweredBy f (exchanges ++ exchanges_at t) us = subst tail_of (sym same.0) (answered_tail f exchanges u us b) in
      one_waits (n + 1) (exchanges ++ exchanges_at t) r.0 rest other (v ∷ ts) us r.2 s_tail (answered_tail f exchanges t (v ∷ ts) a) b_tail x.1 y.1 w

  pub one_to_its_end : (bytes rest other : List ℕ) (ts us : List (Turn F)) → Reads p bytes ts rest → Reads p bytes us other → AnsweredBy f [] ts
      → AnsweredBy f [] us → HasCome p 0 ts rest → HasCome p 0 us other → (ts ≡ us) × (rest ≡ other)
  one_to_its_end bytes rest other ts us r s a b (inl x) (inl y) = one_session_by p one f 0 [] bytes rest other ts us r s a b x y
  one_to_its_end bytes rest other ts us r s a b (inl x) (inr (y, w)) = absurd (one_waits 0 [] bytes rest other ts us r s a b x y w)
  one_to_its_end bytes rest other ts us r s a b (inr (x, v)) (inl y) = absurd (one_waits 0 [] bytes other rest us ts s r b a y x v)
  one_to_its_end bytes rest other ts us r s a b (inr (x, v)) (inr (y, w)) = both_wait 0 [] bytes rest other ts us r s a b x y v w
