-- The leases of a table as they are read place by place, and how they change when a lease is given or ends.
use Rattle.std.specs.Prelude.{◌≡◌, ◌⊎◌, ℕ, ◌+◌, ◌≤◌, List, true, false, Option, Some, None, refl}
use Rattle.std.specs.Str.{bytes_eq}
use Rattle.std.proofs.Common.{arith, ap, sym, ◌∙◌, inl, inr}
use Rattle.std.proofs.lemmas.Bool.{cases_eq, true≢false}
use Rattle.std.proofs.lemmas.Option.{none-some}
use Rattle.std.proofs.lemmas.Slice.Eq.{bytes_eq-Decides}
use Rattle.table_model.specs.declared.sites.LegSite.{LegSite}

pub same_place : (p q : LegSite) → p.run ≡ q.run → p.job ≡ q.job → p.leg ≡ q.leg → p ≡ q
same_place p q a b c = λ i. record { run = a i; job = b i; leg = c i }

pub place_or_another : (p q : LegSite) → (p ≡ q) ⊎ (p ≡ q → ⊥)
place_or_another p q =
    elim (cases_eq p.run q.run) [
      | inr n ↦ inr (λ e. n (ap (λ (x : LegSite). x.run) e))
      | inl a ↦ elim (cases_eq p.job q.job) [
        | inr n ↦ inr (λ e. n (ap (λ (x : LegSite). x.job) e))
        | inl b ↦ elim (cases_eq p.leg q.leg) [
          | inr n ↦ inr (λ e. n (ap (λ (x : LegSite). x.leg) e))
          | inl c ↦ inl (same_place p q a b c)
        ]
      ]
    ]

-- two names are equal or not
pub names_same : (a b : List ℕ) → (a ≡ b) ⊎ (a ≡ b → ⊥)
names_same a b =
    elim (bytes_eq a b) as (λ v. bytes_eq a b ≡ v → (a ≡ b) ⊎ (a ≡ b → ⊥)) [
      | true ↦ λ is. inl ((bytes_eq-Decides a b).0 is)
      | false ↦ λ is. inr (λ same. true≢false (sym ((bytes_eq-Decides a b).1 same) ∙ is))
    ] refl

-- `had` gives the lease of each leg, `works` the lease of each leg with a runner at work, and `holds` the lease that the runner of each
-- name holds
pub record LeasesAgree (last : ℕ) (had works : LegSite → Option ℕ) (holds : List ℕ → Option ℕ) : Type 0 where
  pub given : (p : LegSite) (n : ℕ) → had p ≡ Some n → (1 ≤ n) × (n ≤ last)
  pub differ : (p q : LegSite) (n : ℕ) → had p ≡ Some n → had q ≡ Some n → p ≡ q
  pub work_is_had : (p : LegSite) (n : ℕ) → works p ≡ Some n → had p ≡ Some n
  pub work_is_held : (p : LegSite) (n : ℕ) → works p ≡ Some n → (k : List ℕ) × (holds k ≡ Some n)
  pub held_is_work : (k : List ℕ) (n : ℕ) → holds k ≡ Some n → (p : LegSite) × (works p ≡ Some n)
  pub held_once : (a b : List ℕ) (n : ℕ) → holds a ≡ Some n → holds b ≡ Some n → a ≡ b

-- a reading changes at one place only
pub record ChangesAt {P : Type 0} (before after : P → Option ℕ) (at : P) (new : Option ℕ) : Type 0 where
  pub here : after at ≡ new
  pub elsewhere : (p : P) → (p ≡ at → ⊥) → after p ≡ before p

is_new : (new n : ℕ) → Some new ≡ Some n → n ≡ new
is_new new n e = cc

-- A new value that is read at one place keeps each value read at one place only.
still_once : {P : Type 0} → ((p q : P) → (p ≡ q) ⊎ (p ≡ q → ⊥)) → (before after : P → Option ℕ) (at : P) (new : ℕ)
    → ((p : P) → before p ≡ Some new → ⊥) → ChangesAt before after at (Some new)
    → ((p q : P) (n : ℕ) → before p ≡ Some n → before q ≡ Some n → p ≡ q)
    → (p q : P) (n : ℕ) → after p ≡ Some n → after q ≡ Some n → p ≡ q
still_once {P = P} one_or_another before after at new fresh change once p q n e f =
    let was_new : (k : P) → (k ≡ at → ⊥) → after k ≡ Some n → Some new ≡ Some n → ⊥ =
    λ k t g is. fresh k (sym (change.elsewhere k t) ∙ g ∙ ap Some (is_new new n is)) in
    elim (one_or_another p at) [
      | inl s ↦ elim (one_or_another q at) [
        | inl t ↦ s ∙ sym t
        | inr t ↦ absurd (was_new q t f (sym change.here ∙ ap after (sym s) ∙ e))
      ]
      | inr s ↦ elim (one_or_another q at) [
        | inl t ↦ absurd (was_new p s e (sym change.here ∙ ap after (sym t) ∙ f))
        | inr t ↦ once p q n (sym (change.elsewhere p s) ∙ e) (sym (change.elsewhere q t) ∙ f)
      ]
    ]

-- When one place has no value any more, every value is read elsewhere, as before.
read_elsewhere : {P : Type 0} → ((p q : P) → (p ≡ q) ⊎ (p ≡ q → ⊥)) → (before after : P → Option ℕ) (at : P)
    → ChangesAt before after at None → (p : P) (n : ℕ) → after p ≡ Some n → (p ≡ at → ⊥) × (before p ≡ Some n)
read_elsewhere one_or_another before after at change p n e =
    elim (one_or_another p at) [
      | inl s ↦ absurd (none-some n (sym change.here ∙ ap after (sym s) ∙ e))
      | inr s ↦ (s, sym (change.elsewhere p s) ∙ e)
    ]

-- ---- a lease is given

module _ (last : ℕ) (had works had' works' : LegSite → Option ℕ) (holds holds' : List ℕ → Option ℕ) (at : LegSite) (runner : List ℕ)
    (agree : LeasesAgree last had works holds)
    (free_leg : had at ≡ None) (free_runner : holds runner ≡ None)
    (h : ChangesAt had had' at (Some (last + 1))) (w : ChangesAt works works' at (Some (last + 1)))
    (r : ChangesAt holds holds' runner (Some (last + 1))) where
  new_not_had : (p : LegSite) → had p ≡ Some (last + 1) → ⊥
  new_not_had p e = let g = (agree.given p (last + 1) e).1 in omega (arith, g)

  given' : (p : LegSite) (n : ℕ) → had' p ≡ Some n → (1 ≤ n) × (n ≤ last + 1)
  given' p n e =
      elim (place_or_another p at) [
        | inl s ↦ let is = is_new (last + 1) n (sym h.here ∙ ap had' (sym s) ∙ e) in omega (arith, is)
        | inr s ↦ let g = agree.given p n (sym (h.elsewhere p s) ∙ e) in omega (arith, g)
      ]

  work_is_had' : (p : LegSite) (n : ℕ) → works' p ≡ Some n → had' p ≡ Some n
  work_is_had' p n e =
      elim (place_or_another p at) [
        | inl s ↦ ap had' s ∙ h.here ∙ sym w.here ∙ ap works' (sym s) ∙ e
        | inr s ↦ h.elsewhere p s ∙ agree.work_is_had p n (sym (w.elsewhere p s) ∙ e)
      ]

  work_is_held' : (p : LegSite) (n : ℕ) → works' p ≡ Some n → (k : List ℕ) × (holds' k ≡ Some n)
  work_is_held' p n e =
      elim (place_or_another p at) [
        | inl s ↦ (runner, r.here ∙ sym w.here ∙ ap works' (sym s) ∙ e)
        | inr s ↦
            let (k, f) = agree.work_is_held p n (sym (w.elsewhere p s) ∙ e) in
            (k, r.elsewhere k (λ t. none-some n (sym free_runner ∙ ap holds (sym t) ∙ f)) ∙ f)
      ]

  held_is_work' : (k : List ℕ) (n : ℕ) → holds' k ≡ Some n → (p : LegSite) × (works' p ≡ Some n)
  held_is_work' k n e =
      elim (names_same k runner) [
        | inl s ↦ (at, w.here ∙ sym r.here ∙ ap holds' (sym s) ∙ e)
        | inr s ↦
            let (p, f) = agree.held_is_work k n (sym (r.elsewhere k s) ∙ e) in
            (p, w.elsewhere p (λ t. none-some n (sym free_leg ∙ ap had (sym t) ∙ agree.work_is_had p n f)) ∙ f)
      ]

  new_not_held : (k : List ℕ) → holds k ≡ Some (last + 1) → ⊥
  new_not_held k e = let (p, f) = agree.held_is_work k (last + 1) e in new_not_had p (agree.work_is_had p (last + 1) f)

  pub lease_given : LeasesAgree (last + 1) had' works' holds'
  lease_given =
      record {
        given = given';
        differ = still_once place_or_another had had' at (last + 1) new_not_had h agree.differ;
        work_is_had = work_is_had';
        work_is_held = work_is_held';
        held_is_work = held_is_work';
        held_once = still_once names_same holds holds' runner (last + 1) new_not_held r agree.held_once;
      }

-- ---- the leg with a lease ends

module _ (last : ℕ) (had works works' : LegSite → Option ℕ) (holds holds' : List ℕ → Option ℕ) (at : LegSite)
    (runner : List ℕ) (lease : ℕ)
    (agree : LeasesAgree last had works holds)
    (work_here : works at ≡ Some lease) (held_here : holds runner ≡ Some lease) (w : ChangesAt works works' at None)
    (r : ChangesAt holds holds' runner None) where
  works_elsewhere : (p : LegSite) (n : ℕ) → works' p ≡ Some n → (p ≡ at → ⊥) × (works p ≡ Some n)
  works_elsewhere = read_elsewhere place_or_another works works' at w

  holds_elsewhere : (k : List ℕ) (n : ℕ) → holds' k ≡ Some n → (k ≡ runner → ⊥) × (holds k ≡ Some n)
  holds_elsewhere = read_elsewhere names_same holds holds' runner r

  still_held : (p : LegSite) (n : ℕ) → works' p ≡ Some n → (k : List ℕ) × (holds' k ≡ Some n)
  still_held p n e =
      let before = works_elsewhere p n e in
      let (k, f) = agree.work_is_held p n before.1 in (
        k,
        r.elsewhere k
            (λ t. before.0
            (agree.differ p at n (agree.work_is_had p n before.1)
            (agree.work_is_had at n (work_here ∙ sym held_here ∙ ap holds (sym t) ∙ f)))) ∙ f,
      )

  still_at_work : (k : List ℕ) (n : ℕ) → holds' k ≡ Some n → (p : LegSite) × (works' p ≡ Some n)
  still_at_work k n e =
      let before = holds_elsewhere k n e in
      let (p, f) = agree.held_is_work k n before.1 in
      (p, w.elsewhere p (λ t. before.0 (agree.held_once k runner n before.1 (held_here ∙ sym work_here ∙ ap works (sym t) ∙ f))) ∙ f)

  pub lease_ended : LeasesAgree last had works' holds'
  lease_ended = record {
    given = agree.given;
    differ = agree.differ;
    work_is_had = (λ p n e. agree.work_is_had p n (works_elsewhere p n e).1);
    work_is_held = still_held;
    held_is_work = still_at_work;
    held_once = (λ a b n e f. agree.held_once a b n (holds_elsewhere a n e).1 (holds_elsewhere b n f).1);
  }

-- ---- nothing that is read changes

pub leases_same : (last : ℕ) (had works had' works' : LegSite → Option ℕ) (holds holds' : List ℕ → Option ℕ)
    → ((p : LegSite) → had' p ≡ had p) → ((p : LegSite) → works' p ≡ works p) → ((k : List ℕ) → holds' k ≡ holds k)
    → LeasesAgree last had works holds → LeasesAgree last had' works' holds'
leases_same last had works had' works' holds holds' h w r agree = record {
  given = (λ p n e. agree.given p n (sym (h p) ∙ e));
  differ = (λ p q n e f. agree.differ p q n (sym (h p) ∙ e) (sym (h q) ∙ f));
  work_is_had = (λ p n e. h p ∙ agree.work_is_had p n (sym (w p) ∙ e));
  work_is_held = (λ p n e. let (k, f) = agree.work_is_held p n (sym (w p) ∙ e) in (k, r k ∙ f));
  held_is_work = (λ k n e. let (p, f) = agree.held_is_work k n (sym (r k) ∙ e) in (p, w p ∙ f));
  held_once = (λ a b n e f. agree.held_once a b n (sym (r a) ∙ e) (sym (r b) ∙ f));
}
