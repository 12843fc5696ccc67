-- The clients of slots beside a history, from one call to the next.
use Rattle.std.proofs.Common.{◌≡◌, ◌⊎◌, ◌==◌, ℕ, ◌+◌, ◌<◌, ◌≤◌, Bool, true, false, List, [], ◌∷◌, ◌++◌, length, take, refl, sym, ap, subst, ◌∙◌, inl, inr, append-nil, append_assoc, arith, Ok, Err, zero, suc, take-append-drop}
use Rattle.std.specs.Prelude.{drop, slice_get, slice_set, Some, None, Option}
use Rattle.std.specs.List.{AllByRecursion}
use Rattle.std.proofs.lemmas.Bool.Decides.{nat_tests}
use Rattle.std.proofs.lemmas.List.{take-append-le, take-take}
use Rattle.std.proofs.lemmas.List.Elements.{filter-append}
use Rattle.act_sessions.specs.Exchange.{Exchange}
use Rattle.act_store.specs.StoreState.{StoreState}
use Rattle.act_store.specs.declared.entry.Entry.{Entry}
use Rattle.std.specs.Io.KnownBytes.{Appends, Consumes}
use Rattle.std.proofs.KnownBytes.{Appends-nil, Appends-trans, Consumes-nil, Consumes-trans}
use Rattle.client_loop.specs.Clients.{AreClients, AreDurable, AreServed, ClientDiscards, ClientHears, ClientParts, ClientSends, ClientState, HasOwnStream}
use Rattle.client_loop.specs.Clients.{IsClient, IsDurable, IsSince, SlotState, Wire}
use Rattle.client_loop.specs.Clients.{all_sent, clients_of, exchanges_by, farewell_in, new_client, parted_of, sent_of}
use Rattle.client_loop.specs.Conversation.{Conversation, no_conversation}
use Rattle.client_loop.specs.Entering.{Enters, EntersOne, entries_of, entries_of_one, part_of}
use Rattle.client_loop.specs.Hearing.{Hears}
use Rattle.client_loop.specs.Slots.{AllServed}

-- ---- the entries under a number

same_number : (n : ℕ) → (n == n) ≡ true
same_number n = grind (arith, nat_tests)

other_number : (m n : ℕ) → (m ≡ n → ⊥) → (m == n) ≡ false
other_number m n apart = grind (arith, nat_tests)

entries-append : (number : ℕ) (xs ys : List Exchange) → entries_of number (xs ++ ys) ≡ entries_of number xs ++ entries_of number ys
entries-append number [] ys = refl
entries-append number (x ∷ xs) ys =
    ap (λ (l : List Entry). entries_of_one number x ++ l) (entries-append number xs ys)
    ∙ sym (append_assoc (entries_of_one number x) (entries_of number xs) (entries_of number ys))

part-append : (number : ℕ) (xs ys : List Entry) → part_of number (xs ++ ys) ≡ part_of number xs ++ part_of number ys
part-append number xs ys = filter-append (λ (e : Entry). e.seat == number) xs ys

own_part : (number : ℕ) (xs : List Exchange) → part_of number (entries_of number xs) ≡ entries_of number xs
own_part number [] = refl
own_part number ((c, Ok reply) ∷ xs) = rw (same_number number) (ap (λ (l : List Entry). record { seat = number; command = c; reply = reply } ∷ l) (own_part number xs))
own_part number ((c, Err e) ∷ xs) = own_part number xs

pub other_part : (k number : ℕ) → (number ≡ k → ⊥) → (xs : List Exchange) → part_of k (entries_of number xs) ≡ []
other_part k number apart [] = refl
other_part k number apart ((c, Ok reply) ∷ xs) = rw (other_number number k apart) (other_part k number apart xs)
other_part k number apart ((c, Err e) ∷ xs) = other_part k number apart xs

pub covered_part : (number covered : ℕ) (history : List Entry) → part_of number (drop covered history) ≡ []
    → part_of number (take covered history) ≡ part_of number history
covered_part number covered history none =
    sym (append-nil (part_of number (take covered history)))
    ∙ ap (λ (l : List Entry). part_of number (take covered history) ++ l) (sym none)
    ∙ sym (part-append number (take covered history) (drop covered history))
    ∙ ap (part_of number) (take-append-drop covered history)

-- ---- what commands do to a store

pub record Extends {D : Type 0} (number : ℕ) (old : StoreState D) (xs : List Exchange) (new : StoreState D) : Type 0 where
  pub history : new.history ≡ old.history ++ entries_of number xs
  pub base : new.base ≡ old.base
  pub covered : new.covered ≡ old.covered
  pub disk : new.disk ≡ old.disk
  pub failed : new.failed ≡ old.failed

module _ {D : Type 0} where
  extends_none : (number : ℕ) (old new : StoreState D) → new ≡ old → Extends number old [] new
  extends_none number old new same = subst (λ (s : StoreState D). Extends number old [] s) (sym same)
      (record { history = sym (append-nil old.history); base = refl; covered = refl; disk = refl; failed = refl })

  extends_more : (number : ℕ) (old mid new : StoreState D) (x : Exchange) (xs : List Exchange) → Extends number old (x ∷ []) mid → Extends number mid xs new
      → Extends number old (x ∷ xs) new
  extends_more number old mid new x xs first second = record {
    history =
        second.history ∙ ap (λ (l : List Entry). l ++ entries_of number xs) (first.history ∙ ap (λ (l : List Entry). old.history ++ l) (append-nil (entries_of_one number x)))
        ∙ append_assoc old.history (entries_of_one number x) (entries_of number xs);
    base = second.base ∙ first.base;
    covered = second.covered ∙ first.covered;
    disk = second.disk ∙ first.disk;
    failed = second.failed ∙ first.failed;
  }

  extends_one : (number : ℕ) (old new : StoreState D) (x : Exchange) → EntersOne number old x new → Extends number old (x ∷ []) new
  extends_one number old new (c, Ok reply) one =
      let P : StoreState D → Type 0 = λ s. Extends number old ((c, Ok reply) ∷ []) s in
      subst P (sym one.0) (record {
        history = ap (λ (r : _). old.history ++ record { seat = number; command = c; reply = r } ∷ []) (sym one.1);
        base = refl;
        covered = refl;
        disk = refl;
        failed = refl;
      })
  extends_one number old new (c, Err e) one =
      let P : StoreState D → Type 0 = λ s. Extends number old ((c, Err e) ∷ []) s in
      subst P (sym one.0) (record { history = sym (append-nil old.history); base = refl; covered = refl; disk = refl; failed = refl })

  pub extends : (number : ℕ) (old new : StoreState D) (xs : List Exchange) → Enters number old xs new → Extends number old xs new
  extends number old new [] same = extends_none number old new same
  extends number old new (x ∷ xs) enters =
      extends_more number old enters.0 new x xs (extends_one number old enters.0 x enters.1) (extends number enters.0 new xs enters.2)

-- ---- the clients of a slot

exchanges_snoc : (cs : List ClientState) (c : ClientState) → exchanges_by (cs ++ c ∷ []) ≡ exchanges_by cs ++ c.now.exchanges
exchanges_snoc [] c = append-nil c.now.exchanges
exchanges_snoc (d ∷ cs) c =
    ap (λ (l : List Exchange). d.now.exchanges ++ l) (exchanges_snoc cs c) ∙ sym (append_assoc d.now.exchanges (exchanges_by cs) c.now.exchanges)

module _ (follows : Conversation → Type 0) where
  clients_snoc : (cs : List ClientState) (c : ClientState) → AreClients follows cs → IsClient follows c → AreClients follows (cs ++ c ∷ [])
  clients_snoc [] c all one = (one, tt)
  clients_snoc (d ∷ cs) c all one = (all.0, clients_snoc cs c all.1 one)

  clients_split : (cs : List ClientState) (c : ClientState) → AreClients follows (cs ++ c ∷ []) → AreClients follows cs × IsClient follows c
  clients_split [] c all = (tt, all.0)
  clients_split (d ∷ cs) c all = let rest = clients_split cs c all.1 in ((all.0, rest.0), rest.1)

module _ (history : List Entry) (covered number : ℕ) where
  durable_snoc : (before : List Exchange) (cs : List ClientState) (c : ClientState) → AreDurable history covered number before cs
      → IsDurable history covered number (before ++ exchanges_by cs) c → AreDurable history covered number before (cs ++ c ∷ [])
  durable_snoc before [] c all one = (subst (λ (l : List Exchange). IsDurable history covered number l c) (append-nil before) one, tt)
  durable_snoc before (d ∷ cs) c all one = (
    all.0,
    durable_snoc (before ++ d.now.exchanges) cs c all.1
        (subst (λ (l : List Exchange). IsDurable history covered number l c) (sym (append_assoc before d.now.exchanges (exchanges_by cs))) one),
  )

  durable_split : (before : List Exchange) (cs : List ClientState) (c : ClientState) → AreDurable history covered number before (cs ++ c ∷ [])
      → AreDurable history covered number before cs × IsDurable history covered number (before ++ exchanges_by cs) c
  durable_split before [] c all = (tt, subst (λ (l : List Exchange). IsDurable history covered number l c) (sym (append-nil before)) all.0)
  durable_split before (d ∷ cs) c all =
      let rest = durable_split (before ++ d.now.exchanges) cs c all.1 in
      ((all.0, rest.0), subst (λ (l : List Exchange). IsDurable history covered number l c) (append_assoc before d.now.exchanges (exchanges_by cs)) rest.1)

-- entries are appended, and more are covered
module _ (history more : List Entry) (covered covered_new number : ℕ) (within : covered ≤ length history) (grows : covered ≤ covered_new) where
  one_durable_grows : (before : List Exchange) (c : ClientState) → IsDurable history covered number before c → IsDurable (history ++ more) covered_new number before c
  one_durable_grows before c (inl none) = inl none
  one_durable_grows before c (inr (n, le, is)) =
      inr (n, omega (arith, le, grows), ap (λ (l : List Entry). part_of number l) (take-append-le n history more (omega (arith, le, within))) ∙ is)

  all_durable_grow : (before : List Exchange) (cs : List ClientState) → AreDurable history covered number before cs
      → AreDurable (history ++ more) covered_new number before cs
  all_durable_grow before [] all = tt
  all_durable_grow before (c ∷ cs) all = (one_durable_grows before c all.0, all_durable_grow (before ++ c.now.exchanges) cs all.1)

  -- a slot of which no client has submitted anything
  pub served_beside : (p : ℕ → Conversation → Type 0) (cs : List ClientState) → part_of number more ≡ [] → AreServed p history covered number cs
      → AreServed p (history ++ more) covered_new number cs
  served_beside p cs none served = record {
    each = served.each;
    part = part-append number history more ∙ ap (λ (l : List Entry). part_of number history ++ l) none ∙ append-nil (part_of number history) ∙ served.part;
    durable = all_durable_grow [] cs served.durable;
  }

-- ---- what happens to a client

since_hears : (was old new : Conversation) (received : List ℕ) (exchanges : List Exchange) (text : List ℕ) → new.sent ≡ old.sent → new.parted ≡ old.parted → new.received ≡ old.received ++ received
    → new.exchanges ≡ old.exchanges ++ exchanges → new.withheld ≡ old.withheld ++ text → IsSince was old → IsSince was new
since_hears was old new received exchanges text sent_is parted_is received_is exchanges_are withheld_is since = record {
  sent_is = sent_is ∙ since.sent_is;
  received = since.received ++ received;
  received_is = received_is ∙ ap (λ (l : List ℕ). l ++ received) since.received_is ∙ append_assoc was.received since.received received;
  exchanges = since.exchanges ++ exchanges;
  exchanges_are = exchanges_are ∙ ap (λ (l : List Exchange). l ++ exchanges) since.exchanges_are ∙ append_assoc was.exchanges since.exchanges exchanges;
  text = since.text ++ text;
  withheld_is = λ unparted.
      withheld_is ∙ ap (λ (l : List ℕ). l ++ text) (since.withheld_is (sym parted_is ∙ unparted)) ∙ append_assoc was.withheld since.text text;
}

pub since_now : (t : Conversation) → IsSince t t
since_now t = record {
  sent_is = refl;
  received = [];
  received_is = sym (append-nil t.received);
  exchanges = [];
  exchanges_are = sym (append-nil t.exchanges);
  text = [];
  withheld_is = λ unparted. sym (append-nil t.withheld);
}

some_is_none : (l : List ℕ) → ◌≡◌ {A = Option (List ℕ)} (Some l) None → ⊥
some_is_none l is = cc

since_parts : (was old : Conversation) (farewell : List ℕ) → IsSince was old → IsSince was (parted_of old farewell)
since_parts was old farewell since = record {
  sent_is = since.sent_is;
  received = since.received;
  received_is = since.received_is;
  exchanges = since.exchanges;
  exchanges_are = since.exchanges_are;
  text = since.text;
  withheld_is = λ unparted. absurd (some_is_none farewell unparted);
}

-- ---- its own stream

same_wrote : (a b c : Option (List ℕ)) (sent sent_new : List ℕ) → c ≡ b → sent_new ≡ sent → Appends a b sent → Appends a c sent_new
same_wrote a b c sent sent_new kept same wrote = subst (λ (l : List ℕ). Appends a c l) (sym same) (subst (λ (o : Option (List ℕ)). Appends a o sent) (sym kept) wrote)

same_read : (a b c : Option (List ℕ)) (bytes : List ℕ) → c ≡ b → Consumes a b bytes → Consumes a c bytes
same_read a b c bytes kept read = subst (λ (o : Option (List ℕ)). Consumes a o bytes) (sym kept) read

not_both : (b : Bool) → b ≡ false → b ≡ true → ⊥
not_both true isnt is = cc
not_both false isnt is = cc

own_begins : (wire : Wire) → HasOwnStream (new_client wire)
own_begins wire = record { discarded = []; live = λ live. refl; read = Consumes-nil wire.remaining; wrote = Appends-nil wire.contents }

-- a piece is heard
own_hears : (c : ClientState) (t : Conversation) (w : Wire) (piece : List ℕ) → c.now.over ≡ false → Consumes c.wire.remaining w.remaining piece
    → w.contents ≡ c.wire.contents → t.received ≡ c.now.received ++ piece → t.sent ≡ c.now.sent → t.parted ≡ c.now.parted → HasOwnStream c
    → HasOwnStream (record c { now = t; wire = w })
own_hears c t w piece live read kept received_is sent_is parted_is own =
    let begun : Consumes c.began.remaining c.wire.remaining c.now.received =
    subst (λ (l : List ℕ). Consumes c.began.remaining c.wire.remaining l)
    (ap (λ (l : List ℕ). c.now.received ++ l) (own.live live) ∙ append-nil c.now.received) own.read in
    let all : Consumes c.began.remaining w.remaining (c.now.received ++ piece) =
    Consumes-trans c.began.remaining c.wire.remaining w.remaining c.now.received piece begun read in
    record {
      discarded = [];
      live = λ still. refl;
      read = subst (λ (l : List ℕ). Consumes c.began.remaining w.remaining l) (sym (append-nil t.received ∙ received_is)) all;
      wrote = same_wrote c.began.contents c.wire.contents w.contents (all_sent c.now) (all_sent t) kept
          (ap (λ (l : List ℕ). l ++ farewell_in t.parted) sent_is ∙ ap (λ (o : Option (List ℕ)). c.now.sent ++ farewell_in o) parted_is) own.wrote;
    }

-- more was written: bytes of answers, or a farewell
own_writes : (c : ClientState) (t : Conversation) (w : Wire) (bytes : List ℕ) → Appends c.wire.contents w.contents bytes → w.remaining ≡ c.wire.remaining
    → t.received ≡ c.now.received → (t.over ≡ false → c.now.over ≡ false) → all_sent t ≡ all_sent c.now ++ bytes → (released : Conversation) → HasOwnStream c
    → HasOwnStream (record c { now = t; released = released; wire = w })
own_writes c t w bytes wrote kept received_is still sent_is released own = record {
  discarded = own.discarded;
  live = λ live. own.live (still live);
  read = subst (λ (l : List ℕ). Consumes c.began.remaining w.remaining (l ++ own.discarded)) (sym received_is)
      (same_read c.began.remaining c.wire.remaining w.remaining (c.now.received ++ own.discarded) kept own.read);
  wrote = subst (λ (l : List ℕ). Appends c.began.contents w.contents l) (sym sent_is)
      (Appends-trans c.began.contents c.wire.contents w.contents (all_sent c.now) bytes own.wrote wrote);
}

-- what came after its session
own_discards : (c : ClientState) (w : Wire) (piece : List ℕ) → c.now.over ≡ true → Consumes c.wire.remaining w.remaining piece
    → w.contents ≡ c.wire.contents → HasOwnStream c → HasOwnStream (record c { wire = w })
own_discards c w piece over read kept own = record {
  discarded = own.discarded ++ piece;
  live = λ live. absurd (not_both c.now.over live over);
  read = subst (λ (l : List ℕ). Consumes c.began.remaining w.remaining l) (append_assoc c.now.received own.discarded piece)
      (Consumes-trans c.began.remaining c.wire.remaining w.remaining (c.now.received ++ own.discarded) piece own.read read);
  wrote = same_wrote c.began.contents c.wire.contents w.contents (all_sent c.now) (all_sent c.now) kept refl own.wrote;
}

-- ---- what happens to the client that has a slot

module _ (p : ℕ → Conversation → Type 0) (history : List Entry) (covered number : ℕ) (within : covered ≤ length history) (earlier : List ClientState) where
  abbrev Has : ClientState → Type 0
  Has c = AreServed p history covered number (earlier ++ c ∷ [])

  module _ {D : Type 0} where
    pub served_hears : (piece : List ℕ) (store store_new : StoreState D) (c d : ClientState) (hears : ClientHears (p number) number piece store store_new c d)
        → Has c → AreServed p (history ++ entries_of number hears.hears.exchanges) covered number (earlier ++ d ∷ [])
    served_hears piece store store_new c d h served =
        let xs = h.hears.exchanges in
        let clients = clients_split (p number) earlier c served.each in
        let durable = durable_split history covered number [] earlier c served.durable in
        let later : ClientState = record c { now = h.now; wire = h.wire } in
        let k = h.hears in
        subst (λ (e : ClientState). AreServed p (history ++ entries_of number xs) covered number (earlier ++ e ∷ [])) (sym h.is) (record {
          each = clients_snoc (p number) earlier later clients.0 (record {
            now = h.follows_is;
            released = clients.1.released;
            since = since_hears c.released c.now h.now piece xs k.text k.sent_is k.parted_is k.received_is k.exchanges_are k.withheld_is clients.1.since;
            own = own_hears c h.now h.wire piece h.live h.read h.kept k.received_is k.sent_is k.parted_is clients.1.own;
          });
          part =
              part-append number history (entries_of number xs)
              ∙ ap (λ (l : List Entry). l ++ part_of number (entries_of number xs)) (served.part ∙ ap (entries_of number) (exchanges_snoc earlier c))
              ∙ ap (λ (l : List Entry). entries_of number (exchanges_by earlier ++ c.now.exchanges) ++ l) (own_part number xs)
              ∙ sym (entries-append number (exchanges_by earlier ++ c.now.exchanges) xs)
              ∙ ap (entries_of number) (append_assoc (exchanges_by earlier) c.now.exchanges xs ∙ ap (λ (l : List Exchange). exchanges_by earlier ++ l) (sym k.exchanges_are)
              ∙ sym (exchanges_snoc earlier later));
          durable = durable_snoc (history ++ entries_of number xs) covered number [] earlier later
              (all_durable_grow history (entries_of number xs) covered covered number within (omega arith) [] earlier durable.0)
              (one_durable_grows history (entries_of number xs) covered covered number within (omega arith) (exchanges_by earlier) c durable.1);
        })

  pub served_sends : part_of number (drop covered history) ≡ [] → (n : ℕ) (c d : ClientState) → ClientSends (p number) n c d → Has c → Has d
  served_sends none n c d sends served =
      let clients = clients_split (p number) earlier c served.each in
      let durable = durable_split history covered number [] earlier c served.durable in
      let t = sent_of c.now n in
      let later : ClientState = record c { now = t; released = t; wire = sends.wire } in
      let sent_is : all_sent t ≡ all_sent c.now ++ take n c.now.withheld =
      ap (λ (o : Option (List ℕ)). (c.now.sent ++ take n c.now.withheld) ++ farewell_in o) sends.unparted
      ∙ append-nil (c.now.sent ++ take n c.now.withheld)
      ∙ ap (λ (l : List ℕ). l ++ take n c.now.withheld) (sym (append-nil c.now.sent))
      ∙ ap (λ (o : Option (List ℕ)). (c.now.sent ++ farewell_in o) ++ take n c.now.withheld) (sym sends.unparted) in
      subst Has (sym sends.is) (record {
        each = clients_snoc (p number) earlier later clients.0 (record {
          now = sends.follows_is;
          released = sends.follows_is;
          since = since_now t;
          own = own_writes c t sends.wire (take n c.now.withheld) sends.wrote sends.kept refl (λ live. live) sent_is t clients.1.own;
        });
        part = served.part ∙ ap (entries_of number) (exchanges_snoc earlier c ∙ sym (exchanges_snoc earlier later));
        durable = durable_snoc history covered number [] earlier later durable.0
            (inr (covered, omega arith, covered_part number covered history none ∙ served.part ∙ ap (entries_of number) (exchanges_snoc earlier c)));
      })

  pub served_parts : (farewell : List ℕ) (c d : ClientState) → ClientParts (p number) farewell c d → Has c → Has d
  served_parts farewell c d parts served =
      let clients = clients_split (p number) earlier c served.each in
      let durable = durable_split history covered number [] earlier c served.durable in
      let t = parted_of c.now farewell in
      let later : ClientState = record c { now = t; wire = parts.wire } in
      let sent_is : all_sent t ≡ all_sent c.now ++ farewell =
      ap (λ (l : List ℕ). l ++ farewell) (sym (append-nil c.now.sent))
      ∙ ap (λ (o : Option (List ℕ)). (c.now.sent ++ farewell_in o) ++ farewell) (sym parts.unparted) in
      subst Has (sym parts.is) (record {
        each = clients_snoc (p number) earlier later clients.0 (record {
          now = parts.follows_is;
          released = clients.1.released;
          since = since_parts c.released c.now farewell clients.1.since;
          own = own_writes c t parts.wire farewell parts.wrote parts.kept refl (λ live. cc) sent_is c.released clients.1.own;
        });
        part = served.part ∙ ap (entries_of number) (exchanges_snoc earlier c ∙ sym (exchanges_snoc earlier later));
        durable = durable_snoc history covered number [] earlier later durable.0 durable.1;
      })

  pub served_discards : (c d : ClientState) → ClientDiscards c d → Has c → Has d
  served_discards c d discards served =
      let clients = clients_split (p number) earlier c served.each in
      let durable = durable_split history covered number [] earlier c served.durable in
      let later : ClientState = record c { wire = discards.wire } in
      subst Has (sym discards.is) (record {
        each = clients_snoc (p number) earlier later clients.0 (record {
          now = clients.1.now;
          released = clients.1.released;
          since = clients.1.since;
          own = own_discards c discards.wire discards.piece discards.over discards.read discards.kept clients.1.own;
        });
        part = served.part ∙ ap (entries_of number) (exchanges_snoc earlier c ∙ sym (exchanges_snoc earlier later));
        durable = durable_snoc history covered number [] earlier later durable.0 durable.1;
      })

  pub served_joins : p number no_conversation → (wire : Wire) → AreServed p history covered number earlier → Has (new_client wire)
  served_joins follows wire served = record {
    each = clients_snoc (p number) earlier (new_client wire) served.each
        (record { now = follows; released = follows; since = since_now no_conversation; own = own_begins wire });
    part = served.part ∙ ap (entries_of number) (sym (exchanges_snoc earlier (new_client wire) ∙ append-nil (exchanges_by earlier)));
    durable = durable_snoc history covered number [] earlier (new_client wire) served.durable (inl refl);
  }

-- ---- all slots

module _ (p : ℕ → Conversation → Type 0) (history history_new : List Entry) (covered covered_new : ℕ) where
  pub served_all : (n : ℕ) (slots : List SlotState)
      → ((k : ℕ) (cs : List ClientState) → AreServed p history covered k cs → AreServed p history_new covered_new k cs)
      → AllServed p history covered n slots → AllServed p history_new covered_new n slots
  served_all n [] each all = tt
  served_all n (slot ∷ slots) each all = (each n (clients_of slot) all.0, served_all (n + 1) slots each all.1)

  pub served_at : (n i : ℕ) (slots : List SlotState) (x : SlotState)
      → ((slot : SlotState) → slice_get slots i ≡ Some slot → AreServed p history covered (n + i) (clients_of slot)
      → AreServed p history_new covered_new (n + i) (clients_of x))
      → ((k : ℕ) (cs : List ClientState) → (n + i ≡ k → ⊥) → AreServed p history covered k cs → AreServed p history_new covered_new k cs)
      → AllServed p history covered n slots → AllServed p history_new covered_new n (slice_set slots i x)
  served_at n i [] x own others all = tt
  served_at n zero (cs ∷ slots) x own others all = (
    let m : n + zero ≡ n = omega arith in
        subst (λ (k : ℕ). AreServed p history_new covered_new k (clients_of x)) m (own cs refl (subst (λ (k : ℕ). AreServed p history covered k (clients_of cs)) (sym m) all.0)),
    served_from (n + 1) slots (λ k ds above served. others k ds (λ same. omega (arith, same, above)) served) all.1,
  )
    where
      served_from : (m : ℕ) (rest : List SlotState)
          → ((k : ℕ) (ds : List ClientState) → m ≤ k → AreServed p history covered k ds → AreServed p history_new covered_new k ds)
          → AllServed p history covered m rest → AllServed p history_new covered_new m rest
      served_from m [] each all = tt
      served_from m (ds ∷ rest) each all =
          (each m (clients_of ds) (omega arith) all.0, served_from (m + 1) rest (λ k es above served. each k es (omega (arith, above)) served) all.1)
  served_at n (suc i) (cs ∷ slots) x own others all = (
    others n (clients_of cs) (λ same. omega (arith, same)) all.0,
    served_at (n + 1) i slots x
        (λ ds is served. let m : n + 1 + i ≡ n + suc i = omega arith in subst (λ (k : ℕ). AreServed p history_new covered_new k (clients_of x)) (sym m)
        (own ds is (subst (λ (k : ℕ). AreServed p history covered k (clients_of ds)) m served)))
        (λ k ds apart served. others k ds (λ same. apart (omega (arith, same))) served) all.1,
  )

-- ---- whose entries they are

pub within_append : (n : ℕ) (xs ys : List Entry) → AllByRecursion (λ (e : Entry). e.seat < n) xs → AllByRecursion (λ (e : Entry). e.seat < n) ys
    → AllByRecursion (λ (e : Entry). e.seat < n) (xs ++ ys)
within_append n [] ys one two = two
within_append n (x ∷ xs) ys one two = (one.0, within_append n xs ys one.1 two)

pub entries_within : (n number : ℕ) → number < n → (xs : List Exchange) → AllByRecursion (λ (e : Entry). e.seat < n) (entries_of number xs)
entries_within n number below [] = tt
entries_within n number below ((c, Ok reply) ∷ xs) = (below, entries_within n number below xs)
entries_within n number below ((c, Err e) ∷ xs) = entries_within n number below xs

pub same_item : (cs ds : SlotState) → ◌≡◌ {A = Option SlotState} (Some cs) (Some ds) → cs ≡ ds
same_item cs ds is = cc

-- what a client was sent stays in each longer part of the history
pub stays_released : (history : List Entry) (covered count number : ℕ) (before : List Exchange) (c : ClientState) → IsDurable history covered number before c → covered ≤ count
    → (c.released.exchanges ≡ []) ⊎ ((rest : List Entry) × (part_of number (take count history) ≡ entries_of number (before ++ c.released.exchanges) ++ rest))
stays_released history covered count number before c (inl none) le = inl none
stays_released history covered count number before c (inr (n, most, is)) le =
    let first = take count history in
    inr (
      part_of number (drop n first),
      ap (part_of number) (sym (take-append-drop n first)) ∙ part-append number (take n first) (drop n first)
          ∙ ap (λ (l : List Entry). l ++ part_of number (drop n first))
          (ap (part_of number) (take-take n count history (omega (arith, most, le))) ∙ is),
    )
