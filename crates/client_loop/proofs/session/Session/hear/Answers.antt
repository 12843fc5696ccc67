use Rattle.std.proofs.Common.{[], refl, subst, sym, take, append-nil, true, false}
use Rattle.client_loop.specs.Hearing.{Hears}
use Rattle.client_loop.specs.Conversation.{Conversation}
use Rattle.client_loop.specs.inner.Turns.{Moment}
use Rattle.client_loop.specs.declared.pause.Pause.TheVariants as pause
use Rattle.client_loop.proofs.HeldPieces.{at_more, at_over, at_starved, at_unanswered, at_waiting, full_of, hears_after}
use Rattle.client_loop.proofs.session.Session.hear.Goals as goal

pub invariant_of-self : goal.invariant_of-self
invariant_of-self g c =
    let s = c.self.inside in
    let old : Conversation = record { received = s.received; requests = s.count; exchanges = s.exchanges; sent = s.sent; withheld = s.out.items; more = s.more; over = s.over; parted = s.farewell } in
    let begin : Moment g.row.D.Denot = record { store = c.args.store.now; exchanges = s.exchanges; out = s.out.items } in
    let t = c.take_piece-pause.new in
    let end : Moment g.row.D.Denot = record { store = t.store; exchanges = t.exchanges; out = t.out.items } in
    let piece = take c.args.n c.args.bytes.now.items in
    at_waiting g.P.Protocol.rules g.met.P.Protocol.steady c.args.number old s.held piece s.cut c.self.invariant
    c.if-self.false begin end refl refl c.add.new.self c.add.ensures t.count t.held s.over c.if-self.false c.in-Waits.ensures

pub invariant_of-self-in-More : goal.invariant_of-self-in-More
invariant_of-self-in-More g c =
    let s = c.self.inside in
    let old : Conversation = record { received = s.received; requests = s.count; exchanges = s.exchanges; sent = s.sent; withheld = s.out.items; more = s.more; over = s.over; parted = s.farewell } in
    let begin : Moment g.row.D.Denot = record { store = c.args.store.now; exchanges = s.exchanges; out = s.out.items } in
    let t = c.take_piece-pause.new in
    let end : Moment g.row.D.Denot = record { store = t.store; exchanges = t.exchanges; out = t.out.items } in
    let piece = take c.args.n c.args.bytes.now.items in
    at_more g.P.Protocol.rules g.met.P.Protocol.steady c.args.number old s.held piece s.cut c.self.invariant
    c.if-self.false begin end refl refl c.add.new.self c.add.ensures t.count t.held s.over c.if-self.false c.in-More.ensures

pub invariant_of-self-in-Over : goal.invariant_of-self-in-Over
invariant_of-self-in-Over g c =
    let s = c.self.inside in
    let old : Conversation = record { received = s.received; requests = s.count; exchanges = s.exchanges; sent = s.sent; withheld = s.out.items; more = s.more; over = s.over; parted = s.farewell } in
    let begin : Moment g.row.D.Denot = record { store = c.args.store.now; exchanges = s.exchanges; out = s.out.items } in
    let t = c.take_piece-pause.new in
    let end : Moment g.row.D.Denot = record { store = t.store; exchanges = t.exchanges; out = t.out.items } in
    let piece = take c.args.n c.args.bytes.now.items in
    at_over g.P.Protocol.rules g.met.P.Protocol.steady c.args.number old s.held piece s.cut c.self.invariant
    c.if-self.false begin end refl refl c.add.new.self c.add.ensures t.count t.held s.more c.in-Over.ensures

pub invariant_of-self-in-Unanswered : goal.invariant_of-self-in-Unanswered
invariant_of-self-in-Unanswered g c =
    let s = c.self.inside in
    let old : Conversation = record { received = s.received; requests = s.count; exchanges = s.exchanges; sent = s.sent; withheld = s.out.items; more = s.more; over = s.over; parted = s.farewell } in
    let begin : Moment g.row.D.Denot = record { store = c.args.store.now; exchanges = s.exchanges; out = s.out.items } in
    let t = c.take_piece-pause.new in
    let end : Moment g.row.D.Denot = record { store = t.store; exchanges = t.exchanges; out = t.out.items } in
    let piece = take c.args.n c.args.bytes.now.items in
    at_unanswered g.P.Protocol.rules g.met.P.Protocol.steady c.args.number old s.held piece s.cut c.self.invariant
    c.if-self.false begin end refl refl c.add.new.self c.add.ensures t.count t.held s.more c.in-Unanswered.ensures

pub invariant_of-self-in-Memory : goal.invariant_of-self-in-Memory
invariant_of-self-in-Memory g c =
    let s = c.self.inside in
    let old : Conversation = record { received = s.received; requests = s.count; exchanges = s.exchanges; sent = s.sent; withheld = s.out.items; more = s.more; over = s.over; parted = s.farewell } in
    let begin : Moment g.row.D.Denot = record { store = c.args.store.now; exchanges = s.exchanges; out = s.out.items } in
    let t = c.take_piece-pause.new in
    let end : Moment g.row.D.Denot = record { store = t.store; exchanges = t.exchanges; out = t.out.items } in
    let piece = take c.args.n c.args.bytes.now.items in
    at_starved g.P.Protocol.rules g.met.P.Protocol.steady c.args.number old s.held piece s.cut c.self.invariant
    c.if-self.false begin end refl refl c.add.new.self c.add.ensures t.count t.held s.more c.append_last_text.ensures.0 c.append_last_text.new.out.items
    c.append_last_text.ensures.1 c.append_last_text.ensures.2 c.in-Memory.ensures

pub returns-in-Waits-clause-follows : goal.returns-in-Waits-clause-follows
returns-in-Waits-clause-follows g c =
    let s = c.self.inside in
    let old : Conversation = record { received = s.received; requests = s.count; exchanges = s.exchanges; sent = s.sent; withheld = s.out.items; more = s.more; over = s.over; parted = s.farewell } in
    let begin : Moment g.row.D.Denot = record { store = c.args.store.now; exchanges = s.exchanges; out = s.out.items } in
    let t = c.take_piece-pause.new in
    let end : Moment g.row.D.Denot = record { store = t.store; exchanges = t.exchanges; out = t.out.items } in
    let piece = take c.args.n c.args.bytes.now.items in
    (at_waiting g.P.Protocol.rules g.met.P.Protocol.steady c.args.number old s.held piece s.cut c.self.invariant
    c.if-self.false begin end refl refl c.add.new.self c.add.ensures t.count t.held s.over c.if-self.false c.in-Waits.ensures).follows

pub returns-in-More-clause-follows : goal.returns-in-More-clause-follows
returns-in-More-clause-follows g c =
    let s = c.self.inside in
    let old : Conversation = record { received = s.received; requests = s.count; exchanges = s.exchanges; sent = s.sent; withheld = s.out.items; more = s.more; over = s.over; parted = s.farewell } in
    let begin : Moment g.row.D.Denot = record { store = c.args.store.now; exchanges = s.exchanges; out = s.out.items } in
    let t = c.take_piece-pause.new in
    let end : Moment g.row.D.Denot = record { store = t.store; exchanges = t.exchanges; out = t.out.items } in
    let piece = take c.args.n c.args.bytes.now.items in
    (at_more g.P.Protocol.rules g.met.P.Protocol.steady c.args.number old s.held piece s.cut c.self.invariant
    c.if-self.false begin end refl refl c.add.new.self c.add.ensures t.count t.held s.over c.if-self.false c.in-More.ensures).follows

pub returns-in-Over-clause-follows : goal.returns-in-Over-clause-follows
returns-in-Over-clause-follows g c =
    let s = c.self.inside in
    let old : Conversation = record { received = s.received; requests = s.count; exchanges = s.exchanges; sent = s.sent; withheld = s.out.items; more = s.more; over = s.over; parted = s.farewell } in
    let begin : Moment g.row.D.Denot = record { store = c.args.store.now; exchanges = s.exchanges; out = s.out.items } in
    let t = c.take_piece-pause.new in
    let end : Moment g.row.D.Denot = record { store = t.store; exchanges = t.exchanges; out = t.out.items } in
    let piece = take c.args.n c.args.bytes.now.items in
    (at_over g.P.Protocol.rules g.met.P.Protocol.steady c.args.number old s.held piece s.cut c.self.invariant
    c.if-self.false begin end refl refl c.add.new.self c.add.ensures t.count t.held s.more c.in-Over.ensures).follows

pub returns-in-Unanswered-clause-follows : goal.returns-in-Unanswered-clause-follows
returns-in-Unanswered-clause-follows g c =
    let s = c.self.inside in
    let old : Conversation = record { received = s.received; requests = s.count; exchanges = s.exchanges; sent = s.sent; withheld = s.out.items; more = s.more; over = s.over; parted = s.farewell } in
    let begin : Moment g.row.D.Denot = record { store = c.args.store.now; exchanges = s.exchanges; out = s.out.items } in
    let t = c.take_piece-pause.new in
    let end : Moment g.row.D.Denot = record { store = t.store; exchanges = t.exchanges; out = t.out.items } in
    let piece = take c.args.n c.args.bytes.now.items in
    (at_unanswered g.P.Protocol.rules g.met.P.Protocol.steady c.args.number old s.held piece s.cut c.self.invariant
    c.if-self.false begin end refl refl c.add.new.self c.add.ensures t.count t.held s.more c.in-Unanswered.ensures).follows

pub returns-in-Memory-clause-follows : goal.returns-in-Memory-clause-follows
returns-in-Memory-clause-follows g c =
    let s = c.self.inside in
    let old : Conversation = record { received = s.received; requests = s.count; exchanges = s.exchanges; sent = s.sent; withheld = s.out.items; more = s.more; over = s.over; parted = s.farewell } in
    let begin : Moment g.row.D.Denot = record { store = c.args.store.now; exchanges = s.exchanges; out = s.out.items } in
    let t = c.take_piece-pause.new in
    let end : Moment g.row.D.Denot = record { store = t.store; exchanges = t.exchanges; out = t.out.items } in
    let piece = take c.args.n c.args.bytes.now.items in
    (at_starved g.P.Protocol.rules g.met.P.Protocol.steady c.args.number old s.held piece s.cut c.self.invariant
    c.if-self.false begin end refl refl c.add.new.self c.add.ensures t.count t.held s.more c.append_last_text.ensures.0 c.append_last_text.new.out.items
    c.append_last_text.ensures.1 c.append_last_text.ensures.2 c.in-Memory.ensures).follows

pub returns-in-Waits-clause-heard : goal.returns-in-Waits-clause-heard
returns-in-Waits-clause-heard g c = λ live.
    let s = c.self.inside in
    let old : Conversation = record { received = s.received; requests = s.count; exchanges = s.exchanges; sent = s.sent; withheld = s.out.items; more = s.more; over = s.over; parted = s.farewell } in
    let begin : Moment g.row.D.Denot = record { store = c.args.store.now; exchanges = s.exchanges; out = s.out.items } in
    let t = c.take_piece-pause.new in
    let end : Moment g.row.D.Denot = record { store = t.store; exchanges = t.exchanges; out = t.out.items } in
    let piece = take c.args.n c.args.bytes.now.items in
    let new : Conversation = record { received = c.add.new.self; requests = t.count; exchanges = t.exchanges; sent = s.sent; withheld = t.out.items; more = false; over = s.over; parted = s.farewell } in
    subst (λ (o : Conversation). Hears c.args.number piece c.args.store.now o t.store new) c.self.view_is
    (hears_after g.P.Protocol.rules g.met.P.Protocol.steady c.args.number old s.held piece s.cut c.self.invariant
    c.if-self.false begin end refl refl c.add.new.self c.add.ensures t.count t.held false s.over [] t.out.items (sym (append-nil t.out.items))
    (λ still more. cc) pause.Waits c.in-Waits.ensures)

pub returns-in-More-clause-heard : goal.returns-in-More-clause-heard
returns-in-More-clause-heard g c = λ live.
    let s = c.self.inside in
    let old : Conversation = record { received = s.received; requests = s.count; exchanges = s.exchanges; sent = s.sent; withheld = s.out.items; more = s.more; over = s.over; parted = s.farewell } in
    let begin : Moment g.row.D.Denot = record { store = c.args.store.now; exchanges = s.exchanges; out = s.out.items } in
    let t = c.take_piece-pause.new in
    let end : Moment g.row.D.Denot = record { store = t.store; exchanges = t.exchanges; out = t.out.items } in
    let piece = take c.args.n c.args.bytes.now.items in
    let new : Conversation = record { received = c.add.new.self; requests = t.count; exchanges = t.exchanges; sent = s.sent; withheld = t.out.items; more = true; over = s.over; parted = s.farewell } in
    subst (λ (o : Conversation). Hears c.args.number piece c.args.store.now o t.store new) c.self.view_is
    (hears_after g.P.Protocol.rules g.met.P.Protocol.steady c.args.number old s.held piece s.cut c.self.invariant
    c.if-self.false begin end refl refl c.add.new.self c.add.ensures t.count t.held true s.over [] t.out.items (sym (append-nil t.out.items))
    (λ still more. full_of g.P.Protocol.rules g.met.P.Protocol.steady c.args.number old s.held piece s.cut c.self.invariant
    c.if-self.false begin end refl refl c.add.new.self c.add.ensures t.count t.held c.in-More.ensures) pause.More c.in-More.ensures)

pub returns-in-Over-clause-heard : goal.returns-in-Over-clause-heard
returns-in-Over-clause-heard g c = λ live.
    let s = c.self.inside in
    let old : Conversation = record { received = s.received; requests = s.count; exchanges = s.exchanges; sent = s.sent; withheld = s.out.items; more = s.more; over = s.over; parted = s.farewell } in
    let begin : Moment g.row.D.Denot = record { store = c.args.store.now; exchanges = s.exchanges; out = s.out.items } in
    let t = c.take_piece-pause.new in
    let end : Moment g.row.D.Denot = record { store = t.store; exchanges = t.exchanges; out = t.out.items } in
    let piece = take c.args.n c.args.bytes.now.items in
    let new : Conversation = record { received = c.add.new.self; requests = t.count; exchanges = t.exchanges; sent = s.sent; withheld = t.out.items; more = s.more; over = true; parted = s.farewell } in
    subst (λ (o : Conversation). Hears c.args.number piece c.args.store.now o t.store new) c.self.view_is
    (hears_after g.P.Protocol.rules g.met.P.Protocol.steady c.args.number old s.held piece s.cut c.self.invariant
    c.if-self.false begin end refl refl c.add.new.self c.add.ensures t.count t.held s.more true [] t.out.items (sym (append-nil t.out.items))
    (λ still more. cc) pause.Over c.in-Over.ensures)

pub returns-in-Unanswered-clause-heard : goal.returns-in-Unanswered-clause-heard
returns-in-Unanswered-clause-heard g c = λ live.
    let s = c.self.inside in
    let old : Conversation = record { received = s.received; requests = s.count; exchanges = s.exchanges; sent = s.sent; withheld = s.out.items; more = s.more; over = s.over; parted = s.farewell } in
    let begin : Moment g.row.D.Denot = record { store = c.args.store.now; exchanges = s.exchanges; out = s.out.items } in
    let t = c.take_piece-pause.new in
    let end : Moment g.row.D.Denot = record { store = t.store; exchanges = t.exchanges; out = t.out.items } in
    let piece = take c.args.n c.args.bytes.now.items in
    let new : Conversation = record { received = c.add.new.self; requests = t.count; exchanges = t.exchanges; sent = s.sent; withheld = t.out.items; more = s.more; over = true; parted = s.farewell } in
    subst (λ (o : Conversation). Hears c.args.number piece c.args.store.now o t.store new) c.self.view_is
    (hears_after g.P.Protocol.rules g.met.P.Protocol.steady c.args.number old s.held piece s.cut c.self.invariant
    c.if-self.false begin end refl refl c.add.new.self c.add.ensures t.count t.held s.more true [] t.out.items (sym (append-nil t.out.items))
    (λ still more. cc) pause.Unanswered c.in-Unanswered.ensures)

pub returns-in-Memory-clause-heard : goal.returns-in-Memory-clause-heard
returns-in-Memory-clause-heard g c = λ live.
    let s = c.self.inside in
    let old : Conversation = record { received = s.received; requests = s.count; exchanges = s.exchanges; sent = s.sent; withheld = s.out.items; more = s.more; over = s.over; parted = s.farewell } in
    let begin : Moment g.row.D.Denot = record { store = c.args.store.now; exchanges = s.exchanges; out = s.out.items } in
    let t = c.take_piece-pause.new in
    let end : Moment g.row.D.Denot = record { store = t.store; exchanges = t.exchanges; out = t.out.items } in
    let piece = take c.args.n c.args.bytes.now.items in
    let new : Conversation = record { received = c.add.new.self; requests = t.count; exchanges = t.exchanges; sent = s.sent; withheld = c.append_last_text.new.out.items; more = s.more; over = true; parted = s.farewell } in
    subst (λ (o : Conversation). Hears c.args.number piece c.args.store.now o t.store new) c.self.view_is
    (hears_after g.P.Protocol.rules g.met.P.Protocol.steady c.args.number old s.held piece s.cut c.self.invariant
    c.if-self.false begin end refl refl c.add.new.self c.add.ensures t.count t.held s.more true c.append_last_text.ensures.0 c.append_last_text.new.out.items c.append_last_text.ensures.2
    (λ still more. cc) pause.Memory c.in-Memory.ensures)
