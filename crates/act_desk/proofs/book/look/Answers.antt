use Rattle.std.proofs.Common.{sym, ◌∙◌, ap}
use Rattle.act_desk.proofs.Moving.{look_moves}
use Rattle.act_desk.proofs.book.look.Goals as goal

pub compare_exchange-requires : goal.compare_exchange-requires
compare_exchange-requires c =
    let h = c.requires.word in
    let offer = c.plain-offer.ensures in (
      ap (λ w. w.tracked) h,
      sym (ap (λ w. w.book) h),
      c.requires.token.0 ∙ sym (ap (λ w. w.book) h),
      offer.0,
      rw (ap (λ w. w.key) h, offer.3) (look_moves c.args.seen.now.log c.plain-offer.result.ask c.args.token.now.nib c.requires.token.1),
    )
