-- Once all entries are covered, each image of the disk recovers to the table after all of them.
use Rattle.std.proofs.Common.{◌≡◌, ◌∙◌, ℕ, ◌≤◌, List, length, sym, ap, subst, arith}
use Rattle.std.proofs.lemmas.List.{take_all}
use Rattle.table_model.specs.TableState.{TableState}
use Rattle.act_store.specs.Entries.{table_after}
use Rattle.act_store.specs.Images.{RecoversTo}
use Rattle.act_store.specs.StoreState.{table_of}
use Rattle.act_store.specs.declared.entry.Entry.{Entry}
use Rattle.client_loop.specs.Conversation.{Conversation}
use Rattle.client_loop.specs.Looking.{IsSeen}
use Rattle.client_loop.specs.Service.{IsPromised, ServiceState, covered_of, history_of}
use Rattle.client_loop.proofs.Machine.{table-append}

pub seen_of : {D : Type 0} (p : ℕ → Conversation → Type 0) (honest : D → Type 0) (images : D → List ℕ → Type 0) (s : ServiceState D)
    → s.store.base ≡ table_after s.origin s.past → IsPromised p honest images s → length (history_of s) ≤ covered_of s
    → (t : TableState) → t ≡ table_of s.store → IsSeen honest images s t
seen_of p honest images s base promised all t is =
    let whole : t ≡ table_after s.origin (history_of s) =
    is ∙ ap (λ (b : TableState). table_after b s.store.history) base ∙ sym (table-append s.origin s.past s.store.history) in
    let within = promised.within in
    record {
      covered = omega (arith, all, within);
      table_is = whole;
      stays = λ is_honest image left.
          let r = promised.recovers is_honest image left in
          let from = r.from in
          subst (λ (o : TableState). RecoversTo o image)
          (ap (λ (l : List Entry). table_after s.origin l) (take_all r.count (history_of s) (omega (arith, all, from))) ∙ sym whole) r.recovers;
    }
