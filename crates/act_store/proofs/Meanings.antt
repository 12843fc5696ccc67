-- The table that an area recovers to, with one more body.
use Rattle.std.proofs.Common.{ℕ, List, [], ◌∷◌, ◌++◌, sym, ◌∙◌, ap, subst}
use Rattle.std.proofs.lemmas.List.{map-append, append-nil}
use Rattle.std.proofs.lemmas.List.Concat.{flat_map-append}
use Rattle.std.specs.List.{AllByRecursion, flat_map}
use Rattle.definitions.specs.Area.{Head}
use Rattle.run_plan.specs.declared.command.Command.{Command}
use Rattle.table_model.specs.Step.{after}
use Rattle.table_model.specs.TableState.{TableState}
use Rattle.table_laws.proofs.LeasesStay.{after_both}
use Rattle.command_encodings.specs.Commands.{batch}
use Rattle.act_store.specs.Layouts.{batch_format}
use Rattle.act_store.specs.Images.{EncodeCommands, MeansTable}
use Rattle.act_store.specs.declared.layout.Layout.{Layout}
use Rattle.act_store.proofs.InLayout.{same_encoding}

pub all_push : {X : Type 0} (P : X → Type 0) (xs : List X) (x : X) → AllByRecursion P xs → P x → AllByRecursion P (xs ++ x ∷ [])
all_push P [] x all here = (here, tt)
all_push P (y ∷ xs) x all here = (all.0, all_push P xs x all.1 here)

pub encode_more : (layout : Layout) (bodies : List (List ℕ)) (commands more : List Command) → (batch_format layout).Takes more
    → EncodeCommands layout bodies commands → EncodeCommands layout (bodies ++ (batch_format layout).encoding more ∷ []) (commands ++ more)
encode_more layout bodies commands more takes encoded = record {
  batches = encoded.batches ++ more ∷ [];
  takes = all_push (batch_format layout).Takes encoded.batches more encoded.takes takes;
  encoded = ap (λ (l : List (List ℕ)). l ++ (batch_format layout).encoding more ∷ []) encoded.encoded
      ∙ sym (map-append (batch_format layout).encoding encoded.batches (more ∷ []));
  commands_are = ap (λ (l : List Command). l ++ more) encoded.commands_are
      ∙ ap (λ (l : List Command). flat_map (λ b. b) encoded.batches ++ l) (sym (append-nil more))
      ∙ sym (flat_map-append (λ b. b) encoded.batches (more ∷ []));
}

-- the commands of one more body are carried out, if the layout has them
pub means_more : (head : Head) (bodies : List (List ℕ)) (table : TableState) (more : List Command) (means : MeansTable head bodies table)
    → (batch_format means.layout).Takes more → MeansTable head (bodies ++ batch.encoding more ∷ []) (after table more)
means_more head bodies table more means takes = record {
  layout = means.layout;
  layout_is = means.layout_is;
  first = means.first;
  text = means.text;
  commands = means.commands ++ more;
  batched = subst (λ (b : List ℕ). EncodeCommands means.layout (bodies ++ b ∷ []) (means.commands ++ more)) (same_encoding means.layout more)
      (encode_more means.layout bodies means.commands more takes means.batched);
  table_is = after_both means.first means.commands more ∙ ap (λ (t : TableState). after t more) means.table_is;
}
