use Rattle.std.proofs.Common.{ℕ, List, subst}
use Rattle.std.specs.Bool.{IsTrue}
use Rattle.std.specs.Str.{is_utf8}
use Rattle.std.proofs.lemmas.Str.{is_utf8-from_IsUtf8}
use Rattle.command_encodings.specs.Commands.{number}
use Rattle.encoding_laws.proofs.tables.WorkflowCountFits.fits.Goals as goal

pub returns : goal.returns
returns c =
    let repo = subst (λ (t : List ℕ). IsTrue (is_utf8 t)) c.repo-repo.ensures.repo
    (is_utf8-from_IsUtf8 c.repo-repo.result.now c.repo-repo.utf8) in
    let path = subst (λ (t : List ℕ). IsTrue (is_utf8 t)) c.path-path.ensures.path
    (is_utf8-from_IsUtf8 c.path-path.result.now c.path-path.utf8) in (
      (c.repo-repo.ensures.most, repo),
      ((c.path-path.ensures.most, path), subst number.Takes c.runs.ensures c.number_fits.ensures),
    )
