-- The text of a template and the result of parsing it.
use Rattle.std.proofs.Common.{◌≡◌, ℕ, List, [], ap}
use Rattle.std.specs.Prelude.{Option, Some, None, Ok}
use Rattle.std.specs.Str.{chars}
use Rattle.wf_expr.specs.inner.Parsing.{needed, pieces_of}
use Rattle.wf_expr.specs.Profile.{Encodes, IsInProfile}
use Rattle.wf_expr.specs.declared.piece.Piece.{Piece}
use Rattle.wf_expr.proofs.Complete.{pieces-read}
use Rattle.wf_expr.proofs.Sound.{read-spells}

pub spelled-read : (text : List ℕ) (t : List Piece) → Encodes text t → needed (pieces_of text) ≡ Ok t
spelled-read text t h = ap needed (pieces-read [] (chars text) t h.grammar)

pub needed-ok : {X : Type 0} (o : Option X) (x : X) → needed o ≡ Ok x → o ≡ Some x
needed-ok None x e = cc
needed-ok (Some y) x e = cc

pub read-spelled : (text : List ℕ) (t : List Piece) → needed (pieces_of text) ≡ Ok t → IsInProfile t → Encodes text t
read-spelled text t h p = record { grammar = read-spells (chars text) t (needed-ok (pieces_of text) t h); profile = p }

pub one-template : (text : List ℕ) (t u : List Piece) → Encodes text t → Encodes text u → t ≡ u
one-template text t u h k =
    let p = spelled-read text t h in
    let q = spelled-read text u k in
    cc
