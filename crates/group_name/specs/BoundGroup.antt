-- The group of a bound name in a repository. GitHub Docs, "Control the concurrency of workflows and jobs".
use Rattle.std.specs.Prelude.{◌≡◌, ◌≤◌, ℕ, List, [], ◌∷◌, length, max, sum_by, Option, None, Some, chars, map, encode_utf8_all, refl}
use Rattle.std.specs.Coded.{Coded, code_by, coded_ℕ, coded_list, coded×}
use Rattle.std.specs.List.{AllByRecursion}
use Rattle.std.specs.Str.{IsUtf8}
use Rattle.wf_expr.specs.Bound.{Results, bound_text}
use Rattle.wf_expr.specs.declared.bound.BoundPiece.{BoundPiece}
use Rattle.group_name.specs.Group.{Group, folded_name}

-- the bytes of a repository, and the pieces of a bound name with case-folded texts
pub record BoundName : Type 0 where
  pub repository : List ℕ
  pub pieces : List BoundPiece

-- a piece is encoded as its needs and its text, and a bound name as its repository and its pieces
abbrev pub coded_piece : Coded BoundPiece
coded_piece = code_by (List ℕ × List ℕ) (coded× (coded_list coded_ℕ) (coded_list coded_ℕ))
    (λ p. (p.needs, p.otherwise)) (λ t. record { needs = t.0; otherwise = t.1 }) (λ _. refl)

abbrev pub coded_name : Coded BoundName
coded_name = code_by (List ℕ × List BoundPiece) (coded× (coded_list coded_ℕ) (coded_list coded_piece))
    (λ n. (n.repository, n.pieces)) (λ t. record { repository = t.0; pieces = t.1 }) (λ _. refl)

-- the text of each piece is UTF-8
abbrev pub AreTexts : List BoundPiece → Type 0
AreTexts = AllByRecursion (λ piece. IsUtf8 piece.otherwise)

-- the bytes of the case-folded text
abbrev pub folded_text : List ℕ → List ℕ
folded_text text = encode_utf8_all (folded_name text)

-- a piece with case-folded text; the words of results are case-folded already
abbrev pub folded_piece : BoundPiece → BoundPiece
folded_piece piece = record { needs = piece.needs; otherwise = folded_text piece.otherwise }

abbrev pub bound_group : List ℕ → List BoundPiece → BoundName
bound_group repository pieces = record { repository = repository; pieces = map folded_piece pieces }

-- the group of a case-folded text; None for the empty text
abbrev pub group_of_folded : List ℕ → List ℕ → Option Group
group_of_folded repository [] = None
group_of_folded repository (b ∷ bs) = Some (record { repository = repository; folded = chars (b ∷ bs) })

-- the group of a bound name, given the results
abbrev pub group_at : Results → BoundName → Option Group
group_at results name = group_of_folded name.repository (bound_text results name.pieces)

-- ---- memory for a name

-- the most bytes that a piece gives, whatever the results: no word of a result is longer than `cancelled`
abbrev pub most_bytes_of : BoundPiece → ℕ
most_bytes_of piece = max (length piece.otherwise) 9

abbrev pub most_bytes : List BoundPiece → ℕ
most_bytes pieces = sum_by most_bytes_of pieces

-- memory for a key: the bytes of its repository, and how many bytes of a name it has room for
pub record Room : Type 0 where
  pub repository : List ℕ
  pub capacity : ℕ

abbrev pub coded_room : Coded Room
coded_room = code_by (List ℕ × ℕ) (coded× (coded_list coded_ℕ) coded_ℕ)
    (λ r. (r.repository, r.capacity)) (λ t. record { repository = t.0; capacity = t.1 }) (λ _. refl)

-- it is for each key that the name gives
pub record HasRoomFor (name : BoundName) (room : Room) : Type 0 where
  pub repository : room.repository ≡ name.repository
  pub capacity : most_bytes name.pieces ≤ room.capacity
