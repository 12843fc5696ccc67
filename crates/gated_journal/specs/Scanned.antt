-- What some bytes begin with, and what a scan of an area returns.
use Rattle.std.specs.Prelude.{◌≡◌, ℕ, ◌<◌, ◌^◌, List, ◌∷◌, ◌++◌, length}
use Rattle.std.specs.List.{AllByRecursion}
use Rattle.std.specs.Int.{to_be_bytes, w64}
use Rattle.definitions.specs.Area.{Head, head_bytes, framed, record_bytes, opened, Reads}

-- the bytes are a length-prefixed body, then `rest`
pub record Frames (bytes body rest : List ℕ) : Type 0 where
  pub split : bytes ≡ framed body ++ rest
  pub short : length body < 2 ^ 32

-- the bytes are an open record with this body, then `rest`
pub record OpensWith (bytes body rest : List ℕ) : Type 0 where
  pub split : bytes ≡ 0xA5 ∷ framed body ++ rest
  pub short : length body < 2 ^ 32

-- the bytes are open records with these bodies, then `rest`
pub record Parts (bytes : List ℕ) (bodies : List (List ℕ)) (rest : List ℕ) : Type 0 where
  pub split : bytes ≡ record_bytes bodies ++ rest
  pub short : AllByRecursion (λ body. length body < 2 ^ 32) bodies

-- the bytes are an encoded number, then `rest`
pub record HasNumber (bytes : List ℕ) (number : ℕ) (rest : List ℕ) : Type 0 where
  pub split : bytes ≡ to_be_bytes w64 number ++ rest
  pub fits : number < 2 ^ 64

-- the bytes are a length-prefixed text, then `rest`
pub record HasText (bytes text rest : List ℕ) : Type 0 where
  pub split : bytes ≡ to_be_bytes w64 (length text) ++ text ++ rest
  pub fits : length text < 2 ^ 64

-- the bytes are an encoded head, then `rest`
pub record HasHead (bytes : List ℕ) (head : Head) (rest : List ℕ) : Type 0 where
  pub split : bytes ≡ head_bytes head ++ rest
  pub generation : head.generation < 2 ^ 64
  pub text : length head.text < 2 ^ 64

-- the bytes are an open gate and an encoded head, then `rest`
pub record HasPrefix (area : List ℕ) (head : Head) (rest : List ℕ) : Type 0 where
  pub suffix : List ℕ
  pub split : area ≡ 0xA5 ∷ suffix
  pub headed : HasHead suffix head rest

-- the result of a scan: the head, the records in a row, and the offset of the first closed gate
pub record IsScanned (area : List ℕ) (head : Head) (records : List ℕ) (gate : ℕ) : Type 0 where
  pub bodies : List (List ℕ)
  pub reads : Reads area head bodies
  pub records_are : records ≡ record_bytes bodies
  pub gate_is : gate ≡ length (opened head bodies)
