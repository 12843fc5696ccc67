-- What the code finds at the start of some bytes is a request of the definition.
use Rattle.std.proofs.Common.{◌≡◌, ◌≤◌, ◌∙◌, List, ◌++◌, ℕ, length, take, refl, ap, subst, inl, inr, append_assoc, arith}
use Rattle.std.specs.Prelude.{false, min}
use Rattle.httparse.specs.Grammar.{HasNoRequest, ReadsRequest}
use Rattle.httparse.specs.Spans.{RequestOverflows}
use Rattle.view_sessions.specs.Requests.{ViewReads, unread}
use Rattle.view_sessions.specs.declared.fault.ViewFault.TheVariants.{BadRequest}

pub bad_where_long : (bytes prefix : List ℕ) → prefix ≡ take (min (length bytes) 8192) bytes → 8192 ≤ length bytes → HasNoRequest prefix
    → ViewReads bytes (unread BadRequest false) bytes
bad_where_long bytes prefix e long none =
    let same : min (length bytes) 8192 ≡ 8192 = omega arith in
    inl (inr (long, subst HasNoRequest (e ∙ ap (λ n. take n bytes) same) none), refl, refl)

pub bad_for_good : (bytes prefix rest : List ℕ) → bytes ≡ prefix ++ rest → RequestOverflows 64 prefix → ViewReads bytes (unread BadRequest false) bytes
bad_for_good bytes prefix rest e never =
    inl (inl (λ more h left reads. never (rest ++ more) h left (subst (λ b. ReadsRequest b h left) (ap (λ b. b ++ more) e ∙ append_assoc prefix rest more) reads)), refl, refl)
