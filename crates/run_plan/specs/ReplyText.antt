-- The printed replies.
use Rattle.std.specs.Prelude.{ℕ, List, [], ◌∷◌, ◌++◌, length, Bool, true, false, codes}
use Rattle.std.specs.Fmt.{decimal}
use Rattle.serde_json.specs.Data.{Data, null, boolean, number, string, object, Members, no_members, member}
use Rattle.serde_json.specs.Find.{of_integer}
use Rattle.serde_json.specs.Written.{compact_text}
use Rattle.wf_value.specs.declared.scalar.Scalar.{Scalar}
use Rattle.wf_value.specs.declared.scalar.Scalar.TheVariants.{Null, Truth, Whole, Text}
use Rattle.wf_value.specs.declared.refusal.Refusal.TheVariants.{Numbered, Cycle, Turn}
use Rattle.wf_value.specs.RefusalText.{refusal_text}
use Rattle.run_plan.specs.declared.reply.Lease.{Lease as Leased}
use Rattle.run_plan.specs.declared.reply.Reply.{Reply}
use Rattle.run_plan.specs.declared.reply.Reply.TheVariants as reply

-- a scalar as a JSON value; RFC 8259, section 3
abbrev pub scalar_json : Scalar → Data
scalar_json Null = null
scalar_json (Truth b) = boolean b
scalar_json (Whole n) = number (of_integer n)
scalar_json (Text t) = string t

abbrev pub pairs_json : List (List ℕ × Scalar) → Members
pairs_json [] = no_members
pairs_json (p ∷ ps) = member p.0 (scalar_json p.1) (pairs_json ps)

-- a combination as compact JSON: an object (RFC 8259, section 4) with its members in byte order of their names
abbrev pub combo_text : List (List ℕ × Scalar) → List ℕ
combo_text combo = compact_text (object (pairs_json combo))

-- `lease`, the lease, the run, the job's id, the leg's index and the combination
abbrev pub lease_line : ℕ → ℕ → List ℕ → ℕ → List ℕ → List ℕ
lease_line lease run job leg combo =
    codes "lease " ++ decimal lease ++ codes " " ++ decimal run ++ codes " " ++ job ++ codes " " ++ decimal leg ++ codes " " ++ combo

abbrev pub lease_text : Leased → List ℕ
lease_text l = lease_line l.lease l.run l.job l.leg (combo_text l.combo)

-- `body`, the number of bytes, a line feed, and the bytes
abbrev pub body_lines : List ℕ → List ℕ
body_lines body = codes "body " ++ decimal (length body) ++ 10 ∷ body

-- `again`, the run and its current attempt
abbrev pub again_line : ℕ → ℕ → List ℕ
again_line run attempt = codes "again " ++ decimal run ++ codes " " ++ decimal attempt

abbrev pub reply_text : Reply → List ℕ
reply_text (reply.Created run) = codes "created " ++ decimal run
reply_text (reply.Lease l) = lease_text l
reply_text reply.Nothing = codes "nothing"
reply_text reply.Ok = codes "ok"
reply_text reply.Stop = codes "stop"
reply_text reply.GoOn = codes "go on"
reply_text (reply.Run view) = view
reply_text (reply.Body body) = body_lines body
reply_text (reply.Again a) = again_line a.run a.attempt
reply_text (reply.Forgotten last) = codes "forgotten " ++ decimal last
reply_text (reply.Refused r) = refusal_text r

-- whether a copy takes memory: only texts do
abbrev pub carries_text : Reply → Bool
carries_text (reply.Created run) = false
carries_text (reply.Lease l) = true
carries_text reply.Nothing = false
carries_text reply.Ok = false
carries_text reply.Stop = false
carries_text reply.GoOn = false
carries_text (reply.Run view) = true
carries_text (reply.Body body) = true
carries_text (reply.Again a) = false
carries_text (reply.Forgotten last) = false
carries_text (reply.Refused (Numbered code)) = false
carries_text (reply.Refused (Cycle ids)) = true
carries_text (reply.Refused (Turn last)) = false
