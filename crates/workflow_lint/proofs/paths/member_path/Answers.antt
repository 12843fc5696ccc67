use Rattle.std.proofs.Common.{◌≡◌, ◌++◌, ℕ, List, true, false, if◌then◌else◌, ap, sym, ◌∙◌, append_assoc, codes, string_bytes}
use Rattle.std.proofs.lemmas.Result.{IfOk-weaker}
use Rattle.json.specs.Print.{quoted}
use Rattle.workflow_lint.specs.Paths.{dotted, is_plain_name, member_path}
use Rattle.workflow_lint.proofs.paths.member_path.Goals as goal

plain : (path name dot text : List ℕ) → true ≡ is_plain_name name → path ++ dot ≡ dotted path → text ≡ path ++ (dot ++ name)
    → text ≡ member_path path name
plain path name dot text is dots text_is =
    text_is ∙ sym (append_assoc path dot name) ∙ ap (λ l. l ++ name) dots
    ∙ ap (λ b. if b then dotted path ++ name else path ++ codes "[" ++ quoted name ++ codes "]") is

pub returns-then-is_plain_name : goal.returns-then-is_plain_name
returns-then-is_plain_name c =
    IfOk-weaker c.format.result _ _ (λ s e. plain c.args.path.now c.args.name.now c.dot-dot.result.now (string_bytes s)
    c.if-is_plain_name.ensures c.dot-dot.ensures e) c.format.ensures.ok

in_brackets : (path name inner text : List ℕ) → false ≡ is_plain_name name → inner ≡ quoted name
    → text ≡ path ++ (codes "[" ++ (inner ++ codes "]")) → text ≡ member_path path name
in_brackets path name inner text is same text_is =
    text_is ∙ ap (λ q. path ++ (codes "[" ++ (q ++ codes "]"))) same
    ∙ sym (append_assoc path (codes "[") (quoted name ++ codes "]")) ∙ sym (append_assoc (path ++ codes "[") (quoted name) (codes "]"))
    ∙ ap (λ b. if b then dotted path ++ name else path ++ codes "[" ++ quoted name ++ codes "]") is

pub returns : goal.returns
returns c =
    IfOk-weaker c.format-2.result _ _ (λ s e. in_brackets c.args.path.now c.args.name.now (string_bytes c.in_ok-name.name) (string_bytes s)
    c.if-is_plain_name.ensures c.in_ok-name.ensures e) c.format-2.ensures.ok
