-- What is read from the head of a request: RFC 9112, sections 3 and 5.
use Rattle.std.specs.Prelude.{ℕ, List, map, refl}
use Rattle.std.specs.Coded.{Coded, code_by, coded_ℕ, coded_list, coded×}
use Rattle.http1.specs.Fields.{Header}
use Rattle.httparse.specs.Grammar.{RequestHead}
use Rattle.httparse.specs.Spans.{name_and_value}

-- the method, the target, the minor version of HTTP/1, and the fields with their names and values
pub record Heading : Type 0 where
  pub method : List ℕ
  pub target : List ℕ
  pub minor : ℕ
  pub fields : List Header

abbrev pub heading_of : RequestHead → Heading
heading_of h = record { method = h.method; target = h.target; minor = h.minor; fields = map name_and_value h.fields }

abbrev pub coded_bytes : Coded (List ℕ)
coded_bytes = coded_list coded_ℕ

abbrev pub coded_heading : Coded Heading
coded_heading =
    code_by (List ℕ × (List ℕ × (ℕ × List Header))) (coded× coded_bytes (coded× coded_bytes (coded× coded_ℕ (coded_list (coded× coded_bytes coded_bytes)))))
    (λ h. (h.method, (h.target, (h.minor, h.fields))))
    (λ p. record { method = p.0; target = p.1.0; minor = p.1.1.0; fields = p.1.1.1 }) (λ _. refl)
