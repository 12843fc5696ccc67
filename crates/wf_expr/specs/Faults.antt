-- The refusals of a template.
use Rattle.wf_value.specs.declared.code.Code.TheVariants.{Expression, PlaceOfContext}
use Rattle.wf_value.specs.declared.refusal.Refusal.{Refusal}
use Rattle.wf_value.specs.declared.refusal.Refusal.TheVariants.{Numbered}

-- 17
abbrev pub wrong_expression : Refusal
wrong_expression = Numbered Expression

-- 18
abbrev pub wrong_place : Refusal
wrong_place = Numbered PlaceOfContext
