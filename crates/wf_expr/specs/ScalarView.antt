-- The scalar that a view shows.
use Rattle.wf_value.specs.declared.scalar.Scalar.{Scalar}
use Rattle.wf_value.specs.declared.scalar.Scalar.TheVariants as scalar
use Rattle.wf_expr.specs.declared.scalar_view.ScalarView.{ScalarView}
use Rattle.wf_expr.specs.declared.scalar_view.ScalarView.TheVariants.{Null, Truth, Whole, Text}

abbrev pub shown : ScalarView → Scalar
shown Null = scalar.Null
shown (Truth truth) = scalar.Truth truth
shown (Whole whole) = scalar.Whole whole
shown (Text text) = scalar.Text text.now
