-- Nothing is found where none is there.
use Rattle.std.specs.Prelude.{◌≡◌, false, is_some, Option, Some, None, refl}

pub nothing_yet : {X : Type 0} (o : Option X) → is_some o ≡ false → o ≡ None
nothing_yet None none = refl
nothing_yet (Some x) none = cc
