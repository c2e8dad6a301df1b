-- What a layout is, to contracts: the limits and the parts that it was made from.
use Rattle.std.specs.Prelude.{ℕ, List}
use Rattle.word_layout.specs.declared.limits.Limits.{Limits}
use Rattle.word_layout.specs.declared.layout.Layout.{Layout}
use Rattle.word_layout.specs.Shape.{Shape, shape}

-- the limits that a layout was made from
abbrev pub limits_of : Layout → Limits
limits_of layout = layout.limits

-- the bounds that cut its keys into parts
abbrev pub bounds_of : Layout → List ℕ
bounds_of layout = layout.parts

-- the shape of its table, which settles all its addresses
abbrev pub shape_of : Layout → Shape
shape_of layout = shape (limits_of layout) (bounds_of layout)
