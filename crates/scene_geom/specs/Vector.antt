-- Vectors of the plan, with whole components.
use Rattle.std.specs.Prelude.{ℤ, ◌+ℤ◌, ◌-ℤ◌, ◌*ℤ◌, neg_ℤ}

pub record Vector : Type 0 where
  pub x : ℤ
  pub y : ℤ

-- the cross product: positive where v turns left from u
abbrev pub cross : Vector → Vector → ℤ
cross u v = u.x *ℤ v.y -ℤ u.y *ℤ v.x

-- the dot product
abbrev pub dot : Vector → Vector → ℤ
dot u v = u.x *ℤ v.x +ℤ u.y *ℤ v.y

-- a vector as many times as long, and the difference of two
abbrev pub scaled : ℤ → Vector → Vector
scaled k v = record { x = k *ℤ v.x; y = k *ℤ v.y }

abbrev pub minus : Vector → Vector → Vector
minus u v = record { x = u.x -ℤ v.x; y = u.y -ℤ v.y }

-- a vector turned left by a right angle
abbrev pub turned_left : Vector → Vector
turned_left v = record { x = neg_ℤ v.y; y = v.x }
