-- What is asked of a side by numbers that are kept of it.
use Rattle.std.specs.Prelude.{◌≡◌, ℕ, ℤ, pos, neg_ℤ, ◌+ℤ◌, ◌*ℤ◌, ◌≤◌, unsigned_abs, Bool, true, ◌&&◌, if◌then◌else◌, int_le, int_lt, List}
use Rattle.scene_geom.specs.declared.plan.Pt.{Pt}
use Rattle.scene_geom.specs.Outline.{area2_of}
use Rattle.scene_geom.specs.declared.plan.Side.{Side}
use Rattle.scene_geom.specs.Point.{along, orient_of}
use Rattle.scene_parts.specs.declared.kinds.Shape.{Shape}
use Rattle.scene_parts.specs.declared.kinds.Shape.TheVariants.{Barrier, Building}

-- An obstacle has its outside on these hands of its sides: a barrier on both, a building on that on which its area
-- isn't
abbrev pub is_outside_left : Shape → List Pt → Bool
is_outside_left Barrier corners = true
is_outside_left Building corners = int_lt (area2_of corners) (pos 0)

abbrev pub is_outside_right : Shape → List Pt → Bool
is_outside_right Barrier corners = true
is_outside_right Building corners = int_lt (pos 0) (area2_of corners)

-- what lies off the line of a side by this is in front of it, where these hands of it are outside
abbrev pub is_in_front : ℤ → Bool → Bool → Bool
is_in_front off left right = if int_lt (pos 0) off then left else (int_lt off (pos 0) && right)

-- the specular point lies strictly between the ends of a side: how far source and receiver lie along it, how far they
-- are off its line, and how far its end lies along it, all times its length
abbrev pub strikes_by : ℤ → ℤ → ℤ → ℤ → ℤ → Bool
strikes_by source before receiver behind end =
    int_lt (pos 0) (source *ℤ behind +ℤ receiver *ℤ before)
    && int_lt (source *ℤ behind +ℤ receiver *ℤ before) (end *ℤ (before +ℤ behind))

-- how far along a side's direction a point lies from the origin, times the side's length. No point of the plan has a
-- reach beyond 64,000,000,000,000
abbrev pub reach : Side → Pt → ℤ
reach side p = p.x *ℤ (along side).x +ℤ p.y *ℤ (along side).y

-- Where the receiver lies before the start of a side, sources before it are passed, and where it lies behind the end,
-- those behind it. So the sources that aren't passed have reaches from one number on, and below another one
abbrev pub least_reach : ℤ → ℤ → ℤ
least_reach start receiver = if int_le receiver start then (start +ℤ pos 1) else neg_ℤ (pos 64000000000000)

abbrev pub reach_end : ℤ → ℤ → ℤ
reach_end end receiver = if int_le end receiver then end else pos 64000000000001

-- a reach is one of so many, from a first one on
abbrev pub is_among : ℤ → ℤ → ℕ → Bool
is_among place first count = int_le first place && int_lt place (first +ℤ pos count)

-- of a side and a place: the side's step, the reaches of the sources that the side doesn't pass, and how far the place
-- is off its line
pub record IsPlaced (side : Side) (at : Pt) (dx dy first : ℤ) (count : ℕ) (off : ℤ) : Type 0 where
  pub across : dx ≡ (along side).x
  pub upward : dy ≡ (along side).y
  pub begins : first ≡ least_reach (reach side side.from) (reach side at)
  pub ends : first +ℤ pos count ≡ reach_end (reach side side.to) (reach side at)
  pub off_line : off ≡ orient_of side.from side.to at
  pub off_within : unsigned_abs off ≤ 128000000000000
