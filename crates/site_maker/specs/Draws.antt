-- Draws of the generator: a linear congruence modulo 2^64, of whose states the upper 31 bits are used.
use Rattle.std.specs.Prelude.{ℕ, zero, suc, ◌+◌, ◌*◌, ◌/◌, ◌%◌, ◌^◌, ℤ, pos, ◌-ℤ◌, ◌+ℤ◌, List, [], ◌∷◌}
use Rattle.site_maker.specs.declared.rectangle.Rectangle.{Rectangle}

-- what is drawn from a state, with the state after it
abbrev pub Drawing : Type 0 → Type 0
Drawing A = ℕ → A × ℕ

-- nothing is drawn
abbrev pub gives : {A : Type 0} → A → Drawing A
gives x state = (x, state)

-- one drawing, and then the next one
infixl 10 ◌>>=◌
abbrev pub ◌>>=◌ : {A B : Type 0} → Drawing A → (A → Drawing B) → Drawing B
(first >>= next) state = let drawn = first state in next drawn.0 drawn.1

-- the state after a draw
unfoldable pub next_state : ℕ → ℕ
next_state state = (state * 6364136223846793005 + 1442695040888963407) % 2 ^ 64

-- a number below `many`
abbrev pub draw : ℕ → Drawing ℕ
draw many state = (next_state state / 2 ^ 33 % many, next_state state)

-- one of so many numbers in a row, of which this is the least
abbrev pub draw_from : ℕ → ℕ → Drawing ℕ
draw_from least many = do
  n ← draw many
  gives (least + n)

-- a coordinate in the plan, in mm
abbrev pub place : Drawing ℤ
place = do
  n ← draw 800000
  gives (pos n -ℤ pos 400000)

-- a rectangle in the plan, of which width and depth are drawn alike
abbrev pub rectangle : ℕ → ℕ → Drawing Rectangle
rectangle least many = do
  x ← place
  y ← place
  width ← draw_from least many
  depth ← draw_from least many
  gives (record { left = x; bottom = y; right = x +ℤ pos width; top = y +ℤ pos depth })

-- as many drawings of the same
abbrev pub times : {A : Type 0} → ℕ → Drawing A → Drawing (List A)
times zero one = gives []
times (suc more) one = do
  x ← one
  xs ← times more one
  gives (x ∷ xs)
