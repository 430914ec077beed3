-- The unit in which every end of an interval is counted.
use Rattle.std.specs.Prelude.{◌≡◌, ℕ, ◌^◌}
use Rattle.std.proofs.Common.{refl}

-- how many units make 1: the end n stands for n / 2^32
unfoldable pub unit : ℕ
unit = 2 ^ 32

pub unit-is : unit ≡ 2 ^ 32
unfolding unit
unit-is = refl
